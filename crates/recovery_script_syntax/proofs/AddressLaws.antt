-- Two addresses of the peer with the same port are one. `LineLaws` rest on it.
use Rattle.std.proofs.Common.{◌≡◌, ℕ, arith}
use Rattle.std.specs.declared.net.socket_addr.SocketAddr.{SocketAddr}
use Rattle.std.specs.declared.net.socket_addr.SocketAddr.TheVariants.{V4}
use Rattle.recovery_script_syntax.specs.Lines.{IsDocumentationAddress}

pub one_address : (port : ℕ) (a b : SocketAddr) → IsDocumentationAddress port a → IsDocumentationAddress port b → a ≡ b
one_address port (V4 a) (V4 b) at also = grind (arith, at, also)
one_address port a b at also = absurd cc
