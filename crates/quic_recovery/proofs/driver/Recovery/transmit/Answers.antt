use Rattle.std.proofs.Common.{◌≡◌, ap}
use denote.Struct.Props.{props}
use Rattle.quic_recovery.proofs.driver.Recovery.transmit.Goals as goal

-- two proofs of a proposition are equal
one : {A : Type 0} → IsProp A → (x y : A) → x ≡ y
one only x y = only x y

-- if nothing was changed, the recovery is equal to the old one, with the same proofs of its ghost fields
pub same-self-then-anti_amplification_blocked : goal.same-self-then-anti_amplification_blocked
same-self-then-anti_amplification_blocked g c = ap (λ given. (c.self.inside.0, given)) (one (hlevel props) _ _)
