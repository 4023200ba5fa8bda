-- The recovery is made as the settings request.
use Rattle.std.proofs.Common.{◌≡◌, ℕ, Bool, true, false, List, Option, subst}
use Rattle.std.specs.declared.net.socket_addr.SocketAddr.{SocketAddr}
use Rattle.recovery_engine.specs.declared.controllers.ChosenConfig.{ChosenConfig}
use Rattle.rand_core.specs.Stream.{Stream}
use Rattle.recovery_history.specs.declared.config.RecoveryConfig.{RecoveryConfig}
use Rattle.recovery_engine.specs.declared.kept.Form.{Form}
use Rattle.recovery_stack.specs.Codes.{IsSocketAddress}
use Rattle.recovery_stack.specs.declared.codes.Address.{Address}
use Rattle.recovery_stack.specs.declared.settings.Settings.{Settings}
use Rattle.recovery_stack.specs.declared.stack.Stack.{Stack}
use Rattle.recovery_stack.specs.Held.{HoldsIf}
use Rattle.recovery_stack.specs.Made.{IsNewHandle, MadeOrNoMemory}
use Rattle.recovery_stack.specs.Settings.{config_of, words_of}

pub made_or : (form : Form) (made : Bool) (settings : Settings) (given : Address) (cid : List ℕ) (now : ℕ)
    (stack : Stack) (held : Option Stack) (remote : SocketAddr) (config : RecoveryConfig ChosenConfig) (moment : ℕ)
    (words : Stream)
    → IsSocketAddress given remote → config ≡ config_of settings cid remote → moment ≡ now → words
    ≡ words_of settings.seed
    → IsNewHandle form config moment words stack → HoldsIf made stack held
    → MadeOrNoMemory form made settings given cid now held
made_or form false settings given cid now stack held remote config moment words there e f g fresh holds = holds
made_or form true settings given cid now stack held remote config moment words there e f g fresh holds = record {
  stack = stack;
  remote = remote;
  there = there;
  held = holds;
  fresh = subst (λ w. IsNewHandle form (config_of settings cid remote) now w stack) g
      (subst (λ m. IsNewHandle form (config_of settings cid remote) m words stack) f
      (subst (λ c. IsNewHandle form c moment words stack) e fresh));
}
