-- The result of making a recovery.
use Rattle.std.specs.Prelude.{◌≡◌, ◌≢◌, ◌⊎◌, ℕ, Bool, true, false, List, [], length, replicate, Option, Some, None, if◌then◌else◌, nat_lt}
use Rattle.std.specs.declared.net.socket_addr.SocketAddr.{SocketAddr}
use Rattle.recovery_engine.specs.declared.controllers.ChosenConfig.{ChosenConfig}
use Rattle.rand_core.specs.Stream.{Stream}
use Rattle.recovery_base.specs.Ids.{longest_cid, reset_token_size}
use Rattle.recovery_history.specs.declared.config.RecoveryConfig.{RecoveryConfig}
use Rattle.recovery_stack.specs.Codes.{IsSocketAddress}
use Rattle.recovery_engine.specs.Kept.{IsFresh}
use Rattle.recovery_engine.specs.declared.kept.Form.{Form}
use Rattle.recovery_stack.specs.declared.codes.Address.{Address}
use Rattle.recovery_engine.specs.declared.numbers.TheConstants.{NEW_CID_TOO_LONG, NEW_HELD, NEW_MADE, NEW_NO_MEMORY}
use Rattle.recovery_stack.specs.declared.settings.Settings.{Settings}
use Rattle.recovery_stack.specs.declared.stack.Stack.{Stack}
use Rattle.recovery_stack.specs.Settings.{config_of, settings_fault, words_of}

-- a recovery of this form without any event; no queue was taken, and no token returned
pub record IsNewHandle (form : Form) (config : RecoveryConfig ChosenConfig) (now : ℕ) (words : Stream)
    (stack : Stack)
    : Type 0 where
  pub came : IsFresh form config now words stack.kept
  pub taken : stack.taken ≡ []
  pub token : stack.token ≡ replicate reset_token_size 0

pub record Made (form : Form) (settings : Settings) (given : Address) (cid : List ℕ) (now : ℕ)
    (in_handle : Option Stack) : Type 0 where
  pub stack : Stack
  pub remote : SocketAddr
  pub there : IsSocketAddress given remote
  pub held : in_handle ≡ Some stack
  pub fresh : IsNewHandle form (config_of settings cid remote) now (words_of settings.seed) stack

-- this recovery is held, or there was no memory, and none is
abbrev pub MadeOrNoMemory : Form → Bool → Settings → Address → List ℕ → ℕ → Option Stack → Type 0
MadeOrNoMemory form true settings given cid now held = Made form settings given cid now held
MadeOrNoMemory form false settings given cid now held = held ≡ None

-- the first error in the arguments, starting with the peer's connection ID; `NEW_MADE` if there is none
abbrev pub new_fault : Settings → List ℕ → ℕ
new_fault settings cid = if nat_lt longest_cid (length cid) then NEW_CID_TOO_LONG else settings_fault settings

-- the arguments are valid, and a recovery is held, or there was no memory; or the error is returned, and none is held
abbrev pub NewReply : Form → ℕ → Settings → Address → List ℕ → ℕ → Option Stack → Type 0
NewReply form code settings given cid now new =
    ((new_fault settings cid ≡ NEW_MADE) × (code ≡ NEW_MADE) × Made form settings given cid now new)
    ⊎ ((new_fault settings cid ≡ NEW_MADE) × (code ≡ NEW_NO_MEMORY) × (new ≡ None))
    ⊎ ((new_fault settings cid ≢ NEW_MADE) × (code ≡ new_fault settings cid) × (new ≡ None))

-- the result for a handle that holds none; one that holds a recovery is unchanged
abbrev pub NewOr : Form → ℕ → Settings → Address → List ℕ → ℕ → Option Stack → Option Stack → Type 0
NewOr form code settings given cid now None new = NewReply form code settings given cid now new
NewOr form code settings given cid now (Some stack) new = (code ≡ NEW_HELD) × (new ≡ Some stack)
