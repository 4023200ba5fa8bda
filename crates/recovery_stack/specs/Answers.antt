-- The result of an event.
use Rattle.std.specs.Prelude.{◌≡◌, ℕ, ◌<◌, Bool, List, length, map, Option, None, Some, IsSome, Vec, ◌⊎◌}
use Rattle.std.specs.Global.{Global}
use Rattle.std.specs.declared.net.socket_addr.SocketAddr.{SocketAddr}
use Rattle.recovery_base.specs.declared.below.ids.IssuedCid.{IssuedCid}
use Rattle.recovery_events.specs.declared.event.Event.TheVariants.{IssueIds, NewPath}
use Rattle.recovery_history.specs.History as History
use Rattle.recovery_stack.specs.Codes.{issued_of, IsSocketAddress}
use Rattle.recovery_engine.specs.Kept.{EventOutcome, ItemEvent, AcceptsEvent}
use Rattle.recovery_stack.specs.declared.codes.Address.{Address}
use Rattle.recovery_stack.specs.declared.codes.Id.{Id}
use Rattle.recovery_stack.specs.declared.stack.Stack.{Stack}
use Rattle.recovery_engine.specs.declared.spelling.EncodedReply.{EncodedReply}
use Rattle.recovery_engine.specs.Replies.{encoded, bad_argument, decided, no_memory, no_recovery, taken_after, token_after}

-- the promises of the event and its reply, by the recovery or by its sender, for every past; and the encoding of that
-- reply
pub record EventReply (old : Stack) (event : ItemEvent) (spelling : EncodedReply) (new : Stack) : Type 0 where
  pub reply : History.Reply (List ℕ)
  pub comes : EventOutcome old.kept event reply new.kept
  pub spells : spelling ≡ encoded reply
  pub taken : new.taken ≡ taken_after reply old.taken
  pub token : new.token ≡ token_after reply old.token

-- a bare recovery applies each event; one of a sender rejects an event that only the sender itself makes, and nothing
-- changes
abbrev pub AppliesOrRejects : Stack → ItemEvent → EncodedReply → Stack → Type 0
AppliesOrRejects old event spelling new = (AcceptsEvent old.kept event × EventReply old event spelling new)
    ⊎ ((¬ AcceptsEvent old.kept event) × (spelling ≡ decided) × (new ≡ old))

-- a recovery with this event is held from then on
pub record AppliesToHeld (was : Stack) (event : ItemEvent) (spelling : EncodedReply) (new : Option Stack) : Type 0 where
  pub is : Stack
  pub holds : new ≡ Some is
  pub lets : AppliesOrRejects was event spelling is

-- the handle applies the event; if it holds none, the call fails
abbrev pub HandleApplies : Option Stack → ItemEvent → EncodedReply → Option Stack → Type 0
HandleApplies None event spelling new = (spelling ≡ no_recovery) × (new ≡ None)
HandleApplies (Some was) event spelling new = AppliesToHeld was event spelling new

-- a call with an argument out of range fails, and nothing changes
abbrev pub IsBadArgument : Option Stack → EncodedReply → Option Stack → Type 0
IsBadArgument old spelling new = (spelling ≡ bad_argument) × (new ≡ old)

-- the event of an argument's value, if the argument is valid
abbrev pub HandleAppliesTo : {C : Type 0} → Option C → (C → ItemEvent) → Option Stack → EncodedReply → Option Stack
    → Type 0
HandleAppliesTo None event old spelling new = IsBadArgument old spelling new
HandleAppliesTo (Some named) event old spelling new = HandleApplies old (event named) spelling new

-- there was no memory for the arguments, and nothing changed; an empty list needs none
abbrev pub HadNoMemory : {X : Type 0} → List X → Option Stack → EncodedReply → Option Stack → Type 0
HadNoMemory given old spelling new = (0 < length given) × (spelling ≡ no_memory) × (new ≡ old)

-- an event with items, for which allocation may fail
abbrev pub AnswersWith : List ℕ → {C : Type 0} → Option C → (C → ItemEvent) → Option Stack → EncodedReply → Option Stack
    → Type 0
AnswersWith items named event old spelling new =
    HandleAppliesTo named event old spelling new ⊎ (IsSome named × HadNoMemory items old spelling new)

-- the given IDs are issued
pub record Issues (old : Option Stack) (now : ℕ) (given : List Id) (spelling : EncodedReply)
    (new : Option Stack) : Type 0
  where
    pub ids : Vec IssuedCid Global
    pub issued : ids.items ≡ map issued_of given
    pub answers : HandleApplies old (IssueIds now ids) spelling new

-- IDs are issued, or there was no memory for the arguments
abbrev pub IssuesIdsOrNoMemory : Option Stack → ℕ → List Id → EncodedReply → Option Stack → Type 0
IssuesIdsOrNoMemory old now given spelling new = Issues old now given spelling new ⊎ HadNoMemory given old spelling new

-- another path is used, to the given address
pub record MovesTo (old : Option Stack) (now : ℕ) (given : Address) (fresh : Bool) (spelling : EncodedReply)
    (new : Option Stack) : Type 0 where
  pub remote : SocketAddr
  pub there : IsSocketAddress given remote
  pub answers : HandleApplies old (NewPath now remote fresh) spelling new

-- a reading of the held value, or the empty value if none is held; the handle is unchanged
abbrev pub ReadsHandle : {T : Type 0} → Option T → Option T → (T → Type 0) → Type 0 → Type 0
ReadsHandle None new Says Nothing = (new ≡ None) × Nothing
ReadsHandle (Some value) new Says Nothing = (new ≡ Some value) × Says value
