-- The calls of a sender, on a handle.
use Rattle.std.specs.Prelude.{◌≡◌, ℕ, Bool, List, [], Option, None, Some, Result, Ok, Err, option_map, option_and_then, if◌then◌else◌}
use Rattle.recovery_base.specs.declared.below.SpaceId.{SpaceId}
use Rattle.recovery_base.specs.Units.{largest_u64}
use Rattle.recovery_losses.specs.declared.frames.Ack.{Ack}
use Rattle.recovery_engine.specs.Replies.{no_recovery, plain}
use Rattle.recovery_engine.specs.Sending.{ProbeUnlessNoSender, UnlessNoSender}
use Rattle.recovery_engine.specs.declared.numbers.TheConstants.{ANSWER_QUEUE}
use Rattle.recovery_engine.specs.declared.sending.AckRange.{AckRange}
use Rattle.recovery_engine.specs.declared.sending.AckRoom.{AckRoom}
use Rattle.recovery_engine.specs.declared.sending.Call.{Call}
use Rattle.recovery_engine.specs.declared.sending.Call.TheVariants.{TakeAck}
use Rattle.recovery_engine.specs.declared.sending.TakenAck.{TakenAck}
use Rattle.recovery_engine.specs.declared.spelling.EncodedReply.{EncodedReply}
use Rattle.recovery_stack.specs.Answers.{IsBadArgument}
use Rattle.recovery_stack.specs.Codes.{counts, space_coded, span}
use Rattle.recovery_stack.specs.declared.sender.AckFrame.{AckFrame}
use Rattle.recovery_stack.specs.declared.stack.Stack.{Stack}

pub record AsksStack (call : Call) (given : List AckRange) (was : Stack) (spelling : EncodedReply)
    (is : Stack) : Type 0 where
  pub comes : UnlessNoSender call given was.kept spelling is.kept
  pub taken : is.taken ≡ was.taken
  pub token : is.token ≡ was.token

pub record HandsOn (was : Stack) (call : Call) (given : List AckRange) (spelling : EncodedReply)
    (new : Option Stack) : Type 0
  where
    pub is : Stack
    pub holds : new ≡ Some is
    pub asks : AsksStack call given was spelling is

-- if the handle holds none, the call fails
abbrev pub AsksWith : Option Stack → Call → List AckRange → EncodedReply → Option Stack → Type 0
AsksWith None call given spelling new = (spelling ≡ no_recovery) × (new ≡ None)
AsksWith (Some was) call given spelling new = HandsOn was call given spelling new

-- a call other than an ACK frame
abbrev pub CallsSender : Option Stack → Call → EncodedReply → Option Stack → Type 0
CallsSender old call spelling new = AsksWith old call [] spelling new

-- the call of an argument's value, if the argument is valid
abbrev pub CallsSenderTo : {C : Type 0} → Option C → (C → Call) → Option Stack → EncodedReply → Option Stack → Type 0
CallsSenderTo None call old spelling new = IsBadArgument old spelling new
CallsSenderTo (Some named) call old spelling new = CallsSender old (call named) spelling new

-- ---- a probe

abbrev pub probe_spelled : Result (List ℕ) EncodedReply → EncodedReply
probe_spelled (Ok queue) = plain ANSWER_QUEUE
probe_spelled (Err refusal) = refusal

-- the queue that was taken last is then the contents of the probe
abbrev pub probe_taken : Result (List ℕ) EncodedReply → List ℕ → List ℕ
probe_taken (Ok queue) taken = queue
probe_taken (Err refusal) taken = taken

pub record ProbesStack (space : SpaceId) (immediate : Bool) (was : Stack) (spelling : EncodedReply)
    (is : Stack) : Type 0 where
  pub given : Result (List ℕ) EncodedReply
  pub comes : ProbeUnlessNoSender space immediate was.kept given is.kept
  pub spells : spelling ≡ probe_spelled given
  pub taken : is.taken ≡ probe_taken given was.taken
  pub token : is.token ≡ was.token

pub record ProbesHeld (was : Stack) (space : SpaceId) (immediate : Bool) (spelling : EncodedReply)
    (new : Option Stack) : Type 0
  where
    pub is : Stack
    pub holds : new ≡ Some is
    pub probes : ProbesStack space immediate was spelling is

-- if the handle holds none, the call fails
abbrev pub ProbesHandle : Option Stack → SpaceId → Bool → EncodedReply → Option Stack → Type 0
ProbesHandle None space immediate spelling new = (spelling ≡ no_recovery) × (new ≡ None)
ProbesHandle (Some was) space immediate spelling new = ProbesHeld was space immediate spelling new

-- in the space with a number, if there is one
abbrev pub ProbesIn : Option SpaceId → Bool → Option Stack → EncodedReply → Option Stack → Type 0
ProbesIn None immediate old spelling new = IsBadArgument old spelling new
ProbesIn (Some space) immediate old spelling new = ProbesHandle old space immediate spelling new

-- ---- an ACK frame as given

abbrev pub ack_with : AckFrame → ℕ → Ack
ack_with frame delay = record {
  delay = delay;
  ecn = (if frame.has_ecn then Some (counts frame.ect0 frame.ect1 frame.ce) else None);
  app_limited = frame.app_limited;
  received = (if frame.has_received then Some frame.received else None);
}

-- the delay has less than 10^9 nanoseconds
abbrev pub ack_given : AckFrame → Option Ack
ack_given frame = option_map (ack_with frame) (span frame.delay_secs frame.delay_nanos)

-- the room that the caller has for the outcome: room for all, if it does not limit it
abbrev pub room_given : AckFrame → AckRoom
room_given frame = if frame.is_limited then record { packets = frame.packets_room; lost = frame.lost_room }
    else record { packets = largest_u64; lost = largest_u64 }

abbrev pub frame_with : AckFrame → ℕ → SpaceId → Ack → TakenAck
frame_with frame now space ack = record { space = space; now = now; ack = ack; room = room_given frame }

-- the space exists too
abbrev pub frame_given : ℕ → ℕ → AckFrame → Option TakenAck
frame_given space now frame =
    option_and_then (λ space. option_map (frame_with frame now space) (ack_given frame)) (space_coded space)

abbrev pub AsksAck : Option TakenAck → List AckRange → Option Stack → EncodedReply → Option Stack → Type 0
AsksAck None given old spelling new = IsBadArgument old spelling new
AsksAck (Some frame) given old spelling new = AsksWith old (TakeAck frame) given spelling new
