-- What holds for a handle follows from what holds for the stack in it.
use Rattle.std.proofs.Common.{◌≡◌, Bool, List, Option, Some, subst, sym}
use Rattle.recovery_paths.specs.PathStates.{PathMarks}
use Rattle.recovery_paths.specs.declared.path_pair.PathName.{PathName}
use Rattle.recovery_stack.specs.Answers.{HandleApplies, AppliesOrRejects}
use Rattle.recovery_engine.specs.Kept.{sends, AcceptsEvent, ItemEvent, PassesEvent}
use Rattle.recovery_engine.specs.declared.kept.Engine.{Engine}
use Rattle.recovery_engine.specs.declared.kept.Engine.TheVariants.{Alone, Sends}
use Rattle.recovery_engine.specs.declared.kept.ItemPacket.{ItemPacket}
use Rattle.recovery_stack.specs.Marks.{MarksStack, SetsMarks}
use Rattle.recovery_base.specs.declared.below.SpaceId.{SpaceId}
use Rattle.recovery_stack.specs.SenderCalls.{AsksStack, AsksWith, ProbesHandle, ProbesStack}
use Rattle.recovery_engine.specs.declared.sending.AckRange.{AckRange}
use Rattle.recovery_engine.specs.declared.sending.Call.{Call}
use Rattle.recovery_engine.specs.declared.spelling.EncodedReply.{EncodedReply}
use Rattle.recovery_stack.specs.declared.stack.Stack.{Stack}

pub answers_held : {event : ItemEvent} {spelling : EncodedReply} {old new : Option Stack} (was is : Stack) → old
    ≡ Some was
    → new ≡ Some is → AppliesOrRejects was event spelling is → HandleApplies old event spelling new
answers_held {event} {spelling} {old} {new} was is held holds lets =
    subst (λ (o : Option Stack). HandleApplies o event spelling new) (sym held)
    (record { is = is; holds = holds; lets = lets })

-- the engine accepts what its sender passes
pub passed_accepted : (kept : Engine) (event : ItemEvent) → PassesEvent kept event → AcceptsEvent kept event
passed_accepted (Alone recovery) event passes = tt
passed_accepted (Sends sending) event passes = passes

-- it accepts a packet that is sent
pub send_accepted : (kept : Engine) (packet : ItemPacket) → AcceptsEvent kept (sends packet)
send_accepted (Alone recovery) packet = tt
send_accepted (Sends sending) packet = tt

pub asks_held : {call : Call} {given : List AckRange} {spelling : EncodedReply} {old new : Option Stack}
    (was is : Stack)
    → old ≡ Some was → new ≡ Some is → AsksStack call given was spelling is → AsksWith old call given spelling new
asks_held {call} {given} {spelling} {old} {new} was is held holds asks =
    subst (λ (o : Option Stack). AsksWith o call given spelling new) (sym held)
    (record { is = is; holds = holds; asks = asks })

pub probes_held : {space : SpaceId} {immediate : Bool} {spelling : EncodedReply} {old new : Option Stack}
    (was is : Stack)
    → old ≡ Some was → new ≡ Some is → ProbesStack space immediate was spelling is
    → ProbesHandle old space immediate spelling new
probes_held {space} {immediate} {spelling} {old} {new} was is held holds probes =
    subst (λ (o : Option Stack). ProbesHandle o space immediate spelling new) (sym held)
    (record { is = is; holds = holds; probes = probes })

pub marks_held : {name : PathName} {marks : PathMarks} {is_set : Bool} {given : Option PathMarks}
    {old new : Option Stack} (was is : Stack) → given ≡ Some marks → old ≡ Some was → new ≡ Some is
    → MarksStack name marks is_set was is → SetsMarks name given is_set old new
marks_held {name} {marks} {is_set} {given} {old} {new} was is gives held holds changes =
    subst (λ (g : Option PathMarks). SetsMarks name g is_set old new) (sym gives)
    (subst (λ (o : Option Stack). SetsMarks name (Some marks) is_set o new) (sym held)
    (record { is = is; holds = holds; changes = changes }))
