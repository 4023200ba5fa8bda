-- Numbers that are assigned, and the skips after them. `SendLaws` and the call `send` rest on it.
use Rattle.std.proofs.lemmas.Bool.Decides.{nat_tests}
use Rattle.std.proofs.Common.{◌≡◌, ℕ, ◌≤◌, refl, arith}
use Rattle.recovery_base.specs.declared.below.SpaceId.{SpaceId}
use Rattle.recovery_base.specs.declared.below.SpaceId.TheVariants.{Data}
use Rattle.recovery_spaces.specs.Packets.{Packet}
use Rattle.recovery_spaces.specs.SpaceLog.{sends}
use Rattle.recovery_spaces.specs.Spaces.{Spaces, space_of, next_number_of}
use Rattle.recovery_packet_numbers.specs.Filters.{Filter, SkipState}
use Rattle.recovery_history.specs.Entries.{here}
use Rattle.recovery_history.specs.ReplyInputs.{number_in}
use Rattle.recovery_history.specs.Numbers.{number_behind, skipping_behind}
use Rattle.recovery_history.specs.RecoveryState.{RecoveryState}
use Rattle.recovery_history.specs.Transitions.{SkippingStep, inputs_of}

-- no number is assigned twice
pub number_above : (filter : Filter) (space : SpaceId) (n : ℕ) → n ≤ number_behind filter space n
number_above filter Data n = grind (arith, nat_tests)
number_above filter space n = omega arith

-- the next number is that of the inputs
pub number_known : {K P M : Type 0} (state : RecoveryState K P M) (space : SpaceId)
    → number_behind state.skipping.filter space (next_number_of (space_of space state.spaces))
    ≡ number_in (inputs_of state) space
number_known state Data = refl
number_known state space = refl

-- a number is assigned: of 1-RTT packets, the skips continue after it
pub number_skips : {P M : Type 0} (spaces : Spaces P M) (space : SpaceId) (number : ℕ) (packet : Packet P M)
    (old new : SkipState)
    → number ≡ number_behind old.filter space (next_number_of (space_of space spaces))
    → new ≡ skipping_behind space (next_number_of (space_of space spaces)) old
    → SkippingStep (here space Data (sends number packet)) (next_number_of (space_of Data spaces)) old new
number_skips spaces Data number packet old new is then = (is, then)
number_skips spaces space number packet old new is then = then
