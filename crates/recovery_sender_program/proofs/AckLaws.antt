-- The words of an ACK frame: `ack` rests on it.
use Rattle.std.proofs.Common.{◌≡◌, ℕ, ◌<◌, Bool, List, [], ◌∷◌, ◌++◌, length, Option, Some, None, Vec, sym, ap, ◌∙◌, arith}
use lib.Chars.{codes}
use Rattle.recovery_base.specs.declared.below.SpaceId.{SpaceId}
use Rattle.recovery_base.specs.declared.below.frames.EcnCounts.{EcnCounts}
use Rattle.recovery_script_syntax.specs.Fields.{words_for, AllFitFieldTypes, no_tail}
use Rattle.recovery_sender.specs.declared.calls.Frame.{Frame}
use Rattle.recovery_sender_program.specs.CallLines.{SaysAck, ack_fields, ack_values}
use Rattle.recovery_sender_program.specs.CallReading.{front_made, front_read, ranges_read}
use Rattle.recovery_script_syntax.proofs.FormLaws.{all_is, fields_front}
use Rattle.recovery_sender_program.proofs.CallLaws.{fields_behind}
use Rattle.recovery_sender_program.proofs.RangeLaws.{ranges_again, ranges_take}

module _ (words : List (List ℕ)) where
  -- what an encoded frame is read as
  front_again : (frame : Frame) (says : SaysAck (codes "ack" ∷ words) frame)
      → front_read words ≡ Some ((frame.space, frame.now, frame.ack.delay, frame.ack.app_limited), says.behind)
  front_again frame says =
      let is : words ≡ words_for no_tail ack_fields (ack_values frame) ++ says.behind = grind (arith, says.are) in
      rw is (all_is no_tail ack_fields _ _ ∙ fields_behind ack_fields front_made (ack_values frame)
      says.behind says.fit)

  pub no_front : front_read words ≡ None → (frame : Frame) → ¬ SaysAck (codes "ack" ∷ words) frame
  no_front none frame says = grind (arith, none, front_again frame says)

  module _ (space : SpaceId) (now delay : ℕ) (app_limited : Bool) (left : List (List ℕ))
      (front : front_read words ≡ Some ((space, now, delay, app_limited), left)) where
    behind_is : (frame : Frame) (says : SaysAck (codes "ack" ∷ words) frame) → left ≡ says.behind
    behind_is frame says = grind (arith, front, front_again frame says)

    pub no_ranges : ranges_read left ≡ None → (frame : Frame) → ¬ SaysAck (codes "ack" ∷ words) frame
    no_ranges none frame says =
        grind (
          arith,
          none,
          behind_is frame says,
          ranges_again says.behind frame.ranges.items (frame.ack.ecn, frame.ack.received) says.ranges,
        )

    pub empty_ranges : (end : Option EcnCounts × Option ℕ) (ranges : List (ℕ × ℕ))
        → ranges_read left ≡ Some (ranges, end) → length ranges ≡ 0 → (frame : Frame)
        → ¬ SaysAck (codes "ack" ∷ words) frame
    empty_ranges end ranges read none frame says =
        let again = ranges_again says.behind frame.ranges.items (frame.ack.ecn, frame.ack.received) says.ranges in
        let same : ranges ≡ frame.ranges.items = grind (arith, read, again, behind_is frame says) in
        omega (arith, none, ap length same, says.some)

    pub front_taken : (frame : Frame) → ack_values frame ≡ (space, (now, (delay, (app_limited, tt))))
        → ranges_read left ≡ Some (frame.ranges.items, (frame.ack.ecn, frame.ack.received))
        → 0 < length frame.ranges.items → SaysAck (codes "ack" ∷ words) frame
    front_taken frame is read some =
        let r = fields_front no_tail ack_fields front_made words (space, now, delay, app_limited)
        left (sym (all_is no_tail ack_fields _ words) ∙ front) in
        let values : r.0 ≡ ack_values frame = grind (arith, r.1.2, is) in
        record {
          behind = left;
          are = ap (λ (w : List (List ℕ)). codes "ack" ∷ w) (rw values at r.1.0);
          fit = rw values at r.1.1;
          ranges = ranges_take left frame.ranges.items (frame.ack.ecn, frame.ack.received) read;
          some = some;
        }
