-- The local IDs after each call. The calls of `CidState` rest on it.
use Rattle.std.proofs.Common.{◌≡◌, ℕ, zero, suc, ◌+◌, ◌-◌, ◌^◌, ◌≤◌, ◌==◌, nat_lt, not, Bool, false, List, [], ◌∷◌, map, drop, Option, refl, sym, arith}
use Rattle.std.specs.List.{list_any, range_with_len}
use Rattle.recovery_ids.specs.declared.state.CidTimestamp.{CidTimestamp}
use Rattle.recovery_ids.specs.LocalIds.{LocalIds, no_ids, AreSoundIds, AreIncreasingWithin, timed_out, next_mark, holds_unretired, with_issued, without_number, deadlines_with_last}
use Rattle.recovery_ids.proofs.RiseLaws.{Rise-bound, Rise-wider, Rise-from, Rise-filter, Rise-append, list_any-between}
use Rattle.recovery_ids.proofs.DeadlineLaws.{deadlines_with-rise}

abbrev pub any_below : ℕ → LocalIds → Bool
any_below end ids = list_any (λ n. nat_lt n end) ids.unretired

-- ---- timeouts

-- the oldest deadline is removed, and the mark may move after its number
mark_rises : (mark issued : ℕ) (deadlines : List CidTimestamp)
    → AreIncreasingWithin mark issued (map (λ deadline. deadline.sequence) deadlines) →
    (mark ≤ next_mark mark deadlines)
    × AreIncreasingWithin mark issued (map (λ deadline. deadline.sequence) (drop 1 deadlines))
    × AreIncreasingWithin (next_mark mark deadlines) issued (map (λ deadline. deadline.sequence) (drop 1 deadlines))
mark_rises _ _ [] rise = (omega arith, rise, rise)
mark_rises mark issued (oldest ∷ later) rise = grind (
  arith,
  rise,
  Rise-wider (oldest.sequence + 1) issued mark issued (map (λ deadline. deadline.sequence) later),
)

module _ {ids : LocalIds} (sound : AreSoundIds ids) where
  pub asked : holds_unretired ids.retired_below ids.retire_prior_to ids ≡ any_below ids.retire_prior_to ids
  asked = list_any-between _ _ _ _ ids.unretired sound.unretired (omega arith)

  -- if no number below the mark is unretired, all increase from there
  rises : any_below ids.retire_prior_to ids ≡ false → AreIncreasingWithin ids.retire_prior_to ids.issued ids.unretired
  rises none = Rise-from _ _ _ ids.unretired sound.unretired none (Rise-bound _ _ _ sound.deadlines)

  pub timed_sound : AreSoundIds (timed_out ids)
  timed_sound = let marks = mark_rises _ _ ids.deadlines sound.deadlines in grind (arith, asked, rises)

  pub moves_answer : any_below ids.retire_prior_to ids ≡ false → (next : ℕ)
      → any_below next ids ≡ holds_unretired ids.retire_prior_to next ids
  moves_answer none next = sym (list_any-between _ _ _ next ids.unretired (rises none) (omega arith))

  -- ---- numbers issued and retired

  pub issued_sound : (count now : ℕ) → ids.issued + count ≤ 2 ^ 62 → AreSoundIds (with_issued count now ids)
  issued_sound zero _ _ = sound
  issued_sound (suc count) now small =
      let end : ids.issued + suc count ≡ ids.issued + count + 1 = omega arith in record {
        small = small;
        marks = sound.marks;
        unretired = Rise-append _ _ (suc count) _ ids.unretired sound.unretired refl;
        deadlines = rw end (deadlines_with-rise _ now _ _ ids.deadlines
            (Rise-wider _ _ _ _ _ sound.deadlines (omega arith) (omega arith)));
      }

  pub retired_sound : (number : ℕ) → AreSoundIds (without_number number ids)
  retired_sound number = record {
    small = sound.small;
    marks = sound.marks;
    unretired = Rise-filter (λ n. not (n == number)) _ _ ids.unretired sound.unretired;
    deadlines = sound.deadlines;
  }

-- before any is issued
pub none_sound : (cid_len : ℕ) (lifetime : Option ℕ) → AreSoundIds (no_ids cid_len lifetime)
none_sound _ _ = grind arith

-- the first IDs, from number 0 on, with a deadline for the last of them
module _ (now cid_len : ℕ) (lifetime : Option ℕ) where
  abbrev pub first_ids : ℕ → List ℕ → List CidTimestamp → LocalIds
  first_ids issued numbers deadlines = record {
    cid_len = cid_len;
    cid_lifetime = lifetime;
    issued = issued;
    unretired = numbers;
    retired_below = 0;
    retire_prior_to = 0;
    deadlines = deadlines;
  }

  pub first_issued : (issued : ℕ) (numbers : List ℕ) (deadlines : List CidTimestamp) → issued ≤ 2 ^ 62
      → numbers ≡ range_with_len 0 (issued - 0) → deadlines ≡ deadlines_with_last lifetime now issued []
      → (first_ids issued numbers deadlines ≡ with_issued issued now (no_ids cid_len lifetime))
      × AreSoundIds (first_ids issued numbers deadlines)
  first_issued issued numbers deadlines small are last =
      let all : issued - 0 ≡ issued = omega arith in
      let is : first_ids issued numbers deadlines ≡ with_issued issued now (no_ids cid_len lifetime) =
      rw (are, last, all) (said issued) in
      (is, rw is (issued_sound (none_sound cid_len lifetime) issued now (omega arith)))
    where
      said : (count : ℕ) → first_ids count (range_with_len 0 count) (deadlines_with_last lifetime now count [])
          ≡ with_issued count now (no_ids cid_len lifetime)
      said zero = refl
      said (suc count) = grind arith
