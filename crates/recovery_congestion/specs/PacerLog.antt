-- The log of a pacer since it was made, and what it lets pass by that alone (RFC 9002, 7.7). Lists are newest first.
use Rattle.std.specs.Prelude.{◌≡◌, ℕ, ◌+◌, ◌-◌, ◌*◌, ◌<◌, ◌≤◌, min, max, Bool, true, ◌&&◌, ◌||◌, ◌==◌, nat_le, if◌then◌else◌, List, [], ◌∷◌, ◌++◌, Option, SomeIff}
use Rattle.std.specs.List.{AllByRecursion}
use Rattle.recovery_base.specs.Units.{u32_limit}
use Rattle.recovery_congestion.specs.Pacing.{Bucket, PacerCall, capacity_of, credit_of, is_unpaced, paced, next_moment, less_tokens}

pub data PacerEntry : Type 0 where
  -- may these bytes be sent?
  asked : (call : PacerCall) → PacerEntry
  -- these bytes were transmitted, after a call or unchecked
  took : (bytes : ℕ) (checked : Bool) → PacerEntry

-- the bucket after all that, if it was made so
abbrev pub bucket_by : Bucket → List PacerEntry → Bucket
bucket_by made [] = made
bucket_by made (asked call ∷ earlier) = paced call (bucket_by made earlier)
bucket_by made (took bytes checked ∷ earlier) = less_tokens bytes (bucket_by made earlier)

-- ---- the premise

-- all that was transmitted was checked, and all calls had a window below 2^32 bytes and an RTT above zero
abbrev pub AreChecked : List PacerEntry → Type 0
AreChecked [] = Unit {0}
AreChecked (asked call ∷ earlier) = ((call.window < u32_limit) × (0 < call.rtt)) × AreChecked earlier
AreChecked (took bytes checked ∷ earlier) = (checked ≡ true) × AreChecked earlier

-- ---- the history: what calls did, and what was transmitted

pub data PacerMark : Type 0 where
  -- a call had another window or MTU: the capacity was computed again
  changed : (call : PacerCall) → PacerMark
  -- a call found too few tokens, and refilled: these bytes were credited
  credited : (call : PacerCall) (credit : ℕ) → PacerMark
  -- these bytes were transmitted
  transmitted : (bytes : ℕ) → PacerMark

-- the cap points, at which at most the capacity is stored: the making, each change of capacity and each refill
abbrev pub IsCapPoint : List PacerMark → Type 0
IsCapPoint (transmitted bytes ∷ past) = ⊥
IsCapPoint past = Unit {0}

-- the bytes credited
abbrev pub credits_in : List PacerMark → ℕ
credits_in [] = 0
credits_in (credited call credit ∷ past) = credit + credits_in past
credits_in (mark ∷ past) = credits_in past

-- the bytes transmitted
abbrev pub bytes_in : List PacerMark → ℕ
bytes_in [] = 0
bytes_in (transmitted bytes ∷ past) = bytes + bytes_in past
bytes_in (mark ∷ past) = bytes_in past

-- the calls that refilled
abbrev pub refills_in : List PacerMark → List PacerCall
refills_in [] = []
refills_in (credited call credit ∷ past) = call ∷ refills_in past
refills_in (mark ∷ past) = refills_in past

module _ (made : Bucket) where
  -- the capacity in use: of the last change, or of the making
  abbrev pub capacity_in : List PacerMark → ℕ
  capacity_in [] = made.capacity
  capacity_in (changed call ∷ past) = capacity_of call.rtt call.window call.mtu
  capacity_in (mark ∷ past) = capacity_in past

  -- the latest time of the making and all refills
  abbrev pub greatest_moment : List PacerMark → ℕ
  greatest_moment [] = made.last
  greatest_moment (credited call credit ∷ past) = max call.now (greatest_moment past)
  greatest_moment (mark ∷ past) = greatest_moment past

  -- ---- the balance

  -- the minimum, over all cap points, of the capacity there plus the credits and minus the bytes transmitted after it;
  -- the arguments are the credits and bytes after the marks that remain
  abbrev pub balance_from : ℕ → ℕ → List PacerMark → ℕ
  balance_from credits bytes [] = made.capacity + credits - bytes
  balance_from credits bytes (changed call ∷ past) =
      min (capacity_in (changed call ∷ past) + credits - bytes) (balance_from credits bytes past)
  balance_from credits bytes (credited call credit ∷ past) =
      min (capacity_in past + credits - bytes) (balance_from (credits + credit) bytes past)
  balance_from credits bytes (transmitted more ∷ past) = balance_from credits (bytes + more) past

  unfoldable pub balance_in : List PacerMark → ℕ
  balance_in history = balance_from 0 0 history

  -- the same without subtraction: at no cap point is the balance more than that, and at one it is exactly that
  pub record IsBalance (history : List PacerMark) (balance : ℕ) : Type 0 where
    pub at_most : (later past : List PacerMark) → later ++ past ≡ history → IsCapPoint past
        → balance + bytes_in later ≤ capacity_in past + credits_in later
    pub met : (later : List PacerMark) × (past : List PacerMark) × (later ++ past ≡ history) × IsCapPoint past
        × (balance + bytes_in later ≡ capacity_in past + credits_in later)

  -- ---- what a call does

  -- the window and the MTU of a call are those of the last change, or of the making
  abbrev pub is_as_before : PacerCall → List PacerMark → Bool
  is_as_before call [] = (call.window == made.window) && (call.mtu == made.mtu)
  is_as_before call (changed before ∷ past) = (call.window == before.window) && (call.mtu == before.mtu)
  is_as_before call (mark ∷ past) = is_as_before call past

  -- if they are not, a call changes the capacity. If it is paced, it refills exactly if the balance is then below the
  -- bytes asked. Its credit is for the time since the latest time, and none if the call is earlier
  abbrev pub marks_asking : PacerCall → List PacerMark → List PacerMark
  marks_asking call past =
      let now = if is_as_before call past then past else changed call ∷ past in
      let credit = credit_of call.rtt call.window (call.now - greatest_moment now) in
      if nat_le call.bytes (balance_in now) || is_unpaced call then now else credited call credit ∷ now

  -- the marks that these entries make
  abbrev pub marks_by : List PacerEntry → List PacerMark
  marks_by [] = []
  marks_by (asked call ∷ earlier) = marks_asking call (marks_by earlier)
  marks_by (took bytes checked ∷ earlier) = transmitted bytes ∷ marks_by earlier

  -- ---- the promises

  -- one more call is delayed exactly if the balance, after its own refill, is below the bytes asked. It is delayed
  -- until the tokens that it lacks are added, or those of a full bucket if that is more
  abbrev pub DelaysBy : List PacerEntry → PacerCall → Option ℕ → Type 0
  DelaysBy earlier call given =
      let past = marks_asking call (marks_by earlier) in
      let balance = balance_in past in
      let moment = next_moment call (capacity_in past) balance (greatest_moment past) in
      IsBalance past balance × SomeIff given (balance < call.bytes) moment

  -- from each cap point on, take an RTT, a window and a time that bound those of all calls that refilled since. The
  -- bytes transmitted beyond the capacity there are at most five fourths of the window for each RTT since the latest
  -- time there (none if this time is earlier)
  abbrev pub KeepsRate : List PacerEntry → Type 0
  KeepsRate entries =
      (later past : List PacerMark) (rtt window moment : ℕ) → later ++ past ≡ marks_by entries → IsCapPoint past
      → AllByRecursion (λ call. (rtt ≤ call.rtt) × (call.window ≤ window) × (call.now ≤ moment)) (refills_in later)
      → 4 * rtt * (bytes_in later - capacity_in past) ≤ 5 * window * (moment - greatest_moment past)
