-- The run of lost numbers continues from number to number (RFC 9002, 7.6).
use Rattle.std.proofs.Common.{◌≡◌, ℕ, ◌+◌, ◌-◌, ◌<◌, ◌≤◌, ◌⊎◌, ◌||◌, ◌≢◌, ◌↔◌, IsTrue, option_map, List, [], ◌∷◌, max, min, nat_lt, true, false, Bool, Decides, true≢false, ltb-true, lt-ltb, Option, None, Some, if◌then◌else◌, refl, sym, ap, subst, ◌∙◌, inl, inr, arith}
use Rattle.std.specs.Option.{option_map_or}
use Rattle.std.proofs.lemmas.Bool.Decides.{nat_tests}
use Rattle.std.proofs.lemmas.Bool.Decides.{eqb_tells, leb_tells}
use Rattle.std.proofs.lemmas.Option.{none-some, same_Some}
use Rattle.recovery_losses.specs.declared.looks.LossPass.{LossPass}
use Rattle.recovery_losses.specs.declared.tally.Run.{Run}
use Rattle.recovery_spaces.specs.Packets.{Packet, Packets, packet_at}
use Rattle.recovery_losses.specs.Losses.{HasCounted, IsOneOf, ending, follows, going_on, is_counted, last_counted, later_of, no_run, sent_counted}
use Rattle.recovery_losses.specs.PersistentCongestion.{IsInRun, IsLostOrSkipped, IsPersistentCongestion, IsLossRun}

-- ---- what directly follows a number, except for a skipped one

follows_next : (skipped : Option ℕ) (last number : ℕ) → last + 1 ≡ number → follows skipped (Some last) number ≡ true
follows_next None last number next = grind (arith, nat_tests, next)
follows_next (Some other) last number next = grind (arith, nat_tests, next)

follows_over : (skipped : Option ℕ) (last number : ℕ) → skipped ≡ Some (last + 1) → last + 2 ≡ number
    → follows skipped (Some last) number ≡ true
follows_over None last number is over = absurd (none-some (last + 1) is)
follows_over (Some other) last number is over =
    let same = same_Some other (last + 1) is in grind (arith, nat_tests, same, over)

comes_after : (skipped previous : Option ℕ) (number : ℕ) → follows skipped previous number ≡ true
    → (last : ℕ) × (previous ≡ Some last)
    × ((last + 1 ≡ number) ⊎ (skipped ≡ Some (last + 1)) × (last + 2 ≡ number))
comes_after None None number continued = absurd (true≢false (sym continued))
comes_after (Some other) None number continued = absurd (true≢false (sym continued))
comes_after None (Some last) number continued = (last, refl, inl (grind (arith, nat_tests, continued)))
comes_after (Some other) (Some last) number continued = (
  last,
  refl,
  elim (eqb_tells (last + 1) number) [
    | inl next ↦ inl next.1
    | inr apart ↦ (
        let over : (last + 1 ≡ other) × (other + 1 ≡ number) = grind (arith, nat_tests, continued, apart.0) in
        inr (ap (λ n. Some n) (sym over.0), omega (arith, over.0, over.1))
        )
  ],
)

-- what is lost or skipped by some numbers is so by others, of which they are
passed_like : (IsLostNow LostThen : ℕ → Type 0) (skipped : Option ℕ) (number : ℕ)
    → (IsLostNow number → LostThen number) → IsLostOrSkipped IsLostNow skipped number
    → IsLostOrSkipped LostThen skipped number
passed_like IsLostNow LostThen skipped number lost (inl now) = inl (lost now)
passed_like IsLostNow LostThen skipped number lost (inr over) = inr over

-- congestion that persists by some numbers persists by others, of which they are
persists_like : (IsLostNow LostThen : ℕ → Type 0) (IsEnd EndThen : ℕ → ℕ → Type 0) (skipped : Option ℕ) (period : ℕ)
    → (there : IsPersistentCongestion IsLostNow IsEnd skipped period)
    → EndThen there.first there.first_sent → EndThen there.last there.last_sent
    → ((number : ℕ) → number ≤ there.last → IsLostNow number → LostThen number)
    → IsPersistentCongestion LostThen EndThen skipped period
persists_like IsLostNow LostThen IsEnd EndThen skipped period there begins ends lost = record {
  first = there.first;
  last = there.last;
  first_sent = there.first_sent;
  last_sent = there.last_sent;
  rises = there.rises;
  begins = begins;
  ends = ends;
  between = λ number on up. passed_like IsLostNow LostThen skipped number (lost number up)
      (there.between number on up);
  long = there.long;
}

-- nothing is lost yet
pub run_first : (IsLostNow : ℕ → Type 0) (IsEnd : ℕ → ℕ → Type 0) (skipped : Option ℕ) (period end : ℕ)
    → ((number : ℕ) → IsLostNow number → ⊥) → ((number sent : ℕ) → IsEnd number sent → ⊥)
    → IsLossRun IsLostNow IsEnd skipped period end no_run
run_first IsLostNow IsEnd skipped period end none no_end = record {
  previous = λ last is. absurd (none-some last is);
  last = λ number lost. absurd (none number lost);
  told = λ number sent ends. absurd (no_end number sent ends);
  one = λ time is. absurd (none-some time is);
  oldest = λ number sent ends in_run. absurd (no_end number sent ends);
  persists = ((λ never. absurd (true≢false (sym never))), λ persists. absurd (no_end _ _ persists.begins));
}

-- only what a run is of changes
pub run_like : (IsLostNow : ℕ → Type 0) (IsEnd : ℕ → ℕ → Type 0) (skipped : Option ℕ) (period end wider : ℕ) (run : Run)
    → end ≤ wider
    → IsLossRun IsLostNow IsEnd skipped period end run → IsLossRun IsLostNow IsEnd skipped period wider run
run_like IsLostNow IsEnd skipped period end wider run within is = record {
  previous = λ last told. (let was = is.previous last told in (was.0, omega (arith, was.1, within)));
  last = is.last;
  told = is.told;
  one = is.one;
  oldest = is.oldest;
  persists = is.persists;
}

-- ---- the next number is lost

module _ (IsLostNow LostThen : ℕ → Type 0) (IsEnd EndThen : ℕ → ℕ → Type 0) (look : LossPass)
    (end number : ℕ) (run : Run) (is : IsLossRun IsLostNow IsEnd look.skipped look.period end run)
    (above : end ≤ number) (lost : LostThen number)
    (still : (other : ℕ) → IsLostNow other → LostThen other)
    (was : (other : ℕ) → LostThen other → IsLostNow other ⊎ (number ≡ other))
    (to : (other sent : ℕ) → IsEnd other sent → EndThen other sent)
    (from : (other sent : ℕ) → EndThen other sent → IsEnd other sent) where
  under : (other : ℕ) → IsLostNow other → other < number
  under other there = let last = is.last other there in
      omega (arith, (is.previous last.0 last.1).1, last.2, above)

  was_under : (other : ℕ) → other < number → LostThen other → IsLostNow other
  was_under other small there = elim (was other there) [
    | inl before ↦ before
    | inr same ↦ absurd (omega (arith, small, same))
  ]

  -- no number between the last one that was lost and this one is lost
  none_between : (last k : ℕ) → run.previous ≡ Some last → last < k → k < number → LostThen k → ⊥
  none_between last k previous over small there =
      let later = is.last k (was_under k small there) in
      absurd (omega (arith, later.2, over, same_Some last later.0 (sym previous ∙ later.1)))

  -- an end of persistent congestion that is in the run up to this number was in the run before it, which it continues
  was_in_run : (other : ℕ) → other < number → IsLostNow other
      → ((k : ℕ) → other ≤ k → k ≤ number → IsLostOrSkipped LostThen look.skipped k)
      → (follows look.skipped run.previous number ≡ true)
      × IsInRun IsLostNow IsEnd look.skipped look.period end run other
  was_in_run other small there in_run =
      let last = is.last other there in
      let at_end = (is.previous last.0 last.1).1 in (
        rw last.1 (continues last.0 last.1 last.2 (omega (arith, at_end, above))),
        λ final is_final k on up. (
            let same = same_Some last.0 final (sym last.1 ∙ is_final) in
            let under_this : k < number = omega (arith, up, same, at_end, above) in
            passed_like LostThen IsLostNow look.skipped k (was_under k under_this)
            (in_run k on (omega (arith, under_this)))
            ),
      )
    where
      over_skipped : (last : ℕ) → run.previous ≡ Some last → other ≤ last → last + 1 < number
          → look.skipped ≡ Some (last + 1) → follows look.skipped (Some last) number ≡ true
      over_skipped last previous on apart is_skipped = elim (eqb_tells (last + 2) number) [
        | inl over ↦ follows_over look.skipped last number is_skipped over.1
        | inr far ↦ elim (in_run (last + 2) (omega (arith, on)) (omega (arith, apart, far.1))) [
          | inl lost_there ↦ absurd (none_between last (last + 2) previous (omega arith)
              (omega (arith, apart, far.1)) lost_there)
          | inr again ↦ absurd (omega (arith, same_Some (last + 1) (last + 2) (sym is_skipped ∙ again)))
        ]
      ]

      continues : (last : ℕ) → run.previous ≡ Some last → other ≤ last → last < number
          → follows look.skipped (Some last) number ≡ true
      continues last previous on small_last = elim (eqb_tells (last + 1) number) [
        | inl next ↦ follows_next look.skipped last number next.1
        | inr apart ↦ elim (in_run (last + 1) (omega (arith, on)) (omega (arith, small_last))) [
          | inl lost_there ↦ absurd (none_between last (last + 1) previous (omega arith)
              (omega (arith, small_last, apart.1)) lost_there)
          | inr is_skipped ↦ over_skipped last previous on (omega (arith, small_last, apart.1)) is_skipped
        ]
      ]

  pub run_on : IsLossRun LostThen EndThen look.skipped look.period (number + 1) (going_on look number run)
  run_on = by (follows look.skipped run.previous number) refl
    where
      by : (test : Bool) → follows look.skipped run.previous number ≡ test
          → IsLossRun LostThen EndThen look.skipped look.period (number + 1) (going_on look number run)
      by test tested = record {
        previous = λ last told. (let same = same_Some number last told in
            (subst LostThen same lost, omega (arith, same)));
        last = λ other there. (
          number,
          refl,
          elim (was other there) [
            | inl before ↦ (omega (arith, under other before))
            | inr same ↦ (omega (arith, same))
          ],
        );
        told = λ other sent ends. still other (is.told other sent (from other sent ends));
        one = one test tested;
        oldest = oldest test tested;
        persists = persists;
      }
        where
          one : (test : Bool) → follows look.skipped run.previous number ≡ test → (time : ℕ)
              → (if follows look.skipped run.previous number then run.oldest else None) ≡ Some time
              → (other : ℕ) × EndThen other time
              × IsInRun LostThen EndThen look.skipped look.period (number + 1) (going_on look number run) other
          one false apart time told = absurd (none-some time (rw apart at told))
          one true yes_follows time told =
              let found = is.one time (rw yes_follows at told) in
              let last = comes_after look.skipped run.previous number yes_follows in (
                found.0,
                to found.0 time found.1,
                λ final is_final k on up. elim (leb_tells number k) [
                  | inl large ↦
                      inl (subst LostThen (omega (arith, large.1, up, same_Some number final is_final)) lost)
                  | inr small ↦ elim (leb_tells k last.0) [
                    | inl in_before ↦ passed_like IsLostNow LostThen look.skipped k (still k)
                        (found.2 last.0 last.1 k on in_before.1)
                    | inr over ↦ inr (elim last.2 [
                      | inl next ↦ absurd (omega (arith, next, small.1, over.1))
                      | inr jump ↦ jump.0 ∙ ap (λ n. Some n) (omega (arith, jump.1, small.1, over.1))
                    ])
                  ]
                ],
              )

          oldest : (test : Bool) → follows look.skipped run.previous number ≡ test → (other sent : ℕ)
              → EndThen other sent
              → IsInRun LostThen EndThen look.skipped look.period (number + 1) (going_on look number run) other
              → (time : ℕ) × ((if follows look.skipped run.previous number then run.oldest else None) ≡ Some time)
              × (time ≤ sent)
          oldest test tested other sent ends in_run =
              let there = is.told other sent (from other sent ends) in
              let before = was_in_run other (under other there) there (in_run number refl) in
              let found = is.oldest other sent (from other sent ends) before.1 in
              (found.0, rw before.0 found.1, found.2)

          persists : Decides run.is_persistent (IsPersistentCongestion LostThen EndThen look.skipped look.period)
          persists = (
            (λ long. (let there = is.persists.0 long in
                persists_like IsLostNow LostThen IsEnd EndThen look.skipped look.period there
                (to there.first there.first_sent there.begins) (to there.last there.last_sent there.ends)
                (λ k up. still k))),
            λ there. (
                let last = under there.last (is.told there.last there.last_sent
                (from there.last there.last_sent there.ends)) in
                is.persists.1 (persists_like LostThen IsLostNow EndThen IsEnd look.skipped look.period there
                (from there.first there.first_sent there.begins) (from there.last there.last_sent there.ends)
                (λ k up. was_under k (omega (arith, up, last))))
                ),
          )

-- ---- with the last number persistent congestion may end

module _ (IsLostNow : ℕ → Type 0) (IsEnd EndThen : ℕ → ℕ → Type 0) (look : LossPass) (end number sent : ℕ) (run : Run)
    (is : IsLossRun IsLostNow IsEnd look.skipped look.period end run) (last : run.previous ≡ Some number)
    (below : (other time : ℕ) → IsEnd other time → other < number)
    (here : EndThen number sent)
    (to : (other time : ℕ) → IsEnd other time → EndThen other time)
    (from : (other time : ℕ) → EndThen other time → IsEnd other time ⊎ ((number ≡ other) × (sent ≡ time))) where
  abbrev now : Run
  now = ending look sent run

  lost_here : IsLostNow number
  lost_here = (is.previous number last).0

  in_itself : IsInRun IsLostNow EndThen look.skipped look.period end now number
  in_itself final is_final k on up =
      let same = same_Some number final (sym last ∙ is_final) in
      inl (subst IsLostNow (omega (arith, same, on, up)) lost_here)

  oldest_now : (oldest : Option ℕ) → run.oldest ≡ oldest → (time : ℕ) × (now.oldest ≡ Some time)
  oldest_now oldest told = (option_map_or (λ before. min before sent) run.oldest sent, refl)

  one_now : (oldest : Option ℕ) → run.oldest ≡ oldest → (time : ℕ) → now.oldest ≡ Some time
      → (other : ℕ) × EndThen other time × IsInRun IsLostNow EndThen look.skipped look.period end now other
  one_now None none time told =
      let same : sent ≡ time = same_Some sent time
      (sym (ap (λ o. Some (option_map_or (λ before. min before sent) o sent)) none) ∙ told) in
      (number, subst (λ t. EndThen number t) same here, in_itself)
  one_now (Some before) some time told =
      let least : min before sent ≡ time = same_Some (min before sent) time
      (sym (ap (λ o. Some (option_map_or (λ b. min b sent) o sent)) some) ∙ told) in
      elim (leb_tells before sent) [
        | inl early ↦ (
            let found = is.one before some in (
              found.0,
              subst (λ t. EndThen found.0 t) (omega (arith, least, early.1)) (to found.0 before found.1),
              found.2,
            )
            )
        | inr late ↦ (number, subst (λ t. EndThen number t) (omega (arith, least, late.1)) here, in_itself)
      ]

  least_now : (oldest : Option ℕ) → run.oldest ≡ oldest → (other time : ℕ) → EndThen other time
      → IsInRun IsLostNow EndThen look.skipped look.period end now other → (t : ℕ) × (now.oldest ≡ Some t) × (t ≤ time)
  least_now None none other time ends in_run = (
    sent,
    ap (λ o. Some (option_map_or (λ b. min b sent) o sent)) none,
    elim (from other time ends) [
      | inl was ↦ (
          let found = is.oldest other time was in_run in
          absurd (none-some found.0 (sym none ∙ found.1))
          )
      | inr same ↦ (omega (arith, same.1))
    ],
  )
  least_now (Some before) some other time ends in_run = (
    min before sent,
    ap (λ o. Some (option_map_or (λ b. min b sent) o sent)) some,
    elim (from other time ends) [
      | inl was ↦ (
          let found = is.oldest other time was in_run in
          let same = same_Some found.0 before (sym found.1 ∙ some) in
          omega (arith, found.2, same)
          )
      | inr same ↦ (omega (arith, same.1))
    ],
  )

  -- long enough after the oldest of the run
  long_now : (oldest : Option ℕ) → run.oldest ≡ oldest
      → option_map_or (λ before. nat_lt look.period (sent - before)) run.oldest false ≡ true
      → IsPersistentCongestion IsLostNow EndThen look.skipped look.period
  long_now None none long = absurd (true≢false (sym long
      ∙ ap (λ o. option_map_or (λ before. nat_lt look.period (sent - before)) o false) none))
  long_now (Some before) some long =
      let found = is.one before some in
      let past = ltb-true look.period (sent - before)
      (sym (ap (λ o. option_map_or (λ b. nat_lt look.period (sent - b)) o false) some) ∙ long) in
      record {
        first = found.0;
        last = number;
        first_sent = before;
        last_sent = sent;
        rises = below found.0 before found.1;
        begins = to found.0 before found.1;
        ends = here;
        between = found.2 number last;
        long = past;
      }

  long_then : IsPersistentCongestion IsLostNow EndThen look.skipped look.period →
      (IsPersistentCongestion IsLostNow IsEnd look.skipped look.period)
      ⊎ (option_map_or (λ before. nat_lt look.period (sent - before)) run.oldest false ≡ true)
  long_then there = elim (from there.last there.last_sent there.ends) [
    | inl was ↦ elim (from there.first there.first_sent there.begins) [
      | inl began ↦ inl (persists_like IsLostNow IsLostNow EndThen IsEnd look.skipped look.period there began was
          (λ k up lost. lost))
      | inr same ↦ absurd (omega (arith, same.0, there.rises, below there.last there.last_sent was))
    ]
    | inr same ↦ elim (from there.first there.first_sent there.begins) [
      | inl began ↦ (
          let found = is.oldest there.first there.first_sent began (λ final is_final k on up. there.between k on
          (omega (arith, up, same.0, same_Some number final (sym last ∙ is_final)))) in
          inr (ap (λ o. option_map_or (λ before. nat_lt look.period (sent - before)) o false) found.1
          ∙ lt-ltb look.period (sent - found.0) (omega (arith, there.long, found.2, same.1)))
          )
      | inr first ↦ absurd (omega (arith, same.0, first.0, there.rises))
    ]
  ]

  still_long : IsPersistentCongestion IsLostNow IsEnd look.skipped look.period
      → IsPersistentCongestion IsLostNow EndThen look.skipped look.period
  still_long there = persists_like IsLostNow IsLostNow IsEnd EndThen look.skipped look.period there
      (to there.first there.first_sent there.begins) (to there.last there.last_sent there.ends) (λ k up lost. lost)

  either : (one other : Bool) → (one || other) ≡ true → (one ≡ true) ⊎ (other ≡ true)
  either true other is_true = inl refl
  either false other is_true = inr is_true

  or_right : (one other : Bool) → other ≡ true → (one || other) ≡ true
  or_right true other is_true = refl
  or_right false other is_true = is_true

  pub run_end : IsLossRun IsLostNow EndThen look.skipped look.period end now
  run_end = record {
    previous = is.previous;
    last = is.last;
    told = λ other time ends. elim (from other time ends) [
      | inl was ↦ is.told other time was
      | inr same ↦ subst IsLostNow same.0 lost_here
    ];
    one = one_now run.oldest refl;
    oldest = least_now run.oldest refl;
    persists = (
      (λ is_true. elim (either run.is_persistent _ is_true) [
        | inl before ↦ still_long (is.persists.0 before)
        | inr long ↦ long_now run.oldest refl long
      ]),
      λ there. elim (long_then there) [
        | inl before ↦ ap (λ test. test || option_map_or (λ b. nat_lt look.period (sent - b)) run.oldest false)
            (is.persists.1 before)
        | inr long ↦ or_right run.is_persistent _ long
      ],
    );
  }

-- ---- a packet that counts was sent last

module _ {P M : Type 0} (look : LossPass) (packets : Packets P M) where
  later_left : (one : ℕ) (other : Option ℕ) → later_of (Some one) other ≢ None
  later_left one None none = none-some one (sym none)
  later_left one (Some other) none = none-some (max one other) (sym none)

  later_right : (one other : Option ℕ) → other ≢ None → later_of one other ≢ None
  later_right None other some = some
  later_right (Some one) other some = later_left one other

  -- if one of these packets counts, one of those that count was sent last
  pub one_counted : (numbers : List ℕ) (number : ℕ) (packet : Packet P M) → IsOneOf number numbers
      → packet_at packets number ≡ Some packet → IsTrue (is_counted look packet.size packet.path_generation)
      → last_counted look packets numbers ≢ None
  one_counted [] number packet there is counts = absurd there
  one_counted (first ∷ numbers) number packet (inl here) is counts =
      rw (here, is, counts) (later_left packet.time_sent (last_counted look packets numbers))
  one_counted (first ∷ numbers) number packet (inr there) is counts =
      later_right (sent_counted look packets (packet_at packets first)) (last_counted look packets numbers)
      (one_counted numbers number packet there is counts)

  -- and only then
  counted_one : (numbers : List ℕ) → last_counted look packets numbers ≢ None → HasCounted look packets numbers
  counted_one [] some = absurd (some refl)
  counted_one (first ∷ numbers) some = by (counted_one numbers) (packet_at packets first) refl
    where
      behind : (last_counted look packets numbers ≢ None → HasCounted look packets numbers)
          → last_counted look packets numbers ≢ None → HasCounted look packets (first ∷ numbers)
      behind rest last = let found = rest last in (found.0, found.1, inr found.2, found.3, found.4)

      by_count : (last_counted look packets numbers ≢ None → HasCounted look packets numbers)
          → (packet : Packet P M) → packet_at packets first ≡ Some packet → (counts : Bool)
          → is_counted look packet.size packet.path_generation ≡ counts → HasCounted look packets (first ∷ numbers)
      by_count rest packet is true counts = (first, packet, inl refl, is, counts)
      by_count rest packet is false counts = behind rest (rw (is, counts) at some)

      by : (last_counted look packets numbers ≢ None → HasCounted look packets numbers)
          → (packet : Option (Packet P M)) → packet_at packets first ≡ packet
          → HasCounted look packets (first ∷ numbers)
      by rest None none = behind rest (rw none at some)
      by rest (Some packet) is =
          by_count rest packet is (is_counted look packet.size packet.path_generation) refl

  -- so congestion is reported exactly if one counts
  pub reports_counted : (numbers : List ℕ) (bytes : ℕ) (congestion : Option ℕ)
      → congestion ≡ option_map (λ sent. bytes) (last_counted look packets numbers)
      → (congestion ≢ None) ↔ HasCounted look packets numbers
  reports_counted numbers bytes congestion is = (
    λ some. counted_one numbers (λ none. some (is ∙ ap (λ (last : Option ℕ). option_map (λ sent. bytes) last) none)),
    λ counted none. by (last_counted look packets numbers) refl counted (sym none ∙ is),
  )
    where
      by : (last : Option ℕ) → last_counted look packets numbers ≡ last → HasCounted look packets numbers
          → None ≡ option_map (λ sent. bytes) last → ⊥
      by None none counted never =
          one_counted numbers counted.0 counted.1 counted.2 counted.3 counted.4 none
      by (Some last) some counted never = none-some bytes never
