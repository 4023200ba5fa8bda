-- Worked rows of the table of replies: at most 1001 non-ack-eliciting packets are tracked, and the first of them is
-- forgotten first. Nothing rests on them.
use Rattle.std.proofs.Common.{◌≡◌, ℕ, zero, suc, ◌+◌, ◌*◌, ◌≤◌, ◌^◌, ◌++◌, false, nat_lt, if◌then◌else◌, IsTrue, List, [], ◌∷◌, length, sum_by, Option, None, Some, Ok, refl, sym, ap, ap₂, inl, inr, ◌⊎◌, unwrap_or, ◌∙◌, subst, arith, add-one}
use Rattle.std.proofs.lemmas.Bool.{le-ltb, lt-ltb}
use Rattle.std.proofs.lemmas.List.{length-append}
use Rattle.std.proofs.lemmas.List.Elements.{filter-append}
use Rattle.std.proofs.lemmas.List.Sums.{sum_by-append}
use Rattle.std.specs.declared.net.socket_addr.SocketAddr.{SocketAddr}
use Rattle.rand_core.specs.Stream.{Stream}
use Rattle.recovery_base.specs.declared.below.SpaceId.TheVariants.{Initial, Handshake, Data}
use Rattle.recovery_congestion.specs.declared.congestion.new_reno.NewReno.{NewReno}
use Rattle.recovery_history.specs.Promises.NewNumbers.{is_discarded}
use Rattle.recovery_spaces.specs.InFlight.{size_in, eliciting_in}
use Rattle.recovery_spaces.specs.declared.paths.InFlight.{InFlight}
use Rattle.recovery_spaces.specs.SpaceLog.{SpaceEntry}
use Rattle.recovery_spaces.specs.Packets.{Packet, Packets, is_silent_above, silent_above, least_number, forgotten_number, without_some}
use Rattle.recovery_spaces.specs.Tracked.{SentState, packet_sent, sent_by, sent_more}
use Rattle.recovery_paths.specs.declared.path_pair.PathName.TheVariants.{Current}
use Rattle.recovery_packet_numbers.specs.Skips.{is_at, next_skip, skip_at, skips_below, number_from}
use Rattle.recovery_packet_numbers.specs.declared.filter.Skips.TheVariants.{Disabled}
use Rattle.recovery_events.specs.declared.event.Event.TheVariants as event
use Rattle.recovery_events.specs.declared.event.Answer.{Answer}
use Rattle.recovery_events.specs.declared.event.Answer.TheVariants as answer
use Rattle.recovery_history.specs.RepliesAfter.{logs_of, inputs_after, Logs, RepliesAfter}
use Rattle.recovery_history.specs.ReplyInputs.{ReplyInputs, current_in_flight}
use Rattle.quic_recovery_rows.proofs.RowStart.{RowEvent, RowReply, RowHistory, item_words, row_start}
use Rattle.quic_recovery_rows.proofs.RowLaws.{unrefused, some_is_none, said}

-- ---- non-ack-eliciting packets in the order of their numbers

abbrev silent : Packet (List ℕ) (Unit {0})
silent = packet_sent 0 0 40 false None [] tt

-- the first of them, up to a count; no abbreviation, so that 1001 of them are not written out
tracked : ℕ → Packets (List ℕ) (Unit {0})
tracked zero = []
tracked (suc n) = tracked n ++ (n, silent) ∷ []

all_silent : (n : ℕ) → silent_above None (tracked n) ≡ tracked n
unfolding tracked
all_silent zero = refl
all_silent (suc n) =
    filter-append (is_silent_above None) (tracked n) ((n, silent) ∷ [])
    ∙ ap (λ ps. ps ++ (n, silent) ∷ []) (all_silent n)

as_many : (n : ℕ) → length (tracked n) ≡ n
unfolding tracked
as_many zero = refl
as_many (suc n) = length-append (tracked n) ((n, silent) ∷ []) ∙ (ap (λ k. k + 1) (as_many n) ∙ add-one n)

-- and those after number 0
behind : ℕ → Packets (List ℕ) (Unit {0})
behind zero = []
behind (suc n) = behind n ++ (suc n, silent) ∷ []

zero_in_front : (n : ℕ) → tracked (suc n) ≡ (0, silent) ∷ behind n
unfolding tracked behind
zero_in_front zero = refl
zero_in_front (suc n) = ap (λ ps. ps ++ (suc n, silent) ∷ []) (zero_in_front n)

none_forgotten : (n : ℕ) → n ≤ 1000 → forgotten_number None silent (tracked n) ≡ None
none_forgotten n few =
    ap (λ ps. if nat_lt 1000 (length ps) then least_number ps else None) (all_silent n)
    ∙ ap (λ b. if b then least_number (tracked n) else None)
    (le-ltb 1000 (length (tracked n)) (subst (λ k. k ≤ 1000) (sym (as_many n)) few))

zero_forgotten : forgotten_number None silent (tracked 1001) ≡ Some 0
zero_forgotten =
    ap (λ ps. if nat_lt 1000 (length ps) then least_number ps else None) (all_silent 1001)
    ∙ (ap (λ b. if b then least_number (tracked 1001) else None)
    (lt-ltb 1000 (length (tracked 1001)) (subst (λ k. 1001 ≤ k) (sym (as_many 1001)) (omega arith)))
    ∙ ap least_number (zero_in_front 1000))

-- 40 bytes each, and none is ack-eliciting
bytes_tracked : (n : ℕ) → sum_by (size_in 0) (tracked n) ≡ 40 * n
unfolding tracked
bytes_tracked zero = refl
bytes_tracked (suc n) =
    let so_far = bytes_tracked n in
    let one_more = sum_by-append (size_in 0) (tracked n) ((n, silent) ∷ []) in omega (arith, so_far, one_more)

bytes_behind : (n : ℕ) → sum_by (size_in 0) (behind n) ≡ 40 * n
unfolding behind
bytes_behind zero = refl
bytes_behind (suc n) =
    let so_far = bytes_behind n in
    let one_more = sum_by-append (size_in 0) (behind n) ((suc n, silent) ∷ []) in omega (arith, so_far, one_more)

none_elicit : (n : ℕ) → sum_by (eliciting_in 0) (tracked n) ≡ 0
unfolding tracked
none_elicit zero = refl
none_elicit (suc n) = sum_by-append (eliciting_in 0) (tracked n) ((n, silent) ∷ []) ∙ ap (λ k. k + 0) (none_elicit n)

none_behind : (n : ℕ) → sum_by (eliciting_in 0) (behind n) ≡ 0
unfolding behind
none_behind zero = refl
none_behind (suc n) = sum_by-append (eliciting_in 0) (behind n) ((suc n, silent) ∷ []) ∙ ap (λ k. k + 0) (none_behind n)

-- ---- the runs that send them

module _ (remote : SocketAddr) (random : Stream) where
  abbrev RowTold : RowHistory → RowEvent → RowReply → Type 0
  RowTold = RepliesAfter (row_start remote random 8 Disabled)

  abbrev send : RowEvent
  send = event.Send Data 0 40 false None [] tt

  silents : ℕ → RowHistory
  silents zero = []
  silents (suc n) = (send, Ok (answer.Sent n None)) ∷ silents n

  abbrev logs : ℕ → Logs (List ℕ) (Unit {0})
  logs n = logs_of (row_start remote random 8 Disabled) (silents n)

  abbrev generation : ℕ → ℕ
  generation n = (inputs_after (row_start remote random 8 Disabled) (silents n)).paths.current.generation

  none_skipped : (k : ℕ) → (skip_at Disabled random k).0 ≡ None
  none_skipped zero = refl
  none_skipped (suc k) = ap (λ s. (next_skip (6 + k) (s, (skip_at Disabled random k).1)).0) (none_skipped k)

  next_number : (n : ℕ) → number_from Disabled random n ≡ n
  next_number n = ap (λ s. if is_at n s then n + 1 else n) (none_skipped (skips_below Disabled random n))

  record After (n : ℕ) : Type 0 where
    initial : (logs n).spaces Initial ≡ []
    handshake : (logs n).spaces Handshake ≡ []
    discarded : is_discarded Data (silents n) ≡ false
    first : generation n ≡ 0
    sent : sent_by item_words ((logs n).spaces Data) ≡ record { next = n; last = None; tracked = tracked n }

  sent_one : (n : ℕ) → n ≤ 1000
      → sent_more n silent (record { next = n; last = None; tracked = tracked n })
      ≡ record { next = suc n; last = None; tracked = tracked (suc n) }
  unfolding tracked
  sent_one n few =
      ap₂ (λ k forgotten. record {
        next = k;
        last = None;
        tracked = without_some (tracked n) forgotten ++ (n, silent)
            ∷ [];
      })
      (add-one n) (none_forgotten n few)

  after : (n : ℕ) → n ≤ 1001 → After n
  unfolding silents tracked
  after zero few = record { initial = refl; handshake = refl; discarded = refl; first = refl; sent = refl }
  after (suc n) few =
      let before = after n (omega (arith, few)) in
      record {
        initial = before.initial;
        handshake = before.handshake;
        discarded = before.discarded;
        first = before.first;
        sent =
            ap₂ (λ first s. sent_more (number_from Disabled random s.next) (packet_sent first 0 40 false None [] tt) s)
            before.first before.sent
            ∙ (ap (λ k. sent_more k silent (record { next = n; last = None; tracked = tracked n })) (next_number n)
            ∙ sent_one n (omega (arith, few)));
      }

  abbrev Entry : Type 0
  Entry = SpaceEntry (List ℕ) (Unit {0})

  abbrev known : ℕ → ReplyInputs NewReno (List ℕ) (Unit {0})
  known n = inputs_after (row_start remote random 8 Disabled) (silents n)

  -- the counters, with these packets in the Application Data space and none in the others
  abbrev counters : ℕ → List Entry → List Entry → Packets (List ℕ) (Unit {0}) → InFlight
  counters first initial handshake packets = record {
    bytes = sum_by (size_in first) (sent_by item_words initial).tracked
        + sum_by (size_in first) (sent_by item_words handshake).tracked
        + sum_by (size_in first) packets;
    ack_eliciting = sum_by (eliciting_in first) (sent_by item_words initial).tracked
        + sum_by (eliciting_in first) (sent_by item_words handshake).tracked + sum_by (eliciting_in first) packets;
  }

  in_flight_now : (n : ℕ) → After n → current_in_flight (known n) ≡ counters 0 [] [] (tracked n)
  in_flight_now n now =
      let packets = (sent_by item_words ((logs n).spaces Data)).tracked in
      ap (λ first. counters first ((logs n).spaces Initial) ((logs n).spaces Handshake) packets) now.first
      ∙ (ap (λ log. counters 0 log ((logs n).spaces Handshake) packets) now.initial
      ∙ (ap (λ log. counters 0 [] log packets) now.handshake
      ∙ ap (λ s. counters 0 [] [] s.tracked) now.sent))

  number_now : (n : ℕ) → After n → number_from Disabled random (sent_by item_words ((logs n).spaces Data)).next ≡ n
  number_now n now = next_number (sent_by item_words ((logs n).spaces Data)).next ∙ ap (λ s. s.next) now.sent

  room : (n : ℕ) → n ≤ 1001
      → ¬ ((2 ^ 64 ≤ (counters 0 [] [] (tracked n)).bytes + 40)
      ⊎ (2 ^ 64 ≤ (counters 0 [] [] (tracked n)).ack_eliciting + 0))
  room n few (inl many) = let bytes = bytes_tracked n in omega (arith, few, many, bytes)
  room n few (inr often) = let none = none_elicit n in omega (arith, often, none)

  -- the reply to one more non-ack-eliciting packet, after this many were sent and this one is forgotten
  told_one : (n : ℕ) (forgotten : Option ℕ) → n ≤ 1001 → forgotten_number None silent (tracked n) ≡ forgotten
      → RowTold (silents n) send (Ok (answer.Sent n forgotten))
  told_one n forgotten few is =
      let now = after n few in
      let number = number_now n now in (
        λ gone. unrefused (subst (λ b. IsTrue b) now.discarded gone),
        (
          λ h. h,
          (
            λ large. omega (arith, few, number, large),
            (
              λ over. room n few (subst (λ c. (2 ^ 64 ≤ c.bytes + 40) ⊎ (2 ^ 64 ≤ c.ack_eliciting + 0))
                  (in_flight_now n now) over),
              sym (ap₂ answer.Sent number (ap (λ s. forgotten_number s.last silent s.tracked) now.sent ∙ is)),
            ),
          ),
        ),
      )

  -- ---- the rows

  all_are_tracked : RowTold (silents 1000) send (Ok (answer.Sent 1000 None))
  all_are_tracked = told_one 1000 None (omega arith) (none_forgotten 1000 (omega arith))

  zero_is_forgotten : RowTold (silents 1001) send (Ok (answer.Sent 1001 (Some 0)))
  zero_is_forgotten = told_one 1001 (Some 0) (omega arith) zero_forgotten

  abbrev forgotten_in : Answer (List ℕ) → Option ℕ
  forgotten_in (answer.Sent number forgotten) = forgotten
  forgotten_in other = None

  none_is_wrong : ¬ RowTold (silents 1001) send (Ok (answer.Sent 1001 None))
  none_is_wrong = λ told. some_is_none (ap forgotten_in (zero_is_forgotten.1.1.1.1 ∙ sym told.1.1.1.1))

  one_is_wrong : ¬ RowTold (silents 1001) send (Ok (answer.Sent 1001 (Some 1)))
  one_is_wrong = λ told.
      let same : ◌≡◌ {A = ℕ} 0 1 =
      ap (λ given. unwrap_or (forgotten_in given) 0) (zero_is_forgotten.1.1.1.1 ∙ sym told.1.1.1.1) in
      omega (arith, same)

  too_early_is_wrong : ¬ RowTold (silents 1000) send (Ok (answer.Sent 1000 (Some 0)))
  too_early_is_wrong = λ told. some_is_none (ap forgotten_in (told.1.1.1.1 ∙ sym all_are_tracked.1.1.1.1))

  -- what is forgotten is no longer in flight: 1001 packets before, and 1001 after
  before_it : RowTold (silents 1001) (event.InFlight Current) (Ok (answer.InFlight 40040 0))
  before_it =
      sym (ap (λ c. answer.InFlight c.bytes c.ack_eliciting) (in_flight_now 1001 (after 1001 (omega arith)))
      ∙ ap₂ answer.InFlight (ap (λ b. 0 + 0 + b) (bytes_tracked 1001)) (ap (λ e. 0 + 0 + e) (none_elicit 1001)))

  -- the packets after number 1001 is sent
  packets_behind : (sent_more 1001 silent (record { next = 1001; last = None; tracked = tracked 1001 })).tracked
      ≡ behind 1000 ++ (1001, silent) ∷ []
  packets_behind =
      ap (λ forgotten. without_some (tracked 1001) forgotten ++ (1001, silent) ∷ []) zero_forgotten
      ∙ ap (λ ps. without_some ps (Some 0) ++ (1001, silent) ∷ []) (zero_in_front 1000)

  abbrev flight : InFlight → Answer (List ℕ)
  flight counters = answer.InFlight counters.bytes counters.ack_eliciting

  abbrev flight_then : ℕ → List Entry → List Entry → SentState (List ℕ) (Unit {0}) → Answer (List ℕ)
  flight_then first initial handshake sent =
      flight (counters first initial handshake
      (sent_more (number_from Disabled random sent.next) (packet_sent first 0 40 false None [] tt) sent).tracked)

  flight_behind : flight_then 0 [] [] (record { next = 1001; last = None; tracked = tracked 1001 }) ≡ answer.InFlight
      40040 0
  flight_behind =
      ap (λ k. flight (counters 0 [] []
      (sent_more k silent (record { next = 1001; last = None; tracked = tracked 1001 })).tracked))
      (next_number 1001)
      ∙ (ap (λ ps. flight (counters 0 [] [] ps)) packets_behind
      ∙ ap₂ answer.InFlight
      (ap (λ b. 0 + 0 + b) (sum_by-append (size_in 0) (behind 1000) ((1001, silent) ∷ [])
      ∙ ap (λ b. b + 40) (bytes_behind 1000)))
      (ap (λ e. 0 + 0 + e) (sum_by-append (eliciting_in 0) (behind 1000) ((1001, silent) ∷ [])
      ∙ ap (λ e. e + 0) (none_behind 1000))))

  behind_it : RowTold ((send, Ok (answer.Sent 1001 (Some 0))) ∷ silents 1001) (event.InFlight Current)
      (Ok (answer.InFlight 40040 0))
  behind_it =
      let now = after 1001 (omega arith) in
      let sent = sent_by item_words ((logs 1001).spaces Data) in
      sym (ap (λ first. flight_then first ((logs 1001).spaces Initial) ((logs 1001).spaces Handshake) sent) now.first
      ∙ (ap (λ log. flight_then 0 log ((logs 1001).spaces Handshake) sent) now.initial
      ∙ (ap (λ log. flight_then 0 [] log sent) now.handshake
      ∙ (ap (λ s. flight_then 0 [] [] s) now.sent ∙ flight_behind))))

  -- not 1002 packets
  forgotten_in_flight_is_wrong : ¬ RowTold ((send, Ok (answer.Sent 1001 (Some 0))) ∷ silents 1001)
      (event.InFlight Current)
      (Ok (answer.InFlight 40080 0))
  forgotten_in_flight_is_wrong = λ told. let same : 40080 ≡ 40040 =
      ap said (told ∙ sym behind_it) in omega (arith, same)
