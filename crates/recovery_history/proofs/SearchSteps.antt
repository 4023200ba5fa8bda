-- The entry of an event in the search on the path in use, for what is read from the history: one step of its entries.
-- The promises on searches by events alone rest on it.
use Rattle.std.proofs.Common.{arith, ℕ, ◌≡◌, Bool, true, false, if◌then◌else◌, List, [], ◌∷◌, None, Some, Ok, Err, is_some}
use Rattle.recovery_base.specs.declared.below.SpaceId.TheVariants.{Data}
use Rattle.recovery_spaces.specs.Packets.{Packet}
use Rattle.recovery_mtud.specs.Discovery.{reports}
use Rattle.recovery_mtud.specs.MtuEntries.{MtuEntry, probed, unprobed, limited, found as finds, acked, lost, losses_over, probe_in_flight, probe_lost, reported, reset, size_at}
use Rattle.recovery_mtud.specs.SearchRuns.{search_runs}
use Rattle.recovery_events.specs.declared.event.Event.{Event}
use Rattle.recovery_events.specs.declared.event.Event.TheVariants.{PollMtu, Acked, Lost, LossesDone, MtuFound, PeerLimit, ResetPath, NewPath, RevertPath}
use Rattle.recovery_events.specs.declared.event.Answer.TheVariants as answer
use Rattle.recovery_history.specs.RepliesAfter.{inputs_after, settings_of, RepliesAfter, logs_of}
use Rattle.recovery_history.specs.History.{Beginning, History, Reply}
use Rattle.recovery_history.proofs.AnswerLaws.{is_there}
use Rattle.recovery_history.proofs.Runs.{AllAlong, throughout_by, throughout_kept}
use Rattle.recovery_history.proofs.SearchSaid.{EntersAsTold, FoundElsewhere, LimitsOutside, TellsProbes, data_packet, entered_so_far, Follows, Keeps, ProbesInTurn}
use Rattle.recovery_history.proofs.EnteredLaws.{entered_one}
use Rattle.recovery_history.proofs.SearchLaws.{AreSearched, elsewhere_one, first_is, limits_one, searched_one, tells_one, probes_one}
use Rattle.recovery_history.proofs.PacketSizeLaws.{Sized, sized_after, size_in}
use Rattle.recovery_history.proofs.FieldLaws.{said_found}
use Rattle.recovery_history.specs.Promises.Bursts.{size_of}
use Rattle.recovery_spaces.specs.Tracked.{sent_by}

-- ---- what is known of an event and its reply

pub record Facts {F K Q S M P : Type 0} (beginning : Beginning F K Q S M P) (history : History Q S M P)
    (event : Event Q S M P) (reply : Reply Q)
    : Type 0 where
  pub told : RepliesAfter beginning history event reply
  pub entered : EntersAsTold beginning history event reply
  pub searched : AreSearched beginning history
  pub tells : TellsProbes beginning history event reply
  pub outside : LimitsOutside beginning history event reply
  pub elsewhere : FoundElsewhere beginning history event reply
  pub turn : ProbesInTurn beginning history event reply
  pub sized : Sized beginning history

module _ {F K Q S M P : Type 0} (beginning : Beginning F K Q S M P) where
  pub throughout_facts : (Kept : History Q S M P → Type 0) → Keeps (Facts beginning) Kept → Kept []
      → {Holds : History Q S M P → Event Q S M P → Reply Q → Type 0} → Follows (Facts beginning) Kept Holds
      → AllAlong beginning Holds
  throughout_facts Kept keeps first {Holds} each history told =
      throughout_by _ Holds Kept keeps (λ before event reply here kept after. each before event reply here kept) first
      history
      (throughout_kept beginning (λ before. AreSearched beginning before × Sized beginning before) (Facts beginning)
      (λ before event reply told kept. (
        searched_one beginning before event reply told kept.0,
        sized_after beginning before event reply told kept.1,
      ))
      (λ before event reply told kept. record {
        told = told;
        entered = entered_one beginning before event reply told;
        searched = kept.0;
        tells = tells_one beginning before event reply told kept.0;
        outside = limits_one beginning before event reply told kept.0;
        elsewhere = elsewhere_one beginning before event reply told kept.0;
        turn = probes_one beginning before event reply told kept.0;
        sized = kept.1;
      }) (first_is beginning, tt) history told)

-- ---- events whose answer says what they are

-- whether a number is that of the probe in flight
abbrev is_probed : List MtuEntry → ℕ → Bool
is_probed entries number = is_some (size_at number (probe_in_flight entries))

module _ {Q S M P : Type 0} (first least : ℕ) (history : History Q S M P) (entries : List MtuEntry)
    (G : Reply Q → List MtuEntry → Type 0) where
  -- the goal for an event, by each reply that it may have: that this holds for the reply and the entries then
  abbrev pub Step : Event Q S M P → Reply Q → Type 0
  Step event (Err refusal) = G (Err refusal) entries
  Step (PollMtu now) (Ok (answer.Probe number size)) =
      G (Ok (answer.Probe number size)) (probed now number size ∷ entries)
  Step (PollMtu now) (Ok answer.NoProbe) = G (Ok answer.NoProbe) (unprobed now ∷ entries)
  Step (PeerLimit size) (Ok given) = search_runs entries ≡ false → G (Ok given) (limited size ∷ entries)
  Step (MtuFound mtu) (Ok given) = G (Ok given) (finds mtu ∷ entries)
  Step (Acked Data now number app_limited) (Ok given) =
      G (Ok (answer.Acked (is_probed entries number))) (acked number (size_of history number) ∷ entries)
  Step (Acked there now number app_limited) (Ok given) = G (Ok (answer.Acked false)) entries
  Step (Lost Data number) (Ok given) =
      G (Ok (answer.Lost (is_probed entries number)))
      ((if is_probed entries number then probe_lost else lost number (size_of history number)) ∷ entries)
  Step (Lost there number) (Ok given) = G (Ok (answer.Lost false)) entries
  Step (LossesDone now) (Ok given) =
      (hole : Bool) → G (Ok (answer.BlackHole hole)) ((if hole then reported now else losses_over) ∷ entries)
  Step (ResetPath now) (Ok given) = G (Ok given) (reset first least ∷ entries)
  Step (NewPath now remote true) (Ok given) = G (Ok given) []
  Step RevertPath (Ok given) = G (Ok given) []
  Step event (Ok given) = G (Ok given) entries

module _ {F K Q S M P : Type 0} (beginning : Beginning F K Q S M P) (history : History Q S M P)
    (G : Reply Q → List MtuEntry → Type 0) where
  abbrev Shows : Event Q S M P → Reply Q → Type 0
  Shows =
      let settings = settings_of beginning in
      Step settings.mtu settings.min_mtu history (entered_so_far beginning history) G

  -- the packet of a number exists, and has the size that the history says
  found : (number : ℕ) → Sized beginning history → ¬ (data_packet beginning history number ≡ None)
      → (packet : Packet P M) × (data_packet beginning history number ≡ Some packet)
      × (packet.size ≡ size_of history number)
  found number sized there =
      let sent = sent_by beginning.queue.words ((logs_of beginning history).spaces Data) in
      let packet = is_there (data_packet beginning history number) there in
      (packet.0, packet.1, said_found size_in (size_of history) sent.next sent.tracked sized number packet.0 packet.1)

  -- so it holds
  pub stepped : (event : Event Q S M P) (reply : Reply Q) → Facts beginning history event reply → Shows event reply
      → G reply (entered_so_far beginning ((event, reply) ∷ history))
  stepped (PollMtu now) (Ok answer.NoProbe) known step = grind (arith, known.entered, step)
  stepped (PeerLimit size) (Ok given) known step = grind (arith, known.entered, step known.outside)
  stepped (Acked Data now number app_limited) (Ok given) known step =
      let packet = found number known.sized known.told.1.0 in
      grind (arith, known.tells, known.entered, packet.1, packet.2, step)
  stepped (Lost Data number) (Ok given) known step =
      let packet = found number known.sized known.told.1.0 in
      grind (arith, known.tells, known.entered, packet.1, packet.2, step)
  stepped (LossesDone now) (Ok given) known step =
      grind (
        arith,
        known.told,
        known.entered,
        step (reports (inputs_after beginning history).paths.current.state.discovery),
      )
  stepped (NewPath now remote true) (Ok given) known step = grind (arith, known.entered, step)
  stepped RevertPath (Ok given) known step = grind (arith, known.entered, step)
  stepped event (Ok given) known step = grind (arith, known.tells, known.entered, step)
  stepped event (Err refusal) known step = grind (arith, known.entered, step)
