-- What an end does with its sender at each step, from its calls.
use Rattle.std.proofs.Common.{◌≡◌, ℕ, ◌+◌, ◌≤◌, ◌&&◌, ◌⊎◌, inl, inr, Bool, true, false, List, Option, None, Some, Result, Ok, refl, sym, subst, arith, ◌∙◌}
use Rattle.std.proofs.Math.Path.{fun_ext}
use Rattle.std.specs.Prelude.{not, if◌then◌else◌}
use Rattle.std.specs.Global.{Vec}
use Rattle.recovery_base.specs.declared.below.SpaceId.{SpaceId}
use Rattle.recovery_losses.specs.Frames.{IsInAckRanges, largest_of}
use Rattle.recovery_losses.specs.Variables.{is_probe_due}
use Rattle.recovery_history.specs.History.{begins, queue_model}
use Rattle.recovery_sender.specs.Calls.{bytes_in_flight, window_of}
use Rattle.recovery_sender.specs.Promises.Lost.{elicits_by, sent_at}
use Rattle.recovery_sender.specs.Senders.{state_in}
use Rattle.recovery_sender.specs.declared.sender.packets.Transmission.{Transmission}
use Rattle.recovery_sender.specs.declared.sender.packets.Transmission.TheVariants.{Transmitted}
use Rattle.recovery_sender.specs.declared.sender.Sender.{Sender}
use Rattle.recovery_sender.specs.declared.sender.SenderError.{SenderError}
use Rattle.recovery_pair.specs.declared.endpoint.Outgoing.{Outgoing}
use Rattle.recovery_pair.specs.declared.endpoint.Outgoing.TheVariants.{Nothing, Held, Failed, Sent}
use Rattle.recovery_pair.specs.declared.steps.AckOutcome.{AckOutcome}
use Rattle.recovery_pair.specs.declared.steps.End.{End}
use Rattle.recovery_pair.specs.declared.steps.Fate.TheVariants.{New}
use Rattle.recovery_pair.specs.declared.steps.WirePacket.{WirePacket}
use Rattle.recovery_pair.specs.Frames.{IsFrameFor}
use Rattle.recovery_pair.specs.Flights.{counted_if}
use Rattle.recovery_pair.specs.Pasts.{AcksWithin, Continues, Endings, GivesSample, GoesOn, GoesOnQuietly, HearsNumber, NoAccusation, SampledBy, SendsNumber, arriving, ending, endings_by_ack, leaving, no_endings, quiet, with_congestion}
use Rattle.recovery_pair.specs.Carried.{lost_by_ack}
use Rattle.recovery_pair.specs.Falls.{FindsWithCause, WasLost}
use Rattle.recovery_pair.specs.LeastWindows.{persists_by_ack}
use Rattle.recovery_pair.specs.Newly.{AcksFlightBy}
use Rattle.recovery_pair.specs.Permits.{FitsChecked}
use Rattle.recovery_pair.specs.Promises.Framed.{HasFrame}
use Rattle.recovery_pair.specs.Promises.Newly.{all_but}
use Rattle.recovery_pair.specs.Turns.{FitsIfPermitted, HearsPacket, PacksPacket, PackTurn, SendsPacket, SendTurn}
use Rattle.recovery_pair.proofs.FrameLaws.{pending_received, received_pending}
use Rattle.recovery_pair.proofs.GoingLaws.{arrives_then_hears, hears_then_ends, hears_then_quiet, leaves_then_sends, left_quietly, quiet_then, quiet_then_sends, sends_then_quiet}
use Rattle.recovery_pair.proofs.NewlyLaws.{flight_before}
use Rattle.recovery_pair.proofs.AlongLaws.{joined}

-- a sample by other words for what was sent that are the same
pub sample_same : (one other : ℕ → ℕ) (elicits eliciting : ℕ → Bool) (now : ℕ) (largest : Option ℕ)
    → ((n : ℕ) → one n ≡ other n) → ((n : ℕ) → elicits n ≡ eliciting n)
    → (outcome : AckOutcome) → GivesSample one elicits now largest outcome
    → GivesSample other eliciting now largest outcome
sample_same one other elicits eliciting now largest times kinds outcome is =
    subst (λ (sent : ℕ → ℕ). GivesSample sent eliciting now largest outcome) (fun_ext times)
    (subst (λ (kind : ℕ → Bool). GivesSample one kind now largest outcome) (fun_ext kinds) is)

module _ {F Q R C K S M P : Type 0} {f : _} {c : _} {q : _} {m : _} {r : _} where
  module _ (counted : ℕ) (eliciting : Bool) (space : SpaceId) (n : ℕ) (largest : Option ℕ) (now : ℕ)
      (old between new : Sender F Q R C K S M P f c q m r) where
    pub quietly_sends : Continues GoesOnQuietly old between
        → Continues (SendsNumber 0 counted eliciting space n largest now) between new
        → Continues (SendsNumber 0 counted eliciting space n largest now) old new
    quietly_sends = joined GoesOnQuietly (SendsNumber 0 counted eliciting space n largest now)
        (SendsNumber 0 counted eliciting space n largest now)
        (quiet_then_sends 0 counted eliciting space n largest now) old between new

    pub sends_quietly : Continues (SendsNumber 0 counted eliciting space n largest now) old between
        → Continues GoesOnQuietly between new → Continues (SendsNumber 0 counted eliciting space n largest now) old new
    sends_quietly = joined (SendsNumber 0 counted eliciting space n largest now) GoesOnQuietly
        (SendsNumber 0 counted eliciting space n largest now)
        (sends_then_quiet 0 counted eliciting space n largest now) old between new

  -- ---- a window that is checked

  -- it has room for what is permitted
  pub fits_checked : (sender : Sender F Q R C K S M P f c q m r) (space : SpaceId) (size : ℕ) (eliciting : Bool)
      (result : Result Transmission SenderError)
      → (result ≡ Ok Transmitted → eliciting ≡ true → is_probe_due sender.variables space ≡ false
      → bytes_in_flight (state_in sender) + size ≤ window_of c.words (state_in sender))
      → FitsIfPermitted sender space size eliciting result
  fits_checked sender space size eliciting (Ok Transmitted) fits =
      by eliciting (is_probe_due sender.variables space) (fits refl)
    where
      by : (elicits due : Bool) → (elicits ≡ true → due ≡ false
          → bytes_in_flight (state_in sender) + size ≤ window_of c.words (state_in sender))
          → FitsChecked sender size (if elicits && not due then Some (window_of c.words (state_in sender)) else None)
      by true false room = room refl refl
      by true true room = tt
      by false due room = tt
  fits_checked sender space size eliciting result fits = tt

  window_same : (sender : Sender F Q R C K S M P f c q m r) (size : ℕ) (window checked : Option ℕ)
      → window ≡ checked → FitsChecked sender size checked → FitsChecked sender size window
  window_same sender size window checked same fits =
      subst (λ (one : Option ℕ). FitsChecked sender size one) (sym same) fits

  -- ---- a datagram that is permitted

  packet_goes : (from : End) (space : SpaceId) (now size : ℕ) (eliciting : Bool) (checked : Option ℕ)
      (ranges : List (ℕ × ℕ)) (delay : ℕ) (old between new : Sender F Q R C K S M P f c q m r) (packet : WirePacket)
      (items : Vec ℕ) (window : Option ℕ) → IsFrameFor space now old ranges delay → FitsChecked old size checked
      → Continues (GoesOn (leaving size)) old between
      → PacksPacket between new from space now size eliciting checked ranges delay packet items window
      → SendsPacket old new from space now size packet items window
  packet_goes from space now size eliciting checked ranges delay old between new packet items window frame fits first
      packs =
      record {
        sender = packs.sender;
        there = packs.there;
        sized = packs.sized;
        told = packs.told;
        sound = rw packs.acks frame.sound;
        waited = packs.delays ∙ frame.waited;
        fits = window_same old size window checked packs.window_is fits;
        goes = record {
          from = λ config start random past came. (
              let one = first.from config start random past came in
              let two = packs.goes.from config start random one.0 one.1 in (
                two.0,
                two.1,
                record {
                  sends = rw (packs.elicits, packs.acks) (leaves_then_sends size (counted_if eliciting size) eliciting
                      space packet.number (largest_of ranges) now past one.0 two.0 one.2 two.2);
                  acks = λ k is. pending_received (begins f.built c.words (queue_model q.contents q.words q.blank)
                      config start random) past (state_in old) came space k
                      (frame.each k (subst (IsInAckRanges k) packs.acks is));
                  whole = λ k was kept. subst (IsInAckRanges k) (sym packs.acks) (frame.whole k
                      (received_pending (begins f.built c.words (queue_model q.contents q.words q.blank) config start
                      random) past (state_in old) came space k was kept));
                },
              ));
        };
      }

  -- a packet that does not go out may be left out of what was transmitted
  held_back : (size : ℕ) (old between new : Sender F Q R C K S M P f c q m r)
      → Continues (GoesOn (leaving size)) old between → Continues GoesOnQuietly between new
      → Continues GoesOnQuietly old new
  held_back size = joined (GoesOn (leaving size)) GoesOnQuietly GoesOnQuietly
      (λ past between after first second. quiet_then quiet past between after
      (left_quietly size past between first) second)

  pub packed_turn : (from : End) (space : SpaceId) (now size : ℕ) (eliciting : Bool) (checked : Option ℕ)
      (ranges : List (ℕ × ℕ)) (delay : ℕ) (old between new : Sender F Q R C K S M P f c q m r) (outcome : Outgoing)
      → IsFrameFor space now old ranges delay → FitsChecked old size checked → Continues (GoesOn (leaving size)) old
      between
      → PackTurn between new from space now size eliciting checked ranges delay outcome
      → SendTurn old new from space now size (Ok outcome)
  packed_turn from space now size eliciting checked ranges delay old between new (Sent packet items window) frame fits
      first
      turn =
      packet_goes from space now size eliciting checked ranges delay old between new packet items window frame fits
      first turn
  packed_turn from space now size eliciting checked ranges delay old between new Nothing frame fits first turn =
      held_back size old between new first turn
  packed_turn from space now size eliciting checked ranges delay old between new (Held held) frame fits first turn =
      held_back size old between new first turn
  packed_turn from space now size eliciting checked ranges delay old between new (Failed refusal) frame fits first turn
      =
      held_back size old between new first turn

  -- ---- a packet that arrives

  pub came_turn : (now size : ℕ) (space : SpaceId) (n : ℕ) (reply : Result Bool SenderError)
      (old counted heard : Sender F Q R C K S M P f c q m r) → Continues (GoesOn (arriving size)) old counted
      → Continues (HearsNumber now 0 space n reply no_endings) counted heard
      → Continues (HearsNumber now size space n reply no_endings) old heard
  came_turn now size space n reply =
      joined (GoesOn (arriving size)) (HearsNumber now 0 space n reply no_endings)
      (HearsNumber now size space n reply no_endings) (arrives_then_hears now size space n reply no_endings)

  -- it is new
  pub heard_turn : (now : ℕ) (packet : WirePacket) (items : Vec ℕ) (acked : AckOutcome)
      (old counted heard taken new : Sender F Q R C K S M P f c q m r) → items.items ≡ packet.items.items
      → Continues (GoesOn (arriving packet.size)) old counted
      → Continues (HearsNumber now 0 packet.space packet.number (Ok true) no_endings) counted heard
      → Continues (GoesOn (ending (endings_by_ack packet.space acked))) heard taken → NoAccusation packet.space
      packet.ranges.items heard acked
      → AcksWithin packet.ranges.items acked → HasFrame (largest_of packet.ranges.items) acked
      → SampledBy packet.space now packet.ranges.items heard acked
      → FindsWithCause (persists_by_ack acked) (lost_by_ack packet.space acked) now
      (λ congests. GoesOn (ending (with_congestion congests (endings_by_ack packet.space acked)))) heard taken
      → AcksFlightBy packet.space packet.ranges.items heard acked
      → Continues GoesOnQuietly taken new
      → HearsPacket old new packet now (New items acked)
  heard_turn now packet items acked old counted heard taken new told counts hears takes honest within framed samples
      finds newly plans =
      record {
        goes = goes_by (endings_by_ack packet.space acked) takes;
        takes = record {
          finds = record {
            congests = finds.congests;
            goes = goes_by (with_congestion finds.congests (endings_by_ack packet.space acked)) finds.goes;
            at = finds.at;
            cause = λ found sent is. caused sent (finds.cause found sent is);
          };
          told = told;
          honest = λ sound config start random past at were. (
              let one = came.from config start random past at in
              honest sound config start random one.0 one.1 (λ n is. (
                one.2.goes.given packet.space n (were n is).0,
                (were n is).1,
              )));
          within = within;
          framed = framed;
          sampled = λ config start random past at none. (
              let one = came.from config start random past at in
              sample_same (sent_at packet.space one.0) (sent_at packet.space past) (elicits_by packet.space one.0)
              (elicits_by packet.space past) now (largest_of packet.ranges.items)
              (λ n. one.2.goes.timed packet.space n) (λ n. one.2.goes.elicited packet.space n) acked
              (samples config start random one.0 one.1 (one.2.goes.paths ∙ none)));
          newly = λ config start random past at. (
              let one = came.from config start random past at in
              flight_before packet.space packet.ranges.items past one.0
              (λ n. (let most = one.2.goes.flight (all_but packet.space n) in omega (arith, most))) acked
              (newly config start random one.0 one.1));
        };
      }
    where
      came : Continues (HearsNumber now packet.size packet.space packet.number (Ok true) no_endings) old heard
      came = came_turn now packet.size packet.space packet.number (Ok true) old counted heard counts hears

      goes_by : (ends : Endings) → Continues (GoesOn (ending ends)) heard taken
          → Continues (HearsNumber now packet.size packet.space packet.number (Ok true) ends) old new
      goes_by ends takes =
          let Hears = HearsNumber now packet.size packet.space packet.number (Ok true) in
          joined (Hears ends) GoesOnQuietly (Hears ends)
          (hears_then_quiet now packet.size packet.space packet.number (Ok true) ends) old taken new
          (joined (Hears no_endings) (GoesOn (ending ends)) (Hears ends)
          (hears_then_ends now packet.size packet.space packet.number (Ok true) ends) old heard taken came takes) plans

      caused : (sent : ℕ) → (persists_by_ack acked ≡ true) ⊎ WasLost heard (lost_by_ack packet.space acked) sent
          → (persists_by_ack acked ≡ true) ⊎ WasLost old (lost_by_ack packet.space acked) sent
      caused sent (inl persists) = inl persists
      caused sent (inr (space, n, one, time)) = inr (
        space,
        n,
        one,
        λ config start random past at. (
            let went = came.from config start random past at in
            time config start random went.0 went.1 ∙ went.2.goes.timed space n),
      )
