-- Persistent congestion (RFC 9002, 7.6): it is reported only with cause, by the events so far.
use Rattle.std.specs.Prelude.{◌≡◌, ℕ, ◌-◌, ◌<◌, ◌⊎◌, true}
use Rattle.recovery_losses.specs.declared.looks.LossPass.{LossPass}
use Rattle.recovery_losses.specs.Losses.{IsOneOf}
use Rattle.recovery_history.specs.History.{History}
use Rattle.recovery_history.specs.Promises.Fates.{is_given, times}
use Rattle.recovery_history.specs.Promises.Paths.{generations}
use Rattle.recovery_sender.specs.declared.sender.losses.Losses.{Losses}
use Rattle.recovery_sender.specs.Promises.Lost.{IsLostBy, elicits_by, sent_at}
use Rattle.recovery_sender.specs.Promises.Samples.{has_sample, is_sent_on, is_sent_sampled}

-- `sampled` is when the path in use had its first RTT sample, as the sender's variables have it
module _ {Q S M P : Type 0} (look : LossPass) (losses : Losses) (sampled : ℕ) (past : History Q S M P) where
  -- it was sent after the path in use had an RTT sample; or, in another space than that of the sample, later by the
  -- clock (RFC 9002, 7.6.2 and B.8)
  abbrev pub IsAfterSample : ℕ → Type 0
  IsAfterSample number = let path = (generations past).current in
      (is_sent_sampled path look.space past number ≡ true)
      ⊎ (has_sample path past ≡ true) × (sampled < sent_at look.space past number)

  -- an ack-eliciting packet that was declared lost, and was sent on the path in use after its first RTT sample
  pub record EndsPersistence (number : ℕ) : Type 0 where
    pub lost : IsOneOf number losses.numbers.items
    pub elicits : elicits_by look.space past number ≡ true
    pub here : is_sent_on (generations past).current look.space past number ≡ true
    pub sampled_before : IsAfterSample number

  -- there are two such packets, sent more than the period apart (7.6.1), and each number between them is that of a lost
  -- packet, or of none
  pub record HasPersisted : Type 0 where
    pub first : ℕ
    pub last : ℕ
    pub rises : first < last
    pub begins : EndsPersistence first
    pub ends : EndsPersistence last
    pub between : (number : ℕ) → first < number → number < last
        → IsLostBy look past number ⊎ (times (is_given look.space number) past ≡ 0)
    pub long : look.period < sent_at look.space past last - sent_at look.space past first

  -- if congestion is reported to be persistent
  abbrev pub PersistsByEvents : Type 0
  PersistsByEvents = losses.is_persistent ≡ true → HasPersisted
