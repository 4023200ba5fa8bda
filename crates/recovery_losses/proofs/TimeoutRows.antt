-- Worked rows of durations, computed. Nothing depends on them.
use Rattle.std.specs.Prelude.{ℕ, ◌≡◌, ◌*◌, ◌^◌, refl}
use Rattle.recovery_base.specs.Times.{longest_span}
use Rattle.recovery_losses.specs.Timeouts.{loss_delay_of, probe_timeout_of}

abbrev millis : ℕ → ℕ
millis n = n * 10 ^ 6

loss_delay-nine_eighths : loss_delay_of (9, 8) (millis 80) (millis 100) ≡ 112_500_000
loss_delay-nine_eighths = refl

loss_delay-least : loss_delay_of (9, 8) 8 0 ≡ millis 1
loss_delay-least = refl

-- a time threshold below 1 counts as 1
loss_delay-below_one : loss_delay_of (1, 2) (millis 80) (millis 100) ≡ millis 100
loss_delay-below_one = refl

-- the third consecutive probe timeout, with a max_ack_delay of 25 ms
probe_timeout-doubled : probe_timeout_of (millis 100) (millis 25) 2 ≡ millis 500
probe_timeout-doubled = refl

probe_timeout-longest : probe_timeout_of (millis 100) 0 90 ≡ longest_span
probe_timeout-longest = refl
