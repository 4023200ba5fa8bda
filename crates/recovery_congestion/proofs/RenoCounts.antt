-- NewReno counts every byte that is acknowledged: its `on_ack` rests on it.
use Rattle.std.specs.Prelude.{ℕ, ◌≡◌, ◌+◌, ◌-◌, ◌*◌, ◌≤◌, Bool, true, false, nat_le, if◌then◌else◌, refl}
use Rattle.std.proofs.Common.{arith, ap, subst, sym}
use Rattle.std.proofs.lemmas.Bool.Decides.{nat_tests}
use Rattle.recovery_base.specs.Units.{largest_u64}
use Rattle.recovery_congestion.specs.declared.congestion.new_reno.NewReno.{NewReno}
use Rattle.recovery_congestion.specs.NewReno.{sum_to_most, avoided, AvoidsBelowMost, CountsBytes}

-- a window of bytes is subtracted from the count, and the window grows by one MTU
counts-grown : (w m c b counted grown : ℕ) → counted ≡ c + b → grown ≡ w + m → w ≤ counted
    → grown * grown + 2 * m * (counted - w) + m * w ≡ w * w + 2 * m * c + m * grown + 2 * m * b
counts-grown w m c b counted grown sum grows enough =
    let left = counted - w in
    let split : left + w ≡ c + b = omega (arith, sum, enough) in
    let scaled : 2 * m * (left + w) ≡ 2 * m * (c + b) = ap (λ x. 2 * m * x) split in
    let here : (w + m) * (w + m) + 2 * m * left + m * w ≡ w * w + 2 * m * c + m * (w + m) + 2 * m * b =
    omega (arith, scaled) in
    subst (λ (x : ℕ). x * x + 2 * m * left + m * w ≡ w * w + 2 * m * c + m * x + 2 * m * b) (sym grows) here

-- the window is unchanged
counts-kept : (w m c b counted : ℕ) → counted ≡ c + b
    → w * w + 2 * m * counted + m * w ≡ w * w + 2 * m * c + m * w + 2 * m * b
counts-kept w m c b counted sum =
    let scaled : 2 * m * counted ≡ 2 * m * (c + b) = ap (λ x. 2 * m * x) sum in
    omega (arith, scaled)

-- in congestion avoidance
pub counts-avoided : (sent bytes : ℕ) (limited : Bool) (reno : NewReno) → AvoidsBelowMost sent bytes limited reno
    → CountsBytes bytes reno (avoided (sum_to_most reno.bytes_acked bytes) reno)
counts-avoided sent bytes limited reno below = go (nat_le reno.window counted) refl
  where
    counted : ℕ
    counted = sum_to_most reno.bytes_acked bytes

    sum : counted ≡ reno.bytes_acked + bytes
    sum = omega (arith, below.counted)

    go : (test : Bool) → nat_le reno.window counted ≡ test
        → CountsBytes bytes reno (if test then record reno {
          window = sum_to_most reno.window reno.current_mtu;
          bytes_acked = counted - reno.window;
        }
        else record reno { bytes_acked = counted })
    go true is =
        let enough : reno.window ≤ counted = grind (arith, nat_tests) in
        let room : reno.window + reno.current_mtu ≤ largest_u64 = below.grown (omega (arith, sum, enough)) in
        let grows : sum_to_most reno.window reno.current_mtu ≡ reno.window + reno.current_mtu = omega (arith, room) in
        counts-grown reno.window reno.current_mtu reno.bytes_acked bytes counted
        (sum_to_most reno.window reno.current_mtu) sum grows enough
    go false is = counts-kept reno.window reno.current_mtu reno.bytes_acked bytes counted sum
