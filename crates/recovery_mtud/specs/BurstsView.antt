-- The value of a `Bursts` in contracts.
use Rattle.std.specs.Prelude.{ℕ, ◌≡◌, ◌-◌, ◌≤◌, List, ◌++◌, length, take, replicate, refl}
use Rattle.std.proofs.Common.{arith, length-take}
use Rattle.recovery_mtud.specs.declared.bursts.Bursts.TheInside.{Inside}
use Rattle.recovery_mtud.specs.Bursts.{black_hole_bursts}

-- the sizes, without the zeros after them
abbrev pub sizes_in : Inside → List ℕ
sizes_in bursts = take bursts.count bursts.sizes

-- there are at most four sizes, followed by zeros
pub record AreBurstSizesPadded (bursts : Inside) : Type 0 where
  pub few : bursts.count ≤ black_hole_bursts
  pub room : length bursts.sizes ≡ black_hole_bursts
  pub zeros : bursts.sizes ≡ take bursts.count bursts.sizes ++ replicate (black_hole_bursts - bursts.count) 0

-- the value with these sizes
abbrev pub padded : List ℕ → Inside
padded sizes = record { sizes = sizes ++ replicate (black_hole_bursts - length sizes) 0; count = length sizes }

-- a value is determined by its sizes
pub padded-sizes_in : (bursts : Inside) → AreBurstSizesPadded bursts → padded (sizes_in bursts) ≡ bursts
padded-sizes_in bursts sound =
    let count : length (take bursts.count bursts.sizes) ≡ bursts.count =
    omega (arith, length-take bursts.count bursts.sizes, sound.few, sound.room) in
    rw (count, ← sound.zeros) refl
