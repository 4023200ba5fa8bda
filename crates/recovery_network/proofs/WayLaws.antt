-- Items in order of arrival: where one more goes, and that they stay in order.
use Rattle.std.proofs.Common.{◌≡◌, ℕ, ◌≤◌, true, false, leb, List, length, insert, arith}
use Rattle.std.proofs.lemmas.Bool.Decides.{nat_tests}
use Rattle.std.specs.List.Sorted.{IsPartitionedBy, IsPartitionPoint}
use Rattle.std.proofs.lemmas.List.Sorted.{IsNonDecreasingBy-insert, IsPartitionedBy-leb}
use Rattle.recovery_network.specs.declared.way.Carried.{Carried}
use Rattle.recovery_network.specs.Ways.{ArriveInOrder, IsPlaceByArrival}

module _ {T : Type 0} (items : List (Carried T)) where
  pub parted : (arrives : ℕ) → ArriveInOrder items
      → IsPartitionedBy (λ (item : Carried T). leb item.arrives arrives) items
  parted arrives up = IsPartitionedBy-leb (λ (item : Carried T). item.arrives) items arrives up

  pub place_is : (arrives place : ℕ)
      → IsPartitionPoint (λ (item : Carried T). leb item.arrives arrives ≡ true)
      (λ (item : Carried T). leb item.arrives arrives ≡ false) items place
      → IsPlaceByArrival arrives items place
  place_is arrives place parts = (
    λ k d from lt. grind (arith, nat_tests, parts.0 k d from lt),
    λ k d from lt. grind (arith, nat_tests, parts.1 k d from lt),
  )

  pub stays_in_order : (place : ℕ) (item : Carried T) → place ≤ length items → ArriveInOrder items
      → IsPlaceByArrival item.arrives items place → ArriveInOrder (insert items place item)
  stays_in_order place item le up is = IsNonDecreasingBy-insert (λ (item : Carried T). item.arrives) items place item up
      le (λ k d lt. is.0 k d (omega arith) lt) (λ k d from lt. let later = is.1 k d from lt in omega (arith, later))
