-- The contents of a handle: what a box owns, or nothing. For a recovery's stack and an MTU discovery alike.
use base.Fml.{Fml, ftrue}
use Rattle.std.specs.Coded.{Coded, coded_option}
use denote.RattleType.{RattleType}
use denote.RawPtr.{Ptr}
use Rattle.std.specs.Box.Ownership.{box_owns}
use Rattle.std.specs.Global.{Global}
use Rattle.std.specs.Prelude.{◌≡◌, Bool, true, false, Some, None}
use Rattle.std.specs.declared.option.Option.{Option}
use Rattle.std_heap.specs.contracts.GlobalAllocator.TheImpl.{ghosts}
use Rattle.recovery_mtud.specs.contracts.mtud.MtuDiscovery as Discovery
use Rattle.recovery_stack.specs.contracts.stack.Stack as Stack

abbrev pub held_owns : (row : RattleType) → Global → Ptr → Option row.Denot → Fml
held_owns row alloc ptr None = ftrue
held_owns row alloc ptr (Some value) = box_owns (ghosts.dealloc_token alloc) row ptr value

abbrev pub held_coded : (row : RattleType) → Coded (Option row.Denot)
held_coded row = coded_option row.coded

abbrev pub stack_owns : Global → Ptr → Option Stack.the_row.Denot → Fml
stack_owns = held_owns Stack.the_row

abbrev pub stack_coded : Coded (Option Stack.the_row.Denot)
stack_coded = held_coded Stack.the_row

abbrev pub discovery_owns : Global → Ptr → Option Discovery.the_row.Denot → Fml
discovery_owns = held_owns Discovery.the_row

abbrev pub discovery_coded : Coded (Option Discovery.the_row.Denot)
discovery_coded = held_coded Discovery.the_row

-- something is held
abbrev pub IsHeld : {T : Type 0} → Option T → Type 0
IsHeld None = ⊥
IsHeld (Some value) = Unit {0}

-- it is held if it was made, and else nothing
abbrev pub HoldsIf : {T : Type 0} → Bool → T → Option T → Type 0
HoldsIf true value held = held ≡ Some value
HoldsIf false value held = held ≡ None
