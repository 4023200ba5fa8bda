-- A slot and its parts own what a box at the same types owns.
use mir.Syntax.{impl, tnil, dnil}
use mathlib.Core.List.{[]}
use denote.Param.Laws.{Laws}
use denote.RattleType.{RattleType}
use denote.Signature.{Slot, plain}
use Rattle.std_alloc.proofs.BoxSteps.Form.{Bx}
use Rattle.std_heap.specs.contracts.Global as Heap
use Rattle.std_heap.specs.contracts.GlobalAllocator.TheImpl.{ghosts, dict}
use Rattle.std_heap.proofs.Global.TheLaws as heap
use Rattle.recovery_mtud.specs.contracts.mtud.MtuDiscovery as Discovery
use Rattle.recovery_mtud.proofs.mtud.MtuDiscovery.TheLaws as discovery
use Rattle.recovery_stack.specs.contracts.stack.Stack as Stack
use Rattle.recovery_stack.proofs.stack.Stack.TheLaws as stack
use Rattle.recovery_stack.specs.contracts.parts.Parts as Parts
use Rattle.recovery_stack.specs.contracts.slot.Slot as Held
use Rattle.recovery_stack.specs.contracts.mtu_slot.MtuSlot as HeldSearch

abbrev pub boxed : (row : RattleType) → Laws row → Bx
boxed row laws = record {
  row = row;
  laws = laws;
  al = record {
    row = Heap.the_row;
    laws = heap.the_row_laws;
    g = ghosts;
    d = dict;
    drops = impl [] tnil dnil;
  };
}

abbrev pub parts_at : RattleType → Slot 0
parts_at row = plain (λ _. Parts.the_row row Heap.the_row ghosts)

abbrev pub Recovery : Bx
Recovery = boxed Stack.the_row stack.the_row_laws

abbrev pub RecoveryParts : Slot 0
RecoveryParts = parts_at Stack.the_row

abbrev pub RecoverySlot : Slot 0
RecoverySlot = plain (λ _. Held.the_row)

abbrev pub Search : Bx
Search = boxed Discovery.the_row discovery.the_row_laws

abbrev pub SearchParts : Slot 0
SearchParts = parts_at Discovery.the_row

abbrev pub SearchSlot : Slot 0
SearchSlot = plain (λ _. HeldSearch.the_row)
