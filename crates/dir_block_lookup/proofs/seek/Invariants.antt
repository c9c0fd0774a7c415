use Prim.Native.Nat.{◌≤◌}
use Rattle.dir_block_laws.proofs.SlotSearch.{Run}
use Rattle.dir_block_lookup.proofs.seek.Given as goal

abbrev pub invariant-loop-i : goal.invariant-loop-i
invariant-loop-i l = Run l.e l.b l.name l.i l.compared × (l.i ≤ l.count)
