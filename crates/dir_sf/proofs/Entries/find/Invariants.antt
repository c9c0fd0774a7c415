use Prim.Native.Nat.{◌+◌}
use mathlib.Core.Path.{◌≡◌}
use lib.ListN.{length}
use Rattle.dir_sf.specs.Left.{left, first_hit}
use Rattle.dir_sf.proofs.Entries.find.Given as goal

abbrev pub invariant-loop-index : goal.invariant-loop-index
invariant-loop-index l =
    (goal.iterator-loop-index).can_next l.index-iterator × (goal.iterator-loop-index).is_finite l.index-iterator
    × (l.index-iterator.count + length (left l.index-iterator.iter) ≡ l.fn.self.left)
    × (first_hit l.e l.name 0 (left l.fn.self) ≡ first_hit l.e l.name l.index-iterator.count (left l.index-iterator.iter))
