use Prim.Native.Nat.{◌+◌, ◌≤◌}
use mathlib.Core.Path.{◌≡◌}
use lib.ListN.{length}
use Rattle.be.specs.Lists.{tally}
use Rattle.dir_sf.specs.Entry.{is_wide, wides_of}
use Rattle.dir_sf.specs.Left.{left, bare}
use Rattle.dir_sf.proofs.Entries.count_wide.Given as goal

abbrev pub invariant-loop-x : goal.invariant-loop-x
invariant-loop-x l =
    (goal.iterator-loop-x).can_next l.x-iterator × (goal.iterator-loop-x).is_finite l.x-iterator
    × (wides_of l.parent (bare (left l.fn.self)) ≡ l.c + tally (λ x. is_wide x.target.inode) (bare (left l.x-iterator)))
    × (l.c + length (left l.x-iterator) ≤ 256)
