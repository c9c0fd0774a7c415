use Prim.Native.Nat.{◌≤◌}
use mathlib.Core.Path.{◌≡◌}
use Rattle.dir_sf.specs.Entry.{end_tag}
use Rattle.dir_sf.specs.Left.{left, bare}
use Rattle.dir_sf_edit.proofs.end_of.Given as goal

abbrev pub invariant-loop-x : goal.invariant-loop-x
invariant-loop-x l =
    (goal.iterator-loop-x).can_next l.x-iterator × (goal.iterator-loop-x).is_finite l.x-iterator
    × (end_tag l.fn.entries.edition l.fn.entries.edition.first (bare (left l.fn.entries)) ≡ end_tag l.fn.entries.edition l.low (bare (left l.x-iterator)))
    × (l.low ≤ 65815)
