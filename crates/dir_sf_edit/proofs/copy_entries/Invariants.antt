use Rattle.dir_sf.specs.Entry.{width_of}
use Rattle.dir_sf.specs.Left.{left, bare}
use Rattle.dir_sf_edit.proofs.Copies.{Copy}
use Rattle.dir_sf_edit.proofs.copy_entries.Given as goal

abbrev pub invariant-loop-x : goal.invariant-loop-x
invariant-loop-x l =
    (goal.iterator-loop-x).can_next l.x-iterator × (goal.iterator-loop-x).is_finite l.x-iterator
    × Copy l.fn.entries.edition (width_of l.after) l.initial.b l.to (bare (left l.fn.entries)) l.b l.o (bare (left l.x-iterator))
