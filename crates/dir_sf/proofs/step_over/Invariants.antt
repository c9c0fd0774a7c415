use mathlib.Core.Path.{◌≡◌}
use lib.ListN.{length}
use Rattle.dir_sf.specs.Entry.{width_of}
use Rattle.dir_sf.specs.Inner.{walked_over, walked_in}
use Rattle.dir_sf.specs.Left.{left}
use Rattle.dir_sf.proofs.step_over.Given as goal

abbrev pub invariant-loop-x : goal.invariant-loop-x
invariant-loop-x l =
    (l.entries.edition ≡ l.e) × (l.entries.bytes.now ≡ l.u)
    × (walked_over l.e (width_of l.entries.wides) l.u l.entries.left l.entries.at l.place ≡ walked_in l.e l.u l.place)

abbrev pub decreases-loop-x : goal.decreases-loop-x
decreases-loop-x l = length (left l.entries)
