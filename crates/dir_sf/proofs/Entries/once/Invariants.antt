use mathlib.Core.Path.{◌≡◌}
use lib.ListN.{length}
use Rattle.dir_sf.specs.Fork.{once_ok}
use Rattle.dir_sf.specs.Left.{left, bare}
use Rattle.dir_sf.proofs.Entries.once.Given as goal

abbrev pub invariant-loop-x : goal.invariant-loop-x
invariant-loop-x l =
    (l.self.edition ≡ l.initial.self.edition)
    × (once_ok l.initial.self.edition (bare (left l.initial.self)) ≡ once_ok l.initial.self.edition (bare (left l.self)))

abbrev pub decreases-loop-x : goal.decreases-loop-x
decreases-loop-x l = length (left l.self)
