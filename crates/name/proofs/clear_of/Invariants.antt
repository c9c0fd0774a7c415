use mathlib.Core.Bool.{◌&&◌}
use mathlib.Core.Path.{◌≡◌}
use lib.Dec.{eqb}
use lib.ListN.{drop}
use Rattle.be.specs.Lists.{every}
use Rattle.name.specs.Name.{clear_of}
use Rattle.name.proofs.clear_of.Given as goal

abbrev pub invariant-loop-x : goal.invariant-loop-x
invariant-loop-x l = every (clear_of l.t) l.s ≡ (eqb l.bad 0 && every (clear_of l.t) (drop l.x-index l.s))
