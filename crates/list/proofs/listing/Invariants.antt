use Prim.Native.Nat.{◌-◌}
use Rattle.dir_block_laws.specs.Pass.{Place}
use Rattle.list.proofs.listing.Given as goal

abbrev pub invariant-loop-p : goal.invariant-loop-p
invariant-loop-p l = Place l.e l.b l.p

abbrev pub decreases-loop-p : goal.decreases-loop-p
decreases-loop-p l = l.end - l.p
