use mathlib.Core.Path.{◌≡◌}
use Rattle.dir_block_test.specs.Passes.{cells_of}
use Rattle.dir_block_test.proofs.SlotWalk.{Ordering}
use Rattle.dir_block_test.proofs.Block.slots.Given as goal

abbrev pub invariant-loop-i : goal.invariant-loop-i
invariant-loop-i l =
    Ordering l.self.b.now l.self.t l.self.n l.self.m l.i l.last l.stale l.good l.equal × (l.cells ≡ cells_of l.self.b.now l.self.t l.initial.cells l.i)
