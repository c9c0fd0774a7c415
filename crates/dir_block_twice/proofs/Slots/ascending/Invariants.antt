use Prim.Native.Nat.{◌-◌}
use Rattle.dir_block_twice.proofs.SortedSlots.{AscendsTo}
use Rattle.dir_block_twice.proofs.Slots.ascending.Given as goal

abbrev pub invariant-loop-k : goal.invariant-loop-k
invariant-loop-k l =
    AscendsTo l.self.block.now l.self.at l.self.count l.order (l.k - 1)
