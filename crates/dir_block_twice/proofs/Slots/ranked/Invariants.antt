use Rattle.dir_block_twice.proofs.SortedSlots.{RankedTo}
use Rattle.dir_block_twice.proofs.Slots.ranked.Given as goal

abbrev pub invariant-loop-i : goal.invariant-loop-i
invariant-loop-i l =
    RankedTo l.self.block.now l.self.at l.self.count l.order l.rank l.m l.i
