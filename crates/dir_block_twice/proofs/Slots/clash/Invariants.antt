use Rattle.dir_block_twice.specs.Twice.{hash_at, addr_at}
use Rattle.dir_block_twice.proofs.TwinWalk.{Clashing}
use Rattle.dir_block_twice.proofs.Slots.clash.Given as goal

abbrev pub invariant-loop-j : goal.invariant-loop-j
invariant-loop-j l =
    Clashing l.e l.self.block.now l.self.at l.self.count (hash_at l.self.block.now l.self.at l.i) (addr_at l.self.block.now l.self.at l.i) l.i l.j
