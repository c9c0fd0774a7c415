use native.Mathlib.Omega.{arith}
use Rattle.dir_block_twice.proofs.SortedSlots.{ascends_less, sorted_once}
use Rattle.dir_block_twice.proofs.Slots.judge.Goals as goal

pub cell-j-requires : goal.cell-j-requires
cell-j-requires c = omega (arith, c.ascending-k.ensures.1 c.if-k-m.true)

pub returns-then-ranked : goal.returns-then-ranked
returns-then-ranked c =
    let a = c.args in
    let up = ascends_less a.self.block.now a.self.at a.self.count a.order.now _ a.m c.ascending-k.ensures.0 c.if-k-m.false in
    sorted_once a.self.block.now a.self.at a.self.count a.order.now a.rank.now a.m up (c.ranked.ensures c.if-ranked.true) a.e
