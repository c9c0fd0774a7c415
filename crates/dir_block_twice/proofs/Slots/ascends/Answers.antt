use Rattle.dir_block_twice.proofs.NameOrder.{before_at}
use Rattle.dir_block_twice.proofs.Slots.ascends.Goals as goal

pub returns : goal.returns
returns c =
    before_at c.args.self.block.now c.args.self.at c.args.self.count _ _ _ _ _ c.cell.ensures.0 c.cell-2.ensures.0 c.sorts_before.ensures
