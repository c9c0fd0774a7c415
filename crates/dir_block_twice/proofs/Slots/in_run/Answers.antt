use Rattle.dir_block_twice.proofs.TwinKeys.{either_first, either_second}
use Rattle.dir_block_twice.proofs.Slots.in_run.Goals as goal

pub returns-then-follows : goal.returns-then-follows
returns-then-follows c = either_first _ _ _ c.follows.ensures c.if-follows.true

pub returns : goal.returns
returns c = either_second _ _ _ _ c.follows.ensures c.if-follows.false c.runs_on.ensures
