use Rattle.dir_block_scan.proofs.with_some.Goals as goal

pub returns-then-put : goal.returns-then-put
returns-then-put c = (rw c.if-put.true c.with_gap.ensures.0, rw c.if-put.true c.with_gap.ensures.1)

pub returns : goal.returns
returns c = (rw c.if-put.false, rw c.if-put.false)
