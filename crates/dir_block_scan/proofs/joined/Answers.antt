use Rattle.dir_block_scan.proofs.TableStored.{table_joined}
use Rattle.dir_block_scan.proofs.joined.Goals as goal

pub returns : goal.returns
returns c =
    table_joined _ _ _ _ _ _ _ _ _ _ _ c.ordered-d.ensures c.start.ensures.1 c.with_some-t1.ensures.1 c.with_some-t2.ensures.1
    c.with_gap-t3.ensures.1 c.with_some-t4.ensures.1 c.with_some.ensures.1
