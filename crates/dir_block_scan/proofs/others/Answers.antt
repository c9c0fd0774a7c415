use Rattle.dir_block_scan.proofs.TableStored.{besides_two}
use Rattle.dir_block_scan.proofs.others.Goals as goal

pub returns : goal.returns
returns c =
    besides_two _ _ _ _ _ _ _ c.ordered-d.ensures c.start.ensures.0 c.with_some-t.ensures.0 c.with_some.ensures.0
