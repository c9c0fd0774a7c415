use mathlib.Core.Path.{◌∙◌}
use Rattle.dir_block_scan.proofs.PutBy.{put_longer}
use Rattle.dir_block_scan.proofs.with_gap.Goals as goal

pub returns : goal.returns
returns c = (c.insert.ensures.0 ∙ put_longer _ _, c.insert.ensures.1 ∙ put_longer _ _)
