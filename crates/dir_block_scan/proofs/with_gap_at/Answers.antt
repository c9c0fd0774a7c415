use mathlib.Core.Path.{◌∙◌}
use Rattle.dir_block_scan.proofs.PutBy.{put_ahead}
use Rattle.dir_block_scan.proofs.with_gap_at.Goals as goal

pub returns : goal.returns
returns c = (c.insert.ensures.0 ∙ put_ahead _ _, c.insert.ensures.1 ∙ put_ahead _ _)
