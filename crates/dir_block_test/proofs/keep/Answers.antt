use mathlib.Core.Path.{sym}
use lib.Seq.{set_out}
use Rattle.dir_block_test.proofs.keep.Goals as goal

pub returns-else-a-cells : goal.returns-else-a-cells
returns-else-a-cells c = sym (set_out _ _ _ c.if-a-cells.false)
