use mathlib.Core.Path.{◌∙◌, ap}
use Rattle.dir_block_laws.specs.BestSoFar.{ins, ins_all}
use Rattle.dir_block_scan.proofs.merged.Goals as goal

pub returns : goal.returns
unfolding ins_all
returns c =
    c.with_gap.ensures.0 ∙ ap (ins _) (c.with_gap-r3.ensures.0 ∙ ap (ins _) (c.with_gap-r2.ensures.0 ∙ ap (ins _) c.with_gap-r1.ensures.0))
