use mathlib.Core.Path.{refl}
use Rattle.dir_block_rules.specs.Change.{best_of}
use Rattle.dir_block_scan.proofs.start.Goals as goal

pub returns : goal.returns
unfolding best_of
returns c = (refl, refl, refl)
