use mathlib.Core.Path.{refl}
use Rattle.dir_block_test.specs.Passes.{hint}
use Rattle.dir_block_test.proofs.has_slot.Goals as goal

pub returns : goal.returns
unfolding hint
returns c = refl
