use native.Mathlib.Omega.{arith}
use mathlib.Core.Path.{sym}
use Rattle.refusal.proofs.Passed.{passed_on, given}
use Rattle.dinode.specs.Core.{attributes_fork, attr_start, attr_length}
use Rattle.dinode.proofs.Sound.{sound_size, sound_fits, attributes_sound}
use Rattle.dinode.proofs.fork_of_attributes.Goals as goal

pub returns-in_err-check_attributes : goal.returns-in_err-check_attributes
unfolding attributes_fork
returns-in_err-check_attributes c = passed_on _ _ _ c.from_residual.ensures.1 c.in_err-check_attributes.ensures

pub be8-requires : goal.be8-requires
be8-requires c = omega (arith, sound_size _ _ (attributes_sound _ _ (sym c.in_ok-check_attributes.ensures)))

pub overflow_sub-result : goal.overflow_sub-result
overflow_sub-result c = omega (arith, sound_fits _ _ (attributes_sound _ _ (sym c.in_ok-check_attributes.ensures)), c.be8.ensures)

pub returns : goal.returns
unfolding attributes_fork attr_start attr_length
returns c = rw c.be8.ensures.0 (given _ c.in_ok-check_attributes.ensures)
