use native.Mathlib.Omega.{arith}
use mathlib.Core.Path.{sym, ◌∙◌}
use Rattle.dinode.proofs.Sound.{sound_size, directory_sound}
use Rattle.dinode.proofs.Codes.{length_whole, length_part}
use Rattle.dinode.proofs.data_long.Goals as goal

pub be8-forkoff-requires : goal.be8-forkoff-requires
be8-forkoff-requires c =
    omega (arith, sound_size _ _ (directory_sound _ _ c.requires.1))

pub overflow_sub-result : goal.overflow_sub-result
overflow_sub-result c =
    omega (arith, sound_size _ _ (directory_sound _ _ c.requires.1), c.requires.0.literal_most)

pub returns-then-forkoff-eq0 : goal.returns-then-forkoff-eq0
returns-then-forkoff-eq0 c =
    length_whole _ _ (sym c.be8-forkoff.ensures.0 ∙ c.if-forkoff-eq0.true)

pub returns : goal.returns
returns c =
    rw c.be8-forkoff.ensures.0 (length_part _ _ (λ q. c.if-forkoff-eq0.false (c.be8-forkoff.ensures.0 ∙ q)))
