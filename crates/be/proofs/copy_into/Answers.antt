use native.Mathlib.Omega.{arith}
use mathlib.Core.Path.{ap, ◌∙◌}
use Rattle.be.specs.Bytes.{put}
use Rattle.be.proofs.Writes.{lent_put}
use Rattle.be.proofs.copy_into.Goals as goal

pub returns : goal.returns
returns c =
    lent_put _ _ _ _ (omega arith) (omega (arith, c.copy_from_slice.ensures.len)) ∙ ap (put c.args.b.now c.args.o) c.copy_from_slice.ensures.after
