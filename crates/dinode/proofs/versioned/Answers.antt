use mathlib.Core.Path.{refl}
use Rattle.dinode.specs.Core.{version_ok}
use Rattle.dinode.proofs.versioned.Goals as goal

pub returns : goal.returns
unfolding version_ok
returns c = refl
