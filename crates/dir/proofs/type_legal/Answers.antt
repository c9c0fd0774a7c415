use mathlib.Core.Path.{refl}
use Rattle.dir.specs.Target.{legal_type}
use Rattle.dir.proofs.type_legal.Goals as goal

pub returns : goal.returns
unfolding legal_type
returns c = refl
