use mathlib.Core.Path.{refl}
use Rattle.name.specs.Name.{legal_number}
use Rattle.name.proofs.number_legal.Goals as goal

pub returns : goal.returns
unfolding legal_number
returns c = refl
