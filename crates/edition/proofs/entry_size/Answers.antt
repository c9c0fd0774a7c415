use native.Mathlib.Omega.{arith}
use mathlib.Core.Path.{refl}
use Rattle.edition.specs.Edition.{entry_size}
use Rattle.edition.proofs.entry_size.Goals as goal

pub returns : goal.returns
unfolding entry_size
returns c = (refl, (omega arith, omega arith))
