use mathlib.Core.Path.{ap₂}
use mathlib.Core.Bool.{Bool, ◌&&◌}
use Rattle.dir.specs.Target.{legal_target}
use Rattle.dir.proofs.target_legal.Goals as goal

pub returns : goal.returns
unfolding legal_target
returns c = ap₂ (λ (x y : Bool). x && y) c.number_legal.ensures c.type_legal.ensures
