use mathlib.Core.Path.{ap₂}
use mathlib.Core.Bool.{Bool, ◌&&◌}
use Rattle.attr_sf.specs.Entry.{legal_key}
use Rattle.attr_sf.proofs.Key.legal.Goals as goal

pub returns : goal.returns
unfolding legal_key
returns c = ap₂ (λ (x y : Bool). x && y) c.attr_legal.ensures c.flags_legal.ensures
