use mathlib.Core.Path.{ap}
use mathlib.Core.Bool.{Bool, not, ◌&&◌}
use lib.Dec.{eqb}
use Rattle.dir.specs.Target.{legal_in}
use Rattle.dir.proofs.legal_in.Goals as goal

pub returns : goal.returns
unfolding legal_in
returns c = ap (λ (x : Bool). x && not (eqb c.args.t.inode c.args.own)) c.target_legal.ensures
