use mathlib.Core.Path.{refl, ap, ◌∙◌}
use native.Mathlib.Omega.{arith}
use Rattle.name.specs.Name.{hash_from}
use Rattle.name.proofs.Hashing.{hash_end}
use Rattle.name.proofs.FirstBytes.{first_short}
use Rattle.name.proofs.hash_short.Goals as goal

pub returns-then-n-eq0 : goal.returns-then-n-eq0
returns-then-n-eq0 c = hash_end c.args.s.now 0 0 _ (omega arith) refl

pub returns : goal.returns
returns c = c.hash_first.ensures ∙ ap (hash_from 0) (first_short c.args.s.now 0 (omega arith))
