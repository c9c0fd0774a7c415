use native.Mathlib.Omega.{arith}
use Rattle.be.proofs.Parts.{field_halves}
use borrow.Author.Rules.{rules}
use Rattle.be.proofs.be64.Goals as goal

pub returns : goal.returns
returns c =
    let a = c.args in omega (arith, field_halves a.b.now a.o 4 4 (search rules))
