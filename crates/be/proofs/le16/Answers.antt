use native.Mathlib.Omega.{arith}
use Rattle.be.proofs.Words.{le_halves}
use borrow.Author.Rules.{rules}
use Rattle.be.proofs.le16.Goals as goal

pub returns : goal.returns
returns c =
    let a = c.args in (omega (arith, le_halves a.b.now a.o 1 1 (search rules)), omega arith)
