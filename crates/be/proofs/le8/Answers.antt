use native.Mathlib.Omega.{arith}
use Rattle.be.proofs.Words.{le_1}
use borrow.Author.Rules.{rules}
use Rattle.be.proofs.le8.Goals as goal

pub returns : goal.returns
returns c = let a = c.args in (omega (arith, le_1 a.b.now a.o (search rules)), omega arith)
