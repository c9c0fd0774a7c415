use Prim.Native.Nat.{◌+◌}
use native.Mathlib.Omega.{arith}
use Rattle.be.proofs.Parts.{field_halves, field_1}
use borrow.Author.Rules.{rules}
use Rattle.be.proofs.be16.Goals as goal

pub returns : goal.returns
returns c =
    let a = c.args in (omega (arith, field_halves a.b.now a.o 1 1 (search rules), field_1 a.b.now a.o, field_1 a.b.now (a.o + 1)), omega arith)
