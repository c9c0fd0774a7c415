use mathlib.Core.Path.{refl, sym}
use borrow.Author.Tests.{eq-eqb, ne_eqb}
use Rattle.dir.proofs.kept.Goals as goal

pub returns-then-e-eq0 : goal.returns-then-e-eq0
returns-then-e-eq0 c = sym (rw (eq-eqb _ _ c.if-e-eq0.true) refl)

pub returns : goal.returns
returns c = sym (rw (ne_eqb _ _ c.if-e-eq0.false) refl)
