use mathlib.Core.Path.{sym, ◌∙◌}
use Rattle.dir_block_test.proofs.OwnWord.{fits_not, fits_other, fits_own}
use Rattle.dir_block_test.proofs.number_fits.Goals as goal

pub returns-then-not-number_legal_at : goal.returns-then-not-number_legal_at
returns-then-not-number_legal_at c =
    let p = c.requires in
    fits_not _ (λ i. (c.type_inv.b i).fits) _ _ p.0 p.1 _ _ (sym c.number_legal_at.ensures ∙ c.if-not-number_legal_at.true)

pub returns-then-le64-own : goal.returns-then-le64-own
returns-then-le64-own c =
    let p = c.requires in
    fits_other _ (λ i. (c.type_inv.b i).fits) _ _ p.0 p.1 _ _ (sym c.number_legal_at.ensures ∙ c.if-not-number_legal_at.false)
    (λ q. c.if-le64-own.true (c.le64.ensures ∙ q ∙ sym p.2))

pub returns : goal.returns
returns c =
    let p = c.requires in
    c.fixed.ensures
    ∙ fits_own _ (λ i. (c.type_inv.b i).fits) _ _ p.0 p.1 _ _ (sym c.number_legal_at.ensures ∙ c.if-not-number_legal_at.false)
    (sym c.le64.ensures ∙ c.if-le64-own.false ∙ p.2)
