use mathlib.Core.Path.{refl}
use borrow.Author.Tests.{not-true, not-false}
use Rattle.dir_block_test.proofs.NamePlaces.{fits_illegal, fits_other, fits_dot, fits_dotdot}
use Rattle.dir_block_test.proofs.name_fits.Goals as goal

pub returns-then-not-legal : goal.returns-then-not-legal
returns-then-not-legal c = fits_illegal _ _ _ _ c.requires.legal_value c.if-not-legal.true

pub returns-then-s-e : goal.returns-then-s-e
returns-then-s-e c =
    fits_other _ _ _ _ c.requires.legal_value c.if-not-legal.false c.if-s-e.true

pub returns-then-equal-o : goal.returns-then-equal-o
returns-then-equal-o c =
    fits_dot _ _ _ _ c.requires.legal_value c.if-not-legal.false _ c.equal.ensures _ refl (not-true _ c.if-equal-o.true)

pub returns : goal.returns
returns c =
    fits_dotdot _ _ _ _ c.requires.legal_value c.if-not-legal.false _ c.equal.ensures _ refl (not-false _ c.if-equal-o.false) _ c.equal-2.ensures _ refl
