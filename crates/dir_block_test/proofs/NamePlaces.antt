-- A name in its place: the tests one after the other.
-- Assumes nothing.
use Prim.Native.Nat.{ℕ, ◌+◌, ◌<◌}
use native.Mathlib.Omega.{arith}
use mathlib.Core.Bool.{Bool, true, false, ◌&&◌, beq}
use mathlib.Core.Path.{◌≡◌, sym, ◌∙◌, ap}
use mathlib.Core.List.{List}
use lib.Dec.{eqb, ltb}
use lib.ListN.{length}
use borrow.Author.Tests.{ltb-true, ne_eqb}
use Rattle.be.proofs.Bools.{and_left, and_right}
use Rattle.be.specs.Lists.{same}
use Rattle.edition.specs.declared.Edition.{Edition}
use Rattle.name.specs.Name.{legal_name, dot, dotdot}
use Rattle.name.proofs.Scans.{unlike}
use Rattle.dir_block_test.specs.Passes.{name_fits}

module _ (e : Edition) (n : List ℕ) (o : ℕ) (l : Bool) (ls : l ≡ legal_name e n) where
  pub fits_illegal : l ≡ false → false ≡ name_fits e o n
  unfolding name_fits
  fits_illegal q = sym (rw (sym ls ∙ q))

  -- three bytes or more, and not where "." or ".." stands
  pub fits_other : l ≡ true → (ltb 2 (length n) && ltb (e.header + 16) o) ≡ true → true ≡ name_fits e o n
  unfolding name_fits
  fits_other q h =
      let long : 2 < length n = ltb-true 2 (length n) (and_left _ _ h) in
      let far : e.header + 16 < o = ltb-true (e.header + 16) o (and_right (ltb 2 (length n)) _ h) in
      let d : same n dot ≡ false = sym (unlike n dot (λ (z : length n ≡ 1). omega arith)) in
      let dd : same n dotdot ≡ false = sym (unlike n dotdot (λ (z : length n ≡ 2). omega arith)) in
      let a : eqb o e.header ≡ false = ne_eqb o e.header (λ (z : o ≡ e.header). omega arith) in
      let b : eqb o (e.header + 16) ≡ false = ne_eqb o (e.header + 16) (λ (z : o ≡ e.header + 16). omega arith) in
      sym (rw (sym ls ∙ q, d, dd, a, b))

  module _ (q : l ≡ true) (d : Bool) (ds : d ≡ same n dot) (y : Bool) (ys : y ≡ beq d (eqb o e.header)) where
    pub fits_dot : y ≡ false → false ≡ name_fits e o n
    unfolding name_fits
    fits_dot z =
        let w : beq (same n dot) (eqb o e.header) ≡ false = ap (λ (k : Bool). beq k (eqb o e.header)) (sym ds) ∙ sym ys ∙ z in
        sym (rw (sym ls ∙ q, w))

    pub fits_dotdot : y ≡ true → (dd : Bool) → dd ≡ same n dotdot → (r : Bool) → r ≡ beq dd (eqb o (e.header + 16)) → r ≡ name_fits e o n
    unfolding name_fits
    fits_dotdot z dd dds r rs =
        let w : beq (same n dot) (eqb o e.header) ≡ true = ap (λ (k : Bool). beq k (eqb o e.header)) (sym ds) ∙ sym ys ∙ z in
        rs ∙ ap (λ (k : Bool). beq k (eqb o (e.header + 16))) dds ∙ sym (rw (sym ls ∙ q, w))
