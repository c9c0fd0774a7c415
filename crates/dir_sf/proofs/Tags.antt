-- The test of an entry's tag, taken apart and put together.
-- Assumes nothing.
use Prim.Native.Nat.{ℕ, ◌%◌, ◌≤◌}
use native.Mathlib.Omega.{arith}
use mathlib.Core.Bool.{true, ◌&&◌}
use mathlib.Core.Path.{◌≡◌}
use mathlib.Core.List.{List, ◌∷◌}
use lib.Dec.{eqb, leb}
use borrow.Author.Tests.{le-leb, leb-true, eqb-true, eq-eqb}
use Rattle.be.proofs.Bools.{and_left, and_right, and_both}
use Rattle.edition.specs.declared.Edition.{Edition}
use Rattle.dir_sf.specs.Entry.{SfEntry, next_tag, tags_ok}

-- the parts of the first entry's test
pub record Tagged (e : Edition) (low : ℕ) (x : SfEntry) (xs : List SfEntry) : Type 0 where
  pub eights : x.tag % 8 ≡ 0
  pub least : low ≤ x.tag
  pub grows : x.tag ≤ next_tag e x
  pub rest : tags_ok e (next_tag e x) xs ≡ true

pub tagged : (e : Edition) (low : ℕ) (x : SfEntry) (xs : List SfEntry) → tags_ok e low (x ∷ xs) ≡ true → Tagged e low x xs
unfolding tags_ok next_tag
tagged e low x xs t =
    record {
      eights = eqb-true _ _ (and_left _ _ (and_left _ _ t));
      least = leb-true _ _ (and_right (eqb (x.tag % 8) 0) _ (and_left _ _ t));
      grows = omega arith;
      rest = and_right (eqb (x.tag % 8) 0 && leb low x.tag) _ t;
    }

pub untagged : (e : Edition) (low : ℕ) (x : SfEntry) (xs : List SfEntry) → x.tag % 8 ≡ 0 → low ≤ x.tag → tags_ok e (next_tag e x) xs ≡ true
    → tags_ok e low (x ∷ xs) ≡ true
unfolding tags_ok
untagged e low x xs m l r = and_both _ _ (and_both _ _ (eq-eqb _ _ m) (le-leb _ _ l)) r
