-- The whole input: the bytes in the buffer, and those after them.
-- Assumes nothing.
use Prim.Native.Nat.{ℕ, ◌<◌}
use native.Mathlib.Omega.{arith}
use mathlib.Core.Path.{◌≡◌, refl, sym, ◌∙◌, ap}
use mathlib.Core.List.{List, [], ◌∷◌, ◌++◌, append-nil}
use lib.Dec.{eqb}
use lib.ListN.{length, length-append}
use borrow.Author.Tests.{eqb-true, eqb-false}
use Rattle.refusal.specs.Refusal.{SIZE}
use Rattle.be.proofs.Bools.{by_cases}
use Rattle.edition.specs.declared.Edition.{Edition}
use Rattle.edition.specs.Edition.{Sane, block_size, largest_block}
use Rattle.edition.proofs.Sizes.{block_size_bounds}
use Rattle.dir_block_rules.specs.Verdict.{verdict}
use Rattle.dir_block_test.proofs.EarlyTests.{end_1}

module _ (e : Edition) (sane : Sane e) (b more : List ℕ) where
  pub none_after : length more ≡ 0 → verdict e b ≡ verdict e (b ++ more)
  none_after h = ap (verdict e) (sym (nothing more h))
    where
      nothing : (l : List ℕ) → length l ≡ 0 → b ++ l ≡ b
      nothing [] h = append-nil b
      nothing (x ∷ l) h = absurd (omega arith)

  module _ (full : length b < largest_block → length more ≡ 0) where
    pub too_long : (length more ≡ 0 → ⊥) → SIZE ≡ verdict e (b ++ more)
    too_long some =
        end_1 e sane (b ++ more) (block_size (length (b ++ more))) refl
        (by_cases (block_size (length (b ++ more)))
        (λ q. absurd (some (full (omega (arith, block_size_bounds (length (b ++ more)) q, length-append b more, some)))))
        (λ q. q))

    -- an input that passes is the buffer's bytes alone
    pub passed : verdict e (b ++ more) ≡ 0 → verdict e b ≡ 0
    passed h =
        by_cases (eqb (length more) 0)
        (λ q. none_after (eqb-true (length more) 0 q) ∙ h)
        (λ q. absurd (one (too_long (eqb-false (length more) 0 q) ∙ h)))
      where
        one : SIZE ≡ 0 → ⊥
        one z = omega arith
