-- The best-gap table that a block stores, field by field.
-- Assumes nothing.
use Prim.Native.Nat.{ℕ, ◌+◌}
use native.Mathlib.Omega.{arith}
use mathlib.Core.Path.{◌≡◌}
use mathlib.Core.List.{List, [], ◌∷◌}
use lib.Seq.{drop-drop}
use Rattle.be.specs.Bytes.{field}
use Rattle.edition.specs.declared.Edition.{Edition}
use Rattle.dir_block_rules.specs.Verdict.{pair, pairs_in, best_pairs}

-- the three pairs, as the code reads them
pub pairs_read : (e : Edition) (b : List ℕ) (o₁ l₁ o₂ l₂ o₃ l₃ : ℕ)
    → o₁ ≡ field e.best 2 b → l₁ ≡ field (e.best + 2) 2 b → o₂ ≡ field (e.best + 4) 2 b
    → l₂ ≡ field (e.best + 6) 2 b → o₃ ≡ field (e.best + 8) 2 b → l₃ ≡ field (e.best + 10) 2 b
    → pair o₁ l₁ ∷ pair o₂ l₂ ∷ pair o₃ l₃ ∷ [] ≡ best_pairs e b
unfolding best_pairs pairs_in
pairs_read e b o₁ l₁ o₂ l₂ o₃ l₃ p₁ q₁ p₂ q₂ p₃ q₃ =
    let a : e.best + 4 + 2 ≡ e.best + 6 = omega arith in
    let c : e.best + 4 + 4 ≡ e.best + 8 = omega arith in
    let d : e.best + 8 + 2 ≡ e.best + 10 = omega arith in
    rw (
      p₁,
      q₁,
      p₂,
      q₂,
      p₃,
      q₃,
      drop-drop 2 e.best b,
      drop-drop 4 e.best b,
      drop-drop 2 (e.best + 4) b,
      a,
      drop-drop 4 (e.best + 4) b,
      c,
      drop-drop 2 (e.best + 8) b,
      d,
    )
