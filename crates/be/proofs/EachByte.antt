-- A fact about each byte, by one computation over the 256.
-- Assumes nothing.
use Prim.Native.Nat.{ℕ, zero, suc, ◌<◌}
use native.Mathlib.Nat.{not-suc-le-zero, eq-or-lt_of_le, le_of_suc-le-suc}
use mathlib.Core.Path.{◌≡◌, refl, sym, subst}
use mathlib.Core.Bool.{Bool, true, false, ◌&&◌, beq}
use mathlib.Core.Logic.{⊎_elim}
use mir.Facts.{and_yes}
use lib.Dec.{T}

-- a test that passes at each number below n
abbrev pub all_below : (ℕ → Bool) → ℕ → Bool
all_below p zero = true
all_below p (suc n) = p n && all_below p n

below : (p : ℕ → Bool) (n : ℕ) → T (all_below p n) → (i : ℕ) → i < n → T (p i)
below p zero t i h = absurd (not-suc-le-zero h)
below p (suc n) t i h =
    let b = and_yes (p n) (all_below p n) t in
    ⊎_elim (λ q. subst (λ (k : ℕ). T (p k)) (sym q) b.0) (λ q. below p n b.1 i q) (eq-or-lt_of_le (le_of_suc-le-suc h))

alike : (a b : Bool) → T (beq a b) → a ≡ b
alike true true t = refl
alike true false t = absurd t
alike false true t = absurd t
alike false false t = refl

-- two tests that agree at each byte; where they compute, `tt` is the proof of it
pub each_byte : (f g : ℕ → Bool) → T (all_below (λ n. beq (f n) (g n)) 256) → (x : ℕ) → x < 256 → f x ≡ g x
each_byte f g t x h = alike (f x) (g x) (below (λ n. beq (f n) (g n)) 256 t x h)
