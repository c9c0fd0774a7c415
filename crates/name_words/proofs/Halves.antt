-- A word as lanes of two halves: its low halves and its high halves, by a mask.
-- Assumes nothing.
use Prim.Native.Nat.{ℕ, ◌+◌, ◌-◌, ◌*◌, ◌/◌, ◌%◌, ◌^◌, ◌<◌}
use mathlib.Core.Path.{◌≡◌, refl, sym, ap, ap₂, ◌∙◌}
use mathlib.Core.List.{List}
use native.Mathlib.Nat.{mod-lt, add-mul, mul_assoc, add-zero, mod-eq_of_lt}
use native.Mathlib.Omega.{arith}
use lib.Arith.{digits_lt}
use lib.Bits.{bit_and, and_block, and_mask, and_zero_r}
use lib.Pow.{pow_pos, pow-add, shr_lt, high, split, ones_lt}
use Rattle.be.proofs.Words.{Below, none, more}
use Rattle.name_words.proofs.Lanes.{lanes}

abbrev pub mask : ℕ → ℕ → ℕ
mask k q = 2 ^ k - 1

-- halves of k bits
module _ (k : ℕ) where
  two : (n : ℕ) → n * 2 ^ (k + k) ≡ n * 2 ^ k * 2 ^ k
  two n = ap (λ (m : ℕ). n * m) (pow-add 2 k k) ∙ sym (mul_assoc n (2 ^ k) (2 ^ k))

  ones_room : 2 ^ k - 1 < 2 ^ (k + k)
  ones_room = omega (arith, pow_pos k, digits_lt {q = 0} {m = 2 ^ k} {r = 2 ^ k - 1} {c = 2 ^ k} (pow_pos k) (ones_lt k), pow-add 2 k k)

  pub low_halves : {qs : List ℕ} → Below (k + k) qs → bit_and (lanes (k + k) (λ q. q) qs) (lanes (k + k) (mask k) qs) ≡ lanes (k + k) (λ q. q % 2 ^ k) qs
  unfolding lanes
  low_halves none = refl
  low_halves (more {x} {xs} h r) =
      and_block (k + k) (lanes (k + k) (λ q. q) xs) (lanes (k + k) (mask k) xs) x (2 ^ k - 1) h ones_room
      ∙ ap₂ (λ (m n : ℕ). m * 2 ^ (k + k) + n) (low_halves r) (and_mask x k)

  shifted_and : (r m : ℕ) → bit_and r (m * 2 ^ k) ≡ bit_and (r / 2 ^ k) m * 2 ^ k
  shifted_and r m =
      ap₂ bit_and (sym (split r k)) (sym (add-zero (m * 2 ^ k)))
      ∙ and_block k (r / 2 ^ k) m (r % 2 ^ k) 0 (mod-lt r (pow_pos k)) (pow_pos k)
      ∙ ap (λ (n : ℕ). bit_and (r / 2 ^ k) m * 2 ^ k + n) (and_zero_r (r % 2 ^ k))
      ∙ add-zero (bit_and (r / 2 ^ k) m * 2 ^ k)

  halved : (r x : ℕ) → (r * 2 ^ (k + k) + x) / 2 ^ k ≡ r * 2 ^ k + x / 2 ^ k
  halved r x =
      let e : r * 2 ^ (k + k) + x ≡ (r * 2 ^ k + x / 2 ^ k) * 2 ^ k + x % 2 ^ k =
      ap₂ (λ (m n : ℕ). m + n) (two r) (sym (split x k)) ∙ omega (arith, add-mul (r * 2 ^ k) (x / 2 ^ k) (2 ^ k)) in
      ap (λ (n : ℕ). n / 2 ^ k) e ∙ high (r * 2 ^ k + x / 2 ^ k) k (mod-lt x (pow_pos k))

  pub high_halves : {qs : List ℕ} → Below (k + k) qs
      → bit_and (lanes (k + k) (λ q. q) qs / 2 ^ k) (lanes (k + k) (mask k) qs) ≡ lanes (k + k) (λ q. q / 2 ^ k) qs
  unfolding lanes
  high_halves none = and_zero_r (0 / 2 ^ k)
  high_halves (more {x} {xs} h r) =
      let w : ℕ = lanes (k + k) (λ q. q) xs in
      let m : ℕ = lanes (k + k) (mask k) xs in
      let t : x / 2 ^ k % 2 ^ k ≡ x / 2 ^ k = mod-eq_of_lt (shr_lt k k h) in
      ap₂ bit_and (halved w x) (ap (λ (n : ℕ). n + (2 ^ k - 1)) (two m))
      ∙ and_block k w (m * 2 ^ k) (x / 2 ^ k) (2 ^ k - 1) (shr_lt k k h) (ones_lt k)
      ∙ ap₂ (λ (a b : ℕ). a * 2 ^ k + b) (shifted_and w m) (and_mask (x / 2 ^ k) k ∙ t)
      ∙ ap (λ (n : ℕ). n * 2 ^ k * 2 ^ k + x / 2 ^ k) (high_halves r)
      ∙ ap (λ (n : ℕ). n + x / 2 ^ k) (sym (two (lanes (k + k) (λ q. q / 2 ^ k) xs)))
