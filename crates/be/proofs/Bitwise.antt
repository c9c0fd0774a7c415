-- Exclusive or and `and` are associative: each goes bit by bit. lib.Bits does not have these.
-- Assumes nothing.
use mathlib.Core.Path.{◌≡◌, refl, sym, ap, ap₂, ◌∙◌}
use Prim.Native.Nat.{ℕ, zero, suc, ◌+◌, ◌*◌, ◌/◌, ◌%◌, ◌<◌, min}
use native.Mathlib.Omega.{arith}
use native.Mathlib.Nat.{mod-lt, min-le_left, lt_of_le_of_lt}
use lib.Dec.{lit<}
use lib.Arith.{bin_ind, digits_div, digits_mod}
use lib.Bits.{bit_and, bit_xor, differ, and_step, xor_step}

bit : (n : ℕ) → n % 2 < 2
bit n = mod-lt n (lit< tt)

-- an operation that is d of each two bits
module _ (op d : ℕ → ℕ → ℕ) (step : (a b : ℕ) → op a b ≡ op (a / 2) (b / 2) * 2 + d (a % 2) (b % 2))
    (d-lt : (x y : ℕ) → x < 2 → y < 2 → d x y < 2)
    (d-assoc : (x y z : ℕ) → x < 2 → y < 2 → z < 2 → d (d x y) z ≡ d x (d y z))
    (op-zero : (b c : ℕ) → op (op 0 b) c ≡ op 0 (op b c)) where
  high : (a b : ℕ) → op a b / 2 ≡ op (a / 2) (b / 2)
  high a b = ap (λ (n : ℕ). n / 2) (step a b) ∙ digits_div (op (a / 2) (b / 2)) (d-lt (a % 2) (b % 2) (bit a) (bit b))

  low : (a b : ℕ) → op a b % 2 ≡ d (a % 2) (b % 2)
  low a b = ap (λ (n : ℕ). n % 2) (step a b) ∙ digits_mod (op (a / 2) (b / 2)) (d-lt (a % 2) (b % 2) (bit a) (bit b))

  by_bits : (a b c : ℕ) → op (op a b) c ≡ op a (op b c)
  by_bits a =
      bin_ind (λ (n : ℕ). (b c : ℕ) → op (op n b) c ≡ op n (op b c)) op-zero
      (λ n ih b c.
      step (op n b) c
      ∙ ap₂ (λ (x y : ℕ). x * 2 + y)
      (ap (λ (x : ℕ). op x (c / 2)) (high n b) ∙ ih (b / 2) (c / 2) ∙ ap (op (n / 2)) (sym (high b c)))
      (ap (λ (x : ℕ). d x (c % 2)) (low n b) ∙ d-assoc (n % 2) (b % 2) (c % 2) (bit n) (bit b) (bit c) ∙ ap (d (n % 2)) (sym (low b c)))
      ∙ sym (step n (op b c))) a

differ_lt : (x y : ℕ) → x < 2 → y < 2 → differ x y < 2
differ_lt zero y p q = q
differ_lt (suc x) zero p q = p
differ_lt (suc zero) (suc zero) p q = lit< tt
differ_lt (suc zero) (suc (suc y)) p q = absurd (omega arith)
differ_lt (suc (suc x)) (suc y) p q = absurd (omega arith)

differ_assoc : (x y z : ℕ) → x < 2 → y < 2 → z < 2 → differ (differ x y) z ≡ differ x (differ y z)
differ_assoc zero y z p q r = refl
differ_assoc (suc x) zero z p q r = refl
differ_assoc (suc zero) (suc zero) zero p q r = refl
differ_assoc (suc zero) (suc zero) (suc zero) p q r = refl
differ_assoc (suc zero) (suc zero) (suc (suc z)) p q r = absurd (omega arith)
differ_assoc (suc zero) (suc (suc y)) z p q r = absurd (omega arith)
differ_assoc (suc (suc x)) (suc y) z p q r = absurd (omega arith)

pub xor_assoc : (a b c : ℕ) → bit_xor (bit_xor a b) c ≡ bit_xor a (bit_xor b c)
xor_assoc = by_bits bit_xor differ xor_step differ_lt differ_assoc (λ b c. refl)

min_lt : (x y : ℕ) → x < 2 → y < 2 → min x y < 2
min_lt x y p q = lt_of_le_of_lt (min-le_left x y) p

min_assoc : (x y z : ℕ) → x < 2 → y < 2 → z < 2 → min (min x y) z ≡ min x (min y z)
min_assoc x y z p q r = omega arith

pub and_assoc : (a b c : ℕ) → bit_and (bit_and a b) c ≡ bit_and a (bit_and b c)
and_assoc = by_bits bit_and min and_step min_lt min_assoc (λ b c. refl)
