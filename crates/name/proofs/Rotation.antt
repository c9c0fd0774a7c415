-- The rotation of 32 bits: the code's shifts, its range, one rotation after another, and rotations of an exclusive or.
-- Assumes nothing.
use mathlib.Core.Path.{◌≡◌, sym, ap, ◌∙◌, subst}
use Prim.Native.Nat.{ℕ, ◌+◌, ◌-◌, ◌*◌, ◌/◌, ◌%◌, ◌^◌, ◌<◌, ◌≤◌}
use native.Mathlib.Omega.{arith}
use native.Mathlib.Nat.{mul-div_cancel, mul-mod_left, mod-lt, add-zero, add-mul, mul_assoc, add_assoc, add_comm, div-eq_of_lt}
use lib.Bits.{bit_or, bit_xor, or_shifted, xor_block, xor_shr, xor_mod}
use lib.Pow.{pow_pos, pow-add, mod-pow-add, shr_lt, low, high, split}
use lib.Arith.{digits_lt}
use Rattle.name.specs.Name.{rol}

-- a shift to the left drops the bits above
shl_low : (k h : ℕ) → k ≤ 32 → h * 2 ^ k % 2 ^ 32 ≡ (h % 2 ^ (32 - k)) * 2 ^ k
shl_low k h p =
    let e : 32 ≡ 32 - k + k = omega arith in
    ap (λ (w : ℕ). h * 2 ^ k % 2 ^ w) e ∙ rw (mod-pow-add, mul-div_cancel h (pow_pos k), mul-mod_left, add-zero)

-- the low bits moved up, and the high bits below them
rol_parts : (k h : ℕ) → k ≤ 32 → rol k h ≡ (h % 2 ^ (32 - k)) * 2 ^ k + h / 2 ^ (32 - k)
unfolding rol
rol_parts k h p = rw (shl_low k h p)

high_lt : (k h : ℕ) → k ≤ 32 → h < 2 ^ 32 → h / 2 ^ (32 - k) < 2 ^ k
high_lt k h p q =
    let e : 32 ≡ k + (32 - k) = omega arith in
    shr_lt k (32 - k) (subst (λ (w : ℕ). h < 2 ^ w) e q)

-- the two shifts and the or of the code
pub rol_or : (k h : ℕ) → k ≤ 32 → h < 2 ^ 32 → bit_or (h * 2 ^ k % 2 ^ 32) (h / 2 ^ (32 - k)) ≡ rol k h
rol_or k h p q = rw (shl_low k h p, or_shifted (h % 2 ^ (32 - k)) k (h / 2 ^ (32 - k)) (high_lt k h p q)) (sym (rol_parts k h p))

pub rol_xor : (k a b : ℕ) → k ≤ 32 → a < 2 ^ 32 → b < 2 ^ 32 → rol k (bit_xor a b) ≡ bit_xor (rol k a) (rol k b)
rol_xor k a b p q r =
    rw (rol_parts k (bit_xor a b), rol_parts k a, rol_parts k b, xor_block k _ _ _ _ (high_lt k a p q) (high_lt k b p r), xor_mod, xor_shr)

-- two parts change their places
rol_join : (j k a b : ℕ) → j + k ≡ 32 → b < 2 ^ j → rol k (a * 2 ^ j + b) ≡ b * 2 ^ k + a
rol_join j k a b e h =
    let d : 32 - k ≡ j = omega arith in
    rol_parts k (a * 2 ^ j + b) (omega arith) ∙ rw (d, low a j h, high a j h)

join_lt : (i m y z : ℕ) → y < 2 ^ i → z < 2 ^ m → y * 2 ^ m + z < 2 ^ (i + m)
join_lt i m y z p q = rw pow-add (digits_lt p q)

-- three numbers side by side are one, whichever two are joined first
regroup : (m k x y z : ℕ) → (y * 2 ^ m + z) * 2 ^ k + x ≡ y * 2 ^ (m + k) + (z * 2 ^ k + x)
regroup m k x y z = rw (add-mul, mul_assoc, ← pow-add, add_assoc)

-- three parts: the highest goes to the end, then the middle one
rol_three : (i k m x y z : ℕ) → m + (i + k) ≡ 32 → x < 2 ^ k → y < 2 ^ i → z < 2 ^ m
    → rol i (rol k (x * 2 ^ (i + m) + (y * 2 ^ m + z))) ≡ rol (i + k) (x * 2 ^ (i + m) + (y * 2 ^ m + z))
rol_three i k m x y z e p q r =
    ap (rol i) (rol_join (i + m) k x (y * 2 ^ m + z) (omega arith) (join_lt i m y z q r) ∙ regroup m k x y z)
    ∙ rol_join (m + k) i y (z * 2 ^ k + x) (omega arith) (join_lt m k z x r p)
    ∙ regroup k i y z x
    ∙ ap (λ (w : ℕ). z * 2 ^ w + (x * 2 ^ i + y)) (add_comm k i)
    ∙ sym (rol_join m (i + k) (x * 2 ^ i + y) z e r)
    ∙ ap (rol (i + k)) (regroup i m z x y)

-- one rotation after another
pub rol_rol : (i k h : ℕ) → i + k ≤ 32 → h < 2 ^ 32 → rol i (rol k h) ≡ rol (i + k) h
rol_rol i k h p q =
    let m : ℕ = 32 - (i + k) in
    let t : ℕ = h % 2 ^ (i + m) in
    let e : h ≡ h / 2 ^ (i + m) * 2 ^ (i + m) + (t / 2 ^ m * 2 ^ m + t % 2 ^ m) =
    sym (ap (λ (n : ℕ). h / 2 ^ (i + m) * 2 ^ (i + m) + n) (split t m) ∙ split h (i + m)) in
    let w : 32 ≡ k + (i + m) = omega arith in
    ap (λ (n : ℕ). rol i (rol k n)) e
    ∙ rol_three i k m (h / 2 ^ (i + m)) (t / 2 ^ m) (t % 2 ^ m) (omega arith)
    (shr_lt k (i + m) (subst (λ (n : ℕ). h < 2 ^ n) w q)) (shr_lt i m (mod-lt h (pow_pos (i + m)))) (mod-lt t (pow_pos m))
    ∙ ap (rol (i + k)) (sym e)

-- of a small number it is a shift
pub rol_small : (k b : ℕ) → b < 2 ^ (32 - k) → rol k b ≡ b * 2 ^ k % 2 ^ 32
unfolding rol
rol_small k b h = rw (div-eq_of_lt h, add-zero)

pub rol_lt : (k h : ℕ) → k ≤ 32 → h < 2 ^ 32 → rol k h < 2 ^ 32
rol_lt k h p q =
    let e : 32 - k + k ≡ 32 = omega arith in
    rw (rol_parts k h p)
    (subst (λ (w : ℕ). (h % 2 ^ (32 - k)) * 2 ^ k + h / 2 ^ (32 - k) < 2 ^ w) e
    (join_lt (32 - k) k _ _ (mod-lt h (pow_pos (32 - k))) (high_lt k h p q)))
