-- The table of the keys seen: one more is noted, and those before it stay.
-- Assumes nothing.
use Prim.Native.Nat.{ℕ, ◌+◌, ◌-◌, ◌*◌, ◌/◌, ◌%◌, ◌^◌, ◌<◌, min}
use native.Mathlib.Nat.{one-mul, div-add-mod'}
use native.Mathlib.Omega.{arith}
use mathlib.Core.Path.{◌≡◌, sym, ◌∙◌, ap, ap₂}
use mathlib.Core.List.{List}
use lib.Arith.{bin_ind}
use lib.Bits.{bit_and, bit_or, and_step, and_zero_r, and_le_r, or_comm, or_shr, or_mod, or_add_and}
use lib.Dec.{eqb, lit<}
use lib.ListN.{length, get_or, set, length-set}
use lib.Pow.{shl_exact}
use lib.Seq.{get_or-set_same, get_or-set_other}
use borrow.Author.Tests.{eqb-true, eqb-false}
use Rattle.be.proofs.Bitwise.{and_assoc}
use Rattle.be.proofs.Bools.{by_cases}
use Rattle.dir_block_twice.specs.Twice.{key_bits, HasKey}

-- ---- a key's bits

one_bit : (k : ℕ) → 1 * 2 ^ (k % 64) % 2 ^ 64 ≡ 2 ^ (k % 64)
one_bit k = shl_exact 1 (k % 64) 64 (lit< tt) (omega arith) ∙ one-mul (2 ^ (k % 64))

pub bits_are : (k : ℕ) → bit_or (1 * 2 ^ (k % 64) % 2 ^ 64) (1 * 2 ^ (k / 64 % 64) % 2 ^ 64) ≡ key_bits k
unfolding key_bits
bits_are k = ap₂ bit_or (one_bit k) (one_bit (k / 64))

-- ---- bits that are set

or_has : (x y : ℕ) → bit_and (bit_or x y) x ≡ x
or_has =
    bin_ind (λ (n : ℕ). (y : ℕ) → bit_and (bit_or n y) n ≡ n) and_zero_r
    (λ n ih y.
    let low : min (bit_or (n % 2) (y % 2)) (n % 2) ≡ n % 2 = omega (arith, or_add_and (n % 2) (y % 2), and_le_r (n % 2) (y % 2)) in
    and_step (bit_or n y) n
    ∙ ap₂ (λ (h l : ℕ). h * 2 + l)
    (ap (λ (h : ℕ). bit_and h (n / 2)) (or_shr n y 1) ∙ ih (y / 2))
    (ap (λ (l : ℕ). min l (n % 2)) (or_mod n y 1) ∙ low)
    ∙ div-add-mod' n 2)

or_sets : (x m : ℕ) → bit_and (bit_or x m) m ≡ m
or_sets x m = ap (λ (y : ℕ). bit_and y m) (or_comm x m) ∙ or_has m x

or_keeps : (x y m : ℕ) → bit_and x m ≡ m → bit_and (bit_or x y) m ≡ m
or_keeps x y m h =
    ap (bit_and (bit_or x y)) (sym h) ∙ sym (and_assoc (bit_or x y) x m) ∙ ap (λ (z : ℕ). bit_and z m) (or_has x y) ∙ h

-- ---- a key noted

pub cell_lt : (x k : ℕ) → 0 < k → bit_and x (k - 1) < k
cell_lt x k h = omega (arith, and_le_r x (k - 1))

module _ (S R : List ℕ) (k x m : ℕ) (some : 0 < length S) (ex : x ≡ bit_and (k / 4096) (length S - 1)) (em : m ≡ key_bits k)
    (rs : R ≡ set S x (bit_or (get_or S x 0) m)) where
  pub noted_long : length R ≡ length S
  noted_long = ap length rs ∙ length-set S x (bit_or (get_or S x 0) m)

  noted_here : get_or R x 0 ≡ bit_or (get_or S x 0) m
  noted_here =
      let l : x < length S = rw ex (cell_lt (k / 4096) (length S) some) in
      ap (λ (T : List ℕ). get_or T x 0) rs ∙ get_or-set_same S x (bit_or (get_or S x 0) m) 0 l

  bits_kept : (y v : ℕ) → bit_and (get_or S y 0) v ≡ v → bit_and (get_or R y 0) v ≡ v
  bits_kept y v h =
      by_cases (eqb y x)
      (λ q. let e : y ≡ x = eqb-true y x q in
      ap (λ (z : ℕ). bit_and z v) (ap (λ (z : ℕ). get_or R z 0) e ∙ noted_here)
      ∙ or_keeps (get_or S x 0) m v (ap (λ (z : ℕ). bit_and (get_or S z 0) v) (sym e) ∙ h))
      (λ q. ap (λ (T : List ℕ). bit_and (get_or T y 0) v) rs
      ∙ ap (λ (z : ℕ). bit_and z v) (get_or-set_other S x y (bit_or (get_or S x 0) m) 0 (eqb-false y x q)) ∙ h)

  pub key_kept : (l : ℕ) → HasKey S l → HasKey R l
  key_kept l h = rw noted_long (bits_kept (bit_and (l / 4096) (length S - 1)) (key_bits l) h)

  pub key_noted : HasKey R k
  key_noted = rw (noted_long, sym ex, sym em, noted_here) (or_sets (get_or S x 0) m)
