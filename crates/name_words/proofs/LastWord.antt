-- The first n bytes of a word, moved to its end: what stands before them is 0 for the hash, and 255 for the marks.
-- Assumes nothing.
use Prim.Native.Nat.{ℕ, zero, suc, ◌+◌, ◌-◌, ◌*◌, ◌%◌, ◌^◌, ◌≤◌, ◌<◌}
use mathlib.Core.Path.{◌≡◌, refl, sym, ap, ap₂, ◌∙◌}
use mathlib.Core.Bool.{Bool}
use mathlib.Core.List.{List, ◌++◌}
use native.Mathlib.Nat.{add-zero, mod-eq_of_lt, mul-div_cancel, mul-mod_left, pow-suc}
use native.Mathlib.Omega.{arith}
use lib.Arith.{digits_mod}
use lib.Dec.{leb, lit<}
use lib.Bits.{bit_or, bit_xor, or_shifted}
use lib.Pow.{pow_pos, pow-add, mod-pow-add, ones_lt, shl_exact}
use lib.ListN.{length, replicate, length-append, length-replicate}
use borrow.Author.Tests.{leb-true, leb-false}
use Rattle.be.specs.Lists.{every}
use Rattle.be.specs.Words.{le, to_le}
use Rattle.be.proofs.Bools.{by_cases}
use Rattle.be.proofs.Words.{Bytes, none, more, below_append, le_append, length_to_le, to_le_bytes, le_mod, to_le_le}
use Rattle.name.specs.Name.{rol, hash_from, legal_byte}
use Rattle.name_words.proofs.Linear.{hash_join, hash_zeros}

-- ---- equal bytes

pow_256 : (j : ℕ) → 256 ^ j ≡ 2 ^ (8 * j)
pow_256 zero = refl
pow_256 (suc j) =
    let e : 8 * j + 8 ≡ 8 * suc j = omega arith in
    pow-suc 256 j ∙ ap (λ (n : ℕ). n * 256) (pow_256 j) ∙ sym (pow-add 2 (8 * j) 8) ∙ ap (λ (n : ℕ). 2 ^ n) e

le_zeros : (j : ℕ) → le (replicate j 0) ≡ 0
unfolding le
le_zeros zero = refl
le_zeros (suc j) = omega (arith, le_zeros j)

le_ones : (j : ℕ) → le (replicate j 255) + 1 ≡ 256 ^ j
unfolding le
le_ones zero = refl
le_ones (suc j) = omega (arith, le_ones j, pow-suc 256 j)

equal_bytes : (j x : ℕ) → x < 2 ^ 8 → Bytes (replicate j x)
equal_bytes zero x h = none
equal_bytes (suc j) x h = more h (equal_bytes j x h)

every_ones : (j : ℕ) (ys : List ℕ) → every legal_byte (replicate j 255 ++ ys) ≡ every legal_byte ys
every_ones zero ys = refl
every_ones (suc j) ys = every_ones j ys

-- ---- the word

module _ (w n : ℕ) (top : n ≤ 8) where
  pub moved_law : w * 2 ^ (64 - 8 * n) % 2 ^ 64 ≡ le (to_le n w) * 2 ^ (64 - 8 * n)
  moved_law =
      let s : ℕ = 64 - 8 * n in
      let e : 64 ≡ n * 8 + (64 - 8 * n) = omega arith in
      ap (λ (k : ℕ). w * 2 ^ s % 2 ^ k) e ∙ mod-pow-add (w * 2 ^ s) (n * 8) s
      ∙ ap₂ (λ (x y : ℕ). x % 2 ^ (n * 8) * 2 ^ s + y) (mul-div_cancel w (pow_pos s)) (mul-mod_left w (2 ^ s))
      ∙ add-zero ((w % 2 ^ (n * 8)) * 2 ^ s) ∙ ap (λ (x : ℕ). x * 2 ^ s) (sym (le_mod n w))

  power : 256 ^ (8 - n) ≡ 2 ^ (64 - 8 * n)
  power = let e : 8 * (8 - n) ≡ 64 - 8 * n = omega arith in pow_256 (8 - n) ∙ ap (λ (k : ℕ). 2 ^ k) e

  -- equal bytes before them
  before : (x v : ℕ) → x < 2 ^ 8 → v ≡ le (to_le n w) * 2 ^ (64 - 8 * n) + le (replicate (8 - n) x) → to_le 8 v ≡ replicate (8 - n) x ++ to_le n w
  before x v h e =
      let xs : List ℕ = replicate (8 - n) x in
      let long : length (replicate (8 - n) x ++ to_le n w) ≡ 8 =
      omega (arith, length-append (replicate (8 - n) x) (to_le n w), length-replicate (8 - n) x, length_to_le n w) in
      let k : 256 ^ length (replicate (8 - n) x) ≡ 2 ^ (64 - 8 * n) = ap (λ (m : ℕ). 256 ^ m) (length-replicate (8 - n) x) ∙ power in
      ap (to_le 8) (e ∙ sym (le_append xs (to_le n w) ∙ ap (λ (m : ℕ). le (to_le n w) * m + le xs) k))
      ∙ to_le_le 8 (below_append (equal_bytes (8 - n) x h) (to_le_bytes n w)) long

  module _ (v : ℕ) (ev : v ≡ le (to_le n w) * 2 ^ (64 - 8 * n)) where
    pub one_hash : (h : ℕ) → h ≡ hash_from 0 (to_le 8 v) → h ≡ hash_from 0 (to_le n w)
    one_hash h e =
        e ∙ ap (hash_from 0) (before 0 v (lit< tt) (ev ∙ omega (arith, le_zeros (8 - n)))) ∙ hash_zeros (8 - n) (to_le n w)

    module _ (low : 1 ≤ n) where
      one_shifted : 1 * 2 ^ (64 - 8 * n) % 2 ^ 64 ≡ 2 ^ (64 - 8 * n)
      one_shifted = shl_exact {a = 1} 1 (64 - 8 * n) 64 (lit< tt) (omega arith) ∙ omega arith

      pub one_pos : 1 ≤ 1 * 2 ^ (64 - 8 * n) % 2 ^ 64
      one_pos = rw one_shifted (pow_pos (64 - 8 * n))

      filled : bit_or v (1 * 2 ^ (64 - 8 * n) % 2 ^ 64 - 1) ≡ le (to_le n w) * 2 ^ (64 - 8 * n) + le (replicate (8 - n) 255)
      filled =
          ap₂ (λ (x y : ℕ). bit_or x (y - 1)) ev one_shifted
          ∙ or_shifted (le (to_le n w)) (64 - 8 * n) (2 ^ (64 - 8 * n) - 1) (ones_lt (64 - 8 * n))
          ∙ omega (arith, le_ones (8 - n), power)

      pub one_marked : (t : Bool) → t ≡ every legal_byte (to_le 8 (bit_or v (1 * 2 ^ (64 - 8 * n) % 2 ^ 64 - 1))) → t ≡ every legal_byte (to_le n w)
      one_marked t e = e ∙ ap (every legal_byte) (before 255 _ (lit< tt) filled) ∙ every_ones (8 - n) (to_le n w)

-- ---- behind a hash so far

pub joined_hash : (n w h r g : ℕ) → h < 2 ^ 32 → r ≡ rol (7 * n % 32) h → g ≡ hash_from 0 (to_le n w) → bit_xor r g ≡ hash_from h (to_le n w)
joined_hash n w h r g p er eg =
    ap₂ bit_xor er eg
    ∙ sym (hash_join h p (to_le_bytes n w) ∙ ap (λ (m : ℕ). bit_xor (rol (7 * m % 32) h) (hash_from 0 (to_le n w))) (length_to_le n w))

pub turn_pos : (n : ℕ) → 1 ≤ n → n ≤ 8 → 0 < 7 * n % 32
turn_pos n p q =
    by_cases (leb n 4)
    (λ h.
    let l : 7 * n < 32 = omega (arith, leb-true n 4 h) in
    rw (mod-eq_of_lt l) (omega arith))
    (λ h.
    let e : 7 * n ≡ 1 * 32 + (7 * n - 32) = omega (arith, leb-false n 4 h) in
    let l : 7 * n - 32 < 32 = omega arith in
    rw (e, digits_mod 1 l) (omega (arith, leb-false n 4 h)))
