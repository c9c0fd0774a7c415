-- The hash: its range, the turns of the loops, and four bytes in one turn.
-- Assumes nothing.
use mathlib.Core.Path.{◌≡◌, refl, sym, ◌∙◌}
use mathlib.Core.Bool.{true}
use mathlib.Core.List.{List, [], ◌∷◌, ◌++◌}
use Prim.Native.Nat.{ℕ, ◌*◌, ◌%◌, ◌^◌, ◌<◌, ◌≤◌}
use native.Mathlib.Omega.{arith}
use lib.Dec.{ltb, lit≤}
use lib.Bits.{bit_xor, xor_lt}
use lib.ListN.{length, drop, drop_of_length-le}
use borrow.Author.Tests.{ltb-true}
use Rattle.be.specs.Bytes.{bytes}
use Rattle.be.proofs.Bools.{every_head, every_tail}
use Rattle.edition.specs.declared.Edition.{Edition}
use Rattle.name.specs.Name.{rol, hash_byte, hash_from, hash_of}
use Rattle.name.proofs.Rotation.{rol_xor, rol_rol, rol_lt, rol_small}

pub hash_append : (xs ys : List ℕ) (h : ℕ) → hash_from h (xs ++ ys) ≡ hash_from (hash_from h xs) ys
unfolding hash_from
hash_append [] ys h = refl
hash_append (x ∷ xs) ys h = hash_append xs ys (hash_byte h x)

step_lt : (h x : ℕ) → h < 2 ^ 32 → x < 256 → hash_byte h x < 2 ^ 32
unfolding hash_byte
step_lt h x p q = xor_lt 32 (rol 7 h) x (rol_lt 7 h (lit≤ tt) p) (omega arith)

pub hash_from_lt : (h : ℕ) (n : List ℕ) → h < 2 ^ 32 → bytes n ≡ true → hash_from h n < 2 ^ 32
unfolding hash_from
hash_from_lt h [] p b = p
hash_from_lt h (x ∷ xs) p b =
    hash_from_lt (hash_byte h x) xs (step_lt h x p (ltb-true x 256 (every_head (λ y. ltb y 256) x xs b))) (every_tail (λ y. ltb y 256) x xs b)

-- a hash fits 4 bytes
pub hash_lt : (e : Edition) (n : List ℕ) → bytes n ≡ true → hash_of e n < 2 ^ 32
unfolding hash_of
hash_lt e n b = hash_from_lt 0 n (omega arith) b

-- a turn of a loop over the run xs, and the end
module _ (l : List ℕ) (i h v : ℕ) where
  pub hash_turn : (xs : List ℕ) (j r : ℕ) → drop i l ≡ xs ++ drop j l → r ≡ hash_from h xs
      → hash_from h (drop i l) ≡ v → hash_from r (drop j l) ≡ v
  hash_turn xs j r e q p = rw q (sym (hash_append xs (drop j l) h) ∙ (rw e at p))

  pub hash_end : length l ≤ i → hash_from h (drop i l) ≡ v → h ≡ v
  unfolding hash_from
  hash_end q p = rw (drop_of_length-le l q) at p

-- ---- four bytes in one turn

seven_xor : (x y : ℕ) → x < 2 ^ 32 → y < 2 ^ 32 → rol 7 (bit_xor x y) ≡ bit_xor (rol 7 x) (rol 7 y)
seven_xor x y p q = rol_xor 7 x y (lit≤ tt) p q

-- the hash so far is rotated by 7 for each byte, and each byte by 7 for each byte behind it
pub four_is : (h a b c d : ℕ) → h < 2 ^ 32 → a < 256 → b < 256 → c < 256
    → bit_xor (bit_xor (bit_xor (bit_xor (rol 28 h) (a * 2 ^ 21 % 2 ^ 32)) (b * 2 ^ 14 % 2 ^ 32)) (c * 2 ^ 7 % 2 ^ 32)) d
    ≡ hash_from h (a ∷ b ∷ c ∷ d ∷ [])
unfolding hash_from hash_byte
four_is h a b c d p pa pb pc =
    let h₂ : rol 14 h < 2 ^ 32 = rol_lt 14 h (lit≤ tt) p in
    let h₃ : rol 21 h < 2 ^ 32 = rol_lt 21 h (lit≤ tt) p in
    let a₁ : rol 7 a < 2 ^ 32 = rol_lt 7 a (lit≤ tt) (omega arith) in
    let a₂ : rol 14 a < 2 ^ 32 = rol_lt 14 a (lit≤ tt) (omega arith) in
    let b₁ : rol 7 b < 2 ^ 32 = rol_lt 7 b (lit≤ tt) (omega arith) in
    rw (
      seven_xor (rol 7 h) a (rol_lt 7 h (lit≤ tt) p) (omega arith),
      rol_rol 7 7 h (lit≤ tt) p,
      seven_xor (bit_xor (rol 14 h) (rol 7 a)) b (xor_lt 32 _ _ h₂ a₁) (omega arith),
      seven_xor (rol 14 h) (rol 7 a) h₂ a₁,
      rol_rol 7 14 h (lit≤ tt) p,
      rol_rol 7 7 a (lit≤ tt) (omega arith),
      seven_xor (bit_xor (bit_xor (rol 21 h) (rol 14 a)) (rol 7 b)) c (xor_lt 32 _ _ (xor_lt 32 _ _ h₃ a₂) b₁) (omega arith),
      seven_xor (bit_xor (rol 21 h) (rol 14 a)) (rol 7 b) (xor_lt 32 _ _ h₃ a₂) b₁,
      seven_xor (rol 21 h) (rol 14 a) h₃ a₂,
      rol_rol 7 21 h (lit≤ tt) p,
      rol_rol 7 14 a (lit≤ tt) (omega arith),
      rol_rol 7 7 b (lit≤ tt) (omega arith),
      rol_small 21 a (omega arith),
      rol_small 14 b (omega arith),
      rol_small 7 c (omega arith),
    )
