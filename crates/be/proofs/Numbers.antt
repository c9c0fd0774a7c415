-- Big-endian numbers of any width: in halves, there and back, bounds.
-- Assumes nothing.
use Prim.Native.Nat.{ℕ, zero, suc, ◌+◌, ◌*◌, ◌/◌, ◌%◌, ◌^◌, ◌<◌}
use native.Mathlib.Nat.{zero-add, add_assoc, add_comm, suc-add, pow-suc, mul_assoc, mul_comm, add-mul, div-one, mod-eq_of_lt, one-le-pow, add-mul-div_right, mul-add-mod_self_right, zero-mul, zero-lt-suc, div-div-eq-div-mul}
use native.Mathlib.Omega.{arith}
use mathlib.Core.Bool.{true}
use mathlib.Core.Path.{◌≡◌, refl, sym, ◌∙◌, ap, ap₂}
use mathlib.Core.List.{List, [], ◌∷◌, ◌++◌}
use lib.Dec.{ltb}
use lib.ListN.{length}
use lib.Pow.{pow-add}
use lib.Arith.{mod-mul, digits_div, digits_lt}
use borrow.Author.Tests.{ltb-true}
use Rattle.be.specs.Bytes.{bytes, be, be_from, to_be}
use Rattle.be.proofs.Bools.{and_left, and_right}

pub length_to_be : (n v : ℕ) → length (to_be n v) ≡ n
unfolding to_be
length_to_be zero v = refl
length_to_be (suc n) v = ap suc (length_to_be n v)

pub to_be_1 : (v : ℕ) → v < 256 → to_be 1 v ≡ v ∷ []
unfolding to_be
to_be_1 v h = rw (div-one, mod-eq_of_lt h)

pow256_pos : (n : ℕ) → 0 < 256 ^ n
pow256_pos n = one-le-pow n 256 (zero-lt-suc 255)

-- ---- reading

pub be_append : (a : ℕ) (xs ys : List ℕ) → be_from a (xs ++ ys) ≡ be_from (be_from a xs) ys
unfolding be_from
be_append a [] ys = refl
be_append a (x ∷ xs) ys = be_append (a * 256 + x) xs ys

-- what the bytes after a first number a add to it
pub be_high : (a : ℕ) (xs : List ℕ) → be_from a xs ≡ a * 256 ^ length xs + be xs
unfolding be be_from
be_high a [] = omega arith
be_high a (x ∷ xs) =
    rw (be_high (a * 256 + x) xs, be_high (0 + x) xs, zero-add x, pow-suc 256 (length xs), mul_comm (256 ^ length xs) 256, add-mul, mul_assoc, add_assoc)

-- the number of two runs of bytes, from the number of each
pub be_halves : (xs ys : List ℕ) → be (xs ++ ys) ≡ be xs * 256 ^ length ys + be ys
unfolding be
be_halves xs ys = be_append 0 xs ys ∙ be_high (be xs) ys

be_cons : (x : ℕ) (xs : List ℕ) → be (x ∷ xs) ≡ x * 256 ^ length xs + be xs
unfolding be be_from
be_cons x xs = be_high (0 + x) xs ∙ rw (zero-add x)

byte_head : (x : ℕ) (xs : List ℕ) → bytes (x ∷ xs) ≡ true → x < 256
byte_head x xs h = ltb-true _ _ (and_left _ _ h)

byte_tail : (x : ℕ) (xs : List ℕ) → bytes (x ∷ xs) ≡ true → bytes xs ≡ true
byte_tail x xs h = and_right (ltb x 256) _ h

pub be_lt : (xs : List ℕ) → bytes xs ≡ true → be xs < 256 ^ length xs
unfolding be be_from
be_lt [] h = omega arith
be_lt (x ∷ xs) h =
    rw (be_cons x xs, pow-suc 256 (length xs), mul_comm (256 ^ length xs) 256)
    (digits_lt {q = x} {m = 256} {r = be xs} {c = 256 ^ length xs} (byte_head x xs h) (be_lt xs (byte_tail x xs h)))

-- ---- writing

-- the n + m low bytes are n above and m below
pub to_be_halves : (n m v : ℕ) → to_be (n + m) v ≡ to_be n (v / 256 ^ m) ++ to_be m v
unfolding to_be
to_be_halves zero m v = rw zero-add
to_be_halves (suc n) m v =
    let q : v / 256 ^ (n + m) ≡ v / 256 ^ m / 256 ^ n =
    ap (λ (x : ℕ). v / x) (pow-add 256 n m ∙ mul_comm (256 ^ n) (256 ^ m)) ∙ sym (div-div-eq-div-mul v (256 ^ m) (256 ^ n)) in
    rw (suc-add n m, q, to_be_halves n m v)

-- the low n bytes don't see what stands above them
pub to_be_low : (n a v : ℕ) → to_be n (a * 256 ^ n + v) ≡ to_be n v
unfolding to_be
to_be_low zero a v = refl
to_be_low (suc n) a v =
    let q : a * 256 ^ suc n + v ≡ a * 256 * 256 ^ n + v = rw (pow-suc 256 n, mul_comm (256 ^ n) 256, ← mul_assoc) in
    let top : (a * 256 * 256 ^ n + v) / 256 ^ n % 256 ≡ v / 256 ^ n % 256 =
    ap (λ (x : ℕ). x / 256 ^ n % 256) (add_comm (a * 256 * 256 ^ n) v)
    ∙ ap (λ (x : ℕ). x % 256) (add-mul-div_right v (a * 256) (pow256_pos n) ∙ add_comm (v / 256 ^ n) (a * 256))
    ∙ mul-add-mod_self_right a 256 (v / 256 ^ n) in
    ap₂ (λ (x : ℕ) (l : List ℕ). x ∷ l) (ap (λ (x : ℕ). x / 256 ^ n % 256) q ∙ top)
    (ap (λ (x : ℕ). to_be n x) q ∙ to_be_low n (a * 256) v)

-- ---- there and back

pub be_to_be_from : (n a v : ℕ) → be_from a (to_be n v) ≡ a * 256 ^ n + v % 256 ^ n
unfolding be_from to_be
be_to_be_from zero a v = omega arith
be_to_be_from (suc n) a v =
    be_to_be_from n (a * 256 + v / 256 ^ n % 256) v
    ∙ rw (pow-suc 256 n, mul_comm (256 ^ n) 256, mod-mul v {m = 256} {c = 256 ^ n} (zero-lt-suc 255) (pow256_pos n), add-mul, mul_assoc, add_assoc)

pub be_to_be : (n v : ℕ) → v < 256 ^ n → be (to_be n v) ≡ v
unfolding be
be_to_be n v h = be_to_be_from n 0 v ∙ rw (zero-mul, zero-add, mod-eq_of_lt h)

pub to_be_be : (xs : List ℕ) → bytes xs ≡ true → to_be (length xs) (be xs) ≡ xs
unfolding to_be
to_be_be [] h = refl
to_be_be (x ∷ xs) h =
    let lt : be xs < 256 ^ length xs = be_lt xs (byte_tail x xs h) in
    ap (λ (v : ℕ). to_be (suc (length xs)) v) (be_cons x xs)
    ∙ ap₂ (λ (y : ℕ) (l : List ℕ). y ∷ l)
    (ap (λ (y : ℕ). y % 256) (digits_div x {m = 256 ^ length xs} {r = be xs} lt) ∙ mod-eq_of_lt (byte_head x xs h))
    (to_be_low (length xs) x (be xs) ∙ to_be_be xs (byte_tail x xs h))
