-- Words: little-endian numbers in bytes, in halves, there and back; and what a word shows of a big-endian number.
-- Assumes nothing.
use Prim.Native.Nat.{ℕ, zero, suc, ◌+◌, ◌*◌, ◌/◌, ◌%◌, ◌^◌, ◌≤◌, ◌<◌}
use native.Mathlib.Nat.{zero-add, suc-add, pow-suc, add-mul, mul_assoc, add_assoc, div-one, mod-lt, mod-one, mod-eq_of_lt}
use native.Mathlib.Omega.{arith}
use mathlib.Core.Path.{◌≡◌, refl, sym, ap, ap₂, ◌∙◌}
use mathlib.Core.Bool.{true}
use mathlib.Core.List.{List, [], ◌∷◌, ◌++◌}
use lib.Arith.{digits_div, digits_mod}
use lib.Dec.{eqb, ltb, lit<}
use lib.ListN.{length, take, drop}
use lib.Pow.{mod-pow-add, shr-shr}
use lib.Seq.{drop-cons, take_all, take-take}
use borrow.Author.Tests.{ltb-true, lt-ltb, eqb-true, eqb-false, eq-eqb, ne_eqb}
use Rattle.be.specs.Bytes.{bytes, be, be_from, to_be, byte, part, field, put}
use Rattle.be.specs.Words.{le, to_le}
use Rattle.be.proofs.Bools.{by_cases, every_head, every_tail, every_cons}
use Rattle.be.proofs.Parts.{part_length, part_add, bytes_all, bytes_take, bytes_drop}
use Rattle.be.proofs.Writes.{put_next, part_inside}

-- ---- elements below 2 ^ k, to go through them one by one

pub data Below (k : ℕ) : List ℕ → Type 0 where
  none : Below k []
  more : {x : ℕ} {xs : List ℕ} → x < 2 ^ k → Below k xs → Below k (x ∷ xs)

abbrev pub Bytes : List ℕ → Type 0
Bytes = Below 8

pub below_append : {k : ℕ} {xs ys : List ℕ} → Below k xs → Below k ys → Below k (xs ++ ys)
below_append none c = c
below_append (more l b) c = more l (below_append b c)

pub bytes_true : {l : List ℕ} → Bytes l → bytes l ≡ true
bytes_true none = refl
bytes_true (more {x} {xs} h b) = every_cons (λ y. ltb y 256) x xs (lt-ltb x 256 h) (bytes_true b)

bytes_are : (l : List ℕ) → bytes l ≡ true → Bytes l
bytes_are [] h = none
bytes_are (x ∷ xs) h =
    more (ltb-true x 256 (every_head (λ y. ltb y 256) x xs h)) (bytes_are xs (every_tail (λ y. ltb y 256) x xs h))

-- of a slice of bytes
pub bytes_part : (b : List ℕ) → ((i : ℕ) → byte i b < 256) → (o n : ℕ) → Bytes (part o n b)
bytes_part b known o n = bytes_are (part o n b) (bytes_take n (drop o b) (bytes_drop o b (bytes_all b known)))

-- ---- reading

pub le_append : (xs ys : List ℕ) → le (xs ++ ys) ≡ le ys * 256 ^ length xs + le xs
unfolding le
le_append [] ys = omega arith
le_append (x ∷ xs) ys = rw (le_append xs ys, pow-suc 256 (length xs), add-mul, mul_assoc, add_assoc)

-- a number of k + m bytes is one of k bytes below one of m
pub le_halves : (b : List ℕ) (o k m : ℕ) → o + (k + m) ≤ length b
    → le (part (o + k) m b) * 256 ^ k + le (part o k b) ≡ le (part o (k + m) b)
le_halves b o k m h =
    let e : length (part o k b) ≡ k = part_length o k b (omega arith) in
    sym (ap le (part_add o k m b) ∙ le_append (part o k b) (part (o + k) m b) ∙ rw e)

pub le_1 : (b : List ℕ) (o : ℕ) → o < length b → le (part o 1 b) ≡ byte o b
unfolding le
le_1 b o h = rw (drop-cons b o 0 h) (omega arith)

-- ---- there and back

pub length_to_le : (n w : ℕ) → length (to_le n w) ≡ n
unfolding to_le
length_to_le zero w = refl
length_to_le (suc n) w = ap suc (length_to_le n (w / 256))

pub to_le_bytes : (n w : ℕ) → Bytes (to_le n w)
unfolding to_le
to_le_bytes zero w = none
to_le_bytes (suc n) w = more (mod-lt w (lit< tt)) (to_le_bytes n (w / 256))

pub le_mod : (n w : ℕ) → le (to_le n w) ≡ w % 2 ^ (n * 8)
unfolding le to_le
le_mod zero w = sym (mod-one w)
le_mod (suc n) w =
    let e : suc n * 8 ≡ n * 8 + 8 = omega arith in
    ap (λ (k : ℕ). k * 256 + w % 256) (le_mod n (w / 256)) ∙ sym (ap (λ (k : ℕ). w % 2 ^ k) e ∙ mod-pow-add w (n * 8) 8)

pub le_to_le : (n w : ℕ) → w < 2 ^ (n * 8) → le (to_le n w) ≡ w
le_to_le n w h = le_mod n w ∙ mod-eq_of_lt h

-- the first n bytes of the number that some bytes are
pub to_le_take : (n : ℕ) {xs : List ℕ} → Bytes xs → n ≤ length xs → to_le n (le xs) ≡ take n xs
unfolding to_le le
to_le_take zero b h = refl
to_le_take (suc n) none h = absurd (omega arith)
to_le_take (suc n) (more {x} {xs} l b) h =
    ap₂ (λ (y : ℕ) (ys : List ℕ). y ∷ ys) (digits_mod (le xs) l) (ap (to_le n) (digits_div (le xs) l) ∙ to_le_take n b (omega arith))

pub to_le_le : (n : ℕ) {xs : List ℕ} → Bytes xs → length xs ≡ n → to_le n (le xs) ≡ xs
to_le_le n {xs} b h = to_le_take n b (omega arith) ∙ take_all n xs (omega arith)

pub bytes_to_le : (n w : ℕ) → bytes (to_le n w) ≡ true
bytes_to_le n w = bytes_true (to_le_bytes n w)

-- n bytes, from the number that they are
pub le_part : (o n : ℕ) (b : List ℕ) → bytes b ≡ true → o + n ≤ length b → to_le n (le (part o n b)) ≡ part o n b
le_part o n b h l = to_le_le n (bytes_are (part o n b) (bytes_take n (drop o b) (bytes_drop o b h))) (part_length o n b l)

-- a number that was written is read
pub le_put : (b : List ℕ) (o n w : ℕ) → o + n ≤ length b → w < 2 ^ (n * 8) → le (part o n (put b o (to_le n w))) ≡ w
le_put b o n w h l =
    let k : length (to_le n w) ≡ n = length_to_le n w in
    let q : part o (length (to_le n w)) (put b o (to_le n w)) ≡ to_le n w = part_inside b o (to_le n w) (omega arith) in
    ap le (rw k at q) ∙ le_to_le n w l

-- the first n bytes of the word that stands at o
pub word_bytes : (b : List ℕ) → ((i : ℕ) → byte i b < 256) → (o : ℕ) → o + 8 ≤ length b → (n w : ℕ) → n ≤ 8 → w ≡ le (part o 8 b)
    → to_le n w ≡ part o n b
word_bytes b known o fits n w p e =
    let l : length (part o 8 b) ≡ 8 = part_length o 8 b fits in
    ap (to_le n) e ∙ to_le_take n (bytes_part b known o 8) (omega arith) ∙ take-take n 8 (drop o b) p

-- a number of n + m bytes is one of n bytes, and one of m behind it
to_le_halves : (n m v : ℕ) → to_le (n + m) v ≡ to_le n v ++ to_le m (v / 2 ^ (8 * n))
unfolding to_le
to_le_halves zero m v = ap₂ to_le (zero-add m) (sym (div-one v))
to_le_halves (suc n) m v =
    let e : 8 + 8 * n ≡ 8 * suc n = omega arith in
    ap (λ (k : ℕ). to_le k v) (suc-add n m)
    ∙ ap (λ (l : List ℕ). v % 256 ∷ l) (to_le_halves n m (v / 256))
    ∙ ap (λ (k : ℕ). v % 256 ∷ (to_le n (v / 256) ++ to_le m k)) (shr-shr v 8 (8 * n) ∙ ap (λ (k : ℕ). v / 2 ^ k) e)

pub put_le_halves : (b : List ℕ) (o n m v : ℕ) → put (put b o (to_le n v)) (o + n) (to_le m (v / 2 ^ (8 * n))) ≡ put b o (to_le (n + m) v)
put_le_halves b o n m v =
    put_next b (o + n) o (to_le n v) (to_le m (v / 2 ^ (8 * n))) (rw length_to_le) ∙ ap (put b o) (sym (to_le_halves n m v))

-- one byte is the same either way
pub one_byte : (v : ℕ) → to_be 1 v ≡ to_le 1 v
unfolding to_be to_le
one_byte v = simp div-one

-- ---- beside the big-endian number in the same bytes: one is 0 where the other is

be_least : (a : ℕ) (xs : List ℕ) → a ≤ be_from a xs
unfolding be_from
be_least a [] = omega arith
be_least a (x ∷ xs) = omega (arith, be_least (a * 256 + x) xs)

pub le_zero : (l : List ℕ) → le l ≡ 0 → be l ≡ 0
unfolding le be be_from
le_zero [] h = refl
le_zero (x ∷ xs) h =
    let z : 0 * 256 + x ≡ 0 = omega arith in
    let r : le xs ≡ 0 = omega arith in
    ap (λ (a : ℕ). be_from a xs) z ∙ le_zero xs r

pub be_zero : (l : List ℕ) → be l ≡ 0 → le l ≡ 0
unfolding le be be_from
be_zero [] h = refl
be_zero (x ∷ xs) h =
    let z : 0 * 256 + x ≡ 0 = omega (arith, be_least (0 * 256 + x) xs) in
    let r : le xs ≡ 0 = be_zero xs (ap (λ (a : ℕ). be_from a xs) (sym z) ∙ h) in
    omega arith

-- ---- two bytes of ones, whichever of them comes first

swap : (x y : ℕ) → x < 256 → y < 256 → eqb (y * 256 + x) 65535 ≡ eqb ((0 * 256 + x) * 256 + y) 65535
swap x y p q =
    by_cases (eqb (y * 256 + x) 65535)
    (λ h.
    let e : y * 256 + x ≡ 65535 = eqb-true (y * 256 + x) 65535 h in
    h ∙ sym (eq-eqb ((0 * 256 + x) * 256 + y) 65535 (omega arith)))
    (λ h.
    h ∙ sym (ne_eqb ((0 * 256 + x) * 256 + y) 65535 (λ (z : (0 * 256 + x) * 256 + y ≡ 65535). eqb-false (y * 256 + x) 65535 h (omega arith))))

ones_law : {l : List ℕ} → Bytes l → length l ≡ 8 → eqb (le l % 65536) 65535 ≡ eqb (be (take 2 l)) 65535
unfolding le be be_from
ones_law none q = absurd (omega arith)
ones_law (more h none) q = absurd (omega arith)
ones_law (more {x} h (more {x = y} {xs = r} k b)) q =
    let e : (le r * 256 + y) * 256 + x ≡ le r * 65536 + (y * 256 + x) = omega arith in
    let l : y * 256 + x < 65536 = omega arith in
    let m : ((le r * 256 + y) * 256 + x) % 65536 ≡ y * 256 + x = ap (λ (n : ℕ). n % 65536) e ∙ digits_mod (le r) l in
    ap (λ (n : ℕ). eqb n 65535) m ∙ swap x y h k

pub ones_at : (b : List ℕ) → ((i : ℕ) → byte i b < 256) → (o : ℕ) → o + 8 ≤ length b → (w : ℕ) → w ≡ le (part o 8 b)
    → eqb (w % 65536) 65535 ≡ eqb (field o 2 b) 65535
ones_at b known o fits w ew =
    ap (λ (k : ℕ). eqb (k % 65536) 65535) ew
    ∙ ones_law (bytes_part b known o 8) (part_length o 8 b fits)
    ∙ ap (λ (l : List ℕ). eqb (be l) 65535) (take-take 2 8 (drop o b) (omega arith))
