-- Parts of bytes and the numbers in them: how parts join, and what is known of a field.
-- Assumes nothing.
use Prim.Native.Nat.{ℕ, zero, suc, ◌+◌, ◌-◌, ◌*◌, ◌^◌, ◌≤◌, ◌<◌}
use native.Mathlib.Nat.{suc-add, zero-add}
use native.Mathlib.Omega.{arith}
use mathlib.Core.Bool.{true}
use mathlib.Core.Path.{◌≡◌, refl, sym, ◌∙◌, ap, subst}
use mathlib.Core.List.{List, [], ◌∷◌, ◌++◌}
use lib.Dec.{ltb}
use lib.ListN.{length, take, drop, get_or, length-take, length-drop, take-append-drop}
use lib.Seq.{take_at, drop_at, drop-drop, take_all, take-add, take-take, take-nil, drop-cons, get_or-take, get_or-drop}
use borrow.Author.Tests.{lt-ltb}
use Rattle.be.specs.Bytes.{bytes, be, be_from, to_be, byte, part, field}
use Rattle.be.proofs.Bools.{and_right, every_head, every_tail, every_cons}
use Rattle.be.proofs.Numbers.{be_halves, be_lt, to_be_be}

pub part_length : (o n : ℕ) (b : List ℕ) → o + n ≤ length b → length (part o n b) ≡ n
part_length o n b h = simp (length-take, length-drop) (omega arith)

-- two parts that touch
pub part_add : (o n m : ℕ) (b : List ℕ) → part o (n + m) b ≡ part o n b ++ part (o + n) m b
part_add o n m b = take-add n m (drop o b) ∙ ap (λ (l : List ℕ). take n (drop o b) ++ take m l) (drop-drop n o b)

-- a part of a part, and what is left of one
pub drop_take : (i m : ℕ) (l : List ℕ) → drop i (take (i + m) l) ≡ take m (drop i l)
drop_take zero m l = ap (λ (k : ℕ). take k l) (zero-add m)
drop_take (suc i) m [] = rw (take-nil {A = ℕ} (suc i + m), take-nil {A = ℕ} m)
drop_take (suc i) m (x ∷ l) = rw suc-add (drop_take i m l)

pub part_part : (b : List ℕ) (o m i n : ℕ) → i + n ≤ m → part i n (part o m b) ≡ part (o + i) n b
part_part b o m i n h =
    let split : i + (m - i) ≡ m = omega arith in
    ap (λ (k : ℕ). take n (drop i (take k (drop o b)))) (sym split)
    ∙ ap (take n) (drop_take i (m - i) (drop o b))
    ∙ take-take n (m - i) (drop i (drop o b)) (omega arith)
    ∙ ap (take n) (drop-drop i o b)

pub field_part : (b : List ℕ) (o m i n : ℕ) → i + n ≤ m → field i n (part o m b) ≡ field (o + i) n b
field_part b o m i n h = ap be (part_part b o m i n h)

pub drop_part : (b : List ℕ) (o m n : ℕ) → n ≤ m → drop n (part o m b) ≡ part (o + n) (m - n) b
drop_part b o m n h =
    let split : n + (m - n) ≡ m = omega arith in
    ap (λ (k : ℕ). drop n (take k (drop o b))) (sym split)
    ∙ drop_take n (m - n) (drop o b)
    ∙ ap (take (m - n)) (drop-drop n o b)

pub take_part : (b : List ℕ) (o m n : ℕ) → n ≤ m → take n (part o m b) ≡ part o n b
take_part b o m n h = take-take n m (drop o b) h

pub get_d_part : (b : List ℕ) (o m i : ℕ) → i < m → get_or (part o m b) i 0 ≡ get_or b (o + i) 0
get_d_part b o m i h = get_or-take m (drop o b) i 0 h ∙ get_or-drop o b i 0

-- one byte of a part
pub part_cons : (o n : ℕ) (b : List ℕ) → o < length b → part o (suc n) b ≡ byte o b ∷ part (suc o) n b
part_cons o n b h = ap (take (suc n)) (drop-cons b o 0 h)

-- the bytes q behind p
pub part_at : (p q r : List ℕ) (o n : ℕ) → length p ≡ o → length q ≡ n → part o n (p ++ (q ++ r)) ≡ q
part_at p q r o n h k = rw (drop_at p (q ++ r) o h, take_at q r n k)

-- the bytes from i on: n of them, and those from j on
pub piece : (i n j : ℕ) (b : List ℕ) → i + n ≡ j → part i n b ++ drop j b ≡ drop i b
piece i n j b h = rw (← h, ← drop-drop n i b) (take-append-drop n (drop i b))

-- the last n bytes
pub last_piece : (i n : ℕ) (b : List ℕ) → i + n ≡ length b → part i n b ≡ drop i b
last_piece i n b h = take_all n (drop i b) (simp length-drop (omega arith))

-- what is known of a slice of bytes, element by element
pub bytes_all : (b : List ℕ) → ((i : ℕ) → byte i b < 256) → bytes b ≡ true
bytes_all [] h = refl
bytes_all (x ∷ xs) h = every_cons (λ y. ltb y 256) x xs (lt-ltb x 256 (h 0)) (bytes_all xs (λ i. h (suc i)))

pub bytes_take : (n : ℕ) (b : List ℕ) → bytes b ≡ true → bytes (take n b) ≡ true
bytes_take zero b h = refl
bytes_take (suc n) [] h = refl
bytes_take (suc n) (x ∷ xs) h = every_cons (λ y. ltb y 256) x (take n xs) (every_head (λ y. ltb y 256) x xs h) (bytes_take n xs (every_tail (λ y. ltb y 256) x xs h))

pub bytes_drop : (n : ℕ) (b : List ℕ) → bytes b ≡ true → bytes (drop n b) ≡ true
bytes_drop zero b h = h
bytes_drop (suc n) [] h = refl
bytes_drop (suc n) (x ∷ xs) h = bytes_drop n xs (and_right (ltb x 256) _ h)

-- a field of one byte
pub field_1 : (b : List ℕ) (o : ℕ) → field o 1 b ≡ byte o b
unfolding be be_from
field_1 [] zero = refl
field_1 [] (suc o) = refl
field_1 (x ∷ xs) zero = omega arith
field_1 (x ∷ xs) (suc o) = field_1 xs o

-- a field of n + m bytes, from the number in the first n and that in the others
pub field_halves : (b : List ℕ) (o n m : ℕ) → o + (n + m) ≤ length b → field o n b * 256 ^ m + field (o + n) m b ≡ field o (n + m) b
field_halves b o n m h =
    let k : length (part (o + n) m b) ≡ m = part_length (o + n) m b (omega arith) in
    sym (ap be (part_add o n m b) ∙ be_halves (part o n b) (part (o + n) m b) ∙ rw k)

-- a field's bytes, from its number
pub field_bytes : (o n : ℕ) (b : List ℕ) → bytes b ≡ true → o + n ≤ length b → to_be n (field o n b) ≡ part o n b
field_bytes o n b h l =
    let q : to_be (length (part o n b)) (be (part o n b)) ≡ part o n b = to_be_be (part o n b) (bytes_take n (drop o b) (bytes_drop o b h)) in
    subst (λ (m : ℕ). to_be m (be (part o n b)) ≡ part o n b) (part_length o n b l) q

pub field_lt : (o n : ℕ) (b : List ℕ) → bytes b ≡ true → o + n ≤ length b → field o n b < 256 ^ n
field_lt o n b h l =
    subst (λ (m : ℕ). be (part o n b) < 256 ^ m) (part_length o n b l) (be_lt (part o n b) (bytes_take n (drop o b) (bytes_drop o b h)))
