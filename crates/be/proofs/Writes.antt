-- Writes into bytes: the length stays; what is read before, inside and behind a write; two writes; there and back.
-- Assumes nothing.
use Prim.Native.Nat.{ℕ, zero, suc, ◌+◌, ◌/◌, ◌^◌, ◌≤◌, ◌<◌}
use native.Mathlib.Nat.{add-zero, zero-add, suc-add}
use native.Mathlib.Omega.{arith}
use mathlib.Core.Path.{◌≡◌, refl, sym, ◌∙◌, ap}
use mathlib.Core.List.{List, [], ◌∷◌, ◌++◌}
use lib.ListN.{length, take, drop, take-append-drop}
use lib.Seq.{length-take-le, drop-drop, paste}
use borrow.Rule.Slice.PartMut.{put_mid}
use Rattle.std.proofs.lemmas.List.{append_assoc}
use Rattle.be.specs.Bytes.{be, to_be, part, field, put, written, Write}
use Rattle.be.proofs.Numbers.{length_to_be, be_to_be, to_be_halves}
use Rattle.be.proofs.Parts.{part_length, part_at, piece}

pub length_put : (b : List ℕ) (o : ℕ) (xs : List ℕ) → length (put b o xs) ≡ length b
unfolding put
length_put [] o xs = refl
length_put (y ∷ ys) zero [] = refl
length_put (y ∷ ys) zero (x ∷ xs) = ap suc (length_put ys zero xs)
length_put (y ∷ ys) (suc o) xs = ap suc (length_put ys o xs)

pub length_written : (b : List ℕ) (ws : List Write) → length (written b ws) ≡ length b
unfolding written
length_written b [] = refl
length_written b (w ∷ ws) = length_written (put b w.place w.what) ws ∙ length_put b w.place w.what

-- ---- one write, by where it falls

-- a write of nothing
pub put_nothing : (b : List ℕ) (o : ℕ) → put b o [] ≡ b
unfolding put
put_nothing [] o = refl
put_nothing (y ∷ ys) zero = refl
put_nothing (y ∷ ys) (suc o) = ap (λ (l : List ℕ). y ∷ l) (put_nothing ys o)

-- a write over exactly the bytes q
pub put_front : (q xs r : List ℕ) → length xs ≡ length q → put (q ++ r) 0 xs ≡ xs ++ r
unfolding put
put_front [] [] [] h = refl
put_front [] [] (y ∷ ys) h = refl
put_front [] (x ∷ xs) r h = absurd (omega arith)
put_front (y ∷ q) [] r h = absurd (omega arith)
put_front (y ∷ q) (x ∷ xs) r h = ap (λ (l : List ℕ). x ∷ l) (put_front q xs r (omega arith))

-- a write that starts behind p
pub put_skip : (p r : List ℕ) (o : ℕ) (xs : List ℕ) → put (p ++ r) (length p + o) xs ≡ p ++ put r o xs
unfolding put
put_skip [] r o xs = rw zero-add
put_skip (y ∷ p) r o xs = rw suc-add (ap (λ (l : List ℕ). y ∷ l) (put_skip p r o xs))

pub put_at : (p q xs r : List ℕ) (o : ℕ) → length p ≡ o → length xs ≡ length q → put (p ++ (q ++ r)) o xs ≡ p ++ (xs ++ r)
put_at p q xs r o h l =
    ap (λ (n : ℕ). put (p ++ (q ++ r)) n xs) (sym h ∙ sym (add-zero (length p))) ∙ put_skip p (q ++ r) 0 xs
    ∙ ap (λ (m : List ℕ). p ++ m) (put_front q xs r l)

-- a write that ends within p
pub put_inside : (p r : List ℕ) (o : ℕ) (xs : List ℕ) → o + length xs ≤ length p → put (p ++ r) o xs ≡ put p o xs ++ r
unfolding put
put_inside [] r o [] h = put_nothing r o
put_inside [] r o (x ∷ xs) h = absurd (omega arith)
put_inside (y ∷ p) r zero [] h = refl
put_inside (y ∷ p) r zero (x ∷ xs) h = ap (λ (l : List ℕ). x ∷ l) (put_inside p r 0 xs (omega arith))
put_inside (y ∷ p) r (suc o) xs h = ap (λ (l : List ℕ). y ∷ l) (put_inside p r o xs (omega arith))

-- a write in terms of what stands before it and behind it
pub put_whole : (b : List ℕ) (o : ℕ) (xs : List ℕ) → o + length xs ≤ length b → put b o xs ≡ take o b ++ (xs ++ drop (o + length xs) b)
put_whole b o xs h =
    let s : b ≡ take o b ++ (part o (length xs) b ++ drop (o + length xs) b) =
    sym (take-append-drop o b) ∙ ap (λ (l : List ℕ). take o b ++ l) (sym (piece o (length xs) (o + length xs) b refl)) in
    ap (λ (l : List ℕ). put l o xs) s
    ∙ put_at (take o b) (part o (length xs) b) xs (drop (o + length xs) b) o (length-take-le o b (omega arith)) (sym (part_length o (length xs) b h))

-- a write of what stands there
pub put_same : (b : List ℕ) (o n : ℕ) → put b o (part o n b) ≡ b
unfolding put
put_same [] o n = refl
put_same (z ∷ zs) zero zero = refl
put_same (z ∷ zs) zero (suc n) = ap (λ (l : List ℕ). z ∷ l) (put_same zs 0 n)
put_same (z ∷ zs) (suc o) n = ap (λ (l : List ℕ). z ∷ l) (put_same zs o n)

-- ---- two writes

-- a write behind another is one write
pub put_next : (b : List ℕ) (p o : ℕ) (xs ys : List ℕ) → o + length xs ≡ p → put (put b o xs) p ys ≡ put b o (xs ++ ys)
unfolding put
put_next [] p o xs ys h = refl
put_next (z ∷ zs) zero zero [] ys h = refl
put_next (z ∷ zs) (suc p) zero [] ys h = absurd (omega arith)
put_next (z ∷ zs) zero zero (x ∷ xs) ys h = absurd (omega arith)
put_next (z ∷ zs) (suc p) zero (x ∷ xs) ys h = ap (λ (l : List ℕ). x ∷ l) (put_next zs p 0 xs ys (omega arith))
put_next (z ∷ zs) zero (suc o) xs ys h = absurd (omega arith)
put_next (z ∷ zs) (suc p) (suc o) xs ys h = ap (λ (l : List ℕ). z ∷ l) (put_next zs p o xs ys (omega arith))

-- the same, as they are made
pub put_then : (b c d : List ℕ) (o p : ℕ) (xs ys : List ℕ) → c ≡ put b o xs → d ≡ put c p ys → p ≡ o + length xs → d ≡ put b o (xs ++ ys)
put_then b c d o p xs ys h k q = rw (k, h) (put_next b p o xs ys (sym q))

-- writes apart from each other may be made in either order
pub put_comm : (b : List ℕ) (a : ℕ) (xs : List ℕ) (o : ℕ) (ys : List ℕ) → a + length xs ≤ o → put (put b a xs) o ys ≡ put (put b o ys) a xs
unfolding put
put_comm [] a xs o ys h = refl
put_comm (z ∷ zs) zero [] o ys h = sym (put_nothing (put (z ∷ zs) o ys) 0)
put_comm (z ∷ zs) zero (x ∷ xs) zero ys h = absurd (omega arith)
put_comm (z ∷ zs) zero (x ∷ xs) (suc o) ys h = ap (λ (l : List ℕ). x ∷ l) (put_comm zs 0 xs o ys (omega arith))
put_comm (z ∷ zs) (suc a) xs zero ys h = absurd (omega arith)
put_comm (z ∷ zs) (suc a) xs (suc o) ys h = ap (λ (l : List ℕ). z ∷ l) (put_comm zs a xs o ys (omega arith))

-- the later of two writes at one place stands
pub put_again : (b : List ℕ) (o : ℕ) (xs ys : List ℕ) → length xs ≡ length ys → put (put b o xs) o ys ≡ put b o ys
unfolding put
put_again [] o xs ys h = refl
put_again (z ∷ zs) zero [] [] h = refl
put_again (z ∷ zs) zero [] (y ∷ ys) h = refl
put_again (z ∷ zs) zero (x ∷ xs) [] h = absurd (omega arith)
put_again (z ∷ zs) zero (x ∷ xs) (y ∷ ys) h = ap (λ (l : List ℕ). y ∷ l) (put_again zs 0 xs ys (omega arith))
put_again (z ∷ zs) (suc o) xs ys h = ap (λ (l : List ℕ). z ∷ l) (put_again zs o xs ys h)

-- a write that covers an earlier one
pub put_over : (b : List ℕ) (o p : ℕ) (xs ys : List ℕ) → o ≤ p → p + length ys ≤ o + length xs → put (put b p ys) o xs ≡ put b o xs
unfolding put
put_over [] o p xs ys h l = refl
put_over (z ∷ zs) zero zero [] [] h l = refl
put_over (z ∷ zs) zero zero [] (y ∷ ys) h l = absurd (omega arith)
put_over (z ∷ zs) zero zero (x ∷ xs) [] h l = refl
put_over (z ∷ zs) zero zero (x ∷ xs) (y ∷ ys) h l = ap (λ (m : List ℕ). x ∷ m) (put_over zs 0 0 xs ys h (omega arith))
put_over (z ∷ zs) zero (suc p) [] ys h l = absurd (omega arith)
put_over (z ∷ zs) zero (suc p) (x ∷ xs) ys h l = ap (λ (m : List ℕ). x ∷ m) (put_over zs 0 p xs ys (omega arith) (omega arith))
put_over (z ∷ zs) (suc o) zero xs ys h l = absurd (omega arith)
put_over (z ∷ zs) (suc o) (suc p) xs ys h l = ap (λ (m : List ℕ). z ∷ m) (put_over zs o p xs ys (omega arith) (omega arith))

-- a number of n + m bytes, written as one of n bytes and one of m
pub put_halves : (b : List ℕ) (o n m v : ℕ) → put (put b o (to_be n (v / 256 ^ m))) (o + n) (to_be m v) ≡ put b o (to_be (n + m) v)
put_halves b o n m v =
    put_next b (o + n) o (to_be n (v / 256 ^ m)) (to_be m v) (rw length_to_be) ∙ ap (put b o) (sym (to_be_halves n m v))

-- ---- what is read after a write

pub take_put : (b : List ℕ) (k o : ℕ) (xs : List ℕ) → k ≤ o → take k (put b o xs) ≡ take k b
unfolding put
take_put b zero o xs h = refl
take_put [] (suc k) o xs h = refl
take_put (z ∷ zs) (suc k) zero xs h = absurd (omega arith)
take_put (z ∷ zs) (suc k) (suc o) xs h = ap (λ (l : List ℕ). z ∷ l) (take_put zs k o xs (omega arith))

pub drop_put : (b : List ℕ) (k o : ℕ) (xs : List ℕ) → o + length xs ≤ k → drop k (put b o xs) ≡ drop k b
unfolding put
drop_put [] k o xs h = refl
drop_put (z ∷ zs) k zero [] h = refl
drop_put (z ∷ zs) zero zero (x ∷ xs) h = absurd (omega arith)
drop_put (z ∷ zs) (suc k) zero (x ∷ xs) h = drop_put zs k 0 xs (omega arith)
drop_put (z ∷ zs) zero (suc o) xs h = absurd (omega arith)
drop_put (z ∷ zs) (suc k) (suc o) xs h = drop_put zs k o xs (omega arith)

-- a part before the write
pub part_before : (b : List ℕ) (i n o : ℕ) (xs : List ℕ) → i + n ≤ o → part i n (put b o xs) ≡ part i n b
unfolding put
part_before [] i n o xs h = refl
part_before (z ∷ zs) zero n o xs h = take_put (z ∷ zs) n o xs (omega arith)
part_before (z ∷ zs) (suc i) n zero xs h = absurd (omega arith)
part_before (z ∷ zs) (suc i) n (suc o) xs h = part_before zs i n o xs (omega arith)

-- what was written
pub part_inside : (b : List ℕ) (o : ℕ) (xs : List ℕ) → o + length xs ≤ length b → part o (length xs) (put b o xs) ≡ xs
part_inside b o xs h =
    ap (part o (length xs)) (put_whole b o xs h)
    ∙ part_at (take o b) xs (drop (o + length xs) b) o (length xs) (length-take-le o b (omega arith)) refl

-- a part behind it
pub part_behind : (b : List ℕ) (i n o : ℕ) (xs : List ℕ) → o + length xs ≤ i → part i n (put b o xs) ≡ part i n b
part_behind b i n o xs h = ap (take n) (drop_put b i o xs h)

-- a number that was written is read
pub field_put : (b : List ℕ) (o n v : ℕ) → o + n ≤ length b → v < 256 ^ n → field o n (put b o (to_be n v)) ≡ v
field_put b o n v h l =
    let k : length (to_be n v) ≡ n = length_to_be n v in
    let q : part o (length (to_be n v)) (put b o (to_be n v)) ≡ to_be n v = part_inside b o (to_be n v) (omega arith) in
    ap be (rw k at q) ∙ be_to_be n v l

-- k bytes from o on were lent, and came back as xs
pub lent_put : (b : List ℕ) (o k : ℕ) (xs : List ℕ) → o + k ≤ length b → length xs ≡ k → put_mid o k b xs ≡ put b o xs
lent_put b o k xs h l =
    let e : drop k (drop o b) ≡ drop (o + length xs) b = drop-drop k o b ∙ ap (λ (n : ℕ). drop (o + n) b) (sym l) in
    ap (λ (r : List ℕ). take o b ++ (xs ++ r)) e ∙ sym (put_whole b o xs (omega (arith, h, l)))

-- n bytes pasted at o
pub paste_put : (b : List ℕ) (o n : ℕ) (s : List ℕ) → o + n ≤ length b → n ≤ length s → paste b o s n ≡ put b o (take n s)
paste_put b o n s h l =
    let k : length (take n s) ≡ n = length-take-le n s l in
    append_assoc (take o b) (take n s) (drop (o + n) b) ∙ ap (λ (m : ℕ). take o b ++ (take n s ++ drop (o + m) b)) (sym k) ∙ sym (put_whole b o (take n s) (omega (arith, h, k)))
