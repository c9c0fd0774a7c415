-- The index rewritten: runs of slots that stay, that move, and the new slot; and the tail.
-- Assumes nothing.
use Prim.Native.Nat.{ℕ, zero, suc, ◌+◌, ◌-◌, ◌*◌, ◌≤◌, ◌<◌}
use native.Mathlib.Nat.{zero-add}
use native.Mathlib.Numerals.{add-one}
use native.Mathlib.Omega.{arith}
use mathlib.Core.Bool.{true, false, ◌&&◌}
use mathlib.Core.Path.{◌≡◌, refl, sym, ◌∙◌, ap, ap₂}
use mathlib.Core.List.{List, [], ◌∷◌, ◌++◌, append_assoc, append-nil}
use lib.Dec.{leb, ltb}
use lib.ListN.{length, take, drop, length-append, length-drop, length-take, take-append-drop}
use lib.Seq.{drop-drop, take-add, take_all}
use borrow.Author.Tests.{eq-eqb, ne_eqb, leb-true, ltb-true, le-leb, lt-leb, not-true}
use Rattle.be.specs.Lists.{every, without_first, tally}
use Rattle.be.specs.Bytes.{part, field, put, to_be, written}
use Rattle.edition.specs.declared.Edition.{Edition}
use Rattle.dir_block_rules.specs.Block.{Slot, slot, slots, slots_in, slot_bytes, data_end, count_of, stale_of, is_stale, is_live}
use Rattle.dir_block_rules.specs.Change.{index_writes, insert_slot}
use Rattle.be.proofs.Bools.{every_head, every_tail, every_append, and_left, and_right, and_both}
use Rattle.be.proofs.Numbers.{length_to_be}
use Rattle.be.proofs.Parts.{bytes_drop}
use Rattle.dir_block_rules.proofs.BlockParts.{slot_bytes_in, length_slot_bytes}
use Rattle.dir_block_rules.proofs.ChangeAccepted.{length_insert, length_without}
use Rattle.edition.specs.Edition.{Sane}
use Rattle.dir_block_rules.proofs.AcceptedParts.{good_of}
use Rattle.dir_block_rules.proofs.RemoveWrites.{slot_bytes_append}
use Rattle.dir_block_laws.specs.Tiled.{Ready}
use Rattle.dir_block_laws.specs.SlotIndex.{all_below, all_from, Spot, FirstStale}
use Rattle.be.proofs.Writes.{put_next, put_comm, put_same, part_behind}
use Rattle.dir_block_laws.proofs.RecordSteps.{end_fits}
use Rattle.dir_block_laws.proofs.SlotSearch.{slots_drop, slot_at, tiled, length_slots, all_tail}

-- ---- writes that keep what stands at one of their ends

pub keep_put : (b : List ℕ) (o n p : ℕ) (xs : List ℕ) → o + n ≡ p → p ≤ length b → put b o (part o n b ++ xs) ≡ put b p xs
keep_put b o n p xs q h =
    let l : length (part o n b) ≡ n = simp (length-take, length-drop) (omega arith) in
    sym (put_next b p o (part o n b) xs (omega (arith, l))) ∙ ap (λ (c : List ℕ). put c p xs) (put_same b o n)

pub put_keep : (b : List ℕ) (o q m : ℕ) (xs : List ℕ) → o + length xs ≡ q → put b o (xs ++ part q m b) ≡ put b o xs
put_keep b o q m xs h =
    sym (put_next b q o xs (part q m b) h)
    ∙ ap (put (put b o xs) q) (sym (part_behind b q m o xs (omega arith)))
    ∙ put_same (put b o xs) q m

-- a write in front of another
pub put_front : (b : List ℕ) (o p : ℕ) (xs ys : List ℕ) → o + length xs ≡ p → put (put b p ys) o xs ≡ put b o (xs ++ ys)
put_front b o p xs ys h = sym (put_comm b o xs p ys (omega arith)) ∙ put_next b p o xs ys h

-- ---- runs of slots and their bytes

-- the k slots from place i on
abbrev pub run_of : List ℕ → ℕ → ℕ → List Slot
run_of b i k = take k (drop i (slots b))

pub take_slots : (k n : ℕ) (d : List ℕ) → k ≤ n → take k (slots_in n d) ≡ slots_in k d
unfolding slots_in
take_slots zero n d h = refl
take_slots (suc k) zero d h = absurd (omega arith)
take_slots (suc k) (suc n) d h = ap (λ (l : List Slot). slot (field 0 4 d) (field 4 4 d) ∷ l) (take_slots k n (drop 8 d) (omega arith))

module _ (e : Edition) (b : List ℕ) (r : Ready e b) where
  pub run_bytes : (i k : ℕ) → i + k ≤ count_of b → slot_bytes (run_of b i k) ≡ part (data_end b + 8 * i) (8 * k) b
  unfolding slots
  run_bytes i k h =
      let d : List ℕ = drop (data_end b) b in
      let f : data_end b + 8 * count_of b + 8 ≡ length b = end_fits e b (tiled e b r) in
      let s : take k (drop i (slots_in (count_of b) (drop (data_end b) b))) ≡ slots_in k (drop (8 * i) (drop (data_end b) b)) =
      ap (take k) (slots_drop i (count_of b) (drop (data_end b) b) (omega arith)) ∙ take_slots k (count_of b - i) (drop (8 * i) (drop (data_end b) b)) (omega arith) in
      ap slot_bytes s
      ∙ slot_bytes_in k (drop (8 * i) (drop (data_end b) b)) (bytes_drop (8 * i) (drop (data_end b) b) (bytes_drop (data_end b) b r.are_bytes)) (simp length-drop (omega arith))
      ∙ ap (take (8 * k)) (drop-drop (8 * i) (data_end b) b)

  pub run_rest : (i : ℕ) → i ≤ count_of b → drop i (slots b) ≡ run_of b i (count_of b - i)
  run_rest i h = sym (take_all (count_of b - i) (drop i (slots b)) (simp length-drop (omega (arith, length_slots e b r))))

-- the bytes of one slot
pub one_slot : (h a : ℕ) → slot_bytes (slot h a ∷ []) ≡ to_be 4 h ++ to_be 4 a
unfolding slot_bytes
one_slot h a = ap (λ (l : List ℕ). to_be 4 h ++ l) (append-nil (to_be 4 a))

pub slot_front : (h a : ℕ) (ss : List Slot) → slot_bytes (slot h a ∷ ss) ≡ (to_be 4 h ++ to_be 4 a) ++ slot_bytes ss
unfolding slot_bytes
slot_front h a ss = sym (append_assoc (to_be 4 h) (to_be 4 a) (slot_bytes ss))

slot_long : (h a : ℕ) → length (to_be 4 h ++ to_be 4 a) ≡ 8
slot_long h a = simp (length-append, length_to_be)

-- two numbers stored are a slot
pub slot_stored : (o p h a : ℕ) (b b₁ b₂ : List ℕ) → o + 4 ≡ p → b₁ ≡ put b o (to_be 4 h) → b₂ ≡ put b₁ p (to_be 4 a) → b₂ ≡ put b o (to_be 4 h ++ to_be 4 a)
slot_stored o p h a b b₁ b₂ q e₁ e₂ =
    e₂ ∙ ap (λ (l : List ℕ). put l p (to_be 4 a)) e₁ ∙ put_next b p o (to_be 4 h) (to_be 4 a) (ap (λ (k : ℕ). o + k) (length_to_be 4 h) ∙ q)

-- ---- where the new slot stands

pub insert_at : (s : Slot) (us vs : List Slot) → all_below (suc s.hash) us ≡ true → all_from (suc s.hash) vs ≡ true → insert_slot s (us ++ vs) ≡ us ++ s ∷ vs
unfolding insert_slot all_below all_from
insert_at s [] [] p q = refl
insert_at s [] (v ∷ vs) p q =
    let l : suc s.hash ≤ v.hash = leb-true (suc s.hash) v.hash (every_head (λ t. leb (suc s.hash) t.hash) v vs q) in
    rw (lt-leb v.hash s.hash (omega arith))
insert_at s (u ∷ us) vs p q =
    let l : u.hash < suc s.hash = ltb-true u.hash (suc s.hash) (every_head (λ t. ltb t.hash (suc s.hash)) u us p) in
    rw (le-leb u.hash s.hash (omega arith), insert_at s us vs (every_tail (λ t. ltb t.hash (suc s.hash)) u us p) q)

-- ---- one slot more: the slots before it move down by 8 (room rule (c), (d))

module _ (e : Edition) (b : List ℕ) (r : Ready e b) (i h a : ℕ) (l : i ≤ count_of b) (o : 8 ≤ data_end b) where
  pub grow_stored : (b₁ b₂ : List ℕ) → b₁ ≡ put b (data_end b - 8) (part (data_end b) (8 * i) b) → b₂ ≡ put b₁ (data_end b - 8 + 8 * i) (to_be 4 h ++ to_be 4 a)
      → b₂ ≡ put b (data_end b - 8) (slot_bytes (run_of b 0 i ++ slot h a ∷ run_of b i (count_of b - i)))
  grow_stored b₁ b₂ e₁ e₂ =
      let E : ℕ = data_end b in
      let A : List ℕ = part (data_end b) (8 * i) b in
      let S : List ℕ = to_be 4 h ++ to_be 4 a in
      let D : List ℕ = part (data_end b + 8 * i) (8 * (count_of b - i)) b in
      let f : data_end b + 8 * count_of b + 8 ≡ length b = end_fits e b (tiled e b r) in
      let la : length (part (data_end b) (8 * i) b) ≡ 8 * i = simp (length-take, length-drop) (omega arith) in
      let ls : length (to_be 4 h ++ to_be 4 a) ≡ 8 = slot_long h a in
      let z0 : data_end b + 8 * 0 ≡ data_end b = omega arith in
      let z : slot_bytes (run_of b 0 i) ≡ part (data_end b) (8 * i) b = run_bytes e b r 0 i (omega arith) ∙ ap (λ (k : ℕ). part k (8 * i) b) z0 in
      let w : slot_bytes (run_of b 0 i ++ slot h a ∷ run_of b i (count_of b - i)) ≡ (A ++ S) ++ D =
      slot_bytes_append (run_of b 0 i) (slot h a ∷ run_of b i (count_of b - i))
      ∙ ap₂ (λ (x y : List ℕ). x ++ y) z (slot_front h a (run_of b i (count_of b - i)) ∙ ap (λ (y : List ℕ). S ++ y) (run_bytes e b r i (count_of b - i) (omega arith)))
      ∙ sym (append_assoc A S D) in
      let las : length (A ++ S) ≡ 8 * i + 8 = length-append A S ∙ ap₂ (λ (x y : ℕ). x + y) la ls in
      e₂ ∙ ap (λ (c : List ℕ). put c (data_end b - 8 + 8 * i) S) e₁
      ∙ put_next b (data_end b - 8 + 8 * i) (data_end b - 8) A S (omega (arith, la))
      ∙ sym (put_keep b (data_end b - 8) (data_end b + 8 * i) (8 * (count_of b - i)) (A ++ S) (omega (arith, las)))
      ∙ ap (put b (data_end b - 8)) (sym w)

  pub grow_slots : all_below (suc h) (take i (slots b)) ≡ true → all_from (suc h) (drop i (slots b)) ≡ true
      → insert_slot (slot h a) (slots b) ≡ run_of b 0 i ++ slot h a ∷ run_of b i (count_of b - i)
  grow_slots p q =
      ap (insert_slot (slot h a)) (sym (take-append-drop i (slots b))) ∙ insert_at (slot h a) (take i (slots b)) (drop i (slots b)) p q
      ∙ ap (λ (vs : List Slot). take i (slots b) ++ slot h a ∷ vs) (run_rest e b r i l)

-- ---- the first stale slot dropped, and one slot more: those between the two move by 8 (room rule (a))

without_at : (us : List Slot) (s : Slot) (vs : List Slot) → every is_live us ≡ true → is_stale s ≡ true → without_first is_stale (us ++ s ∷ vs) ≡ us ++ vs
without_at [] s vs p q = rw q
without_at (u ∷ us) s vs p q =
    let n : is_stale u ≡ false = not-true (is_stale u) (every_head is_live u us p) in
    rw n (ap (λ (l : List Slot). u ∷ l) (without_at us s vs (every_tail is_live u us p) q))

below_append : (h : ℕ) (us vs : List Slot) → all_below h (us ++ vs) ≡ (all_below h us && all_below h vs)
unfolding all_below
below_append h us vs = every_append (λ s. ltb s.hash h) us vs

below_tail : (h : ℕ) (s : Slot) (vs : List Slot) → all_below h (s ∷ vs) ≡ true → all_below h vs ≡ true
unfolding all_below
below_tail h s vs p = every_tail (λ s. ltb s.hash h) s vs p

from_append : (h : ℕ) (us vs : List Slot) → all_from h (us ++ vs) ≡ (all_from h us && all_from h vs)
unfolding all_from
from_append h us vs = every_append (λ s. leb h s.hash) us vs

pub run_split : (b : List ℕ) (i k m n : ℕ) → k + m ≡ n → run_of b i n ≡ run_of b i k ++ run_of b (i + k) m
run_split b i k m n q =
    ap (λ (x : ℕ). take x (drop i (slots b))) (sym q) ∙ take-add k m (drop i (slots b)) ∙ ap (λ (l : List Slot). take k (drop i (slots b)) ++ take m l) (drop-drop k i (slots b))

run_cons : (b : List ℕ) (j k : ℕ) (s : Slot) → drop j (slots b) ≡ s ∷ drop (j + 1) (slots b) → run_of b j (suc k) ≡ s ∷ run_of b (j + 1) k
run_cons b j k s q = ap (take (suc k)) q

module _ (e : Edition) (b : List ℕ) (r : Ready e b) (h a p j : ℕ) (s : Slot) (jl : j < count_of b) (pl : p ≤ count_of b)
    (below : all_below (suc h) (take p (slots b)) ≡ true) (above : all_from (suc h) (drop p (slots b)) ≡ true)
    (live : every is_live (take j (slots b)) ≡ true) (sq : drop j (slots b) ≡ s ∷ drop (j + 1) (slots b)) (st : is_stale s ≡ true) where
  c : ℕ
  c = count_of b

  fits : data_end b + 8 * count_of b + 8 ≡ length b
  fits = end_fits e b (tiled e b r)

  without_is : without_first is_stale (slots b) ≡ run_of b 0 j ++ run_of b (j + 1) (count_of b - (j + 1))
  without_is =
      ap (without_first is_stale) (sym (take-append-drop j (slots b)) ∙ ap (λ (l : List Slot). take j (slots b) ++ l) sq)
      ∙ without_at (take j (slots b)) s (drop (j + 1) (slots b)) live st
      ∙ ap (λ (l : List Slot). take j (slots b) ++ l) (run_rest e b r (j + 1) (omega arith))

  -- the stale slot stands before the new one's place
  module _ (lt : j < p) where
    down_rest : run_of b (j + 1) (count_of b - (j + 1)) ≡ run_of b (j + 1) (p - (j + 1)) ++ run_of b p (count_of b - p)
    down_rest =
        let q : j + 1 + (p - (j + 1)) ≡ p = omega arith in
        run_split b (j + 1) (p - (j + 1)) (count_of b - p) (count_of b - (j + 1)) (omega arith) ∙ ap (λ (k : ℕ). run_of b (j + 1) (p - (j + 1)) ++ run_of b k (count_of b - p)) q

    down_below : all_below (suc h) (run_of b 0 j ++ run_of b (j + 1) (p - (j + 1))) ≡ true
    down_below =
        let w : take p (slots b) ≡ run_of b 0 j ++ s ∷ run_of b (j + 1) (p - (j + 1)) =
        run_split b 0 j (suc (p - (j + 1))) p (omega arith) ∙ ap (λ (k : ℕ). run_of b 0 j ++ run_of b k (suc (p - (j + 1)))) (zero-add j)
        ∙ ap (λ (l : List Slot). run_of b 0 j ++ l) (run_cons b j (p - (j + 1)) s sq) in
        let v : (all_below (suc h) (run_of b 0 j) && all_below (suc h) (s ∷ run_of b (j + 1) (p - (j + 1)))) ≡ true =
        sym (below_append (suc h) (run_of b 0 j) (s ∷ run_of b (j + 1) (p - (j + 1)))) ∙ ap (all_below (suc h)) (sym w) ∙ below in
        below_append (suc h) (run_of b 0 j) (run_of b (j + 1) (p - (j + 1)))
        ∙ and_both (all_below (suc h) (run_of b 0 j)) (all_below (suc h) (run_of b (j + 1) (p - (j + 1)))) (and_left (all_below (suc h) (run_of b 0 j)) _ v)
        (below_tail (suc h) s (run_of b (j + 1) (p - (j + 1))) (and_right (all_below (suc h) (run_of b 0 j)) _ v))

    pub down_slots : insert_slot (slot h a) (without_first is_stale (slots b)) ≡ run_of b 0 j ++ (run_of b (j + 1) (p - (j + 1)) ++ slot h a ∷ run_of b p (count_of b - p))
    down_slots =
        ap (insert_slot (slot h a)) (without_is ∙ ap (λ (l : List Slot). run_of b 0 j ++ l) down_rest ∙ sym (append_assoc (run_of b 0 j) (run_of b (j + 1) (p - (j + 1))) (run_of b p (count_of b - p))))
        ∙ insert_at (slot h a) (run_of b 0 j ++ run_of b (j + 1) (p - (j + 1))) (run_of b p (count_of b - p)) down_below (ap (all_from (suc h)) (sym (run_rest e b r p pl)) ∙ above)
        ∙ append_assoc (run_of b 0 j) (run_of b (j + 1) (p - (j + 1))) (slot h a ∷ run_of b p (count_of b - p))

    pub down_stored : (b₁ b₂ : List ℕ) → b₁ ≡ put b (data_end b + 8 * j) (part (data_end b + 8 * (j + 1)) (8 * (p - (j + 1))) b)
        → b₂ ≡ put b₁ (data_end b + 8 * (p - 1)) (to_be 4 h ++ to_be 4 a)
        → b₂ ≡ put b (data_end b) (slot_bytes (insert_slot (slot h a) (without_first is_stale (slots b))))
    down_stored b₁ b₂ e₁ e₂ =
        let A : List ℕ = part (data_end b) (8 * j) b in
        let M : List ℕ = part (data_end b + 8 * (j + 1)) (8 * (p - (j + 1))) b in
        let S : List ℕ = to_be 4 h ++ to_be 4 a in
        let D : List ℕ = part (data_end b + 8 * p) (8 * (count_of b - p)) b in
        let z0 : data_end b + 8 * 0 ≡ data_end b = omega arith in
        let lm : length M ≡ 8 * (p - (j + 1)) = simp (length-take, length-drop) (omega (arith, fits)) in
        let ls : length S ≡ 8 = slot_long h a in
        let lms : length (M ++ S) ≡ 8 * (p - (j + 1)) + 8 = length-append M S ∙ ap₂ (λ (x y : ℕ). x + y) lm ls in
        let w : slot_bytes (insert_slot (slot h a) (without_first is_stale (slots b))) ≡ A ++ ((M ++ S) ++ D) =
        ap slot_bytes down_slots
        ∙ slot_bytes_append (run_of b 0 j) (run_of b (j + 1) (p - (j + 1)) ++ slot h a ∷ run_of b p (count_of b - p))
        ∙ ap₂ (λ (x y : List ℕ). x ++ y) (run_bytes e b r 0 j (omega arith) ∙ ap (λ (k : ℕ). part k (8 * j) b) z0)
        (slot_bytes_append (run_of b (j + 1) (p - (j + 1))) (slot h a ∷ run_of b p (count_of b - p))
        ∙ ap₂ (λ (x y : List ℕ). x ++ y) (run_bytes e b r (j + 1) (p - (j + 1)) (omega arith)) (slot_front h a (run_of b p (count_of b - p)) ∙ ap (λ (y : List ℕ). S ++ y) (run_bytes e b r p (count_of b - p) (omega arith)))
        ∙ sym (append_assoc M S D)) in
        e₂ ∙ ap (λ (x : List ℕ). put x (data_end b + 8 * (p - 1)) S) e₁
        ∙ put_next b (data_end b + 8 * (p - 1)) (data_end b + 8 * j) M S (omega (arith, lm))
        ∙ sym (put_keep b (data_end b + 8 * j) (data_end b + 8 * p) (8 * (count_of b - p)) (M ++ S) (omega (arith, lms)))
        ∙ sym (keep_put b (data_end b) (8 * j) (data_end b + 8 * j) ((M ++ S) ++ D) refl (omega (arith, fits)))
        ∙ ap (put b (data_end b)) (sym w)

  -- the stale slot stands at the new one's place or behind it
  module _ (le : p ≤ j) where
    up_front : run_of b 0 j ≡ run_of b 0 p ++ run_of b p (j - p)
    up_front = run_split b 0 p (j - p) j (omega arith) ∙ ap (λ (k : ℕ). run_of b 0 p ++ run_of b k (j - p)) (zero-add p)

    up_from : all_from (suc h) (run_of b p (j - p) ++ run_of b (j + 1) (count_of b - (j + 1))) ≡ true
    up_from =
        let q : p + (j - p) ≡ j = omega arith in
        let w : drop p (slots b) ≡ run_of b p (j - p) ++ s ∷ run_of b (j + 1) (count_of b - (j + 1)) =
        run_rest e b r p pl ∙ run_split b p (j - p) (suc (count_of b - (j + 1))) (count_of b - p) (omega arith)
        ∙ ap (λ (k : ℕ). run_of b p (j - p) ++ run_of b k (suc (count_of b - (j + 1)))) q
        ∙ ap (λ (l : List Slot). run_of b p (j - p) ++ l) (run_cons b j (count_of b - (j + 1)) s sq) in
        let v : (all_from (suc h) (run_of b p (j - p)) && all_from (suc h) (s ∷ run_of b (j + 1) (count_of b - (j + 1)))) ≡ true =
        sym (from_append (suc h) (run_of b p (j - p)) (s ∷ run_of b (j + 1) (count_of b - (j + 1)))) ∙ ap (all_from (suc h)) (sym w) ∙ above in
        from_append (suc h) (run_of b p (j - p)) (run_of b (j + 1) (count_of b - (j + 1)))
        ∙ and_both (all_from (suc h) (run_of b p (j - p))) (all_from (suc h) (run_of b (j + 1) (count_of b - (j + 1)))) (and_left (all_from (suc h) (run_of b p (j - p))) _ v)
        (all_tail (suc h) s (run_of b (j + 1) (count_of b - (j + 1))) (and_right (all_from (suc h) (run_of b p (j - p))) _ v))

    pub up_slots : insert_slot (slot h a) (without_first is_stale (slots b)) ≡ run_of b 0 p ++ slot h a ∷ (run_of b p (j - p) ++ run_of b (j + 1) (count_of b - (j + 1)))
    up_slots =
        ap (insert_slot (slot h a)) (without_is ∙ ap (λ (l : List Slot). l ++ run_of b (j + 1) (count_of b - (j + 1))) up_front ∙ append_assoc (run_of b 0 p) (run_of b p (j - p)) (run_of b (j + 1) (count_of b - (j + 1))))
        ∙ insert_at (slot h a) (run_of b 0 p) (run_of b p (j - p) ++ run_of b (j + 1) (count_of b - (j + 1))) below up_from

    pub up_stored : (b₁ b₂ : List ℕ) → b₁ ≡ put b (data_end b + 8 * p + 8) (part (data_end b + 8 * p) (8 * (j - p)) b)
        → b₂ ≡ put b₁ (data_end b + 8 * p) (to_be 4 h ++ to_be 4 a)
        → b₂ ≡ put b (data_end b) (slot_bytes (insert_slot (slot h a) (without_first is_stale (slots b))))
    up_stored b₁ b₂ e₁ e₂ =
        let A : List ℕ = part (data_end b) (8 * p) b in
        let M : List ℕ = part (data_end b + 8 * p) (8 * (j - p)) b in
        let S : List ℕ = to_be 4 h ++ to_be 4 a in
        let D : List ℕ = part (data_end b + 8 * (j + 1)) (8 * (count_of b - (j + 1))) b in
        let z0 : data_end b + 8 * 0 ≡ data_end b = omega arith in
        let lm : length M ≡ 8 * (j - p) = simp (length-take, length-drop) (omega (arith, fits)) in
        let ls : length S ≡ 8 = slot_long h a in
        let lsm : length (S ++ M) ≡ 8 + 8 * (j - p) = length-append S M ∙ ap₂ (λ (x y : ℕ). x + y) ls lm in
        let w : slot_bytes (insert_slot (slot h a) (without_first is_stale (slots b))) ≡ A ++ ((S ++ M) ++ D) =
        ap slot_bytes up_slots
        ∙ slot_bytes_append (run_of b 0 p) (slot h a ∷ (run_of b p (j - p) ++ run_of b (j + 1) (count_of b - (j + 1))))
        ∙ ap₂ (λ (x y : List ℕ). x ++ y) (run_bytes e b r 0 p (omega arith) ∙ ap (λ (k : ℕ). part k (8 * p) b) z0)
        (slot_front h a (run_of b p (j - p) ++ run_of b (j + 1) (count_of b - (j + 1)))
        ∙ ap (λ (y : List ℕ). S ++ y) (slot_bytes_append (run_of b p (j - p)) (run_of b (j + 1) (count_of b - (j + 1)))
        ∙ ap₂ (λ (x y : List ℕ). x ++ y) (run_bytes e b r p (j - p) (omega arith)) (run_bytes e b r (j + 1) (count_of b - (j + 1)) (omega arith)))
        ∙ sym (append_assoc S M D)) in
        e₂ ∙ ap (λ (x : List ℕ). put x (data_end b + 8 * p) S) e₁
        ∙ put_front b (data_end b + 8 * p) (data_end b + 8 * p + 8) S M (ap (λ (k : ℕ). data_end b + 8 * p + k) ls)
        ∙ sym (put_keep b (data_end b + 8 * p) (data_end b + 8 * (j + 1)) (8 * (count_of b - (j + 1))) (S ++ M) (omega (arith, lsm)))
        ∙ sym (keep_put b (data_end b) (8 * p) (data_end b + 8 * p) ((S ++ M) ++ D) refl (omega (arith, fits)))
        ∙ ap (put b (data_end b)) (sym w)

-- ---- as the code does it

pub tail_stored : (n L st : ℕ) (ss : List Slot) (b b₁ b₂ : List ℕ) → length ss ≡ L → 8 + 8 * L ≤ n
    → b₁ ≡ put b (n - 8 - 8 * L) (slot_bytes ss) → b₂ ≡ put b₁ (n - 8) (to_be 4 L ++ to_be 4 st)
    → b₂ ≡ written b (index_writes n ss st)
unfolding written
tail_stored n L st ss b b₁ b₂ q h e₁ e₂ =
    let l : length (slot_bytes ss) ≡ 8 * L = length_slot_bytes ss ∙ ap (λ (k : ℕ). 8 * k) q in
    e₂ ∙ ap (λ (c : List ℕ). put c (n - 8) (to_be 4 L ++ to_be 4 st)) e₁
    ∙ put_next b (n - 8) (n - 8 - 8 * L) (slot_bytes ss) (to_be 4 L ++ to_be 4 st) (omega (arith, l))
    ∙ ap (λ (k : ℕ). put b (n - 8 - 8 * k) (slot_bytes ss ++ (to_be 4 k ++ to_be 4 st))) (sym q)

pub spot_found : (b : List ℕ) (h p k : ℕ) → k ≡ count_of b → p ≤ k → all_below (h + 1) (take p (slots b)) ≡ true → all_from (h + 1) (drop p (slots b)) ≡ true → Spot b h p
spot_found b h p k q l x y = record { fits = omega arith; below = rw add-one at x; above = rw add-one at y }

module _ (e : Edition) (b : List ℕ) (r : Ready e b) where
  -- one slot more
  pub grow_index : (end count i h a : ℕ) (b₁ b₂ b₃ : List ℕ) → end ≡ data_end b → count ≡ count_of b → 8 ≤ end → Spot b h i
      → b₁ ≡ put b (end - 8) (part end (8 * i) b) → b₂ ≡ put b₁ (end - 8 + 8 * i) (to_be 4 h ++ to_be 4 a) → b₃ ≡ put b₂ (length b - 8) (to_be 4 (count + 1) ++ to_be 4 0)
      → b₃ ≡ written b (index_writes (length b) (insert_slot (slot h a) (slots b)) 0)
  grow_index end count i h a b₁ b₂ b₃ p q o s e₁ e₂ e₃ =
      let f : data_end b + 8 * count_of b + 8 ≡ length b = end_fits e b (tiled e b r) in
      let L : length (insert_slot (slot h a) (slots b)) ≡ count + 1 = length_insert (slot h a) (slots b) ∙ omega (arith, length_slots e b r) in
      let w : b₂ ≡ put b (data_end b - 8) (slot_bytes (insert_slot (slot h a) (slots b))) =
      grow_stored e b r i h a s.fits (omega arith) b₁ b₂ (rw p at e₁) (rw p at e₂) ∙ ap (λ (l : List Slot). put b (data_end b - 8) (slot_bytes l)) (sym (grow_slots e b r i h a s.fits (omega arith) s.below s.above)) in
      let z : data_end b - 8 ≡ length b - 8 - 8 * (count + 1) = omega arith in
      tail_stored (length b) (count + 1) 0 (insert_slot (slot h a) (slots b)) b b₂ b₃ L (omega arith) (w ∙ ap (λ (k : ℕ). put b k (slot_bytes (insert_slot (slot h a) (slots b)))) z) e₃

  -- the first stale slot's place taken
  stale_here : (j : ℕ) → FirstStale b j → is_stale (slot (field (data_end b + 8 * j) 4 b) (field (data_end b + 8 * j + 4) 4 b)) ≡ true
  stale_here j f = eq-eqb (field (data_end b + 8 * j + 4) 4 b) 0 f.here

  pub reuse_down : (end p j h a : ℕ) (b₁ b₂ : List ℕ) → end ≡ data_end b → Spot b h p → FirstStale b j → j < p
      → b₁ ≡ put b (end + 8 * j) (part (end + 8 * (j + 1)) (8 * (p - (j + 1))) b) → b₂ ≡ put b₁ (end + 8 * (p - 1)) (to_be 4 h ++ to_be 4 a)
      → b₂ ≡ put b (data_end b) (slot_bytes (insert_slot (slot h a) (without_first is_stale (slots b))))
  reuse_down end p j h a b₁ b₂ q s f lt e₁ e₂ =
      down_stored e b r h a p j (slot (field (data_end b + 8 * j) 4 b) (field (data_end b + 8 * j + 4) 4 b)) f.fits s.fits s.below s.above f.before (slot_at b j f.fits) (stale_here j f) lt b₁ b₂ (rw q at e₁) (rw q at e₂)

  pub reuse_up : (end p j h a : ℕ) (b₁ b₂ : List ℕ) → end ≡ data_end b → Spot b h p → FirstStale b j → p ≤ j
      → b₁ ≡ put b (end + 8 * p + 8) (part (end + 8 * p) (8 * (j - p)) b) → b₂ ≡ put b₁ (end + 8 * p) (to_be 4 h ++ to_be 4 a)
      → b₂ ≡ put b (data_end b) (slot_bytes (insert_slot (slot h a) (without_first is_stale (slots b))))
  reuse_up end p j h a b₁ b₂ q s f le e₁ e₂ =
      up_stored e b r h a p j (slot (field (data_end b + 8 * j) 4 b) (field (data_end b + 8 * j + 4) 4 b)) f.fits s.fits s.below s.above f.before (slot_at b j f.fits) (stale_here j f) le b₁ b₂ (rw q at e₁) (rw q at e₂)

  pub reuse_index : (count st h a : ℕ) (b₁ b₂ : List ℕ) → count ≡ count_of b → 0 < tally is_stale (slots b)
      → b₁ ≡ put b (data_end b) (slot_bytes (insert_slot (slot h a) (without_first is_stale (slots b)))) → b₂ ≡ put b₁ (length b - 8) (to_be 4 count ++ to_be 4 st)
      → b₂ ≡ written b (index_writes (length b) (insert_slot (slot h a) (without_first is_stale (slots b))) st)
  reuse_index count st h a b₁ b₂ q t e₁ e₂ =
      let f : data_end b + 8 * count_of b + 8 ≡ length b = end_fits e b (tiled e b r) in
      let L : length (insert_slot (slot h a) (without_first is_stale (slots b))) ≡ count =
      length_insert (slot h a) (without_first is_stale (slots b)) ∙ length_without is_stale (slots b) t ∙ length_slots e b r ∙ sym q in
      let z : data_end b ≡ length b - 8 - 8 * count = omega arith in
      tail_stored (length b) count st (insert_slot (slot h a) (without_first is_stale (slots b))) b b₁ b₂ L (omega arith) (e₁ ∙ ap (λ (k : ℕ). put b k (slot_bytes (insert_slot (slot h a) (without_first is_stale (slots b))))) z) e₂

-- ---- the first stale slot

no_stale : (ss : List Slot) → every is_live ss ≡ true → tally is_stale ss ≡ 0
no_stale [] h = refl
no_stale (s ∷ ss) h =
    let n : is_stale s ≡ false = not-true (is_stale s) (every_head is_live s ss h) in
    rw n (zero-add (tally is_stale ss) ∙ no_stale ss (every_tail is_live s ss h))

pub stale_some : (e : Edition) (sane : Sane e) (b : List ℕ) → Ready e b → tally is_stale (slots b) ≡ stale_of b
stale_some e sane b r = (good_of e sane b r.are_bytes r.ok).index.stales

live_more : (ss : List Slot) (j : ℕ) (s : Slot) → drop j ss ≡ s ∷ drop (j + 1) ss → every is_live (take j ss) ≡ true → is_live s ≡ true → every is_live (take (j + 1) ss) ≡ true
live_more ss j s q h l =
    ap (every is_live) (take-add j 1 ss ∙ ap (λ (x : List Slot). take j ss ++ take 1 x) q) ∙ every_append is_live (take j ss) (s ∷ [])
    ∙ and_both (every is_live (take j ss)) (every is_live (s ∷ [])) h (and_both (is_live s) true l refl)

module _ (e : Edition) (sane : Sane e) (b : List ℕ) (r : Ready e b) where
  pub stale_turn : (j x a : ℕ) → drop j (slots b) ≡ slot x a ∷ drop (j + 1) (slots b) → every is_live (take j (slots b)) ≡ true → (a ≡ 0 → ⊥) → every is_live (take (j + 1) (slots b)) ≡ true
  stale_turn j x a q h n = live_more (slots b) j (slot x a) q h (rw (ne_eqb a 0 n))

  pub stale_none : (j : ℕ) → count_of b ≤ j → every is_live (take j (slots b)) ≡ true → stale_of b ≡ 0
  stale_none j l h =
      sym (stale_some e sane b r) ∙ no_stale (slots b) (ap (every is_live) (sym (take_all j (slots b) (omega (arith, length_slots e b r)))) ∙ h)

  pub stale_at : (end j a : ℕ) → end ≡ data_end b → j < count_of b → every is_live (take j (slots b)) ≡ true → a ≡ field (end + 8 * j + 4) 4 b → a ≡ 0 → FirstStale b j
  stale_at end j a p l h q z = record { fits = l; before = h; here = ap (λ (k : ℕ). field (k + 8 * j + 4) 4 b) (sym p) ∙ sym q ∙ z }
