-- INDEX by a table: where the counts agree, the table's slot for each entry is all there is to test.
-- Assumes nothing.
use Prim.Native.Nat.{ℕ, zero, suc, ◌+◌, ◌/◌, ◌≤◌, ◌<◌}
use native.Mathlib.Nat.{zero-add}
use native.Mathlib.Numerals.{add-one}
use native.Mathlib.Omega.{arith}
use mathlib.Core.Bool.{Bool, true, not, cond, ◌&&◌}
use mathlib.Core.Path.{◌≡◌, refl, sym, ◌∙◌, ap}
use mathlib.Core.List.{List, [], ◌∷◌, ◌++◌, map}
use lib.Dec.{eqb, ltb}
use lib.ListN.{length, get_or, set, length-set}
use lib.Seq.{get_or-set_same, get_or-set_other}
use borrow.Author.Tests.{eqb-true, eqb-false, eq-eqb, ltb-true, not-true}
use Rattle.be.specs.Lists.{every, some_of, tally}
use Rattle.edition.specs.declared.Edition.{Edition}
use Rattle.name.specs.Name.{hash_of}
use Rattle.dir_block_rules.specs.Record.{Rec, name}
use Rattle.dir_block_rules.specs.Block.{Slot, is_live}
use Rattle.dir_block_rules.specs.Verdict.{has_slot}
use Rattle.be.proofs.Bools.{by_cases, and_left, and_both, every_head, every_tail, every_cons, clash}
use Rattle.dir_block_rules.proofs.SlotCounts.{Apart, at_addr, tally_le}
use Rattle.dir_block_rules.proofs.IndexedEntries.{addr_of, at_both, Slotted, slotted}
use Rattle.dir_block_rules.proofs.RecordPlaces.{apart_pos}
use Rattle.be.proofs.Splits.{some_at}
use Rattle.dir_block_twice.specs.Twice.{slots_from, hash_at, addr_at}
use Rattle.dir_block_test.specs.Passes.{slot_word, cells_of, hint, slot_is}
use Rattle.dir_block_twice.proofs.SlotList.{slot_at, slots_next, slots_end}
use Rattle.dir_block_test.proofs.OneSlotEach.{index_law}

pub length_cells : (b : List ℕ) (t : ℕ) (M : List ℕ) (n : ℕ) → length (cells_of b t M n) ≡ length M
unfolding cells_of
length_cells b t M zero = refl
length_cells b t M (suc n) = length-set (cells_of b t M n) (addr_at b t n) (slot_word (hash_at b t n) (addr_at b t n)) ∙ length_cells b t M n

pub cells_long : (b : List ℕ) (t : ℕ) (M : List ℕ) (n : ℕ) (P : List ℕ) → P ≡ cells_of b t M n → length P ≡ length M
cells_long b t M n P h = ap length h ∙ length_cells b t M n

-- the table after one slot more
pub cells_on : (b : List ℕ) (t : ℕ) (M P Q : List ℕ) (i h a : ℕ) → P ≡ cells_of b t M i → h ≡ hash_at b t i → a ≡ addr_at b t i → Q ≡ set P a (slot_word h a) → Q ≡ cells_of b t M (i + 1)
unfolding cells_of
cells_on b t M P Q i h a p q r s = rw (add-one i, s, p, q, r)

module _ (b : List ℕ) (t : ℕ) (M : List ℕ) (a : ℕ) (small : a < length M) where
  lt_of : {x y : ℕ} → x ≤ y → (x ≡ y → ⊥) → x < y
  lt_of u v = omega arith

  cells_at : (n i : ℕ) → i < n → addr_at b t i ≡ a → ((j : ℕ) → i < j → j < n → addr_at b t j ≡ a → ⊥) → get_or (cells_of b t M n) a 0 ≡ slot_word (hash_at b t i) a
  unfolding cells_of
  cells_at zero i l e f = absurd (omega arith)
  cells_at (suc n) i l e f =
      by_cases (eqb i n)
      (λ q. let i-is : i ≡ n = eqb-true i n q in
      let e' : addr_at b t n ≡ a = ap (addr_at b t) (sym i-is) ∙ e in
      ap (λ (k : ℕ). get_or (set (cells_of b t M n) k (slot_word (hash_at b t n) k)) a 0) e'
      ∙ get_or-set_same (cells_of b t M n) a (slot_word (hash_at b t n) a) 0 (omega (arith, length_cells b t M n)) ∙ ap (λ (k : ℕ). slot_word (hash_at b t k) a) (sym i-is))
      (λ q. let less : i < n = lt_of (omega arith) (eqb-false i n q) in
      get_or-set_other (cells_of b t M n) (addr_at b t n) a (slot_word (hash_at b t n) (addr_at b t n)) 0 (λ (z : a ≡ addr_at b t n). f n less (omega arith) (sym z))
      ∙ cells_at n i less e (λ j u v. f j u (omega arith)))

  -- what the table has came from a slot
  pub record From (n v : ℕ) : Type 0 where
    pub i : ℕ
    pub within : i < n
    pub addr_is : addr_at b t i ≡ a
    pub word_is : v ≡ slot_word (hash_at b t i) a

  cells_from : get_or M a 0 ≡ 0 → (n v : ℕ) → get_or (cells_of b t M n) a 0 ≡ v → (v ≡ 0 → ⊥) → From n v
  unfolding cells_of
  cells_from none zero v e z = absurd (z (sym e ∙ none))
  cells_from none (suc n) v e z =
      by_cases (eqb (addr_at b t n) a)
      (λ q. let x : addr_at b t n ≡ a = eqb-true (addr_at b t n) a q in
      record {
        i = n;
        within = omega arith;
        addr_is = x;
        word_is = sym e ∙ ap (λ (k : ℕ). get_or (set (cells_of b t M n) k (slot_word (hash_at b t n) k)) a 0) x
            ∙ get_or-set_same (cells_of b t M n) a (slot_word (hash_at b t n) a) 0 (omega (arith, length_cells b t M n));
      })
      (λ q. let r : From n v = cells_from none n v (sym (get_or-set_other (cells_of b t M n) (addr_at b t n) a (slot_word (hash_at b t n) (addr_at b t n)) 0 (λ (y : a ≡ addr_at b t n). eqb-false (addr_at b t n) a q (sym y))) ∙ e) z in
      record { i = r.i; within = omega (arith, r.within); addr_is = r.addr_is; word_is = r.word_is })

module _ (b : List ℕ) (t n : ℕ) where
  pub slots_split : (i : ℕ) → i < n → (us : List Slot) × (slots_from b t n 0 ≡ us ++ slot_at b t i ∷ slots_from b t n (i + 1))
  slots_split zero h = ([], slots_next b t n 0 h)
  slots_split (suc i) h =
      let r : (us : List Slot) × (slots_from b t n 0 ≡ us ++ slot_at b t i ∷ slots_from b t n (i + 1)) = slots_split i (omega arith) in
      let q : slots_from b t n (i + 1) ≡ slot_at b t (suc i) ∷ slots_from b t n (suc i + 1) =
      ap (slots_from b t n) (add-one i) ∙ slots_next b t n (suc i) h in
      (r.0 ++ slot_at b t i ∷ [], r.1 ∙ ap (λ (l : List Slot). r.0 ++ slot_at b t i ∷ l) q ∙ snoc r.0 (slot_at b t i) (slot_at b t (suc i) ∷ slots_from b t n (suc i + 1)))
    where
      snoc : (us : List Slot) (s : Slot) (l : List Slot) → us ++ s ∷ l ≡ (us ++ s ∷ []) ++ l
      snoc [] s l = refl
      snoc (u ∷ us) s l = ap (λ (k : List Slot). u ∷ k) (snoc us s l)

  module _ (a h : ℕ) where
    none_after : (j i : ℕ) → i + j ≡ n → tally (at_addr a) (slots_from b t n i) ≡ 0 → (k : ℕ) → i ≤ k → k < n → addr_at b t k ≡ a → ⊥
    none_after zero i q z k l u e = omega arith
    none_after (suc j) i q z k l u e =
        let z' : cond (eqb (addr_at b t i) a) 1 0 + tally (at_addr a) (slots_from b t n (i + 1)) ≡ 0 = rw (slots_next b t n i (omega arith)) at z in
        by_cases (eqb i k)
        (λ w. let e' : eqb (addr_at b t i) a ≡ true = eq-eqb (addr_at b t i) a (ap (addr_at b t) (eqb-true i k w) ∙ e) in
        let z'' : 1 + tally (at_addr a) (slots_from b t n (i + 1)) ≡ 0 = rw e' at z' in omega arith)
        (λ w. let less : i < k = lt_of l (eqb-false i k w) in
        none_after j (i + 1) (omega arith) (omega arith) k (omega arith) u e)
      where
        lt_of : {x y : ℕ} → x ≤ y → (x ≡ y → ⊥) → x < y
        lt_of u v = omega arith

    -- the only slot at an address
    pub record Only (i₀ : ℕ) : Type 0 where
      pub i : ℕ
      pub from : i₀ ≤ i
      pub within : i < n
      pub addr_is : addr_at b t i ≡ a
      pub hash_is : hash_at b t i ≡ h
      pub last : (k : ℕ) → i < k → k < n → addr_at b t k ≡ a → ⊥

    only : (j i : ℕ) → i + j ≡ n → tally (at_addr a) (slots_from b t n i) ≡ 1 → tally (at_both a h) (slots_from b t n i) ≡ 1 → Only i
    only zero i q x y = absurd (let z : 0 ≡ 1 = sym (rw (slots_end b t n i (omega arith))) ∙ x in omega arith)
    only (suc j) i q x y =
        let x' : cond (eqb (addr_at b t i) a) 1 0 + tally (at_addr a) (slots_from b t n (i + 1)) ≡ 1 = rw (slots_next b t n i (omega arith)) at x in
        let y' : cond (eqb (addr_at b t i) a && eqb (hash_at b t i) h) 1 0 + tally (at_both a h) (slots_from b t n (i + 1)) ≡ 1 = rw (slots_next b t n i (omega arith)) at y in
        let few : tally (at_both a h) (slots_from b t n (i + 1)) ≤ tally (at_addr a) (slots_from b t n (i + 1)) =
        tally_le (at_both a h) (at_addr a) (λ s z. and_left (eqb s.addr a) (eqb s.hash h) z) (slots_from b t n (i + 1)) in
        by_cases (eqb (addr_at b t i) a)
        (λ w. let x'' : 1 + tally (at_addr a) (slots_from b t n (i + 1)) ≡ 1 = rw w at x' in
        let y1 : cond (eqb (hash_at b t i) h) 1 0 + tally (at_both a h) (slots_from b t n (i + 1)) ≡ 1 = rw w at y' in
        by_cases (eqb (hash_at b t i) h)
        (λ v. record {
          i = i;
          from = omega arith;
          within = omega arith;
          addr_is = eqb-true (addr_at b t i) a w;
          hash_is = eqb-true (hash_at b t i) h v;
          last = λ k l u e. none_after j (i + 1) (omega arith) (omega arith) k (omega arith) u e;
        })
        (λ v. absurd (let y2 : 0 + tally (at_both a h) (slots_from b t n (i + 1)) ≡ 1 = rw v at y1 in omega arith)))
        (λ w. let x'' : 0 + tally (at_addr a) (slots_from b t n (i + 1)) ≡ 1 = rw w at x' in
        let y'' : 0 + tally (at_both a h) (slots_from b t n (i + 1)) ≡ 1 = rw w at y' in
        let r : Only (i + 1) = only j (i + 1) (omega arith) (omega arith) (omega arith) in
        record { i = r.i; from = omega (arith, r.from); within = r.within; addr_is = r.addr_is; hash_is = r.hash_is; last = r.last })

  module _ (M : List ℕ) (e : Edition) where
    abbrev pub M' : List ℕ
    M' = cells_of b t M n

    abbrev pub hinted : Rec → Bool
    hinted r = hint M' (r.off / 8) (hash_of e (name r))

    abbrev SS : List Slot
    SS = slots_from b t n 0

    -- an entry with its slot has it in the table
    slotted_hint : (r : Rec) → addr_of r < length M → Slotted e SS r → hinted r ≡ true
    unfolding hint
    slotted_hint r small s =
        let o : Only (addr_of r) (hash_of e (name r)) 0 = only (addr_of r) (hash_of e (name r)) n 0 (zero-add n) s.by_addr s.by_both in
        eq-eqb (get_or M' (addr_of r) 0) (slot_word (hash_of e (name r)) (addr_of r))
        (cells_at b t M (addr_of r) small n o.i o.within o.addr_is o.last ∙ ap (λ (k : ℕ). slot_word k (addr_of r)) o.hash_is)

    -- what the table has is a slot
    hint_found : (r : Rec) → addr_of r < length M → get_or M (addr_of r) 0 ≡ 0 → not (eqb (addr_of r) 0) ≡ true → hinted r ≡ true
        → some_of (slot_is (r.off / 8) (hash_of e (name r))) SS ≡ true
    unfolding hint
    hint_found r small none live h =
        let nz : addr_of r ≡ 0 → ⊥ = eqb-false (addr_of r) 0 (not-true (eqb (addr_of r) 0) live) in
        let g : get_or M' (addr_of r) 0 ≡ slot_word (hash_of e (name r)) (addr_of r) = eqb-true (get_or M' (addr_of r) 0) (slot_word (hash_of e (name r)) (addr_of r)) h in
        let f : From b t M (addr_of r) small n (slot_word (hash_of e (name r)) (addr_of r)) =
        cells_from b t M (addr_of r) small none n (slot_word (hash_of e (name r)) (addr_of r)) g (λ (z : slot_word (hash_of e (name r)) (addr_of r) ≡ 0). nz (omega arith)) in
        let hs : hash_at b t f.i ≡ hash_of e (name r) = omega (arith, f.word_is) in
        let s : (us : List Slot) × (SS ≡ us ++ slot_at b t f.i ∷ slots_from b t n (f.i + 1)) = slots_split f.i f.within in
        ap (some_of (slot_is (r.off / 8) (hash_of e (name r)))) s.1
        ∙ some_at (slot_is (r.off / 8) (hash_of e (name r))) s.0 (slot_at b t f.i) (slots_from b t n (f.i + 1))
        (and_both (eqb (addr_at b t f.i) (r.off / 8)) (eqb (hash_at b t f.i) (hash_of e (name r))) (eq-eqb (addr_at b t f.i) (r.off / 8) f.addr_is) (eq-eqb (hash_at b t f.i) (hash_of e (name r)) hs))

    abbrev small : Rec → Bool
    small r = ltb (addr_of r) (length M)

    abbrev placed : Rec → Bool
    placed r = not (eqb (addr_of r) 0)

    has_hints : (es : List Rec) → every small es ≡ true → every (has_slot e SS) es ≡ true → every hinted es ≡ true
    has_hints [] w h = refl
    has_hints (r ∷ es) w h =
        every_cons hinted r es
        (slotted_hint r (ltb-true (addr_of r) (length M) (every_head small r es w)) (slotted e SS r (every_head (has_slot e SS) r es h)))
        (has_hints es (every_tail small r es w) (every_tail (has_slot e SS) r es h))

    module _ (none : (a : ℕ) → a < length M → get_or M a 0 ≡ 0) where
      hints_found : (es : List Rec) → every small es ≡ true → every placed es ≡ true → every hinted es ≡ true → every (λ r. some_of (slot_is (r.off / 8) (hash_of e (name r))) SS) es ≡ true
      hints_found [] w l h = refl
      hints_found (r ∷ es) w l h =
          let s : addr_of r < length M = ltb-true (addr_of r) (length M) (every_head small r es w) in
          every_cons (λ r. some_of (slot_is (r.off / 8) (hash_of e (name r))) SS) r es
          (hint_found r s (none (addr_of r) s) (every_head placed r es l) (every_head hinted r es h))
          (hints_found es (every_tail small r es w) (every_tail placed r es l) (every_tail hinted r es h))

      pub table_law : (es : List Rec) → Apart (map addr_of es) → every (λ r. ltb (addr_of r) (length M)) es ≡ true → tally is_live SS ≡ length es
          → every (has_slot e SS) es ≡ every hinted es
      table_law es ap' w l =
          by_cases (every hinted es)
          (λ q. index_law e SS es ap' l ∙ hints_found es w (apart_pos es ap') q ∙ sym q)
          (λ q. by_cases (every (has_slot e SS) es) (λ p. absurd (clash (has_hints es w p) q)) (λ p. p ∙ sym q))

pub cells_none : (b : List ℕ) (t : ℕ) (M : List ℕ) → M ≡ cells_of b t M 0
unfolding cells_of
cells_none b t M = refl

pub cells_end : (b : List ℕ) (t : ℕ) (M P : List ℕ) (i n : ℕ) → i ≤ n → n ≤ i → P ≡ cells_of b t M i → P ≡ cells_of b t M n
cells_end b t M P i n l u h = let e : i ≡ n = omega arith in h ∙ ap (cells_of b t M) e
