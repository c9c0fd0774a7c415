-- An order of the live slots that ascends and has each of them: no name is stored twice.
-- Assumes nothing.
use Prim.Native.Nat.{ℕ, zero, suc, ◌+◌, ◌-◌, ◌*◌, ◌≤◌, ◌<◌}
use native.Mathlib.Omega.{arith}
use mathlib.Core.Bool.{Bool, true, false, not, ◌&&◌}
use mathlib.Core.Path.{◌≡◌, refl, sym, ◌∙◌, ap, ap₂}
use mathlib.Core.List.{List}
use lib.Dec.{eqb, ltb}
use lib.ListN.{get_or}
use borrow.Author.Count.{below_more}
use borrow.Author.Tests.{eqb-true, eqb-false, ltb-true, ltb-false}
use Rattle.be.proofs.Bools.{by_cases, and_right, and_both, and_false, clash}
use Rattle.edition.specs.declared.Edition.{Edition}
use Rattle.name.specs.Name.{same_name}
use Rattle.name.proofs.Same.{same_eq}
use Rattle.dir_block_rules.specs.Lookup.{name_at}
use Rattle.dir_block_twice.specs.Twice.{clash_from, once_in, slots_from, hash_at, addr_at, lex, live_at, sorts_before, Ascends, Placed, Ranked}
use Rattle.dir_block_twice.proofs.SlotList.{slots_next, slots_end}
use Rattle.dir_block_twice.proofs.NameOrder.{lex_strict, lex_trans, live_is, live_below}

pub placed_is : (O R : List ℕ) (m i k v : ℕ) → k ≡ get_or R i 0 → k < m → v ≡ get_or O k 0 → eqb v i ≡ true → Placed O R m i
placed_is O R m i k v ks l vs h = record { below = omega arith; there = ap (λ (w : ℕ). get_or O w 0) (sym ks) ∙ sym vs ∙ eqb-true v i h }

-- the first i slots have their ranks
abbrev pub RankedTo : List ℕ → ℕ → ℕ → List ℕ → List ℕ → ℕ → ℕ → Type 0
RankedTo b t n O R m i = (k : ℕ) → k < i → live_at b t n k ≡ true → Placed O R m k

module _ (b : List ℕ) (t n : ℕ) (O R : List ℕ) (m : ℕ) where
  pub ranked_on : (i : ℕ) → RankedTo b t n O R m i → (x y : Bool) → x ≡ live_at b t n i → (y ≡ true → Placed O R m i) → (x && not y) ≡ false
      → RankedTo b t n O R m (i + 1)
  ranked_on i k x y xs ys z =
      below_more _ i k (λ (h : live_at b t n i ≡ true). ys (by_cases y (λ q. q) (λ q. absurd (clash (and_both x (not y) (xs ∙ h) (rw q)) z))))

  pub ranked_all : (i : ℕ) → RankedTo b t n O R m i → n ≤ i → Ranked b t n O R m
  unfolding Ranked
  ranked_all i k l j h = k j (omega (arith, live_below b t n j h)) h

-- the first k cells ascend to the next
abbrev pub AscendsTo : List ℕ → ℕ → ℕ → List ℕ → ℕ → Type 0
AscendsTo b t n O k = (j : ℕ) → j < k → sorts_before b t n (get_or O j 0) (get_or O (j + 1) 0) ≡ true

module _ (b : List ℕ) (t n : ℕ) (O : List ℕ) (k : ℕ) (h : AscendsTo b t n O k) where
  pub ascends_on : (r : Bool) → r ≡ sorts_before b t n (get_or O k 0) (get_or O (k + 1) 0) → r ≡ true → AscendsTo b t n O (k + 1)
  ascends_on r rs z = below_more _ k h (sym rs ∙ z)

  pub ascends_all : (r : ℕ) → r ≤ k + 1 → Ascends b t n O r
  unfolding Ascends
  ascends_all r l j u = h j (omega arith)

pub ascends_less : (b : List ℕ) (t n : ℕ) (O : List ℕ) (k m : ℕ) → Ascends b t n O k → m ≤ k → Ascends b t n O m
unfolding Ascends
ascends_less b t n O k m h l j u = h j (omega arith)

module _ (b : List ℕ) (t n : ℕ) where
  -- the name that slot i addresses
  abbrev slot_name : ℕ → List ℕ
  slot_name i = name_at b (8 * addr_at b t i)

  names_ordered : (i j : ℕ) → sorts_before b t n i j ≡ true → lex (slot_name i) (slot_name j) ≡ true
  unfolding sorts_before
  names_ordered i j h = and_right (live_at b t n j) _ (and_right (live_at b t n i) _ h)

  module _ (O R : List ℕ) (m : ℕ) (up : Ascends b t n O m) (all : Ranked b t n O R m) where
    -- the slots in any two cells
    chain : (d k : ℕ) → k + d + 1 < m → lex (slot_name (get_or O k 0)) (slot_name (get_or O (k + d + 1) 0)) ≡ true
    unfolding Ascends
    chain zero k l =
        let z : k + 0 + 1 ≡ k + 1 = omega arith in
        rw z (names_ordered (get_or O k 0) (get_or O (k + 1) 0) (up k (omega arith)))
    chain (suc d) k l =
        let z : k + suc d + 1 ≡ k + d + 1 + 1 = omega arith in
        rw z (lex_trans _ (slot_name (get_or O (k + d + 1) 0)) _ (chain d k (omega arith)) (names_ordered (get_or O (k + d + 1) 0) (get_or O (k + d + 1 + 1) 0) (up (k + d + 1) (omega arith))))

    ordered : (p q i j : ℕ) → p < q → q < m → get_or O p 0 ≡ i → get_or O q 0 ≡ j → lex (slot_name i) (slot_name j) ≡ true
    ordered p q i j l u pi qj =
        let z : p + (q - (p + 1)) + 1 ≡ q = omega arith in
        ap₂ (λ (v w : ℕ). lex (slot_name v) (slot_name w)) (sym pi) (sym qj ∙ ap (λ (k : ℕ). get_or O k 0) (sym z)) ∙ chain (q - (p + 1)) p (omega arith)

    differ : (x y : List ℕ) → lex x y ≡ true → x ≡ y → ⊥
    differ x y h e = clash h (ap (λ (z : List ℕ). lex z y) e ∙ lex_strict y)

    names_apart : (i j : ℕ) → (i ≡ j → ⊥) → live_at b t n i ≡ true → live_at b t n j ≡ true → slot_name i ≡ slot_name j → ⊥
    unfolding Ranked
    names_apart i j d li lj e =
        let r = all i li in
        let s = all j lj in
        let p = get_or R i 0 in
        let q = get_or R j 0 in
        by_cases (ltb p q)
        (λ h. differ _ _ (ordered p q i j (ltb-true p q h) s.below r.there s.there) e)
        (λ h. by_cases (eqb p q)
        (λ z. d (sym r.there ∙ ap (λ (k : ℕ). get_or O k 0) (eqb-true p q z) ∙ s.there))
        (λ z. differ _ _ (ordered q p j i (lower p q (ltb-false p q h) (eqb-false p q z)) r.below s.there r.there) (sym e)))
      where
        lower : (p q : ℕ) → q ≤ p → (p ≡ q → ⊥) → q < p
        lower p q l z = omega arith

    module _ (e : Edition) where
      unlike : (i j : ℕ) → i < j → j < n → (addr_at b t i ≡ 0 → ⊥) → (addr_at b t j ≡ 0 → ⊥) → same_name e (slot_name i) (slot_name j) ≡ false
      unfolding same_name
      unlike i j l u a c =
          by_cases (same_name e (slot_name i) (slot_name j))
          (λ q. absurd (names_apart i j (λ (z : i ≡ j). omega arith) (live_is b t n i (omega arith) a) (live_is b t n j u c) (same_eq _ _ q)))
          (λ q. q)

      none_from : (i h : ℕ) → (addr_at b t i ≡ 0 → ⊥) → (d j : ℕ) → j + d ≡ n → i < j → clash_from e b h (addr_at b t i) (slots_from b t n j) ≡ false
      unfolding clash_from
      none_from i h a zero j q l = rw (slots_end b t n j (omega arith)) refl
      none_from i h a (suc d) j q l =
          let r : clash_from e b h (addr_at b t i) (slots_from b t n (j + 1)) ≡ false = none_from i h a d (j + 1) (omega arith) (omega arith) in
          by_cases (eqb (addr_at b t j) 0)
          (λ y. rw (slots_next b t n j (omega arith), y, r) (and_false (eqb (hash_at b t j) h)))
          (λ y. rw (slots_next b t n j (omega arith), y, unlike i j l (omega arith) a (eqb-false (addr_at b t j) 0 y), r) (and_false (eqb (hash_at b t j) h)))

      once_from : (d i : ℕ) → i + d ≡ n → once_in e b (slots_from b t n i) ≡ true
      unfolding once_in
      once_from zero i q = rw (slots_end b t n i (omega arith)) refl
      once_from (suc d) i q =
          let r : once_in e b (slots_from b t n (i + 1)) ≡ true = once_from d (i + 1) (omega arith) in
          by_cases (eqb (addr_at b t i) 0)
          (λ y. rw (slots_next b t n i (omega arith), y, r))
          (λ y. rw (slots_next b t n i (omega arith), y, none_from i (hash_at b t i) (eqb-false (addr_at b t i) 0 y) (n - (i + 1)) (i + 1) (omega arith) (omega arith), r))

      pub sorted_once : true ≡ once_in e b (slots_from b t n 0)
      sorted_once = sym (once_from n 0 (omega arith))
