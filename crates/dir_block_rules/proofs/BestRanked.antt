-- The best-gap table that a change writes, of gaps in offset order: the longest gaps in rank order, then zeros.
-- Assumes nothing.
use Prim.Native.Nat.{ℕ, zero, suc, ◌+◌, ◌<◌}
use native.Mathlib.Omega.{arith}
use mathlib.Core.Bool.{Bool, true, false, not, cond, ◌&&◌, ◌||◌, false≢true}
use mathlib.Core.Path.{◌≡◌, refl, sym, ◌∙◌, ap, subst}
use mathlib.Core.List.{List, [], ◌∷◌}
use lib.Dec.{eqb, leb, ltb, leb-zero}
use lib.ListN.{length}
use lib.Seq.{take-nil, drop-nil}
use borrow.Author.Tests.{eqb-true, eq-eqb, ne_eqb, leb-true, leb-false, ltb-true, ltb-false, lt-ltb}
use Rattle.be.specs.Lists.{every, some_of, keep}
use Rattle.be.proofs.Bools.{and_left, and_right, and_both, or_left, or_right, or_cases, by_cases, every_head, every_tail, every_cons, every_keep}
use Rattle.edition.specs.declared.Edition.{Edition}
use Rattle.dir_block_rules.specs.Record.{Rec, size, besides}
use Rattle.dir_block_rules.specs.Verdict.{Pair, pair, zero_pair, is_gap_of}
use Rattle.dir_block_rules.specs.Change.{longest, best_of, best_table}
use Rattle.dir_block_rules.specs.Claims.{ahead, ranked, needed_pairs, in_or_behind, BestWritten}
use Rattle.dir_block_rules.proofs.PlainTests.{every_from, every_two, every_true, some_kept, every_besides}
use Rattle.dir_block_rules.proofs.CutJoin.{Laid}
use Rattle.dir_block_rules.proofs.BestTable.{longest_every, longest_some}
use Rattle.dir_block_rules.proofs.GoodParts.{every_longest}

-- ---- records in offset order

abbrev pub Rises : List Rec → Type 0
Rises [] = Unit {0}
Rises (g ∷ gs) = (every (λ h. ltb g.off h.off) gs ≡ true) × Rises gs

rises_keep : (p : Rec → Bool) (gs : List Rec) → Rises gs → Rises (keep p gs)
rises_keep p [] s = tt
rises_keep p (g ∷ gs) s =
    by_cases (p g)
    (λ z. rw z (every_keep (λ h. ltb g.off h.off) p gs s.0, rises_keep p gs s.1))
    (λ z. rw z (rises_keep p gs s.1))

laid_above : (e : Edition) (c o : ℕ) (rs : List Rec) → c < o → Laid e o rs → every (λ h. ltb c h.off) rs ≡ true
laid_above e c o [] h l = refl
laid_above e c o (r ∷ rs) h l =
    every_cons (λ s. ltb c s.off) r rs (lt-ltb c r.off (omega (arith, l.0))) (laid_above e c (o + size r) rs (omega arith) l.2)

laid_rises : (e : Edition) (o : ℕ) (rs : List Rec) → Laid e o rs → Rises rs
laid_rises e o [] l = tt
laid_rises e o (r ∷ rs) l = (laid_above e r.off (o + size r) rs (omega (arith, l.0, l.1.least)) l.2, laid_rises e (o + size r) rs l.2)

-- some of the records laid end to end
pub kept_rises : (e : Edition) (p : Rec → Bool) (o : ℕ) (rs : List Rec) → Laid e o rs → Rises (keep p rs)
kept_rises e p o rs l = rises_keep p rs (laid_rises e o rs l)

abbrev at : ℕ → Rec → Bool
at o r = eqb r.off o

above_other : (c : ℕ) (r : Rec) → ltb c r.off ≡ true → eqb r.off c ≡ false
above_other c r h = ne_eqb r.off c (λ (z : r.off ≡ c). omega (arith, ltb-true c r.off h))

all_besides : (c : ℕ) (gs : List Rec) → every (λ h. ltb c h.off) gs ≡ true → besides c gs ≡ gs
all_besides c [] h = refl
all_besides c (g ∷ gs) h =
    rw (above_other c g (every_head (λ h. ltb c h.off) g gs h)) (ap (λ (l : List Rec). g ∷ l) (all_besides c gs (every_tail (λ h. ltb c h.off) g gs h)))

-- no two stand at one offset
one_less : (c : ℕ) (gs : List Rec) → Rises gs → some_of (at c) gs ≡ true → length gs ≡ suc (length (besides c gs))
one_less c [] s h = absurd (false≢true h)
one_less c (g ∷ gs) s h =
    by_cases (eqb g.off c)
    (λ q. let o : g.off ≡ c = eqb-true g.off c q in
    rw q (ap (λ (l : List Rec). suc (length l)) (sym (all_besides c gs (rw o at s.0)))))
    (λ q. rw q (ap suc (one_less c gs s.1 (rw q at h))))

-- ---- the longest comes before all others

abbrev pair_of : Rec → Pair
pair_of g = pair g.off (size g)

-- the same record, or one that comes after it
abbrev own_or_behind : Rec → Rec → Bool
own_or_behind m h = cond (at m.off h) (eqb (size h) (size m)) (ahead (pair_of m) (pair_of h))

first_ahead : (g h : Rec) → ltb g.off h.off ≡ true → leb (size h) (size g) ≡ true → own_or_behind g h ≡ true
first_ahead g h o l =
    rw (above_other g.off h o)
    (by_cases (ltb (size h) (size g))
    (λ q. rw q)
    (λ q. let e : size g ≡ size h = omega (arith, leb-true (size h) (size g) l, ltb-false (size h) (size g) q) in
    rw (q, eq-eqb (size g) (size h) e) (omega (arith, lt-ltb, ltb-true g.off h.off o))))

later_ahead : (m g : Rec) → ltb g.off m.off ≡ true → size g < size m → own_or_behind m g ≡ true
later_ahead m g o l =
    rw (ne_eqb g.off m.off (λ (z : g.off ≡ m.off). omega (arith, ltb-true g.off m.off o)), lt-ltb (size g) (size m) l)

-- the longest of a list whose first is as long as the others, or is not
first_longest : (g g₂ : Rec) (gs : List Rec) → leb (size (longest (g₂ ∷ gs))) (size g) ≡ true → longest (g ∷ g₂ ∷ gs) ≡ g
unfolding longest
first_longest g g₂ gs q = rw q refl

later_longest : (g g₂ : Rec) (gs : List Rec) → leb (size (longest (g₂ ∷ gs))) (size g) ≡ false → longest (g ∷ g₂ ∷ gs) ≡ longest (g₂ ∷ gs)
unfolding longest
later_longest g g₂ gs q = rw q refl

longest_ahead : (gs : List Rec) → Rises gs → every (own_or_behind (longest gs)) gs ≡ true
unfolding longest
longest_ahead [] s = refl
longest_ahead (g ∷ []) s = rw (leb-zero (size g)) (rw (eq-eqb g.off g.off refl, eq-eqb (size g) (size g) refl))
longest_ahead (g ∷ g₂ ∷ gs) s =
    let hs : List Rec = g₂ ∷ gs in
    let m : Rec = longest (g₂ ∷ gs) in
    by_cases (leb (size m) (size g))
    (λ q. subst (λ (x : Rec). every (own_or_behind x) (g ∷ hs) ≡ true) (sym (first_longest g g₂ gs q)) (every_cons (own_or_behind g) g hs (rw (eq-eqb g.off g.off refl) (eq-eqb (size g) (size g) refl))
    (every_two (λ h. ltb g.off h.off) (λ h. leb (size h) (size g)) (own_or_behind g) (first_ahead g) hs s.0 (longest_every hs (size g) (leb-true (size m) (size g) q)))))
    (λ q. subst (λ (x : Rec). every (own_or_behind x) (g ∷ hs) ≡ true) (sym (later_longest g g₂ gs q)) (every_cons (own_or_behind m) g hs
    (later_ahead m g (every_longest (λ h. ltb g.off h.off) g₂ gs s.0) (leb-false (size m) (size g) q))
    (longest_ahead (g₂ ∷ gs) s.1)))

-- ---- the table

ranked_cons : (p : Pair) (ps : List Pair) → every (ahead p) ps ≡ true → ranked ps ≡ true → ranked (p ∷ ps) ≡ true
unfolding ranked
ranked_cons p [] h k = refl
ranked_cons p (q ∷ ps) h k = and_both (ahead p q) (ranked (q ∷ ps)) (every_head (ahead p) q ps h) k

-- what comes before each gap comes before each pair that is a gap
gaps_ahead : (p : Pair) (gs : List Rec) → every (λ h. ahead p (pair_of h)) gs ≡ true → (q : Pair) → some_of (is_gap_of q) gs ≡ true → ahead p q ≡ true
gaps_ahead p [] h q k = absurd (false≢true k)
gaps_ahead p (g ∷ gs) h q k =
    or_cases (is_gap_of q g) (some_of (is_gap_of q) gs) k
    (λ z. let o : g.off ≡ q.from = eqb-true g.off q.from (and_left (eqb g.off q.from) (eqb (size g) q.long) z) in
    let l : size g ≡ q.long = eqb-true (size g) q.long (and_right (eqb g.off q.from) (eqb (size g) q.long) z) in
    let a : ahead p (pair_of g) ≡ true = every_head (λ h. ahead p (pair_of h)) g gs h in
    rw (o, l) at a)
    (λ z. gaps_ahead p gs (every_tail (λ h. ahead p (pair_of h)) g gs h) q z)

none_needed : (k : ℕ) → every zero_pair (best_of k []) ≡ true
unfolding best_of
none_needed zero = refl
none_needed (suc k) = none_needed k

-- the record m put first, before what ranks of the others
module _ (m : Rec) (gs : List Rec) (ps : List Pair) (own : every (own_or_behind m) gs ≡ true) (among : some_of (is_gap_of (pair_of m)) gs ≡ true)
    (less : length gs ≡ suc (length (besides m.off gs))) (r : BestWritten ps (besides m.off gs)) where
  abbrev p : Pair
  p = pair_of m

  abbrev others : List Rec
  others = besides m.off gs

  abbrev rest : List Pair
  rest = needed_pairs (besides m.off gs) ps

  behind_own : (h : Rec) → own_or_behind m h ≡ true → (at m.off h || ahead p (pair_of h)) ≡ true
  behind_own h k = by_cases (at m.off h) (λ q. or_left (at m.off h) (ahead p (pair_of h)) q) (λ q. rw q (rw q at k))

  others_after : every (λ h. ahead p (pair_of h)) others ≡ true
  others_after =
      sym (every_besides (at m.off) (λ h. ahead p (pair_of h)) gs)
      ∙ every_from (own_or_behind m) (λ h. at m.off h || ahead p (pair_of h)) behind_own gs own

  placed : (h : Rec) → own_or_behind m h ≡ true → (at m.off h || in_or_behind rest h) ≡ true → in_or_behind (p ∷ rest) h ≡ true
  placed h k l =
      let named : Bool = some_of (λ q. is_gap_of q h) rest in
      let after : Bool = every (λ q. ahead q (pair_of h)) rest in
      by_cases (at m.off h)
      (λ q. or_left (is_gap_of p h || named) (ahead p (pair_of h) && after)
      (or_left (is_gap_of p h) named (and_both (at m.off h) (eqb (size h) (size m)) q (rw q at k))))
      (λ q. let a : ahead p (pair_of h) ≡ true = rw q at k in
      or_cases named after (rw q at l)
      (λ z. or_left (is_gap_of p h || named) (ahead p (pair_of h) && after) (or_right (is_gap_of p h) named z))
      (λ z. or_right (is_gap_of p h || named) (ahead p (pair_of h) && after) (and_both (ahead p (pair_of h)) after a z)))

  put_first : BestWritten (pair_of m ∷ ps) gs
  put_first =
      record {
        are_gaps = rw less (every_cons (λ q. some_of (is_gap_of q) gs) p rest among
            (every_from (λ q. some_of (is_gap_of q) others) (λ q. some_of (is_gap_of q) gs) (λ q z. some_kept (is_gap_of q) (λ h. not (at m.off h)) gs z) rest r.are_gaps));
        longest_first = rw less (ranked_cons p rest (every_from (λ q. some_of (is_gap_of q) others) (ahead p) (gaps_ahead p others others_after) rest r.are_gaps) r.longest_first);
        others_behind = rw less (every_two (own_or_behind m) (λ h. at m.off h || in_or_behind rest h) (in_or_behind (p ∷ rest)) placed gs own
            (every_besides (at m.off) (in_or_behind rest) gs ∙ r.others_behind));
        others_zero = rw less r.others_zero;
      }

best_ranks : (k : ℕ) (gs : List Rec) → Rises gs → BestWritten (best_of k gs) gs
unfolding best_of ranked
best_ranks zero gs s =
    record {
      are_gaps = rw (take-nil (length gs));
      longest_first = rw (take-nil (length gs));
      others_behind = rw (take-nil (length gs)) (every_true gs);
      others_zero = rw (drop-nil (length gs));
    }
best_ranks (suc k) [] s = record { are_gaps = refl; longest_first = refl; others_behind = refl; others_zero = none_needed k }
best_ranks (suc k) (g ∷ gs) s =
    let m : Rec = longest (g ∷ gs) in
    let same : is_gap_of (pair_of m) m ≡ true = and_both (eqb m.off m.off) (eqb (size m) (size m)) (eq-eqb m.off m.off refl) (eq-eqb (size m) (size m) refl) in
    put_first m (g ∷ gs) (best_of k (besides m.off (g ∷ gs))) (longest_ahead (g ∷ gs) s) (longest_some (is_gap_of (pair_of m)) g gs same)
    (one_less m.off (g ∷ gs) s (longest_some (at m.off) g gs (eq-eqb m.off m.off refl)))
    (best_ranks k (besides m.off (g ∷ gs)) (rises_keep (λ h. not (at m.off h)) (g ∷ gs) s))

-- the table of some gaps in offset order
pub table_ranks : (gs : List Rec) → Rises gs → BestWritten (best_table gs) gs
table_ranks gs s = best_ranks 3 gs s
