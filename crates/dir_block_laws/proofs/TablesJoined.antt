-- The table of all gaps from the tables of those before a place and of those behind it: the pairs of the second put into the first.
-- Assumes nothing.
use Prim.Native.Nat.{ℕ, zero, suc, ◌+◌, ◌≤◌, ◌<◌}
use native.Mathlib.Nat.{le_refl}
use native.Mathlib.Omega.{arith}
use mathlib.Core.Path.{◌≡◌, refl, sym, ◌∙◌, ap, ap₂, subst}
use mathlib.Core.List.{List, [], ◌∷◌, ◌++◌}
use lib.ListN.{length, take, length-take}
use lib.Dec.{ltb}
use borrow.Author.Tests.{ltb-true, ltb-false, lt-ltb, le-ltb}
use Rattle.be.proofs.Bools.{by_cases, keep_append}
use Rattle.edition.specs.declared.Edition.{Edition}
use Rattle.dir_block_rules.specs.Record.{Rec, is_gap, gaps}
use Rattle.dir_block_rules.specs.Verdict.{Pair, pair}
use Rattle.dir_block_rules.specs.Change.{best_of}
use Rattle.dir_block_rules.proofs.CutJoin.{Laid, join, laid_front, laid_back}
use Rattle.dir_block_rules.proofs.GoodParts.{length_best}
use Rattle.dir_block_laws.specs.BestSoFar.{ins, ins_all}
use Rattle.dir_block_laws.proofs.FewGaps.{named_by, rising_laid, ins_empty}
use Rattle.dir_block_laws.proofs.JoinedGaps.{into, best_into, laid_before}

-- ---- one pair put in

-- put in before all, if it is longer than the first
pub ins_first : (p q : Pair) (qs : List Pair) → q.long < p.long → ins p (q ∷ qs) ≡ p ∷ take (length qs) (q ∷ qs)
unfolding ins
ins_first p q qs h = rw (lt-ltb q.long p.long h)

-- and behind the first otherwise
pub ins_later : (p q : Pair) (qs : List Pair) → p.long ≤ q.long → ins p (q ∷ qs) ≡ q ∷ ins p qs
unfolding ins
ins_later p q qs h = rw (le-ltb q.long p.long h)

pub length_ins : (p : Pair) (ts : List Pair) → length (ins p ts) ≡ length ts
unfolding ins
length_ins p [] = refl
length_ins p (q ∷ qs) =
    by_cases (ltb q.long p.long) (λ z. rw z (simp length-take (omega arith))) (λ z. rw z (ap suc (length_ins p qs)))

-- a table's front is as if the others were not there
pub front_cut : (m : ℕ) (q : Pair) (qs : List Pair) → take m (take (length qs) (q ∷ qs)) ≡ take (length (take m qs)) (q ∷ take m qs)
front_cut zero q qs = refl
front_cut (suc m) q [] = refl
front_cut (suc m) q (r ∷ qs) = ap (λ (l : List Pair). q ∷ l) (front_cut m r qs)

pub ins_front : (m : ℕ) (p : Pair) (ts : List Pair) → take m (ins p ts) ≡ ins p (take m ts)
unfolding ins
ins_front zero p ts = refl
ins_front (suc m) p [] = refl
ins_front (suc m) p (q ∷ qs) =
    by_cases (ltb q.long p.long)
    (λ z. let k : q.long < p.long = ltb-true q.long p.long z in
    ap (take (suc m)) (ins_first p q qs k) ∙ ap (λ (ts : List Pair). p ∷ ts) (front_cut m q qs) ∙ sym (ins_first p q (take m qs) k))
    (λ z. let k : p.long ≤ q.long = ltb-false q.long p.long z in
    ap (take (suc m)) (ins_later p q qs k) ∙ ap (λ (ts : List Pair). q ∷ ts) (ins_front m p qs) ∙ sym (ins_later p q (take m qs) k))

-- pairs of different lengths may go in in either order
module _ (s p : Pair) (h : s.long < p.long) where
  -- all but the last of the pairs behind p
  longer : (q x : Pair) (qs xs : List Pair) → ins s (q ∷ qs) ≡ x ∷ xs → q.long < p.long → x.long < p.long → length xs ≡ length qs
      → ins p (ins s (q ∷ qs)) ≡ ins s (ins p (q ∷ qs))
  longer q x qs xs i l k n =
      ap (ins p) i ∙ ins_first p x xs k ∙ ap₂ (λ (m : ℕ) (ts : List Pair). p ∷ take m ts) n (sym i)
      ∙ ap (λ (ts : List Pair). p ∷ ts) (ins_front (length qs) s (q ∷ qs))
      ∙ sym (ap (ins s) (ins_first p q qs l) ∙ ins_later s p (take (length qs) (q ∷ qs)) (omega arith))

  swapped : (ts : List Pair) → ins p (ins s ts) ≡ ins s (ins p ts)
  unfolding ins
  swapped [] = refl
  swapped (q ∷ qs) =
      by_cases (ltb q.long s.long)
      (λ z. let k : q.long < s.long = ltb-true q.long s.long z in
      longer q s qs (take (length qs) (q ∷ qs)) (ins_first s q qs k) (omega arith) h (simp length-take (omega arith)))
      (λ z. let k : s.long ≤ q.long = ltb-false q.long s.long z in
      by_cases (ltb q.long p.long)
      (λ y. let l : q.long < p.long = ltb-true q.long p.long y in longer q q qs (ins s qs) (ins_later s q qs k) l l (length_ins s qs))
      (λ y. let l : p.long ≤ q.long = ltb-false q.long p.long y in
      ap (ins p) (ins_later s q qs k) ∙ ins_later p q (ins s qs) l ∙ ap (λ (ts : List Pair). q ∷ ts) (swapped qs)
      ∙ sym (ap (ins s) (ins_later p q qs l) ∙ ins_later s q (ins p qs) k)))

-- the first k pairs of the table are at least n long
abbrev Least : ℕ → ℕ → List Pair → Type 0
Least n zero ts = Unit {0}
Least n (suc k) [] = Unit {0}
Least n (suc k) (q ∷ qs) = (n ≤ q.long) × Least n k qs

least_under : (m n k : ℕ) (ts : List Pair) → m ≤ n → Least n k ts → Least m k ts
least_under m n zero ts h l = tt
least_under m n (suc k) [] h l = tt
least_under m n (suc k) (q ∷ qs) h l = (omega (arith, l.0), least_under m n k qs h l.1)

least_take : (n k m : ℕ) (ts : List Pair) → Least n k ts → Least n k (take m ts)
least_take n zero m ts l = tt
least_take n (suc k) zero ts l = tt
least_take n (suc k) (suc m) [] l = tt
least_take n (suc k) (suc m) (q ∷ qs) l = (l.0, least_take n k m qs l.1)

least_ins : (n k : ℕ) (p : Pair) (ts : List Pair) → n ≤ p.long → Least n k ts → Least n (suc k) (ins p ts)
unfolding ins
least_ins n k p [] h l = tt
least_ins n zero p (q ∷ qs) h l =
    by_cases (ltb q.long p.long) (λ z. rw z (h, tt)) (λ z. rw z (omega (arith, ltb-false q.long p.long z), tt))
least_ins n (suc k) p (q ∷ qs) h l =
    by_cases (ltb q.long p.long) (λ z. rw z (h, least_take n (suc k) (length qs) (q ∷ qs) l)) (λ z. rw z (l.0, least_ins n k p qs h l.1))

-- a pair no longer than any of the table changes nothing
ins_short : (p : Pair) (ts : List Pair) → Least p.long (length ts) ts → ins p ts ≡ ts
unfolding ins
ins_short p [] l = refl
ins_short p (q ∷ qs) l = ins_later p q qs l.0 ∙ ap (λ (ts : List Pair). q ∷ ts) (ins_short p qs l.1)

-- ---- a table put in

-- none longer than n, and none longer than one before it
abbrev Falling : ℕ → List Pair → Type 0
Falling n [] = Unit {0}
Falling n (q ∷ qs) = (q.long ≤ n) × Falling q.long qs

falling_under : (m n : ℕ) (ts : List Pair) → n ≤ m → Falling n ts → Falling m ts
falling_under m n [] h f = tt
falling_under m n (q ∷ qs) h f = (omega (arith, f.0), f.1)

falling_take : (m n : ℕ) (ts : List Pair) → Falling n ts → Falling n (take m ts)
falling_take zero n ts f = tt
falling_take (suc m) n [] f = tt
falling_take (suc m) n (q ∷ qs) f = (f.0, falling_take m q.long qs f.1)

falling_ins : (n : ℕ) (p : Pair) (ts : List Pair) → p.long ≤ n → Falling n ts → Falling n (ins p ts)
unfolding ins
falling_ins n p [] h f = tt
falling_ins n p (q ∷ qs) h f =
    by_cases (ltb q.long p.long)
    (λ z. rw z (h, falling_take (length qs) p.long (q ∷ qs) (omega (arith, ltb-true q.long p.long z), f.1)))
    (λ z. rw z (f.0, falling_ins q.long p qs (ltb-false q.long p.long z) f.1))

-- a pair longer than all of a table goes in before it or behind
past_all : (n : ℕ) (p : Pair) (ts ss : List Pair) → n < p.long → Falling n ts → ins p (ins_all ts ss) ≡ ins_all ts (ins p ss)
unfolding ins_all
past_all n p [] ss h f = refl
past_all n p (t ∷ ts) ss h f =
    past_all t.long p ts (ins t ss) (omega (arith, f.0)) f.1 ∙ ap (ins_all ts) (swapped t p (omega (arith, f.0)) ss)

-- the last pair is lost, if j pairs at least as long and the others fill the table
last_lost : (j : ℕ) (t : Pair) (ts ss : List Pair) → Falling t.long ts → Least t.long j ss → length ss ≡ j + length ts
    → ins_all (t ∷ ts) ss ≡ ins_all (take (length ts) (t ∷ ts)) ss
unfolding ins_all
last_lost j t [] ss f l n =
    let m : j ≡ length ss = omega (arith, n) in
    ins_short t ss (subst (λ (k : ℕ). Least t.long k ss) m l)
last_lost j t (u ∷ ts) ss f l n =
    last_lost (suc j) u ts (ins t ss) f.1 (least_ins u.long j t ss f.0 (least_under u.long t.long j ss f.0 l))
    (length_ins t ss ∙ omega (arith, n))

-- one pair more, put into the second table or into the first
one_in : (n j : ℕ) (p : Pair) (ts ss : List Pair) → p.long ≤ n → Falling n ts → Least n j ss → length ss ≡ j + length ts
    → ins p (ins_all ts ss) ≡ ins_all (ins p ts) ss
unfolding ins_all ins
one_in n j p [] ss h f l q =
    let m : j ≡ length ss = omega (arith, q) in
    ins_short p ss (subst (λ (k : ℕ). Least p.long k ss) m (least_under p.long n j ss h l))
one_in n j p (t ∷ ts) ss h f l q =
    by_cases (ltb t.long p.long)
    (λ z. let k : t.long < p.long = ltb-true t.long p.long z in
    past_all t.long p (t ∷ ts) ss k (le_refl t.long, f.1)
    ∙ last_lost (suc j) t ts (ins p ss) f.1 (least_ins t.long j p ss (omega arith) (least_under t.long n j ss f.0 l)) (length_ins p ss ∙ omega (arith, q))
    ∙ ap (λ (l : List Pair). ins_all l ss) (sym (ins_first p t ts k)))
    (λ z. let k : p.long ≤ t.long = ltb-false t.long p.long z in
    one_in t.long (suc j) p ts (ins t ss) k f.1 (least_ins t.long j t ss (le_refl t.long) (least_under t.long n j ss f.0 l))
    (length_ins t ss ∙ omega (arith, q))
    ∙ ap (λ (l : List Pair). ins_all l ss) (sym (ins_later p t ts k)))

-- gaps put into the table ts and that into ss, or one by one
joins : (n : ℕ) (ys : List Rec) (ts ss : List Pair) → length ss ≡ length ts → Falling n ts → into ys (ins_all ts ss) ≡ ins_all (into ys ts) ss
joins n [] ts ss q f = refl
joins n (y ∷ ys) ts ss q f =
    let p : Pair = named_by y in
    let m : ℕ = n + p.long in
    let g : Falling m ts = falling_under m n ts (omega arith) f in
    ap (into ys) (one_in m 0 p ts ss (omega arith) g tt (omega (arith, q)))
    ∙ joins m ys (ins p ts) ss (q ∙ sym (length_ins p ts)) (falling_ins m p ts (omega arith) g)

-- ---- the gaps of records

falling_empty : (k : ℕ) → Falling 0 (best_of k [])
unfolding best_of
falling_empty zero = tt
falling_empty (suc k) = (le_refl 0, falling_empty k)

-- the table of no gaps changes nothing
all_empty : (k : ℕ) (ts : List Pair) → ins_all (best_of k []) ts ≡ ts
unfolding best_of ins_all
all_empty zero ts = refl
all_empty (suc k) ts = ap (ins_all (best_of k [])) (ins_empty (pair 0 0) ts refl) ∙ all_empty k ts

-- the table of the gaps of records laid from o on
table_into : (k : ℕ) (e : Edition) (o : ℕ) (rs : List Rec) → Laid e o rs → best_of k (gaps rs) ≡ into (gaps rs) (best_of k [])
table_into k e o rs l = best_into k o [] (gaps rs) refl (rising_laid e o rs l)

pub tables_joined : (k : ℕ) (e : Edition) (o : ℕ) (xs ys : List Rec) → Laid e o (xs ++ ys)
    → best_of k (gaps (xs ++ ys)) ≡ ins_all (best_of k (gaps ys)) (best_of k (gaps xs))
tables_joined k e o xs ys l =
    let p : ℕ = o + length (join xs) in
    let ly : Laid e p ys = laid_back e o xs ys l in
    let ts : List Pair = best_of k (gaps xs) in
    ap (best_of k) (keep_append is_gap xs ys)
    ∙ best_into k p (gaps xs) (gaps ys) (laid_before e o p xs (laid_front e o xs ys l) (le_refl p)) (rising_laid e p ys ly)
    ∙ ap (into (gaps ys)) (sym (all_empty k ts))
    ∙ joins 0 (gaps ys) (best_of k []) ts (length_best k (gaps xs) ∙ sym (length_best k [])) (falling_empty k)
    ∙ ap (λ (l : List Pair). ins_all l ts) (sym (table_into k e p ys ly))
