-- The best-gap table where what is left of the longest gap stands in its place: from the other pairs, by length and offset.
-- Assumes nothing.
use Prim.Native.Nat.{ℕ, zero, suc, ◌+◌, ◌-◌, ◌≤◌, ◌<◌}
use native.Mathlib.Omega.{arith}
use mathlib.Core.Bool.{Bool, true, false, ◌&&◌, ◌||◌}
use mathlib.Core.Path.{◌≡◌, refl, sym, ◌∙◌, ap, ap₂}
use mathlib.Core.List.{List, [], ◌∷◌, ◌++◌}
use lib.Dec.{eqb, ltb}
use lib.ListN.{length, take, length-take, length-append}
use borrow.Author.Tests.{eqb-true, ltb-true, ltb-false, eq-eqb, ne_eqb, lt-ltb, le-ltb}
use Rattle.be.specs.Lists.{every}
use Rattle.be.proofs.Bools.{and_left, and_both, and_false, or_left, or_right, or_false, or_cases, neither, by_cases, every_head, every_tail, every_cons, keep_append}
use Rattle.dir_block_rules.specs.Record.{Rec, size, besides}
use Rattle.dir_block_rules.specs.Verdict.{Pair}
use Rattle.dir_block_rules.specs.Change.{longest, best_of}
use Rattle.dir_block_rules.proofs.PlainTests.{every_from}
use Rattle.dir_block_laws.specs.BestSoFar.{ins, ahead, ins_at}
use Rattle.dir_block_laws.specs.UsedTable.{less}
use Rattle.dir_block_laws.proofs.BestGrows.{elsewhere, keep_all, best_step}
use Rattle.dir_block_laws.proofs.FewGaps.{Rising, rising_from, named_by, besides_it}
use Rattle.dir_block_laws.proofs.JoinedGaps.{before, into, into_append, best_into}
use Rattle.dir_block_laws.proofs.TablesJoined.{ins_first, ins_later, length_ins, front_cut, ins_front}

-- ---- which stands first

ahead_long : (p q : Pair) → ahead p q ≡ true → q.long ≤ p.long
ahead_long p q h =
    or_cases (ltb q.long p.long) (eqb q.long p.long && ltb p.from q.from) h
    (λ z. omega (arith, ltb-true q.long p.long z))
    (λ z. omega (arith, eqb-true q.long p.long (and_left (eqb q.long p.long) (ltb p.from q.from) z)))

later_long : (p q : Pair) → ahead p q ≡ false → p.long ≤ q.long
later_long p q h = ltb-false q.long p.long (neither (ltb q.long p.long) (eqb q.long p.long && ltb p.from q.from) h).0

is_ahead : (p q : Pair) → q.long ≤ p.long → p.from < q.from → ahead p q ≡ true
is_ahead p q h k =
    by_cases (ltb q.long p.long)
    (λ z. or_left (ltb q.long p.long) (eqb q.long p.long && ltb p.from q.from) z)
    (λ z. or_right (ltb q.long p.long) (eqb q.long p.long && ltb p.from q.from)
    (and_both (eqb q.long p.long) (ltb p.from q.from) (eq-eqb q.long p.long (omega (arith, ltb-false q.long p.long z)))
    (lt-ltb p.from q.from k)))

is_later : (p q : Pair) → p.long < q.long → ahead p q ≡ false
is_later p q h = rw (le-ltb q.long p.long (omega arith), ne_eqb q.long p.long (λ (z : q.long ≡ p.long). omega arith))

-- ---- one pair put in by length and offset

at_first : (p q : Pair) (qs : List Pair) → ahead p q ≡ true → ins_at p (q ∷ qs) ≡ p ∷ take (length qs) (q ∷ qs)
unfolding ins_at
at_first p q qs h = rw h

at_later : (p q : Pair) (qs : List Pair) → ahead p q ≡ false → ins_at p (q ∷ qs) ≡ q ∷ ins_at p qs
unfolding ins_at
at_later p q qs h = rw h

length_at : (p : Pair) (ts : List Pair) → length (ins_at p ts) ≡ length ts
unfolding ins_at
length_at p [] = refl
length_at p (q ∷ qs) =
    by_cases (ahead p q) (λ z. rw z (simp length-take (omega arith))) (λ z. rw z (ap suc (length_at p qs)))

-- a table's front is as if the others were not there
at_front : (m : ℕ) (p : Pair) (ts : List Pair) → take m (ins_at p ts) ≡ ins_at p (take m ts)
unfolding ins_at
at_front zero p ts = refl
at_front (suc m) p [] = refl
at_front (suc m) p (q ∷ qs) =
    by_cases (ahead p q)
    (λ z. ap (take (suc m)) (at_first p q qs z) ∙ ap (λ (ts : List Pair). p ∷ ts) (front_cut m q qs) ∙ sym (at_first p q (take m qs) z))
    (λ z. ap (take (suc m)) (at_later p q qs z) ∙ ap (λ (ts : List Pair). q ∷ ts) (at_front m p qs) ∙ sym (at_later p q (take m qs) z))

-- another pair v may go in before p or behind, if it is longer or starts behind p
module _ (p v : Pair) (h : v.long ≤ p.long → p.from < v.from) where
  v_first : (q x : Pair) (qs xs : List Pair) → ins_at p (q ∷ qs) ≡ x ∷ xs → length xs ≡ length qs → q.long < v.long → x.long < v.long → p.long < v.long
      → ins v (ins_at p (q ∷ qs)) ≡ ins_at p (ins v (q ∷ qs))
  v_first q x qs xs i n l k m =
      ap (ins v) i ∙ ins_first v x xs k ∙ ap₂ (λ (m : ℕ) (ts : List Pair). v ∷ take m ts) n (sym i)
      ∙ ap (λ (ts : List Pair). v ∷ ts) (at_front (length qs) p (q ∷ qs))
      ∙ sym (ap (ins_at p) (ins_first v q qs l) ∙ at_later p v (take (length qs) (q ∷ qs)) (is_later p v m))

  p_first : (q x : Pair) (qs xs : List Pair) → ins v (q ∷ qs) ≡ x ∷ xs → length xs ≡ length qs → ahead p q ≡ true → ahead p x ≡ true → v.long ≤ p.long
      → ins v (ins_at p (q ∷ qs)) ≡ ins_at p (ins v (q ∷ qs))
  p_first q x qs xs i n l k m =
      ap (ins v) (at_first p q qs l) ∙ ins_later v p (take (length qs) (q ∷ qs)) m
      ∙ ap (λ (ts : List Pair). p ∷ ts) (sym (ins_front (length qs) v (q ∷ qs)))
      ∙ sym (ap (ins_at p) i ∙ at_first p x xs k ∙ ap₂ (λ (m : ℕ) (ts : List Pair). p ∷ take m ts) n (sym i))

  past : (ts : List Pair) → ins v (ins_at p ts) ≡ ins_at p (ins v ts)
  unfolding ins ins_at
  past [] = refl
  past (q ∷ qs) =
      by_cases (ahead p q)
      (λ z. let k : q.long ≤ p.long = ahead_long p q z in
      by_cases (ltb p.long v.long)
      (λ y. let l : p.long < v.long = ltb-true p.long v.long y in
      v_first q p qs (take (length qs) (q ∷ qs)) (at_first p q qs z) (simp length-take (omega arith)) (omega arith) l l)
      (λ y. let l : v.long ≤ p.long = ltb-false p.long v.long y in
      by_cases (ltb q.long v.long)
      (λ x. p_first q v qs (take (length qs) (q ∷ qs)) (ins_first v q qs (ltb-true q.long v.long x)) (simp length-take (omega arith)) z (is_ahead p v l (h l)) l)
      (λ x. p_first q q qs (ins v qs) (ins_later v q qs (ltb-false q.long v.long x)) (length_ins v qs) z z l)))
      (λ z. let k : p.long ≤ q.long = later_long p q z in
      by_cases (ltb q.long v.long)
      (λ x. let l : q.long < v.long = ltb-true q.long v.long x in
      v_first q q qs (ins_at p qs) (at_later p q qs z) (length_at p qs) l l (omega arith))
      (λ x. let l : v.long ≤ q.long = ltb-false q.long v.long x in
      ap (ins v) (at_later p q qs z) ∙ ins_later v q (ins_at p qs) l ∙ ap (λ (ts : List Pair). q ∷ ts) (past qs)
      ∙ sym (ap (ins_at p) (ins_later v q qs l) ∙ at_later p q (ins v qs) z)))

-- ---- a pair among gaps

-- pairs that start at n or before
abbrev Low : ℕ → List Pair → Type 0
Low n [] = Unit {0}
Low n (q ∷ qs) = (q.from ≤ n) × Low n qs

low_take : (n m : ℕ) (ts : List Pair) → Low n ts → Low n (take m ts)
low_take n zero ts l = tt
low_take n (suc m) [] l = tt
low_take n (suc m) (q ∷ qs) l = (l.0, low_take n m qs l.1)

low_ins : (n : ℕ) (p : Pair) (ts : List Pair) → p.from ≤ n → Low n ts → Low n (ins p ts)
unfolding ins
low_ins n p [] h l = tt
low_ins n p (q ∷ qs) h l =
    by_cases (ltb q.long p.long) (λ z. rw z (h, low_take n (length qs) (q ∷ qs) l)) (λ z. rw z (l.0, low_ins n p qs h l.1))

low_into : (n : ℕ) (gs : List Rec) (ts : List Pair) → every (before n) gs ≡ true → Low n ts → Low n (into gs ts)
low_into n [] ts b l = l
low_into n (g ∷ gs) ts b l =
    let k : g.off < n = ltb-true g.off n (every_head (before n) g gs b) in
    low_into n gs (ins (named_by g) ts) (every_tail (before n) g gs b) (low_ins n (named_by g) ts (omega arith) l)

low_empty : (n k : ℕ) → Low n (best_of k [])
unfolding best_of
low_empty n zero = tt
low_empty n (suc k) = (omega arith, low_empty n k)

-- behind those as long, if none starts behind it
at_low : (p : Pair) (ts : List Pair) → Low p.from ts → ins p ts ≡ ins_at p ts
unfolding ins ins_at
at_low p [] l = refl
at_low p (q ∷ qs) l =
    let i : ahead p q ≡ ltb q.long p.long = rw (le-ltb p.from q.from l.0, and_false (eqb q.long p.long), or_false (ltb q.long p.long)) in
    by_cases (ltb q.long p.long)
    (λ z. ins_first p q qs (ltb-true q.long p.long z) ∙ sym (at_first p q qs (i ∙ z)))
    (λ z. ins_later p q qs (ltb-false q.long p.long z) ∙ ap (λ (ts : List Pair). q ∷ ts) (at_low p qs l.1) ∙ sym (at_later p q qs (i ∙ z)))

-- longer than p, or starts behind it
abbrev clear : Pair → Rec → Bool
clear p r = ltb p.long (size r) || ltb p.from r.off

past_into : (p : Pair) (vs : List Rec) (ts : List Pair) → every (clear p) vs ≡ true → into vs (ins_at p ts) ≡ ins_at p (into vs ts)
past_into p [] ts h = refl
past_into p (v ∷ vs) ts h =
    let k : size v ≤ p.long → p.from < v.off =
    λ l. or_cases (ltb p.long (size v)) (ltb p.from v.off) (every_head (clear p) v vs h)
    (λ z. absurd (omega (arith, l, ltb-true p.long (size v) z))) (λ z. ltb-true p.from v.off z) in
    ap (into vs) (past p (named_by v) k ts) ∙ past_into p vs (ins (named_by v) ts) (every_tail (clear p) v vs h)

-- between the gaps before it and those behind, or into the table of both
placed : (k : ℕ) (p : Pair) (us vs : List Rec) → every (before p.from) us ≡ true → every (clear p) vs ≡ true
    → into vs (ins p (into us (best_of k []))) ≡ ins_at p (into (us ++ vs) (best_of k []))
placed k p us vs a b =
    ap (into vs) (at_low p (into us (best_of k [])) (low_into p.from us (best_of k []) a (low_empty p.from k)))
    ∙ past_into p vs (into us (best_of k [])) b ∙ ap (ins_at p) (sym (into_append us vs (best_of k [])))

-- ---- the longest gap, and the others

rising_back : (o : ℕ) (us vs : List Rec) → Rising o (us ++ vs) → Rising o vs
rising_back o [] vs r = r
rising_back o (u ∷ us) vs r = rising_from o (u.off + size u) vs (omega (arith, r.0)) (rising_back (u.off + size u) us vs r.2)

rising_before : (o : ℕ) (us : List Rec) (g : Rec) (vs : List Rec) → Rising o (us ++ (g ∷ vs)) → every (before g.off) us ≡ true
rising_before o [] g vs r = refl
rising_before o (u ∷ us) g vs r =
    let p : ℕ = u.off + size u in
    every_cons (before g.off) u us (lt-ltb u.off g.off (omega (arith, r.1, (rising_back p us (g ∷ vs) r.2).0))) (rising_before p us g vs r.2)

rising_others : (o : ℕ) (us : List Rec) (g : Rec) (vs : List Rec) → Rising o (us ++ (g ∷ vs)) → Rising o (us ++ vs)
rising_others o [] g vs r = rising_from o (g.off + size g) vs (omega (arith, r.0)) r.2
rising_others o (u ∷ us) g vs r = (r.0, r.1, rising_others (u.off + size u) us g vs r.2)

-- what each of the records from o on shows
rising_each : (f : Rec → Bool) (o : ℕ) (gs : List Rec) → ((g : Rec) → o ≤ g.off → 0 < size g → f g ≡ true) → Rising o gs → every f gs ≡ true
rising_each f o [] h r = refl
rising_each f o (g ∷ gs) h r =
    every_cons f g gs (h g r.0 r.1) (rising_each f (g.off + size g) gs (λ x l s. h x (omega (arith, r.0)) s) r.2)

best_rest : (k o : ℕ) (us vs : List Rec) (g : Rec) → Rising o (us ++ (g ∷ vs)) → longest (us ++ (g ∷ vs)) ≡ g
    → best_of (suc k) (us ++ (g ∷ vs)) ≡ named_by g ∷ best_of k (us ++ vs)
best_rest k o us vs g r i =
    let w : Rising o (g ∷ vs) = rising_back o us (g ∷ vs) r in
    let a : every (elsewhere g.off) us ≡ true =
    every_from (before g.off) (elsewhere g.off) (λ x y. rw (ne_eqb x.off g.off (λ (z : x.off ≡ g.off). omega (arith, ltb-true x.off g.off y)))) us
    (rising_before o us g vs r) in
    let b : every (elsewhere g.off) vs ≡ true =
    rising_each (elsewhere g.off) (g.off + size g) vs (λ x l s. rw (ne_eqb x.off g.off (λ (z : x.off ≡ g.off). omega (arith, w.1, l)))) w.2 in
    let others : besides g.off (us ++ (g ∷ vs)) ≡ us ++ vs =
    keep_append (elsewhere g.off) us (g ∷ vs)
    ∙ ap₂ (λ (l m : List Rec). l ++ m) (keep_all (elsewhere g.off) us a) (besides_it g vs ∙ keep_all (elsewhere g.off) vs b) in
    best_step k (us ++ (g ∷ vs)) (simp length-append (omega arith))
    ∙ ap (λ (x : Rec). named_by x ∷ best_of k (besides x.off (us ++ (g ∷ vs)))) i
    ∙ ap (λ (l : List Rec). named_by g ∷ best_of k l) others

-- a gap before the others
pub best_ahead : (k o : ℕ) (g : Rec) (gs : List Rec) → Rising o (g ∷ gs) → best_of k (g ∷ gs) ≡ ins_at (named_by g) (best_of k gs)
best_ahead k o g gs r =
    let b : every (clear (named_by g)) gs ≡ true =
    rising_each (clear (named_by g)) (g.off + size g) gs
    (λ v h n. or_right (ltb (size g) (size v)) (ltb g.off v.off) (lt-ltb g.off v.off (omega (arith, r.1)))) r.2 in
    best_into k o [] (g ∷ gs) refl r ∙ placed k (named_by g) [] gs refl b
    ∙ ap (ins_at (named_by g)) (sym (best_into k (g.off + size g) [] gs refl r.2))

-- the table that the longest gap leaves without its first n bytes
pub best_placed : (k o n : ℕ) (us vs : List Rec) (g : Rec) → Rising o (us ++ (g ∷ vs)) → longest (us ++ (g ∷ vs)) ≡ g → n ≤ size g
    → (q : Pair) (qs : List Pair) → best_of (suc k) (us ++ (g ∷ vs)) ≡ q ∷ qs
    → (q ≡ named_by g) × (into vs (ins (less n (named_by g)) (into us (best_of k []))) ≡ ins_at (less n (named_by g)) qs)
best_placed k o n us vs g r i h q qs s =
    let p : Pair = less n (named_by g) in
    let w : Rising o (g ∷ vs) = rising_back o us (g ∷ vs) r in
    let both : q ∷ qs ≡ named_by g ∷ best_of k (us ++ vs) = sym s ∙ best_rest k o us vs g r i in
    let first : q ≡ named_by g = cc in
    let rest : qs ≡ best_of k (us ++ vs) = cc in
    let a : every (before (g.off + n)) us ≡ true =
    every_from (before g.off) (before (g.off + n)) (λ x y. lt-ltb x.off (g.off + n) (omega (arith, ltb-true x.off g.off y))) us
    (rising_before o us g vs r) in
    let b : every (clear p) vs ≡ true =
    rising_each (clear p) (g.off + size g) vs
    (λ x l m. by_cases (ltb n (size g))
    (λ z. or_right (ltb (size g - n) (size x)) (ltb (g.off + n) x.off) (lt-ltb (g.off + n) x.off (omega (arith, l, ltb-true n (size g) z))))
    (λ z. or_left (ltb (size g - n) (size x)) (ltb (g.off + n) x.off) (lt-ltb (size g - n) (size x) (omega (arith, m, ltb-false n (size g) z))))) w.2 in
    (first, placed k p us vs a b ∙ ap (ins_at p) (sym (rest ∙ best_into k o [] (us ++ vs) refl (rising_others o us g vs r))))
