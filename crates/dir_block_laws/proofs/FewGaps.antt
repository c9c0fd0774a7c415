-- A block whose third stored pair is empty has two gaps at most, and the first two pairs name them.
-- Assumes nothing.
use Prim.Native.Nat.{ℕ, ◌+◌, ◌-◌, ◌≤◌, ◌<◌}
use native.Mathlib.Omega.{arith}
use mathlib.Core.Bool.{Bool, true, false, not, cond, ◌||◌, false≢true}
use mathlib.Core.Path.{◌≡◌, refl, sym, ◌∙◌, ap, ap₂, subst}
use mathlib.Core.List.{List, [], ◌∷◌}
use lib.Dec.{eqb, leb, ltb}
use lib.ListN.{length}
use borrow.Author.Tests.{eqb-true, ltb-false, eq-eqb, ne_eqb, lt-ltb, le-ltb}
use Rattle.be.specs.Lists.{every, keep}
use Rattle.be.proofs.Bools.{and_left, and_right, or_cases, by_cases, every_head, every_tail, every_cons, every_keep}
use Rattle.edition.specs.declared.Edition.{Edition}
use Rattle.dir_block_rules.specs.Record.{Rec, size, is_gap, gaps, besides}
use Rattle.dir_block_rules.specs.Verdict.{Pair, pair, best_ok, zero_pair, is_gap_of}
use Rattle.dir_block_rules.proofs.CutJoin.{Laid}
use Rattle.dir_block_rules.proofs.PlainTests.{every_besides}
use Rattle.dir_block_laws.specs.BestSoFar.{ins}
use Rattle.dir_block_laws.specs.JoinedTable.{ins_before, ins_behind, joined_table, in_order}
use Rattle.dir_block_laws.proofs.BestKnown.{solid, ok_named, ok_rest, none_long, zero_is}

-- records with bytes, from o on, none within another
abbrev pub Rising : ℕ → List Rec → Type 0
Rising o [] = Unit {0}
Rising o (g ∷ gs) = (o ≤ g.off) × (0 < size g) × Rising (g.off + size g) gs

pub rising_from : (o p : ℕ) (gs : List Rec) → o ≤ p → Rising p gs → Rising o gs
rising_from o p [] h r = tt
rising_from o p (g ∷ gs) h r = (omega (arith, r.0), r.1, r.2)

pub rising_laid : (e : Edition) (o : ℕ) (rs : List Rec) → Laid e o rs → Rising o (gaps rs)
rising_laid e o [] l = tt
rising_laid e o (r ∷ rs) l =
    let s : Rising (o + size r) (gaps rs) = rising_laid e (o + size r) rs l.2 in
    by_cases (is_gap r)
    (λ q. rw q (omega (arith, l.0), omega (arith, l.1.least), rising_from (r.off + size r) (o + size r) (gaps rs) (omega (arith, l.0)) s))
    (λ q. rw q (rising_from o (o + size r) (gaps rs) (omega arith) s))

pub rising_solid : (o : ℕ) (gs : List Rec) → Rising o gs → every solid gs ≡ true
rising_solid o [] r = refl
rising_solid o (g ∷ gs) r = every_cons solid g gs (lt-ltb 0 (size g) r.1) (rising_solid (g.off + size g) gs r.2)

-- as a pair
abbrev pub named_by : Rec → Pair
named_by g = pair g.off (size g)

abbrev pub pairs_of : List Rec → List Pair
pairs_of [] = []
pairs_of (g ∷ gs) = named_by g ∷ pairs_of gs

-- names a gap
abbrev pub filled : Pair → Bool
filled p = ltb 0 p.long

is_named : (p : Pair) (g : Rec) → is_gap_of p g ≡ true → p ≡ named_by g
is_named p g h =
    ap₂ pair (sym (eqb-true g.off p.from (and_left (eqb g.off p.from) (eqb (size g) p.long) h)))
    (sym (eqb-true (size g) p.long (and_right (eqb g.off p.from) (eqb (size g) p.long) h)))

-- the pairs that no gap is left for
no_more : (p : Pair) (ps : List Pair) → best_ok (p ∷ ps) [] ≡ true → p ≡ pair 0 0
unfolding best_ok
no_more p ps h = sym (zero_is p (and_left (zero_pair p) (best_ok ps []) h))

no_others : (p : Pair) (ps : List Pair) → best_ok (p ∷ ps) [] ≡ true → best_ok ps [] ≡ true
unfolding best_ok
no_others p ps h = and_right (zero_pair p) (best_ok ps []) h

-- the pair of the only gap
only : (p : Pair) (ps : List Pair) (g : Rec) → best_ok (p ∷ ps) (g ∷ []) ≡ true → p ≡ named_by g
only p ps g h =
    or_cases (is_gap_of p g) false (ok_named p ps g [] h) (λ z. is_named p g z) (λ z. absurd (false≢true z))

pub besides_it : (g : Rec) (gs : List Rec) → besides g.off (g ∷ gs) ≡ besides g.off gs
besides_it g gs = rw (eq-eqb g.off g.off refl)

besides_other : (o : ℕ) (g : Rec) (gs : List Rec) → (g.off ≡ o → ⊥) → besides o (g ∷ gs) ≡ g ∷ besides o gs
besides_other o g gs h = rw (ne_eqb g.off o h)

-- an empty pair is the last
none_over : (r : Pair) (gs : List Rec) → every solid gs ≡ true → best_ok (r ∷ []) gs ≡ true → r.long ≡ 0 → gs ≡ []
none_over r [] s h z = refl
none_over r (g ∷ gs) s h z = absurd (none_long r [] g gs s h z)

-- two pairs in offset order
pub order_two : (g k : Rec) → g.off < k.off → in_order (named_by g) (named_by k) ≡ named_by g ∷ named_by k ∷ []
unfolding in_order
order_two g k c = rw (le-ltb k.off g.off (omega arith))

pub swap_two : (g k : Rec) → g.off < k.off → in_order (named_by k) (named_by g) ≡ named_by g ∷ named_by k ∷ []
unfolding in_order
swap_two g k c = rw (lt-ltb g.off k.off c)

-- those that name a gap
both_filled : (g k : Rec) → 0 < size g → 0 < size k → keep filled (named_by g ∷ named_by k ∷ []) ≡ named_by g ∷ named_by k ∷ []
both_filled g k a b = rw (lt-ltb 0 (size g) a, lt-ltb 0 (size k) b)

order_one : (g : Rec) → 0 < size g → keep filled (in_order (named_by g) (pair 0 0)) ≡ named_by g ∷ []
unfolding in_order
order_one g a = by_cases (ltb 0 g.off) (λ q. rw (q, lt-ltb 0 (size g) a)) (λ q. rw (q, lt-ltb 0 (size g) a))

order_none : keep filled (in_order (pair 0 0) (pair 0 0)) ≡ []
unfolding in_order
order_none = refl

-- how two pairs name the gaps gs, if they name all
pub data Named (p q : Pair) (gs : List Rec) : Type 0 where
  none : p ≡ pair 0 0 → q ≡ pair 0 0 → gs ≡ [] → Named p q gs
  one : (g : Rec) → 0 < size g → p ≡ named_by g → q ≡ pair 0 0 → gs ≡ g ∷ [] → Named p q gs
  two : (g k : Rec) → 0 < size g → 0 < size k → g.off < k.off → p ≡ named_by g → q ≡ named_by k → gs ≡ g ∷ k ∷ [] → Named p q gs
  swapped : (g k : Rec) → 0 < size g → 0 < size k → g.off < k.off → p ≡ named_by k → q ≡ named_by g → gs ≡ g ∷ k ∷ [] → Named p q gs

-- two gaps
both : (p q r : Pair) (g k : Rec) (o : ℕ) → Rising o (g ∷ k ∷ []) → best_ok (p ∷ q ∷ r ∷ []) (g ∷ k ∷ []) ≡ true → Named p q (g ∷ k ∷ [])
both p q r g k o s h =
    let c : g.off < k.off = omega (arith, s.1, s.2.0) in
    let rest : best_ok (q ∷ r ∷ []) (besides p.from (g ∷ k ∷ [])) ≡ true = ok_rest p (q ∷ r ∷ []) g (k ∷ []) h in
    or_cases (is_gap_of p g) (is_gap_of p k || false) (ok_named p (q ∷ r ∷ []) g (k ∷ []) h)
    (λ z.
    let i : p ≡ named_by g = is_named p g z in
    let l : besides p.from (g ∷ k ∷ []) ≡ k ∷ [] =
    ap (λ (x : Pair). besides x.from (g ∷ k ∷ [])) i ∙ besides_it g (k ∷ []) ∙ besides_other g.off k [] (λ (y : k.off ≡ g.off). omega arith) in
    two g k s.1 s.2.1 c i (only q (r ∷ []) k (subst (λ (m : List Rec). best_ok (q ∷ r ∷ []) m ≡ true) l rest)) refl)
    (λ z.
    let i : p ≡ named_by k = or_cases (is_gap_of p k) false z (λ y. is_named p k y) (λ y. absurd (false≢true y)) in
    let l : besides p.from (g ∷ k ∷ []) ≡ g ∷ [] =
    ap (λ (x : Pair). besides x.from (g ∷ k ∷ [])) i ∙ besides_other k.off g (k ∷ []) (λ (y : g.off ≡ k.off). omega arith)
    ∙ ap (λ (m : List Rec). g ∷ m) (besides_it k []) in
    swapped g k s.1 s.2.1 c i (only q (r ∷ []) g (subst (λ (m : List Rec). best_ok (q ∷ r ∷ []) m ≡ true) l rest)) refl)

-- with three gaps the third pair would name one
abbrev at_either : Pair → Pair → Rec → Bool
at_either p q x = eqb x.off p.from || eqb x.off q.from

either : (p q : Pair) (gs : List Rec) → besides q.from (besides p.from gs) ≡ [] → every (at_either p q) gs ≡ true
either p q gs z =
    every_besides (λ (x : Rec). eqb x.off p.from) (λ (x : Rec). eqb x.off q.from) gs
    ∙ none (besides p.from gs) z
  where
    none : (hs : List Rec) → besides q.from hs ≡ [] → every (λ (x : Rec). eqb x.off q.from) hs ≡ true
    none [] y = refl
    none (x ∷ hs) y =
        by_cases (eqb x.off q.from)
        (λ t. rw t (none hs (rw t at y)))
        (λ t. let w : x ∷ besides q.from hs ≡ [] = rw t at y in absurd (omega (arith, ap length w)))

three : (a b c x y : ℕ) → a < b → b < c → (eqb a x || eqb a y) ≡ true → (eqb b x || eqb b y) ≡ true → (eqb c x || eqb c y) ≡ true → ⊥
three a b c x y l m p q r =
    or_cases (eqb a x) (eqb a y) p
    (λ i. or_cases (eqb b x) (eqb b y) q
    (λ j. omega (arith, eqb-true a x i, eqb-true b x j))
    (λ j. or_cases (eqb c x) (eqb c y) r (λ k. omega (arith, eqb-true a x i, eqb-true c x k)) (λ k. omega (arith, eqb-true b y j, eqb-true c y k))))
    (λ i. or_cases (eqb b x) (eqb b y) q
    (λ j. or_cases (eqb c x) (eqb c y) r (λ k. omega (arith, eqb-true b x j, eqb-true c x k)) (λ k. omega (arith, eqb-true a y i, eqb-true c y k)))
    (λ j. omega (arith, eqb-true a y i, eqb-true b y j)))

-- what BEST says of the other pairs
pub rest_of : (p : Pair) (ps : List Pair) (gs : List Rec) → best_ok (p ∷ ps) gs ≡ true → best_ok ps (besides p.from gs) ≡ true
rest_of p ps [] h = no_others p ps h
rest_of p ps (g ∷ gs) h = ok_rest p ps g gs h

none_third : (p q r : Pair) (gs : List Rec) → every solid gs ≡ true → best_ok (p ∷ q ∷ r ∷ []) gs ≡ true → r.long ≡ 0
    → every (at_either p q) gs ≡ true
none_third p q r gs s h z =
    let s₁ : every solid (besides p.from gs) ≡ true = every_keep solid (λ x. not (eqb x.off p.from)) gs s in
    let s₂ : every solid (besides q.from (besides p.from gs)) ≡ true =
    every_keep solid (λ x. not (eqb x.off q.from)) (besides p.from gs) s₁ in
    either p q gs
    (none_over r (besides q.from (besides p.from gs)) s₂ (rest_of q (r ∷ []) (besides p.from gs) (rest_of p (q ∷ r ∷ []) gs h)) z)

pub named : (p q r : Pair) (gs : List Rec) (o : ℕ) → Rising o gs → best_ok (p ∷ q ∷ r ∷ []) gs ≡ true → r.long ≡ 0 → Named p q gs
named p q r [] o s h z = none (no_more p (q ∷ r ∷ []) h) (no_more q (r ∷ []) (no_others p (q ∷ r ∷ []) h)) refl
named p q r (g ∷ []) o s h z =
    let i : p ≡ named_by g = only p (q ∷ r ∷ []) g h in
    let l : besides p.from (g ∷ []) ≡ [] = ap (λ (x : Pair). besides x.from (g ∷ [])) i ∙ besides_it g [] in
    one g s.1 i (no_more q (r ∷ []) (subst (λ (m : List Rec). best_ok (q ∷ r ∷ []) m ≡ true) l (rest_of p (q ∷ r ∷ []) (g ∷ []) h))) refl
named p q r (g ∷ k ∷ []) o s h z = both p q r g k o s h
named p q r (g ∷ k ∷ m ∷ gs) o s h z =
    let v : every (at_either p q) (g ∷ k ∷ m ∷ gs) ≡ true = none_third p q r (g ∷ k ∷ m ∷ gs) (rising_solid o (g ∷ k ∷ m ∷ gs) s) h z in
    let v₂ : every (at_either p q) (k ∷ m ∷ gs) ≡ true = every_tail (at_either p q) g (k ∷ m ∷ gs) v in
    absurd (three g.off k.off m.off p.from q.from (omega (arith, s.1, s.2.0)) (omega (arith, s.2.1, s.2.2.0))
    (every_head (at_either p q) g (k ∷ m ∷ gs) v) (every_head (at_either p q) k (m ∷ gs) v₂)
    (every_head (at_either p q) m gs (every_tail (at_either p q) k (m ∷ gs) v₂)))

-- the gaps are the pairs that name any, in offset order
pub few_gaps : (p q : Pair) (gs : List Rec) → Named p q gs → keep filled (in_order p q) ≡ pairs_of gs
few_gaps p q gs (none i j l) = ap₂ (λ (x y : Pair). keep filled (in_order x y)) i j ∙ order_none ∙ ap pairs_of (sym l)
few_gaps p q gs (one g a i j l) = ap₂ (λ (x y : Pair). keep filled (in_order x y)) i j ∙ order_one g a ∙ ap pairs_of (sym l)
few_gaps p q gs (two g k a b c i j l) =
    ap₂ (λ (x y : Pair). keep filled (in_order x y)) i j ∙ ap (keep filled) (order_two g k c) ∙ both_filled g k a b ∙ ap pairs_of (sym l)
few_gaps p q gs (swapped g k a b c i j l) =
    ap₂ (λ (x y : Pair). keep filled (in_order x y)) i j ∙ ap (keep filled) (swap_two g k c) ∙ both_filled g k a b ∙ ap pairs_of (sym l)

-- an empty pair changes no table
pub ins_empty : (p : Pair) (ts : List Pair) → p.long ≡ 0 → ins p ts ≡ ts
unfolding ins
ins_empty p [] z = refl
ins_empty p (t ∷ ts) z = rw (le-ltb t.long p.long (omega arith)) (ap (λ (l : List Pair). t ∷ l) (ins_empty p ts z))

either_same : {A : Type 0} (t : Bool) (x y : A) → x ≡ y → cond t x y ≡ y
either_same true x y q = q
either_same false x y q = refl

pub not_filled : (p : Pair) → filled p ≡ false → p.long ≡ 0
not_filled p h = omega (arith, ltb-false 0 p.long h)

before_filled : (o : ℕ) (ps ts : List Pair) → ins_before o ps ts ≡ ins_before o (keep filled ps) ts
unfolding ins_before
before_filled o [] ts = refl
before_filled o (p ∷ ps) ts =
    by_cases (filled p)
    (λ q. rw q (before_filled o ps (cond (ltb p.from o) (ins p ts) ts)))
    (λ q. rw q (ap (ins_before o ps) (either_same (ltb p.from o) (ins p ts) ts (ins_empty p ts (not_filled p q))) ∙ before_filled o ps ts))

behind_filled : (u : ℕ) (ps ts : List Pair) → ins_behind u ps ts ≡ ins_behind u (keep filled ps) ts
unfolding ins_behind
behind_filled u [] ts = refl
behind_filled u (p ∷ ps) ts =
    by_cases (filled p)
    (λ q. rw q (behind_filled u ps (cond (leb u p.from) (ins p ts) ts)))
    (λ q. rw q (ap (ins_behind u ps) (either_same (leb u p.from) (ins p ts) ts (ins_empty p ts (not_filled p q))) ∙ behind_filled u ps ts))

pub table_filled : (o u : ℕ) (ps : List Pair) → joined_table o u ps ≡ joined_table o u (keep filled ps)
unfolding joined_table
table_filled o u ps =
    let zs : List Pair = pair 0 0 ∷ pair 0 0 ∷ pair 0 0 ∷ [] in
    behind_filled u ps (ins (pair o (u - o)) (ins_before o ps zs))
    ∙ ap (λ (l : List Pair). ins_behind u (keep filled ps) (ins (pair o (u - o)) l)) (before_filled o ps zs)
