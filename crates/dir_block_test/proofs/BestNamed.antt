-- BEST: naming gaps in one pass is naming the longest, longest first.
-- Assumes nothing.
use Prim.Native.Nat.{ℕ, ◌≤◌, ◌<◌}
use native.Mathlib.Omega.{arith}
use mathlib.Core.Bool.{Bool, true, false, not, ◌&&◌, ◌||◌, false≢true}
use mathlib.Core.Path.{◌≡◌, refl, sym, ◌∙◌, ap, ap₂, subst}
use mathlib.Core.List.{List, [], ◌∷◌}
use lib.Dec.{eqb, leb}
use borrow.Author.Tests.{eqb-true, le-leb, lt-leb, leb-true, eq-eqb, not-true}
use Rattle.be.specs.Lists.{every, some_of, keep}
use Rattle.dir_block_rules.specs.Record.{Rec, size, besides}
use Rattle.dir_block_rules.specs.Verdict.{Pair, is_gap_of, zero_pair, best_ok}
use Rattle.be.proofs.Bools.{by_cases, and_left, and_right, every_head, every_tail, every_cons, and_true, and_false, and_swap, or_true, every_keep}
use Rattle.dir_block_test.specs.Passes.{best_left, unnamed}

-- gaps at places apart, none empty
abbrev pub Sep : List Rec → Type 0
Sep [] = Unit {0}
Sep (g ∷ gs) = (0 < size g) × (every (λ h. not (eqb h.off g.off)) gs ≡ true) × Sep gs

abbrev pub at_most : ℕ → List Rec → Bool
at_most m gs = every (λ g. leb (size g) m) gs

sep_keep : (p : Rec → Bool) (gs : List Rec) → Sep gs → Sep (keep p gs)
sep_keep p [] s = tt
sep_keep p (g ∷ gs) s =
    by_cases (p g)
    (λ z. rw z (s.0, every_keep (λ h. not (eqb h.off g.off)) p gs s.1, sep_keep p gs s.2))
    (λ z. rw z (sep_keep p gs s.2))

module _ (p : Pair) where
  -- a gap at another place is not named
  elsewhere : (g : Rec) → not (eqb g.off p.from) ≡ true → is_gap_of p g ≡ false
  elsewhere g h = rw (not-true (eqb g.off p.from) h)

  none_there : (gs : List Rec) → every (λ h. not (eqb h.off p.from)) gs ≡ true → some_of (is_gap_of p) gs ≡ false
  none_there [] h = refl
  none_there (g ∷ gs) h =
      rw (elsewhere g (every_head (λ h. not (eqb h.off p.from)) g gs h)) (none_there gs (every_tail (λ h. not (eqb h.off p.from)) g gs h))

  all_kept : (gs : List Rec) → every (λ h. not (eqb h.off p.from)) gs ≡ true → unnamed p gs ≡ besides p.from gs
  all_kept [] h = refl
  all_kept (g ∷ gs) h =
      let q : eqb g.off p.from ≡ false = not-true (eqb g.off p.from) (every_head (λ h. not (eqb h.off p.from)) g gs h) in
      rw q (ap (λ (l : List Rec). g ∷ l) (all_kept gs (every_tail (λ h. not (eqb h.off p.from)) g gs h)))

  -- where the pair names a gap, that is the only gap there
  pub named_one : (gs : List Rec) → Sep gs → some_of (is_gap_of p) gs ≡ true → unnamed p gs ≡ besides p.from gs
  named_one [] s h = refl
  named_one (g ∷ gs) s h =
      by_cases (is_gap_of p g)
      (λ a. let o : g.off ≡ p.from = eqb-true g.off p.from (and_left (eqb g.off p.from) (eqb (size g) p.long) a) in
      let others : every (λ h. not (eqb h.off p.from)) gs ≡ true = subst (λ (k : ℕ). every (λ h. not (eqb h.off k)) gs ≡ true) o s.1 in
      rw (a, eq-eqb g.off p.from o) (all_kept gs others))
      (λ a. let h' : some_of (is_gap_of p) gs ≡ true = rw a at h in
      by_cases (eqb g.off p.from)
      (λ z. let others : every (λ h. not (eqb h.off p.from)) gs ≡ true = subst (λ (k : ℕ). every (λ h. not (eqb h.off k)) gs ≡ true) (eqb-true g.off p.from z) s.1 in
      absurd (false≢true (sym (none_there gs others) ∙ h')))
      (λ z. rw (a, z) (ap (λ (l : List Rec). g ∷ l) (named_one gs s.2 h'))))

  pub none_named : (gs : List Rec) → some_of (is_gap_of p) gs ≡ false → unnamed p gs ≡ gs
  none_named [] h = refl
  none_named (g ∷ gs) h =
      by_cases (is_gap_of p g)
      (λ a. absurd (false≢true (sym h ∙ rw a)))
      (λ a. rw a (ap (λ (l : List Rec). g ∷ l) (none_named gs (rw a at h))))

  -- a bound on all gaps is one on the named gap and on the others
  bound_split : (m : ℕ) (gs : List Rec) → at_most m gs ≡ ((not (some_of (is_gap_of p) gs) || leb p.long m) && at_most m (unnamed p gs))
  bound_split m [] = refl
  bound_split m (g ∷ gs) =
      by_cases (is_gap_of p g)
      (λ a. let l : size g ≡ p.long = eqb-true (size g) p.long (and_right (eqb g.off p.from) (eqb (size g) p.long) a) in
      rw (a, l, bound_split m gs) (once (leb p.long m) (not (some_of (is_gap_of p) gs)) (at_most m (unnamed p gs))))
      (λ a. rw (a, bound_split m gs) (and_swap (leb (size g) m) (not (some_of (is_gap_of p) gs) || leb p.long m) (at_most m (unnamed p gs))))
    where
      once : (x y z : Bool) → (x && ((y || x) && z)) ≡ (x && z)
      once true true z = refl
      once true false z = refl
      once false y z = refl

  pub bound_hit : (m : ℕ) (gs : List Rec) → some_of (is_gap_of p) gs ≡ true → at_most m gs ≡ (leb p.long m && at_most m (unnamed p gs))
  bound_hit m gs h = bound_split m gs ∙ rw h

-- a higher bound
bound_le : (m n : ℕ) → m ≤ n → (gs : List Rec) → at_most m gs ≡ true → at_most n gs ≡ true
bound_le m n l [] h = refl
bound_le m n l (g ∷ gs) h =
    every_cons (λ g. leb (size g) n) g gs
    (le-leb (size g) n (omega (arith, leb-true (size g) m (every_head (λ g. leb (size g) m) g gs h))))
    (bound_le m n l gs (every_tail (λ g. leb (size g) m) g gs h))

-- the pairs, each bounded by the one before
unfoldable pub down : List Pair → ℕ → List Rec → Bool
down [] l gs = at_most l gs
down (p ∷ ps) l gs = leb p.long l && ((zero_pair p || some_of (is_gap_of p) gs) && down ps p.long (unnamed p gs))

meet : (L K E F : Bool) → (L ≡ true → E ≡ true → F ≡ true) → (L && (K && E)) ≡ ((E && K) && (L && F))
meet true true true F h = sym (h refl refl)
meet true true false F h = refl
meet true false true F h = refl
meet true false false F h = refl
meet false true true F h = refl
meet false true false F h = refl
meet false false true F h = refl
meet false false false F h = refl

module _ (p : Pair) (ps : List Pair) (l : ℕ) (G : List Rec) (D : Bool) (ih : D ≡ (best_ok ps (unnamed p G) && at_most p.long (unnamed p G))) where
  step_hit : Sep G → some_of (is_gap_of p) G ≡ true
      → (leb p.long l && ((zero_pair p || some_of (is_gap_of p) G) && D))
      ≡ (((some_of (is_gap_of p) G && at_most p.long G) && best_ok ps (besides p.from G)) && at_most l G)
  step_hit s h =
      let e1 : at_most p.long G ≡ at_most p.long (unnamed p G) = bound_hit p p.long G h ∙ rw (le-leb p.long p.long (omega arith)) in
      let e2 : at_most l G ≡ (leb p.long l && at_most l (unnamed p G)) = bound_hit p l G h in
      let e3 : best_ok ps (besides p.from G) ≡ best_ok ps (unnamed p G) = ap (best_ok ps) (sym (named_one p G s h)) in
      rw (h, or_true (zero_pair p), ih, e1, e2, e3)
      (meet (leb p.long l) (best_ok ps (unnamed p G)) (at_most p.long (unnamed p G)) (at_most l (unnamed p G))
      (λ x y. bound_le p.long l (leb-true p.long l x) (unnamed p G) y))

  step_miss : at_most 0 G ≡ false → some_of (is_gap_of p) G ≡ false
      → (leb p.long l && ((zero_pair p || some_of (is_gap_of p) G) && D))
      ≡ (((some_of (is_gap_of p) G && at_most p.long G) && best_ok ps (besides p.from G)) && at_most l G)
  step_miss n h =
      by_cases (zero_pair p)
      (λ z. let q : p.long ≡ 0 = eqb-true p.long 0 (and_right (eqb p.from 0) (eqb p.long 0) z) in
      let e : at_most p.long (unnamed p G) ≡ false = ap₂ (λ (k : ℕ) (gs : List Rec). at_most k gs) q (none_named p G h) ∙ n in
      rw (h, z, ih, e, and_false (best_ok ps (unnamed p G))) (and_false (leb p.long l)))
      (λ z. rw (h, z) (and_false (leb p.long l)))

pub down_is : (ps : List Pair) (l : ℕ) (gs : List Rec) → Sep gs → down ps l gs ≡ (best_ok ps gs && at_most l gs)
unfolding down best_ok
down_is [] l gs s = refl
down_is (p ∷ ps) l [] s =
    by_cases (zero_pair p)
    (λ z. let q : p.long ≡ 0 = eqb-true p.long 0 (and_right (eqb p.from 0) (eqb p.long 0) z) in
    let q' : leb p.long l ≡ true = le-leb p.long l (omega arith) in
    rw (q', z) (down_is ps p.long [] tt))
    (λ z. rw z (and_false (leb p.long l)))
down_is (p ∷ ps) l (g ∷ gs) s =
    let ih : down ps p.long (unnamed p (g ∷ gs)) ≡ (best_ok ps (unnamed p (g ∷ gs)) && at_most p.long (unnamed p (g ∷ gs))) =
    down_is ps p.long (unnamed p (g ∷ gs)) (sep_keep (λ r. not (is_gap_of p r)) (g ∷ gs) s) in
    let none : at_most 0 (g ∷ gs) ≡ false = rw (lt-leb (size g) 0 s.0) in
    by_cases (some_of (is_gap_of p) (g ∷ gs))
    (λ h. step_hit p ps l (g ∷ gs) (down ps p.long (unnamed p (g ∷ gs))) ih s h)
    (λ h. step_miss p ps l (g ∷ gs) (down ps p.long (unnamed p (g ∷ gs))) ih none h)

shuffle : (a b c d e x : Bool) → (a && (b && (c && (d && (e && x))))) ≡ (a && (c && (e && (b && (d && x)))))
shuffle false b c d e x = refl
shuffle true true true d e x = and_swap d e x
shuffle true true false d e x = refl
shuffle true false true d true x = refl
shuffle true false true d false x = refl
shuffle true false false d e x = refl

-- three pairs in one pass
pub best_law : (p q r : Pair) (l : ℕ) (gs : List Rec) → Sep gs → at_most l gs ≡ true → p.long ≤ l
    → best_ok (p ∷ q ∷ r ∷ []) gs
    ≡ (leb q.long p.long && (leb r.long q.long && best_left (zero_pair p) (zero_pair q) (zero_pair r) p q r gs))
unfolding down best_left
best_law p q r l gs s m h =
    let d : down (p ∷ q ∷ r ∷ []) l gs ≡ best_ok (p ∷ q ∷ r ∷ []) gs = down_is (p ∷ q ∷ r ∷ []) l gs s ∙ rw m (and_true (best_ok (p ∷ q ∷ r ∷ []) gs)) in
    sym d ∙ three
  where
    three : down (p ∷ q ∷ r ∷ []) l gs ≡ (leb q.long p.long && (leb r.long q.long && best_left (zero_pair p) (zero_pair q) (zero_pair r) p q r gs))
    three = rw (le-leb p.long l h)
        (shuffle true (zero_pair p || some_of (is_gap_of p) gs) (leb q.long p.long) (zero_pair q || some_of (is_gap_of q) (unnamed p gs)) (leb r.long q.long)
        ((zero_pair r || some_of (is_gap_of r) (unnamed q (unnamed p gs))) && at_most r.long (unnamed r (unnamed q (unnamed p gs)))))
