-- The best-gap table grows gap by gap: the table of gs and one gap more is the table of gs with that gap put in.
-- Assumes nothing.
use Prim.Native.Nat.{ℕ, zero, suc, ◌<◌}
use native.Mathlib.Omega.{arith}
use mathlib.Core.Bool.{Bool, true, not, cond}
use mathlib.Core.Path.{◌≡◌, refl, sym, ◌∙◌, ap, ap₂}
use mathlib.Core.List.{List, [], ◌∷◌, ◌++◌, append-nil}
use lib.Dec.{eqb, leb, ltb}
use lib.ListN.{length, take, length-append}
use native.Mathlib.Nat.{not-suc-le-zero}
use borrow.Author.Tests.{ltb-true, ltb-false, leb-true, leb-false, lt-ltb, le-ltb, le-leb, lt-leb, eq-eqb, ne_eqb, not-true, eqb-false}
use Rattle.be.specs.Lists.{every, keep}
use Rattle.dir_block_rules.specs.Record.{Rec, size, besides}
use Rattle.dir_block_rules.specs.Verdict.{Pair, pair}
use Rattle.dir_block_rules.specs.Change.{longest, best_of}
use Rattle.be.proofs.Bools.{by_cases, every_head, every_tail, keep_append, every_keep}
use Rattle.dir_block_rules.proofs.GoodParts.{every_longest, length_best}
use Rattle.dir_block_laws.specs.BestSoFar.{ins}

-- the longest with one record more at the end
pub longest_more : (gs : List Rec) (g : Rec) → 0 < size g → longest (gs ++ (g ∷ [])) ≡ cond (ltb (size (longest gs)) (size g)) g (longest gs)
unfolding longest
longest_more [] g h = rw (le-leb 0 (size g) (omega arith), lt-ltb 0 (size g) h)
longest_more (x ∷ xs) g h =
    let m : Rec = longest xs in
    let ih : longest (xs ++ (g ∷ [])) ≡ cond (ltb (size (longest xs)) (size g)) g (longest xs) = longest_more xs g h in
    by_cases (ltb (size (longest xs)) (size g))
    (λ p.
    let e : longest (xs ++ (g ∷ [])) ≡ g = ih ∙ rw p in
    by_cases (leb (size (longest xs)) (size x))
    (λ q. rw (e, q) (by_cases (ltb (size x) (size g))
    (λ r. rw (r, lt-leb (size g) (size x) (ltb-true (size x) (size g) r)))
    (λ r. rw (r, le-leb (size g) (size x) (ltb-false (size x) (size g) r)))))
    (λ q. rw (e, q) (rw (p, lt-leb (size g) (size x) (omega (arith, leb-false (size (longest xs)) (size x) q, ltb-true (size (longest xs)) (size g) p))))))
    (λ p.
    let e : longest (xs ++ (g ∷ [])) ≡ longest xs = ih ∙ rw p in
    by_cases (leb (size (longest xs)) (size x))
    (λ q. rw (e, q) (rw (le-ltb (size x) (size g) (omega (arith, leb-true (size (longest xs)) (size x) q, ltb-false (size (longest xs)) (size g) p)))))
    (λ q. rw (e, q) (rw p)))

-- a shorter table is the longer one's front
pub take_best : (k : ℕ) (gs : List Rec) → take k (best_of (suc k) gs) ≡ best_of k gs
unfolding best_of
take_best zero gs = refl
take_best (suc k) [] = ap (λ (l : List Pair). pair 0 0 ∷ l) (take_best k [])
take_best (suc k) (g ∷ gs) =
    let m : Rec = longest (g ∷ gs) in
    ap (λ (l : List Pair). pair (longest (g ∷ gs)).off (size (longest (g ∷ gs))) ∷ l) (take_best k (besides (longest (g ∷ gs)).off (g ∷ gs)))

-- stands elsewhere than at o
abbrev pub elsewhere : ℕ → Rec → Bool
elsewhere o r = not (eqb r.off o)

pub keep_all : (p : Rec → Bool) (l : List Rec) → every p l ≡ true → keep p l ≡ l
keep_all p [] h = refl
keep_all p (x ∷ l) h = rw (every_head p x l h, keep_all p l (every_tail p x l h))

-- one step of the table
pub best_step : (k : ℕ) (gs : List Rec) → 0 < length gs → best_of (suc k) gs ≡ pair (longest gs).off (size (longest gs)) ∷ best_of k (besides (longest gs).off gs)
unfolding best_of
best_step k [] h = absurd (not-suc-le-zero h)
best_step k (g ∷ gs) h = refl

ins_step : (p q : Pair) (qs : List Pair) → ins p (q ∷ qs) ≡ cond (ltb q.long p.long) (p ∷ take (length qs) (q ∷ qs)) (q ∷ ins p qs)
unfolding ins
ins_step p q qs = refl

besides_none : (g : Rec) → besides g.off (g ∷ []) ≡ []
besides_none g = rw (eq-eqb g.off g.off refl)

besides_one : (o : ℕ) (g : Rec) → (g.off ≡ o → ⊥) → besides o (g ∷ []) ≡ g ∷ []
besides_one o g h = rw (ne_eqb g.off o h)

-- a list that has records
best_on : (k : ℕ) (gs : List Rec) (g : Rec) → 0 < size g → every (elsewhere g.off) gs ≡ true → 0 < length gs → elsewhere g.off (longest gs) ≡ true
    → ((hs : List Rec) → every (elsewhere g.off) hs ≡ true → best_of k (hs ++ (g ∷ [])) ≡ ins (pair g.off (size g)) (best_of k hs))
    → best_of (suc k) (gs ++ (g ∷ [])) ≡ ins (pair g.off (size g)) (best_of (suc k) gs)
best_on k gs g h e n mo ih =
    let P : Pair = pair g.off (size g) in
    let m : Rec = longest gs in
    let L : Rec = longest (gs ++ (g ∷ [])) in
    let qs : List Pair = best_of k (besides (longest gs).off gs) in
    let q : Pair = pair (longest gs).off (size (longest gs)) in
    let ll : longest (gs ++ (g ∷ [])) ≡ cond (ltb (size (longest gs)) (size g)) g (longest gs) = longest_more gs g h in
    let s : best_of (suc k) (gs ++ (g ∷ [])) ≡ pair (longest (gs ++ (g ∷ []))).off (size (longest (gs ++ (g ∷ [])))) ∷ best_of k (besides (longest (gs ++ (g ∷ []))).off (gs ++ (g ∷ []))) =
    best_step k (gs ++ (g ∷ [])) (simp length-append (omega arith)) in
    let r : ins P (best_of (suc k) gs) ≡ cond (ltb (size (longest gs)) (size g)) (P ∷ take (length qs) (q ∷ qs)) (q ∷ ins P qs) =
    ap (ins P) (best_step k gs n) ∙ ins_step P q qs in
    by_cases (ltb (size (longest gs)) (size g))
    (λ t.
    let lg : longest (gs ++ (g ∷ [])) ≡ g = ll ∙ rw t in
    let bs : besides g.off (gs ++ (g ∷ [])) ≡ gs =
    keep_append (elsewhere g.off) gs (g ∷ []) ∙ ap₂ (λ (l k : List Rec). l ++ k) (keep_all (elsewhere g.off) gs e) (besides_none g) ∙ append-nil gs in
    let tk : take (length qs) (q ∷ qs) ≡ best_of k gs =
    ap₂ (λ (j : ℕ) (l : List Pair). take j l) (length_best k (besides (longest gs).off gs)) (sym (best_step k gs n)) ∙ take_best k gs in
    s ∙ ap (λ (x : Rec). pair x.off (size x) ∷ best_of k (besides x.off (gs ++ (g ∷ [])))) lg
    ∙ ap (λ (l : List Rec). P ∷ best_of k l) bs ∙ ap (λ (l : List Pair). P ∷ l) (sym tk) ∙ sym (r ∙ rw t))
    (λ t.
    let lm : longest (gs ++ (g ∷ [])) ≡ longest gs = ll ∙ rw t in
    let ne : g.off ≡ (longest gs).off → ⊥ = λ z. eqb-false (longest gs).off g.off (not-true _ mo) (sym z) in
    let bs : besides (longest gs).off (gs ++ (g ∷ [])) ≡ besides (longest gs).off gs ++ (g ∷ []) =
    keep_append (elsewhere (longest gs).off) gs (g ∷ []) ∙ ap (λ (l : List Rec). besides (longest gs).off gs ++ l) (besides_one (longest gs).off g ne) in
    s ∙ ap (λ (x : Rec). pair x.off (size x) ∷ best_of k (besides x.off (gs ++ (g ∷ [])))) lm
    ∙ ap (λ (l : List Rec). q ∷ best_of k l) bs
    ∙ ap (λ (l : List Pair). q ∷ l) (ih (besides (longest gs).off gs) (every_keep (elsewhere g.off) (elsewhere (longest gs).off) gs e)) ∙ sym (r ∙ rw t))

pub best_more : (k : ℕ) (gs : List Rec) (g : Rec) → 0 < size g → every (elsewhere g.off) gs ≡ true
    → best_of k (gs ++ (g ∷ [])) ≡ ins (pair g.off (size g)) (best_of k gs)
unfolding best_of ins longest
best_more zero gs g h e = none gs
  where
    none : (hs : List Rec) → best_of 0 (hs ++ (g ∷ [])) ≡ ins (pair g.off (size g)) (best_of 0 hs)
    none hs = refl
best_more (suc k) [] g h e = first k
  where
    P : Pair
    P = pair g.off (size g)

    lg : longest (g ∷ []) ≡ g
    lg = rw (le-leb 0 (size g) (omega arith))

    first : (k : ℕ) → best_of (suc k) (g ∷ []) ≡ ins (pair g.off (size g)) (best_of (suc k) [])
    first k =
        best_step k (g ∷ []) (omega arith) ∙ ap (λ (x : Rec). pair x.off (size x) ∷ best_of k (besides x.off (g ∷ []))) lg
        ∙ ap (λ (l : List Rec). P ∷ best_of k l) (besides_none g)
        ∙ sym (ins_step P (pair 0 0) (best_of k []) ∙ rw (lt-ltb 0 (size g) h) (ap (λ (l : List Pair). P ∷ l) (ap (λ (j : ℕ). take j (pair 0 0 ∷ best_of k [])) (length_best k []) ∙ take_best k [])))
best_more (suc k) (x ∷ xs) g h e = best_on k (x ∷ xs) g h e (omega arith) (every_longest (elsewhere g.off) x xs e) (λ hs q. best_more k hs g h q)
