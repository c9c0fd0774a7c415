-- The best-gap table that a change writes is right.
-- Assumes nothing.
use Prim.Native.Nat.{ℕ, zero, suc, ◌^◌, ◌≤◌, ◌<◌}
use native.Mathlib.Nat.{le_refl}
use native.Mathlib.Omega.{arith}
use mathlib.Core.Bool.{Bool, true, false, ◌&&◌}
use mathlib.Core.Path.{◌≡◌, refl, sym, ◌∙◌}
use mathlib.Core.List.{List, [], ◌∷◌, ◌++◌, append_assoc}
use lib.Dec.{eqb, leb, leb-zero}
use lib.ListN.{length, length-append}
use lib.Seq.{take_at, drop_at}
use borrow.Author.Tests.{leb-true, leb-false, eq-eqb, le-leb, lt-leb}
use Rattle.be.specs.Lists.{every, some_of}
use Rattle.be.specs.Bytes.{to_be}
use Rattle.dir_block_rules.specs.Record.{Rec, size, besides}
use Rattle.dir_block_rules.specs.Verdict.{Pair, pair, pairs_in, best_ok, is_gap_of}
use Rattle.dir_block_rules.specs.Change.{longest, best_of, pair_bytes}
use Rattle.be.proofs.Bools.{and_both, by_cases, every_cons, or_left, or_right}
use Rattle.be.proofs.Numbers.{length_to_be, be_to_be}

-- the longest is at least as long as each
pub longest_every : (gs : List Rec) (n : ℕ) → size (longest gs) ≤ n → every (λ r. leb (size r) n) gs ≡ true
unfolding longest
longest_every [] n h = refl
longest_every (g ∷ gs) n h =
    by_cases (leb (size (longest gs)) (size g))
    (λ q. let h' : size g ≤ n = rw q at h in
    every_cons (λ r. leb (size r) n) g gs (le-leb _ _ h') (longest_every gs n (omega (arith, leb-true (size (longest gs)) (size g) q))))
    (λ q. let h' : size (longest gs) ≤ n = rw q at h in
    every_cons (λ r. leb (size r) n) g gs (le-leb (size g) n (omega (arith, leb-false (size (longest gs)) (size g) q))) (longest_every gs n h'))

-- a test that passes at the longest passes at some
pub longest_some : (t : Rec → Bool) (g : Rec) (gs : List Rec) → t (longest (g ∷ gs)) ≡ true → some_of t (g ∷ gs) ≡ true
unfolding longest
longest_some t g [] h = or_left (t g) false (rw (leb-zero (size g)) at h)
longest_some t g (g₂ ∷ gs) h =
    by_cases (leb (size (longest (g₂ ∷ gs))) (size g))
    (λ q. or_left (t g) (some_of t (g₂ ∷ gs)) (rw q at h))
    (λ q. or_right (t g) (some_of t (g₂ ∷ gs)) (longest_some t g₂ gs (rw q at h)))

-- some record is at least n long exactly if the longest is
pub longest_holds : (n : ℕ) (gs : List Rec) → 1 ≤ n → some_of (λ g. leb n (size g)) gs ≡ leb n (size (longest gs))
unfolding longest
longest_holds n [] h = sym (lt-leb n 0 h)
longest_holds n (g ∷ gs) h =
    let m : Rec = longest gs in
    let ih : some_of (λ r. leb n (size r)) gs ≡ leb n (size m) = longest_holds n gs h in
    by_cases (leb (size m) (size g))
    (λ q. by_cases (leb n (size g))
    (λ k. rw (q, k))
    (λ k. rw (q, k) (ih ∙ lt-leb n (size m) (omega (arith, leb-true (size m) (size g) q, leb-false n (size g) k)))))
    (λ q. by_cases (leb n (size g))
    (λ k. rw (q, k) (sym (le-leb n (size m) (omega (arith, leb-false (size m) (size g) q, leb-true n (size g) k)))))
    (λ k. rw (q, k) ih))

pub best_of_right : (k : ℕ) (gs : List Rec) → best_ok (best_of k gs) gs ≡ true
unfolding best_of best_ok
best_of_right zero gs = refl
best_of_right (suc k) [] = best_of_right k []
best_of_right (suc k) (g ∷ gs) =
    let m : Rec = longest (g ∷ gs) in
    let p : Pair = pair m.off (size m) in
    and_both (some_of (is_gap_of p) (g ∷ gs) && every (λ r. leb (size r) p.long) (g ∷ gs)) (best_ok (best_of k (besides m.off (g ∷ gs))) (besides m.off (g ∷ gs)))
    (and_both (some_of (is_gap_of p) (g ∷ gs)) (every (λ r. leb (size r) p.long) (g ∷ gs))
    (longest_some (is_gap_of p) g gs (and_both (eqb m.off m.off) (eqb (size m) (size m)) (eq-eqb m.off m.off refl) (eq-eqb (size m) (size m) refl)))
    (longest_every (g ∷ gs) (size m) (le_refl (size m))))
    (best_of_right k (besides m.off (g ∷ gs)))

abbrev pub PairsFit : List Pair → Type 0
PairsFit [] = Unit {0}
PairsFit (p ∷ ps) = (p.from < 256 ^ 2) × (p.long < 256 ^ 2) × PairsFit ps

pub pairs_in_bytes : (ps : List Pair) (d : List ℕ) → PairsFit ps → pairs_in (length ps) (pair_bytes ps ++ d) ≡ ps
unfolding pairs_in pair_bytes
pairs_in_bytes [] d h = refl
pairs_in_bytes (s ∷ ss) d h =
    let hb : List ℕ = to_be 2 s.from in
    let ab : List ℕ = to_be 2 s.long in
    let rest : List ℕ = pair_bytes ss ++ d in
    let q : hb ++ (ab ++ pair_bytes ss) ++ d ≡ hb ++ (ab ++ rest) = simp append_assoc in
    rw (q, take_at hb (ab ++ rest) 2 (length_to_be 2 s.from), drop_at hb (ab ++ rest) 2 (length_to_be 2 s.from))
    (rw (
      take_at ab rest 2 (length_to_be 2 s.long),
      ← append_assoc hb ab rest,
      drop_at (hb ++ ab) rest 4 (simp (length-append, length_to_be)),
      be_to_be 2 s.from h.0,
      be_to_be 2 s.long h.1,
      pairs_in_bytes ss d h.2,
    ))
