-- The longest gaps other than T, by the stored pairs, where they name all gaps.
-- Assumes nothing.
use Prim.Native.Nat.{ℕ, ◌+◌}
use native.Mathlib.Omega.{arith}
use mathlib.Core.Bool.{Bool, true, false, cond}
use mathlib.Core.Path.{◌≡◌, refl, sym, ◌∙◌, ap}
use mathlib.Core.List.{List, [], ◌∷◌}
use lib.Dec.{eqb}
use Rattle.be.specs.Lists.{keep}
use Rattle.be.proofs.Bools.{by_cases}
use Rattle.edition.specs.declared.Edition.{Edition}
use Rattle.dir_block_rules.specs.Record.{Rec, size, gaps, besides}
use Rattle.dir_block_rules.specs.Block.{records}
use Rattle.dir_block_rules.specs.Verdict.{Pair, best_pairs}
use Rattle.dir_block_rules.specs.Change.{best_of}
use Rattle.dir_block_laws.specs.Tiled.{Ready}
use Rattle.dir_block_laws.specs.BestSoFar.{ins}
use Rattle.dir_block_laws.specs.JoinedTable.{ins_besides, in_order}
use Rattle.dir_block_laws.proofs.RecordSteps.{laid_all}
use Rattle.dir_block_laws.proofs.SlotSearch.{tiled}
use Rattle.dir_block_laws.proofs.FewGaps.{Rising, rising_from, rising_laid, named_by, pairs_of, filled, not_filled, few_gaps, ins_empty}
use Rattle.dir_block_laws.proofs.JoinedGaps.{into, best_into, stored_named}

-- an empty pair changes nothing
besides_filled : (u : ℕ) (ps ts : List Pair) → ins_besides u ps ts ≡ ins_besides u (keep filled ps) ts
unfolding ins_besides
besides_filled u [] ts = refl
besides_filled u (p ∷ ps) ts =
    by_cases (filled p)
    (λ q. rw q (besides_filled u ps (cond (eqb p.from u) ts (ins p ts))))
    (λ q. rw q (ap (ins_besides u ps) (same (eqb p.from u) (ins_empty p ts (not_filled p q))) ∙ besides_filled u ps ts))
  where
    same : (t : Bool) → ins p ts ≡ ts → cond t ts (ins p ts) ≡ ts
    same t z = by_cases t (λ y. rw y refl) (λ y. rw y z)

besides_into : (u : ℕ) (gs : List Rec) (ts : List Pair) → ins_besides u (pairs_of gs) ts ≡ into (besides u gs) ts
unfolding ins_besides
besides_into u [] ts = refl
besides_into u (g ∷ gs) ts =
    let go : (t : Bool) → eqb g.off u ≡ t → ins_besides u (pairs_of (g ∷ gs)) ts ≡ ins_besides u (pairs_of gs) (cond t ts (ins (named_by g) ts)) =
    λ t q. ap (λ (x : Bool). ins_besides u (pairs_of gs) (cond x ts (ins (named_by g) ts))) q in
    by_cases (eqb g.off u)
    (λ q. go _ q ∙ besides_into u gs ts ∙ sym (ap (λ (l : List Rec). into l ts) (gone q)))
    (λ q. go _ q ∙ besides_into u gs (ins (named_by g) ts) ∙ sym (ap (λ (l : List Rec). into l ts) (kept q)))
  where
    gone : eqb g.off u ≡ true → besides u (g ∷ gs) ≡ besides u gs
    gone q = rw q

    kept : eqb g.off u ≡ false → besides u (g ∷ gs) ≡ g ∷ besides u gs
    kept q = rw q

rising_besides : (o u : ℕ) (gs : List Rec) → Rising o gs → Rising o (besides u gs)
rising_besides o u [] r = tt
rising_besides o u (g ∷ gs) r =
    let s : Rising (g.off + size g) (besides u gs) = rising_besides (g.off + size g) u gs r.2 in
    by_cases (eqb g.off u) (λ q. rw q (rising_from o (g.off + size g) (besides u gs) (omega (arith, r.0)) s)) (λ q. rw q (r.0, r.1, s))

pub stored_others : (e : Edition) (b : List ℕ) → Ready e b → (p q t : Pair) → p ∷ q ∷ t ∷ [] ≡ best_pairs e b → t.long ≡ 0
    → (u : ℕ) → best_of 4 (besides u (gaps (records e b))) ≡ ins_besides u (in_order p q) (best_of 4 [])
stored_others e b r p q t s z u =
    let l : Rising e.header (gaps (records e b)) = rising_laid e e.header (records e b) (laid_all e b (tiled e b r)) in
    best_into 4 e.header [] (besides u (gaps (records e b))) refl (rising_besides e.header u (gaps (records e b)) l)
    ∙ sym (besides_into u (gaps (records e b)) (best_of 4 []))
    ∙ ap (λ (ps : List Pair). ins_besides u ps (best_of 4 [])) (sym (few_gaps p q (gaps (records e b)) (stored_named e b r p q t s z)))
    ∙ sym (besides_filled u (in_order p q) (best_of 4 []))
