-- T and the other gaps: how the longest of all, and the longest of the others, follow from a survey.
-- Assumes nothing.
use Prim.Native.Nat.{ℕ, ◌+◌, ◌≤◌, ◌<◌}
use native.Mathlib.Omega.{arith}
use mathlib.Core.Bool.{true, cond}
use mathlib.Core.Path.{◌≡◌, refl, sym, ◌∙◌, ap, ap₂, subst}
use mathlib.Core.List.{List, [], ◌∷◌, ◌++◌, append-nil}
use lib.Dec.{ltb}
use lib.ListN.{length}
use borrow.Author.Tests.{lt-ltb, le-ltb}
use Rattle.be.proofs.Bools.{keep_append}
use Rattle.edition.specs.declared.Edition.{Edition}
use Rattle.dir_block_rules.specs.Record.{Rec, size, is_gap, gaps, besides, join}
use Rattle.dir_block_rules.specs.Block.{records, data_end}
use Rattle.dir_block_rules.specs.Room.{room_of, other_gaps, touching}
use Rattle.dir_block_rules.specs.Verdict.{Pair, pair}
use Rattle.dir_block_rules.specs.Change.{longest, best_of}
use Rattle.dir_block_rules.proofs.CutJoin.{Laid, laid_front, laid_back}
use Rattle.dir_block_rules.proofs.InsertCases.{Touch, touch, real, unreal}
use Rattle.dir_block_laws.specs.Tiled.{Tiled}
use Rattle.dir_block_laws.specs.Pass.{Scanned, Surveyed}
use Rattle.dir_block_laws.proofs.BestGrows.{elsewhere, keep_all, longest_more}
use Rattle.dir_block_laws.proofs.RecordSteps.{laid_all, laid_elsewhere, end_is, end_fits}
use Rattle.dir_block_laws.proofs.RecordPass.{gaps_gap}
use Rattle.dir_block_laws.proofs.FewGaps.{Rising, rising_laid, besides_it}
use Rattle.dir_block_laws.proofs.InsertStores.{first_best, other_inside}

pub none_best : (gs : List Rec) → best_of 0 gs ≡ []
unfolding best_of
none_best gs = refl

best_one : (gs : List Rec) → best_of 1 gs ≡ pair (longest gs).off (size (longest gs)) ∷ []
unfolding best_of longest
best_one [] = refl
best_one (g ∷ gs) = refl

module _ (e : Edition) (b : List ℕ) (tl : Tiled e b) where
  -- T is the last record t, behind the records xs
  module _ (xs : List Rec) (t : Rec) (p : records e b ≡ xs ++ (t ∷ [])) (tp : is_gap t ≡ true) where
    laid_so : Laid e e.header (xs ++ (t ∷ []))
    laid_so = subst (λ (l : List Rec). Laid e e.header l) p (laid_all e b tl)

    pub t_laid : Laid e (e.header + length (join xs)) (t ∷ [])
    t_laid = laid_back e e.header xs (t ∷ []) laid_so

    pub t_gaps : gaps (records e b) ≡ gaps xs ++ (t ∷ [])
    t_gaps = ap gaps p ∙ gaps_gap xs t tp

    lx : Laid e e.header xs
    lx = laid_front e e.header xs (t ∷ []) laid_so

    pub t_others : besides t.off (gaps (records e b)) ≡ gaps xs
    t_others =
        ap (besides t.off) t_gaps ∙ keep_append (elsewhere t.off) (gaps xs) (t ∷ [])
        ∙ ap₂ (λ (l m : List Rec). l ++ m) (keep_all (elsewhere t.off) (gaps xs) (laid_elsewhere e e.header t.off is_gap xs lx (omega (arith, t_laid.0))))
        (besides_it t [])
        ∙ append-nil (gaps xs)

    pub t_rises : Rising e.header (gaps xs)
    t_rises = rising_laid e e.header xs lx

    pub t_longest : longest (gaps (records e b)) ≡ cond (ltb (size (longest (gaps xs))) (size t)) t (longest (gaps xs))
    t_longest = ap longest t_gaps ∙ longest_more (gaps xs) t (omega (arith, t_laid.1.least))

  -- T is not there
  pub no_others : besides (data_end b) (gaps (records e b)) ≡ gaps (records e b)
  no_others =
      keep_all (elsewhere (data_end b)) (gaps (records e b))
      (laid_elsewhere e e.header (data_end b) is_gap (records e b) (laid_all e b tl) (omega (arith, end_is e b tl)))

  -- by a survey
  module _ (o l u k : ℕ) (ps : List Pair) (s : Surveyed e b (pair o l ∷ ps) u k) where
    most : ((longest (besides u (gaps (records e b)))).off ≡ o) × (size (longest (besides u (gaps (records e b)))) ≡ l)
    most = first_best (length ps) (besides u (gaps (records e b))) o l ps s.others

    -- the longest gap, with T
    seen : (g : Rec) (v m : ℕ) → longest (gaps (records e b)) ≡ g → g.off ≡ v → size g ≡ m → Scanned e b (pair v m ∷ []) u k
    seen g v m q i j =
        record {
          best = best_one (gaps (records e b)) ∙ ap₂ (λ (x y : ℕ). pair x y ∷ []) (ap (λ (r : Rec). r.off) q ∙ i) (ap size q ∙ j);
          touch_off = s.last.touch_off;
          touch_size = s.last.touch_size;
          touch_end = s.last.touch_end;
          touch_from = s.last.touch_from;
          touch_mod = s.last.touch_mod;
        }

    pub survey_t : l < k → Scanned e b (pair u k ∷ []) u k
    survey_t h = go (touch (data_end b) (records e b))
      where
        go : Touch (data_end b) (records e b) → Scanned e b (pair u k ∷ []) u k
        go (unreal tq) = absurd (omega (arith, s.last.touch_size, ap size tq))
        go (real xs t p tp tq) =
            let i : t.off ≡ u = sym (ap (λ (r : Rec). r.off) tq) ∙ s.last.touch_off in
            let j : size t ≡ k = sym (ap size tq) ∙ s.last.touch_size in
            let f : besides u (gaps (records e b)) ≡ gaps xs = ap (λ (x : ℕ). besides x (gaps (records e b))) (sym i) ∙ t_others xs t p tp in
            seen t u k (t_longest xs t p tp ∙ rw (lt-ltb (size (longest (gaps xs))) (size t) (omega (arith, j, most.1, ap (λ (m : List Rec). size (longest m)) f)))) i j

    pub survey_other : k ≤ l → Scanned e b (pair o l ∷ []) u k
    survey_other h = go (touch (data_end b) (records e b))
      where
        go : Touch (data_end b) (records e b) → Scanned e b (pair o l ∷ []) u k
        go (unreal tq) =
            let f : besides u (gaps (records e b)) ≡ gaps (records e b) =
            ap (λ (x : ℕ). besides x (gaps (records e b))) (sym s.last.touch_off ∙ ap (λ (r : Rec). r.off) tq) ∙ no_others in
            seen (longest (besides u (gaps (records e b)))) o l (ap longest (sym f)) most.0 most.1
        go (real xs t p tp tq) =
            let i : t.off ≡ u = sym (ap (λ (r : Rec). r.off) tq) ∙ s.last.touch_off in
            let j : size t ≡ k = sym (ap size tq) ∙ s.last.touch_size in
            let f : besides u (gaps (records e b)) ≡ gaps xs = ap (λ (x : ℕ). besides x (gaps (records e b))) (sym i) ∙ t_others xs t p tp in
            seen (longest (besides u (gaps (records e b)))) o l
            (t_longest xs t p tp ∙ rw (le-ltb (size (longest (gaps xs))) (size t) (omega (arith, j, most.1, ap (λ (m : List Rec). size (longest m)) f))) (ap longest (sym f)))
            most.0 most.1

    pub survey_next : (n : List ℕ) → ((longest (other_gaps (room_of e b n))).off ≡ o) × (size (longest (other_gaps (room_of e b n))) ≡ l)
    unfolding room_of
    survey_next n =
        let f : besides (touching (data_end b) (records e b)).off (gaps (records e b)) ≡ besides u (gaps (records e b)) =
        ap (λ (x : ℕ). besides x (gaps (records e b))) s.last.touch_off in
        (ap (λ (m : List Rec). (longest m).off) f ∙ most.0, ap (λ (m : List Rec). size (longest m)) f ∙ most.1)

    pub survey_small : (0 < l → o + l ≤ 65536) × (u + k ≤ 65536)
    survey_small = (
      λ h. let w = survey_next [] in let i = other_inside e b [] tl o l h w.0 w.1 in omega (arith, i.upto, end_fits e b tl, tl.short),
      omega (arith, s.last.touch_end, end_fits e b tl, tl.short),
    )
