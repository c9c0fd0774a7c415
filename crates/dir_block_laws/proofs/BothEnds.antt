-- A pass over the records from both ends at once: a record on from the front, one back from the end by its tag, and where the two meet.
-- Assumes nothing.
use Prim.Native.Nat.{ℕ, ◌+◌, ◌-◌, ◌≤◌, ◌<◌}
use native.Mathlib.Nat.{add-zero, le_refl}
use native.Mathlib.Omega.{arith}
use mathlib.Core.Bool.{true, false}
use mathlib.Core.Path.{◌≡◌, refl, sym, ◌∙◌, ap, ap₂, subst}
use mathlib.Core.List.{List, [], ◌∷◌, ◌++◌, append_assoc, append-nil}
use lib.ListN.{length, drop, get_or, length-append}
use lib.Dec.{ltb}
use borrow.Author.Tests.{eq-eqb, ne_eqb, ltb-true, ltb-false}
use Rattle.be.proofs.Bools.{by_cases, keep_append}
use Rattle.be.specs.Lists.{every}
use Rattle.be.specs.Bytes.{field}
use Rattle.edition.specs.declared.Edition.{Edition}
use Rattle.edition.specs.Edition.{entry_size}
use Rattle.dir_block_rules.specs.Record.{Rec, size, is_gap, gap_start, gaps, besides}
use Rattle.dir_block_rules.specs.Block.{records, data_end}
use Rattle.dir_block_rules.specs.Verdict.{Pair, pair}
use Rattle.dir_block_rules.specs.Change.{best_of}
use Rattle.dir_block_rules.proofs.CutJoin.{Laid, join, join_append, laid_front, laid_back}
use Rattle.dir_block_rules.proofs.InsertCases.{Touch, touch, real, unreal}
use Rattle.dir_block_laws.specs.Tiled.{Tiled}
use Rattle.dir_block_laws.specs.BestSoFar.{ins, ins_all, ins_at}
use Rattle.dir_block_laws.specs.Pass.{Place, GapsBefore, GapsUpTo, NextPlace, Scanned}
use Rattle.dir_block_laws.proofs.BestGrows.{best_more, elsewhere, keep_all}
use Rattle.dir_block_laws.proofs.RecordSteps.{Here, Next, next, over, place_start, laid_all, laid_elsewhere}
use Rattle.dir_block_laws.proofs.RecordPass.{gaps_gap, gaps_entry, says_gap, says_entry}
use Rattle.dir_block_laws.proofs.GapsBeside.{Prior, prior_at}
use Rattle.dir_block_laws.proofs.LastGap.{end_place}
use Rattle.dir_block_laws.proofs.TablesJoined.{tables_joined}
use Rattle.dir_block_laws.proofs.FewGaps.{Rising, rising_laid}
use Rattle.dir_block_laws.proofs.PairPlaced.{best_ahead}

-- what lies between two cuts of the same records
between : (e : Edition) (o : ℕ) (xs ys us vs : List Rec) → Laid e o (xs ++ ys) → xs ++ ys ≡ us ++ vs → length (join xs) ≤ length (join us)
    → (ms : List Rec) × (ys ≡ ms ++ vs) × (length (join xs) + length (join ms) ≡ length (join us))
between e o [] ys us vs l q h = (us, q, omega arith)
between e o (x ∷ xs) ys [] vs l q h = absurd (omega (arith, l.1.least, length-append x.raw (join xs)))
between e o (x ∷ xs) ys (u ∷ us) vs l q h =
    let x-u : x ≡ u = cc in
    let r : xs ++ ys ≡ us ++ vs = cc in
    let n : size x ≡ size u = ap (λ (z : Rec). size z) x-u in
    let a : length (x.raw ++ join xs) ≡ size x + length (join xs) = length-append x.raw (join xs) in
    let c : length (u.raw ++ join us) ≡ size u + length (join us) = length-append u.raw (join us) in
    let w = between e (o + size x) xs ys us vs l.2 r (omega arith) in
    (w.0, w.1, omega (arith, w.2))

with_gap : (x : Rec) (ys : List Rec) → is_gap x ≡ true → gaps (x ∷ ys) ≡ x ∷ gaps ys
with_gap x ys h = rw h

no_gap : (x : Rec) (ys : List Rec) → is_gap x ≡ false → gaps (x ∷ ys) ≡ gaps ys
no_gap x ys h = rw h

module _ (e : Edition) (b : List ℕ) (t : Tiled e b) where
  laid_at : (xs ys : List Rec) → records e b ≡ xs ++ ys → Laid e e.header (xs ++ ys)
  laid_at xs ys q = subst (λ (rs : List Rec). Laid e e.header rs) q (laid_all e b t)

  -- the records between two places
  abbrev Between : (o u : ℕ) → Place e b o → Place e b u → Type 0
  Between o u w v = (ms : List Rec) × (w.behind ≡ ms ++ v.behind) × (o + length (join ms) ≡ u)

  places : (o u : ℕ) (w : Place e b o) (v : Place e b u) → o ≤ u → Between o u w v
  places o u w v h =
      let m = between e e.header w.before w.behind v.before v.behind (laid_at w.before w.behind w.all) (sym w.all ∙ v.all) (omega (arith, w.place, v.place)) in
      (m.0, m.1, omega (arith, w.place, v.place, m.2))

  -- two places at one offset: the same records lie behind them
  same_behind : (o : ℕ) (w y : Place e b o) → w.behind ≡ y.behind
  same_behind o w y = go m.0 m.1 m.2
    where
      m : Between o o w y
      m = places o o w y (le_refl o)

      go : (ms : List Rec) → w.behind ≡ ms ++ y.behind → o + length (join ms) ≡ o → w.behind ≡ y.behind
      go [] q n = q
      go (z ∷ ms) q n =
          let l : Laid e (e.header + length (join w.before)) (z ∷ (ms ++ y.behind)) =
          subst (λ (rs : List Rec). Laid e (e.header + length (join w.before)) rs) q
          (laid_back e e.header w.before w.behind (laid_at w.before w.behind w.all)) in
          absurd (omega (arith, l.1.least, length-append z.raw (join ms)))

  -- no place lies within a record
  behind_it : (o u : ℕ) (xs : List Rec) (y : Rec) (ys : List Rec) → Here e b t xs y ys o → e.header + length (join xs) ≡ o → Place e b u → o < u → o + size y ≤ u
  behind_it o u xs y ys s p v h = go m.0 m.1 m.2
    where
      w : Place e b o
      w = record { before = xs; behind = y ∷ ys; all = s.is; place = p }

      m : Between o u w v
      m = places o u w v (omega arith)

      go : (ms : List Rec) → y ∷ ys ≡ ms ++ v.behind → o + length (join ms) ≡ u → o + size y ≤ u
      go [] q n = absurd (omega arith)
      go (z ∷ ms) q n =
          let y-z : y ≡ z = cc in
          omega (arith, ap (λ (r : Rec). size r) y-z, length-append z.raw (join ms))

  -- ---- from the front

  pub front_start : GapsBefore e b e.header (best_of 4 [])
  front_start = record { spot = place_start e b; best = refl }

  is_next : (o n : ℕ) (w : Place e b o) (k : Next e b t o w) → size k.this ≡ n → NextPlace e b o (o + n)
  is_next o n w k q =
      record {
        on = omega (arith, k.stands.is_whole.least, q);
        first = λ u p h. omega (arith, q, behind_it o u w.before k.this k.later k.stands w.place p h);
      }

  pub front_gap : (o n : ℕ) (ps : List Pair) → GapsBefore e b o ps → o < data_end b → field o 2 b ≡ 65535 → field (o + 2) 2 b ≡ n
      → GapsBefore e b (o + n) (ins (pair o n) ps) × NextPlace e b o (o + n)
  front_gap o n ps s h g f =
      let w : Place e b o = s.spot in
      let k : Next e b t o w = next e b t o w h in
      let y : Rec = k.this in
      let v : Here e b t w.before y k.later o = k.stands in
      let gs : gap_start (drop o b) ≡ true = eq-eqb (field o 2 b) 65535 g in
      let n-is : size y ≡ n = v.says_is ∙ says_gap e b o gs ∙ f in
      let lx : Laid e e.header w.before = laid_front e e.header w.before (y ∷ []) v.lies in
      let el : every (elsewhere y.off) (gaps w.before) ≡ true = laid_elsewhere e e.header y.off is_gap w.before lx (omega (arith, w.place, v.off_is)) in (
        record {
          spot = over e b t o n w k n-is;
          best =
              ap (best_of 4) (gaps_gap w.before y (v.gap_is ∙ gs)) ∙ best_more 4 (gaps w.before) y (omega (arith, v.is_whole.least)) el
              ∙ ap₂ ins (ap₂ pair v.off_is n-is) s.best;
        },
        is_next o n w k n-is,
      )

  pub front_entry : (o n : ℕ) (ps : List Pair) → GapsBefore e b o ps → o < data_end b → (field o 2 b ≡ 65535 → ⊥) → entry_size e (get_or b (o + 8) 0) ≡ n
      → GapsBefore e b (o + n) ps × NextPlace e b o (o + n)
  front_entry o n ps s h g f =
      let w : Place e b o = s.spot in
      let k : Next e b t o w = next e b t o w h in
      let v : Here e b t w.before k.this k.later o = k.stands in
      let gs : gap_start (drop o b) ≡ false = ne_eqb (field o 2 b) 65535 g in
      let n-is : size k.this ≡ n = v.says_is ∙ says_entry e b o gs ∙ f in (
        record { spot = over e b t o n w k n-is; best = ap (best_of 4) (gaps_entry w.before k.this (v.gap_is ∙ gs)) ∙ s.best },
        is_next o n w k n-is,
      )

  -- ---- from place v back

  -- as a place
  abbrev pub spot_of : (v u : ℕ) (qs : List Pair) → GapsUpTo e b v u qs → Place e b u
  spot_of v u qs s = record { before = s.before; behind = s.between ++ s.beyond; all = s.all; place = s.place }

  pub back_start : (v : ℕ) → Place e b v → GapsUpTo e b v v (best_of 4 [])
  back_start v w = record { before = w.before; between = []; beyond = w.behind; all = w.all; place = w.place; upto = add-zero v; best = refl }

  -- back over the record that ends at u, by its tag p, from behind a place o
  module _ (o v u p : ℕ) (qs : List Pair) (s : GapsUpTo e b v u qs) (w : Place e b o) (h : o < u) (f : field (u - 2) 2 b ≡ p) where
    tagged : Prior e b t u (spot_of v u qs s) p
    tagged = prior_at e b t u (spot_of v u qs s) p (omega (arith, w.place)) f

    pub back_fits : (o ≤ p) × (p + 8 ≤ u)
    back_fits =
        let r : Prior e b t u (spot_of v u qs s) p = tagged in (
          by_cases (ltb p o)
              (λ z. absurd (omega (arith, r.ends, behind_it p o r.xs r.x (s.between ++ s.beyond) r.at_it r.from w (ltb-true p o z))))
              (λ z. ltb-false p o z),
          omega (arith, r.ends, r.at_it.is_whole.least),
        )

    over_it : p + length (tagged.x.raw ++ join s.between) ≡ v
    over_it = omega (arith, length-append tagged.x.raw (join s.between), tagged.ends, s.upto)

    pub back_gap : field p 2 b ≡ 65535 → GapsUpTo e b v p (ins_at (pair p (u - p)) qs)
    back_gap g =
        let n : size tagged.x ≡ u - p = omega (arith, tagged.ends) in
        let y : is_gap tagged.x ≡ true = tagged.at_it.gap_is ∙ eq-eqb (field p 2 b) 65535 g in
        let xs : List Rec = tagged.xs in
        let ys : List Rec = tagged.x ∷ s.between in
        let at : ℕ = e.header + length (join tagged.xs) in
        let l : Laid e (e.header + length (join tagged.xs)) (tagged.x ∷ s.between) =
        laid_front e at ys s.beyond (laid_back e e.header xs (ys ++ s.beyond) (laid_at xs (ys ++ s.beyond) tagged.at_it.is)) in
        record {
          before = tagged.xs;
          between = tagged.x ∷ s.between;
          beyond = s.beyond;
          all = tagged.at_it.is;
          place = tagged.from;
          upto = over_it;
          best = ap (best_of 4) (with_gap tagged.x s.between y) ∙ best_ahead 4 at tagged.x (gaps s.between) (subst (Rising at) (with_gap tagged.x s.between y) (rising_laid e at ys l))
              ∙ ap₂ ins_at (ap₂ pair tagged.at_it.off_is n) s.best;
        }

    pub back_entry : (field p 2 b ≡ 65535 → ⊥) → GapsUpTo e b v p qs
    back_entry g =
        let y : is_gap tagged.x ≡ false = tagged.at_it.gap_is ∙ ne_eqb (field p 2 b) 65535 g in
        record {
          before = tagged.xs;
          between = tagged.x ∷ s.between;
          beyond = s.beyond;
          all = tagged.at_it.is;
          place = tagged.from;
          upto = over_it;
          best = ap (best_of 4) (no_gap tagged.x s.between y) ∙ s.best;
        }

  -- ---- where they meet

  pub both_met : (o v u : ℕ) (ps qs : List Pair) → GapsBefore e b o ps → GapsUpTo e b v u qs → o ≤ u → u ≤ o → GapsBefore e b v (ins_all qs ps)
  both_met o v u ps qs s r h k =
      let w : Place e b o = s.spot in
      let y : Place e b o = record { before = r.before; behind = r.between ++ r.beyond; all = r.all; place = omega (arith, r.place) } in
      let q : records e b ≡ (w.before ++ r.between) ++ r.beyond =
      w.all ∙ ap (λ (l : List Rec). w.before ++ l) (same_behind o w y) ∙ sym (append_assoc w.before r.between r.beyond) in
      let l : Laid e e.header (w.before ++ r.between) = laid_front e e.header (w.before ++ r.between) r.beyond (laid_at (w.before ++ r.between) r.beyond q) in
      record {
        spot =
            record {
              before = w.before ++ r.between;
              behind = r.beyond;
              all = q;
              place = omega (arith, ap length (join_append w.before r.between), length-append (join w.before) (join r.between), w.place, r.upto);
            };
        best = tables_joined 4 e e.header w.before r.between l ∙ ap₂ ins_all r.best s.best;
      }

  -- ---- at the data's end, and at T

  -- all gaps
  pub all_gaps : (v : ℕ) (ps : List Pair) → v ≡ data_end b → GapsBefore e b v ps → best_of 4 (gaps (records e b)) ≡ ps
  all_gaps v ps d s =
      let w : Place e b v = s.spot in
      ap (λ (l : List Rec). best_of 4 (gaps l)) (w.all ∙ ap (λ (l : List Rec). w.before ++ l) (same_behind v w (end_place e b t v d)) ∙ append-nil w.before) ∙ s.best

  -- T, where there is one
  place_of_t : (u : ℕ) (xs : List Rec) (x : Rec) → records e b ≡ xs ++ (x ∷ []) → x.off ≡ u → Place e b u
  place_of_t u xs x q h =
      record { before = xs; behind = x ∷ []; all = q; place = sym (laid_back e e.header xs (x ∷ []) (laid_at xs (x ∷ []) q)).0 ∙ h }

  module _ (u k : ℕ) (s : Scanned e b [] u k) where
    pub last_place : Place e b u
    last_place = go (touch (data_end b) (records e b))
      where
        go : Touch (data_end b) (records e b) → Place e b u
        go (real xs x q xp xq) = place_of_t u xs x q (sym (ap (λ (r : Rec). r.off) xq) ∙ s.touch_off)
        go (unreal xq) = end_place e b t u (sym s.touch_off ∙ ap (λ (r : Rec). r.off) xq)

    -- the gaps before T are those other than T
    pub all_others : (ps : List Pair) → GapsBefore e b u ps → best_of 4 (besides u (gaps (records e b))) ≡ ps
    unfolding place_of_t
    all_others ps g = go (touch (data_end b) (records e b))
      where
        w : Place e b u
        w = g.spot

        lb : Laid e e.header w.before
        lb = laid_front e e.header w.before w.behind (laid_at w.before w.behind w.all)

        stay : besides u (gaps w.before) ≡ gaps w.before
        stay = keep_all (elsewhere u) (gaps w.before) (laid_elsewhere e e.header u is_gap w.before lb (omega (arith, w.place)))

        -- where no other gap is behind
        done : besides u (gaps w.behind) ≡ [] → best_of 4 (besides u (gaps (records e b))) ≡ ps
        done z =
            ap (λ (l : List Rec). best_of 4 (besides u l)) (ap gaps w.all ∙ keep_append is_gap w.before w.behind)
            ∙ ap (best_of 4) (keep_append (elsewhere u) (gaps w.before) (gaps w.behind) ∙ ap₂ (λ (l m : List Rec). l ++ m) stay z ∙ append-nil (gaps w.before))
            ∙ g.best

        go : Touch (data_end b) (records e b) → best_of 4 (besides u (gaps (records e b))) ≡ ps
        go (real xs x q xp xq) =
            let i : x.off ≡ u = sym (ap (λ (r : Rec). r.off) xq) ∙ s.touch_off in
            done (ap (λ (l : List Rec). besides u (gaps l)) (same_behind u w (place_of_t u xs x q i)) ∙ rw xp (rw (eq-eqb x.off u i)))
        go (unreal xq) =
            done (ap (λ (l : List Rec). besides u (gaps l)) (same_behind u w (end_place e b t u (sym s.touch_off ∙ ap (λ (r : Rec). r.off) xq))))
