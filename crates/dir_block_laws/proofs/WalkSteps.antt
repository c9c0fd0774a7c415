-- The walk's step, read in the block: a gap, a live entry, the end; and which places a walk may stand at.
-- Assumes nothing.
use Prim.Native.Nat.{ℕ, ◌+◌, ◌≤◌, ◌<◌}
use native.Mathlib.Omega.{arith}
use mathlib.Core.Bool.{true, false}
use mathlib.Core.Path.{◌≡◌, refl, sym, ◌∙◌, ap, ap₂, subst}
use mathlib.Core.List.{List, [], ◌∷◌, ◌++◌}
use lib.Dec.{eqb}
use lib.ListN.{length, take, drop, get_or, length-take, take-append-drop, get_or-append}
use lib.Seq.{get_or-drop}
use borrow.Author.Tests.{eq-eqb, ne_eqb}
use Rattle.std.specs.Prelude.{Ok}
use Rattle.be.specs.Lists.{every, some_of, keep}
use Rattle.be.specs.Bytes.{byte, field}
use Rattle.be.proofs.Bools.{every_cons, every_append, and_both, by_cases}
use Rattle.edition.specs.declared.Edition.{Edition}
use Rattle.edition.specs.Edition.{Sane, entry_size}
use Rattle.edition.proofs.Sizes.{entry_size_least}
use Rattle.dir.specs.declared.Seen.{Seen}
use Rattle.dir.specs.declared.Seen.TheVariants.{Live, Gap}
use Rattle.dir.specs.declared.Step.{Step}
use Rattle.dir_block_rules.specs.Record.{Rec, size, gap_start, namelen, target_of}
use Rattle.dir_block_rules.specs.Block.{records, data_end}
use Rattle.dir.specs.Answers.{seen_start, seen_len}
use Rattle.dir.specs.declared.Target.{Target}
use Rattle.dir_block_rules.specs.Lookup.{target_at}
use Rattle.dir_block_rules.specs.Walk.{step_over, step_end, is_place, walk_step}
use Rattle.dir_block_rules.proofs.CutJoin.{Laid, join, laid_back, laid_front}
use Rattle.be.proofs.Splits.{some_at}
use Rattle.dir_block_rules.proofs.RecordPlaces.{off_above, none_at, target_there}
use Rattle.dir_block_rules.proofs.WholeWalk.{step_at, at_end}
use Rattle.dir_block_laws.specs.Tiled.{Tiled, Ready}
use Rattle.dir_block_laws.specs.Pass.{Place, Steps}
use Rattle.dir_block_laws.proofs.RecordSteps.{Here, here, none_left, laid_all, laid_elsewhere, end_is, end_fits, head_end, Next, next, over, place_within}
use Rattle.dir_block_laws.proofs.RecordPass.{says_gap, says_entry}
use Rattle.dir_block_laws.proofs.BestGrows.{elsewhere}
use Rattle.dir_block_laws.proofs.SlotSearch.{tiled}

-- every record, kept
keep_all : (rs : List Rec) → keep (λ r. true) rs ≡ rs
keep_all [] = refl
keep_all (r ∷ rs) = ap (λ (l : List Rec). r ∷ l) (keep_all rs)

before_is : (e : Edition) (q o : ℕ) (xs : List Rec) → Laid e o xs → o + length (join xs) ≤ q → every (elsewhere q) xs ≡ true
before_is e q o xs l h = subst (λ (rs : List Rec). every (elsewhere q) rs ≡ true) (keep_all xs) (laid_elsewhere e o q (λ r. true) xs l h)

behind_is : (e : Edition) (q o : ℕ) (xs : List Rec) → q < o → Laid e o xs → every (elsewhere q) xs ≡ true
behind_is e q o xs h l = subst (λ (rs : List Rec). every (elsewhere q) rs ≡ true) (keep_all xs) (off_above e (λ r. true) q o xs h l)

module _ (e : Edition) (sane : Sane e) (b : List ℕ) (r : Ready e b) where
  t : Tiled e b
  t = tiled e b r

  not_place : (q : ℕ) → (q ≡ data_end b → ⊥) → every (elsewhere q) (records e b) ≡ true → is_place q (data_end b) (records e b) ≡ false
  not_place q h a = rw (ne_eqb q (data_end b) h) (none_at q (records e b) a)

  -- no record starts behind the data's end
  pub beyond : (q : ℕ) → data_end b < q → is_place q (data_end b) (records e b) ≡ false
  beyond q h = not_place q (λ (z : q ≡ data_end b). omega arith) (before_is e q e.header (records e b) (laid_all e b t) (omega (arith, end_is e b t)))

  -- nor before the data's start
  pub too_early : (q : ℕ) → q < e.header → is_place q (data_end b) (records e b) ≡ false
  too_early q h = not_place q (λ (z : q ≡ data_end b). omega (arith, head_end e b t)) (behind_is e q e.header (records e b) h (laid_all e b t))

  pub place_is : (p : ℕ) → Place e b p → is_place p (data_end b) (records e b) ≡ true
  place_is p s = go s.behind refl
    where
      go : (zs : List Rec) → s.behind ≡ zs → is_place p (data_end b) (records e b) ≡ true
      go [] q = rw (eq-eqb p (data_end b) (none_left e b t s.before p (s.all ∙ ap (λ (l : List Rec). s.before ++ l) q) s.place))
      go (y ∷ ys) q =
          let a : records e b ≡ s.before ++ (y ∷ ys) = s.all ∙ ap (λ (l : List Rec). s.before ++ l) q in
          let v : Here e b t s.before y ys p = here e b t s.before y ys p a s.place in
          let found : some_of (λ r. eqb r.off p) (records e b) ≡ true =
          ap (some_of (λ r. eqb r.off p)) a ∙ some_at (λ r. eqb r.off p) s.before y ys (eq-eqb y.off p v.off_is) in
          by_cases (eqb p (data_end b)) (λ z. rw z) (λ z. rw z found)

  -- what may be read at a place before the data's end
  pub place_room : (p : ℕ) → Place e b p → p < data_end b → p + 8 ≤ data_end b
  place_room p s h = let w : Next e b t p s = next e b t p s h in omega (arith, w.stands.fits, w.stands.is_whole.least)

  pub entry_room : (p : ℕ) → Place e b p → p < data_end b → (field p 2 b ≡ 0xffff → ⊥) → p + 11 + byte (p + 8) b + e.ftype ≤ data_end b
  entry_room p s h g =
      let w : Next e b t p s = next e b t p s h in
      omega (arith, w.stands.fits, w.stands.says_is, says_entry e b p (ne_eqb (field p 2 b) 0xffff g), entry_size_least e (byte (p + 8) b))

  abbrev step_to : ℕ → Seen → Step
  step_to p s = record { next = p; seen = s }

  -- no record starts within a record
  none_inside : (p : ℕ) (s : Place e b p) (w : Next e b t p s) (q : ℕ) → p < q → q < p + size w.this → is_place q (data_end b) (records e b) ≡ false
  none_inside p s w q l u =
      let y : Rec = w.this in
      let v : Here e b t s.before y w.later p = w.stands in
      let la : Laid e e.header (s.before ++ (y ∷ w.later)) = subst (λ (rs : List Rec). Laid e e.header rs) w.is (laid_all e b t) in
      let lb : Laid e (e.header + length (join s.before)) (y ∷ w.later) = laid_back e e.header s.before (y ∷ w.later) la in
      let xs : every (elsewhere q) s.before ≡ true = before_is e q e.header s.before (laid_front e e.header s.before (y ∷ w.later) la) (omega (arith, s.place)) in
      let ys : every (elsewhere q) w.later ≡ true = behind_is e q (e.header + length (join s.before) + size y) w.later (omega (arith, s.place)) lb.2 in
      let here' : elsewhere q y ≡ true = rw (ne_eqb y.off q (λ (z : y.off ≡ q). omega (arith, v.off_is))) in
      let al : every (elsewhere q) (s.before ++ (y ∷ w.later)) ≡ true =
      every_append (elsewhere q) s.before (y ∷ w.later) ∙ and_both (every (elsewhere q) s.before) _ xs (every_cons (elsewhere q) y w.later here' ys) in
      not_place q (λ (z : q ≡ data_end b). omega (arith, v.fits)) (subst (λ (rs : List Rec). every (elsewhere q) rs ≡ true) (sym w.is) al)

  goes : (p n : ℕ) (seen : Seen) (s : Place e b p) (w : Next e b t p s) → size w.this ≡ n → (step_over e w.this).seen ≡ seen
      → seen_start seen + seen_len seen ≤ length b → seen_len seen < 256 → Steps e b p (step_to (p + n) seen)
  goes p n seen s w q k nf ns =
      let y : Rec = w.this in
      let v : Here e b t s.before y w.later p = w.stands in
      record {
        says =
            sym (ap (walk_step e b) (sym s.place) ∙ step_at e sane b r.are_bytes r.ok s.before y w.later w.is
            ∙ ap₂ (λ (m : ℕ) (z : Seen). Ok (record { next = m; seen = z })) (ap₂ (λ (i j : ℕ). i + j) v.off_is q) k);
        leads = over e b t p n s w q;
        on = λ (h : p < data_end b). omega (arith, v.is_whole.least);
        within = omega (arith, v.fits);
        none_within = λ q' l u. none_inside p s w q' l (omega arith);
        name_fits = nf;
        name_short = ns;
      }

  pub step_gap : (p n : ℕ) → Place e b p → p < data_end b → field p 2 b ≡ 0xffff → n ≡ field (p + 2) 2 b → Steps e b p (step_to (p + n) Gap)
  step_gap p n s h g f =
      let w : Next e b t p s = next e b t p s h in
      let gs : gap_start (drop p b) ≡ true = eq-eqb (field p 2 b) 0xffff g in
      goes p n Gap s w (w.stands.says_is ∙ says_gap e b p gs ∙ sym f) (rw (w.stands.gap_is ∙ gs)) (omega arith) (omega arith)

  pub step_entry : (p n k : ℕ) (i : Target) → Place e b p → p < data_end b → (field p 2 b ≡ 0xffff → ⊥) → k ≡ byte (p + 8) b → k < 256 → n ≡ entry_size e k → i ≡ target_at e b p
      → Steps e b p (step_to (p + n) (Live (record { target = i; tag = p; start = p + 9; len = k })))
  step_entry p n k i s h g ks kb ns is =
      let w : Next e b t p s = next e b t p s h in
      let y : Rec = w.this in
      let v : Here e b t s.before y w.later p = w.stands in
      let gs : gap_start (drop p b) ≡ false = ne_eqb (field p 2 b) 0xffff g in
      let sz : size y ≡ n = v.says_is ∙ says_entry e b p gs ∙ ap (entry_size e) (sym ks) ∙ sym ns in
      let long : 8 < length y.raw = omega (arith, sz, ns, entry_size_least e k) in
      let off : length (take p b) ≡ y.off = length-take p b ∙ omega (arith, v.off_is, end_fits e b t) in
      let around : b ≡ take p b ++ (y.raw ++ v.rest) = sym (take-append-drop p b) ∙ ap (λ (l : List ℕ). take p b ++ l) v.raw_is in
      let tm : target_of e y ≡ i =
      sym (is ∙ ap₂ (λ (l : List ℕ) (o : ℕ). target_at e l o) around (sym v.off_is) ∙ target_there e (take p b) v.rest y v.is_whole (v.gap_is ∙ gs) off) in
      let ln : namelen y ≡ k =
      sym (get_or-append y.raw v.rest 0 8 long) ∙ ap (λ (l : List ℕ). get_or l 8 0) (sym v.raw_is) ∙ get_or-drop p b 8 0 ∙ sym ks in
      goes p n (Live (record { target = i; tag = p; start = p + 9; len = k })) s w sz
      (rw (v.gap_is ∙ gs) (ap₂ (λ (x : Target) (z : ℕ × ℕ). Live (record { target = x; tag = z.0; start = z.0 + 9; len = z.1 })) tm (ap₂ (λ (x z : ℕ). (x, z)) v.off_is ln)))
      (omega (arith, entry_room p s h g, end_fits e b t)) kb

  pub step_last : (p : ℕ) → Place e b p → data_end b ≤ p → Steps e b p (step_end p)
  step_last p s h =
      let q : p ≡ data_end b = omega (arith, place_within e b t p s) in
      record {
        says = rw q (sym (at_end e sane b r.are_bytes r.ok));
        leads = s;
        on = λ (l : p < data_end b). absurd (omega arith);
        within = omega arith;
        none_within = λ (q' : ℕ) (l : p < q') (u : q' < p). absurd (omega arith);
        name_fits = omega arith;
        name_short = omega arith;
      }
