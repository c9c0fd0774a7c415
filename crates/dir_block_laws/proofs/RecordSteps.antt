-- The records of a block one by one: what stands at the offset where the next one starts.
-- Assumes nothing.
use Prim.Native.Nat.{ℕ, ◌+◌, ◌-◌, ◌*◌, ◌≤◌, ◌<◌}
use native.Mathlib.Nat.{add-zero}
use native.Mathlib.Omega.{arith}
use mathlib.Core.Bool.{Bool, true}
use mathlib.Core.Path.{◌≡◌, refl, sym, ◌∙◌, ap, subst}
use mathlib.Core.List.{List, [], ◌∷◌, ◌++◌, append_assoc, append-nil}
use lib.Dec.{leb}
use lib.ListN.{length, take, drop, length-append}
use lib.Seq.{drop_at}
use borrow.Author.Tests.{leb-true, ne_eqb}
use Rattle.be.specs.Lists.{every, keep}
use Rattle.be.specs.Bytes.{field}
use Rattle.edition.specs.declared.Edition.{Edition}
use Rattle.dir_block_rules.specs.Record.{Rec, size, is_gap, gap_start, says}
use Rattle.dir_block_rules.specs.Block.{records, slots, slot_bytes, stale_of, count_of, data_end}
use Rattle.dir_block_rules.specs.Verdict.{span_ok}
use Rattle.be.proofs.Bools.{by_cases, every_cons, and_right}
use Rattle.dir_block_rules.proofs.CutJoin.{Whole, Laid, join, join_append, laid_back, laid_front, says_append, gap_start_append}
use Rattle.dir_block_rules.proofs.BlockParts.{tail_bytes, build_end, refit, rebuild, room_for as span_room, end_is as span_end}
use Rattle.dir_block_laws.specs.Tiled.{Tiled}
use Rattle.dir_block_laws.specs.Pass.{Place}
use Rattle.dir_block_laws.proofs.BestGrows.{elsewhere}

-- offsets rise, so a record behind stands elsewhere than those before it
pub laid_elsewhere : (e : Edition) (o p : ℕ) (q : Rec → Bool) (xs : List Rec) → Laid e o xs → o + length (join xs) ≤ p → every (elsewhere p) (keep q xs) ≡ true
laid_elsewhere e o p q [] l h = refl
laid_elsewhere e o p q (x ∷ xs) l h =
    let s : length (x.raw ++ join xs) ≡ size x + length (join xs) = length-append x.raw (join xs) in
    let r : every (elsewhere p) (keep q xs) ≡ true = laid_elsewhere e (o + size x) p q xs l.2 (omega arith) in
    by_cases (q x)
    (λ y. rw y (every_cons (elsewhere p) x (keep q xs) (rw (ne_eqb x.off p (λ (z : x.off ≡ p). omega (arith, l.0, l.1.least)))) r))
    (λ y. rw y r)

-- the tail, as the code reads it
pub count_read : (b : List ℕ) (x : ℕ) → x ≡ field (length b - 8) 4 b → x ≡ count_of b
unfolding count_of
count_read b x q = q

pub stale_read : (b : List ℕ) (x : ℕ) → x ≡ field (length b - 4) 4 b → x ≡ stale_of b
unfolding stale_of
stale_read b x q = q

pub end_read : (b : List ℕ) (x : ℕ) → x ≡ count_of b → length b - 8 - 8 * x ≡ data_end b
unfolding data_end
end_read b x q = ap (λ (c : ℕ). length b - 8 - 8 * c) q

abbrev pub place_start : (e : Edition) (b : List ℕ) → Place e b e.header
place_start e b = record { before = []; behind = records e b; all = refl; place = add-zero e.header }

module _ (e : Edition) (b : List ℕ) (t : Tiled e b) where
  pub room_for : e.header + 8 * count_of b + 8 ≤ length b
  room_for = span_room e b t.are_bytes t.span t.wholes

  pub stale_most : stale_of b ≤ count_of b
  unfolding span_ok
  stale_most = leb-true (stale_of b) (count_of b) (and_right (leb (e.header + 8 * count_of b + 8) (length b)) _ t.span)

  pub end_fits : data_end b + 8 * count_of b + 8 ≡ length b
  end_fits = span_end e b t.are_bytes t.span t.wholes

  pub head_end : e.header ≤ data_end b
  unfolding data_end
  head_end = omega (arith, room_for)

  pub laid_all : Laid e e.header (records e b)
  laid_all = (refit e b t.are_bytes t.span t.wholes).laid

  pub end_is : data_end b ≡ e.header + length (join (records e b))
  end_is =
      ap data_end (sym (rebuild e b t.are_bytes t.span t.wholes))
      ∙ build_end e (take e.header b) (records e b) (slots b) (stale_of b) (refit e b t.are_bytes t.span t.wholes)

  -- the record y stands at o, before those of ys
  pub record Here (xs : List Rec) (y : Rec) (ys : List Rec) (o : ℕ) : Type 0 where
    pub is : records e b ≡ xs ++ (y ∷ ys)
    pub off_is : y.off ≡ o
    pub is_whole : Whole e y
    pub says_is : size y ≡ says e (drop o b)
    pub gap_is : is_gap y ≡ gap_start (drop o b)
    pub fits : o + size y ≤ data_end b
    pub place : e.header + length (join (xs ++ (y ∷ []))) ≡ o + size y
    pub lies : Laid e e.header (xs ++ (y ∷ []))
    pub rest : List ℕ
    pub raw_is : drop o b ≡ y.raw ++ rest

  pub here : (xs : List Rec) (y : Rec) (ys : List Rec) (o : ℕ) → records e b ≡ xs ++ (y ∷ ys) → e.header + length (join xs) ≡ o → Here xs y ys o
  here xs y ys o q p =
      let I : List ℕ = slot_bytes (slots b) ++ tail_bytes (length (slots b)) (stale_of b) in
      let R : List ℕ = join ys ++ I in
      let l : Laid e e.header (xs ++ (y ∷ ys)) = subst (λ (r : List Rec). Laid e e.header r) q laid_all in
      let w : Laid e (e.header + length (join xs)) (y ∷ ys) = laid_back e e.header xs (y ∷ ys) l in
      let hd : length (take e.header b) ≡ e.header = (refit e b t.are_bytes t.span t.wholes).head in
      let j : join (records e b) ≡ join xs ++ (y.raw ++ join ys) = ap join q ∙ join_append xs (y ∷ ys) in
      let around : b ≡ take e.header b ++ join xs ++ (y.raw ++ R) =
      sym (rebuild e b t.are_bytes t.span t.wholes) ∙ ap (λ (m : List ℕ). take e.header b ++ (m ++ I)) j ∙ simp append_assoc in
      let d : drop o b ≡ y.raw ++ R =
      ap (drop o) around ∙ drop_at (take e.header b ++ join xs) (y.raw ++ R) o (simp length-append (omega (arith, hd, p))) in
      let s : says e (y.raw ++ R) ≡ says e y.raw = says_append e y.raw R w.1.spans w.1.least in
      let len : length (join (records e b)) ≡ length (join xs) + (size y + length (join ys)) =
      ap length j ∙ length-append (join xs) (y.raw ++ join ys) ∙ ap (λ (m : ℕ). length (join xs) + m) (length-append y.raw (join ys)) in
      let pl : length (join (xs ++ (y ∷ []))) ≡ length (join xs) + size y =
      ap length (join_append xs (y ∷ [])) ∙ length-append (join xs) (y.raw ++ []) ∙ ap (λ (m : List ℕ). length (join xs) + length m) (append-nil y.raw) in
      record {
        is = q;
        off_is = w.0 ∙ p;
        is_whole = w.1;
        says_is = w.1.spans ∙ sym s ∙ ap (says e) (sym d);
        gap_is = sym (gap_start_append y.raw R (omega (arith, w.1.least))) ∙ ap gap_start (sym d);
        fits = omega (arith, end_is, len, p);
        place = omega (arith, pl, p);
        rest = R;
        raw_is = d;
        lies = laid_front e e.header (xs ++ (y ∷ [])) ys (subst (λ (r : List Rec). Laid e e.header r) (sym (append_assoc xs (y ∷ []) ys)) l);
      }

  pub none_left : (xs : List Rec) (o : ℕ) → records e b ≡ xs ++ [] → e.header + length (join xs) ≡ o → o ≡ data_end b
  none_left xs o q p = sym p ∙ ap (λ (r : List Rec). e.header + length (join r)) (sym (q ∙ append-nil xs)) ∙ sym end_is

  pub place_within : (p : ℕ) → Place e b p → p ≤ data_end b
  place_within p s =
      omega (arith, s.place, end_is, ap (λ (rs : List Rec). length (join rs)) s.all, ap length (join_append s.before s.behind), length-append (join s.before) (join s.behind))

  -- the record at a place before the data's end
  pub record Next (p : ℕ) (s : Place e b p) : Type 0 where
    pub this : Rec
    pub later : List Rec
    pub is : records e b ≡ s.before ++ (this ∷ later)
    pub stands : Here s.before this later p

  pub next : (p : ℕ) (s : Place e b p) → p < data_end b → Next p s
  next p s h = go s.behind refl
    where
      go : (zs : List Rec) → s.behind ≡ zs → Next p s
      go [] q = absurd (omega (arith, none_left s.before p (s.all ∙ ap (λ (l : List Rec). s.before ++ l) q) s.place))
      go (y ∷ ys) q =
          let a : records e b ≡ s.before ++ (y ∷ ys) = s.all ∙ ap (λ (l : List Rec). s.before ++ l) q in
          record { this = y; later = ys; is = a; stands = here s.before y ys p a s.place }

  -- the place behind it
  abbrev pub over : (p n : ℕ) (s : Place e b p) (w : Next p s) → size w.this ≡ n → Place e b (p + n)
  over p n s w q =
      record {
        before = s.before ++ (w.this ∷ []);
        behind = w.later;
        all = w.is ∙ sym (append_assoc s.before (w.this ∷ []) w.later);
        place = w.stands.place ∙ ap (λ (m : ℕ). p + m) q;
      }
