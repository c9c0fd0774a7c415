-- A walk over an accepted block meets each record once, in order, and then the end.
-- Assumes nothing.
use Prim.Native.Nat.{ℕ, suc, ◌+◌}
use native.Mathlib.Nat.{add-zero, add_assoc}
use native.Mathlib.Omega.{arith}
use mathlib.Core.Bool.{true, false}
use mathlib.Core.Path.{◌≡◌, refl, sym, ◌∙◌, ap, ap₂, subst}
use mathlib.Core.List.{List, [], ◌∷◌, ◌++◌, map, append_assoc, append-nil}
use lib.Dec.{eqb, ltb}
use lib.ListN.{length, length-append}
use borrow.Author.Tests.{eq-eqb, eqb-true, ne_eqb, lt-ltb}
use Rattle.dir.specs.declared.Step.{Step}
use Rattle.std.specs.Prelude.{Result, Ok, Err}
use Rattle.refusal.specs.Refusal.{ASKED}
use Rattle.be.specs.Lists.{some_of}
use Rattle.be.specs.Bytes.{bytes}
use Rattle.edition.specs.declared.Edition.{Edition}
use Rattle.dir_block_rules.specs.Record.{Rec, size, tag}
use Rattle.dir_block_rules.specs.Block.{records, data_end}
use Rattle.dir_block_rules.specs.Verdict.{Accepted}
use Rattle.dir.specs.Answers.{walked_code, walked_next, walked_seen}
use Rattle.dir_block_rules.specs.Walk.{record_at, step_over, step_end, is_place, step_code, walk_step, walk, step_next, step_seen}
use Rattle.dir_block_rules.specs.Claims.{climbs, Walks, WalkRight}
use Rattle.be.proofs.Bools.{and_both, by_cases}
use Rattle.dir_block_rules.proofs.CutJoin.{join, Laid, join_append, laid_back}
use Rattle.be.proofs.Splits.{some_at}
use Rattle.edition.specs.Edition.{v4, Sane}
use Rattle.edition.proofs.Sizes.{v4_sane}
use Rattle.dir_block_rules.proofs.AcceptedParts.{fit_of, end_of_data, tag_own, raw_part, name_part}

-- a step's number
pub step_is : (e : Edition) (b : List ℕ) (p : ℕ) → walked_code (walk_step e b p) ≡ step_code e b p
unfolding walk_step
step_is e b p = by_cases (eqb (step_code e b p) 0) (λ q. rw q (sym (eqb-true _ _ q))) (λ q. rw q refl)

-- and its values
pub next_is : (e : Edition) (b : List ℕ) (p : ℕ) → walked_next (walk_step e b p) ≡ step_next e b p
unfolding walk_step step_next
next_is e b p = by_cases (eqb (step_code e b p) 0) (λ q. rw q refl) (λ q. rw q refl)

pub seen_is : (e : Edition) (b : List ℕ) (p : ℕ) → walked_seen (walk_step e b p) ≡ step_seen e b p
unfolding walk_step step_seen
seen_is e b p = by_cases (eqb (step_code e b p) 0) (λ q. rw q refl) (λ q. rw q refl)

at_laid : (e : Edition) (o : ℕ) (xs : List Rec) (y : Rec) (ys : List Rec) → Laid e o (xs ++ y ∷ ys) → record_at (o + length (join xs)) (xs ++ y ∷ ys) ≡ y
unfolding record_at
at_laid e o [] y ys l = rw (eq-eqb y.off (o + 0) (omega (arith, l.0)))
at_laid e o (x ∷ xs) y ys l =
    let m : o + length (x.raw ++ join xs) ≡ o + size x + length (join xs) = rw (length-append, add_assoc) in
    subst (λ (p : ℕ). record_at p (x ∷ (xs ++ y ∷ ys)) ≡ y) (sym m)
    (rw (ne_eqb x.off (o + size x + length (join xs)) (λ (z : x.off ≡ o + size x + length (join xs)). omega (arith, l.0, l.1.least)))
    (at_laid e (o + size x) xs y ys l.2))

-- the tags of whole records laid end to end rise
climbs_laid : (e : Edition) (o : ℕ) (rs : List Rec) → Laid e o rs → climbs (map tag rs) ≡ true
unfolding climbs
climbs_laid e o [] l = refl
climbs_laid e o (r ∷ []) l = refl
climbs_laid e o (r ∷ s ∷ rs) l =
    and_both (ltb (tag r) (tag s)) (climbs (tag s ∷ map tag rs))
    (lt-ltb (tag r) (tag s) (omega (arith, l.0, l.1.least, l.1.tagged, l.2.0, l.2.1.tagged)))
    (climbs_laid e (o + size r) (s ∷ rs) l.2)

module _ (e : Edition) (sane : Sane e) (b : List ℕ) (h : bytes b ≡ true) (a : Accepted e b) where
  pub step_at : (xs : List Rec) (y : Rec) (ys : List Rec) → records e b ≡ xs ++ y ∷ ys → walk_step e b (e.header + length (join xs)) ≡ Ok (step_over e y)
  unfolding walk_step step_code
  step_at xs y ys q =
      let p : ℕ = e.header + length (join xs) in
      let l : Laid e e.header (xs ++ y ∷ ys) = subst (λ (r : List Rec). Laid e e.header r) q (fit_of e sane b h a).laid in
      let w : Laid e p (y ∷ ys) = laid_back e e.header xs (y ∷ ys) l in
      let long : length (join (records e b)) ≡ length (join xs) + (size y + length (join ys)) =
      ap (λ (r : List Rec). length (join r)) q ∙ ap length (join_append xs (y ∷ ys)) ∙ length-append (join xs) (y.raw ++ join ys) ∙ ap (λ (m : ℕ). length (join xs) + m) (length-append y.raw (join ys)) in
      let far : eqb p (data_end b) ≡ false = ne_eqb p (data_end b) (λ (z : p ≡ data_end b). omega (arith, end_of_data e sane b h a, long, w.1.least)) in
      let is : some_of (λ r. eqb r.off p) (records e b) ≡ true =
      ap (some_of (λ r. eqb r.off p)) q ∙ some_at (λ r. eqb r.off p) xs y ys (eq-eqb y.off p w.0) in
      let here : record_at p (records e b) ≡ y = ap (record_at p) q ∙ at_laid e e.header xs y ys l in
      rw (a, far, is, here) refl

  -- at the data's end a step says end again
  pub at_end : walk_step e b (data_end b) ≡ Ok (step_end (data_end b))
  unfolding walk_step step_code
  at_end = rw (a, eq-eqb (data_end b) (data_end b) refl) refl

  walk_from : (xs ys : List Rec) → records e b ≡ xs ++ ys
      → walk e b (suc (length ys)) (e.header + length (join xs)) ≡ map (λ r. Ok (step_over e r)) ys ++ (Ok (step_end (data_end b)) ∷ [])
  unfolding walk
  walk_from xs [] q =
      let p : e.header + length (join xs) ≡ data_end b = sym (end_of_data e sane b h a ∙ ap (λ (r : List Rec). e.header + length (join r)) (q ∙ append-nil xs)) in
      rw p (ap (λ (s : Result Step ℕ). s ∷ []) at_end)
  walk_from xs (y ∷ ys) q =
      let s : walk_step e b (e.header + length (join xs)) ≡ Ok (step_over e y) = step_at xs y ys q in
      let w : Laid e (e.header + length (join xs)) (y ∷ ys) = laid_back e e.header xs (y ∷ ys) (subst (λ (r : List Rec). Laid e e.header r) q (fit_of e sane b h a).laid) in
      let nx : y.off + size y ≡ e.header + length (join (xs ++ (y ∷ []))) =
      omega (arith, w.0, ap length (join_append xs (y ∷ [])), length-append (join xs) (y.raw ++ []), ap length (append-nil y.raw)) in
      ap₂ (λ (t : Result Step ℕ) (m : List (Result Step ℕ)). t ∷ m) s
      (ap (λ (t : Result Step ℕ). walk e b (suc (length ys)) (walked_next t)) s ∙ ap (walk e b (suc (length ys))) nx
      ∙ walk_from (xs ++ (y ∷ [])) ys (q ∙ sym (append_assoc xs (y ∷ []) ys)))

  -- as many steps as there are records, plus one
  whole_walk : walk e b (suc (length (records e b))) e.header ≡ map (λ r. Ok (step_over e r)) (records e b) ++ (Ok (step_end (data_end b)) ∷ [])
  whole_walk = ap (walk e b (suc (length (records e b)))) (sym (add-zero e.header)) ∙ walk_from [] (records e b) refl

  elsewhere : (p : ℕ) → is_place p (data_end b) (records e b) ≡ false → walk_step e b p ≡ Err ASKED
  unfolding walk_step step_code
  elsewhere p q = rw (a, q) refl

  pub walks : Walks e b
  walks =
      record {
        whole = whole_walk;
        rises = climbs_laid e e.header (records e b) (fit_of e sane b h a).laid;
        again = at_end;
        names = name_part e sane b h a;
        tags = λ xs r ys q. (sym (tag_own e sane b h a xs r ys q), raw_part e sane b h a xs r ys q);
        elsewhere = elsewhere;
      }

pub walk_right : (e : Edition) → Sane e → WalkRight e
unfolding WalkRight
walk_right e sane b h a = walks e sane b h a

pub v4_walk_right : WalkRight v4
v4_walk_right = walk_right v4 v4_sane
