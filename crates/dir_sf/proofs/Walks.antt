-- The walk: what a step shows, and that it meets each entry once.
-- Assumes nothing.
use Prim.Native.Nat.{ℕ, suc, ◌+◌, ◌-◌, ◌≤◌, ◌<◌}
use native.Mathlib.Omega.{arith}
use mathlib.Core.Bool.{true, cond}
use mathlib.Core.Path.{◌≡◌, refl, sym, ◌∙◌, ap, ap₂}
use mathlib.Core.List.{List}
use lib.Dec.{eqb}
use lib.ListN.{length}
use Rattle.std.specs.Prelude.{Result, Ok, Err}
use borrow.Author.Tests.{eq-eqb, ne_eqb}
use Rattle.refusal.specs.declared.Refusal.{Refusal}
use Rattle.refusal.specs.Refusal.{ASKED, number}
use Rattle.refusal.proofs.Passed.{outcome_answered}
use Rattle.be.proofs.Bools.{by_cases}
use Rattle.records.specs.Records.{start, stands}
use Rattle.records.proofs.Starts.{start_above, start_on, start_done, start_fits, stands_here, stands_on, stands_done}
use Rattle.edition.specs.declared.Edition.{Edition}
use Rattle.edition.specs.Edition.{Sane}
use Rattle.dir.specs.declared.Step.{Step}
use Rattle.dir.specs.declared.Seen.TheVariants.{Live, End}
use Rattle.dir_sf.specs.Entry.{SfEntry, entry, size_at, entry_at}
use Rattle.dir_sf.specs.Fork.{count_of, used_width, place_of}
use Rattle.dir_sf.specs.Walk.{end_step, entry_step, place_in, step_in, step_code, step_next, step_seen, walk_step, StepPromise}
use Rattle.dir_sf.specs.Inner.{enough, at_end, at_entry, walked_over, walked_in}
use Rattle.dir.specs.declared.Target.{Target}
use Rattle.dir.specs.Answers.{walked_code, walked_next, walked_seen}
use Rattle.dir_sf.specs.Inode.{verdict, used}
use Rattle.dir_sf.proofs.Tested.{verdict_not}
use Rattle.dir_sf.proofs.Run.{enough_lies, long_at_is}

-- the definition's own terms
pub walk_start : (e : Edition) (u : List ℕ) (w k at place : ℕ) → w ≡ used_width u → k ≡ count_of u → at ≡ 2 + used_width u → walked_over e w u k at place ≡ walked_in e u place
unfolding walked_in
walk_start e u w k at place a b c = rw (a, b, c) refl

pub long_some : (e : Edition) (w : ℕ) (u : List ℕ) (p : ℕ) → 1 ≤ size_at e w u p
long_some e w u p = omega (arith, long_at_is e w u p)

module _ (e : Edition) (w : ℕ) (u : List ℕ) (k p place : ℕ) where
  step_hit : 0 < k → place ≡ p → walked_over e w u k p place ≡ at_entry e w u p
  unfolding walked_over
  step_hit h q =
      let d : place ≡ start (size_at e w u) k p → ⊥ = λ z. omega (arith, start_fits (size_at e w u) k p h, long_some e w u p) in
      rw (stands_here (size_at e w u) place k p h q, ne_eqb place (start (size_at e w u) k p) d) (ap (at_entry e w u) q)

  step_miss : 0 < k → (place ≡ p → ⊥) → walked_over e w u k p place ≡ walked_over e w u (k - 1) (p + size_at e w u p) place
  unfolding walked_over
  step_miss h f = rw (stands_on (size_at e w u) place k p h f, start_on (size_at e w u) k p h) refl

  step_last : k ≤ 0 → walked_over e w u k p place ≡ cond (eqb place p) (at_end place) (Err ASKED)
  unfolding walked_over
  step_last h =
      rw (stands_done (size_at e w u) place k p h, start_done (size_at e w u) k p h) (by_cases (eqb place p) (λ q. rw q refl) (λ q. rw q refl))

-- a turn of the iterator, which is at the entry at p, the first of the k that are left
module _ (e f : Edition) (w : ℕ) (u v : List ℕ) (k k₁ p p₁ x place : ℕ) (a : f ≡ e) (b : v ≡ u) (c : k ≡ suc k₁) (d : x ≡ p) (n : p₁ ≡ p + size_at f w v p) where
  behind : p₁ ≡ p + size_at e w u p
  behind = n ∙ ap₂ (λ (g : Edition) (l : List ℕ). p + size_at g w l p) a b

  pub walk_on : (place ≡ x → ⊥) → walked_over e w u k₁ p₁ place ≡ walked_over e w u k p place
  walk_on h =
      let fewer : k - 1 ≡ k₁ = omega arith in
      sym (step_miss e w u k p place (omega arith) (λ q. h (q ∙ sym d)) ∙ ap₂ (λ (j q : ℕ). walked_over e w u j q place) fewer (sym behind))

  pub walk_hit : (tag : ℕ) (name : List ℕ) (t : Target) → entry_at f w v p ≡ entry tag name t → place ≡ x
      → Ok (record { next = p₁; seen = Live (record { target = t; tag = tag; start = e.literal + (x + 3); len = length name }) }) ≡ walked_over e w u k p place
  unfolding entry_step
  walk_hit tag name t y h =
      let z : entry_at e w u p ≡ entry tag name t = ap₂ (λ (g : Edition) (l : List ℕ). entry_at g w l p) (sym a) (sym b) ∙ y in
      sym (step_hit e w u k p place (omega arith) (h ∙ d)
      ∙ ap₂ (λ (m : ℕ) (s : SfEntry). Ok (record { next = m; seen = Live (record { target = s.target; tag = s.tag; start = e.literal + (p + 3); len = length s.name }) })) (sym behind) z
      ∙ ap (λ (m : ℕ). Ok (record { next = p₁; seen = Live (record { target = t; tag = tag; start = e.literal + (m + 3); len = length name }) })) (sym d))

module _ (e : Edition) (w : ℕ) (u : List ℕ) (k p p₁ place : ℕ) (a : k ≡ 0) (b : p₁ ≡ p) where
  pub walk_end : place ≡ p₁ → Ok (record { next = place; seen = End }) ≡ walked_over e w u k p place
  unfolding end_step
  walk_end h = sym (step_last e w u k p place (omega arith) ∙ rw (eq-eqb place p (h ∙ b)) refl)

  pub walk_off : (place ≡ p₁ → ⊥) → Err ASKED ≡ walked_over e w u k p place
  walk_off h = sym (step_last e w u k p place (omega arith) ∙ rw (ne_eqb place p (λ q. h (q ∙ sym b))) refl)

-- where the entry lies
pub lies_at : (f : Edition) (w : ℕ) (v u : List ℕ) (k p x : ℕ) → v ≡ u → enough f w v k p ≡ true → x ≡ p → x ≤ length u
lies_at f w v u k p x a h d = omega (arith, enough_lies f w v k p h, start_above (size_at f w v) k p, ap length a)

-- ---- the public step

pub step_refused : (e : Edition) (told : ℕ) (b : List ℕ) (place : ℕ) (x : Refusal) → number x ≡ verdict e told b → Err (number x) ≡ walk_step e told b place
unfolding walk_step step_code
step_refused e told b place x h = let z = verdict_not e told b x h in sym (rw (z, z, ← h) refl)

-- in an accepted directory the step is the pass's
pub step_walked : (e : Edition) (told : ℕ) (b : List ℕ) (place : ℕ) → verdict e told b ≡ 0 → walk_step e told b place ≡ walked_in e (used e b) place
unfolding walk_step step_code walked_in walked_over place_in step_in place_of
step_walked e told b place v =
    let u : List ℕ = used e b in
    let size : ℕ → ℕ = size_at e (used_width u) u in
    by_cases (stands size (count_of u) (2 + used_width u) place)
    (λ q. by_cases (eqb place (start size (count_of u) (2 + used_width u))) (λ r. rw (v, q, r) refl) (λ r. rw (v, q, r) refl)) (λ q. rw (v, q) refl)

pub step_stepped : (e : Edition) (sane : Sane e) (told : ℕ) (b u : List ℕ) (place : ℕ) (r : Result Step ℕ) → 0 ≡ verdict e told b → u ≡ used e b
    → r ≡ walked_in e u place → r ≡ walk_step e told b place
step_stepped e sane told b u place r h q k =
    let v : verdict e told b ≡ 0 = sym h in
    k ∙ ap (λ (u : List ℕ). walked_in e u place) q ∙ sym (step_walked e told b place v)

-- a step's number and values
module _ (e : Edition) (told : ℕ) (b : List ℕ) (place : ℕ) where
  code_is : walked_code (walk_step e told b place) ≡ step_code e told b place
  unfolding walk_step
  code_is = outcome_answered (step_code e told b place) (step_in e (used e b) place)

  next_is : walked_next (walk_step e told b place) ≡ step_next e told b place
  unfolding walk_step step_next
  next_is = by_cases (eqb (step_code e told b place) 0) (λ q. rw q refl) (λ q. rw q refl)

  pub seen_is : walked_seen (walk_step e told b place) ≡ step_seen e told b place
  unfolding walk_step step_seen
  seen_is = by_cases (eqb (step_code e told b place) 0) (λ q. rw q refl) (λ q. rw q refl)

-- of the edition that was made
pub step_made : (e f : Edition) (told : ℕ) (b : List ℕ) (place : ℕ) (r : Result Step ℕ) → r ≡ walk_step e told b place → e ≡ f → StepPromise f told b place r
step_made e f told b place r h q =
    let k : r ≡ walk_step f told b place = h ∙ ap (λ (x : Edition). walk_step x told b place) q in
    (k, ap walked_code k ∙ code_is f told b place, ap walked_next k ∙ next_is f told b place, ap walked_seen k ∙ seen_is f told b place)
