-- A walker's own steps are the plain walk's: each record once, then the end.
-- Assumes nothing.
use Prim.Native.Nat.{ℕ, zero, suc, ◌+◌}
use native.Mathlib.Omega.{arith}
use mathlib.Core.Bool.{Bool, true, false, false≢true}
use mathlib.Core.Path.{◌≡◌, refl, sym, ◌∙◌, ap, ap₂}
use mathlib.Core.List.{List, [], ◌∷◌, ◌++◌, map}
use lib.Dec.{eqb}
use Rattle.std.specs.Prelude.{Result, Ok, Err}
use lib.ListN.{length}
use borrow.Author.Tests.{eqb-true}
use Rattle.be.specs.Lists.{every}
use Rattle.be.proofs.Bools.{by_cases, and_left, and_right}
use Rattle.edition.specs.Edition.{v4}
use Rattle.dir.specs.declared.Seen.TheVariants.{Live, Gap, End}
use Rattle.dir.specs.declared.Step.{Step}
use Rattle.dir.specs.Answers.{walked_next}
use Rattle.dir_block_rules.specs.Record.{Rec, is_gap}
use Rattle.dir_block_rules.specs.Block.{records, data_end}
use Rattle.dir_block_rules.specs.Walk.{record_at, entry_of, step_over, step_end, step_code, walk_step, walk}
use Rattle.dir_block_rules.specs.Claims.{Walks, WalkRight}
use Rattle.dir_block_rules.proofs.WholeWalk.{v4_walk_right}
use Rattle.dir_block_walker.specs.Place.{place_after, nth_place, answers}
use Rattle.dir_block_walker.specs.Laws.{WalkerWalks, WalkerRight}

-- a step that is done
unfoldable stepped : Result Step ℕ → Bool
stepped (Ok s) = true
stepped (Err k) = false

-- leads a walker where it leads the plain walk
after_is : (p : ℕ) (s : Result Step ℕ) → stepped s ≡ true → place_after p s ≡ walked_next s
unfolding stepped
after_is p (Ok s) h = refl
after_is p (Err k) h = absurd (false≢true h)

all_stepped : (rs : List Rec) (t : Step) → every stepped (map (λ r. Ok (step_over v4 r)) rs ++ (Ok t ∷ [])) ≡ true
unfolding stepped
all_stepped [] t = refl
all_stepped (r ∷ rs) t = all_stepped rs t

last_of : Result Step ℕ → List (Result Step ℕ) → Result Step ℕ
last_of s [] = s
last_of s (t ∷ ts) = last_of t ts

last_is : (s : Result Step ℕ) (ts : List (Result Step ℕ)) (t : Result Step ℕ) → last_of s (ts ++ (t ∷ [])) ≡ t
unfolding last_of
last_is s [] t = refl
last_is s (u ∷ ts) t = last_is u ts t

module _ (b : List ℕ) where
  -- n steps on from a place, and what they meet
  unfoldable on : ℕ → ℕ → ℕ
  on p zero = p
  on p (suc n) = place_after (on p n) (walk_step v4 b (on p n))

  unfoldable met_from : ℕ → ℕ → List (Result Step ℕ)
  met_from p zero = []
  met_from p (suc n) = met_from p n ++ (walk_step v4 b (on p n) ∷ [])

  nth_on : (n : ℕ) → nth_place b n ≡ on v4.header n
  unfolding nth_place on
  nth_on zero = refl
  nth_on (suc n) = ap (λ (p : ℕ). place_after p (walk_step v4 b p)) (nth_on n)

  answers_met : (n : ℕ) → answers b n ≡ met_from v4.header n
  unfolding answers met_from
  answers_met zero = refl
  answers_met (suc n) = ap₂ (λ (l : List (Result Step ℕ)) (p : ℕ). l ++ (walk_step v4 b p ∷ [])) (answers_met n) (nth_on n)

  -- the first step apart
  on_first : (p n : ℕ) → on p (suc n) ≡ on (place_after p (walk_step v4 b p)) n
  unfolding on
  on_first p zero = refl
  on_first p (suc n) = ap (λ (q : ℕ). place_after q (walk_step v4 b q)) (on_first p n)

  met_first : (p n : ℕ) → met_from p (suc n) ≡ walk_step v4 b p ∷ met_from (place_after p (walk_step v4 b p)) n
  unfolding met_from on
  met_first p zero = refl
  met_first p (suc n) = ap₂ (λ (l : List (Result Step ℕ)) (q : ℕ). l ++ (walk_step v4 b q ∷ [])) (met_first p n) (on_first p n)

  met_walk : (n p : ℕ) → every stepped (walk v4 b n p) ≡ true → met_from p n ≡ walk v4 b n p
  unfolding walk met_from
  met_walk zero p h = refl
  met_walk (suc n) p h =
      met_first p n
      ∙ ap (λ (l : List (Result Step ℕ)). walk_step v4 b p ∷ l)
      (ap (λ (q : ℕ). met_from q n) (after_is p (walk_step v4 b p) (and_left (stepped (walk_step v4 b p)) _ h))
      ∙ met_walk n (walked_next (walk_step v4 b p)) (and_right (stepped (walk_step v4 b p)) _ h))

  -- only at the data's end does a step say end
  seen_not_end : (r : Rec) (p : ℕ) → step_over v4 r ≡ step_end p → ⊥
  seen_not_end r p h =
      let q : (step_over v4 r).seen ≡ End = ap (λ (s : Step). s.seen) h in
      by_cases (is_gap r)
      (λ g. let z : Gap ≡ End = rw g at q in let o : ◌≡◌ {A = ℕ} 0 1 = cc in omega arith)
      (λ g. let z : Live (entry_of v4 r) ≡ End = rw g at q in let o : ◌≡◌ {A = ℕ} 0 1 = cc in omega arith)

  end_there : (p q : ℕ) → walk_step v4 b p ≡ Ok (step_end q) → p ≡ data_end b
  unfolding walk_step
  end_there p q h =
      by_cases (eqb (step_code v4 b p) 0)
      (λ k.
      by_cases (eqb p (data_end b)) (λ m. eqb-true p (data_end b) m)
      (λ m.
      let z : Ok (step_over v4 (record_at p (records v4 b))) ≡ Ok (step_end q) = rw (k, m) at h in
      let y : step_over v4 (record_at p (records v4 b)) ≡ step_end q = cc in absurd (seen_not_end (record_at p (records v4 b)) q y)))
      (λ k. let z : Err (step_code v4 b p) ≡ Ok (step_end q) = rw k at h in let o : ◌≡◌ {A = ℕ} 0 1 = cc in absurd (omega arith))

  module _ (w : Walks v4 b) where
    whole : answers b (suc (length (records v4 b))) ≡ map (λ r. Ok (step_over v4 r)) (records v4 b) ++ (Ok (step_end (data_end b)) ∷ [])
    whole =
        answers_met (suc (length (records v4 b)))
        ∙ met_walk (suc (length (records v4 b))) v4.header (rw w.whole (all_stepped (records v4 b) (step_end (data_end b)))) ∙ w.whole

    last : walk_step v4 b (nth_place b (length (records v4 b))) ≡ Ok (step_end (data_end b))
    unfolding answers
    last =
        let e : Result Step ℕ = Ok (step_end (data_end b)) in
        sym (last_is e (answers b (length (records v4 b))) (walk_step v4 b (nth_place b (length (records v4 b)))))
        ∙ ap (last_of e) whole ∙ last_is e (map (λ r. Ok (step_over v4 r)) (records v4 b)) e

    stays : (k : ℕ) → nth_place b (length (records v4 b) + k) ≡ data_end b
    unfolding nth_place
    stays zero =
        let z : length (records v4 b) + 0 ≡ length (records v4 b) = omega arith in
        ap (nth_place b) z ∙ end_there (nth_place b (length (records v4 b))) (data_end b) last
    stays (suc k) =
        let z : length (records v4 b) + suc k ≡ suc (length (records v4 b) + k) = omega arith in
        ap (nth_place b) z ∙ ap (λ (p : ℕ). place_after p (walk_step v4 b p)) (stays k) ∙ ap (place_after (data_end b)) w.again

    pub walker_walks : WalkerWalks b
    walker_walks = record { whole = whole; stays = stays; again = λ k. ap (walk_step v4 b) (stays k) ∙ w.again }

pub walker_right : WalkerRight
unfolding WalkerRight WalkRight
walker_right b h a = walker_walks b (v4_walk_right b h a)
