-- The whole walk.
-- Assumes nothing.
use Prim.Native.Nat.{ℕ, zero, suc, ◌+◌}
use native.Mathlib.Omega.{arith}
use mathlib.Core.Bool.{true}
use mathlib.Core.Path.{◌≡◌, ◌∙◌, ap}
use mathlib.Core.List.{List, [], ◌∷◌, ◌++◌, map}
use borrow.Author.Tests.{eq-eqb, ne_eqb}
use Rattle.records.specs.Records.{start, places, stands}
use Rattle.records.proofs.Starts.{start_above, stands_first, stands_later}
use Rattle.edition.specs.declared.Edition.{Edition}
use Rattle.dinode.specs.Core.{attr_start, attr_fork}
use Rattle.std.specs.Prelude.{Result, Ok}
use Rattle.attr_sf.specs.declared.Step.{Step}
use Rattle.attr_sf.specs.Fork.{header, totsize, count, size_at}
use Rattle.attr_sf.specs.Calls.{verdict}
use Rattle.attr_sf.specs.Walk.{live_step, end_step, step_in, step_code, walk_step, walk}
use Rattle.attr_sf.specs.Laws.{WalkLaw}
use Rattle.attr_sf.proofs.ForkTests.{all_ends}
use Rattle.attr_sf.proofs.InodeTests.{fork_passed}
use Rattle.attr_sf.proofs.Tiling.{three}

module _ (e : Edition) (b : List ℕ) (t : verdict e b ≡ 0) where
  step_end : (at : ℕ) → stands (size_at (attr_fork e b)) (count (attr_fork e b)) header at ≡ true → at ≡ totsize (attr_fork e b) → walk_step e b at ≡ Ok (end_step at)
  unfolding walk_step step_code step_in
  step_end at s q = rw (t, s, eq-eqb at (totsize (attr_fork e b)) q)

  step_live : (at : ℕ) → stands (size_at (attr_fork e b)) (count (attr_fork e b)) header at ≡ true → (at ≡ totsize (attr_fork e b) → ⊥)
      → walk_step e b at ≡ Ok (live_step (attr_start e b) (attr_fork e b) at)
  unfolding walk_step step_code step_in
  step_live at s q = rw (t, s, ne_eqb at (totsize (attr_fork e b)) q)

  walk_stop : (k at : ℕ) → walk_step e b at ≡ Ok (end_step at) → walk e b (suc k) at ≡ Ok (end_step at) ∷ []
  unfolding walk end_step
  walk_stop k at q = rw q

  walk_on : (k at : ℕ) → walk_step e b at ≡ Ok (live_step (attr_start e b) (attr_fork e b) at)
      → walk e b (suc k) at ≡ Ok (live_step (attr_start e b) (attr_fork e b) at) ∷ walk e b k (at + size_at (attr_fork e b) at)
  unfolding walk live_step
  walk_on k at q = rw q

  walks : (n at k : ℕ) → start (size_at (attr_fork e b)) n at ≡ totsize (attr_fork e b)
      → ((x : ℕ) → stands (size_at (attr_fork e b)) n at x ≡ true → stands (size_at (attr_fork e b)) (count (attr_fork e b)) header x ≡ true)
      → walk e b (n + 1 + k) at
      ≡ map (λ (p : ℕ). Ok (live_step (attr_start e b) (attr_fork e b) p)) (places (size_at (attr_fork e b)) n at) ++ (Ok (end_step (totsize (attr_fork e b))) ∷ [])
  unfolding start places
  walks zero at k d h =
      let q : 0 + 1 + k ≡ suc k = omega arith in
      ap (λ (m : ℕ). walk e b m at) q ∙ walk_stop k at (step_end at (h at (stands_first (size_at (attr_fork e b)) 0 at)) d) ∙ ap (λ (p : ℕ). Ok (end_step p) ∷ []) d
  walks (suc n) at k d h =
      let f : List ℕ = attr_fork e b in
      let q : suc n + 1 + k ≡ suc (n + 1 + k) = omega arith in
      let l : walk_step e b at ≡ Ok (live_step (attr_start e b) f at) =
      step_live at (h at (stands_first (size_at f) (suc n) at)) (λ q. omega (arith, three f at, start_above (size_at f) n (at + size_at f at))) in
      ap (λ (m : ℕ). walk e b m at) q ∙ walk_on (n + 1 + k) at l
      ∙ ap (λ (x : List (Result Step ℕ)). Ok (live_step (attr_start e b) f at) ∷ x) (walks n (at + size_at f at) k d (λ x s. h x (stands_later (size_at f) x n at s)))

pub walk_law : (e : Edition) → WalkLaw e
walk_law e b k t = walks e b t (count (attr_fork e b)) header k (all_ends (attr_fork e b) (fork_passed e b t)) (λ x s. s)
