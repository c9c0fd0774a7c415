use mathlib.Core.Path.{◌≡◌, ◌∙◌, ap}
use mathlib.Core.List.{List}
use Prim.Native.Nat.{ℕ}
use Rattle.edition.specs.declared.Edition.{Edition}
use Rattle.edition.specs.Edition.{v4}
use Rattle.std.specs.Prelude.{Result}
use Rattle.refusal.specs.declared.Refusal.{Refusal}
use Rattle.refusal.specs.Refusal.{numbered}
use Rattle.dir.specs.declared.Step.{Step}
use Rattle.dir.specs.Answers.{walked_code, walked_next, walked_seen}
use Rattle.dir_block_rules.specs.Walk.{walk_step, StepPromise}
use Rattle.dir_block_rules.proofs.WholeWalk.{step_is, next_is, seen_is}
use Rattle.dir_block_lookup.proofs.step.Goals as goal

-- of the edition that was made
made : {e : Edition} (r : Result Step Refusal) (b : List ℕ) (p : ℕ) → numbered r ≡ walk_step e b p → e ≡ v4
    → StepPromise v4 b p (numbered r)
made r b p h q =
    let k = rw q at h in (k, ap walked_code k ∙ step_is v4 b p, ap walked_next k ∙ next_is v4 b p, ap walked_seen k ∙ seen_is v4 b p)

pub returns : goal.returns
returns c = made _ _ _ c.step_in.ensures c.edition.ensures.0
