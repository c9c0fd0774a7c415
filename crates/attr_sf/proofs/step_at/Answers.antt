use Prim.Native.Nat.{ℕ}
use mathlib.Core.Path.{◌≡◌}
use mathlib.Core.List.{List}
use Rattle.std.specs.Prelude.{Result}
use Rattle.edition.specs.declared.Edition.{Edition}
use Rattle.edition.specs.Edition.{v4}
use Rattle.attr_sf.specs.declared.Step.{Step}
use Rattle.attr_sf.specs.Walk.{walk_step, StepPromise}
use Rattle.attr_sf.proofs.WalkSteps.{promised}
use Rattle.attr_sf.proofs.step_at.Goals as goal

-- of the edition that was made
made : {e : Edition} (r : Result Step ℕ) (b : List ℕ) (place : ℕ) → r ≡ walk_step e b place → e ≡ v4 → StepPromise v4 b place r
made r b place h q = promised v4 b place r (rw q at h)

pub returns : goal.returns
returns c = made _ _ _ c.walk_on.ensures c.edition.ensures.0
