use Prim.Native.Nat.{ℕ}
use mathlib.Core.Path.{◌≡◌, sym}
use mathlib.Core.List.{List}
use Rattle.std.specs.Prelude.{Result}
use Rattle.edition.specs.declared.Edition.{Edition}
use Rattle.edition.specs.Edition.{v4}
use Rattle.refusal.proofs.Passed.{code_is}
use Rattle.dinode.specs.declared.Fork.{Fork}
use Rattle.attr_sf.specs.Calls.{verdict}
use Rattle.attr_sf.specs.Inner.{fork_if}
use Rattle.attr_sf.proofs.InodeTests.{if_passed, if_refused}
use Rattle.attr_sf.proofs.test.Goals as goal

-- of the edition that was made
made : {e : Edition} {r : Result Fork ℕ} (b : List ℕ) → r ≡ fork_if (verdict e b) e b → e ≡ v4 → r ≡ fork_if (verdict v4 b) v4 b
made b h q = rw (← q) h

pub returns-in_err-tested : goal.returns-in_err-tested
returns-in_err-tested c = code_is _ _ c.from_residual.ensures.1 (if_refused v4 _ _ (made _ c.in_err-tested.ensures c.edition.ensures.0))

pub returns : goal.returns
returns c = sym (if_passed v4 _ _ (made _ c.in_ok-tested.ensures c.edition.ensures.0)).0
