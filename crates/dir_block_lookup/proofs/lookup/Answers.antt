use mathlib.Core.Path.{◌≡◌, ◌∙◌, ap}
use mathlib.Core.List.{List}
use Prim.Native.Nat.{ℕ}
use Rattle.edition.specs.declared.Edition.{Edition}
use Rattle.edition.specs.Edition.{v4}
use Rattle.std.specs.Prelude.{Result}
use Rattle.refusal.specs.declared.Refusal.{Refusal}
use Rattle.refusal.specs.Refusal.{numbered}
use Rattle.dir.specs.declared.Looked.{Looked}
use Rattle.dir.specs.Answers.{looked_code, looked_target, looked_tag, looked_compared}
use Rattle.dir_block_rules.specs.Lookup.{lookup, LookupPromise}
use Rattle.dir_block_rules.proofs.LookupRight.{values}
use Rattle.dir_block_lookup.proofs.lookup.Goals as goal

-- of the edition that was made
made : {e : Edition} (r : Result Looked Refusal) (b n : List ℕ) → numbered r ≡ lookup e b n → e ≡ v4
    → LookupPromise v4 b n (numbered r)
made r b n h q =
    let k = rw q at h in
    let v = values v4 b n in
    (k, ap looked_code k ∙ v.0, ap looked_target k ∙ v.1, ap looked_tag k ∙ v.2, ap looked_compared k ∙ v.3)

pub returns : goal.returns
returns c = made _ _ _ c.lookup_in.ensures c.edition.ensures.0
