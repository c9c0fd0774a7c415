use Prim.Native.Nat.{ℕ}
use mathlib.Core.Path.{◌≡◌}
use mathlib.Core.List.{List}
use Rattle.edition.specs.declared.Edition.{Edition}
use Rattle.dir_block_rules.specs.Change.{remove_code, remove_bytes}
use Rattle.dir_block_edit.proofs.remove.Goals as goal

-- what was done for the edition that was made
remove_made : (e f : Edition) (b n d : List ℕ) (r : ℕ) → e ≡ f → (r ≡ remove_code e b n) × (d ≡ remove_bytes e b n) → (r ≡ remove_code f b n) × (d ≡ remove_bytes f b n)
remove_made e f b n d r q h = rw (← q) h

pub returns : goal.returns
returns c = remove_made _ _ _ _ _ _ c.edition.ensures.0 c.remove_in.ensures
