use Prim.Native.Nat.{ℕ}
use mathlib.Core.Path.{◌≡◌}
use mathlib.Core.List.{List}
use Rattle.edition.specs.declared.Edition.{Edition}
use Rattle.dir.specs.declared.Target.{Target}
use Rattle.dir_block_rules.specs.Change.{insert_code, insert_bytes}
use Rattle.dir_block_edit.proofs.insert.Goals as goal

-- what was done for the edition that was made
insert_made : (e f : Edition) (b n d : List ℕ) (i : Target) (r : ℕ) → e ≡ f → (r ≡ insert_code e b n i) × (d ≡ insert_bytes e b n i) → (r ≡ insert_code f b n i) × (d ≡ insert_bytes f b n i)
insert_made e f b n d i r q h = rw (← q) h

pub returns : goal.returns
returns c = insert_made _ _ _ _ _ _ _ c.edition.ensures.0 c.insert_in.ensures
