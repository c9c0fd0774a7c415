use Prim.Native.Nat.{ℕ}
use mathlib.Core.Path.{◌≡◌}
use mathlib.Core.List.{List}
use Rattle.edition.specs.declared.Edition.{Edition}
use Rattle.edition.specs.Edition.{v4}
use Rattle.attr_sf.specs.Calls.{lookup_code, remove_bytes}
use Rattle.attr_sf.proofs.remove.Goals as goal

-- of the edition that was made
made : {e : Edition} {r : ℕ} {after : List ℕ} (b name : List ℕ) (flags : ℕ) → (r ≡ lookup_code e b name flags) × (after ≡ remove_bytes e b name flags) → e ≡ v4
    → (r ≡ lookup_code v4 b name flags) × (after ≡ remove_bytes v4 b name flags)
made b name flags h q = rw (← q) h

pub returns : goal.returns
returns c = made _ _ _ c.take_out.ensures c.edition.ensures.0
