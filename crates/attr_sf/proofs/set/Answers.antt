use Prim.Native.Nat.{ℕ}
use mathlib.Core.Path.{◌≡◌}
use mathlib.Core.List.{List}
use Rattle.edition.specs.declared.Edition.{Edition}
use Rattle.edition.specs.Edition.{v4}
use Rattle.attr_sf.specs.Calls.{set_code, set_bytes}
use Rattle.attr_sf.proofs.set.Goals as goal

-- of the edition that was made
made : {e : Edition} {r : ℕ} {after : List ℕ} (b name : List ℕ) (flags : ℕ) (value : List ℕ)
    → (r ≡ set_code e b name flags value) × (after ≡ set_bytes e b name flags value) → e ≡ v4
    → (r ≡ set_code v4 b name flags value) × (after ≡ set_bytes v4 b name flags value)
made b name flags value h q = rw (← q) h

pub returns : goal.returns
returns c = made _ _ _ _ c.put_in.ensures c.edition.ensures.0
