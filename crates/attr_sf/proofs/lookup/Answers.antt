use Prim.Native.Nat.{ℕ}
use mathlib.Core.Path.{◌≡◌}
use mathlib.Core.List.{List}
use Rattle.std.specs.Prelude.{Result}
use Rattle.edition.specs.declared.Edition.{Edition}
use Rattle.edition.specs.Edition.{v4}
use Rattle.attr_sf.specs.declared.Place.{Place}
use Rattle.attr_sf.specs.Calls.{lookup, LookupPromise}
use Rattle.attr_sf.proofs.LookupLaws.{promised}
use Rattle.attr_sf.proofs.lookup.Goals as goal

-- of the edition that was made
made : {e : Edition} (r : Result Place ℕ) (b name : List ℕ) (flags : ℕ) → r ≡ lookup e b name flags → e ≡ v4 → LookupPromise v4 b name flags r
made r b name flags h q = promised v4 b name flags r (rw q at h)

pub returns : goal.returns
returns c = made _ _ _ _ c.look.ensures c.edition.ensures.0
