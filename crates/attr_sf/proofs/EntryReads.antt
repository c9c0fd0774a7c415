-- An entry's name and flags as the code reads them.
-- Assumes nothing.
use Prim.Native.Nat.{ℕ, ◌+◌, ◌-◌}
use native.Mathlib.Nat.{add-sub_cancel_left}
use mathlib.Core.Bool.{Bool, true, false}
use mathlib.Core.Path.{◌≡◌, sym, ◌∙◌, ap}
use mathlib.Core.List.{List}
use lib.Dec.{ltb}
use lib.ListN.{take, drop}
use Rattle.std.specs.Prelude.{Option, is_some}
use borrow.Author.Tests.{eq-eqb, ne_eqb, eqb-true}
use Rattle.be.specs.Lists.{same, some_of}
use Rattle.be.specs.Bytes.{byte}
use Rattle.records.specs.Records.{start, tiled}
use Rattle.attr_sf.specs.Entry.{Entry, is_key}
use Rattle.attr_sf.specs.Fork.{size_at, entry_at, entries, seek}
use Rattle.attr_sf.specs.Inner.{place_before}
use Rattle.attr_sf.proofs.Tiling.{before_some, seek_some}

module _ (f : List ℕ) (at : ℕ) where
  -- the name's bytes
  pub name_part : (k : ℕ) → k ≡ byte at f → take (at + 3 + k - (at + 3)) (drop (at + 3) f) ≡ (entry_at f at).name
  unfolding entry_at
  name_part k e = rw (add-sub_cancel_left (at + 3) k, e)

module _ (x : Entry) where
  module _ (name : List ℕ) (flags : ℕ) {g : ℕ} (e : g ≡ x.flags) where
    pub key_flags : (flags ≡ g → ⊥) → false ≡ is_key name flags x
    unfolding is_key
    key_flags h = rw (ne_eqb flags x.flags (λ q. h (q ∙ sym e)))

    pub key_name : {n : List ℕ} {r : Bool} → flags ≡ g → n ≡ x.name → r ≡ same name n → r ≡ is_key name flags x
    unfolding is_key
    key_name q d h = h ∙ rw (d, eq-eqb flags x.flags (q ∙ e))

  -- its own name and flags, looked for among others
  pub again_test : (f : List ℕ) (end n from : ℕ) {name : List ℕ} {flags : ℕ} {r : Option ℕ} → name ≡ x.name → flags ≡ x.flags
      → r ≡ place_before end (seek f name flags n from) → tiled (size_at f) end n from ≡ true
      → is_some r ≡ some_of (is_key x.name x.flags) (entries f n from)
  again_test f end n from e d h t =
      ap is_some h ∙ before_some end (seek f _ _ n from) ∙ rw (e, d)
      (ap (ltb (seek f x.name x.flags n from)) (sym (eqb-true (start (size_at f) n from) end t)) ∙ seek_some f x.name x.flags n from)
