-- What the search hands back, and the definition's record that it is made of.
-- Assumes nothing.
use mathlib.Core.Bool.{Bool, true, false, true≢false}
use mathlib.Core.Path.{◌≡◌, refl, sym, ap, ◌∙◌}
use Rattle.std.specs.Prelude.{cond, Option, Some, None, is_some}
use Rattle.dir_block_rules.specs.Lookup.{Sought}
use Rattle.dir_block_lookup.specs.declared.Hit.{Hit}
use Rattle.dir_block_lookup.specs.declared.Search.{Search}
use Rattle.dir_block_lookup.specs.Hit.{found_as}

or_else : Hit → Option Hit → Hit
or_else d (Some h) = h
or_else d None = d

module _ (r : Search) (s : Sought) (q : r ≡ found_as s) where
  pub counts : s.compared ≡ r.compared
  counts = ap (λ (x : Search). x.compared) (sym q)

  -- a slot that is found
  pub hits : (h : Hit) → r.found ≡ Some h → (s.hit ≡ true) × (s.index ≡ h.index) × (s.at ≡ h.at)
  unfolding or_else
  hits h f = go s.hit refl (ap (λ (x : Search). x.found) (sym q) ∙ f)
    where
      go : (t : Bool) → s.hit ≡ t → cond t (Some (record { index = s.index; at = s.at })) None ≡ Some h → (s.hit ≡ true) × (s.index ≡ h.index) × (s.at ≡ h.at)
      go true z e =
          let w = ap (or_else h) e in
          (z, ap (λ (x : Hit). x.index) w, ap (λ (x : Hit). x.at) w)
      go false z e = absurd (true≢false (sym (ap is_some e)))

  -- no slot
  pub misses : ((h : Hit) → r.found ≡ Some h → ⊥) → s.hit ≡ false
  misses f = go s.hit refl (ap (λ (x : Search). x.found) (sym q))
    where
      go : (t : Bool) → s.hit ≡ t → cond t (Some (record { index = s.index; at = s.at })) None ≡ r.found → s.hit ≡ false
      go true z e = absurd (f _ (sym e))
      go false z e = z

  -- whether it hits
  pub hit_is : s.hit ≡ is_some r.found
  hit_is = go s.hit refl ∙ ap (λ (x : Search). is_some x.found) (sym q)
    where
      go : (t : Bool) → s.hit ≡ t → s.hit ≡ is_some {T = Hit} (cond s.hit (Some (record { index = s.index; at = s.at })) None)
      go true e = rw e refl
      go false e = rw e refl
