-- The search for a name in the used bytes, and what a lookup answers.
-- Assumes nothing.
use Prim.Native.Nat.{ℕ, zero, suc, ◌+◌, ◌<◌}
use native.Mathlib.Omega.{arith}
use mathlib.Core.Bool.{Bool, true, false, not, cond, true≢false}
use mathlib.Core.Path.{◌≡◌, refl, sym, ◌∙◌, ap, ap₂}
use mathlib.Core.List.{List, [], ◌∷◌}
use lib.Dec.{ltb}
use lib.ListN.{length}
use Rattle.std.specs.Prelude.{Option, Some, None, Ok, Err, is_some, IsNone}
use borrow.Author.Tests.{ltb-true, not-true, not-false}
use Rattle.refusal.specs.Refusal.{ASKED, FIXED}
use Rattle.be.specs.Lists.{same}
use Rattle.be.proofs.Bools.{by_cases}
use Rattle.records.specs.Records.{start, places}
use Rattle.edition.specs.declared.Edition.{Edition}
use Rattle.name.specs.Name.{legal_name, same_name}
use Rattle.dir.specs.declared.Looked.TheVariants.{Found, Absent}
use Rattle.dir_sf.specs.declared.Hit.{Hit}
use Rattle.dir.specs.declared.Target.{Target}
use Rattle.dir.specs.Target.{target, kept_of}
use Rattle.dir_sf.specs.Entry.{SfEntry, empty_entry, size_at, entry_at, entries_in}
use Rattle.dir_sf.specs.Fork.{entries, holds, used_width, count_of, place_of}
use Rattle.dir_sf.specs.Change.{entry_in, target_in, tag_in, entry_for}
use Rattle.dir_sf.specs.Inner.{hit_of, hits, missed, seek}
use Rattle.dir_sf.specs.Left.{placed_in, placed, first_hit}
use Rattle.dir_sf.specs.Inode.{looked}
use Rattle.dir_sf.proofs.Tests.{seek_holds}
use Rattle.dir_sf.proofs.Listed.{count_is}

-- the search, by the definition's own terms
hit_walk : (e : Edition) (n : List ℕ) (w : ℕ) (u : List ℕ) (k at i : ℕ) → first_hit e n i (placed_in e w u k at)
    ≡ cond (holds e n (entries_in e w u k at))
    (Some (record { index = i + seek e n (entries_in e w u k at); at = start (size_at e w u) (seek e n (entries_in e w u k at)) at; target = (entry_in e n (entries_in e w u k at)).target; tag = (entry_in e n (entries_in e w u k at)).tag }))
    None
unfolding first_hit placed_in entries_in places holds seek start entry_in
hit_walk e n w u zero at i = refl
hit_walk e n w u (suc k) at i =
    by_cases (same_name e n (entry_at e w u at).name)
    (λ q. let z : i + 0 ≡ i = omega arith in rw (q, z) refl)
    (λ q.
    let xs : List SfEntry = entries_in e w u k (at + size_at e w u at) in
    let z : suc i + seek e n xs ≡ i + suc (seek e n xs) = omega arith in
    rw q (hit_walk e n w u k (at + size_at e w u at) (suc i)
    ∙ ap (λ (j : ℕ). cond (holds e n xs) (Some (record { index = j; at = start (size_at e w u) (seek e n xs) (at + size_at e w u at); target = (entry_in e n xs).target; tag = (entry_in e n xs).tag })) None) z))

pub hits_are : (e : Edition) (n u : List ℕ) (f : Edition) (xs : List (ℕ × SfEntry)) (r : Option Hit) → f ≡ e → xs ≡ placed e u → r ≡ first_hit f n 0 xs → r ≡ hits e n u
unfolding placed hits entries place_of
hits_are e n u f xs r a b h =
    let z : 0 + seek e n (entries e u) ≡ seek e n (entries e u) = omega arith in
    h ∙ ap₂ (λ (y : Edition) (ys : List (ℕ × SfEntry)). first_hit y n 0 ys) a b
    ∙ hit_walk e n (used_width u) u (count_of u) (2 + used_width u) 0
    ∙ ap (λ (j : ℕ). cond (holds e n (entries e u)) (Some (record { index = j; at = place_of e (seek e n (entries e u)) u; target = target_in e n (entries e u); tag = tag_in e n (entries e u) })) None) z

-- where no entry bears the name
seek_none : (e : Edition) (n : List ℕ) (xs : List SfEntry) → holds e n xs ≡ false → (seek e n xs ≡ length xs) × (entry_in e n xs ≡ empty_entry)
unfolding holds seek entry_in
seek_none e n [] h = (refl, refl)
seek_none e n (x ∷ xs) h =
    by_cases (same_name e n x.name)
    (λ q. absurd (true≢false (rw q at h)))
    (λ q. let z = seek_none e n xs (rw q at h) in rw q (ap suc z.0, z.1))

-- what an answer of the search tells
found_or : Hit → Option Hit → Hit
found_or d (Some h) = h
found_or d None = d

module _ (e : Edition) (n u : List ℕ) (r : Option Hit) (told : r ≡ hits e n u) where
  -- whether there is one
  pub hit_some : is_some r ≡ holds e n (entries e u)
  unfolding hits
  hit_some = by_cases (holds e n (entries e u)) (λ q. rw (told, q) refl) (λ q. rw (told, q) refl)

  pub hit_held : (h : Hit) → r ≡ Some h → holds e n (entries e u) ≡ true
  hit_held h f = sym hit_some ∙ ap is_some f

  pub hit_not : r ≡ None → holds e n (entries e u) ≡ false
  hit_not f = sym hit_some ∙ ap is_some f

  -- where there is none, what the definitions say of it
  pub miss_is : IsNone r → hit_of e n u ≡ missed e u
  miss_is h =
      let z = seek_none e n (entries e u) (sym hit_some ∙ h) in
      ap₂ (λ (i : ℕ) (x : SfEntry). record { index = i; at = place_of e i u; target = x.target; tag = x.tag }) (z.0 ∙ count_is e u) z.1

  pub hit_is : (h : Hit) → r ≡ Some h → h ≡ hit_of e n u
  unfolding hits found_or
  hit_is h f =
      let z : Some h ≡ Some (hit_of e n u) = rw (hit_held h f) at (sym f ∙ told) in
      ap (found_or h) z

  pub hit_place : (h : Hit) → r ≡ Some h → h.at ≡ place_of e h.index u
  hit_place h f = let i = hit_is h f in ap (λ (y : Hit). y.at) i ∙ ap (λ (y : Hit). place_of e y.index u) (sym i)

  -- it is one of the entries
  pub hit_index : (h : Hit) → r ≡ Some h → h.index < count_of u
  hit_index h f =
      let s : h.index ≡ seek e n (entries e u) = ap (λ (y : Hit). y.index) (hit_is h f) in
      let t : ltb h.index (count_of u) ≡ true = ap₂ (λ (x y : ℕ). ltb x y) s (sym (count_is e u)) ∙ sym (seek_holds e n (entries e u)) ∙ hit_held h f in
      ltb-true h.index (count_of u) t

-- ---- the answer, test by test

module _ (e : Edition) (n : List ℕ) (p : ℕ) (xs : List SfEntry) (t₁ : Bool) (h₁ : t₁ ≡ legal_name e n) where
  pub look_asked : not t₁ ≡ true → Err ASKED ≡ looked e n p xs
  unfolding looked
  look_asked f = sym (rw (sym h₁ ∙ not-true t₁ f) refl)

  module _ (g₁ : not t₁ ≡ false) (t₂ : Bool) (h₂ : t₂ ≡ same n (46 ∷ [])) where
    pub look_fixed : t₂ ≡ true → Err FIXED ≡ looked e n p xs
    unfolding looked
    look_fixed f = sym (rw (sym h₁ ∙ not-false t₁ g₁, sym h₂ ∙ f) refl)

    module _ (g₂ : t₂ ≡ false) (t₃ : Bool) (h₃ : t₃ ≡ same n (46 ∷ 46 ∷ [])) where
      pub look_parent : (q : ℕ) (j : Target) → t₃ ≡ true → q ≡ p → j ≡ kept_of e (target q 2) → Ok (Found j 0 0) ≡ looked e n p xs
      unfolding looked entry_for
      look_parent q j f h k = sym (rw (sym h₁ ∙ not-false t₁ g₁, sym h₂ ∙ g₂, sym h₃ ∙ f, k, h) refl)

      pub look_absent : (r : Option Hit) (u : List ℕ) → xs ≡ entries e u → t₃ ≡ false → r ≡ hits e n u → r ≡ None → Ok (Absent 0) ≡ looked e n p xs
      unfolding looked
      look_absent r u s f told q =
          sym (rw (sym h₁ ∙ not-false t₁ g₁, sym h₂ ∙ g₂, sym h₃ ∙ f, ap (holds e n) s ∙ hit_not e n u r told q) refl)

      pub look_found : (r : Option Hit) (u : List ℕ) (h : Hit) → xs ≡ entries e u → t₃ ≡ false → r ≡ hits e n u → r ≡ Some h → Ok (Found h.target h.tag 0) ≡ looked e n p xs
      unfolding looked entry_for
      look_found r u h s f told q =
          let i : h ≡ hit_of e n u = hit_is e n u r told h q in
          let j : entry_in e n xs ≡ entry_in e n (entries e u) = ap (entry_in e n) s in
          let k : Found (entry_in e n xs).target (entry_in e n xs).tag 0 ≡ Found h.target h.tag 0 =
          ap (λ (x : SfEntry). Found x.target x.tag 0) j ∙ sym (ap (λ (y : Hit). Found y.target y.tag 0) i) in
          sym (rw (sym h₁ ∙ not-false t₁ g₁, sym h₂ ∙ g₂, sym h₃ ∙ f, ap (holds e n) s ∙ hit_held e n u r told h q) (ap Ok k))
