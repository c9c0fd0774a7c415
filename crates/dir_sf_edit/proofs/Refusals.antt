-- What a removal answers, test by test, and the directory without the entry, from what the search found.
-- Assumes nothing.
use Prim.Native.Nat.{ℕ, ◌+◌, ◌-◌, ◌≤◌}
use native.Mathlib.Omega.{arith}
use mathlib.Core.Bool.{Bool, true, false, not, cond}
use mathlib.Core.Path.{◌≡◌, refl, sym, ◌∙◌, ap, ap₂, subst}
use mathlib.Core.List.{List, [], ◌∷◌}
use lib.ListN.{length}
use borrow.Author.Tests.{not-true, not-false}
use Rattle.refusal.specs.Refusal.{ASKED, FIXED, ABSENT}
use Rattle.be.specs.Bytes.{byte, put}
use Rattle.be.proofs.Bools.{by_cases, clash}
use Rattle.edition.specs.declared.Edition.{Edition}
use Rattle.dir.specs.declared.Target.{Target}
use Rattle.name.specs.Name.{legal_name, same_name, fixed_name}
use Rattle.dir_sf.specs.Entry.{SfEntry, is_wide, wides_of}
use Rattle.dir_sf.specs.Fork.{laid, lay, count_of, stored_wides, parent, entries, holds}
use Rattle.dir_sf.specs.Change.{target_in, removed, remove_request}
use Rattle.dir_sf.specs.Inner.{Readable, seek}
use Rattle.dir_sf_edit.specs.Inner.{without_nth}
use Rattle.dir_sf_edit.proofs.Removes.{removed_length, removed_wide}
use Rattle.dir_sf.proofs.Listed.{count_is}

-- the first entry of the name left out: the one that the search finds
removed_nth : (e : Edition) (n : List ℕ) (xs : List SfEntry) → holds e n xs ≡ true → removed e n xs ≡ without_nth (seek e n xs) xs
unfolding removed holds seek without_nth
removed_nth e n [] h = absurd (clash h refl)
removed_nth e n (x ∷ xs) h =
    by_cases (same_name e n x.name) (λ q. rw q refl) (λ q. rw q (ap (λ (l : List SfEntry). x ∷ l) (removed_nth e n xs (rw q at h))))

module _ (e : Edition) (u n : List ℕ) (r : Readable e u) (there : holds e n (entries e u) ≡ true) (i : Target) (f : i ≡ target_in e n (entries e u)) where
  less : byte 1 u ≡ cond (is_wide i.inode) 1 0 + wides_of (parent u) (removed e n (entries e u))
  unfolding stored_wides
  less =
      r.wides ∙ removed_wide e n (parent u) (entries e u) there
      ∙ ap (λ (z : Target). cond (is_wide z.inode) 1 0 + wides_of (parent u) (removed e n (entries e u))) (sym f)

  pub one_within : cond (is_wide i.inode) 1 0 ≤ byte 1 u
  one_within = omega (arith, less)

  fewer : length (removed e n (entries e u)) ≡ count_of u - 1
  fewer = omega (arith, removed_length e n (entries e u) there, count_is e u)

  module _ (after : ℕ) (g : after ≡ byte 1 u - cond (is_wide i.inode) 1 0) where
    after_is : after ≡ wides_of (parent u) (removed e n (entries e u))
    after_is = omega (arith, less)

    module _ (index : ℕ) (s : index ≡ seek e n (entries e u)) where
      lay_is : laid e (count_of u - 1) after (parent u) (without_nth index (entries e u)) ≡ lay e (parent u) (removed e n (entries e u))
      unfolding lay
      lay_is =
          sym (ap₂ (λ (c₁ c₂ : ℕ). laid e c₁ c₂ (parent u) (removed e n (entries e u))) fewer (sym after_is)
          ∙ ap (laid e (count_of u - 1) after (parent u)) (removed_nth e n (entries e u) there ∙ ap (λ (j : ℕ). without_nth j (entries e u)) (sym s)))

      pub shrink_room : (T : ℕ) → length (lay e (parent u) (removed e n (entries e u))) ≤ T
          → length (laid e (count_of u - 1) after (parent u) (without_nth index (entries e u))) ≤ T
      shrink_room T h = subst (λ (l : List ℕ). length l ≤ T) (sym lay_is) h

      pub shrink_bytes : (t t₁ : List ℕ) → t₁ ≡ put t 0 (laid e (count_of u - 1) after (parent u) (without_nth index (entries e u)))
          → t₁ ≡ put t 0 (lay e (parent u) (removed e n (entries e u)))
      shrink_bytes t t₁ h = h ∙ ap (put t 0) lay_is

      pub shrink_size : (z : ℕ) → z ≡ length (laid e (count_of u - 1) after (parent u) (without_nth index (entries e u)))
          → z ≡ length (lay e (parent u) (removed e n (entries e u)))
      shrink_size z h = h ∙ ap length lay_is

-- ---- the answer

module _ (e : Edition) (n : List ℕ) (xs : List SfEntry) (t₁ : Bool) (h₁ : t₁ ≡ legal_name e n) where
  pub remove_asked : not t₁ ≡ true → ◌≡◌ {A = ℕ} ASKED (remove_request e n xs)
  unfolding remove_request
  remove_asked f = sym (rw (sym h₁ ∙ not-true t₁ f) refl)

  module _ (g₁ : not t₁ ≡ false) (t₂ : Bool) (h₂ : t₂ ≡ fixed_name n) where
    pub remove_fixed : t₂ ≡ true → ◌≡◌ {A = ℕ} FIXED (remove_request e n xs)
    unfolding remove_request
    remove_fixed f = sym (rw (sym h₁ ∙ not-false t₁ g₁, sym h₂ ∙ f) refl)

    module _ (g₂ : t₂ ≡ false) (t₃ : Bool) (h₃ : holds e n xs ≡ not t₃) where
      pub remove_absent : t₃ ≡ true → ◌≡◌ {A = ℕ} ABSENT (remove_request e n xs)
      unfolding remove_request
      remove_absent f = sym (rw (sym h₁ ∙ not-false t₁ g₁, sym h₂ ∙ g₂, h₃, f) refl)

      pub remove_done : t₃ ≡ false → ◌≡◌ {A = ℕ} 0 (remove_request e n xs)
      unfolding remove_request
      remove_done f = sym (rw (sym h₁ ∙ not-false t₁ g₁, sym h₂ ∙ g₂, h₃, f) refl)
