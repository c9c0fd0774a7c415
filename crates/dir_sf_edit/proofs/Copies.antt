-- Entries copied one by one, their numbers in another width.
-- Assumes nothing.
use Prim.Native.Nat.{ℕ, ◌+◌, ◌≤◌}
use native.Mathlib.Omega.{arith}
use mathlib.Core.Path.{◌≡◌, refl, sym, ◌∙◌, ap}
use mathlib.Core.List.{List, [], ◌∷◌}
use lib.ListN.{length, length-append}
use Rattle.be.specs.Bytes.{put}
use Rattle.be.proofs.Writes.{put_nothing, put_next, length_put}
use Rattle.edition.specs.declared.Edition.{Edition}
use Rattle.dir_sf.specs.Entry.{SfEntry, entry_bytes, entries_bytes}
use Rattle.dir_sf_edit.proofs.ReadBack.{length_entry_bytes}

-- all are copied to b₀ at `to`, once what is left is copied to b at o
pub record Copy (e : Edition) (v : ℕ) (b₀ : List ℕ) (to : ℕ) (all : List SfEntry) (b : List ℕ) (o : ℕ) (rest : List SfEntry) : Type 0 where
  pub long : length b ≡ length b₀
  pub place : o + length (entries_bytes e v rest) ≡ to + length (entries_bytes e v all)
  pub wrote : put b o (entries_bytes e v rest) ≡ put b₀ to (entries_bytes e v all)

module _ (e : Edition) (v : ℕ) (b₀ : List ℕ) (to : ℕ) (all : List SfEntry) where
  pub copy_start : (xs : List SfEntry) → xs ≡ all → Copy e v b₀ to all b₀ to xs
  copy_start xs h = rw h (record { long = refl; place = refl; wrote = refl })

  module _ (b : List ℕ) (o : ℕ) (xs : List SfEntry) (s : Copy e v b₀ to all b o xs) where
    module _ (x : SfEntry) (rest : List SfEntry) (h : xs ≡ x ∷ rest) where
      longer : length (entries_bytes e v xs) ≡ length (entry_bytes e v x) + length (entries_bytes e v rest)
      longer = ap (λ (ys : List SfEntry). length (entries_bytes e v ys)) h ∙ length-append (entry_bytes e v x) (entries_bytes e v rest)

      pub copy_room : to + length (entries_bytes e v all) ≤ length b₀ → o + (3 + length x.name + (e.ftype + v)) ≤ length b
      copy_room r = omega (arith, s.long, s.place, longer, length_entry_bytes e v x, r)

      pub copy_on : (b₁ : List ℕ) (o₁ : ℕ) → b₁ ≡ put b o (entry_bytes e v x) → o₁ ≡ o + (3 + length x.name + (e.ftype + v)) → Copy e v b₀ to all b₁ o₁ rest
      copy_on b₁ o₁ f g =
          record {
            long = ap length f ∙ length_put b o _ ∙ s.long;
            place = omega (arith, s.place, longer, length_entry_bytes e v x);
            wrote = ap (λ (l : List ℕ). put l o₁ (entries_bytes e v rest)) f
                ∙ put_next b o₁ o (entry_bytes e v x) (entries_bytes e v rest) (omega (arith, g, length_entry_bytes e v x))
                ∙ ap (λ (ys : List SfEntry). put b o (entries_bytes e v ys)) (sym h) ∙ s.wrote;
          }

    pub copy_bytes : xs ≡ [] → b ≡ put b₀ to (entries_bytes e v all)
    copy_bytes h = sym (put_nothing b o) ∙ ap (λ (ys : List SfEntry). put b o (entries_bytes e v ys)) (sym h) ∙ s.wrote

    pub copy_end : xs ≡ [] → o ≡ to + length (entries_bytes e v all)
    copy_end h = omega (arith, s.place, ap (λ (ys : List SfEntry). length (entries_bytes e v ys)) h)
