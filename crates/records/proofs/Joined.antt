-- Records written one after the other and read back, and records that are stored written out again.
-- Assumes nothing.
use Prim.Native.Nat.{ℕ, zero, suc, ◌+◌, ◌-◌, ◌≤◌}
use native.Mathlib.Omega.{arith}
use mathlib.Core.Path.{◌≡◌, refl, sym, ◌∙◌, ap, ap₂}
use mathlib.Core.List.{List, [], ◌∷◌, ◌++◌, append_assoc}
use lib.ListN.{length, drop, length-append}
use lib.Seq.{drop_at, drop-drop, get_or-append-add}
use Rattle.be.specs.Bytes.{byte, part}
use Rattle.be.proofs.Parts.{part_add}
use Rattle.records.specs.Records.{start, places, read_records, joined}
use Rattle.records.proofs.Starts.{start_above}

-- each element
abbrev pub All : {A : Type 0} → (A → Type 0) → List A → Type 0
All P [] = Unit {0}
All P (x ∷ xs) = P x × All P xs

pub all_of : {A : Type 0} (P : A → Type 0) → ((x : A) → P x) → (xs : List A) → All P xs
all_of P h [] = tt
all_of P h (x ∷ xs) = (h x, all_of P h xs)

module _ {A : Type 0} (bytes_of : A → List ℕ) where
  pub joined_append : (xs ys : List A) → joined bytes_of (xs ++ ys) ≡ joined bytes_of xs ++ joined bytes_of ys
  joined_append [] ys = refl
  joined_append (x ∷ xs) ys =
      ap (λ (l : List ℕ). bytes_of x ++ l) (joined_append xs ys) ∙ sym (append_assoc (bytes_of x) (joined bytes_of xs) (joined bytes_of ys))

  regroup : (p : List ℕ) (x : A) (xs : List A) (r : List ℕ) → p ++ (joined bytes_of (x ∷ xs) ++ r) ≡ (p ++ bytes_of x) ++ (joined bytes_of xs ++ r)
  regroup p x xs r = simp append_assoc

  -- records that are as long as they say, whatever stands before and behind them
  module _ (size : List ℕ → ℕ → ℕ) (sized : (p : List ℕ) (x : A) (r : List ℕ) → size (p ++ (bytes_of x ++ r)) (length p) ≡ length (bytes_of x)) where
    after : (p : List ℕ) (x : A) (xs : List A) (r : List ℕ)
        → length p + size (p ++ (joined bytes_of (x ∷ xs) ++ r)) (length p) ≡ length (p ++ bytes_of x)
    after p x xs r =
        let g : p ++ (joined bytes_of (x ∷ xs) ++ r) ≡ p ++ (bytes_of x ++ (joined bytes_of xs ++ r)) = simp append_assoc in
        rw (g, sized p x (joined bytes_of xs ++ r)) (sym (length-append p (bytes_of x)))

    pub joined_ends : (xs : List A) (p r : List ℕ)
        → start (size (p ++ (joined bytes_of xs ++ r))) (length xs) (length p) ≡ length p + length (joined bytes_of xs)
    unfolding start
    joined_ends [] p r = omega arith
    joined_ends (x ∷ xs) p r =
        ap (start (size (p ++ (joined bytes_of (x ∷ xs) ++ r))) (length xs)) (after p x xs r)
        ∙ ap (λ (l : List ℕ). start (size l) (length xs) (length (p ++ bytes_of x))) (regroup p x xs r)
        ∙ joined_ends xs (p ++ bytes_of x) r ∙ simp length-append (omega arith)

    -- and that are what was written
    module _ (read : List ℕ → ℕ → A) (P : A → Type 0) (reads : (p : List ℕ) (x : A) (r : List ℕ) → P x → read (p ++ (bytes_of x ++ r)) (length p) ≡ x) where
      pub joined_read : (xs : List A) (p r : List ℕ) → All P xs
          → read_records (size (p ++ (joined bytes_of xs ++ r))) (read (p ++ (joined bytes_of xs ++ r))) (length xs) (length p) ≡ xs
      unfolding places
      joined_read [] p r h = refl
      joined_read (x ∷ xs) p r h =
          let g : p ++ (joined bytes_of (x ∷ xs) ++ r) ≡ p ++ (bytes_of x ++ (joined bytes_of xs ++ r)) = simp append_assoc in
          let f : List ℕ = p ++ (joined bytes_of (x ∷ xs) ++ r) in
          ap₂ (λ (y : A) (ys : List A). y ∷ ys)
          (ap (λ (l : List ℕ). read l (length p)) g ∙ reads p x (joined bytes_of xs ++ r) h.0)
          (ap (λ (at : ℕ). read_records (size f) (read f) (length xs) at) (after p x xs r)
          ∙ ap (λ (l : List ℕ). read_records (size l) (read l) (length xs) (length (p ++ bytes_of x))) (regroup p x xs r)
          ∙ joined_read xs (p ++ bytes_of x) r h.1)

-- stored records, each of which is written as it is read, written out again are the bytes that were read
module _ {A : Type 0} (bytes_of : A → List ℕ) (f : List ℕ) (size : ℕ → ℕ) (read : ℕ → A)
    (exact : (at : ℕ) → at + size at ≤ length f → part at (size at) f ≡ bytes_of (read at)) where
  pub joined_stored : (n at : ℕ) → start size n at ≤ length f
      → part at (start size n at - at) f ≡ joined bytes_of (read_records size read n at)
  unfolding start places
  joined_stored zero at h = let q : at - at ≡ 0 = omega arith in rw q
  joined_stored (suc n) at h =
      let up : at + size at ≤ start size n (at + size at) = start_above size n (at + size at) in
      let d : start size n (at + size at) - at ≡ size at + (start size n (at + size at) - (at + size at)) = omega arith in
      ap (λ (m : ℕ). part at m f) d ∙ part_add at (size at) (start size n (at + size at) - (at + size at)) f
      ∙ ap₂ (λ (x y : List ℕ). x ++ y) (exact at (omega arith)) (joined_stored n (at + size at) h)

-- records that are as long as they say, written out, are as long as the bytes that they were read from
module _ {A : Type 0} (bytes_of : A → List ℕ) (end : ℕ) (size : ℕ → ℕ) (read : ℕ → A)
    (sized : (at : ℕ) → at + size at ≤ end → length (bytes_of (read at)) ≡ size at) where
  pub joined_long : (n at : ℕ) → start size n at ≤ end → at + length (joined bytes_of (read_records size read n at)) ≡ start size n at
  unfolding start places
  joined_long zero at h = omega arith
  joined_long (suc n) at h =
      let up : at + size at ≤ start size n (at + size at) = start_above size n (at + size at) in
      rw (length-append (bytes_of (read at)) (joined bytes_of (read_records size read n (at + size at))), sized at (omega arith))
      (omega (arith, joined_long n (at + size at) h))

-- what stands behind the bytes p, read from there on
module _ (p d : List ℕ) where
  pub drop_behind : (i o : ℕ) → o ≡ length p + i → drop o (p ++ d) ≡ drop i d
  drop_behind i o q = rw (q, ← drop-drop i (length p) (p ++ d), drop_at p d (length p) refl) refl

  pub byte_behind : (i o : ℕ) → o ≡ length p + i → byte o (p ++ d) ≡ byte i d
  byte_behind i o q = rw q (get_or-append-add p d i 0)
