-- Laws of the names asked for and stored: `same_name`, `holds`, `entry_in`.
-- Assumes nothing.
use Prim.Native.Nat.{ℕ}
use mathlib.Core.Bool.{Bool, true, false, not}
use mathlib.Core.Path.{◌≡◌, refl, ap}
use mathlib.Core.List.{List, [], ◌∷◌}
use borrow.Author.Tests.{not-true}
use Rattle.edition.specs.declared.Edition.{Edition}
use Rattle.name.specs.Name.{same_name}
use Rattle.name.proofs.Same.{same_name_trans}
use Rattle.be.proofs.Bools.{and_left, and_right, by_cases, clash, or_right, neither}
use Rattle.dir.specs.Target.{no_target}
use Rattle.dir_sf.specs.Entry.{SfEntry, empty_entry}
use Rattle.dir_sf.specs.Fork.{holds, once_ok}
use Rattle.dir_sf.specs.Change.{entry_in, target_in}

-- a test that would follow fails where its consequence does
pub fails : (a b : Bool) → (a ≡ true → b ≡ true) → b ≡ false → a ≡ false
fails true b f h = absurd (clash (f refl) h)
fails false b f h = refl

-- two names that are the same are held alike
pub holds_same : (e : Edition) (m n : List ℕ) (xs : List SfEntry) → same_name e m n ≡ true → holds e n xs ≡ true → holds e m xs ≡ true
unfolding holds
holds_same e m n [] s h = h
holds_same e m n (x ∷ xs) s h =
    by_cases (same_name e n x.name)
    (λ q. rw (same_name_trans e m n x.name s q) refl)
    (λ q. or_right (same_name e m x.name) _ (holds_same e m n xs s (rw q at h)))

pub absent_same : (e : Edition) (m n : List ℕ) (xs : List SfEntry) → same_name e m n ≡ true → holds e m xs ≡ false → holds e n xs ≡ false
absent_same e m n xs s h = fails (holds e n xs) (holds e m xs) (holds_same e m n xs s) h

-- a name that no entry bears has none
pub absent_entry : (e : Edition) (n : List ℕ) (xs : List SfEntry) → holds e n xs ≡ false → entry_in e n xs ≡ empty_entry
unfolding holds entry_in
absent_entry e n [] h = refl
absent_entry e n (x ∷ xs) h =
    let o = neither (same_name e n x.name) _ h in
    rw o.0 (absent_entry e n xs o.1)

-- and stands for nothing
pub absent_target : (e : Edition) (n : List ℕ) (xs : List SfEntry) → holds e n xs ≡ false → target_in e n xs ≡ no_target
absent_target e n xs h = ap (λ (x : SfEntry). x.target) (absent_entry e n xs h)

pub once_head : (e : Edition) (x : SfEntry) (xs : List SfEntry) → once_ok e (x ∷ xs) ≡ true → holds e x.name xs ≡ false
unfolding once_ok
once_head e x xs h = not-true _ (and_left (not (holds e x.name xs)) _ h)

pub once_tail : (e : Edition) (x : SfEntry) (xs : List SfEntry) → once_ok e (x ∷ xs) ≡ true → once_ok e xs ≡ true
unfolding once_ok
once_tail e x xs h = and_right (not (holds e x.name xs)) _ h

pub once_cons : (e : Edition) (x : SfEntry) (xs : List SfEntry) → holds e x.name xs ≡ false → once_ok e xs ≡ true → once_ok e (x ∷ xs) ≡ true
unfolding once_ok
once_cons e x xs h k = rw h k
