-- An insert that is done: what is left is good, and its names and numbers are those before and the one.
-- Assumes nothing.
use Prim.Native.Nat.{ℕ, suc, ◌+◌, ◌%◌, ◌≤◌, ◌<◌}
use native.Mathlib.Omega.{arith}
use mathlib.Core.Bool.{Bool, true, false, cond, ◌||◌}
use mathlib.Core.Path.{◌≡◌, refl, sym, ◌∙◌, ap}
use mathlib.Core.List.{List, [], ◌∷◌}
use lib.Dec.{leb, ltb}
use lib.ListN.{length}
use borrow.Author.Tests.{leb-true, lt-ltb, le-ltb}
use Rattle.be.specs.Lists.{every, tally}
use Rattle.edition.specs.declared.Edition.{Edition}
use Rattle.edition.specs.Edition.{entry_size}
use Rattle.name.proofs.Same.{same_name_sym, same_name_trans}
use Rattle.name.specs.Name.{same_name}
use Rattle.dir.specs.declared.Target.{Target}
use Rattle.dir.specs.Target.{kept_of}
use Rattle.be.proofs.Bools.{by_cases, clash, every_head, every_tail, every_cons, neither}
use Rattle.std.specs.Prelude.{Option, Some, None}
use Rattle.dir_sf.specs.Entry.{SfEntry, entry, next_tag, tags_ok, end_tag}
use Rattle.dir_sf.specs.Fork.{holds, once_ok}
use Rattle.dir_sf.specs.Change.{entry_in, target_in, gap_tag, tag_for, put_by, is_free, placed, inserted}
use Rattle.dir_sf.proofs.Names.{fails, once_head, once_tail, once_cons}
use Rattle.dir_sf_edit.proofs.Accepted.{low_le_end}
use Rattle.dir_sf.proofs.Tags.{tagged, untagged}

-- an edition's first tag is a multiple of 8
pub record Tags (e : Edition) : Type 0 where
  pub first_eights : e.first % 8 ≡ 0

-- ---- the tag that there is

pub number_of : Option ℕ → ℕ
number_of (Some tag) = tag
number_of None = 0

pub free_at : (f : Option ℕ) → is_free f ≡ true → f ≡ Some (number_of f)
unfolding number_of
free_at (Some tag) h = refl
free_at None h = absurd (clash h refl)

pub inserted_is : (e : Edition) (told : ℕ) (n : List ℕ) (to : Target) (xs : List SfEntry) → is_free (tag_for e told (length n) xs) ≡ true
    → inserted e told n to xs ≡ placed (entry (number_of (tag_for e told (length n) xs)) n (kept_of e to)) xs
unfolding inserted put_by
inserted_is e told n to xs h = ap (λ (f : Option ℕ). put_by f n (kept_of e to) xs) (free_at (tag_for e told (length n) xs) h)

-- ---- the new entry among the others

pub every_placed : (p : SfEntry → Bool) (y : SfEntry) (xs : List SfEntry) → p y ≡ true → every p xs ≡ true → every p (placed y xs) ≡ true
unfolding placed
every_placed p y [] h k = every_cons p y [] h refl
every_placed p y (x ∷ xs) h k =
    by_cases (ltb y.tag x.tag)
    (λ q. rw q (every_cons p y (x ∷ xs) h k))
    (λ q. rw q (every_cons p x (placed y xs) (every_head p x xs k) (every_placed p y xs h (every_tail p x xs k))))

pub length_placed : (y : SfEntry) (xs : List SfEntry) → length (placed y xs) ≡ suc (length xs)
unfolding placed
length_placed y [] = refl
length_placed y (x ∷ xs) =
    by_cases (ltb y.tag x.tag) (λ q. rw q refl) (λ q. rw q (ap suc (length_placed y xs)))

-- as many that pass a test as before, and the new one: names and numbers, order left out
pub tally_placed : (p : SfEntry → Bool) (y : SfEntry) (xs : List SfEntry) → tally p (placed y xs) ≡ cond (p y) 1 0 + tally p xs
unfolding placed
tally_placed p y [] = refl
tally_placed p y (x ∷ xs) =
    by_cases (ltb y.tag x.tag) (λ q. rw q refl) (λ q. rw q (omega (arith, tally_placed p y xs)))

pub placed_holds : (e : Edition) (m : List ℕ) (y : SfEntry) (xs : List SfEntry) → holds e m (placed y xs) ≡ (same_name e m y.name || holds e m xs)
unfolding placed holds
placed_holds e m y [] = refl
placed_holds e m y (x ∷ xs) =
    by_cases (ltb y.tag x.tag)
    (λ q. rw q refl)
    (λ q.
    by_cases (same_name e m x.name)
    (λ r. rw (q, r) (by_cases (same_name e m y.name) (λ s. rw s refl) (λ s. rw s refl)))
    (λ r. rw (q, r) (placed_holds e m y xs)))

rest_absent : (e : Edition) (n : List ℕ) (x : SfEntry) (xs : List SfEntry) → holds e n (x ∷ xs) ≡ false → holds e n xs ≡ false
unfolding holds
rest_absent e n x xs h = (neither (same_name e n x.name) _ h).1

head_differs : (e : Edition) (n : List ℕ) (x : SfEntry) (xs : List SfEntry) → holds e n (x ∷ xs) ≡ false → same_name e n x.name ≡ false
unfolding holds
head_differs e n x xs h = (neither (same_name e n x.name) _ h).0

other_name : (e : Edition) (m : List ℕ) (y x : SfEntry) (xs : List SfEntry) → holds e y.name (x ∷ xs) ≡ false → same_name e m x.name ≡ true
    → same_name e m y.name ≡ false
other_name e m y x xs h r =
    fails (same_name e m y.name) (same_name e y.name x.name) (λ s. same_name_trans e y.name m x.name (same_name_sym e m y.name s) r) (head_differs e y.name x xs h)

apart_from : (e : Edition) (y x : SfEntry) (xs : List SfEntry) → holds e y.name (x ∷ xs) ≡ false → holds e x.name xs ≡ false
    → holds e x.name (placed y xs) ≡ false
apart_from e y x xs h k =
    rw (placed_holds e x.name y xs, fails (same_name e x.name y.name) (same_name e y.name x.name) (λ s. same_name_sym e x.name y.name s) (head_differs e y.name x xs h)) k

pub placed_once : (e : Edition) (y : SfEntry) (xs : List SfEntry) → holds e y.name xs ≡ false → once_ok e xs ≡ true → once_ok e (placed y xs) ≡ true
unfolding placed
placed_once e y [] h o = once_cons e y [] h o
placed_once e y (x ∷ xs) h o =
    by_cases (ltb y.tag x.tag)
    (λ q. rw q (once_cons e y (x ∷ xs) h o))
    (λ q. rw q (once_cons e x (placed y xs) (apart_from e y x xs h (once_head e x xs o)) (placed_once e y xs (rest_absent e y.name x xs h) (once_tail e x xs o))))

pub placed_target : (e : Edition) (m : List ℕ) (y : SfEntry) (xs : List SfEntry) → holds e y.name xs ≡ false
    → target_in e m (placed y xs) ≡ cond (same_name e m y.name) y.target (target_in e m xs)
unfolding placed entry_in
placed_target e m y [] h = by_cases (same_name e m y.name) (λ q. rw (q, target_in) refl) (λ q. rw (q, target_in) refl)
placed_target e m y (x ∷ xs) h =
    by_cases (ltb y.tag x.tag)
    (λ q. by_cases (same_name e m y.name) (λ r. rw (q, r, target_in) refl) (λ r. rw (q, r, target_in) refl))
    (λ q.
    by_cases (same_name e m x.name)
    (λ r. rw (q, r, other_name e m y x xs h r, target_in) refl)
    (λ r. rw (q, r, target_in) (placed_target e m y xs (rest_absent e y.name x xs h))))

-- ---- the tags

next_eights : (e : Edition) (x : SfEntry) → x.tag % 8 ≡ 0 → next_tag e x % 8 ≡ 0
unfolding next_tag entry_size
next_eights e x h = omega arith

next_more : (e : Edition) (x : SfEntry) → x.tag < next_tag e x
unfolding next_tag entry_size
next_more e x = omega arith

pub end_eights : (e : Edition) (low : ℕ) (xs : List SfEntry) → low % 8 ≡ 0 → tags_ok e low xs ≡ true → end_tag e low xs % 8 ≡ 0
unfolding end_tag
end_eights e low [] h t = h
end_eights e low (x ∷ xs) h t = let g = tagged e low x xs t in end_eights e (next_tag e x) xs (next_eights e x g.eights) g.rest

tags_none : (e : Edition) (low : ℕ) → tags_ok e low [] ≡ true
unfolding tags_ok
tags_none e low = refl

-- at the end
module _ (e : Edition) (y : SfEntry) where
  pub placed_last : (low : ℕ) (xs : List SfEntry) → y.tag % 8 ≡ 0 → tags_ok e low xs ≡ true → end_tag e low xs ≡ y.tag
      → (tags_ok e low (placed y xs) ≡ true) × (end_tag e low (placed y xs) ≡ next_tag e y)
  unfolding placed end_tag
  placed_last low [] m t q = (untagged e low y [] m (omega arith) (tags_none e (next_tag e y)), refl)
  placed_last low (x ∷ xs) m t q =
      let g = tagged e low x xs t in
      let up : next_tag e x ≤ end_tag e (next_tag e x) xs = low_le_end e (next_tag e x) xs g.rest in
      let ge : x.tag ≤ y.tag = omega (arith, next_more e x) in
      let i = placed_last (next_tag e x) xs m g.rest q in (
        rw (le-ltb y.tag x.tag ge) (untagged e low x (placed y xs) g.eights g.least i.0),
        rw (le-ltb y.tag x.tag ge) i.1,
      )

  -- in the lowest gap that holds it
  pub placed_in_gap : (low : ℕ) (xs : List SfEntry) → low % 8 ≡ 0 → tags_ok e low xs ≡ true
      → gap_tag e (entry_size e (length y.name)) low xs ≡ Some y.tag
      → (tags_ok e low (placed y xs) ≡ true) × (end_tag e low (placed y xs) ≡ end_tag e low xs) × (low ≤ y.tag)
  unfolding placed end_tag gap_tag next_tag
  placed_in_gap low [] m t q = absurd (let z : ◌≡◌ {A = ℕ} 0 1 = cc in omega arith)
  placed_in_gap low (x ∷ xs) m t q =
      let long : ℕ = entry_size e (length y.name) in
      let g = tagged e low x xs t in
      by_cases (leb (low + long) x.tag)
      (λ l.
      let a : Some low ≡ Some y.tag = rw l at q in
      let at : low ≡ y.tag = cc in
      let le : low + long ≤ x.tag = leb-true _ _ l in
      let lt : y.tag < x.tag = omega (arith, next_more e y) in
      let nx : next_tag e y ≤ x.tag = omega arith in (
        rw (lt-ltb y.tag x.tag lt)
            (untagged e low y (x ∷ xs) (ap (λ (z : ℕ). z % 8) (sym at) ∙ m) (omega arith) (untagged e (next_tag e y) x xs g.eights nx g.rest)),
        rw (lt-ltb y.tag x.tag lt) refl,
        omega arith,
      ))
      (λ l.
      let i = placed_in_gap (next_tag e x) xs (next_eights e x g.eights) g.rest (rw l at q) in
      let ge : x.tag ≤ y.tag = omega (arith, i.2, g.grows) in (
        rw (le-ltb y.tag x.tag ge) (untagged e low x (placed y xs) g.eights g.least i.0),
        rw (le-ltb y.tag x.tag ge) i.1,
        omega (arith, g.least),
      ))
