-- A removal that is done: what is left is good, and its names and numbers are those before less the one.
-- Assumes nothing.
use Prim.Native.Nat.{ℕ, suc, ◌+◌, ◌*◌, ◌^◌, ◌≤◌}
use native.Mathlib.Omega.{arith}
use mathlib.Core.Bool.{Bool, true, false, not, cond}
use mathlib.Core.Path.{◌≡◌, refl, ap}
use mathlib.Core.List.{List, [], ◌∷◌}
use lib.Dec.{ltb}
use lib.ListN.{length}
use borrow.Author.Tests.{le-leb, leb-true, not-true}
use Rattle.be.specs.Lists.{every}
use Rattle.be.proofs.Codes.{passes}
use Rattle.edition.specs.declared.Edition.{Edition}
use Rattle.name.proofs.Same.{same_name_sym, same_name_trans}
use Rattle.name.specs.Name.{legal_name, legal_number, same_name, fixed_name}
use Rattle.be.proofs.Bools.{and_left, and_right, and_both, by_cases, clash, every_head, every_tail, every_cons, neither}
use Rattle.dir.specs.Target.{no_target}
use Rattle.dir_sf.specs.Entry.{SfEntry, is_wide, wides_of, next_tag, tags_ok, end_tag, in_block}
use Rattle.dir_sf.specs.Fork.{name_ok, names_ok, numbers_ok, holds, once_ok}
use Rattle.dir_sf.specs.Change.{entry_in, target_in, removed, remove_request}
use Rattle.dir_sf.proofs.Tags.{tagged, untagged}
use Rattle.dir_sf.proofs.Names.{fails, absent_same, absent_target, once_head, once_tail, once_cons}
use Rattle.dir_sf_edit.proofs.Accepted.{Good}

pub end_lower : (e : Edition) (a b : ℕ) (xs : List SfEntry) → a ≤ b → end_tag e a xs ≤ end_tag e b xs
unfolding end_tag
end_lower e a b [] h = h
end_lower e a b (x ∷ xs) h = omega arith

-- a lower start
pub tags_lower : (e : Edition) (a b : ℕ) (xs : List SfEntry) → a ≤ b → tags_ok e b xs ≡ true → tags_ok e a xs ≡ true
unfolding tags_ok
tags_lower e a b [] h t = refl
tags_lower e a b (x ∷ xs) h t = let g = tagged e b x xs t in untagged e a x xs g.eights (omega arith) g.rest

module _ (e : Edition) (n : List ℕ) where
  pub removed_tags : (low : ℕ) (xs : List SfEntry) → tags_ok e low xs ≡ true → tags_ok e low (removed e n xs) ≡ true
  unfolding removed
  removed_tags low [] t = t
  removed_tags low (x ∷ xs) t =
      let g = tagged e low x xs t in
      by_cases (same_name e n x.name)
      (λ q. rw q (tags_lower e low (next_tag e x) xs (omega arith) g.rest))
      (λ q. rw q (untagged e low x (removed e n xs) g.eights g.least (removed_tags (next_tag e x) xs g.rest)))

  pub removed_end : (low : ℕ) (xs : List SfEntry) → tags_ok e low xs ≡ true → end_tag e low (removed e n xs) ≤ end_tag e low xs
  unfolding removed end_tag
  removed_end low [] t = omega arith
  removed_end low (x ∷ xs) t =
      let g = tagged e low x xs t in
      by_cases (same_name e n x.name)
      (λ q. rw q (end_lower e low (next_tag e x) xs (omega arith)))
      (λ q. rw q (removed_end (next_tag e x) xs g.rest))

  pub removed_length : (xs : List SfEntry) → holds e n xs ≡ true → suc (length (removed e n xs)) ≡ length xs
  unfolding removed holds
  removed_length [] h = absurd (clash h refl)
  removed_length (x ∷ xs) h =
      by_cases (same_name e n x.name) (λ q. rw q refl) (λ q. rw q (ap suc (removed_length xs (rw q at h))))

  pub every_removed : (p : SfEntry → Bool) (xs : List SfEntry) → every p xs ≡ true → every p (removed e n xs) ≡ true
  unfolding removed
  every_removed p [] h = h
  every_removed p (x ∷ xs) h =
      by_cases (same_name e n x.name)
      (λ q. rw q (every_tail p x xs h))
      (λ q. rw q (every_cons p x (removed e n xs) (every_head p x xs h) (every_removed p xs (every_tail p x xs h))))

  removed_holds : (m : List ℕ) (xs : List SfEntry) → holds e m xs ≡ false → holds e m (removed e n xs) ≡ false
  unfolding removed holds
  removed_holds m [] h = h
  removed_holds m (x ∷ xs) h =
      let o = neither (same_name e m x.name) _ h in
      by_cases (same_name e n x.name) (λ q. rw q o.1) (λ q. rw q (rw o.0 (removed_holds m xs o.1)))

  pub removed_once : (xs : List SfEntry) → once_ok e xs ≡ true → once_ok e (removed e n xs) ≡ true
  unfolding removed
  removed_once [] h = h
  removed_once (x ∷ xs) h =
      by_cases (same_name e n x.name)
      (λ q. rw q (once_tail e x xs h))
      (λ q. rw q (once_cons e x (removed e n xs) (removed_holds x.name xs (once_head e x xs h)) (removed_once xs (once_tail e x xs h))))

  -- names and targets: each other name keeps its own, and this one has none
  pub removed_target : (m : List ℕ) (xs : List SfEntry) → once_ok e xs ≡ true
      → target_in e m (removed e n xs) ≡ cond (same_name e m n) no_target (target_in e m xs)
  unfolding removed entry_in
  removed_target m [] o = by_cases (same_name e m n) (λ q. rw q refl) (λ q. rw q refl)
  removed_target m (x ∷ xs) o =
      by_cases (same_name e n x.name)
      (λ q.
      by_cases (same_name e m n)
      (λ s. rw (q, s) (absent_target e m xs (absent_same e x.name m xs (same_name_sym e m x.name (same_name_trans e m n x.name s q)) (once_head e x xs o))))
      (λ s. rw (q, s, fails (same_name e m x.name) (same_name e m n) (λ r. same_name_trans e m x.name n r (same_name_sym e n x.name q)) s, target_in) refl))
      (λ q.
      by_cases (same_name e m x.name)
      (λ r. rw (q, r, fails (same_name e m n) (same_name e n x.name) (λ s. same_name_trans e n m x.name (same_name_sym e m n s) r) q, target_in) refl)
      (λ r. rw (q, r, target_in) (removed_target m xs (once_tail e x xs o))))

  pub removed_held : (m : List ℕ) (xs : List SfEntry) → once_ok e xs ≡ true
      → holds e m (removed e n xs) ≡ cond (same_name e m n) false (holds e m xs)
  unfolding removed holds
  removed_held m [] o = by_cases (same_name e m n) (λ q. rw q refl) (λ q. rw q refl)
  removed_held m (x ∷ xs) o =
      by_cases (same_name e n x.name)
      (λ q.
      by_cases (same_name e m n)
      (λ s. rw (q, s) (absent_same e x.name m xs (same_name_sym e m x.name (same_name_trans e m n x.name s q)) (once_head e x xs o)))
      (λ s. rw (q, s, fails (same_name e m x.name) (same_name e m n) (λ r. same_name_trans e m x.name n r (same_name_sym e n x.name q)) s) refl))
      (λ q.
      by_cases (same_name e m x.name)
      (λ r. rw (q, r, fails (same_name e m n) (same_name e n x.name) (λ s. same_name_trans e n m x.name (same_name_sym e m n s) r) q) refl)
      (λ r. rw (q, r) (removed_held m xs (once_tail e x xs o))))

-- one wide number less, if that entry's is wide
pub removed_wide : (e : Edition) (n : List ℕ) (p : ℕ) (xs : List SfEntry) → holds e n xs ≡ true
    → wides_of p xs ≡ cond (is_wide (target_in e n xs).inode) 1 0 + wides_of p (removed e n xs)
unfolding wides_of removed holds entry_in
removed_wide e n p [] h = absurd (clash h refl)
removed_wide e n p (x ∷ xs) h =
    by_cases (same_name e n x.name) (λ q. rw (q, target_in) (omega arith)) (λ q. rw (q, target_in) (omega (arith, removed_wide e n p xs (rw q at h))))

pub less_in_block : (told a b j k : ℕ) → a ≤ b → j ≤ k → in_block told b k ≡ true → in_block told a j ≡ true
unfolding in_block
less_in_block told a b j k h l t =
    let q : b + 8 * (k + 2) + 8 ≤ told = leb-true _ _ t in
    let r : a + 8 * (j + 2) + 8 ≤ told = omega arith in
    le-leb _ _ r

-- what a removal that is done has passed
pub removes : (e : Edition) (n : List ℕ) (xs : List SfEntry) → remove_request e n xs ≡ 0 → (legal_name e n ≡ true) × (fixed_name n ≡ false) × (holds e n xs ≡ true)
unfolding remove_request
removes e n xs done =
    let a = passes (legal_name e n) 10 _ done in
    let b = passes (not (fixed_name n)) 11 _ a.1 in
    let c = passes (holds e n xs) 12 _ b.1 in
    (a.0, not-true _ b.0, c.0)

module _ (e : Edition) (told p : ℕ) (n : List ℕ) (xs : List SfEntry) (g : Good e told p xs) (done : remove_request e n xs ≡ 0) where
  pub removed_good : Good e told p (removed e n xs)
  unfolding names_ok numbers_ok
  removed_good =
      record {
        tags = removed_tags e n e.first xs g.tags;
        within = less_in_block told _ _ _ _ (removed_end e n e.first xs g.tags) (omega (arith, removed_length e n xs (removes e n xs done).2)) g.within;
        names = every_removed e n (name_ok e) xs g.names;
        numbers = and_both _ _ (and_left (legal_number p) _ g.numbers) (every_removed e n (λ x. legal_number x.target.inode) xs (and_right (legal_number p) _ g.numbers));
        once = removed_once e n xs g.once;
        kinds = every_removed e n (λ x. ltb x.target.kind (256 ^ e.ftype)) xs g.kinds;
      }
