-- The laws of the changes, at the inode.
-- Assumes nothing.
use Prim.Native.Nat.{ℕ, ◌+◌, ◌*◌, ◌≤◌}
use native.Mathlib.Omega.{arith}
use mathlib.Core.Bool.{Bool, true, false, cond, ◌||◌}
use mathlib.Core.Path.{◌≡◌, refl, sym, ◌∙◌, ap}
use mathlib.Core.List.{List, []}
use lib.ListN.{length}
use borrow.Author.Tests.{le-leb}
use Rattle.be.specs.Lists.{every}
use Rattle.be.specs.Bytes.{bytes}
use Rattle.be.proofs.Bools.{clash}
use Rattle.edition.specs.declared.Edition.{Edition}
use Rattle.edition.specs.Edition.{Sane}
use Rattle.edition.proofs.Sizes.{block_size_bounds}
use Rattle.dir.specs.declared.Target.{Target}
use Rattle.dir.specs.Target.{target, no_target, legal_type, kept_of}
use Rattle.name.specs.Name.{same_name}
use Rattle.dinode.specs.Core.{data_length}
use Rattle.dir_sf.specs.Entry.{SfEntry, entry, width_of, is_wide, wides_of, tags_ok, end_tag, in_block}
use Rattle.dir_sf.specs.Fork.{parent, entries, holds, used_width, lay, lay_fork, names_ok, numbers_ok, once_ok, fork_verdict}
use Rattle.dir_sf.specs.Change.{target_in, tag_for, placed, inserted, removed, remove_request}
use Rattle.dir_sf.specs.Inode.{size_of, used, verdict, insert_code, remove_code, with_entries, insert_bytes, remove_bytes}
use Rattle.dir_sf.proofs.Leaves.{broad}
use Rattle.dir_sf.proofs.Tested.{is_told, wides_known, used_passes, used_bytes, used_bounds}
use Rattle.dir_sf_edit.specs.Laws.{InsertAccepted, RemoveAccepted, Differs, InsertNames, RemoveNames, WideLaid, WideEmpty, WideAccepted, RemoveWide, PutBack}
use Rattle.dir_sf_edit.proofs.ReadBack.{lay_width, lay_entries, lay_parent, length_lay}
use Rattle.dir_sf_edit.proofs.Accepted.{Good, narrow_parent, good_fit, good_parent, used_good, used_spelled, laid_accepted}
use Rattle.dir_sf_edit.proofs.Removes.{removed_good, every_removed, removed_target, removed_held}
use Rattle.dir_sf_edit.proofs.Inserts.{Tags, number_of, inserted_is, every_placed, placed_holds, placed_target}
use Rattle.dir_sf_edit.proofs.Keeps.{inserted_good}
use Rattle.dir_sf_edit.proofs.Changes.{insert_passes, insert_tests, insert_answers, insert_fits, remove_passes, remove_answers, remove_fits, lay_fits}
use Rattle.dir_sf_edit.proofs.Untouched.{long, fork_kept, used_after, verdict_after}
use Rattle.dir_sf_edit.proofs.LeavesBytes.{with_bytes}
use Rattle.dir_sf_edit.proofs.PutBack.{back_in}

tags_of : (e : Edition) → Sane e → Tags e
tags_of e s = record { first_eights = omega (arith, s.first_after, s.header_eights) }

-- what a change leaves: an accepted directory of these entries, the parent, the inode's length and the fork's as before; bytes where the names are bytes
pub record Left (e : Edition) (told : ℕ) (b : List ℕ) (ys : List SfEntry) (c : List ℕ) : Type 0 where
  pub accepted : verdict e told c ≡ 0
  pub read : entries e (used e c) ≡ ys
  pub same_parent : parent (used e c) ≡ parent (used e b)
  pub same_length : length c ≡ length b
  pub same_fork : data_length e c ≡ data_length e b
  pub are_bytes : every (λ x. bytes x.name) ys ≡ true → bytes c ≡ true

module _ (e : Edition) (sane : Sane e) (told : ℕ) (b : List ℕ) (by : bytes b ≡ true) (v : verdict e told b ≡ 0) where
  small : told ≤ 65536
  small = omega (arith, block_size_bounds told (is_told e sane told b v))

  good : Good e told (parent (used e b)) (entries e (used e b))
  good = used_good e told (used e b) (used_bytes e b by) (used_passes e sane told b v)

  spelled : every (λ x. bytes x.name) (entries e (used e b)) ≡ true
  spelled = used_spelled e told (used e b) (used_bytes e b by) (used_passes e sane told b v)

  -- a change to good entries which fit
  left : (ys : List SfEntry) → Good e told (parent (used e b)) ys → length (lay e (parent (used e b)) ys) ≤ data_length e b → Left e told b ys (with_entries e b ys)
  left ys g fits =
      let p : ℕ = parent (used e b) in
      record {
        accepted = verdict_after e sane told b v ys fits (laid_accepted e told p ys small g (data_length e b) fits);
        read = ap (entries e) (used_after e sane told b v ys fits) ∙ lay_entries e p ys (good_fit e told p ys small g);
        same_parent = ap parent (used_after e sane told b v ys fits) ∙ lay_parent e p ys (good_parent e told p ys small g);
        same_length = long e sane told b v ys fits;
        same_fork = fork_kept e sane told b v ys fits;
        are_bytes = λ s. with_bytes e b ys by g.names s (omega (arith, (used_bounds e sane told b v (size_of b) refl).2));
      }

or_cond : (a b : Bool) → (a || b) ≡ cond a true b
or_cond true b = refl
or_cond false b = refl

-- ---- insert

module _ (e : Edition) (sane : Sane e) (told : ℕ) (b n : List ℕ) (to : Target) (by : bytes b ≡ true) (done : insert_code e told b n to ≡ 0) where
  v : verdict e told b ≡ 0
  v = insert_passes e sane told b n to done

  -- the new entry
  abbrev pub newest : SfEntry
  newest = entry (number_of (tag_for e told (length n) (entries e (used e b)))) n (kept_of e to)

  new_is : inserted e told n to (entries e (used e b)) ≡ placed newest (entries e (used e b))
  new_is = inserted_is e told n to (entries e (used e b)) (insert_tests e sane told b n to done).4

  pub insert_left : Left e told b (placed newest (entries e (used e b))) (insert_bytes e told b n to)
  unfolding insert_bytes
  insert_left =
      rw (done, ← new_is)
      (left e sane told b by v (inserted e told n to (entries e (used e b)))
      (inserted_good e (tags_of e sane) told (parent (used e b)) n to (entries e (used e b)) (good e sane told b by v) (data_length e b) sane (insert_answers e sane told b n to done))
      (insert_fits e sane told b n to done))

  pub insert_leaves : bytes n ≡ true → bytes (insert_bytes e told b n to) ≡ true
  insert_leaves s = insert_left.are_bytes (every_placed (λ x. bytes x.name) newest (entries e (used e b)) s (spelled e sane told b by v))

  insert_tells : Differs e b (insert_bytes e told b n to) n true (kept_of e to)
  insert_tells =
      record {
        same_parent = insert_left.same_parent;
        names = λ m. ap (holds e m) insert_left.read ∙ placed_holds e m newest (entries e (used e b)) ∙ or_cond (same_name e m n) (holds e m (entries e (used e b)));
        targets = λ m. ap (target_in e m) insert_left.read ∙ placed_target e m newest (entries e (used e b)) (insert_tests e sane told b n to done).3;
      }

-- ---- removal

module _ (e : Edition) (sane : Sane e) (told : ℕ) (b n : List ℕ) (by : bytes b ≡ true) (done : remove_code e told b n ≡ 0) where
  u : verdict e told b ≡ 0
  u = remove_passes e sane told b n done

  pub remove_left : Left e told b (removed e n (entries e (used e b))) (remove_bytes e told b n)
  unfolding remove_bytes
  remove_left =
      rw done
      (left e sane told b by u (removed e n (entries e (used e b)))
      (removed_good e told (parent (used e b)) n (entries e (used e b)) (good e sane told b by u) (remove_answers e sane told b n done))
      (remove_fits e sane told b n done))

  pub remove_leaves : bytes (remove_bytes e told b n) ≡ true
  remove_leaves = remove_left.are_bytes (every_removed e n (λ x. bytes x.name) (entries e (used e b)) (spelled e sane told b by u))

  remove_tells : Differs e b (remove_bytes e told b n) n false no_target
  remove_tells =
      record {
        same_parent = remove_left.same_parent;
        names = λ m. ap (holds e m) remove_left.read ∙ removed_held e n m (entries e (used e b)) (good e sane told b by u).once;
        targets = λ m. ap (target_in e m) remove_left.read ∙ removed_target e n m (entries e (used e b)) (good e sane told b by u).once;
      }

  goes_back : (kind : ℕ) → legal_type e kind ≡ true → insert_code e told (remove_bytes e told b n) n (target (target_in e n (entries e (used e b))).inode kind) ≡ 0
  unfolding insert_code
  goes_back kind t =
      rw (remove_left.accepted, remove_left.read, remove_left.same_parent, remove_left.same_fork)
      (back_in e told (parent (used e b)) (data_length e b) n kind t (entries e (used e b)) (good e sane told b by u) (remove_answers e sane told b n done) (lay_fits e sane told b u))

-- ---- the laws

parent_counts : (p : ℕ) (xs : List SfEntry) → is_wide p ≡ true → wides_of p xs ≡ 0 → ⊥
parent_counts p xs h z = clash h (narrow_parent p xs z)

module _ (e : Edition) (sane : Sane e) where
  pub insert_accepted : InsertAccepted e
  unfolding InsertAccepted
  insert_accepted told b n to by done = (insert_left e sane told b n to by done).accepted

  pub remove_accepted : RemoveAccepted e
  unfolding RemoveAccepted
  remove_accepted told b n by done = (remove_left e sane told b n by done).accepted

  pub insert_names : InsertNames e
  unfolding InsertNames
  insert_names told b n to by done = insert_tells e sane told b n to by done

  pub remove_names : RemoveNames e
  unfolding RemoveNames
  remove_names told b n by done = remove_tells e sane told b n by done

  pub wide_laid : WideLaid e
  unfolding WideLaid
  wide_laid p xs h = lay_width e p xs ∙ sym (broad (wides_of p xs) (parent_counts p xs h))

  pub wide_accepted : WideAccepted e
  unfolding WideAccepted used_width
  wide_accepted told b v h =
      ap width_of (wides_known e told (used e b) (used_passes e sane told b v)) ∙ sym (broad _ (parent_counts (parent (used e b)) (entries e (used e b)) h))

  pub wide_empty : WideEmpty e
  unfolding WideEmpty names_ok numbers_ok once_ok tags_ok end_tag in_block
  wide_empty told fork p t f l h =
      let k = block_size_bounds told t in
      let m : e.first + 8 * (0 + 2) + 8 ≤ told = omega (arith, sane.first_after, sane.header_most) in
      let g : Good e told p [] = record { tags = refl; within = le-leb _ _ m; names = refl; numbers = rw l refl; once = refl; kinds = refl } in
      let s : length (lay e p []) ≡ 10 = length_lay e p [] ∙ omega (arith, broad (wides_of p []) (parent_counts p [] h)) in
      ap (fork_verdict e told (lay_fork e fork p [])) (sym s) ∙ laid_accepted e told p [] (omega arith) g fork (omega arith)

  pub remove_wide : RemoveWide e
  unfolding RemoveWide WideAccepted remove_code remove_request
  remove_wide told b n by v w l f h =
      let done : remove_code e told b n ≡ 0 = rw (v, l, f, h) refl in
      let r : Left e told b (removed e n (entries e (used e b))) (remove_bytes e told b n) = remove_left e sane told b n by done in
      (done, wide_accepted told (remove_bytes e told b n) r.accepted (ap is_wide r.same_parent ∙ w))

  pub put_back : PutBack e
  unfolding PutBack
  put_back told b n kind by t done = goes_back e sane told b n by done kind t
