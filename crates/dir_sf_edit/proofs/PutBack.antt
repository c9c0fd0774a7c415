-- Right after a removal the same name with the same number goes back in.
-- Assumes nothing.
use Prim.Native.Nat.{ℕ, suc, ◌+◌, ◌≤◌}
use native.Mathlib.Omega.{arith}
use mathlib.Core.Bool.{Bool, true, false, cond}
use mathlib.Core.Path.{◌≡◌, refl, sym, ◌∙◌, ap}
use mathlib.Core.List.{List, [], ◌∷◌}
use lib.Dec.{leb}
use lib.ListN.{length, length-append}
use borrow.Author.Tests.{le-leb}
use Rattle.dir_sf_edit.proofs.TagScans.{end_cons, end_none, gap_here}
use Rattle.be.specs.Lists.{every}
use Rattle.be.proofs.Bools.{by_cases, clash, and_right, every_head, every_tail}
use Rattle.edition.specs.declared.Edition.{Edition}
use Rattle.edition.specs.Edition.{entry_size}
use Rattle.dir.specs.declared.Target.{Target}
use Rattle.dir.specs.Target.{target, legal_type, legal_target, kept_of}
use Rattle.dir.proofs.FileTypes.{target_both}
use Rattle.name.specs.Name.{legal_name, legal_number, same_name, fixed_name}
use Rattle.name.proofs.Same.{same_name_refl, same_name_length}
use Rattle.dir_sf.specs.Entry.{SfEntry, entry, width_of, entries_bytes, wides_of, next_tag, tags_ok, end_tag, in_block}
use Rattle.dir_sf.specs.Fork.{lay, holds, numbers_ok}
use Rattle.dir_sf.specs.Change.{entry_in, target_in, gap_tag, tag_for, is_free, placed, inserted, has_room, insert_request, removed, remove_request}
use Rattle.dir_sf_edit.proofs.ReadBack.{length_entry_bytes, length_lay}
use Rattle.dir_sf_edit.proofs.Accepted.{Good}
use Rattle.dir_sf_edit.proofs.Removes.{removed_end, removed_length, removed_held, removed_wide, less_in_block, removes}
use Rattle.dir_sf.proofs.Tags.{tagged}
use Rattle.dir_sf_edit.proofs.Inserts.{number_of, inserted_is}
use Rattle.dir_sf_edit.proofs.Insertions.{placed_wide, placed_bytes}

-- E of the name asked for is that of the stored one
same_size : (e : Edition) (n : List ℕ) (x : SfEntry) → same_name e n x.name ≡ true → next_tag e x ≡ x.tag + entry_size e (length n)
unfolding next_tag
same_size e n x h = ap (λ (k : ℕ). x.tag + entry_size e k) (sym (same_name_length e n x.name h))

-- the room that is left: behind the last entry, or in a gap
pub record Room (e : Edition) (long low : ℕ) (xs ys : List SfEntry) (last : Bool) : Type 0 where
  pub behind : last ≡ true → end_tag e low ys + long ≤ end_tag e low xs
  pub between : last ≡ false → is_free (gap_tag e long low ys) ≡ true

gap_more : (e : Edition) (long low : ℕ) (x : SfEntry) (ys : List SfEntry) → is_free (gap_tag e long (next_tag e x) ys) ≡ true → is_free (gap_tag e long low (x ∷ ys)) ≡ true
unfolding gap_tag
gap_more e long low x ys k = by_cases (leb (low + long) x.tag) (λ q. rw q refl) (λ q. rw q k)

-- whether the first entry of the name is the last of all
last_of : Edition → List ℕ → List SfEntry → Bool
last_of e n [] = true
last_of e n (x ∷ []) = true
last_of e n (x ∷ (z ∷ zs)) = let r = last_of e n (z ∷ zs) in cond (same_name e n x.name) false r

head_room : (e : Edition) (n : List ℕ) (low : ℕ) (x : SfEntry) (xs : List SfEntry) → same_name e n x.name ≡ true → tags_ok e low (x ∷ xs) ≡ true
    → Room e (entry_size e (length n)) low (x ∷ xs) xs (last_of e n (x ∷ xs))
unfolding last_of
head_room e n low x [] q t =
    let g = tagged e low x [] t in
    record {
      behind = λ z. omega (arith, end_cons e low x [], end_none e (next_tag e x), end_none e low, same_size e n x q, g.least);
      between = λ z. absurd (clash refl z);
    }
head_room e n low x (y ∷ ys) q t =
    let g = tagged e low x (y ∷ ys) t in
    let h = tagged e (next_tag e x) y ys g.rest in
    record {
      behind = λ z. absurd (clash z (rw q refl));
      between = λ z. ap is_free (gap_here e (entry_size e (length n)) low y ys (omega (arith, same_size e n x q, g.least, h.least)));
    }

last_tail : (e : Edition) (n : List ℕ) (x : SfEntry) (xs : List SfEntry) → same_name e n x.name ≡ false → holds e n xs ≡ true → last_of e n (x ∷ xs) ≡ last_of e n xs
unfolding last_of holds
last_tail e n x [] q h = absurd (clash h refl)
last_tail e n x (y ∷ ys) q h = rw q refl

tail_room : (e : Edition) (long low : ℕ) (x : SfEntry) (xs ys : List SfEntry) (last : Bool) → Room e long (next_tag e x) xs ys last → Room e long low (x ∷ xs) (x ∷ ys) last
tail_room e long low x xs ys last r =
    record {
      behind = λ z. omega (arith, r.behind z, end_cons e low x xs, end_cons e low x ys);
      between = λ z. gap_more e long low x ys (r.between z);
    }

room_left : (e : Edition) (n : List ℕ) (low : ℕ) (xs : List SfEntry) → tags_ok e low xs ≡ true → holds e n xs ≡ true
    → Room e (entry_size e (length n)) low xs (removed e n xs) (last_of e n xs)
unfolding holds removed
room_left e n low [] t h = absurd (clash h refl)
room_left e n low (x ∷ xs) t h =
    by_cases (same_name e n x.name)
    (λ q. rw q (head_room e n low x xs q t))
    (λ q.
    let g = tagged e low x xs t in
    let k : holds e n xs ≡ true = rw q at h in
    rw (q, last_tail e n x xs q k) (tail_room e (entry_size e (length n)) low x xs (removed e n xs) (last_of e n xs) (room_left e n (next_tag e x) xs g.rest k)))

removed_bytes : (e : Edition) (w : ℕ) (n : List ℕ) (xs : List SfEntry) → holds e n xs ≡ true
    → length (entries_bytes e w xs) ≡ 3 + length n + e.ftype + w + length (entries_bytes e w (removed e n xs))
unfolding holds removed
removed_bytes e w n [] h = absurd (clash h refl)
removed_bytes e w n (x ∷ xs) h =
    by_cases (same_name e n x.name)
    (λ q. rw q (simp length-append (omega (arith, length_entry_bytes e w x, same_name_length e n x.name q))))
    (λ q. rw q (simp length-append (omega (arith, length_entry_bytes e w x, removed_bytes e w n xs (rw q at h)))))

number_legal : (e : Edition) (n : List ℕ) (xs : List SfEntry) → holds e n xs ≡ true → every (λ x. legal_number x.target.inode) xs ≡ true → legal_number (target_in e n xs).inode ≡ true
unfolding holds entry_in
number_legal e n [] h k = absurd (clash h refl)
number_legal e n (x ∷ xs) h k =
    by_cases (same_name e n x.name)
    (λ q. rw (q, target_in) (every_head (λ y. legal_number y.target.inode) x xs k))
    (λ q. rw (q, target_in) (number_legal e n xs (rw q at h) (every_tail (λ y. legal_number y.target.inode) x xs k)))

module _ (e : Edition) (told p fork : ℕ) (n : List ℕ) (kind : ℕ) (typed : legal_type e kind ≡ true) (xs : List SfEntry) (g : Good e told p xs) (done : remove_request e n xs ≡ 0)
    (fits : length (lay e p xs) ≤ fork) where
  tests : (legal_name e n ≡ true) × (fixed_name n ≡ false) × (holds e n xs ≡ true)
  tests = removes e n xs done

  gone : holds e n (removed e n xs) ≡ false
  gone = removed_held e n n xs g.once ∙ rw (same_name_refl e n) refl

  -- what goes in again
  abbrev again : Target
  again = target (target_in e n xs).inode kind

  -- the same size
  size : (t : ℕ) → length (lay e p (placed (entry t n (kept_of e again)) (removed e n xs))) ≡ length (lay e p xs)
  size t =
      let y : SfEntry = entry t n (kept_of e again) in
      let w : wides_of p (placed y (removed e n xs)) ≡ wides_of p xs = omega (arith, placed_wide p y (removed e n xs), removed_wide e n p xs tests.2) in
      let v : ℕ = width_of (wides_of p xs) in
      let l : length (lay e p (placed y (removed e n xs))) ≡ 2 + v + length (entries_bytes e v (placed y (removed e n xs))) =
      length_lay e p (placed y (removed e n xs)) ∙ ap (λ (k : ℕ). 2 + width_of k + length (entries_bytes e (width_of k) (placed y (removed e n xs)))) w in
      omega (arith, length_lay e p xs, placed_bytes e v y (removed e n xs), length_entry_bytes e v y, removed_bytes e v n xs tests.2)

  room : Room e (entry_size e (length n)) e.first xs (removed e n xs) (last_of e n xs)
  room = room_left e n e.first xs g.tags tests.2

  -- a tag
  tagged_again : is_free (tag_for e told (length n) (removed e n xs)) ≡ true
  unfolding tag_for
  tagged_again =
      let long : ℕ = entry_size e (length n) in
      let end : ℕ = end_tag e e.first (removed e n xs) in
      let k : ℕ = suc (length (removed e n xs)) in
      let m : k ≡ length xs = removed_length e n xs tests.2 in
      by_cases (in_block told (end + long) k)
      (λ a. rw a refl)
      (λ a.
      let b : in_block told end k ≡ true = less_in_block told _ _ _ _ (removed_end e n e.first xs g.tags) (omega arith) g.within in
      by_cases (last_of e n xs)
      (λ l. absurd (clash (less_in_block told _ _ _ _ (room.behind l) (omega arith) g.within) a))
      (λ l. rw (a, b) (room.between l)))

  pub back_in : insert_request e told fork n again p (removed e n xs) ≡ 0
  unfolding insert_request has_room numbers_ok
  back_in =
      let s : length (lay e p (inserted e told n again (removed e n xs))) ≤ fork =
      rw (inserted_is e told n again (removed e n xs) tagged_again) (omega (arith, size (number_of (tag_for e told (length n) (removed e n xs))))) in
      let j : legal_target e again ≡ true = target_both e again (number_legal e n xs tests.2 (and_right (legal_number p) _ g.numbers)) typed in
      rw (tests.0, j, tests.1, gone, tagged_again, le-leb _ _ s) refl
