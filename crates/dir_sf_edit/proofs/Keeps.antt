-- An insert that is done leaves good entries; what a removal leaves is no longer than what was there.
-- Assumes nothing.
use Prim.Native.Nat.{ℕ, suc, ◌+◌, ◌%◌, ◌^◌, ◌≤◌}
use native.Mathlib.Omega.{arith}
use mathlib.Core.Bool.{true, false, not, ◌&&◌}
use mathlib.Core.Path.{◌≡◌, refl, sym, ◌∙◌, ap, ap₂}
use mathlib.Core.List.{List, [], ◌∷◌}
use lib.Dec.{eqb, leb, ltb}
use lib.ListN.{length, length-append}
use borrow.Author.Tests.{leb-true, eqb-true, eq-eqb, not-true, lt-ltb}
use Rattle.be.proofs.Bools.{and_left, and_right, and_both, by_cases}
use Rattle.be.proofs.Codes.{passes}
use Rattle.edition.specs.declared.Edition.{Edition}
use Rattle.edition.specs.Edition.{entry_size, Sane}
use Rattle.dir.specs.declared.Target.{Target}
use Rattle.dir.specs.Target.{legal_target, kept_of}
use Rattle.dir.proofs.FileTypes.{target_number, target_type, kept_fits}
use Rattle.name.specs.Name.{legal_name, legal_number, same_name, fixed_name}
use Rattle.std.specs.Prelude.{Some, None}
use Rattle.dir_sf.specs.Entry.{SfEntry, entry, width_of, entries_bytes, wides_of, next_tag, tags_ok, end_tag, in_block}
use Rattle.dir_sf.specs.Fork.{name_ok, names_ok, numbers_ok, holds, lay}
use Rattle.dir_sf.specs.Change.{gap_tag, tag_for, is_free, placed, inserted, has_room, insert_request, removed}
use Rattle.dir_sf_edit.proofs.ReadBack.{length_entry_bytes, length_lay}
use Rattle.dir_sf_edit.proofs.Accepted.{Good}
use Rattle.dir_sf_edit.proofs.Inserts.{Tags, number_of, free_at, inserted_is, every_placed, length_placed, placed_once, placed_last, placed_in_gap, end_eights}

-- what an insert that is done has passed
module _ (e : Edition) (told p : ℕ) (n : List ℕ) (to : Target) (xs : List SfEntry) (fork : ℕ) (done : insert_request e told fork n to p xs ≡ 0) where
  pub inserts : (legal_name e n ≡ true) × (legal_target e to ≡ true) × (fixed_name n ≡ false) × (holds e n xs ≡ false)
      × (is_free (tag_for e told (length n) xs) ≡ true) × (length (lay e p (inserted e told n to xs)) ≤ fork)
  unfolding insert_request has_room
  inserts =
      let a = passes (legal_name e n && legal_target e to) 10 _ done in
      let b = passes (not (fixed_name n)) 11 _ a.1 in
      let c = passes (not (holds e n xs)) 13 _ b.1 in
      let d = passes (is_free (tag_for e told (length n) xs) && leb (length (lay e p (inserted e told n to xs))) fork) 14 _ c.1 in (
        and_left _ _ a.0,
        and_right (legal_name e n) _ a.0,
        not-true _ b.0,
        not-true _ c.0,
        and_left _ _ d.0,
        leb-true _ _ (and_right (is_free (tag_for e told (length n) xs)) _ d.0),
      )

module _ (e : Edition) (ok : Tags e) (told p : ℕ) (n : List ℕ) (to : Target) (xs : List SfEntry) (g : Good e told p xs) where
  -- the tags and the block's limit, with the new entry in
  abbrev FitsIn : SfEntry → Type 0
  FitsIn y = (tags_ok e e.first (placed y xs) ≡ true) × (in_block told (end_tag e e.first (placed y xs)) (length (placed y xs)) ≡ true)

  at_end : (y : SfEntry) → y.name ≡ n → in_block told (end_tag e e.first xs + entry_size e (length n)) (suc (length xs)) ≡ true
      → y.tag ≡ end_tag e e.first xs → FitsIn y
  unfolding next_tag
  at_end y q h t =
      let r = placed_last e y e.first xs (ap (λ (z : ℕ). z % 8) t ∙ end_eights e e.first xs ok.first_eights g.tags) g.tags (sym t) in
      let m : end_tag e e.first (placed y xs) ≡ end_tag e e.first xs + entry_size e (length n) =
      r.1 ∙ ap₂ (λ (a : ℕ) (b : List ℕ). a + entry_size e (length b)) t q in
      (r.0, rw (m, length_placed y xs) h)

  in_gap : (y : SfEntry) → y.name ≡ n → in_block told (end_tag e e.first xs) (suc (length xs)) ≡ true
      → gap_tag e (entry_size e (length n)) e.first xs ≡ Some y.tag → FitsIn y
  in_gap y q h t =
      let t' : gap_tag e (entry_size e (length y.name)) e.first xs ≡ Some y.tag = rw q t in
      let r = placed_in_gap e y e.first xs ok.first_eights g.tags t' in
      (r.0, rw (r.1, length_placed y xs) h)

  tag_fits : (y : SfEntry) → y.name ≡ n → tag_for e told (length n) xs ≡ Some y.tag → FitsIn y
  unfolding tag_for
  tag_fits y q t =
      by_cases (in_block told (end_tag e e.first xs + entry_size e (length n)) (suc (length xs)))
      (λ a. let k : Some (end_tag e e.first xs) ≡ Some y.tag = rw a at t in at_end y q a (cc))
      (λ a.
      by_cases (in_block told (end_tag e e.first xs) (suc (length xs)))
      (λ b. in_gap y q b (rw (a, b) at t))
      (λ b. let k : None ≡ Some y.tag = rw (a, b) at t in let z : ◌≡◌ {A = ℕ} 0 1 = cc in absurd (omega arith)))

  module _ (fork : ℕ) (sane : Sane e) (done : insert_request e told fork n to p xs ≡ 0) where
    -- good before, good after
    pub inserted_good : Good e told p (inserted e told n to xs)
    unfolding names_ok numbers_ok wides_of
    inserted_good =
        let free : is_free (tag_for e told (length n) xs) ≡ true = (inserts e told p n to xs fork done).4 in
        let y : SfEntry = entry (number_of (tag_for e told (length n) xs)) n (kept_of e to) in
        let legal : legal_target e to ≡ true = (inserts e told p n to xs fork done).1 in
        let f = tag_fits y refl (free_at (tag_for e told (length n) xs) free) in
        rw (inserted_is e told n to xs free)
        (record {
          tags = f.0;
          within = f.1;
          names = every_placed (name_ok e) y xs (and_both _ _ (inserts e told p n to xs fork done).0 (rw (inserts e told p n to xs fork done).2 refl)) g.names;
          numbers = and_both _ _ (and_left (legal_number p) _ g.numbers) (every_placed (λ x. legal_number x.target.inode) y xs (target_number e to legal) (and_right (legal_number p) _ g.numbers));
          once = placed_once e y xs (inserts e told p n to xs fork done).3 g.once;
          kinds = every_placed (λ x. ltb x.target.kind (256 ^ e.ftype)) y xs (lt-ltb _ _ (kept_fits e sane to (target_type e to legal))) g.kinds;
        })

-- ---- removal: what is left is no longer than what was there

width_grows : (a b : ℕ) → a ≤ b → width_of a ≤ width_of b
unfolding width_of
width_grows a b h =
    by_cases (eqb b 0)
    (λ q. let z : a ≡ 0 = omega (arith, eqb-true b 0 q) in rw (q, eq-eqb a 0 z) (omega arith))
    (λ q. by_cases (eqb a 0) (λ r. rw (q, r) (omega arith)) (λ r. rw (q, r) (omega arith)))

removed_wides : (e : Edition) (n : List ℕ) (p : ℕ) (xs : List SfEntry) → wides_of p (removed e n xs) ≤ wides_of p xs
unfolding wides_of removed
removed_wides e n p [] = omega arith
removed_wides e n p (x ∷ xs) =
    by_cases (same_name e n x.name) (λ q. rw q (omega arith)) (λ q. rw q (omega (arith, removed_wides e n p xs)))

entries_narrower : (e : Edition) (v w : ℕ) (xs : List SfEntry) → v ≤ w → length (entries_bytes e v xs) ≤ length (entries_bytes e w xs)
entries_narrower e v w [] h = omega arith
entries_narrower e v w (x ∷ xs) h =
    simp length-append (omega (arith, length_entry_bytes e v x, length_entry_bytes e w x, entries_narrower e v w xs h))

removed_shorter : (e : Edition) (n : List ℕ) (v w : ℕ) (xs : List SfEntry) → v ≤ w → length (entries_bytes e v (removed e n xs)) ≤ length (entries_bytes e w xs)
unfolding removed
removed_shorter e n v w [] h = omega arith
removed_shorter e n v w (x ∷ xs) h =
    by_cases (same_name e n x.name)
    (λ q. rw q (simp length-append (omega (arith, entries_narrower e v w xs h))))
    (λ q. rw q (simp length-append (omega (arith, length_entry_bytes e v x, length_entry_bytes e w x, removed_shorter e n v w xs h))))

pub removed_fits : (e : Edition) (n : List ℕ) (p : ℕ) (xs : List SfEntry) → length (lay e p (removed e n xs)) ≤ length (lay e p xs)
removed_fits e n p xs =
    let w : width_of (wides_of p (removed e n xs)) ≤ width_of (wides_of p xs) = width_grows _ _ (removed_wides e n p xs) in
    omega (arith, length_lay e p (removed e n xs), length_lay e p xs, removed_shorter e n (width_of (wides_of p (removed e n xs))) (width_of (wides_of p xs)) xs w)
