-- What an accepted fork holds is good; what is good, laid out, is accepted.
-- Assumes nothing.
use Prim.Native.Nat.{ℕ, ◌+◌, ◌*◌, ◌%◌, ◌^◌, ◌≤◌, ◌<◌}
use native.Mathlib.Omega.{arith}
use mathlib.Core.Bool.{Bool, true, false, ◌&&◌}
use mathlib.Core.Path.{◌≡◌, refl}
use mathlib.Core.List.{List, [], ◌∷◌}
use lib.Dec.{eqb, leb, ltb}
use lib.ListN.{length, drop, get_or}
use borrow.Author.Tests.{le-leb, lt-ltb, leb-true, ltb-true, ltb-false, eqb-true, eq-eqb}
use Rattle.be.specs.Lists.{every, tally}
use Rattle.be.specs.Bytes.{bytes}
use Rattle.be.proofs.Codes.{passes}
use Rattle.records.specs.Records.{start}
use Rattle.records.proofs.Turns.{every_all}
use Rattle.edition.specs.declared.Edition.{Edition}
use Rattle.name.specs.Name.{legal_name, legal_number}
use Rattle.name.proofs.Legality.{legal_bounds, number_bounds}
use Rattle.be.proofs.Bools.{and_left, and_right, and_both, by_cases, every_head, every_tail}
use Rattle.be.proofs.Parts.{field_lt, bytes_take, bytes_drop}
use Rattle.dir_sf.specs.Entry.{SfEntry, width_of, size_at, entry_at, entries_in, filled, is_wide, wides_of, next_tag, tags_ok, end_tag, in_block}
use Rattle.dir_sf.specs.Fork.{count_of, stored_wides, used_width, parent, entries, lay, lay_fork, span_ok, tile_ok, name_ok, names_ok, numbers_ok, once_ok, used_verdict, fork_verdict}
use Rattle.dir_sf.proofs.Listed.{count_is}
use Rattle.dir_sf_edit.proofs.ReadBack.{Fits, lay_count, lay_wides, lay_parent, lay_entries, lay_filled, length_lay, length_lay_fork, lay_used}

-- the file types fit their bytes
abbrev pub kinds_ok : Edition → List SfEntry → Bool
kinds_ok e xs = every (λ x. ltb x.target.kind (256 ^ e.ftype)) xs

-- what may be stored in a fork, of a directory whose block size is told
pub record Good (e : Edition) (told p : ℕ) (xs : List SfEntry) : Type 0 where
  pub tags : tags_ok e e.first xs ≡ true
  pub within : in_block told (end_tag e e.first xs) (length xs) ≡ true
  pub names : names_ok e xs ≡ true
  pub numbers : numbers_ok p xs ≡ true
  pub once : once_ok e xs ≡ true
  pub kinds : kinds_ok e xs ≡ true

-- ---- good entries fit their bytes

legal_below : (i : ℕ) → legal_number i ≡ true → i < 256 ^ 8
legal_below i h = omega (arith, number_bounds i h)

narrow_below : (i : ℕ) → is_wide i ≡ false → i < 256 ^ 4
unfolding is_wide
narrow_below i h = let a : i ≤ 4294967295 = ltb-false _ _ h in omega arith

-- a number that is legal, and not wide where nothing is
pub number_fits : (wides i : ℕ) → legal_number i ≡ true → (wides ≡ 0 → is_wide i ≡ false) → i < 256 ^ width_of wides
unfolding width_of
number_fits wides i h n = by_cases (eqb wides 0) (λ q. rw q (narrow_below i (n (eqb-true _ _ q)))) (λ q. rw q (legal_below i h))

pub narrow_parent : (p : ℕ) (xs : List SfEntry) → wides_of p xs ≡ 0 → is_wide p ≡ false
unfolding wides_of
narrow_parent p xs h = by_cases (is_wide p) (λ q. absurd (omega (arith, rw q at h))) (λ q. q)

no_wide_head : (x : SfEntry) (xs : List SfEntry) → tally (λ y. is_wide y.target.inode) (x ∷ xs) ≡ 0 → is_wide x.target.inode ≡ false
no_wide_head x xs h = by_cases (is_wide x.target.inode) (λ q. absurd (omega (arith, rw q at h))) (λ q. q)

no_wide_tail : (x : SfEntry) (xs : List SfEntry) → tally (λ y. is_wide y.target.inode) (x ∷ xs) ≡ 0 → tally (λ y. is_wide y.target.inode) xs ≡ 0
no_wide_tail x xs h = omega arith

-- tags rise
pub low_le_end : (e : Edition) (low : ℕ) (xs : List SfEntry) → tags_ok e low xs ≡ true → low ≤ end_tag e low xs
unfolding tags_ok end_tag next_tag
low_le_end e low [] h = omega arith
low_le_end e low (x ∷ xs) h =
    let a : low ≤ x.tag = leb-true _ _ (and_right (eqb (x.tag % 8) 0) _ (and_left _ _ h)) in
    let i : next_tag e x ≤ end_tag e (next_tag e x) xs = low_le_end e (next_tag e x) xs (and_right (eqb (x.tag % 8) 0 && leb low x.tag) _ h) in
    omega arith

good_fits : (e : Edition) (low wides : ℕ) (xs : List SfEntry) → tags_ok e low xs ≡ true → end_tag e low xs < 65536 → every (name_ok e) xs ≡ true
    → every (λ x. legal_number x.target.inode) xs ≡ true → kinds_ok e xs ≡ true → (wides ≡ 0 → tally (λ x. is_wide x.target.inode) xs ≡ 0)
    → Fits e (width_of wides) xs
unfolding tags_ok end_tag next_tag
good_fits e low wides [] t en ns is ks z = tt
good_fits e low wides (x ∷ xs) t en ns is ks z =
    let tl : tags_ok e (next_tag e x) xs ≡ true = and_right (eqb (x.tag % 8) 0 && leb low x.tag) _ t in
    let up : next_tag e x ≤ end_tag e (next_tag e x) xs = low_le_end e (next_tag e x) xs tl in
    let l = legal_bounds e x.name (and_left (legal_name e x.name) _ (every_head (name_ok e) x xs ns)) in (
      record {
        name_fits = omega arith;
        tag_fits = omega arith;
        kind_fits = ltb-true _ _ (every_head (λ y. ltb y.target.kind (256 ^ e.ftype)) x xs ks);
        inode_fits = number_fits wides x.target.inode (every_head (λ y. legal_number y.target.inode) x xs is) (λ q. no_wide_head x xs (z q));
      },
      good_fits e (next_tag e x) wides xs tl en (every_tail (name_ok e) x xs ns) (every_tail (λ y. legal_number y.target.inode) x xs is)
          (every_tail (λ y. ltb y.target.kind (256 ^ e.ftype)) x xs ks) (λ q. no_wide_tail x xs (z q)),
    )

module _ (e : Edition) (told p : ℕ) (xs : List SfEntry) (small : told ≤ 65536) (g : Good e told p xs) where
  end_small : end_tag e e.first xs < 65536
  unfolding in_block
  end_small =
      let a : end_tag e e.first xs + 8 * (length xs + 2) + 8 ≤ told = leb-true _ _ g.within in
      omega arith

  pub good_fit : Fits e (width_of (wides_of p xs)) xs
  unfolding wides_of names_ok numbers_ok
  good_fit =
      good_fits e e.first (wides_of p xs) xs g.tags end_small g.names (and_right (legal_number p) _ g.numbers) g.kinds (λ q. omega arith)

  pub good_parent : p < 256 ^ width_of (wides_of p xs)
  unfolding numbers_ok
  good_parent = number_fits (wides_of p xs) p (and_left (legal_number p) _ g.numbers) (narrow_parent p xs)

  read_entries : entries e (lay e p xs) ≡ xs
  read_entries = lay_entries e p xs good_fit

  read_parent : parent (lay e p xs) ≡ p
  read_parent = lay_parent e p xs good_parent

  tile_holds : tile_ok e told (lay e p xs) ≡ true
  unfolding tile_ok
  tile_holds =
      rw (lay_filled e p xs, read_entries, lay_count e p xs) (and_both _ _ g.tags g.within)

  -- what is good, laid out, passes the tests
  pub used_accepted : used_verdict e told (lay e p xs) ≡ 0
  unfolding used_verdict
  used_accepted =
      rw (tile_holds, read_entries, read_parent, lay_wides e p xs, g.names, g.numbers, eq-eqb (wides_of p xs) (wides_of p xs) refl, g.once) refl

  fork_width : (n : ℕ) → used_width (lay_fork e n p xs) ≡ width_of (wides_of p xs)
  unfolding used_width stored_wides lay_fork lay
  fork_width n = refl

  span_holds : (n : ℕ) → length (lay e p xs) ≤ n → span_ok (lay_fork e n p xs) (length (lay e p xs)) ≡ true
  unfolding span_ok
  span_holds n h =
      let q : used_width (lay_fork e n p xs) ≡ width_of (wides_of p xs) = fork_width n in
      let a : 2 + used_width (lay_fork e n p xs) ≤ length (lay e p xs) = omega (arith, length_lay e p xs) in
      let b : length (lay e p xs) ≤ length (lay_fork e n p xs) = omega (arith, length_lay_fork e p xs n h) in
      and_both _ _ (le-leb _ _ a) (le-leb _ _ b)

  pub laid_accepted : (n : ℕ) → length (lay e p xs) ≤ n → fork_verdict e told (lay_fork e n p xs) (length (lay e p xs)) ≡ 0
  unfolding fork_verdict
  laid_accepted n h = rw (span_holds n h, lay_used e p xs n) used_accepted

-- ---- the other way: what an accepted fork holds is good

kind_in : (e : Edition) (w : ℕ) (u : List ℕ) → bytes u ≡ true → (p : ℕ) → p + size_at e w u p ≤ length u → ltb (entry_at e w u p).target.kind (256 ^ e.ftype) ≡ true
unfolding entry_at size_at
kind_in e w u h p l = lt-ltb _ _ (field_lt (p + 3 + get_or u p 0) e.ftype u h (omega arith))

module _ (e : Edition) (told : ℕ) (u : List ℕ) (h : bytes u ≡ true) (a : used_verdict e told u ≡ 0) where
  tests : (tile_ok e told u ≡ true) × (names_ok e (entries e u) ≡ true) × (numbers_ok (parent u) (entries e u) ≡ true)
      × (eqb (stored_wides u) (wides_of (parent u) (entries e u)) ≡ true) × (once_ok e (entries e u) ≡ true)
  unfolding used_verdict
  tests =
      let t₅ = passes (tile_ok e told u) 4 _ a in
      let t₆ = passes (names_ok e (entries e u)) 5 _ t₅.1 in
      let t₇ = passes (numbers_ok (parent u) (entries e u)) 6 _ t₆.1 in
      let t₈ = passes (eqb (stored_wides u) (wides_of (parent u) (entries e u))) 7 _ t₇.1 in
      let t₁₀ = passes (once_ok e (entries e u)) 9 _ t₈.1 in
      (t₅.0, t₆.0, t₇.0, t₈.0, t₁₀.0)

  tile : (filled e (used_width u) u (count_of u) (2 + used_width u) ≡ true) × (tags_ok e e.first (entries e u) ≡ true)
      × (in_block told (end_tag e e.first (entries e u)) (count_of u) ≡ true)
  unfolding tile_ok
  tile =
      let t = tests.0 in (
        and_left _ _ (and_left _ _ t),
        and_right (filled e (used_width u) u (count_of u) (2 + used_width u)) _ (and_left _ _ t),
        and_right (filled e (used_width u) u (count_of u) (2 + used_width u) && tags_ok e e.first (entries e u)) _ t,
      )

  -- what holds of an entry wherever it lies in the used bytes
  used_every : (t : SfEntry → Bool) → ((p : ℕ) → p + size_at e (used_width u) u p ≤ length u → t (entry_at e (used_width u) u p) ≡ true) → every t (entries e u) ≡ true
  unfolding entries entries_in filled
  used_every t f =
      let w : ℕ = used_width u in
      let q : start (size_at e w u) (count_of u) (2 + w) ≡ length u = eqb-true _ _ tile.0 in
      every_all (size_at e w u) (entry_at e w u) t (length u) f (count_of u) (2 + w) (omega arith)

  used_kinds : kinds_ok e (entries e u) ≡ true
  used_kinds = used_every (λ x. ltb x.target.kind (256 ^ e.ftype)) (kind_in e (used_width u) u h)

  pub used_spelled : every (λ x. bytes x.name) (entries e u) ≡ true
  unfolding entry_at
  used_spelled = used_every (λ x. bytes x.name) (λ p l. bytes_take (get_or u p 0) (drop (p + 3) u) (bytes_drop (p + 3) u h))

  pub used_good : Good e told (parent u) (entries e u)
  used_good =
      record {
        tags = tile.1;
        within = rw (count_is e u) tile.2;
        names = tests.1;
        numbers = tests.2;
        once = tests.4;
        kinds = used_kinds;
      }
