-- What is known of an inode that passes the tests.
-- Assumes nothing.
use Prim.Native.Nat.{ℕ, ◌+◌, ◌-◌, ◌≤◌}
use native.Mathlib.Omega.{arith}
use mathlib.Core.Bool.{Bool, true, false, not, cond, ◌||◌}
use mathlib.Core.Path.{◌≡◌, refl, sym, ◌∙◌, ap}
use mathlib.Core.List.{List}
use lib.Dec.{eqb, leb}
use lib.ListN.{length, take, drop, length-take, length-drop}
use lib.Seq.{take-take, get_or-take}
use Rattle.std.specs.Prelude.{Result, Ok, Err}
use borrow.Author.Tests.{eqb-true, eq-eqb, ne_eqb, leb-true}
use Rattle.refusal.specs.declared.Refusal.{Refusal}
use Rattle.refusal.specs.Refusal.{ASKED, FIXED, ABSENT, number}
use Rattle.refusal.proofs.Passed.{number_ne}
use Rattle.be.specs.Bytes.{bytes, part}
use Rattle.be.specs.Lists.{same}
use Rattle.be.specs.Codes.{◌unless◌then◌}
use Rattle.be.proofs.Bools.{and_left, and_right, by_cases}
use Rattle.be.proofs.Codes.{passes, both}
use Rattle.be.proofs.Parts.{bytes_take, bytes_drop}
use Rattle.edition.specs.declared.Edition.{Edition}
use Rattle.edition.specs.Edition.{block_size, Sane}
use Rattle.dinode.specs.Core.{size_place, directory_code, data_length, data_fork}
use Rattle.dir.specs.declared.Looked.{Looked}
use Rattle.dir.specs.declared.Looked.TheVariants.{Absent}
use Rattle.dir.specs.Target.{no_target}
use Rattle.dir.specs.Answers.{looked_code, looked_target, looked_tag, looked_compared}
use Rattle.name.specs.Name.{legal_name, dot, dotdot}
use Rattle.dir_sf.specs.Entry.{SfEntry, width_of, filled, tags_ok, wides_of}
use Rattle.dir_sf.specs.Fork.{count_of, stored_wides, used_width, parent, entries, holds, span_ok, tile_ok, names_ok, numbers_ok, once_ok, used_verdict, fork_verdict}
use Rattle.dir_sf.specs.Change.{lookup_request, entry_for}
use Rattle.dir_sf.specs.Inner.{enough, Readable}
use Rattle.dir_sf.specs.Inode.{size_of, verdict, used, looked, lookup, lookup_code, lookup_target, lookup_tag, found_entry, LookupPromise}
use Rattle.dir_sf.proofs.Leaves.{width_least}
use Rattle.dir_sf.proofs.Run.{filled_enough}
use Rattle.dir_sf.proofs.Inodes.{bounds, size_in}

pub wides_known : (e : Edition) (told : ℕ) (u : List ℕ) → used_verdict e told u ≡ 0 → stored_wides u ≡ wides_of (parent u) (entries e u)
unfolding used_verdict
wides_known e told u a =
    let t₅ = passes (tile_ok e told u) 4 _ a in
    let t₆ = passes (names_ok e (entries e u)) 5 _ t₅.1 in
    let t₇ = passes (numbers_ok (parent u) (entries e u)) 6 _ t₆.1 in
    let t₈ = passes (eqb (stored_wides u) (wides_of (parent u) (entries e u))) 7 _ t₇.1 in
    eqb-true _ _ t₈.0

pub tags_known : (e : Edition) (told : ℕ) (u : List ℕ) → used_verdict e told u ≡ 0 → tags_ok e e.first (entries e u) ≡ true
unfolding used_verdict tile_ok
tags_known e told u a =
    let t₅ = passes (tile_ok e told u) 4 _ a in
    and_right (filled e (used_width u) u (count_of u) (2 + used_width u)) _ (and_left _ _ t₅.0)

pub once_known : (e : Edition) (told : ℕ) (u : List ℕ) → used_verdict e told u ≡ 0 → once_ok e (entries e u) ≡ true
unfolding used_verdict
once_known e told u a =
    let t₅ = passes (tile_ok e told u) 4 _ a in
    let t₆ = passes (names_ok e (entries e u)) 5 _ t₅.1 in
    let t₇ = passes (numbers_ok (parent u) (entries e u)) 6 _ t₆.1 in
    let t₈ = passes (eqb (stored_wides u) (wides_of (parent u) (entries e u))) 7 _ t₇.1 in
    (passes (once_ok e (entries e u)) 9 _ t₈.1).0

pub names_known : (e : Edition) (told : ℕ) (u : List ℕ) → used_verdict e told u ≡ 0 → names_ok e (entries e u) ≡ true
unfolding used_verdict
names_known e told u a =
    let t₅ = passes (tile_ok e told u) 4 _ a in
    (passes (names_ok e (entries e u)) 5 _ t₅.1).0

module _ (e : Edition) (sane : Sane e) (told : ℕ) (b : List ℕ) (h : verdict e told b ≡ 0) where
  parts : (block_size told ≡ true) × (directory_code e b ≡ 0) × (fork_verdict e told (data_fork e b) (size_of b) ≡ 0)
  unfolding verdict
  parts =
      let a = passes (block_size told) 0 _ h in
      let c = both (directory_code e b) _ a.1 in
      (a.0, c.0, c.1)

  pub is_directory : directory_code e b ≡ 0
  is_directory = parts.1

  pub is_told : block_size told ≡ true
  is_told = parts.0

  fork_parts : (span_ok (data_fork e b) (size_of b) ≡ true) × (used_verdict e told (used e b) ≡ 0)
  unfolding fork_verdict used
  fork_parts = passes (span_ok (data_fork e b) (size_of b)) 3 _ parts.2

  pub used_passes : used_verdict e told (used e b) ≡ 0
  used_passes = fork_parts.1

  fork_is_long : length (data_fork e b) ≡ data_length e b
  unfolding data_fork
  fork_is_long = simp (length-take, length-drop) (omega (arith, bounds e sane b is_directory))

  span : (2 + used_width (data_fork e b) ≤ size_of b) × (size_of b ≤ data_length e b)
  unfolding span_ok
  span =
      let s = fork_parts.0 in
      let m : size_of b ≤ length (data_fork e b) = leb-true _ _ (and_right (leb (2 + used_width (data_fork e b)) (size_of b)) _ s) in
      (leb-true _ _ (and_left _ _ s), omega (arith, fork_is_long))

  pub size_at : size_place + 8 ≤ length b
  size_at = size_in e sane b is_directory

  pub used_bounds : (r : ℕ) → r ≡ size_of b
      → (r ≡ size_of b) × (r ≤ data_length e b) × (data_length e b ≤ 1948) × (e.literal + data_length e b ≤ length b)
  used_bounds r q = let k = bounds e sane b is_directory in (q, omega (arith, span), k.1, k.2)

  pub used_is : (z : ℕ) → z ≡ size_of b → take (e.literal + z - e.literal) (drop e.literal b) ≡ used e b
  unfolding used data_fork
  used_is z q =
      let l : e.literal + z - e.literal ≡ size_of b = omega arith in
      rw (l, take-take (size_of b) (data_length e b) (drop e.literal b) span.1) refl

  pub used_long : length (used e b) ≡ size_of b
  unfolding used
  used_long = simp length-take (omega (arith, fork_is_long, span))

  pub used_short : length (used e b) ≤ 1948
  used_short = omega (arith, used_long, span, bounds e sane b is_directory)

  wide_enough : 4 ≤ used_width (data_fork e b)
  unfolding used_width
  wide_enough = width_least (stored_wides (data_fork e b))

  same_width : used_width (used e b) ≡ used_width (data_fork e b)
  unfolding used_width stored_wides used
  same_width = ap width_of (get_or-take (size_of b) (data_fork e b) 1 0 (omega (arith, span, wide_enough)))

  pub used_header : 2 + used_width (used e b) ≤ length (used e b)
  used_header = omega (arith, same_width, used_long, span)

  pub used_enough : enough e (used_width (used e b)) (used e b) (count_of (used e b)) (2 + used_width (used e b)) ≡ true
  unfolding used_verdict tile_ok
  used_enough =
      let t = passes (tile_ok e told (used e b)) 4 _ used_passes in
      filled_enough e (used_width (used e b)) (used e b) (count_of (used e b)) (2 + used_width (used e b)) (and_left _ _ (and_left _ _ t.0))

  used_wides : stored_wides (used e b) ≡ wides_of (parent (used e b)) (entries e (used e b))
  used_wides = wides_known e told (used e b) used_passes

  pub used_readable : Readable e (used e b)
  used_readable = record { header = used_header; listed = used_enough; wides = used_wides }

-- bytes of the inode are bytes of the fork
pub used_bytes : (e : Edition) (b : List ℕ) → bytes b ≡ true → bytes (used e b) ≡ true
unfolding used data_fork
used_bytes e b h = bytes_take (size_of b) (part e.literal (data_length e b) b) (bytes_take (data_length e b) (drop e.literal b) (bytes_drop e.literal b h))

-- the verdict of a refusal is none of a test that passes
pub verdict_not : (e : Edition) (told : ℕ) (b : List ℕ) (x : Refusal) → number x ≡ verdict e told b → eqb (verdict e told b) 0 ≡ false
verdict_not e told b x h = ne_eqb (verdict e told b) 0 (λ q. number_ne x (h ∙ q))

pub lookup_refused : (e : Edition) (told : ℕ) (b n : List ℕ) (x : Refusal) → number x ≡ verdict e told b → Err (number x) ≡ lookup e told b n
unfolding lookup
lookup_refused e told b n x h = sym (rw (verdict_not e told b x h, ← h) refl)

pub lookup_looked : (e : Edition) (sane : Sane e) (told : ℕ) (b n u : List ℕ) (r : Result Looked ℕ) → 0 ≡ verdict e told b → u ≡ used e b
    → r ≡ looked e n (parent u) (entries e u) → r ≡ lookup e told b n
unfolding lookup
lookup_looked e sane told b n u r h q k =
    let v : verdict e told b ≡ 0 = sym h in
    k ∙ ap (λ (u : List ℕ). looked e n (parent u) (entries e u)) q ∙ sym (rw (eq-eqb _ _ v) refl)

-- the used bytes, as they are lent
pub lent_readable : (e : Edition) (sane : Sane e) (told : ℕ) (b u : List ℕ) → 0 ≡ verdict e told b → u ≡ used e b → Readable e u
lent_readable e sane told b u h q = rw q (used_readable e sane told b (sym h))

-- a lookup's number and values
answer_is : (l d p : Bool) (x : SfEntry) (r : Result Looked ℕ)
    → r ≡ (Err ASKED unless l then Err FIXED unless not d then Ok (Absent 0) unless p then Ok (found_entry x))
    → (looked_code r ≡ (ASKED unless l then FIXED unless not d then ABSENT unless p then 0))
    × (looked_target r ≡ cond (eqb (ASKED unless l then FIXED unless not d then ABSENT unless p then 0) 0) x.target no_target)
    × (looked_tag r ≡ cond (eqb (ASKED unless l then FIXED unless not d then ABSENT unless p then 0) 0) x.tag 0) × (looked_compared r ≡ 0)
answer_is false d p x r h = rw h (refl, refl, refl, refl)
answer_is true true p x r h = rw h (refl, refl, refl, refl)
answer_is true false false x r h = rw h (refl, refl, refl, refl)
answer_is true false true x r h = rw h (refl, refl, refl, refl)

module _ (e : Edition) (told : ℕ) (b n : List ℕ) where
  values : (looked_code (lookup e told b n) ≡ lookup_code e told b n) × (looked_target (lookup e told b n) ≡ lookup_target e told b n)
      × (looked_tag (lookup e told b n) ≡ lookup_tag e told b n) × (looked_compared (lookup e told b n) ≡ 0)
  unfolding lookup lookup_code lookup_target lookup_tag looked lookup_request
  values =
      let xs : List SfEntry = entries e (used e b) in
      by_cases (eqb (verdict e told b) 0)
      (λ q. rw q (answer_is (legal_name e n) (same n dot) (same n dotdot || holds e n xs) (entry_for e n (parent (used e b)) xs) _ refl))
      (λ q. rw (q, q) (refl, refl, refl, refl))

-- of the edition that was made
pub lookup_made : (e f : Edition) (told : ℕ) (b n : List ℕ) (r : Result Looked ℕ) → r ≡ lookup e told b n → e ≡ f → LookupPromise f told b n r
lookup_made e f told b n r h q =
    let k : r ≡ lookup f told b n = h ∙ ap (λ (x : Edition). lookup x told b n) q in
    let v = values f told b n in
    (k, ap looked_code k ∙ v.0, ap looked_target k ∙ v.1, ap looked_tag k ∙ v.2, ap looked_compared k ∙ v.3)
