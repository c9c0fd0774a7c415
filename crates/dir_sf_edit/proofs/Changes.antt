-- A change in the inode: what its answer leaves known, and the bytes written.
-- Assumes nothing.
use Prim.Native.Nat.{ℕ, zero, suc, ◌+◌, ◌-◌, ◌≤◌, ◌<◌}
use native.Mathlib.Omega.{arith}
use mathlib.Core.Bool.{true, false}
use mathlib.Core.Path.{◌≡◌, refl, sym, ◌∙◌, ap, ap₂}
use mathlib.Core.List.{List, [], ◌∷◌, ◌++◌}
use lib.ListN.{length, take, replicate, length-take, length-drop}
use borrow.Author.Tests.{eqb-true, eq-eqb, ne_eqb}
use Rattle.refusal.specs.declared.Refusal.{Refusal}
use Rattle.refusal.specs.Refusal.{number}
use Rattle.refusal.proofs.Passed.{number_ne}
use Rattle.be.specs.Bytes.{to_be, put, written}
use Rattle.be.specs.Lists.{every}
use Rattle.be.proofs.Bools.{and_left, and_both}
use Rattle.be.proofs.Writes.{put_nothing}
use Rattle.be.proofs.Codes.{passes, both}
use Rattle.records.specs.Records.{start}
use Rattle.records.proofs.Joined.{joined_long}
use Rattle.edition.specs.declared.Edition.{Edition}
use Rattle.edition.specs.Edition.{Sane}
use Rattle.dir.specs.declared.Target.{Target}
use Rattle.dir.specs.Target.{legal_target, kept_of}
use Rattle.name.specs.Name.{legal_name, fixed_name}
use Rattle.name.proofs.Legality.{legal_bounds}
use Rattle.dinode.specs.Core.{size_place, directory_code, data_length}
use Rattle.dir_sf.specs.Entry.{SfEntry, entry, width_of, size_at, entry_at, entries_in, filled, entry_bytes, entries_bytes, wides_of}
use Rattle.dir_sf.specs.Fork.{count_of, used_width, parent, entries, holds, lay, lay_fork, tile_ok, name_ok, names_ok, used_verdict}
use Rattle.dir_sf.specs.Change.{tag_for, is_free, placed, inserted, insert_request, removed, remove_request}
use Rattle.dir_sf.specs.Inner.{Readable}
use Rattle.dir_sf.specs.Inode.{size_of, verdict, used, insert_code, remove_code, with_entries, insert_bytes, remove_bytes}
use Rattle.dir_sf_edit.proofs.ReadBack.{length_entry_bytes, length_lay}
use Rattle.dir_sf_edit.proofs.Removes.{removes}
use Rattle.dir_sf_edit.proofs.Keeps.{removed_fits, inserts}
use Rattle.dir_sf_edit.proofs.Inserts.{number_of, inserted_is, every_placed, length_placed}
use Rattle.dir_sf_edit.proofs.Insertions.{lay_few}
use Rattle.dir_sf.proofs.Listed.{count_is}
use Rattle.dir_sf.proofs.Tested.{wides_known, names_known, is_directory, used_passes, used_long, used_header, used_bounds, used_readable, verdict_not}

-- ---- the answer

pub remove_refused : (e : Edition) (told : ℕ) (b n : List ℕ) (x : Refusal) → number x ≡ verdict e told b → number x ≡ remove_code e told b n
unfolding remove_code
remove_refused e told b n x h = h ∙ sym (rw (verdict_not e told b x h) refl)

pub remove_passed : (e : Edition) (sane : Sane e) (told r : ℕ) (b n u : List ℕ) → 0 ≡ verdict e told b → u ≡ used e b
    → r ≡ remove_request e n (entries e u) → r ≡ remove_code e told b n
unfolding remove_code
remove_passed e sane told r b n u h q k =
    let v : verdict e told b ≡ 0 = sym h in
    k ∙ ap (λ (u : List ℕ). remove_request e n (entries e u)) q ∙ sym (rw (eq-eqb _ _ v) refl)

-- ---- what is laid out anew is as long as what was there

entry_long : (e : Edition) (w : ℕ) (u : List ℕ) (p : ℕ) → p + size_at e w u p ≤ length u → length (entry_bytes e w (entry_at e w u p)) ≡ size_at e w u p
unfolding entry_at size_at
entry_long e w u p h = length_entry_bytes e w _ ∙ simp (length-take, length-drop) (omega arith)

tile_filled : (e : Edition) (told : ℕ) (u : List ℕ) → used_verdict e told u ≡ 0 → filled e (used_width u) u (count_of u) (2 + used_width u) ≡ true
unfolding used_verdict tile_ok
tile_filled e told u a = let t = passes (tile_ok e told u) 4 _ a in and_left _ _ (and_left _ _ t.0)

width_same : (e : Edition) (told : ℕ) (u : List ℕ) → used_verdict e told u ≡ 0 → width_of (wides_of (parent u) (entries e u)) ≡ used_width u
unfolding used_width
width_same e told u a = ap width_of (sym (wides_known e told u a))

listed : (e : Edition) (told : ℕ) (u : List ℕ) → used_verdict e told u ≡ 0 → 2 + used_width u + length (entries_bytes e (used_width u) (entries e u)) ≡ length u
unfolding entries entries_in filled
listed e told u a =
    let w : ℕ = used_width u in
    let q : start (size_at e w u) (count_of u) (2 + w) ≡ length u = eqb-true _ _ (tile_filled e told u a) in
    joined_long (entry_bytes e w) (length u) (size_at e w u) (entry_at e w u) (entry_long e w u) (count_of u) (2 + w) (omega arith) ∙ q

same_long : (e : Edition) (told : ℕ) (u : List ℕ) → used_verdict e told u ≡ 0 → 2 + used_width u ≤ length u → length (lay e (parent u) (entries e u)) ≡ length u
same_long e told u a h =
    let w : width_of (wides_of (parent u) (entries e u)) ≡ used_width u = width_same e told u a in
    let f : 2 + used_width u + length (entries_bytes e (used_width u) (entries e u)) ≡ length u = listed e told u a in
    let g : length (entries_bytes e (width_of (wides_of (parent u) (entries e u))) (entries e u)) ≡ length (entries_bytes e (used_width u) (entries e u)) =
    ap (λ (y : ℕ). length (entries_bytes e y (entries e u))) w in
    omega (arith, length_lay e (parent u) (entries e u))

-- ---- the bytes

zeros_take : (n m : ℕ) → n ≤ m → take {A = ℕ} n (replicate m 0) ≡ replicate n 0
zeros_take zero m h = refl
zeros_take (suc n) zero h = absurd (omega arith)
zeros_take (suc n) (suc m) h = ap (λ (l : List ℕ). 0 ∷ l) (zeros_take n m (omega arith))

pub fresh_take : (xs : List ℕ) (n m : ℕ) → length xs ≤ n → n ≤ m → take n (put (replicate m 0) 0 xs) ≡ xs ++ replicate (n - length xs) 0
unfolding put
fresh_take [] n m h l = let q : n - 0 ≡ n = omega arith in rw (put_nothing (replicate m 0) 0, q) (zeros_take n m l)
fresh_take (x ∷ xs) zero m h l = absurd (omega arith)
fresh_take (x ∷ xs) (suc n) zero h l = absurd (omega arith)
fresh_take (x ∷ xs) (suc n) (suc m) h l =
    let q : suc n - suc (length xs) ≡ n - length xs = omega arith in
    rw q (ap (λ (l : List ℕ). x ∷ l) (fresh_take xs n m (omega arith) (omega arith)))

-- the fork rebuilt in a fresh array and written back
module _ (e : Edition) (sane : Sane e) (told : ℕ) (b : List ℕ) (v : verdict e told b ≡ 0) (ys : List SfEntry)
    (fits : length (lay e (parent (used e b)) ys) ≤ data_length e b) where
  written_back : (m s : ℕ) (t b₁ : List ℕ) → m ≡ data_length e b → t ≡ put (replicate 2048 0) 0 (lay e (parent (used e b)) ys)
      → s ≡ length (lay e (parent (used e b)) ys) → b₁ ≡ put (put b size_place (to_be 8 s)) e.literal (take m t) → b₁ ≡ with_entries e b ys
  unfolding with_entries written lay_fork
  written_back m s t b₁ e₀ f g k =
      let L : List ℕ = lay e (parent (used e b)) ys in
      let x = used_bounds e sane told b v (size_of b) refl in
      let y : take m t ≡ L ++ replicate (data_length e b - length L) 0 =
      ap₂ (λ (i : ℕ) (l : List ℕ). take i l) e₀ f ∙ fresh_take L (data_length e b) 2048 fits (omega arith) in
      k ∙ ap₂ (λ (i : ℕ) (l : List ℕ). put (put b size_place (to_be 8 i)) e.literal l) g y

  room : (T : ℕ) → T ≡ 2048 → length (lay e (parent (used e b)) ys) ≤ T
  room T e₀ = let x = used_bounds e sane told b v (size_of b) refl in omega arith

-- what was there fits the fork
pub lay_fits : (e : Edition) (sane : Sane e) (told : ℕ) (b : List ℕ) → verdict e told b ≡ 0 → length (lay e (parent (used e b)) (entries e (used e b))) ≤ data_length e b
lay_fits e sane told b v =
    let u = used_bounds e sane told b v (size_of b) refl in
    omega (arith, same_long e told (used e b) (used_passes e sane told b v) (used_header e sane told b v), used_long e sane told b v)

-- ---- removal

module _ (e : Edition) (sane : Sane e) (told : ℕ) (b n : List ℕ) (h : remove_code e told b n ≡ 0) where
  parts : (verdict e told b ≡ 0) × (remove_request e n (entries e (used e b)) ≡ 0)
  unfolding remove_code
  parts = both (verdict e told b) _ h

  pub remove_passes : verdict e told b ≡ 0
  remove_passes = parts.0

  pub remove_answers : remove_request e n (entries e (used e b)) ≡ 0
  remove_answers = parts.1

  pub remove_dir : directory_code e b ≡ 0
  remove_dir = is_directory e sane told b remove_passes

  there : holds e n (entries e (used e b)) ≡ true
  there = (removes e n (entries e (used e b)) remove_answers).2

  pub remove_fits : length (lay e (parent (used e b)) (removed e n (entries e (used e b)))) ≤ data_length e b
  remove_fits = omega (arith, removed_fits e n (parent (used e b)) (entries e (used e b)), lay_fits e sane told b remove_passes)

  module _ (u : List ℕ) (q : u ≡ used e b) where
    pub remove_readable : Readable e u
    remove_readable = rw q (used_readable e sane told b remove_passes)

    pub remove_there : holds e n (entries e u) ≡ true
    remove_there = rw q there

    pub remove_room : (T : ℕ) → T ≡ 2048
        → length (lay e (parent u) (removed e n (entries e u))) ≤ T
    remove_room T e₀ = rw q (room e sane told b remove_passes (removed e n (entries e (used e b))) remove_fits T e₀)

    pub taken_out : (m s : ℕ) (t b₁ : List ℕ) → m ≡ data_length e b
        → t ≡ put (replicate 2048 0) 0 (lay e (parent u) (removed e n (entries e u)))
        → s ≡ length (lay e (parent u) (removed e n (entries e u)))
        → b₁ ≡ put (put b size_place (to_be 8 s)) e.literal (take m t) → b₁ ≡ with_entries e b (removed e n (entries e (used e b)))
    taken_out m s t b₁ e₀ f g k =
        written_back e sane told b remove_passes (removed e n (entries e (used e b))) remove_fits m s t b₁ e₀ (rw q at f) (rw q at g) k

pub remove_alone : (e : Edition) (told : ℕ) (b n : List ℕ) (x : Refusal) → number x ≡ remove_code e told b n → b ≡ remove_bytes e told b n
unfolding remove_bytes
remove_alone e told b n x h = sym (rw (ne_eqb (remove_code e told b n) 0 (λ q. number_ne x (h ∙ q))) refl)

pub remove_done : (e : Edition) (told : ℕ) (b n b₁ : List ℕ) → 0 ≡ remove_code e told b n → b₁ ≡ with_entries e b (removed e n (entries e (used e b)))
    → b₁ ≡ remove_bytes e told b n
unfolding remove_bytes
remove_done e told b n b₁ h k = k ∙ sym (rw (eq-eqb (remove_code e told b n) 0 (sym h)) refl)

-- ---- insert

pub insert_refused : (e : Edition) (told : ℕ) (b n : List ℕ) (to : Target) (x : Refusal) → number x ≡ verdict e told b → number x ≡ insert_code e told b n to
unfolding insert_code
insert_refused e told b n to x h = h ∙ sym (rw (verdict_not e told b x h) refl)

pub insert_passed : (e : Edition) (sane : Sane e) (told fork r : ℕ) (b n u : List ℕ) (to : Target) → 0 ≡ verdict e told b → u ≡ used e b → fork ≡ data_length e b
    → r ≡ insert_request e told fork n to (parent u) (entries e u)
    → r ≡ insert_code e told b n to
unfolding insert_code
insert_passed e sane told fork r b n u to h q g k =
    let v : verdict e told b ≡ 0 = sym h in
    k ∙ ap₂ (λ (j : ℕ) (u : List ℕ). insert_request e told j n to (parent u) (entries e u)) g q ∙ sym (rw (eq-eqb _ _ v) refl)

pub tested_dir : (e : Edition) (sane : Sane e) (told : ℕ) (b : List ℕ) → 0 ≡ verdict e told b → directory_code e b ≡ 0
tested_dir e sane told b h = is_directory e sane told b (sym h)

pub lent_whole : (e : Edition) (sane : Sane e) (told : ℕ) (b u : List ℕ) → 0 ≡ verdict e told b → u ≡ used e b
    → length (lay e (parent u) (entries e u))
    ≡ length u
lent_whole e sane told b u h q =
    let v : verdict e told b ≡ 0 = sym h in
    rw q (same_long e told (used e b) (used_passes e sane told b v) (used_header e sane told b v))

module _ (e : Edition) (sane : Sane e) (told : ℕ) (b n : List ℕ) (to : Target) (h : insert_code e told b n to ≡ 0) where
  insert_parts : (verdict e told b ≡ 0) × (insert_request e told (data_length e b) n to (parent (used e b)) (entries e (used e b)) ≡ 0)
  unfolding insert_code
  insert_parts = both (verdict e told b) _ h

  pub insert_passes : verdict e told b ≡ 0
  insert_passes = insert_parts.0

  pub insert_answers : insert_request e told (data_length e b) n to (parent (used e b)) (entries e (used e b)) ≡ 0
  insert_answers = insert_parts.1

  pub insert_dir : directory_code e b ≡ 0
  insert_dir = is_directory e sane told b insert_passes

  pub insert_tests : (legal_name e n ≡ true) × (legal_target e to ≡ true) × (fixed_name n ≡ false) × (holds e n (entries e (used e b)) ≡ false)
      × (is_free (tag_for e told (length n) (entries e (used e b))) ≡ true) × (length (lay e (parent (used e b)) (inserted e told n to (entries e (used e b)))) ≤ data_length e b)
  insert_tests = inserts e told (parent (used e b)) n to (entries e (used e b)) (data_length e b) insert_parts.1

  pub insert_short : length n < 256
  insert_short = omega (arith, legal_bounds e n insert_tests.0)

  pub insert_fits : length (lay e (parent (used e b)) (inserted e told n to (entries e (used e b)))) ≤ data_length e b
  insert_fits = insert_tests.5

  few_entries : count_of (used e b) < 254
  unfolding names_ok
  few_entries =
      let y : SfEntry = entry (number_of (tag_for e told (length n) (entries e (used e b)))) n (kept_of e to) in
      let fits : length (lay e (parent (used e b)) (placed y (entries e (used e b)))) ≤ data_length e b = rw (inserted_is e told n to (entries e (used e b)) insert_tests.4) at insert_fits in
      let u = used_bounds e sane told b insert_passes (size_of b) refl in
      let k : every (name_ok e) (placed y (entries e (used e b))) ≡ true =
      every_placed (name_ok e) y (entries e (used e b)) (and_both _ _ insert_tests.0 (rw insert_tests.2 refl)) (names_known e told (used e b) (used_passes e sane told b insert_passes)) in
      omega (arith, lay_few e (parent (used e b)) (placed y (entries e (used e b))) k, length_placed y (entries e (used e b)), count_is e (used e b))

  module _ (u : List ℕ) (q : u ≡ used e b) where
    pub insert_readable : Readable e u
    insert_readable = rw q (used_readable e sane told b insert_passes)

    pub insert_free : is_free (tag_for e told (length n) (entries e u)) ≡ true
    insert_free = rw q insert_tests.4

    pub insert_few : count_of u < 254
    insert_few = rw q few_entries

    pub insert_room : (T : ℕ) → T ≡ 2048
        → length (lay e (parent u) (inserted e told n to (entries e u))) ≤ T
    insert_room T e₀ = rw q (room e sane told b insert_passes (inserted e told n to (entries e (used e b))) insert_fits T e₀)

    pub put_in_is : (m s : ℕ) (t b₁ : List ℕ) → m ≡ data_length e b
        → t ≡ put (replicate 2048 0) 0 (lay e (parent u) (inserted e told n to (entries e u)))
        → s ≡ length (lay e (parent u) (inserted e told n to (entries e u)))
        → b₁ ≡ put (put b size_place (to_be 8 s)) e.literal (take m t) → b₁ ≡ with_entries e b (inserted e told n to (entries e (used e b)))
    put_in_is m s t b₁ e₀ f g k =
        written_back e sane told b insert_passes (inserted e told n to (entries e (used e b))) insert_fits m s t b₁ e₀ (rw q at f) (rw q at g) k

pub insert_alone : (e : Edition) (told : ℕ) (b n : List ℕ) (to : Target) (x : Refusal) → number x ≡ insert_code e told b n to → b ≡ insert_bytes e told b n to
unfolding insert_bytes
insert_alone e told b n to x h = sym (rw (ne_eqb (insert_code e told b n to) 0 (λ q. number_ne x (h ∙ q))) refl)

pub insert_done : (e : Edition) (told : ℕ) (b n b₁ : List ℕ) (to : Target) → 0 ≡ insert_code e told b n to
    → b₁ ≡ with_entries e b (inserted e told n to (entries e (used e b))) → b₁ ≡ insert_bytes e told b n to
unfolding insert_bytes
insert_done e told b n b₁ to h k = k ∙ sym (rw (eq-eqb (insert_code e told b n to) 0 (sym h)) refl)

-- of the edition that was made
pub remove_made : (e f : Edition) (told : ℕ) (b n : List ℕ) (r : ℕ) → r ≡ remove_code e told b n → e ≡ f → r ≡ remove_code f told b n
remove_made e f told b n r h q = h ∙ ap (λ (x : Edition). remove_code x told b n) q

pub removed_made : (e f : Edition) (told : ℕ) (b n b₁ : List ℕ) → b₁ ≡ remove_bytes e told b n → e ≡ f → b₁ ≡ remove_bytes f told b n
removed_made e f told b n b₁ h q = h ∙ ap (λ (x : Edition). remove_bytes x told b n) q

pub insert_made : (e f : Edition) (told : ℕ) (b n : List ℕ) (to : Target) (r : ℕ) → r ≡ insert_code e told b n to → e ≡ f → r ≡ insert_code f told b n to
insert_made e f told b n to r h q = h ∙ ap (λ (x : Edition). insert_code x told b n to) q

pub inserted_made : (e f : Edition) (told : ℕ) (b n : List ℕ) (to : Target) (b₁ : List ℕ) → b₁ ≡ insert_bytes e told b n to → e ≡ f → b₁ ≡ insert_bytes f told b n to
inserted_made e f told b n to b₁ h q = h ∙ ap (λ (x : Edition). insert_bytes x told b n to) q
