-- The step at an entry's place tells of that entry.
-- Assumes nothing.
use Prim.Native.Nat.{ℕ, zero, suc, ◌+◌, ◌-◌, ◌≤◌, ◌<◌}
use native.Mathlib.Omega.{arith}
use mathlib.Core.Bool.{true}
use mathlib.Core.Path.{◌≡◌, refl, sym, ◌∙◌, ap}
use mathlib.Core.List.{List, ◌∷◌, ◌++◌}
use lib.ListN.{length, drop, get_or, length-append, length-take, length-drop}
use lib.Seq.{drop_at}
use borrow.Author.Tests.{ne_eqb}
use Rattle.be.specs.Bytes.{part}
use Rattle.be.proofs.Parts.{part_part}
use Rattle.records.specs.Records.{start, places, stands}
use Rattle.records.proofs.Starts.{start_fits, start_split, stands_first, stands_later}
use Rattle.edition.specs.declared.Edition.{Edition}
use Rattle.edition.specs.Edition.{Sane}
use Rattle.dir.specs.Answers.{walked_seen}
use Rattle.dir.specs.declared.Seen.TheVariants.{Live}
use Rattle.dir_sf.specs.Entry.{SfEntry, size_at, entry_at, entries_in}
use Rattle.dir_sf.specs.Fork.{count_of, used_width, entries, place_of}
use Rattle.dir_sf.specs.Inode.{size_of, used, verdict}
use Rattle.dir_sf.specs.Walk.{entry_step, step_seen, walk_step}
use Rattle.dir_sf.specs.Inner.{at_entry, walked_over, walked_in}
use Rattle.dir_sf.specs.Laws.{WalkNames}
use Rattle.dir_sf.proofs.Leaves.{one_in}
use Rattle.dir_sf.proofs.Listed.{count_is}
use Rattle.dir_sf.proofs.Run.{Run, run_at, run_one, run_rest, entries_drop, name_at_is}
use Rattle.dir_sf.proofs.Tested.{used_is, used_long, used_enough}
use Rattle.dir_sf.proofs.Walks.{long_some, step_walked, seen_is}

-- each start is a place
stands_start : (size : ℕ → ℕ) (j n at : ℕ) → j ≤ n → stands size n at (start size j at) ≡ true
unfolding start places
stands_start size zero n at h = stands_first size n at
stands_start size (suc j) zero at h = absurd (omega arith)
stands_start size (suc j) (suc n) at h = stands_later size (start size j (at + size at)) n at (stands_start size j n (at + size at) (omega arith))

module _ (e : Edition) (sane : Sane e) (told : ℕ) (b : List ℕ) (v : verdict e told b ≡ 0) (ys zs : List SfEntry) (x : SfEntry)
    (q : entries e (used e b) ≡ ys ++ (x ∷ zs)) where
  abbrev u : List ℕ
  u = used e b

  abbrev w : ℕ
  w = used_width (used e b)

  abbrev k : ℕ
  k = count_of (used e b)

  abbrev p : ℕ
  p = start (size_at e (used_width (used e b)) (used e b)) (length ys) (2 + used_width (used e b))

  inside : length ys < k
  inside = omega (arith, count_is e (used e b), simp length-append at (ap length q))

  run : Run e w u (2 + w) k (length ys) p
  run = run_at e w u (2 + w) k (length ys) p (used_enough e sane told b v) (omega (arith, inside)) refl

  -- the entry that is read there
  there : x ≡ entry_at e w u p
  unfolding entries
  there =
      let a : drop (length ys) (entries_in e w u k (2 + w)) ≡ x ∷ zs = ap (drop (length ys)) q ∙ drop_at ys (x ∷ zs) (length ys) refl in
      let c : drop (length ys) (entries_in e w u k (2 + w)) ≡ entries_in e w u (k - length ys) p = entries_drop e w u (length ys) k (2 + w) (omega (arith, inside)) in
      let d = run_rest e w u (2 + w) k (length ys) p (get_or u p 0) (e.ftype + w) run inside refl refl in
      cc

  fits : p + 3 + get_or u p 0 + (e.ftype + w) ≤ length u
  fits = one_in e w p u (run_one e w u (2 + w) k (length ys) p run inside)

  not_end : p ≡ start (size_at e w u) k (2 + w) → ⊥
  not_end h =
      omega (arith, start_split (size_at e w u) (length ys) k (2 + w) (omega (arith, inside)), start_fits (size_at e w u) (k - length ys) p (omega (arith, inside)), long_some e w u p)

  stepped : walk_step e told b p ≡ at_entry e w u p
  unfolding walked_in walked_over
  stepped =
      step_walked e told b p v
      ∙ rw (stands_start (size_at e w u) (length ys) k (2 + w) (omega (arith, inside)), ne_eqb p (start (size_at e w u) k (2 + w)) not_end) refl

  seen : step_seen e told b p ≡ Live (record { target = x.target; tag = x.tag; start = e.literal + (p + 3); len = length x.name })
  unfolding entry_step
  seen =
      sym (seen_is e told b p) ∙ ap walked_seen stepped
      ∙ ap (λ (y : SfEntry). Live (record { target = y.target; tag = y.tag; start = e.literal + (p + 3); len = length y.name })) (sym there)

  named_part : part (e.literal + (p + 3)) (length x.name) b ≡ x.name
  named_part =
      let n : ℕ = get_or u p 0 in
      let z : ℕ = size_of b in
      let whole : part e.literal z b ≡ u = let l : e.literal + z - e.literal ≡ z = omega arith in rw l at (used_is e sane told b v z refl) in
      let name : x.name ≡ part (p + 3) n u = ap (λ (y : SfEntry). y.name) there ∙ name_at_is e w u p in
      let long : length x.name ≡ n = ap length name ∙ simp (length-take, length-drop) (omega (arith, fits)) in
      ap (λ (i : ℕ). part (e.literal + (p + 3)) i b) long
      ∙ sym (part_part b e.literal z (p + 3) n (omega (arith, fits, used_long e sane told b v)))
      ∙ ap (part (p + 3) n) whole ∙ sym name

pub walk_names : (e : Edition) → Sane e → WalkNames e
unfolding WalkNames place_of
walk_names e sane told b ys zs x v q = record { seen_is = seen e sane told b v ys zs x q; name_is = named_part e sane told b v ys zs x q }
