-- The whole walk: each entry once in rising tag order, then the end.
-- Assumes nothing.
use Prim.Native.Nat.{ℕ, zero, suc, ◌+◌, ◌<◌}
use native.Mathlib.Omega.{arith}
use mathlib.Core.Bool.{true}
use mathlib.Core.Path.{◌≡◌, refl, sym, ◌∙◌, ap}
use mathlib.Core.List.{List, [], ◌∷◌, ◌++◌}
use lib.Dec.{eqb}
use lib.ListN.{length, length-append}
use Rattle.std.specs.Prelude.{Result}
use borrow.Author.Tests.{eq-eqb, ne_eqb}
use Rattle.be.proofs.Bools.{by_cases}
use Rattle.records.specs.Records.{start, places, read_records, stands}
use Rattle.records.proofs.Starts.{start_above, length_records, stands_first, stands_later}
use Rattle.edition.specs.declared.Edition.{Edition}
use Rattle.edition.specs.Edition.{Sane, entry_size}
use Rattle.dir.specs.declared.Step.{Step}
use Rattle.dir_sf.specs.Entry.{SfEntry, size_at, next_tag, tags_ok}
use Rattle.dir_sf.specs.Fork.{count_of, used_width, place_of}
use Rattle.dir_sf.specs.Inode.{used, verdict}
use Rattle.dir_sf.specs.Walk.{end_step, entry_step, step_in, step_code, step_seen, walk_step, after_step, walk, meets}
use Rattle.dir_sf.specs.Inner.{at_end, at_entry, walked_over, walked_in}
use Rattle.dir.specs.declared.Seen.{Seen}
use Rattle.dir.specs.declared.Seen.TheVariants.{Live, Gap, End}
use Rattle.dir_sf.specs.Laws.{WalkWhole, WalkEnds, TagsRise, WalkNoGap}
use Rattle.dir_sf.proofs.Listed.{count_is}
use Rattle.dir_sf.proofs.Tested.{used_passes, tags_known}
use Rattle.dir_sf.proofs.Walks.{long_some, step_walked}
use Rattle.dir_sf.proofs.Tags.{tagged}

walk_one : (e : Edition) (told : ℕ) (b : List ℕ) (steps place : ℕ) (s : Result Step ℕ) → walk_step e told b place ≡ s
    → walk e told b (suc steps) place ≡ s ∷ after_step s (walk e told b steps)
unfolding walk
walk_one e told b steps place s h = ap (λ (r : Result Step ℕ). r ∷ after_step r (walk e told b steps)) h

module _ (e : Edition) (told : ℕ) (b : List ℕ) (v : verdict e told b ≡ 0) where
  u : List ℕ
  u = used e b

  size : ℕ → ℕ
  size = size_at e (used_width u) u

  step_end : (at : ℕ) → stands size (count_of u) (2 + used_width u) at ≡ true → at ≡ start size (count_of u) (2 + used_width u) → walk_step e told b at ≡ at_end at
  unfolding walked_in walked_over u size
  step_end at h q = step_walked e told b at v ∙ rw (h, eq-eqb _ _ q) refl

  step_live : (at : ℕ) → stands size (count_of u) (2 + used_width u) at ≡ true → (at ≡ start size (count_of u) (2 + used_width u) → ⊥) → walk_step e told b at ≡ at_entry e (used_width u) u at
  unfolding walked_in walked_over u size
  step_live at h q = step_walked e told b at v ∙ rw (h, ne_eqb _ _ q) refl

  -- n entries from a place on, the last of those that are stored
  from : (n at steps : ℕ) → n < steps → start size n at ≡ start size (count_of u) (2 + used_width u)
      → ((x : ℕ) → stands size n at x ≡ true → stands size (count_of u) (2 + used_width u) x ≡ true)
      → walk e told b steps at ≡ meets e (used_width u) u n at
  unfolding start places meets size after_step end_step entry_step
  from n at zero l d h = absurd (omega arith)
  from zero at (suc steps) l d h = walk_one e told b steps at (at_end at) (step_end at (h at (stands_first size 0 at)) d)
  from (suc n) at (suc steps) l d h =
      walk_one e told b steps at (at_entry e (used_width u) u at)
      (step_live at (h at (stands_first size (suc n) at)) (λ q. omega (arith, long_some e (used_width u) u at, start_above size n (at + size at))))
      ∙ ap (λ (x : List (Result Step ℕ)). at_entry e (used_width u) u at ∷ x) (from n (at + size at) steps (omega arith) d (λ x s. h x (stands_later size x n at s)))

  whole : (steps : ℕ) → count_of (used e b) < steps
      → walk e told b steps (2 + used_width (used e b)) ≡ meets e (used_width (used e b)) (used e b) (count_of (used e b)) (2 + used_width (used e b))
  unfolding u
  whole steps h = from (count_of u) (2 + used_width u) steps h refl (λ x s. s)

meets_long : (e : Edition) (w : ℕ) (u : List ℕ) (k p : ℕ) → length (meets e w u k p) ≡ k + 1
unfolding meets
meets_long e w u k p =
    length-append (read_records (size_at e w u) (at_entry e w u) k p) _ ∙ ap (λ (n : ℕ). n + 1) (length_records (size_at e w u) (at_entry e w u) k p)

rising : (e : Edition) (low : ℕ) (ys zs : List SfEntry) (x y : SfEntry) → tags_ok e low (ys ++ (x ∷ y ∷ zs)) ≡ true → x.tag < y.tag
unfolding next_tag entry_size
rising e low [] zs x y h =
    let g = tagged e low x (y ∷ zs) h in
    let k = tagged e (next_tag e x) y zs g.rest in
    omega (arith, k.least)
rising e low (z ∷ ys) zs x y h = rising e (next_tag e z) ys zs x y (tagged e low z (ys ++ (x ∷ y ∷ zs)) h).rest

module _ (e : Edition) (sane : Sane e) where
  pub walk_whole : WalkWhole e
  unfolding WalkWhole
  walk_whole told b steps v h = whole e told b v steps h

  pub walk_ends : WalkEnds e
  unfolding WalkEnds
  walk_ends told b steps v h =
      ap length (whole e told b v steps h) ∙ meets_long e (used_width (used e b)) (used e b) (count_of (used e b)) (2 + used_width (used e b))
      ∙ ap (λ (k : ℕ). k + 1) (sym (count_is e (used e b)))

  pub tags_rise : TagsRise e
  unfolding TagsRise
  tags_rise told b ys zs x y v q = rising e e.first ys zs x y (rw q at (tags_known e told (used e b) (used_passes e sane told b v)))

-- no step says Gap
is_gap : Seen → ℕ
is_gap (Live l) = 0
is_gap Gap = 1
is_gap End = 0

seen_no_gap : (e : Edition) (told : ℕ) (b : List ℕ) (place : ℕ) → is_gap (step_seen e told b place) ≡ 0
unfolding step_seen step_in end_step entry_step is_gap
seen_no_gap e told b place =
    by_cases (eqb (step_code e told b place) 0)
    (λ q. by_cases (eqb place (place_of e (count_of (used e b)) (used e b))) (λ r. rw (q, r) refl) (λ r. rw (q, r) refl)) (λ q. rw q refl)

pub walk_no_gap : (e : Edition) → WalkNoGap e
unfolding WalkNoGap is_gap
walk_no_gap e told b place h = let z : ◌≡◌ {A = ℕ} 1 0 = sym (ap is_gap h) ∙ seen_no_gap e told b place in omega arith
