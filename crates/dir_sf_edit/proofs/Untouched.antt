-- What a change leaves in the inode: the size and the fork that were written, and everything else as it was.
-- Assumes nothing.
use Prim.Native.Nat.{ℕ, ◌+◌, ◌≤◌, ◌<◌}
use native.Mathlib.Omega.{arith}
use mathlib.Core.Path.{◌≡◌, refl, sym, ◌∙◌, ap, ap₂}
use mathlib.Core.List.{List}
use lib.ListN.{length, take}
use Rattle.be.specs.Bytes.{be, byte, part, field, to_be, put, written}
use Rattle.be.proofs.Numbers.{length_to_be}
use Rattle.be.proofs.Parts.{field_1}
use Rattle.be.proofs.Writes.{length_put, part_before, part_behind, part_inside, field_put}
use Rattle.edition.specs.declared.Edition.{Edition}
use Rattle.edition.specs.Edition.{Sane}
use Rattle.dinode.specs.Core.{size_place, magic_ok, attr_start, kind_ok, directory_ok, inode_code, directory_code, data_length, data_fork}
use Rattle.dinode.proofs.Sound.{sound_size, directory_sound}
use Rattle.dir_sf.specs.Entry.{SfEntry}
use Rattle.dir_sf.specs.Fork.{parent, lay, lay_fork, fork_verdict}
use Rattle.dir_sf.specs.Inode.{size_of, used, verdict, with_entries}
use Rattle.dir_sf.proofs.Tested.{is_directory, is_told, used_bounds}
use Rattle.dir_sf_edit.proofs.ReadBack.{length_lay_fork, lay_used}

-- an inode's code hangs on its length and six of its fields
same_code : (e : Edition) (b c : List ℕ) → length c ≡ length b → field 0 2 c ≡ field 0 2 b → field 2 2 c ≡ field 2 2 b → byte 4 c ≡ byte 4 b → byte 5 c ≡ byte 5 b
    → byte 82 c ≡ byte 82 b → directory_code e c ≡ directory_code e b
unfolding directory_code inode_code magic_ok kind_ok attr_start directory_ok
same_code e b c l f₀ f₂ f₄ f₅ f₈₂ = rw (l, f₀, f₂, f₄, f₅, f₈₂) refl

same_length : (e : Edition) (b c : List ℕ) → length c ≡ length b → byte 82 c ≡ byte 82 b → data_length e c ≡ data_length e b
unfolding data_length
same_length e b c l f = rw (l, f) refl

module _ (e : Edition) (sane : Sane e) (told : ℕ) (b : List ℕ) (v : verdict e told b ≡ 0) (ys : List SfEntry) (fits : length (lay e (parent (used e b)) ys) ≤ data_length e b) where
  L : ℕ
  L = length (lay e (parent (used e b)) ys)

  F : List ℕ
  F = lay_fork e (data_length e b) (parent (used e b)) ys

  two : with_entries e b ys ≡ put (put b size_place (to_be 8 L)) e.literal F
  unfolding with_entries written L F
  two = refl

  bounds : (256 ≤ length b) × (length b ≤ 2048)
  bounds = sound_size e b (directory_sound e b (is_directory e sane told b v))

  inside : e.literal + data_length e b ≤ length b
  inside = (used_bounds e sane told b v (size_of b) refl).3

  fork_long : length F ≡ data_length e b
  unfolding F
  fork_long = length_lay_fork e (parent (used e b)) ys (data_length e b) fits

  pub long : length (with_entries e b ys) ≡ length b
  long = ap length two ∙ length_put (put b size_place (to_be 8 L)) e.literal F ∙ length_put b size_place (to_be 8 L)

  low : (o n : ℕ) → o + n ≤ size_place → field o n (with_entries e b ys) ≡ field o n b
  low o n h =
      ap (field o n) two
      ∙ ap be (part_before (put b size_place (to_be 8 L)) o n e.literal F (omega (arith, sane.literal_least)) ∙ part_before b o n size_place (to_be 8 L) h)

  low_byte : (o : ℕ) → o < size_place → byte o (with_entries e b ys) ≡ byte o b
  low_byte o h = sym (field_1 (with_entries e b ys) o) ∙ low o 1 (omega arith) ∙ field_1 b o

  forkoff : byte 82 (with_entries e b ys) ≡ byte 82 b
  forkoff =
      sym (field_1 (with_entries e b ys) 82) ∙ ap (field 82 1) two
      ∙ ap be (part_before (put b size_place (to_be 8 L)) 82 1 e.literal F (omega (arith, sane.literal_least))
      ∙ part_behind b 82 1 size_place (to_be 8 L) (omega (arith, length_to_be 8 L)))
      ∙ field_1 b 82

  same_dir : directory_code e (with_entries e b ys) ≡ 0
  same_dir =
      same_code e b (with_entries e b ys) long (low 0 2 (omega arith)) (low 2 2 (omega arith)) (low_byte 4 (omega arith)) (low_byte 5 (omega arith)) forkoff
      ∙ is_directory e sane told b v

  pub fork_kept : data_length e (with_entries e b ys) ≡ data_length e b
  fork_kept = same_length e b (with_entries e b ys) long forkoff

  size_written : size_of (with_entries e b ys) ≡ L
  unfolding L
  size_written =
      let x = used_bounds e sane told b v (size_of b) refl in
      ap size_of two ∙ ap be (part_before (put b size_place (to_be 8 L)) size_place 8 e.literal F (omega (arith, sane.literal_least)))
      ∙ field_put b size_place 8 L (omega (arith, bounds)) (omega arith)

  fork_written : data_fork e (with_entries e b ys) ≡ F
  unfolding data_fork
  fork_written =
      let b₁ : List ℕ = put b size_place (to_be 8 L) in
      let h : e.literal + length F ≤ length b₁ = omega (arith, inside, fork_long, length_put b size_place (to_be 8 L)) in
      ap₂ (λ (k : ℕ) (l : List ℕ). part e.literal k l) (fork_kept ∙ sym fork_long) two ∙ part_inside b₁ e.literal F h

  -- the used bytes are the directory laid out
  pub used_after : used e (with_entries e b ys) ≡ lay e (parent (used e b)) ys
  unfolding used F L
  used_after = ap₂ (λ (k : ℕ) (l : List ℕ). take k l) size_written fork_written ∙ lay_used e (parent (used e b)) ys (data_length e b)

  -- the tests, from the fork's
  pub verdict_after : fork_verdict e told (lay_fork e (data_length e b) (parent (used e b)) ys) (length (lay e (parent (used e b)) ys)) ≡ 0 → verdict e told (with_entries e b ys) ≡ 0
  unfolding verdict F L
  verdict_after h =
      rw (is_told e sane told b v, same_dir) (ap₂ (λ (l : List ℕ) (k : ℕ). fork_verdict e told l k) fork_written size_written ∙ h)
