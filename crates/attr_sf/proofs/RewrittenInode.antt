-- An inode whose attribute fork is rewritten: the tests before the fork answer as before, the fork is the new one, and nothing outside has changed.
-- Assumes nothing.
use Prim.Native.Nat.{ℕ, ◌+◌, ◌-◌, ◌≤◌, ◌<◌}
use native.Mathlib.Omega.{arith}
use mathlib.Core.Path.{◌≡◌, sym, ◌∙◌, ap}
use mathlib.Core.List.{List, ◌++◌, append-nil}
use lib.ListN.{length, take, drop, drop_of_length-le}
use lib.Seq.{drop_at, length-take-le}
use Rattle.be.specs.Bytes.{byte, field, be, put}
use Rattle.be.proofs.Parts.{field_1}
use Rattle.be.proofs.Writes.{length_put, put_whole, take_put, part_before}
use Rattle.edition.specs.Edition.{Sane}
use Rattle.edition.specs.declared.Edition.{Edition}
use Rattle.dinode.specs.Core.{magic_ok, kind_ok, attributes_ok, inode_code, attributes_code, attr_start, attr_fork}
use Rattle.attr_sf.proofs.InodeTests.{start_inside}

same_core : (e : Edition) (b c : List ℕ) → length c ≡ length b → field 0 2 c ≡ field 0 2 b → byte 4 c ≡ byte 4 b → byte 82 c ≡ byte 82 b → byte 83 c ≡ byte 83 b
    → attributes_code e c ≡ attributes_code e b
unfolding attributes_code inode_code magic_ok kind_ok attributes_ok attr_start
same_core e b c l m v k a = rw (l, m, v, k, a)

same_start : (e : Edition) (b c : List ℕ) → byte 82 c ≡ byte 82 b → attr_start e c ≡ attr_start e b
unfolding attr_start
same_start e b c q = rw q

module _ (e : Edition) (sane : Sane e) (b : List ℕ) (z : attributes_code e b ≡ 0) (f : List ℕ) (l : length f ≡ length b - attr_start e b) where
  s_above : 100 ≤ attr_start e b
  unfolding attr_start
  s_above = omega (arith, sane.literal_least)

  byte_kept : (o : ℕ) → o < 100 → byte o (put b (attr_start e b) f) ≡ byte o b
  byte_kept o h =
      sym (field_1 (put b (attr_start e b) f) o) ∙ ap be (part_before b o 1 (attr_start e b) f (omega (arith, s_above))) ∙ field_1 b o

  pub code_kept : attributes_code e (put b (attr_start e b) f) ≡ 0
  code_kept =
      same_core e b (put b (attr_start e b) f) (length_put b (attr_start e b) f) (ap be (part_before b 0 2 (attr_start e b) f (omega (arith, s_above))))
      (byte_kept 4 (omega arith)) (byte_kept 82 (omega arith)) (byte_kept 83 (omega arith)) ∙ z

  start_kept : attr_start e (put b (attr_start e b) f) ≡ attr_start e b
  start_kept = same_start e b (put b (attr_start e b) f) (byte_kept 82 (omega arith))

  new_behind : drop (attr_start e b) (put b (attr_start e b) f) ≡ f
  new_behind =
      let i : attr_start e b ≤ length b = start_inside e b z in
      ap (drop (attr_start e b)) (put_whole b (attr_start e b) f (omega arith))
      ∙ drop_at (take (attr_start e b) b) (f ++ drop (attr_start e b + length f) b) (attr_start e b) (length-take-le (attr_start e b) b i)
      ∙ ap (λ (x : List ℕ). f ++ x) (drop_of_length-le b {i = attr_start e b + length f} (omega arith)) ∙ append-nil f

  pub fork_kept : attr_fork e (put b (attr_start e b) f) ≡ f
  unfolding attr_fork
  fork_kept = rw start_kept new_behind

  pub outside_kept : take (attr_start e b) (put b (attr_start e b) f) ≡ take (attr_start e b) b
  outside_kept = take_put b (attr_start e b) (attr_start e b) f (omega arith)
