-- The codes of an inode, test by test: what a function that tests one thing after the other shows.
-- Assumes nothing.
use Prim.Native.Nat.{ℕ, ◌+◌, ◌-◌, ◌*◌, ◌≤◌, ◌<◌}
use mathlib.Core.Bool.{Bool, true, false}
use mathlib.Core.Path.{◌≡◌}
use mathlib.Core.List.{List}
use lib.ListN.{length}
use borrow.Author.Tests.{eq-eqb, ne_eqb, le-leb, lt-leb}
use Rattle.be.specs.Bytes.{byte, field}
use Rattle.edition.specs.declared.Edition.{Edition}
use Rattle.dinode.specs.Core.{inode_size, version_ok, magic_ok, kind_ok, and_kind, inode_code, attr_start, data_length}

-- a test more, after the tests that gave n
module _ (n : ℕ) (good : Bool) where
  pub kind_first : (n ≡ 0 → ⊥) → n ≡ and_kind n good
  kind_first h = rw (ne_eqb n 0 h)

  pub kind_holds : n ≡ 0 → good ≡ true → 0 ≡ and_kind n good
  kind_holds h g = rw (h, g)

  pub kind_fails : n ≡ 0 → good ≡ false → 3 ≡ and_kind n good
  kind_fails h g = rw (h, g)

module _ (e : Edition) (b : List ℕ) where
  pub not_sized : inode_size (length b) ≡ false → 1 ≡ inode_code e b
  unfolding inode_code
  not_sized h = rw h

  pub not_magic : inode_size (length b) ≡ true → (field 0 2 b ≡ 0x494e → ⊥) → 2 ≡ inode_code e b
  unfolding inode_code magic_ok
  not_magic h m = rw (h, ne_eqb _ _ m)

  pub not_version : inode_size (length b) ≡ true → field 0 2 b ≡ 0x494e → version_ok e (byte 4 b) ≡ false → 3 ≡ inode_code e b
  unfolding inode_code magic_ok kind_ok
  not_version h m v = rw (h, eq-eqb _ _ m, v)

  pub not_inside : inode_size (length b) ≡ true → field 0 2 b ≡ 0x494e → version_ok e (byte 4 b) ≡ true
      → length b < e.literal + 8 * byte 82 b → 3 ≡ inode_code e b
  unfolding inode_code magic_ok kind_ok attr_start
  not_inside h m v l = rw (h, eq-eqb _ _ m, v, lt-leb _ _ l)

  pub all_three : inode_size (length b) ≡ true → field 0 2 b ≡ 0x494e → version_ok e (byte 4 b) ≡ true
      → e.literal + 8 * byte 82 b ≤ length b → 0 ≡ inode_code e b
  unfolding inode_code magic_ok kind_ok attr_start
  all_three h m v l = rw (h, eq-eqb _ _ m, v, le-leb _ _ l)

  pub length_whole : byte 82 b ≡ 0 → length b - e.literal ≡ data_length e b
  unfolding data_length
  length_whole f = rw f

  pub length_part : (byte 82 b ≡ 0 → ⊥) → 8 * byte 82 b ≡ data_length e b
  unfolding data_length
  length_part f = rw (ne_eqb _ _ f)
