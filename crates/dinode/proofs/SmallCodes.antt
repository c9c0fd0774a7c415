-- Every number that a test of an inode gives is 0 or a refusal of the paper's: at most the highest.
-- Assumes nothing.
use Prim.Native.Nat.{ℕ, ◌≤◌}
use mathlib.Core.List.{List}
use borrow.Author.Tests.{leb-true}
use Rattle.refusal.specs.Refusal.{HIGHEST}
use Rattle.be.proofs.Codes.{unless_le}
use Rattle.edition.specs.declared.Edition.{Edition}
use Rattle.dinode.specs.Core.{inode_code, directory_code, attributes_code}

module _ (e : Edition) (b : List ℕ) where
  pub inode_small : inode_code e b ≤ HIGHEST
  unfolding inode_code
  inode_small = search (unless_le, leb-true)

  pub directory_small : directory_code e b ≤ HIGHEST
  unfolding directory_code
  directory_small = search (unless_le, inode_small, leb-true)

  pub attributes_small : attributes_code e b ≤ HIGHEST
  unfolding attributes_code
  attributes_small = search (unless_le, inode_small, leb-true)
