-- What the rules take from an edition, the sizes of directory blocks, and E.
-- Assumes nothing.
use Rattle.std.specs.Prelude.{ℕ, ◌+◌, ◌*◌, ◌/◌, ◌%◌, ◌≤◌, ◌≡◌, List, [], ◌∷◌, Bool, eqb}
use Rattle.be.specs.Lists.{some_of}
use Rattle.edition.specs.declared.Edition.{Edition}

-- the V4 edition without the file-type byte
abbrev pub v4 : Edition
v4 =
    record { magic = 0x58443242; best = 4; header = 16; first = 48; ftype = 0; literal = 100; oldest = 1; newest = 2 }

-- the largest directory block
abbrev pub largest_block : ℕ
largest_block = 65536

-- Directory block: a power of two, 512 to 65,536
abbrev pub block_sizes : List ℕ
block_sizes = 512 ∷ 1024 ∷ 2048 ∷ 4096 ∷ 8192 ∷ 16384 ∷ 32768 ∷ largest_block ∷ []

unfoldable pub block_size : ℕ → Bool
block_size n = some_of (eqb n) block_sizes

-- n, up to the next multiple of 8
abbrev pub up8 : ℕ → ℕ
up8 n = (n + 7) / 8 * 8

-- E(n): 11 + n rounded up to a multiple of 8, and the file type where the edition has one
unfoldable pub entry_size : Edition → ℕ → ℕ
entry_size e n = up8 (11 + e.ftype + n)

-- what the laws and the shared code ask of an edition's sizes; each is a comparison of numbers
pub record Sane (e : Edition) : Type 0 where
  pub header_eights : e.header % 8 ≡ 0
  pub header_most : e.header ≤ 64
  pub magic_before : 4 ≤ e.best
  pub best_inside : e.best + 12 ≤ e.header
  pub first_after : e.first ≡ e.header + 32
  pub ftype_most : e.ftype ≤ 1
  pub literal_least : 100 ≤ e.literal
  pub literal_most : e.literal ≤ 176
