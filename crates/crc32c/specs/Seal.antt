-- The checksum field of a V5 block or inode: four bytes, least significant first, that count as zero in the sum.
-- Assumes nothing.
use Rattle.std.specs.Prelude.{ℕ, Bool, List, [], ◌∷◌, eqb}
use Rattle.be.specs.Bytes.{part, put}
use Rattle.be.specs.Words.{le, to_le}
use Rattle.crc32c.specs.Crc.{crc_of}

abbrev pub zeros : List ℕ
zeros = 0 ∷ 0 ∷ 0 ∷ 0 ∷ []

-- what the field at a place should hold
unfoldable pub sum_at : ℕ → List ℕ → ℕ
sum_at at b = crc_of (put b at zeros)

-- the bytes with their field set
unfoldable pub sealed : ℕ → List ℕ → List ℕ
sealed at b = put b at (to_le 4 (sum_at at b))

-- the field holds what it should
unfoldable pub seal_ok : ℕ → List ℕ → Bool
seal_ok at b = eqb (le (part at 4 b)) (sum_at at b)
