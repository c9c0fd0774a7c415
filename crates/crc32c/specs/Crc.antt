-- CRC-32C, bit by bit: the polynomial 0x1edc6f41, bits reversed, so that the lowest bit goes out first. And what its tables hold.
-- Assumes nothing.
use Rattle.std.specs.Prelude.{ℕ, zero, suc, ◌+◌, ◌*◌, ◌/◌, ◌%◌, ◌<◌, ◌≡◌, Bool, true, false, ◌&&◌, List, [], ◌∷◌, eqb, get_or}
use Rattle.std.specs.Int.Bits.{bit_xor}

-- one step: the lowest bit goes out, and where it was set the polynomial goes in (0x82f63b78)
unfoldable pub poly_step : ℕ → ℕ
poly_step c = bit_xor (c / 2) (c % 2 * 2197175160)

unfoldable pub poly_steps : ℕ → ℕ → ℕ
poly_steps zero c = c
poly_steps (suc n) c = poly_steps n (poly_step c)

-- the steps of a byte
unfoldable pub eight : ℕ → ℕ
eight c = poly_steps 8 c

-- the register c after the bytes
unfoldable pub crc_from : ℕ → List ℕ → ℕ
crc_from c [] = c
crc_from c (b ∷ bs) = crc_from (eight (bit_xor c b)) bs

-- the checksum: the register starts with all ones, and its complement is the answer (0xffffffff)
unfoldable pub crc_of : List ℕ → ℕ
crc_of s = bit_xor (crc_from 4294967295 s) 4294967295

-- ---- tables: for code and proofs alone, but `table_ok`, which is the rule of the whole table

-- each word is eight polynomial steps of its place, counted from i: the test of the whole table
abbrev pub table_ok : ℕ → List ℕ → Bool
table_ok i [] = true
table_ok i (x ∷ xs) = eqb x (eight i) && table_ok (suc i) xs

-- each word of the second list is eight steps of the word of the first at its place
abbrev pub later_ok : List ℕ → List ℕ → Bool
later_ok xs [] = true
later_ok [] (y ∷ ys) = false
later_ok (x ∷ xs) (y ∷ ys) = eqb y (eight x) && later_ok xs ys

-- word i is eight polynomial steps of i
unfoldable pub Table : List ℕ → Type 0
Table t = (i : ℕ) → i < 256 → get_or t i 0 ≡ poly_steps 8 i

-- seven tables one after the other: table j holds 8 × (j + 2) steps of each index
unfoldable pub Later : List ℕ → Type 0
Later u = (j i : ℕ) → j < 7 → i < 256 → get_or u (j * 256 + i) 0 ≡ poly_steps (16 + j * 8) i
