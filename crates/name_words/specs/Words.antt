-- Names by words of eight bytes: marks in a word's lanes, four words, and a second hash.
-- Assumes nothing.
use Rattle.std.specs.Prelude.{ℕ, zero, suc, ◌-◌, ◌*◌, ◌/◌, ◌%◌, ◌^◌, ◌<◌, Bool, cond, ◌&&◌, ◌≡◌, List, ◌++◌, eqb, length, take, drop}
use Rattle.std.specs.Int.Bits.{bit_and, bit_xor}
use Rattle.be.specs.Lists.{every}
use Rattle.be.specs.Bytes.{part}
use Rattle.be.specs.Words.{le, to_le}
use Rattle.name.specs.Name.{hash_from, legal_byte}

-- the high bit of every lane is set, of the eight that a word has
unfoldable pub marked : ℕ → Bool
marked m = eqb (bit_and m 0x8080808080808080) 0x8080808080808080

-- the bytes of four words
unfoldable pub bytes_32 : ℕ → ℕ → ℕ → ℕ → List ℕ
bytes_32 a b c d = to_le 8 a ++ (to_le 8 b ++ (to_le 8 c ++ to_le 8 d))

-- of the bytes from i up to end, those up to a place have been read, and shown these marks and this hash
pub record HalfRead (b : List ℕ) (i end at marks hash : ℕ) : Type 0 where
  pub short : at < end
  pub hashed : hash_from 0 (part i (end - i) b) ≡ hash_from hash (part at (end - at) b)
  pub judged : every legal_byte (part i (end - i) b) ≡ (marked marks && every legal_byte (part at (end - at) b))

-- a second hash of a name, its bytes taken by eights: a word more
unfoldable pub mix : ℕ → ℕ → ℕ
mix k w = bit_xor (bit_xor k w % 4294967296 * 2654435761) (bit_xor k w / 4294967296)

-- f words, and the last, of 1 to 8 bytes
unfoldable pub key_from : ℕ → ℕ → List ℕ → ℕ
key_from zero k l = mix k (le l * 2 ^ (64 - 8 * length l))
key_from (suc f) k l = key_from f (mix k (le (take 8 l))) (drop 8 l)

-- a name's key, a number below 2 ^ 32: its length, then its words, and once more over itself, so that every bit of it is mixed
unfoldable pub key_of : List ℕ → ℕ
key_of l =
    let k = key_from ((length l - 1) / 8) (length l) l in
    cond (eqb (length l) 0) 0 (mix k (k / 4294967296) / 131072 % 4294967296)
