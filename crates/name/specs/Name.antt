-- Names and inode numbers: which are legal, the hash of a name, and when two names are the same.
-- The edition is the parameter that will carry a disk's case option.
-- Assumes nothing.
use Rattle.std.specs.Prelude.{ℕ, ◌+◌, ◌-◌, ◌*◌, ◌/◌, ◌%◌, ◌^◌, Bool, not, ◌&&◌, ◌||◌, List, [], ◌∷◌, eqb, leb, ltb, length}
use Rattle.std.specs.Int.Bits.{bit_xor}
use Rattle.be.specs.Lists.{every, same}
use Rattle.edition.specs.declared.Edition.{Edition}

-- Names: 1 to 255 bytes, and each byte passes the test
abbrev pub legal_by : (ℕ → Bool) → List ℕ → Bool
legal_by p n = leb 1 (length n) && leb (length n) 255 && every p n

-- neither 0 nor s
abbrev pub clear_of : ℕ → ℕ → Bool
clear_of s x = not (eqb x 0 || eqb x s)

-- Directory names hold no zero byte and no "/"
abbrev pub legal_byte : ℕ → Bool
legal_byte = clear_of 47

unfoldable pub legal_name : Edition → List ℕ → Bool
legal_name e n = legal_by legal_byte n

-- Attribute names hold no zero byte
unfoldable pub legal_attr_name : List ℕ → Bool
legal_attr_name n = legal_by (λ x. not (eqb x 0)) n

-- Inode numbers: 1 to 2^56 - 1
unfoldable pub legal_number : ℕ → Bool
legal_number i = leb 1 i && ltb i (2 ^ 56)

-- 32 bits, rotated left by k
unfoldable pub rol : ℕ → ℕ → ℕ
rol k h = h * 2 ^ k % 2 ^ 32 + h / 2 ^ (32 - k)

-- Hash, for each byte: rotate 32 bits left by 7, then exclusive-or the byte
unfoldable pub hash_byte : ℕ → ℕ → ℕ
hash_byte h x = bit_xor (rol 7 h) x

unfoldable pub hash_from : ℕ → List ℕ → ℕ
hash_from h [] = h
hash_from h (x ∷ xs) = hash_from (hash_byte h x) xs

-- Hash: start at 0 (xfs_da_hashname)
unfoldable pub hash_of : Edition → List ℕ → ℕ
hash_of e n = hash_from 0 n

-- a directory name asked for is the stored name; attribute names are the same by `same` itself
unfoldable pub same_name : Edition → List ℕ → List ℕ → Bool
same_name e n m = same n m

abbrev pub dot : List ℕ
dot = 46 ∷ []

abbrev pub dotdot : List ℕ
dotdot = 46 ∷ 46 ∷ []

-- FIXED: "." or ".."
unfoldable pub fixed_name : List ℕ → Bool
fixed_name n = same n dot || same n dotdot
