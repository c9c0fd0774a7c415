-- Bytes, big-endian numbers in them, and writes into them. Contracts speak of reading and writing in these forms, and in words (Words.antt).
-- Assumes nothing.
use Rattle.std.specs.Prelude.{ℕ, zero, suc, ◌+◌, ◌*◌, ◌/◌, ◌%◌, ◌^◌, List, [], ◌∷◌, Bool, ltb, take, drop, get_or}
use Rattle.be.specs.Lists.{every}

-- every element is a byte
abbrev pub bytes : List ℕ → Bool
bytes = every (λ x. ltb x 256)

unfoldable pub be_from : ℕ → List ℕ → ℕ
be_from a [] = a
be_from a (x ∷ xs) = be_from (a * 256 + x) xs

-- the number that the bytes are, most significant first
unfoldable pub be : List ℕ → ℕ
be xs = be_from 0 xs

-- v in n bytes, most significant first
unfoldable pub to_be : ℕ → ℕ → List ℕ
to_be zero v = []
to_be (suc n) v = v / 256 ^ n % 256 ∷ to_be n v

-- the byte at place o
abbrev pub byte : ℕ → List ℕ → ℕ
byte o b = get_or b o 0

-- the n bytes from place o on
abbrev pub part : ℕ → ℕ → List ℕ → List ℕ
part o n b = take n (drop o b)

-- the number in the n bytes from place o on
abbrev pub field : ℕ → ℕ → List ℕ → ℕ
field o n b = be (part o n b)

-- b with xs in place of what stands from o on; what would fall past the end is dropped, so the length stays
unfoldable pub put : List ℕ → ℕ → List ℕ → List ℕ
put [] o xs = []
put (y ∷ ys) zero [] = y ∷ ys
put (y ∷ ys) zero (x ∷ xs) = x ∷ put ys zero xs
put (y ∷ ys) (suc o) xs = y ∷ put ys o xs

-- bytes to be written from a place on
pub record Write : Type 0 where
  pub place : ℕ
  pub what : List ℕ

abbrev pub write : ℕ → List ℕ → Write
write o xs = record { place = o; what = xs }

-- the writes made one after the other; what is not written stays
unfoldable pub written : List ℕ → List Write → List ℕ
written b [] = b
written b (w ∷ ws) = written (put b w.place w.what) ws
