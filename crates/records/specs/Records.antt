-- Records that lie end to end: `size p` says how long the record at place p is.
-- Assumes nothing.
use Rattle.std.specs.Prelude.{ℕ, zero, suc, ◌+◌, Bool, ◌||◌, List, [], ◌∷◌, ◌++◌, map, eqb, leb}
use Rattle.be.specs.Lists.{some_of}

-- where the record behind n records from a place on starts: their end
unfoldable pub start : (ℕ → ℕ) → ℕ → ℕ → ℕ
start size zero at = at
start size (suc n) at = start size n (at + size at)

-- where n records from a place on start
unfoldable pub places : (ℕ → ℕ) → ℕ → ℕ → List ℕ
places size zero at = []
places size (suc n) at = at ∷ places size n (at + size at)

-- these records, as they are read
abbrev pub read_records : {A : Type 0} → (ℕ → ℕ) → (ℕ → A) → ℕ → ℕ → List A
read_records size read n at = map read (places size n at)

-- TILE: n records from a place on use exactly the bytes up to end. Lengths only add up, so none of them reaches past it
abbrev pub tiled : (ℕ → ℕ) → ℕ → ℕ → ℕ → Bool
tiled size end n at = eqb (start size n at) end

-- n records from a place on lie before end (for code and proofs alone)
abbrev pub within : (ℕ → ℕ) → ℕ → ℕ → ℕ → Bool
within size end n at = leb (start size n at) end

-- a walk's places are record starts and the list's end: of n records from a place on
unfoldable pub stands : (ℕ → ℕ) → ℕ → ℕ → ℕ → Bool
stands size n at place = some_of (eqb place) (places size n at) || eqb place (start size n at)

-- records written one after the other
abbrev pub joined : {A : Type 0} → (A → List ℕ) → List A → List ℕ
joined bytes_of [] = []
joined bytes_of (x ∷ xs) = bytes_of x ++ joined bytes_of xs
