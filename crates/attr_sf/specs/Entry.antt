-- An attribute: its flags, name and value, when it is legal, when it is the one asked for, and its bytes.
-- Assumes nothing.
use Rattle.std.specs.Prelude.{ℕ, ◌-◌, Bool, true, not, ◌&&◌, List, [], ◌∷◌, ◌++◌, eqb, leb, length}
use Rattle.std.specs.Int.Bits.{bit_and}
use Rattle.std.specs.Int.Count.{ones}
use Rattle.be.specs.Lists.{some_of, keep, same}
use Rattle.records.specs.Records.{joined}
use Rattle.name.specs.Name.{legal_attr_name}

pub record Entry : Type 0 where
  pub flags : ℕ
  pub name : List ℕ
  pub value : List ℕ

abbrev pub entry : ℕ → List ℕ → List ℕ → Entry
entry g n v = record { flags = g; name = n; value = v }

-- Flags: 2 trusted, 4 secure, 0 user
abbrev pub trusted : ℕ
trusted = 2

abbrev pub secure : ℕ
secure = 4

-- one byte, at most one of the two namespace bits is set (the count of ones) and no other bit
unfoldable pub legal_flags : ℕ → Bool
legal_flags g = leb g 255 && (leb (ones g) 1 && eqb (bit_and g (255 - trusted - secure)) 0)

-- a legal name with legal flags
unfoldable pub legal_key : List ℕ → ℕ → Bool
legal_key n g = legal_attr_name n && legal_flags g

-- the attribute has this name and these flags
unfoldable pub is_key : List ℕ → ℕ → Entry → Bool
is_key n g x = eqb g x.flags && same n x.name

-- no two have the same name and flags
unfoldable pub distinct : List Entry → Bool
distinct [] = true
distinct (x ∷ xs) = not (some_of (is_key x.name x.flags) xs) && distinct xs

-- all but the one asked for, in order
unfoldable pub others : List ℕ → ℕ → List Entry → List Entry
others n g xs = keep (λ x. not (is_key n g x)) xs

-- Entry: namelen, valuelen, flags, name, value
unfoldable pub entry_bytes : Entry → List ℕ
entry_bytes x = length x.name ∷ length x.value ∷ x.flags ∷ (x.name ++ x.value)

-- entries one after the other
abbrev pub run : List Entry → List ℕ
run xs = joined entry_bytes xs
