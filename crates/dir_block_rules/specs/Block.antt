-- A block taken apart: header, records, slots, tail.
-- Assumes nothing.
use Rattle.std.specs.Prelude.{ℕ, zero, suc, ◌+◌, ◌-◌, ◌*◌, Bool, not, List, [], ◌∷◌, ◌++◌, eqb, length, drop}
use Rattle.be.specs.Lists.{total}
use Rattle.be.specs.Bytes.{to_be, field, part}
use Rattle.edition.specs.declared.Edition.{Edition}
use Rattle.edition.specs.Edition.{entry_size}
use Rattle.dir_block_rules.specs.Record.{Rec, cut, size, entries, gaps, name}

-- at the end a tail: count, stale (4 bytes each)
unfoldable pub count_of : List ℕ → ℕ
count_of b = field (length b - 8) 4 b

unfoldable pub stale_of : List ℕ → ℕ
stale_of b = field (length b - 4) 4 b

-- before the tail, count slots of 8 bytes: where the data ends and the first slot stands
unfoldable pub data_end : List ℕ → ℕ
data_end b = length b - 8 - 8 * count_of b

-- the data runs from the header's end to the first slot
unfoldable pub records : Edition → List ℕ → List Rec
records e b = cut e (length b) e.header (part e.header (data_end b - e.header) b)

-- a slot: hash, address (4 bytes each)
pub record Slot : Type 0 where
  pub hash : ℕ
  pub addr : ℕ

abbrev pub slot : ℕ → ℕ → Slot
slot h a = record { hash = h; addr = a }

-- the first n slots of the bytes
unfoldable pub slots_in : ℕ → List ℕ → List Slot
slots_in zero d = []
slots_in (suc n) d = slot (field 0 4 d) (field 4 4 d) ∷ slots_in n (drop 8 d)

unfoldable pub slots : List ℕ → List Slot
slots b = slots_in (count_of b) (drop (data_end b) b)

unfoldable pub slot_bytes : List Slot → List ℕ
slot_bytes [] = []
slot_bytes (s ∷ ss) = to_be 4 s.hash ++ (to_be 4 s.addr ++ slot_bytes ss)

-- a stale slot has address 0
abbrev pub is_stale : Slot → Bool
is_stale s = eqb s.addr 0

abbrev pub is_live : Slot → Bool
is_live s = not (is_stale s)

-- the sum of demand 3: header, each live entry's E, each gap's length, 8 for each slot, 8 for the tail
unfoldable pub sum_of_parts : Edition → List ℕ → ℕ
sum_of_parts e b =
    e.header + total (λ r. entry_size e (length (name r))) (entries (records e b)) + total size (gaps (records e b)) + 8 * length (slots b) + 8
