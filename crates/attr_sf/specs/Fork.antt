-- A fork of attributes: header, entries, unused bytes; tests 4 to 10. Places are counted from the fork's start.
-- Assumes nothing.
use Rattle.std.specs.Prelude.{ℕ, zero, suc, ◌+◌, ◌-◌, Bool, cond, ◌&&◌, List, ◌++◌, leb, length, replicate}
use Rattle.refusal.specs.Refusal.{SPAN, TILE, NAME, NUMBER, TWICE}
use Rattle.be.specs.Codes.{◌unless◌then◌}
use Rattle.be.specs.Lists.{every}
use Rattle.be.specs.Bytes.{byte, field, part, to_be}
use Rattle.records.specs.Records.{read_records, tiled}
use Rattle.name.specs.Name.{legal_attr_name}
use Rattle.attr_sf.specs.Entry.{Entry, legal_flags, is_key, distinct, run}

-- Header of 4 bytes: totsize (2), count, one pad byte
abbrev pub header : ℕ
header = 4

unfoldable pub totsize : List ℕ → ℕ
totsize f = field 0 2 f

unfoldable pub count : List ℕ → ℕ
count f = byte 2 f

-- the bytes of the entry that starts at a place: namelen, valuelen, flags, name, value
unfoldable pub size_at : List ℕ → ℕ → ℕ
size_at f at = 3 + byte at f + byte (at + 1) f

unfoldable pub entry_at : List ℕ → ℕ → Entry
entry_at f at =
    record {
      flags = byte (at + 2) f;
      name = part (at + 3) (byte at f) f;
      value = part (at + 3 + byte at f) (byte (at + 1) f) f;
    }

-- n entries from a place on
abbrev pub entries : List ℕ → ℕ → ℕ → List Entry
entries f n at = read_records (size_at f) (entry_at f) n at

-- the entries that are stored
unfoldable pub stored : List ℕ → List Entry
stored f = entries f (count f) header

-- an entry's own tests
abbrev pub name_legal_of : Entry → Bool
name_legal_of x = legal_attr_name x.name

abbrev pub flags_legal_of : Entry → Bool
flags_legal_of x = legal_flags x.flags

-- 4 SPAN: fork under 4 bytes, totsize under 4 or over the fork
unfoldable pub span_ok : List ℕ → Bool
span_ok f = leb header (length f) && (leb header (totsize f) && leb (totsize f) (length f))

-- 5 TILE: count entries use exactly totsize bytes
unfoldable pub tile_ok : List ℕ → Bool
tile_ok f = tiled (size_at f) (totsize f) (count f) header

-- 6 NAME: a stored name breaks the rules
unfoldable pub names_ok : List ℕ → Bool
names_ok f = every name_legal_of (stored f)

-- 7 NUMBER: an attribute's flags are wrong
unfoldable pub flags_ok : List ℕ → Bool
flags_ok f = every flags_legal_of (stored f)

-- 10 TWICE: same name and flags
unfoldable pub once_ok : List ℕ → Bool
once_ok f = distinct (stored f)

-- the first test that fails, by its number; 0 when none does
unfoldable pub fork_verdict : List ℕ → ℕ
fork_verdict f =
    SPAN unless span_ok f then
    TILE unless tile_ok f then
    NAME unless names_ok f then
    NUMBER unless flags_ok f then
    TWICE unless once_ok f then 0

-- where the entry with this name and flags starts, among n entries from a place on; their end when none has them
unfoldable pub seek : List ℕ → List ℕ → ℕ → ℕ → ℕ → ℕ
seek f name flags zero at = at
seek f name flags (suc n) at =
    let next = seek f name flags n (at + size_at f at) in cond (is_key name flags (entry_at f at)) at next

unfoldable pub key_place : List ℕ → List ℕ → ℕ → ℕ
key_place f name flags = seek f name flags (count f) header

-- the fork with these entries: the pad byte is left alone, unused bytes are zeroed
unfoldable pub fork_with : List ℕ → List Entry → List ℕ
fork_with f xs =
    to_be 2 (header + length (run xs)) ++ (to_be 1 (length xs) ++ (part 3 1 f ++ (run xs ++ replicate (length f - (header + length (run xs))) 0)))

-- the entries fit: count is at most 255, and totsize not over the fork
unfoldable pub fits : List ℕ → List Entry → Bool
fits f xs = leb (length xs) 255 && leb (header + length (run xs)) (length f)
