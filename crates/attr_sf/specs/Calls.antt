-- What the calls on an inode's attributes answer, and the bytes that they leave.
-- Assumes nothing.
use Rattle.std.specs.Prelude.{ℕ, ◌+◌, ◌≡◌, Bool, cond, ◌&&◌, List, [], ◌∷◌, ◌++◌, eqb, leb, ltb, length, Result, Ok, Err}
use Rattle.refusal.specs.Refusal.{ASKED, ABSENT, NOROOM, answered, outcome}
use Rattle.be.specs.Codes.{◌unless◌then◌, ◌and_then◌}
use Rattle.be.specs.Bytes.{byte, part, put}
use Rattle.edition.specs.declared.Edition.{Edition}
use Rattle.dinode.specs.Core.{attributes_code, attr_start, attr_fork}
use Rattle.attr_sf.specs.Entry.{Entry, entry, legal_key, others}
use Rattle.attr_sf.specs.Fork.{totsize, stored, fork_verdict, key_place, fork_with, fits}
use Rattle.attr_sf.specs.declared.Attr.{Attr}
use Rattle.attr_sf.specs.declared.Place.{Place}

-- ---- the tests

-- the first test of the inode and its attribute fork that fails; 0 when none does
unfoldable pub verdict : Edition → List ℕ → ℕ
verdict e b = attributes_code e b and_then fork_verdict (attr_fork e b)

-- 11 ASKED: the caller's name or flags are not legal
unfoldable pub asked_code : Edition → List ℕ → List ℕ → ℕ → ℕ
asked_code e b name flags = verdict e b and_then ASKED unless legal_key name flags then 0

-- ---- lookup

-- an attribute with this name and these flags is stored
unfoldable pub held : List ℕ → List ℕ → ℕ → Bool
held f name flags = ltb (key_place f name flags) (totsize f)

-- 13 ABSENT: lookup or removal: no such live entry
unfoldable pub held_request : List ℕ → List ℕ → ℕ → ℕ
held_request f name flags = ABSENT unless held f name flags then 0

unfoldable pub lookup_code : Edition → List ℕ → List ℕ → ℕ → ℕ
lookup_code e b name flags = asked_code e b name flags and_then held_request (attr_fork e b) name flags

-- the entry at a place of the fork that starts at s: where its name and its value lie in the inode
unfoldable pub attr_at : ℕ → List ℕ → ℕ → Attr
attr_at s f at =
    record {
      flags = byte (at + 2) f;
      name_start = s + (at + 3);
      name_len = byte at f;
      value_start = s + (at + 3 + byte at f);
      value_len = byte (at + 1) f;
    }

-- where its value lies
abbrev pub value_at : ℕ → List ℕ → ℕ → Place
value_at s f at = record { start = (attr_at s f at).value_start; len = (attr_at s f at).value_len }

-- where the value asked for lies in the inode whose attribute fork starts at s
unfoldable pub found_in : ℕ → List ℕ → List ℕ → ℕ → Result Place ℕ
found_in s f name flags = answered (held_request f name flags) (value_at s f (key_place f name flags))

-- what a lookup answers: where the value lies in the inode, or the refusal's number
unfoldable pub lookup : Edition → List ℕ → List ℕ → ℕ → Result Place ℕ
lookup e b name flags =
    answered (lookup_code e b name flags) (value_at (attr_start e b) (attr_fork e b) (key_place (attr_fork e b) name flags))

-- a lookup's number, 0 where there is a value
abbrev pub place_code : Result Place ℕ → ℕ
place_code = outcome

-- and the part of the inode that is handed back: a found value in place, also when valuelen is 0; a refused request's empty part is at the inode's start
abbrev pub start_of : Result Place ℕ → ℕ
start_of (Ok p) = p.start
start_of (Err k) = 0

abbrev pub length_of : Result Place ℕ → ℕ
length_of (Ok p) = p.len
length_of (Err k) = 0

abbrev pub part_of : List ℕ → Result Place ℕ → List ℕ
part_of b v = part (start_of v) (length_of v) b

-- where the value starts and how long it is, when it is found
unfoldable pub lookup_start : Edition → List ℕ → List ℕ → ℕ → ℕ
lookup_start e b name flags =
    cond (eqb (lookup_code e b name flags) 0) (attr_at (attr_start e b) (attr_fork e b) (key_place (attr_fork e b) name flags)).value_start 0

unfoldable pub lookup_length : Edition → List ℕ → List ℕ → ℕ → ℕ
lookup_length e b name flags =
    cond (eqb (lookup_code e b name flags) 0) (attr_at (attr_start e b) (attr_fork e b) (key_place (attr_fork e b) name flags)).value_len 0

-- what a lookup promises of its answer: the answer itself, and its number and values
abbrev pub LookupPromise : Edition → List ℕ → List ℕ → ℕ → Result Place ℕ → Type 0
LookupPromise e b name flags r =
    (r ≡ lookup e b name flags) × (place_code r ≡ lookup_code e b name flags)
    × (start_of r ≡ lookup_start e b name flags) × (length_of r ≡ lookup_length e b name flags)

-- ---- changes

-- Set removes an equal one and appends at the end
unfoldable pub set_entries : List ℕ → ℕ → List ℕ → List Entry → List Entry
set_entries name flags value xs = others name flags xs ++ (entry flags name value ∷ [])

-- 15 NOROOM: value over 255, count over 255, or totsize over the fork, all judged with the old one gone
unfoldable pub has_room : List ℕ → List ℕ → ℕ → List ℕ → Bool
has_room f name flags value = leb (length value) 255 && fits f (set_entries name flags value (stored f))

unfoldable pub room_request : List ℕ → List ℕ → ℕ → List ℕ → ℕ
room_request f name flags value = NOROOM unless has_room f name flags value then 0

unfoldable pub set_code : Edition → List ℕ → List ℕ → ℕ → List ℕ → ℕ
set_code e b name flags value = asked_code e b name flags and_then room_request (attr_fork e b) name flags value

-- the inode after a change with this number and these entries: only the attribute fork changes, and a refusal changes nothing
unfoldable pub changed : Edition → List ℕ → ℕ → List Entry → List ℕ
changed e b n xs = cond (eqb n 0) (put b (attr_start e b) (fork_with (attr_fork e b) xs)) b

-- a removal's number is a lookup's
abbrev pub remove_code : Edition → List ℕ → List ℕ → ℕ → ℕ
remove_code e b name flags = lookup_code e b name flags

-- Removal closes the hole and lowers totsize and count
unfoldable pub remove_bytes : Edition → List ℕ → List ℕ → ℕ → List ℕ
remove_bytes e b name flags = changed e b (remove_code e b name flags) (others name flags (stored (attr_fork e b)))

unfoldable pub set_bytes : Edition → List ℕ → List ℕ → ℕ → List ℕ → List ℕ
set_bytes e b name flags value =
    changed e b (set_code e b name flags value) (set_entries name flags value (stored (attr_fork e b)))
