-- Lookup, insert and removal, of an accepted fork's parent and entries: what a request itself comes to, and what it changes.
-- Assumes nothing.
use Rattle.std.specs.Prelude.{ℕ, suc, ◌+◌, Bool, not, cond, ◌&&◌, ◌||◌, List, [], ◌∷◌, leb, ltb, length, Option, Some, None, is_some}
use Rattle.refusal.specs.Refusal.{ASKED, FIXED, ABSENT, EXISTS, NOROOM}
use Rattle.be.specs.Lists.{same, without_first}
use Rattle.be.specs.Codes.{◌unless◌then◌}
use Rattle.edition.specs.declared.Edition.{Edition}
use Rattle.edition.specs.Edition.{entry_size}
use Rattle.name.specs.Name.{legal_name, same_name, fixed_name, dot, dotdot}
use Rattle.dir.specs.declared.Target.{Target}
use Rattle.dir.specs.Target.{target, legal_target, kept_of}
use Rattle.dir_sf.specs.Entry.{SfEntry, entry, empty_entry, next_tag, end_tag, in_block}
use Rattle.dir_sf.specs.Fork.{lay, holds}

-- ---- lookup

-- the first entry of the name; where there is none, an empty one
unfoldable pub entry_in : Edition → List ℕ → List SfEntry → SfEntry
entry_in e n [] = empty_entry
entry_in e n (x ∷ xs) = cond (same_name e n x.name) x (entry_in e n xs)

-- what its name stands for, and its tag
abbrev pub target_in : Edition → List ℕ → List SfEntry → Target
target_in e n xs = (entry_in e n xs).target

abbrev pub tag_in : Edition → List ℕ → List SfEntry → ℕ
tag_in e n xs = (entry_in e n xs).tag

-- 11 ASKED, 12 FIXED ("." looked up in a short form), 13 ABSENT
unfoldable pub lookup_request : Edition → List ℕ → List SfEntry → ℕ
lookup_request e n xs =
    ASKED unless legal_name e n then
    FIXED unless not (same n dot) then
    ABSENT unless same n dotdot || holds e n xs then 0

-- Lookup of ".." gives the parent, a directory: type 2 where the edition has one. It is told as an entry is, with tag 0
abbrev pub parent_entry : Edition → ℕ → SfEntry
parent_entry e p = entry 0 dotdot (kept_of e (target p 2))

-- the entry that a lookup finds
unfoldable pub entry_for : Edition → List ℕ → ℕ → List SfEntry → SfEntry
entry_for e n p xs = cond (same n dotdot) (parent_entry e p) (entry_in e n xs)

-- ---- insert

-- the start of the lowest gap in the tags, from low up, that holds long, if there is one
unfoldable pub gap_tag : Edition → ℕ → ℕ → List SfEntry → Option ℕ
gap_tag e long low [] = None
gap_tag e long low (x ∷ xs) =
    let r = gap_tag e long (next_tag e x) xs in
    cond (leb (low + long) x.tag) (Some low) r

-- the tag of a new entry with a name of n bytes: it follows the last entry if the TILE limit still holds; otherwise the
-- start of the lowest gap that holds E, if the limit for the larger count holds
unfoldable pub tag_for : Edition → ℕ → ℕ → List SfEntry → Option ℕ
tag_for e told n xs =
    let long = entry_size e n in
    let end = end_tag e e.first xs in
    let k = suc (length xs) in
    cond (in_block told (end + long) k) (Some end) (cond (in_block told end k) (gap_tag e long e.first xs) None)

-- the list stays in tag order
unfoldable pub placed : SfEntry → List SfEntry → List SfEntry
placed y [] = y ∷ []
placed y (x ∷ xs) = let r = placed y xs in cond (ltb y.tag x.tag) (y ∷ x ∷ xs) (x ∷ r)

-- the new entry goes in by its tag
unfoldable pub put_by : Option ℕ → List ℕ → Target → List SfEntry → List SfEntry
put_by (Some tag) n t xs = placed (entry tag n t) xs
put_by None n t xs = xs

unfoldable pub inserted : Edition → ℕ → List ℕ → Target → List SfEntry → List SfEntry
inserted e told n t xs = put_by (tag_for e told (length n) xs) n (kept_of e t) xs

-- there is such a tag
abbrev pub is_free : Option ℕ → Bool
is_free = is_some

-- 15 NOROOM: no such tag, or the new size passes the fork
unfoldable pub has_room : Edition → ℕ → ℕ → List ℕ → Target → ℕ → List SfEntry → Bool
has_room e told fork n t p xs =
    is_free (tag_for e told (length n) xs) && leb (length (lay e p (inserted e told n t xs))) fork

-- 11 ASKED, 12 FIXED, 14 EXISTS, 15 NOROOM
unfoldable pub insert_request : Edition → ℕ → ℕ → List ℕ → Target → ℕ → List SfEntry → ℕ
insert_request e told fork n t p xs =
    ASKED unless legal_name e n && legal_target e t then
    FIXED unless not (fixed_name n) then
    EXISTS unless not (holds e n xs) then
    NOROOM unless has_room e told fork n t p xs then 0

-- ---- removal

-- later entries close up, their tags stay
unfoldable pub removed : Edition → List ℕ → List SfEntry → List SfEntry
removed e n xs = without_first (λ x. same_name e n x.name) xs

-- 11 ASKED, 12 FIXED, 13 ABSENT
unfoldable pub remove_request : Edition → List ℕ → List SfEntry → ℕ
remove_request e n xs =
    ASKED unless legal_name e n then
    FIXED unless not (fixed_name n) then
    ABSENT unless holds e n xs then 0
