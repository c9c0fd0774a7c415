-- A short-form directory's fork: header, entries, and tests 4 to 10.
-- f is the fork; u is its used bytes, the first `size` of it.
-- Assumes nothing.
use Rattle.std.specs.Prelude.{ℕ, ◌+◌, ◌-◌, Bool, true, not, ◌&&◌, List, [], ◌∷◌, ◌++◌, eqb, leb, length, take, replicate}
use Rattle.refusal.specs.Refusal.{SPAN, TILE, NAME, NUMBER, INDEX, TWICE}
use Rattle.be.specs.Codes.{◌unless◌then◌}
use Rattle.be.specs.Lists.{every, some_of}
use Rattle.be.specs.Bytes.{byte, field, to_be}
use Rattle.records.specs.Records.{start}
use Rattle.edition.specs.declared.Edition.{Edition}
use Rattle.name.specs.Name.{legal_name, legal_number, same_name, fixed_name}
use Rattle.dir_sf.specs.Entry.{SfEntry, width_of, size_at, entries_in, filled, entries_bytes, wides_of, tags_ok, end_tag, in_block}

-- Header: count (1), i8count (1), parent
unfoldable pub count_of : List ℕ → ℕ
count_of u = byte 0 u

unfoldable pub stored_wides : List ℕ → ℕ
stored_wides u = byte 1 u

unfoldable pub used_width : List ℕ → ℕ
used_width u = width_of (stored_wides u)

unfoldable pub parent : List ℕ → ℕ
parent u = field 2 (used_width u) u

unfoldable pub entries : Edition → List ℕ → List SfEntry
entries e u = entries_in e (used_width u) u (count_of u) (2 + used_width u)

-- a header and entries laid out
abbrev pub laid : Edition → ℕ → ℕ → ℕ → List SfEntry → List ℕ
laid e count wides p xs = count ∷ wides ∷ to_be (width_of wides) p ++ entries_bytes e (width_of wides) xs

-- the used bytes of a directory with this parent and these entries
unfoldable pub lay : Edition → ℕ → List SfEntry → List ℕ
lay e p xs = laid e (length xs) (wides_of p xs) p xs

-- its fork of n bytes: unused fork bytes are zeroed
unfoldable pub lay_fork : Edition → ℕ → ℕ → List SfEntry → List ℕ
lay_fork e n p xs = let u = lay e p xs in u ++ replicate (n - length u) 0

-- where entry j starts in the used bytes
unfoldable pub place_of : Edition → ℕ → List ℕ → ℕ
place_of e j u = start (size_at e (used_width u) u) j (2 + used_width u)

-- 4 SPAN: size is not under the header and not over the fork
unfoldable pub span_ok : List ℕ → ℕ → Bool
span_ok f size = leb (2 + used_width f) size && leb size (length f)

-- 5 TILE: count entries use exactly size bytes, their tags are right, and the block they would go into holds them
unfoldable pub tile_ok : Edition → ℕ → List ℕ → Bool
tile_ok e told u =
    filled e (used_width u) u (count_of u) (2 + used_width u)
    && tags_ok e e.first (entries e u)
    && in_block told (end_tag e e.first (entries e u)) (count_of u)

-- 6 NAME: a stored name is legal, and not "." or ".."
abbrev pub name_ok : Edition → SfEntry → Bool
name_ok e x = legal_name e x.name && not (fixed_name x.name)

unfoldable pub names_ok : Edition → List SfEntry → Bool
names_ok e xs = every (name_ok e) xs

-- 7 NUMBER covers the parent
unfoldable pub numbers_ok : ℕ → List SfEntry → Bool
numbers_ok p xs = legal_number p && every (λ x. legal_number x.target.inode) xs

-- some entry bears the name
unfoldable pub holds : Edition → List ℕ → List SfEntry → Bool
holds e n xs = some_of (λ x. same_name e n x.name) xs

-- 10 TWICE: no name is stored twice
unfoldable pub once_ok : Edition → List SfEntry → Bool
once_ok e [] = true
once_ok e (x ∷ xs) = not (holds e x.name xs) && once_ok e xs

-- tests 5 to 10 of the used bytes, 8 INDEX being i8count; 0 if none fails
unfoldable pub used_verdict : Edition → ℕ → List ℕ → ℕ
used_verdict e told u =
    TILE unless tile_ok e told u then
    NAME unless names_ok e (entries e u) then
    NUMBER unless numbers_ok (parent u) (entries e u) then
    INDEX unless eqb (stored_wides u) (wides_of (parent u) (entries e u)) then
    TWICE unless once_ok e (entries e u) then 0

unfoldable pub fork_verdict : Edition → ℕ → List ℕ → ℕ → ℕ
fork_verdict e told f size = SPAN unless span_ok f size then used_verdict e told (take size f)
