-- The entries of a short form: read from bytes, and laid out as bytes.
-- Assumes nothing.
use Rattle.std.specs.Prelude.{ℕ, ◌+◌, ◌*◌, ◌%◌, Bool, true, cond, ◌&&◌, List, [], ◌∷◌, ◌++◌, eqb, leb, ltb, length}
use Rattle.be.specs.Lists.{tally}
use Rattle.be.specs.Bytes.{byte, field, part, to_be}
use Rattle.records.specs.Records.{read_records, tiled, joined}
use Rattle.edition.specs.declared.Edition.{Edition}
use Rattle.edition.specs.Edition.{entry_size}
use Rattle.dir.specs.declared.Target.{Target}
use Rattle.dir.specs.Target.{target, no_target}

-- Entry: namelen, tag, name, inode number; the file type between name and number where the edition has one
pub record SfEntry : Type 0 where
  pub tag : ℕ
  pub name : List ℕ
  pub target : Target

abbrev pub entry : ℕ → List ℕ → Target → SfEntry
entry o n t = record { tag = o; name = n; target = t }

-- what a search that misses gives
abbrev pub empty_entry : SfEntry
empty_entry = entry 0 [] no_target

-- Numbers are 8 bytes when i8count is not 0, else 4
unfoldable pub width_of : ℕ → ℕ
width_of wides = cond (eqb wides 0) 4 8

-- ---- read

-- how long the entry at place p of u is: namelen (1), tag (2), name, file type, number of w bytes
unfoldable pub size_at : Edition → ℕ → List ℕ → ℕ → ℕ
size_at e w u p = 3 + byte p u + e.ftype + w

unfoldable pub entry_at : Edition → ℕ → List ℕ → ℕ → SfEntry
entry_at e w u p =
    let n = byte p u in
    entry (field (p + 1) 2 u) (part (p + 3) n u) (target (field (p + 3 + n + e.ftype) w u) (field (p + 3 + n) e.ftype u))

-- k entries of u from a place on
unfoldable pub entries_in : Edition → ℕ → List ℕ → ℕ → ℕ → List SfEntry
entries_in e w u k at = read_records (size_at e w u) (entry_at e w u) k at

-- TILE: they use exactly the bytes up to the end of u
unfoldable pub filled : Edition → ℕ → List ℕ → ℕ → ℕ → Bool
filled e w u k at = tiled (size_at e w u) (length u) k at

-- ---- laid out

unfoldable pub entry_bytes : Edition → ℕ → SfEntry → List ℕ
entry_bytes e w x =
    length x.name ∷ to_be 2 x.tag ++ (x.name ++ (to_be e.ftype x.target.kind ++ to_be w x.target.inode))

abbrev pub entries_bytes : Edition → ℕ → List SfEntry → List ℕ
entries_bytes e w xs = joined (entry_bytes e w) xs

-- ---- wide numbers

-- above 4,294,967,295
unfoldable pub is_wide : ℕ → Bool
is_wide i = ltb 4294967295 i

-- i8count is the number of entries whose inode number is above 4,294,967,295, plus 1 for such a parent
unfoldable pub wides_of : ℕ → List SfEntry → ℕ
wides_of parent xs = tally (λ x. is_wide x.target.inode) xs + cond (is_wide parent) 1 0

-- ---- tags

-- the least tag after an entry: its own plus its E
unfoldable pub next_tag : Edition → SfEntry → ℕ
next_tag e x = x.tag + entry_size e (length x.name)

-- tags are multiples of 8; the first is at least low; each next tag is at least the one before plus E of the name before
unfoldable pub tags_ok : Edition → ℕ → List SfEntry → Bool
tags_ok e low [] = true
tags_ok e low (x ∷ xs) = eqb (x.tag % 8) 0 && leb low x.tag && tags_ok e (next_tag e x) xs

-- the last tag plus its E; low if there is no entry
unfoldable pub end_tag : Edition → ℕ → List SfEntry → ℕ
end_tag e low [] = low
end_tag e low (x ∷ xs) = end_tag e (next_tag e x) xs

-- that plus 8 × (count + 2) + 8 is at most the block size
unfoldable pub in_block : ℕ → ℕ → ℕ → Bool
in_block told end k = leb (end + 8 * (k + 2) + 8) told
