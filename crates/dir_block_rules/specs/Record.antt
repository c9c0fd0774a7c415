-- The records of a block's data: entries and gaps, each with the offset where it stands and all of its bytes.
-- Assumes nothing.
use Rattle.std.specs.Prelude.{ℕ, zero, suc, ◌+◌, ◌-◌, ◌%◌, Bool, true, not, cond, ◌&&◌, List, [], ◌∷◌, ◌++◌, eqb, leb, length, take, drop, replicate}
use Rattle.be.specs.Lists.{keep}
use Rattle.be.specs.Bytes.{be, to_be, byte, field, part, Write, write}
use Rattle.records.specs.Records.{joined}
use Rattle.edition.specs.declared.Edition.{Edition}
use Rattle.dir.specs.declared.Target.{Target}
use Rattle.edition.specs.Edition.{entry_size}
use Rattle.dir.specs.Target.{target}

-- Gap: 0xffff, length (2), tag in its last 2 bytes. What starts with 0xffff is a gap, all else is an entry
abbrev pub gap_start : List ℕ → Bool
gap_start d = eqb (field 0 2 d) 0xffff

-- how long the record at the head of d says it is: a gap by its length, an entry by E of its namelen
unfoldable pub says : Edition → List ℕ → ℕ
says e d = cond (gap_start d) (field 2 2 d) (entry_size e (byte 8 d))

pub record Rec : Type 0 where
  pub off : ℕ
  pub raw : List ℕ

abbrev pub rec : ℕ → List ℕ → Rec
rec o c = record { off = o; raw = c }

-- the data d, which starts at offset o, cut into records, k of them at most; a record that says more than is left gets what is left
unfoldable pub cut : Edition → ℕ → ℕ → List ℕ → List Rec
cut e zero o d = []
cut e (suc k) o [] = []
cut e (suc k) o (x ∷ xs) =
    let d = x ∷ xs in
    let n = says e (x ∷ xs) in
    rec o (take n d) ∷ cut e k (o + n) (drop n d)

abbrev pub size : Rec → ℕ
size r = length r.raw

abbrev pub is_gap : Rec → Bool
is_gap r = gap_start r.raw

abbrev pub is_entry : Rec → Bool
is_entry r = not (is_gap r)

-- Entry: inode number (8), namelen, name, padding
abbrev pub number : Rec → ℕ
number r = field 0 8 r.raw

abbrev pub namelen : Rec → ℕ
namelen r = byte 8 r.raw

abbrev pub name : Rec → List ℕ
name r = part 9 (namelen r) r.raw

-- the tag, in the last 2 bytes
abbrev pub tag : Rec → ℕ
tag r = be (drop (size r - 2) r.raw)

-- 5 TILE: a record is a multiple of 8 and at least 8 long (an entry is so by E), and its tag is its own offset
unfoldable pub record_ok : Rec → Bool
record_ok r = leb 8 (size r) && eqb (size r % 8) 0 && eqb (tag r) r.off

-- 5 TILE: no two gaps touch
unfoldable pub apart : List Rec → Bool
apart [] = true
apart (r ∷ []) = true
apart (r ∷ s ∷ rs) = not (is_gap r && is_gap s) && apart (s ∷ rs)

abbrev pub entries : List Rec → List Rec
entries rs = keep is_entry rs

abbrev pub gaps : List Rec → List Rec
gaps rs = keep is_gap rs

-- the records that start elsewhere than at o
abbrev pub besides : ℕ → List Rec → List Rec
besides o rs = keep (λ r. not (eqb r.off o)) rs

-- the file type, in the edition's type bytes after the name; without such bytes it reads 0
abbrev pub kind_of : Edition → Rec → ℕ
kind_of e r = field (9 + namelen r) e.ftype r.raw

abbrev pub target_of : Edition → Rec → Target
target_of e r = target (number r) (kind_of e r)

-- the file type where the edition has one, and zeros up to the tag
unfoldable pub pad : Edition → ℕ → List ℕ → List ℕ
pad e k n = to_be e.ftype k ++ replicate (entry_size e (length n) - (11 + e.ftype + length n)) 0

-- the bytes of an entry at offset o: number, namelen, name, file type, padding zero, tag
unfoldable pub entry_bytes : Edition → ℕ → Target → List ℕ → List ℕ
entry_bytes e o t n =
    to_be 8 t.inode ++ (length n ∷ n) ++ pad e t.kind n ++ to_be 2 o

-- the three fields of a gap of n bytes at offset o; every other gap byte keeps what stood there. Nothing if n is 0
unfoldable pub gap_writes : ℕ → ℕ → List Write
gap_writes o zero = []
gap_writes o (suc n) = write o (0xff ∷ 0xff ∷ to_be 2 (suc n)) ∷ write (o + suc n - 2) (to_be 2 o) ∷ []

-- ---- for code and proofs alone: no call that README lists promises anything by these

-- the records' bytes end to end
abbrev pub join : List Rec → List ℕ
join rs = joined (λ (r : Rec). r.raw) rs

-- a record that is as long as it says, and right. Records that are all so fill the data: proofs/WholeRecords.antt
unfoldable pub whole : Edition → Rec → Bool
whole e r = eqb (size r) (says e r.raw) && record_ok r
