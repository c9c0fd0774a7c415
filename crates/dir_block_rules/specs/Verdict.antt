-- The tests of a block, in number order; the first that fails is the answer, 0 if none does.
-- Assumes nothing.
use Rattle.std.specs.Prelude.{ℕ, zero, suc, ◌+◌, ◌-◌, ◌*◌, ◌/◌, Bool, true, not, cond, ◌&&◌, ◌||◌, ◌≡◌, List, [], ◌∷◌, eqb, leb, length, drop}
use Rattle.std.specs.Bool.{beq}
use Rattle.refusal.specs.Refusal.{SIZE, MAGIC, SPAN, TILE, NAME, NUMBER, INDEX, BEST, TWICE}
use Rattle.be.specs.Codes.{◌unless◌then◌}
use Rattle.be.specs.Lists.{every, some_of, tally, total, same}
use Rattle.be.specs.Bytes.{field}
use Rattle.edition.specs.declared.Edition.{Edition}
use Rattle.edition.specs.Edition.{block_size}
use Rattle.name.specs.Name.{legal_name, legal_number, fixed_name, hash_of, same_name, dot, dotdot}
use Rattle.dir_block_rules.specs.Record.{Rec, says, besides, record_ok, apart, entries, gaps, size, name, number}
use Rattle.dir_block_rules.specs.Block.{records, slots, Slot, is_stale, count_of, stale_of, data_end}

-- 1 SIZE: a block's length is one allowed
unfoldable pub size_ok : List ℕ → Bool
size_ok b = block_size (length b)

-- 2 MAGIC: the edition's
unfoldable pub magic_ok : Edition → List ℕ → Bool
magic_ok e b = eqb (field 0 4 b) e.magic

-- 4 SPAN: header + 8 × count + 8 is not over the block, nor stale over count
unfoldable pub span_ok : Edition → List ℕ → Bool
span_ok e b = leb (e.header + 8 * count_of b + 8) (length b) && leb (stale_of b) (count_of b)

-- 5 TILE: records fill the data exactly: the lengths that they say add up to the data's (a gap that says less than 4 is cut short of
-- its own length field; `record_ok` refuses it)
unfoldable pub fills : Edition → List ℕ → Bool
fills e b = eqb (total (λ r. says e r.raw) (records e b)) (data_end b - e.header)

-- 5 TILE: they fill it, lengths and tags are right, and no two gaps touch
unfoldable pub tile_ok : Edition → List ℕ → Bool
tile_ok e b = fills e b && every record_ok (records e b) && apart (records e b)

-- 6 NAME: the names are legal; "." sits at 16 (the header's end) and ".." at 32 (16 further), nowhere else
abbrev pub entry_stands : ℕ → List Rec → Bool
entry_stands o rs = some_of (λ r. eqb r.off o) (entries rs)

abbrev pub name_ok : Edition → Rec → Bool
name_ok e r =
    legal_name e (name r)
    && beq (same (name r) dot) (eqb r.off e.header)
    && beq (same (name r) dotdot) (eqb r.off (e.header + 16))

unfoldable pub names_ok : Edition → List Rec → Bool
names_ok e rs = every (name_ok e) (entries rs) && entry_stands e.header rs && entry_stands (e.header + 16) rs

-- the number of ".": of the entry at the header's end
unfoldable pub own_in : Edition → List Rec → ℕ
own_in e [] = 0
own_in e (r ∷ rs) = cond (eqb r.off e.header) (number r) (own_in e rs)

-- the number of "." in a block: the directory's own
abbrev pub own_of : Edition → List ℕ → ℕ
own_of e b = own_in e (entries (records e b))

-- 7 NUMBER: the number i of an entry with name n, in a directory whose own number is `own`: it is legal, and no entry but "." and ".."
-- bears that of "."
unfoldable pub number_fits : Edition → ℕ → List ℕ → ℕ → Bool
number_fits e own n i = legal_number i && (fixed_name n || not (eqb i own))

abbrev pub number_ok : Edition → ℕ → Rec → Bool
number_ok e own r = number_fits e own (name r) (number r)

-- 7 NUMBER: every entry's number fits
unfoldable pub numbers_ok : Edition → List Rec → Bool
numbers_ok e rs = every (number_ok e (own_in e (entries rs))) (entries rs)

-- 8 INDEX: hashes never fall, stale slots counted in
unfoldable pub rising : List Slot → Bool
rising [] = true
rising (s ∷ []) = true
rising (s ∷ t ∷ ts) = leb s.hash t.hash && rising (t ∷ ts)

-- 8 INDEX: each live entry has exactly one slot, with its hash and its offset / 8
abbrev pub has_slot : Edition → List Slot → Rec → Bool
has_slot e ss r =
    eqb (tally (λ s. eqb s.addr (r.off / 8)) ss) 1
    && eqb (tally (λ s. eqb s.addr (r.off / 8) && eqb s.hash (hash_of e (name r))) ss) 1

-- 8 INDEX: no other slots: each is stale, or some live entry's
abbrev pub stale_or_owned : List Rec → Slot → Bool
stale_or_owned es s = is_stale s || some_of (λ r. eqb s.addr (r.off / 8)) es

-- 8 INDEX: hashes never fall, stale slots number the tail's stale, each live entry has its slot, and there are no others
unfoldable pub index_ok : Edition → List Rec → List Slot → ℕ → Bool
index_ok e rs ss n =
    rising ss && eqb (tally is_stale ss) n
    && every (has_slot e ss) (entries rs) && every (stale_or_owned (entries rs)) ss

-- a pair of the best-gap table: offset, length (2 bytes each)
pub record Pair : Type 0 where
  pub from : ℕ
  pub long : ℕ

abbrev pub pair : ℕ → ℕ → Pair
pair o n = record { from = o; long = n }

unfoldable pub pairs_in : ℕ → List ℕ → List Pair
pairs_in zero d = []
pairs_in (suc n) d = pair (field 0 2 d) (field 2 2 d) ∷ pairs_in n (drop 4 d)

-- the three (offset, length) pairs of the header
unfoldable pub best_pairs : Edition → List ℕ → List Pair
best_pairs e b = pairs_in 3 (drop e.best b)

abbrev pub zero_pair : Pair → Bool
zero_pair p = eqb p.from 0 && eqb p.long 0

abbrev pub is_gap_of : Pair → Rec → Bool
is_gap_of p g = eqb g.off p.from && eqb (size g) p.long

-- 9 BEST: the pairs are the longest gaps, longest first, any order among equals: the first is one of the longest, and so on
-- with that gap left out; unneeded pairs are zero
unfoldable pub best_ok : List Pair → List Rec → Bool
best_ok [] gs = true
best_ok (p ∷ ps) [] = zero_pair p && best_ok ps []
best_ok (p ∷ ps) (g ∷ gs) =
    some_of (is_gap_of p) (g ∷ gs) && every (λ r. leb (size r) p.long) (g ∷ gs)
    && best_ok ps (besides p.from (g ∷ gs))

-- 10 TWICE: no name is stored twice
unfoldable pub once_ok : Edition → List Rec → Bool
once_ok e [] = true
once_ok e (r ∷ rs) = not (some_of (λ s. same_name e (name r) (name s)) rs) && once_ok e rs

-- tests run in number order; each takes the earlier ones as passed
unfoldable pub verdict : Edition → List ℕ → ℕ
verdict e b =
    SIZE unless size_ok b then
    MAGIC unless magic_ok e b then
    SPAN unless span_ok e b then
    TILE unless tile_ok e b then
    NAME unless names_ok e (records e b) then
    NUMBER unless numbers_ok e (records e b) then
    INDEX unless index_ok e (records e b) (slots b) (stale_of b) then
    BEST unless best_ok (best_pairs e b) (gaps (records e b)) then
    TWICE unless once_ok e (entries (records e b)) then 0

-- accepted: no test fails
abbrev pub Accepted : Edition → List ℕ → Type 0
Accepted e b = verdict e b ≡ 0
