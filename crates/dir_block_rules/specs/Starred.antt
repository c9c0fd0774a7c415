-- The starred numbers as one table under one claim, which the checker computes from the definitions.
-- Assumes nothing.
use Rattle.std.specs.Prelude.{ℕ, ◌+◌, ◌-◌, ◌/◌, true, cond, ◌≡◌, refl, List, [], ◌∷◌, ◌++◌, map, replicate}
use Rattle.be.specs.Lists.{every}
use Rattle.be.specs.Bytes.{be, be_from, to_be, put, written, write}
use Rattle.edition.specs.declared.Edition.{Edition}
use Rattle.edition.specs.Edition.{v4, block_size, entry_size}
use Rattle.name.specs.Name.{legal_name, legal_number, hash_of, hash_from, hash_byte, rol, same_name, fixed_name, dot, dotdot}
use Rattle.name.specs.Starred.{Row, row, right, hash_rows}
use Rattle.dir.specs.declared.Target.{Target}
use Rattle.dir.specs.Target.{target, legal_target, legal_type, legal_in}
use Rattle.dir_block_rules.specs.Record.{pad, says, cut, record_ok, apart, size, gaps, entry_bytes, gap_writes}
use Rattle.dir_block_rules.specs.Block.{records, slots, slots_in, slot, slot_bytes, count_of, stale_of, data_end}
use Rattle.dir_block_rules.specs.Verdict.{Pair, pair, best_pairs, pairs_in, verdict, size_ok, magic_ok, span_ok, fills, tile_ok, names_ok, numbers_ok, number_fits, own_in, index_ok, rising, best_ok, once_ok}
use Rattle.dir.specs.Answers.{looked_code, looked_target, looked_tag, looked_compared}
use Rattle.dir_block_rules.specs.Lookup.{seek, sought, up_to, names_compared, lookup, lookup_refusal}
use Rattle.dir_block_rules.specs.Room.{last_of, touching, room_of, has_room, case_a, case_b}
use Rattle.dir_block_rules.specs.Change.{longest, pair_bytes, best_of, with_best, sealed, changed, index_writes, insert_slot, writes_a, writes_b, writes_c, writes_d, insert_writes, insert_code, insert_bytes, gap_start_before, gap_end_after, remove_writes, remove_code, remove_bytes}

-- ---- the columns of the rows about blocks

-- a block: its verdict (0: accepted), the tail's count and stale, and its gaps, each as a pair of offset and length
pub record Shape : Type 0 where
  pub verdict : ℕ
  pub count : ℕ
  pub stale : ℕ
  pub gaps : List Pair

-- a lookup: its number, the inode number, the tag of the entry found, and the names compared
pub record Answer : Type 0 where
  pub number : ℕ
  pub inode : ℕ
  pub tag : ℕ
  pub compared : ℕ

-- an insert: its number, and the block that it leaves
pub record Insertion : Type 0 where
  pub number : ℕ
  pub leaves : Shape

-- what the definitions give
unfoldable pub shape : List ℕ → Shape
shape b = record { verdict = verdict v4 b; count = count_of b; stale = stale_of b; gaps = map (λ g. pair g.off (size g)) (gaps (records v4 b)) }

unfoldable pub answer : List ℕ → List ℕ → Answer
answer b n =
    let a = lookup v4 b n in
    record { number = looked_code a; inode = (looked_target a).inode; tag = looked_tag a; compared = looked_compared a }

unfoldable pub inserted : List ℕ → List ℕ → Insertion
inserted b n = record { number = insert_code v4 b n (target 150 0); leaves = shape (insert_bytes v4 b n (target 150 0)) }

-- the columns in a row
unfoldable pub gap_columns : List Pair → List ℕ
gap_columns [] = []
gap_columns (g ∷ gs) = g.from ∷ g.long ∷ gap_columns gs

abbrev pub shape_columns : Shape → List ℕ
shape_columns s = s.verdict ∷ s.count ∷ s.stale ∷ gap_columns s.gaps

abbrev pub shape_row : Shape → Shape → Row
shape_row computed stated = row (shape_columns computed) (shape_columns stated)

abbrev pub answer_columns : Answer → List ℕ
answer_columns a = a.number ∷ a.inode ∷ a.tag ∷ a.compared ∷ []

abbrev pub answer_row : Answer → Answer → Row
answer_row computed stated = row (answer_columns computed) (answer_columns stated)

abbrev pub insert_columns : Insertion → List ℕ
insert_columns i = i.number ∷ shape_columns i.leaves

abbrev pub insert_row : Insertion → Insertion → Row
insert_row computed stated = row (insert_columns computed) (insert_columns stated)

-- ---- the cases

-- a block of n bytes that holds only "." and "..", both with target i
unfoldable pub fresh : Edition → ℕ → Target → List ℕ
fresh e n i =
    with_best e (written (replicate n 0)
    (write 0 (to_be 4 e.magic) ∷ write e.header (entry_bytes e e.header i dot)
    ∷ write (e.header + 16) (entry_bytes e (e.header + 16) i dotdot)
    ∷ gap_writes e.first (n - 24 - e.first)
    ++ index_writes n (slot (hash_of e dot) (e.header / 8) ∷ slot (hash_of e dotdot) ((e.header + 16) / 8) ∷ []) 0))

-- names: "a", and k bytes "b" or "c"
abbrev pub a₁ : List ℕ
a₁ = 97 ∷ []

abbrev pub bs : ℕ → List ℕ
bs k = replicate k 98

abbrev pub cs : ℕ → List ℕ
cs k = replicate k 99

-- C1: 512 bytes, only "." and ".." (both 128)
unfoldable pub c1 : List ℕ
c1 = fresh v4 512 (target 128 0)

-- C2: insert "a" (131)
unfoldable pub c2 : List ℕ
c2 = insert_bytes v4 c1 a₁ (target 131 0)

-- C3: remove it
unfoldable pub c3 : List ℕ
c3 = remove_bytes v4 c2 a₁

-- C4: C1 plus a 255-byte name
unfoldable pub c4 : List ℕ
c4 = insert_bytes v4 c1 (bs 255) (target 140 0)

-- C5: C1 plus names of 255, 1 and 117 bytes; then the last two removed
unfoldable pub full : List ℕ
full = insert_bytes v4 (insert_bytes v4 c4 a₁ (target 141 0)) (cs 117) (target 142 0)

unfoldable pub c5 : List ℕ
c5 = remove_bytes v4 (remove_bytes v4 full a₁) (cs 117)

-- the first case of the room rule that holds: (a), (b), or 0 for another or none
abbrev pub by_a : ℕ
by_a = 1

abbrev pub by_b : ℕ
by_b = 2

unfoldable pub by_case : List ℕ → List ℕ → ℕ
by_case b n = cond (case_a (room_of v4 b n)) by_a (cond (case_b (room_of v4 b n)) by_b 0)

-- C1 to C5: what the definitions give, and what the paper states, with the columns that follow from it (count, tag, compared); a refused
-- insert leaves the block as it was
unfoldable pub block_rows : List Row
block_rows =
    -- C1: gap 48, length 440
    shape_row (shape c1) (record { verdict = 0; count = 2; stale = 0; gaps = pair 48 440 ∷ [] })
    -- C2: entry at 48, gap 64 length 416
    ∷ shape_row (shape c2) (record { verdict = 0; count = 3; stale = 0; gaps = pair 64 416 ∷ [] })
    ∷ answer_row (answer c2 a₁) (record { number = 0; inode = 131; tag = 48; compared = 1 })
    -- C3: gap 48 length 432, count 3, stale 1
    ∷ shape_row (shape c3) (record { verdict = 0; count = 3; stale = 1; gaps = pair 48 432 ∷ [] })
    ∷ answer_row (answer c3 a₁) (record { number = 13; inode = 0; tag = 0; compared = 0 })
    -- C4: a gap of 160; then 141 bytes goes in, 142 is refused
    ∷ shape_row (shape c4) (record { verdict = 0; count = 3; stale = 0; gaps = pair 320 160 ∷ [] })
    ∷ insert_row (inserted c4 (cs 141)) (record { number = 0; leaves = record { verdict = 0; count = 4; stale = 0; gaps = [] } })
    ∷ insert_row (inserted c4 (cs 142)) (record { number = 15; leaves = record { verdict = 0; count = 3; stale = 0; gaps = pair 320 160 ∷ [] } })
    -- C5: full; then gap 144, stale 2; 141 bytes goes in by (b), 142 is refused
    ∷ shape_row (shape full) (record { verdict = 0; count = 5; stale = 0; gaps = [] })
    ∷ shape_row (shape c5) (record { verdict = 0; count = 5; stale = 2; gaps = pair 320 144 ∷ [] })
    ∷ row (by_case c5 (cs 141) ∷ []) (by_b ∷ [])
    ∷ insert_row (inserted c5 (cs 141)) (record { number = 0; leaves = record { verdict = 0; count = 4; stale = 0; gaps = [] } })
    ∷ insert_row (inserted c5 (cs 142)) (record { number = 15; leaves = record { verdict = 0; count = 5; stale = 2; gaps = pair 320 144 ∷ [] } })
    ∷ []

-- H1 to H5, and C1 to C5
unfoldable pub rows : List Row
rows = hash_rows ++ block_rows

pub starred : every right rows ≡ true
unfolding rows hash_rows block_rows block_size rol hash_byte hash_from gap_columns shape answer inserted c1 c2 c3 c4 c5 full by_case fresh best_pairs be be_from to_be slots_in slot_bytes pairs_in pair_bytes put written entry_size legal_name legal_number hash_of same_name fixed_name says cut record_ok apart entry_bytes pad gap_writes records slots count_of stale_of data_end verdict size_ok magic_ok span_ok fills tile_ok names_ok numbers_ok number_fits own_in legal_target legal_type legal_in index_ok rising best_ok once_ok seek sought names_compared up_to lookup lookup_refusal longest last_of touching room_of has_room best_of with_best sealed changed insert_slot writes_a writes_b writes_c writes_d insert_writes insert_code insert_bytes gap_start_before gap_end_after remove_writes remove_code remove_bytes
starred = refl
