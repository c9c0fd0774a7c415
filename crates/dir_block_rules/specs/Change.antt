-- Insert and removal: the answer, and the block after the call. A change is a list of writes: what is not written keeps what
-- stood there, every other gap byte and old slot bytes too.
-- Assumes nothing.
use Rattle.std.specs.Prelude.{ℕ, zero, suc, ◌+◌, ◌-◌, ◌*◌, ◌/◌, Bool, not, cond, ◌&&◌, List, [], ◌∷◌, ◌++◌, eqb, leb, length}
use Rattle.refusal.specs.Refusal.{ASKED, FIXED, ABSENT, EXISTS, NOROOM}
use Rattle.be.specs.Lists.{keep, without_first}
use Rattle.be.specs.Bytes.{to_be, Write, write, written}
use Rattle.be.specs.Codes.{◌unless◌then◌, ◌and_then◌}
use Rattle.edition.specs.declared.Edition.{Edition}
use Rattle.edition.specs.Edition.{entry_size}
use Rattle.name.specs.Name.{hash_of, legal_name, fixed_name}
use Rattle.dir.specs.declared.Target.{Target}
use Rattle.dir_block_rules.specs.Record.{Rec, rec, size, gaps, besides, entry_bytes, gap_writes}
use Rattle.dir_block_rules.specs.Block.{records, slots, Slot, slot, slot_bytes, is_stale, is_live, stale_of, data_end}
use Rattle.dir.specs.Target.{legal_in}
use Rattle.dir_block_rules.specs.Verdict.{verdict, own_of, Pair, pair}
use Rattle.dir_block_rules.specs.Lookup.{sought}
use Rattle.dir_block_rules.specs.Room.{Room, room_of, other_gaps, case_a, case_b, case_c, has_room}

-- the longest of the records, lowest offset on a tie (records stand in offset order); an empty record if there is none
unfoldable pub longest : List Rec → Rec
longest [] = rec 0 []
longest (g ∷ gs) = let m = longest gs in cond (leb (size m) (size g)) g m

-- BEST, as a change writes it: the k longest gaps, longest first, lower offset first among equals, then zeros
unfoldable pub best_of : ℕ → List Rec → List Pair
best_of zero gs = []
best_of (suc k) [] = pair 0 0 ∷ best_of k []
best_of (suc k) (g ∷ gs) =
    let m = longest (g ∷ gs) in
    pair m.off (size m) ∷ best_of k (besides m.off (g ∷ gs))

-- three pairs
abbrev pub best_table : List Rec → List Pair
best_table gs = best_of 3 gs

unfoldable pub pair_bytes : List Pair → List ℕ
pair_bytes [] = []
pair_bytes (p ∷ ps) = to_be 2 p.from ++ (to_be 2 p.long ++ pair_bytes ps)

-- every change writes the pairs anew
unfoldable pub with_best : Edition → List ℕ → List ℕ
with_best e b = written b (write e.best (pair_bytes (best_table (gaps (records e b)))) ∷ [])

-- what an edition stores in the header of a finished block: nothing where it has no checksum
unfoldable pub sealed : Edition → List ℕ → List ℕ
sealed e b = b

-- what a change leaves: its writes, then the best-gap table anew, then the seal
unfoldable pub changed : Edition → List ℕ → List Write → List ℕ
changed e b ws = sealed e (with_best e (written b ws))

-- the slots and the tail of a block of n bytes
abbrev pub index_writes : ℕ → List Slot → ℕ → List Write
index_writes n ss s = write (n - 8 - 8 * length ss) (slot_bytes ss ++ (to_be 4 (length ss) ++ to_be 4 s)) ∷ []

-- slots with an equal or lower hash than the new slot s stay in front of it
abbrev pub in_front : Slot → Slot → Bool
in_front s t = leb t.hash s.hash

-- the new slot stands after all slots with an equal or lower hash
unfoldable pub insert_slot : Slot → List Slot → List Slot
insert_slot s [] = s ∷ []
insert_slot s (t ∷ ts) = let r = insert_slot s ts in cond (in_front s t) (t ∷ r) (s ∷ t ∷ ts)

-- the entry goes at its gap's start: at the start of the free bytes from o up to u, with a gap of what is left of them
abbrev pub entry_writes : Edition → Target → List ℕ → ℕ → ℕ → List Write
entry_writes e i n o u =
    write o (entry_bytes e o i n) ∷ gap_writes (o + entry_size e (length n)) (u - (o + entry_size e (length n)))

-- an insert by each case of the room rule
module _ (e : Edition) (b n : List ℕ) (i : Target) where
  abbrev pub new_slot : ℕ → Slot
  new_slot o = slot (hash_of e n) (o / 8)

  abbrev pub end_of : Rec → ℕ
  end_of g = g.off + size g

  -- (a): the longest gap; drops the first stale slot
  unfoldable pub writes_a : Room → List Write
  writes_a m =
      let g = longest m.all_gaps in
      entry_writes e i n g.off (end_of g)
      ++ index_writes (length b) (insert_slot (new_slot g.off) (without_first is_stale (slots b))) (m.stale - 1)

  -- (b): drops all stale slots, and T grows over those not needed
  unfoldable pub writes_b : Room → List Write
  writes_b m =
      let g = m.last_gap in
      entry_writes e i n g.off (end_of g + 8 * (m.stale - 1))
      ++ index_writes (length b) (insert_slot (new_slot g.off) (keep is_live (slots b))) 0

  -- (c): the longest gap other than T, and 8 bytes off T's end
  unfoldable pub writes_c : Room → List Write
  writes_c m =
      let g = longest (other_gaps m) in
      let t = m.last_gap in
      entry_writes e i n g.off (end_of g)
      ++ (gap_writes t.off (size t - 8)
      ++ index_writes (length b) (insert_slot (new_slot g.off) (slots b)) 0)

  -- (d): T, with 8 bytes off its end
  unfoldable pub writes_d : Room → List Write
  writes_d m =
      let g = m.last_gap in
      entry_writes e i n g.off (end_of g - 8)
      ++ index_writes (length b) (insert_slot (new_slot g.off) (slots b)) 0

  -- the first of these that holds is used
  unfoldable pub insert_writes : List Write
  insert_writes =
      let m = room_of e b n in
      let in_a = writes_a m in
      let in_b = writes_b m in
      let in_c = writes_c m in
      let in_d = writes_d m in
      cond (case_a m) in_a (cond (case_b m) in_b (cond (case_c m) in_c in_d))

  -- the block's refusal; 11 ASKED: name, number or type not legal, or the directory's own number; 12 FIXED; 14 EXISTS; 15 NOROOM
  unfoldable pub insert_code : ℕ
  insert_code =
      verdict e b and_then
      ASKED unless legal_name e n && legal_in e (own_of e b) i then
      FIXED unless not (fixed_name n) then
      EXISTS unless not (sought e b n).hit then
      NOROOM unless has_room e b n then 0

  -- a refusal leaves every byte
  unfoldable pub insert_bytes : List ℕ
  insert_bytes = let new = changed e b insert_writes in cond (eqb insert_code 0) new b

-- Removal joins the entry to the gaps on both sides: where the joined gap starts and ends, for freed bytes from o, and up to u
unfoldable pub gap_start_before : ℕ → List Rec → ℕ
gap_start_before o [] = o
gap_start_before o (g ∷ gs) = cond (eqb (g.off + size g) o) g.off (gap_start_before o gs)

unfoldable pub gap_end_after : ℕ → List Rec → ℕ
gap_end_after u [] = u
gap_end_after u (g ∷ gs) = cond (eqb g.off u) (g.off + size g) (gap_end_after u gs)

module _ (e : Edition) (b n : List ℕ) where
  -- the joined gap, the slot's address set to 0, and one added to stale
  unfoldable pub remove_writes : List Write
  remove_writes =
      let f = sought e b n in
      let gs = gaps (records e b) in
      let o = gap_start_before f.at gs in
      let u = gap_end_after (f.at + entry_size e (length n)) gs in
      gap_writes o (u - o)
      ++ (write (data_end b + 8 * f.index + 4) (to_be 4 0) ∷ write (length b - 4) (to_be 4 (stale_of b + 1)) ∷ [])

  -- the block's refusal; 11 ASKED: name not legal; 12 FIXED; 13 ABSENT
  unfoldable pub remove_code : ℕ
  remove_code =
      verdict e b and_then
      ASKED unless legal_name e n then
      FIXED unless not (fixed_name n) then
      ABSENT unless (sought e b n).hit then 0

  -- a refusal leaves every byte
  unfoldable pub remove_bytes : List ℕ
  remove_bytes = let new = changed e b remove_writes in cond (eqb remove_code 0) new b
