-- What is claimed of a block besides demand 3, each over every edition of sane sizes. The starred numbers stand in Starred.antt.
-- Their proofs: proofs/LookupRight.antt, OwnRight.antt, WholeWalk.antt, BestAnew.antt, SlotOrder.antt, Capacity.antt, TwoBytes.antt.
-- Assumes nothing.
use Rattle.std.specs.Prelude.{ℕ, suc, ◌+◌, ◌-◌, ◌*◌, ◌/◌, ◌^◌, ◌≤◌, ◌<◌, Bool, true, false, not, cond, ◌&&◌, ◌||◌, ◌≡◌, List, [], ◌∷◌, ◌++◌, map, eqb, leb, ltb, length, take, drop, Ok, Err}
use Rattle.refusal.specs.Refusal.{ASKED, ABSENT}
use Rattle.be.specs.Lists.{every, some_of, keep}
use Rattle.be.specs.Bytes.{bytes, part}
use Rattle.edition.specs.declared.Edition.{Edition}
use Rattle.edition.specs.Edition.{largest_block, entry_size}
use Rattle.name.specs.Name.{legal_name, same_name, fixed_name, dot}
use Rattle.dir.specs.declared.Target.{Target}
use Rattle.dir.specs.declared.Looked.TheVariants.{Found, Absent}
use Rattle.dir_block_rules.specs.Record.{Rec, size, is_gap, entries, gaps, name, target_of, tag}
use Rattle.dir_block_rules.specs.Block.{records, data_end, Slot}
use Rattle.dir_block_rules.specs.Verdict.{Accepted, size_ok, rising, Pair, pair, best_pairs, zero_pair, is_gap_of}
use Rattle.dir.specs.Answers.{looked_code}
use Rattle.dir_block_rules.specs.Lookup.{lookup, lookup_code, lookup_target, names_compared}
use Rattle.dir_block_rules.specs.Change.{insert_slot, insert_code}
use Rattle.dir.specs.Calls.{Call, done}
use Rattle.dir_block_rules.specs.Calls.{reply, after}
use Rattle.dir.specs.Along.{call_bytes}
use Rattle.dir_block_rules.specs.Walk.{entry_of, step_over, step_end, is_place, walk_step, walk}

-- some live entry of the block bears the name
abbrev pub borne : Edition → List ℕ → List ℕ → Bool
borne e b n = some_of (λ r. same_name e n (name r)) (entries (records e b))

-- demand 2: a lookup in an accepted block gives number, type and tag of whichever live entry bears the name, whose bytes stand where the tag
-- says, and is absent exactly when none does; both tell the names compared
pub record LooksUp (e : Edition) (b n : List ℕ) : Type 0 where
  pub found : (xs : List Rec) (r : Rec) (ys : List Rec) → entries (records e b) ≡ xs ++ r ∷ ys → same_name e n (name r) ≡ true
      → (lookup e b n ≡ Ok (Found (target_of e r) (tag r) (names_compared e b n))) × (part (tag r) (size r) b ≡ r.raw)
  pub absent : borne e b n ≡ false → lookup e b n ≡ Ok (Absent (names_compared e b n))
  pub exactly : looked_code (lookup e b n) ≡ cond (borne e b n) 0 ABSENT

unfoldable pub LookupRight : Edition → Type 0
LookupRight e = (b n : List ℕ) → bytes b ≡ true → Accepted e b → legal_name e n ≡ true → LooksUp e b n

-- no directory inside itself: "." is found, no other name but ".." is found with its number, and an insert of that number is refused with 11
pub record OutsideItself (e : Edition) (b : List ℕ) : Type 0 where
  pub own : lookup_code e b dot ≡ 0
  pub found : (n : List ℕ) → fixed_name n ≡ false → lookup_code e b n ≡ 0 → eqb (lookup_target e b n).inode (lookup_target e b dot).inode ≡ false
  pub asked : (n : List ℕ) (i : Target) → eqb i.inode (lookup_target e b dot).inode ≡ true → insert_code e b n i ≡ ASKED

unfoldable pub OwnRight : Edition → Type 0
OwnRight e = (b : List ℕ) → bytes b ≡ true → Accepted e b → OutsideItself e b

-- each number is above the one before
unfoldable pub climbs : List ℕ → Bool
climbs [] = true
climbs (m ∷ []) = true
climbs (m ∷ n ∷ ns) = ltb m n && climbs (n ∷ ns)

-- from the header's end (16) repeated steps meet each record once by rising tag, live entries and gaps as they are, and end after
-- records plus one steps; at the end a step says end again; a live entry's name is the part of the block that its step says; a record's
-- tag, gaps' too, is as it stores it and where its bytes stand; any other place is refused with 11
pub record Walks (e : Edition) (b : List ℕ) : Type 0 where
  pub whole : walk e b (suc (length (records e b))) e.header ≡ map (λ r. Ok (step_over e r)) (records e b) ++ (Ok (step_end (data_end b)) ∷ [])
  pub rises : climbs (map tag (records e b)) ≡ true
  pub again : walk_step e b (data_end b) ≡ Ok (step_end (data_end b))
  pub names : (xs : List Rec) (r : Rec) (ys : List Rec) → records e b ≡ xs ++ r ∷ ys → is_gap r ≡ false → part (entry_of e r).start (entry_of e r).len b ≡ name r
  pub tags : (xs : List Rec) (r : Rec) (ys : List Rec) → records e b ≡ xs ++ r ∷ ys → ((entry_of e r).tag ≡ tag r) × (part (tag r) (size r) b ≡ r.raw)
  pub elsewhere : (p : ℕ) → is_place p (data_end b) (records e b) ≡ false → walk_step e b p ≡ Err ASKED

unfoldable pub WalkRight : Edition → Type 0
WalkRight e = (b : List ℕ) → bytes b ≡ true → Accepted e b → Walks e b

-- p comes before q in the best-gap table: longer, or as long and at a lower offset
abbrev pub ahead : Pair → Pair → Bool
ahead p q = ltb q.long p.long || (eqb p.long q.long && ltb p.from q.from)

-- each pair comes before the next
unfoldable pub ranked : List Pair → Bool
ranked [] = true
ranked (p ∷ []) = true
ranked (p ∷ q ∷ ps) = ahead p q && ranked (q ∷ ps)

-- the pairs that are needed: as many as there are gaps, or all
abbrev pub needed_pairs : List Rec → List Pair → List Pair
needed_pairs gs ps = take (length gs) ps

-- a gap is in the table, or comes after each pair of it
abbrev pub in_or_behind : List Pair → Rec → Bool
in_or_behind ps g = some_of (λ p. is_gap_of p g) ps || every (λ p. ahead p (pair g.off (size g))) ps

-- the header's pairs ps, as a change leaves them in a block with gaps gs
pub record BestWritten (ps : List Pair) (gs : List Rec) : Type 0 where
  -- the needed pairs are gaps, longest first, lower offset first among equals
  pub are_gaps : every (λ p. some_of (is_gap_of p) gs) (needed_pairs gs ps) ≡ true
  pub longest_first : ranked (needed_pairs gs ps) ≡ true
  -- they are the longest: any other gap comes after them
  pub others_behind : every (in_or_behind (needed_pairs gs ps)) gs ≡ true
  -- unneeded pairs are zero
  pub others_zero : every zero_pair (drop (length gs) ps) ≡ true

-- every change writes the pairs anew
unfoldable pub BestRight : Edition → Type 0
BestRight e =
    (b : List ℕ) (c : Call) → bytes b ≡ true → Accepted e b → call_bytes c ≡ true → reply e b c ≡ done
    → BestWritten (best_pairs e (after e b c)) (gaps (records e (after e b c)))

-- the new slot stands after all slots with an equal or lower hash, and before all with a higher one
unfoldable pub SlotRight : Type 0
SlotRight =
    (s : Slot) (ss : List Slot) → rising ss ≡ true
    → insert_slot s ss ≡ keep (λ t. leb t.hash s.hash) ss ++ (s ∷ keep (λ t. not (leb t.hash s.hash)) ss)

-- C6: a block of L bytes holds at most (L - 24) / 24 live entries; 24 is V4's header and tail, and the least that an entry and its slot take
unfoldable pub CapacityRight : Edition → Type 0
CapacityRight e = (b : List ℕ) → bytes b ≡ true → Accepted e b → length (entries (records e b)) ≤ (length b - (e.header + 8)) / 24

-- the gap of a block of L bytes with "." and ".." alone, as C1 has it: what header, both entries, their slots and the tail leave
abbrev pub lone_gap : Edition → ℕ → ℕ
lone_gap e L = L - (e.header + (entry_size e 1 + entry_size e 2) + 2 * 8 + 8)

-- why 65,536 is the end: offsets and gap lengths take 2 bytes
pub record TwoBytes (e : Edition) : Type 0 where
  -- 2 bytes hold the offset and the length of whatever lies in the data of a block of an allowed size
  pub hold : (b : List ℕ) (o n : ℕ) → size_ok b ≡ true → o + n ≤ data_end b → (o < 256 ^ 2) × (n < 256 ^ 2)
  -- no accepted block has a longer gap than "." and ".." alone leave
  pub longest : (b : List ℕ) → bytes b ≡ true → Accepted e b → every (λ g. leb (size g) (lone_gap e (length b))) (gaps (records e b)) ≡ true
  -- in a block of twice the largest size 2 bytes would not hold that gap
  pub no_more : 256 ^ 2 ≤ lone_gap e (2 * largest_block)
