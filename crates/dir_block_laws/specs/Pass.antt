-- A pass over the records of a block, in its midst and at its end.
-- Assumes nothing.
use Rattle.std.specs.Prelude.{ℕ, ◌+◌, ◌%◌, ◌≤◌, ◌<◌, ◌≡◌, false, List, [], ◌++◌, ◌∷◌, length, Ok}
use Rattle.edition.specs.declared.Edition.{Edition}
use Rattle.dir_block_rules.specs.Record.{Rec, size, gaps, besides, is_gap, join}
use Rattle.dir_block_rules.specs.Block.{records, data_end}
use Rattle.dir_block_rules.specs.Verdict.{Pair}
use Rattle.dir.specs.declared.Step.{Step}
use Rattle.dir.specs.Answers.{seen_start, seen_len}
use Rattle.dir_block_rules.specs.Walk.{is_place, walk_step}
use Rattle.dir_block_rules.specs.Room.{touching}
use Rattle.dir_block_rules.specs.Change.{best_of}

-- a record starts at p, or the data ends there
pub record Place (e : Edition) (b : List ℕ) (p : ℕ) : Type 0 where
  pub before : List Rec
  pub behind : List Rec
  pub all : records e b ≡ before ++ behind
  pub place : e.header + length (join before) ≡ p

-- at place o: the four longest gaps before it are ps
pub record GapsBefore (e : Edition) (b : List ℕ) (o : ℕ) (ps : List Pair) : Type 0 where
  pub spot : Place e b o
  pub best : best_of 4 (gaps spot.before) ≡ ps

-- at place u: the four longest gaps from there up to place v are qs
pub record GapsUpTo (e : Edition) (b : List ℕ) (v u : ℕ) (qs : List Pair) : Type 0 where
  pub before : List Rec
  pub between : List Rec
  pub beyond : List Rec
  pub all : records e b ≡ before ++ (between ++ beyond)
  pub place : e.header + length (join before) ≡ u
  pub upto : u + length (join between) ≡ v
  pub best : best_of 4 (gaps between) ≡ qs

-- p lies behind o, and no place between the two
pub record NextPlace (e : Edition) (b : List ℕ) (o p : ℕ) : Type 0 where
  pub on : o < p
  pub first : (u : ℕ) → Place e b u → o < u → p ≤ u

-- what is known of the gaps: the longest, as many as there are pairs, and T
pub record Scanned (e : Edition) (b : List ℕ) (ps : List Pair) (u k : ℕ) : Type 0 where
  pub best : best_of (length ps) (gaps (records e b)) ≡ ps
  pub touch_off : (touching (data_end b) (records e b)).off ≡ u
  pub touch_size : size (touching (data_end b) (records e b)) ≡ k
  pub touch_end : u + k ≡ data_end b
  pub touch_from : e.header ≤ u
  pub touch_mod : k % 8 ≡ 0

-- what an insert asks of the gaps: T, k bytes at u, and the longest others, as many as there are pairs
pub record Surveyed (e : Edition) (b : List ℕ) (ps : List Pair) (u k : ℕ) : Type 0 where
  pub others : best_of (length ps) (besides u (gaps (records e b))) ≡ ps
  pub last : Scanned e b [] u k

-- an entry stands at offset o
pub record EntryAt (e : Edition) (b : List ℕ) (o : ℕ) : Type 0 where
  pub before : List Rec
  pub entry : Rec
  pub behind : List Rec
  pub all : records e b ≡ before ++ (entry ∷ behind)
  pub place : e.header + length (join before) ≡ o
  pub no_gap : is_gap entry ≡ false

-- l bytes at o lie in the data
pub record Inside (e : Edition) (b : List ℕ) (o l : ℕ) : Type 0 where
  pub from : e.header ≤ o
  pub upto : o + l ≤ data_end b
  pub eights : l % 8 ≡ 0

-- the step r from place p: what it says, and where it leads; no place lies between
pub record Steps (e : Edition) (b : List ℕ) (p : ℕ) (r : Step) : Type 0 where
  pub says : Ok r ≡ walk_step e b p
  pub leads : Place e b r.next
  pub on : p < data_end b → p < r.next
  pub within : r.next ≤ data_end b
  pub none_within : (q : ℕ) → p < q → q < r.next → is_place q (data_end b) (records e b) ≡ false
  pub name_fits : seen_start r.seen + seen_len r.seen ≤ length b
  pub name_short : seen_len r.seen < 256
