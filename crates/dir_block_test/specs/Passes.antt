-- What each pass of the test computes, over records and slots.
-- Assumes nothing.
use Rattle.std.specs.Prelude.{ℕ, zero, suc, ◌+◌, ◌-◌, ◌*◌, ◌/◌, ◌%◌, ◌≤◌, ◌<◌, min, Bool, true, false, not, cond, ◌&&◌, ◌||◌, ◌≡◌, List, [], ◌∷◌, eqb, leb, length, take, get_or, set, replicate, Option, Some, None}
use Rattle.std.specs.Bool.{beq}
use Rattle.refusal.specs.declared.Refusal.{Refusal}
use Rattle.refusal.specs.Refusal.{TILE, NAME, NUMBER, INDEX, BEST, TWICE, HIGHEST, number}
use Rattle.be.specs.Lists.{every, some_of, tally, same, keep}
use Rattle.be.specs.Bytes.{field, part}
use Rattle.be.specs.Codes.{◌unless◌then◌}
use Rattle.edition.specs.declared.Edition.{Edition}
use Rattle.edition.specs.Edition.{largest_block}
use Rattle.name.specs.Name.{legal_name, hash_of, dot, dotdot}
use Rattle.dir_block_rules.specs.Record.{Rec, rec, cut, says, whole, is_gap, entries, gaps, name, size}
use Rattle.dir_block_rules.specs.Block.{Slot, is_stale}
use Rattle.dir_block_rules.specs.Verdict.{name_ok, number_fits, number_ok, Pair, pair, zero_pair, is_gap_of, best_ok, best_pairs, once_ok, names_ok, numbers_ok, index_ok}
use Rattle.dir_block_rules.specs.Lookup.{name_at}
use Rattle.dir_block_twice.specs.Twice.{hash_at, addr_at}
use Rattle.dir_block_test.specs.declared.Survey.{Survey}
use Rattle.dir_block_test.specs.declared.Best.{Best}

-- the records from o to the data's end t, with fuel k
unfoldable pub rest : Edition → List ℕ → ℕ → ℕ → ℕ → List Rec
rest e b t k o = cut e k o (part o (t - o) b)

-- TILE in one pass: whether the record before was a gap, and the records to come
unfoldable pub tile_from : Edition → Bool → List Rec → Bool
tile_from e g [] = true
tile_from e g (r ∷ rs) = whole e r && not (g && is_gap r) && tile_from e (is_gap r) rs

-- how long the record at o is, if it is whole
unfoldable pub whole_len : Edition → List ℕ → ℕ → Option ℕ
whole_len e d o = cond (whole e (rec o (take (says e d) d))) (Some (says e d)) None

-- a slot with this hash at this address
abbrev pub slot_is : ℕ → ℕ → Slot → Bool
slot_is a h s = eqb s.addr a && eqb s.hash h

-- no test failed: above every refusal, so that the lowest fault counts
abbrev pub no_fault : ℕ
no_fault = suc HIGHEST

-- the first test that a record fails in a directory whose own number is `own`: NAME, NUMBER or INDEX
unfoldable pub fault : Edition → ℕ → (ℕ → ℕ → Bool) → Rec → ℕ
fault e own f r =
    cond (is_gap r) no_fault (
    NAME unless name_ok e r then
    NUMBER unless number_ok e own r then
    INDEX unless f (r.off / 8) (hash_of e (name r)) then no_fault)

unfoldable pub worst : Edition → ℕ → (ℕ → ℕ → Bool) → List Rec → ℕ
worst e own f [] = no_fault
worst e own f (r ∷ rs) = min (fault e own f r) (worst e own f rs)

-- hashes never fall, from h on
unfoldable pub rising_from : ℕ → List Slot → Bool
rising_from h [] = true
rising_from h (s ∷ ss) = leb h s.hash && rising_from s.hash ss

-- the slots never fall, and n and their stale ones make m
unfoldable pub ordered_with : ℕ → ℕ → ℕ → List Slot → Bool
ordered_with h n m ss = rising_from h ss && eqb (n + tally is_stale ss) m

-- a name that may stand at o
unfoldable pub name_fits : Edition → ℕ → List ℕ → Bool
name_fits e o n =
    legal_name e n
    && beq (same n dot) (eqb o e.header)
    && beq (same n dotdot) (eqb o (e.header + 16))

-- the number at the header's end, where "." sits
abbrev pub own_at : Edition → List ℕ → ℕ
own_at e b = field e.header 8 b

-- the first test that the entry at o fails, where f says whether an address and a hash have a slot
unfoldable pub fault_at : Edition → ℕ → (ℕ → ℕ → Bool) → List ℕ → ℕ → ℕ
fault_at e own f b o =
    NAME unless name_fits e o (name_at b o) then
    NUMBER unless number_fits e own (name_at b o) (field o 8 b) then
    INDEX unless f (o / 8) (hash_of e (name_at b o)) then no_fault

-- pair i of the table as the code keeps it
abbrev pub pair_of : List Best → ℕ → Pair
pair_of ps i = let p = get_or ps i (record { from = 0; long = 0 }) in pair p.from p.long

-- the gaps that a pair does not name
abbrev pub unnamed : Pair → List Rec → List Rec
unnamed p gs = keep (λ g. not (is_gap_of p g)) gs

-- BEST in one pass, where x, y, z say whether p, q, r are done: each other pair names a gap, and no gap that is not named is longer than r
unfoldable pub best_left : Bool → Bool → Bool → Pair → Pair → Pair → List Rec → Bool
best_left x y z p q r gs =
    (x || some_of (is_gap_of p) gs)
    && ((y || some_of (is_gap_of q) (unnamed p gs))
    && ((z || some_of (is_gap_of r) (unnamed q (unnamed p gs)))
    && every (λ g. leb (size g) r.long) (unnamed r (unnamed q (unnamed p gs)))))

-- a pair of zeros need not name a gap
abbrev pub best_of_pairs : Pair → Pair → Pair → List Rec → Bool
best_of_pairs p q r gs = best_left (zero_pair p) (zero_pair q) (zero_pair r) p q r gs

-- which of the three pairs names the gap of n bytes at o
unfoldable pub which : ℕ → ℕ → Pair → Pair → Pair → Option ℕ
which o n p q r =
    cond (eqb o p.from && eqb n p.long) (Some 0) (
    cond (eqb o q.from && eqb n q.long) (Some 1) (
    cond (eqb o r.from && eqb n r.long) (Some 2) None))

-- the verdict on a block whose records are rs and slots ss, from BEST on, from NAME on, and from TILE on
unfoldable pub after_index : Edition → List ℕ → List Rec → ℕ
after_index e b rs = BEST unless best_ok (best_pairs e b) (gaps rs) then TWICE unless once_ok e (entries rs) then 0

unfoldable pub after_tile : Edition → List ℕ → List Rec → List Slot → ℕ → ℕ
after_tile e b rs ss m =
    NAME unless names_ok e rs then
    NUMBER unless numbers_ok e rs then
    INDEX unless index_ok e rs ss m then after_index e b rs

unfoldable pub after_span : Edition → List ℕ → List Rec → List Slot → ℕ → ℕ
after_span e b rs ss m = TILE unless tile_from e false rs then after_tile e b rs ss m

-- a block whose data ends at t and has n slots there, all counted, and behind them its tail
pub record Parts (e : Edition) (b : List ℕ) (t n : ℕ) : Type 0 where
  pub slots_fit : t + 8 * n + 8 ≤ length b
  pub eights : t % 8 ≡ 0
  pub least : e.header ≤ t
  pub short : t < 65536
  pub top : length b ≤ largest_block

-- and whose data is tiled
pub record DataTiled (e : Edition) (b : List ℕ) (t n : ℕ) : Type 0 where
  pub parts : Parts e b t n
  pub tiles : tile_from e false (rest e b t (length b) e.header) ≡ true

-- a hash and an address as one number
abbrev pub slot_word : ℕ → ℕ → ℕ
slot_word h a = h * 4294967296 + a

-- the words of the first i slots at t, by their addresses, in a table; the last slot at an address counts
unfoldable pub cells_of : List ℕ → ℕ → List ℕ → ℕ → List ℕ
cells_of b t M zero = M
cells_of b t M (suc i) = set (cells_of b t M i) (addr_at b t i) (slot_word (hash_at b t i) (addr_at b t i))

-- the table has the word of hash h at address a
unfoldable pub hint : List ℕ → ℕ → ℕ → Bool
hint M a h = eqb (get_or M a 0) (slot_word h a)

-- a slot has the hash of the one before it; before the first stands h
unfoldable pub level : ℕ → List Slot → Bool
level h [] = false
level h (s ∷ ss) = eqb h s.hash || level s.hash ss

-- the number of a fault that an entry may have
abbrev pub fault_of : Option Refusal → ℕ
fault_of (Some r) = number r
fault_of None = no_fault

-- what the pass over the records rs answers: if the data is tiled, how many entries there are, the lowest fault, and the answer B
abbrev pub Surveyed : Edition → ℕ → (ℕ → ℕ → Bool) → List Rec → Bool → Option Survey → Type 0
Surveyed e own f rs B (Some s) = (tile_from e false rs ≡ true) × (s.entries ≡ length (entries rs)) × (fault_of s.fault ≡ worst e own f rs) × (s.best ≡ B)
Surveyed e own f rs B None = tile_from e false rs ≡ false

-- w is the lowest fault, by a table of zeros that the slots have filled
pub record Faulted (e : Edition) (b : List ℕ) (t n w : ℕ) : Type 0 where
  pub cells : ℕ
  pub long : t ≤ 8 * cells
  pub lowest : w ≡ worst e (own_at e b) (hint (cells_of b t (replicate cells 0) n)) (rest e b t (length b) e.header)
