-- The paper's refusals by name: one table for all definitions. A call's number is 0 when nothing is refused.
-- Assumes nothing.
use Rattle.std.specs.Prelude.{ℕ, cond, eqb, Result, Ok, Err}
use Rattle.refusal.specs.declared.Refusal.{Refusal}
use Rattle.refusal.specs.declared.Refusal.TheVariants.{Size, Magic, Kind, Span, Tile, Name, Number, Index, Best, Twice, Asked, Fixed, Absent, Exists, NoRoom}

-- an inode's, a block's or the told block length isn't one allowed
abbrev pub SIZE : ℕ
SIZE = 1

-- an inode's or a block's magic is wrong
abbrev pub MAGIC : ℕ
MAGIC = 2

-- the inode is not of the wanted version, type or format
abbrev pub KIND : ℕ
KIND = 3

-- a stored total doesn't fit
abbrev pub SPAN : ℕ
SPAN = 4

-- records don't fill the span
abbrev pub TILE : ℕ
TILE = 5

-- a stored name breaks the rules
abbrev pub NAME : ℕ
NAME = 6

-- a stored inode number is out of range; in a block, an entry but "." and ".." has that of "."; an attribute's flags are wrong
abbrev pub NUMBER : ℕ
NUMBER = 7

-- stored counts or index disagree with the entries
abbrev pub INDEX : ℕ
INDEX = 8

-- the best-gap table is wrong
abbrev pub BEST : ℕ
BEST = 9

-- a name is stored twice
abbrev pub TWICE : ℕ
TWICE = 10

-- the caller's name, number, flags or walk place are not legal
abbrev pub ASKED : ℕ
ASKED = 11

-- "." or ".." inserted or removed; "." looked up in a short form
abbrev pub FIXED : ℕ
FIXED = 12

-- lookup or removal: no such live entry
abbrev pub ABSENT : ℕ
ABSENT = 13

-- directory insert: the name is there
abbrev pub EXISTS : ℕ
EXISTS = 14

-- no room, by the room rules
abbrev pub NOROOM : ℕ
NOROOM = 15

-- 16 is retired: it is not given, and not used again

-- the highest of them
abbrev pub HIGHEST : ℕ
HIGHEST = NOROOM

-- the number of each
abbrev pub number : Refusal → ℕ
number Size = SIZE
number Magic = MAGIC
number Kind = KIND
number Span = SPAN
number Tile = TILE
number Name = NAME
number Number = NUMBER
number Index = INDEX
number Best = BEST
number Twice = TWICE
number Asked = ASKED
number Fixed = FIXED
number Absent = ABSENT
number Exists = EXISTS
number NoRoom = NOROOM

-- ---- what a call answers: what it gives, or the refusal's number

-- what is given by a call whose number is n: v where that is 0
abbrev pub answered : {A : Type 0} → ℕ → A → Result A ℕ
answered n v = cond (eqb n 0) (Ok v) (Err n)

-- an answer's number, 0 when nothing is refused
abbrev pub outcome : {A : Type 0} → Result A ℕ → ℕ
outcome (Ok x) = 0
outcome (Err k) = k

-- ---- and what code answers, told by the paper's numbers

-- an answer's number: 0 when nothing is refused
abbrev pub code : {A : Type 0} → Result A Refusal → ℕ
code (Ok x) = 0
code (Err r) = number r

-- an answer with the refusal's number in place of the refusal
abbrev pub numbered : {A : Type 0} → Result A Refusal → Result A ℕ
numbered (Ok x) = Ok x
numbered (Err r) = Err (number r)
