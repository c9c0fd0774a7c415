-- The paper's number and values for each case of an answer. A refusal has its number only; a block lookup's 13 also the names compared.
-- Assumes nothing.
use Rattle.std.specs.Prelude.{ℕ, Result, Ok, Err}
use Rattle.refusal.specs.Refusal.{ABSENT, outcome}
use Rattle.dir.specs.declared.Target.{Target}
use Rattle.dir.specs.declared.Looked.{Looked}
use Rattle.dir.specs.declared.Looked.TheVariants.{Found, Absent}
use Rattle.dir.specs.declared.Seen.{Seen}
use Rattle.dir.specs.declared.Seen.TheVariants.{Live, Gap, End}
use Rattle.dir.specs.declared.Step.{Step}
use Rattle.dir.specs.Target.{no_target}

-- ---- a lookup: its number, 0 when found; what the name stands for; its entry's tag, 0 when there is none; the names compared

abbrev pub looked_code : Result Looked ℕ → ℕ
looked_code (Ok (Found t g c)) = 0
looked_code (Ok (Absent c)) = ABSENT
looked_code (Err k) = k

abbrev pub looked_target : Result Looked ℕ → Target
looked_target (Ok (Found t g c)) = t
looked_target (Ok (Absent c)) = no_target
looked_target (Err k) = no_target

abbrev pub looked_tag : Result Looked ℕ → ℕ
looked_tag (Ok (Found t g c)) = g
looked_tag (Ok (Absent c)) = 0
looked_tag (Err k) = 0

abbrev pub looked_compared : Result Looked ℕ → ℕ
looked_compared (Ok (Found t g c)) = c
looked_compared (Ok (Absent c)) = c
looked_compared (Err k) = 0

-- ---- a step of the walk: its number, 0 when the step is done; where the walk now stands; what it met

abbrev pub walked_code : Result Step ℕ → ℕ
walked_code = outcome

abbrev pub walked_next : Result Step ℕ → ℕ
walked_next (Ok s) = s.next
walked_next (Err k) = 0

abbrev pub walked_seen : Result Step ℕ → Seen
walked_seen (Ok s) = s.seen
walked_seen (Err k) = End

-- ---- for code and proofs alone: where a live entry's name starts, and its length; 0 where there is none
abbrev pub seen_start : Seen → ℕ
seen_start (Live l) = l.start
seen_start Gap = 0
seen_start End = 0

abbrev pub seen_len : Seen → ℕ
seen_len (Live l) = l.len
seen_len Gap = 0
seen_len End = 0
