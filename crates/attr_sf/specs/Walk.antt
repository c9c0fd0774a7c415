-- The walk over an inode's attributes: one step, and the steps one after the other.
-- Assumes nothing.
use Rattle.std.specs.Prelude.{ℕ, zero, suc, ◌+◌, ◌≡◌, Bool, true, false, cond, List, [], ◌∷◌, eqb, Option, Some, None, Result, Ok, Err}
use Rattle.refusal.specs.Refusal.{ASKED, answered, outcome}
use Rattle.be.specs.Codes.{◌and_then◌, ◌unless◌then◌}
use Rattle.records.specs.Records.{stands}
use Rattle.edition.specs.declared.Edition.{Edition}
use Rattle.dinode.specs.Core.{attr_start, attr_fork}
use Rattle.attr_sf.specs.Fork.{header, totsize, count, size_at}
use Rattle.attr_sf.specs.Calls.{verdict, attr_at}
use Rattle.attr_sf.specs.declared.Attr.{Attr}
use Rattle.attr_sf.specs.declared.Step.{Step}

-- 11 ASKED: the walk place is not legal (record starts and the list's end are), judged after the tests
unfoldable pub step_code : Edition → List ℕ → ℕ → ℕ
step_code e b place = verdict e b and_then ASKED unless stands (size_at (attr_fork e b)) (count (attr_fork e b)) header place then 0

-- a step at an entry of the fork that starts at s
unfoldable pub live_step : ℕ → List ℕ → ℕ → Step
live_step s f place = record { next = place + size_at f place; seen = Some (attr_at s f place) }

-- a step at the list's end, which answers end again
unfoldable pub end_step : ℕ → Step
end_step place = record { next = place; seen = None }

unfoldable pub step_in : ℕ → List ℕ → ℕ → Step
step_in s f place = cond (eqb place (totsize f)) (end_step place) (live_step s f place)

-- what a step answers: live entry or end, together with where the walk now stands; or the refusal's number
unfoldable pub walked_in : ℕ → List ℕ → ℕ → Result Step ℕ
walked_in s f place = answered (ASKED unless stands (size_at f) (count f) header place then 0) (step_in s f place)

unfoldable pub walk_step : Edition → List ℕ → ℕ → Result Step ℕ
walk_step e b place = answered (step_code e b place) (step_in (attr_start e b) (attr_fork e b) place)

-- a step's number, 0 where it is done, where the walk then stands, and what it met; a refusal has its number only
abbrev pub walked_code : Result Step ℕ → ℕ
walked_code = outcome

abbrev pub walked_next : Result Step ℕ → ℕ
walked_next (Ok s) = s.next
walked_next (Err k) = 0

abbrev pub walked_seen : Result Step ℕ → Option Attr
walked_seen (Ok s) = s.seen
walked_seen (Err k) = None

-- where the walk now stands, and what it met, when the step is done
unfoldable pub step_next : Edition → List ℕ → ℕ → ℕ
step_next e b place = cond (eqb (step_code e b place) 0) (step_in (attr_start e b) (attr_fork e b) place).next 0

unfoldable pub step_seen : Edition → List ℕ → ℕ → Option Attr
step_seen e b place = cond (eqb (step_code e b place) 0) (step_in (attr_start e b) (attr_fork e b) place).seen None

-- what a step promises of its answer: the answer itself, and its number and values
abbrev pub StepPromise : Edition → List ℕ → ℕ → Result Step ℕ → Type 0
StepPromise e b place r =
    (r ≡ walk_step e b place) × (walked_code r ≡ step_code e b place)
    × (walked_next r ≡ step_next e b place) × (walked_seen r ≡ step_seen e b place)

-- ---- the whole walk

-- a walk goes on after a live entry
abbrev pub is_live : Option Attr → Bool
is_live (Some a) = true
is_live None = false

-- the answers of a walk from a place on, n of them at most: it goes on as long as it meets entries
unfoldable pub walk : Edition → List ℕ → ℕ → ℕ → List (Result Step ℕ)
walk e b zero place = []
walk e b (suc n) place =
    let a = walk_step e b place in
    let rest = walk e b n (walked_next a) in a ∷ cond (is_live (walked_seen a)) rest []
