-- One step of the walk over a short form, and the whole walk: stored order, no gaps, places counted from the fork's start.
-- Assumes nothing.
use Rattle.std.specs.Prelude.{ℕ, zero, suc, ◌+◌, ◌≡◌, Bool, cond, List, [], ◌∷◌, ◌++◌, map, eqb, length, Result, Ok, Err}
use Rattle.refusal.specs.Refusal.{ASKED, answered}
use Rattle.be.specs.Codes.{◌unless◌then◌, ◌and_then◌}
use Rattle.records.specs.Records.{start, places, stands}
use Rattle.edition.specs.declared.Edition.{Edition}
use Rattle.dir.specs.declared.Seen.{Seen}
use Rattle.dir.specs.declared.Seen.TheVariants.{Live, Gap, End}
use Rattle.dir.specs.declared.Step.{Step}
use Rattle.dir.specs.Answers.{walked_code, walked_next, walked_seen}
use Rattle.dir_sf.specs.Entry.{size_at, entry_at}
use Rattle.dir_sf.specs.Fork.{count_of, used_width, place_of}
use Rattle.dir_sf.specs.Inode.{verdict, used}

-- at the end a step says end, and stands where it stood
unfoldable pub end_step : ℕ → Step
end_step p = record { next = p; seen = End }

-- the entry at place p of the used bytes: its tag is the stored one, its name is given by where it starts in the inode
unfoldable pub entry_step : Edition → ℕ → List ℕ → ℕ → Step
entry_step e w u p =
    let x = entry_at e w u p in
    record { next = p + size_at e w u p; seen = Live (record { target = x.target; tag = x.tag; start = e.literal + (p + 3); len = length x.name }) }

-- places are record starts and the list's end, starting after the header
unfoldable pub place_in : Edition → List ℕ → ℕ → Bool
place_in e u place = stands (size_at e (used_width u) u) (count_of u) (2 + used_width u) place

-- the step from such a place
unfoldable pub step_in : Edition → List ℕ → ℕ → Step
step_in e u place = cond (eqb place (place_of e (count_of u) u)) (end_step place) (entry_step e (used_width u) u place)

-- a step's number: the tests', or 11 ASKED for any other place
unfoldable pub step_code : Edition → ℕ → List ℕ → ℕ → ℕ
step_code e told b place = verdict e told b and_then ASKED unless place_in e (used e b) place then 0

-- where the walk now stands, and what it met, when the step is done
unfoldable pub step_next : Edition → ℕ → List ℕ → ℕ → ℕ
step_next e told b place = cond (eqb (step_code e told b place) 0) (step_in e (used e b) place).next 0

unfoldable pub step_seen : Edition → ℕ → List ℕ → ℕ → Seen
step_seen e told b place = cond (eqb (step_code e told b place) 0) (step_in e (used e b) place).seen End

-- one step: live entry or end, together with where the walk now stands
unfoldable pub walk_step : Edition → ℕ → List ℕ → ℕ → Result Step ℕ
walk_step e told b place = answered (step_code e told b place) (step_in e (used e b) place)

-- what a step promises of its answer: the answer itself, and its number and values
abbrev pub StepPromise : Edition → ℕ → List ℕ → ℕ → Result Step ℕ → Type 0
StepPromise e told b p r =
    (r ≡ walk_step e told b p) × (walked_code r ≡ step_code e told b p) × (walked_next r ≡ step_next e told b p) × (walked_seen r ≡ step_seen e told b p)

-- ---- the whole walk

-- what follows a step: the walk goes on from the next place after a live entry, and stops at the end
unfoldable pub after_step : Result Step ℕ → (ℕ → List (Result Step ℕ)) → List (Result Step ℕ)
after_step (Err n) f = []
after_step (Ok s) f = after_seen s.seen (f s.next)
  where
    after_seen : Seen → List (Result Step ℕ) → List (Result Step ℕ)
    after_seen (Live x) r = r
    after_seen Gap r = r
    after_seen End r = []

-- the steps of a walk from a place on, at most so many
unfoldable pub walk : Edition → ℕ → List ℕ → ℕ → ℕ → List (Result Step ℕ)
walk e told b zero place = []
walk e told b (suc steps) place = walk_step e told b place ∷ after_step (walk_step e told b place) (walk e told b steps)

-- each of k entries of u once, the first of them at p, and then the end
unfoldable pub meets : Edition → ℕ → List ℕ → ℕ → ℕ → List (Result Step ℕ)
meets e w u k p =
    map (λ (q : ℕ). Ok (entry_step e w u q)) (places (size_at e w u) k p) ++ (Ok (end_step (start (size_at e w u) k p)) ∷ [])
