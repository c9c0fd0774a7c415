-- One step of the walk over a block, and repeated steps.
-- Assumes nothing.
use Rattle.std.specs.Prelude.{ℕ, zero, suc, ◌+◌, Bool, cond, ◌||◌, ◌≡◌, List, [], ◌∷◌, eqb, Result}
use Rattle.refusal.specs.Refusal.{ASKED, answered}
use Rattle.be.specs.Lists.{some_of}
use Rattle.be.specs.Codes.{◌unless◌then◌, ◌and_then◌}
use Rattle.edition.specs.declared.Edition.{Edition}
use Rattle.dir.specs.declared.Entry.{Entry}
use Rattle.dir.specs.declared.Seen.{Seen}
use Rattle.dir.specs.declared.Seen.TheVariants.{Live, Gap, End}
use Rattle.dir.specs.declared.Step.{Step}
use Rattle.dir.specs.Answers.{walked_code, walked_next, walked_seen}
use Rattle.dir_block_rules.specs.Record.{Rec, rec, size, is_gap, namelen, target_of}
use Rattle.dir_block_rules.specs.Block.{records, data_end}
use Rattle.dir_block_rules.specs.Verdict.{verdict}

-- a live entry: what its name stands for, its tag, which is its own offset, and its name as a part of the block, which starts after number
-- and namelen
abbrev pub entry_of : Edition → Rec → Entry
entry_of e r = record { target = target_of e r; tag = r.off; start = r.off + 9; len = namelen r }

abbrev pub seen_of : Edition → Rec → Seen
seen_of e r = cond (is_gap r) Gap (Live (entry_of e r))

-- the step from a record stands at its end
abbrev pub step_over : Edition → Rec → Step
step_over e r = record { next = r.off + size r; seen = seen_of e r }

-- at the data's end a step says end and stands where it stood
abbrev pub step_end : ℕ → Step
step_end p = record { next = p; seen = End }

-- the record at offset o, or an empty one
unfoldable pub record_at : ℕ → List Rec → Rec
record_at o [] = rec o []
record_at o (r ∷ rs) = cond (eqb r.off o) r (record_at o rs)

-- a place is a record's tag or the data's end
abbrev pub is_place : ℕ → ℕ → List Rec → Bool
is_place p u rs = eqb p u || some_of (λ r. eqb r.off p) rs

-- a step's number: the block's, or 11 ASKED for any other place
unfoldable pub step_code : Edition → List ℕ → ℕ → ℕ
step_code e b p =
    verdict e b and_then ASKED unless is_place p (data_end b) (records e b) then 0

-- the step from a place
abbrev pub step_from : Edition → List ℕ → ℕ → Step
step_from e b p = cond (eqb p (data_end b)) (step_end p) (step_over e (record_at p (records e b)))

-- where the walk now stands, and what it met, when the step is done
unfoldable pub step_next : Edition → List ℕ → ℕ → ℕ
step_next e b p = cond (eqb (step_code e b p) 0) (step_from e b p).next 0

unfoldable pub step_seen : Edition → List ℕ → ℕ → Seen
step_seen e b p = cond (eqb (step_code e b p) 0) (step_from e b p).seen End

-- one step: live entry, gap or end, together with where the walk now stands
unfoldable pub walk_step : Edition → List ℕ → ℕ → Result Step ℕ
walk_step e b p = answered (step_code e b p) (step_from e b p)

-- what a step promises of its answer: the answer itself, and its number and values
abbrev pub StepPromise : Edition → List ℕ → ℕ → Result Step ℕ → Type 0
StepPromise e b p r =
    (r ≡ walk_step e b p) × (walked_code r ≡ step_code e b p) × (walked_next r ≡ step_next e b p) × (walked_seen r ≡ step_seen e b p)

-- k steps, each from where the one before stands
unfoldable pub walk : Edition → List ℕ → ℕ → ℕ → List (Result Step ℕ)
walk e b zero p = []
walk e b (suc k) p = walk_step e b p ∷ walk e b k (walked_next (walk_step e b p))
