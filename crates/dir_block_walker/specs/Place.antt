-- What a walker meets, and where it then stands.
-- Assumes nothing.
use Rattle.std.specs.Prelude.{ℕ, zero, suc, List, [], ◌∷◌, ◌++◌, Result, Ok, Err}
use Rattle.edition.specs.Edition.{v4}
use Rattle.dir.specs.declared.Step.{Step}
use Rattle.dir_block_rules.specs.Walk.{walk_step, StepPromise}
use Rattle.dir_block_walker.specs.declared.Walker.{Walker}

-- the plain walk's step from the walker's place
abbrev pub met : Walker → Result Step ℕ
met w = walk_step v4 w.block.now w.place

-- and what that step promises of its answer
abbrev pub Says : Walker → Result Step ℕ → Type 0
Says w r = StepPromise v4 w.block.now w.place r

-- a step leads on; at the data's end it leads where it stood, and a refusal leaves the walker there
abbrev pub place_after : ℕ → Result Step ℕ → ℕ
place_after p (Ok s) = s.next
place_after p (Err k) = p

-- the walker after its step: it holds the same block
abbrev pub moved : Walker → Walker
moved w = record { block = w.block; place = place_after w.place (met w) }

-- where a walk over a block stands after n steps
unfoldable pub nth_place : List ℕ → ℕ → ℕ
nth_place b zero = v4.header
nth_place b (suc n) = place_after (nth_place b n) (walk_step v4 b (nth_place b n))

-- what a walk over a block meets in its first n steps
unfoldable pub answers : List ℕ → ℕ → List (Result Step ℕ)
answers b zero = []
answers b (suc n) = answers b n ++ (walk_step v4 b (nth_place b n) ∷ [])
