-- What a walker's own steps meet in an accepted block; the proof is in proofs/WalkerWalk.antt.
-- Assumes nothing.
use Rattle.std.specs.Prelude.{ℕ, suc, ◌+◌, ◌≡◌, true, List, [], ◌∷◌, ◌++◌, map, length, Ok}
use Rattle.be.specs.Bytes.{bytes}
use Rattle.edition.specs.Edition.{v4}
use Rattle.dir_block_rules.specs.Block.{records, data_end}
use Rattle.dir_block_rules.specs.Verdict.{Accepted}
use Rattle.dir_block_rules.specs.Walk.{step_over, step_end, walk_step}
use Rattle.dir_block_walker.specs.Place.{nth_place, answers}

-- each record once, in order, as the plain walk has it, and then the end: as many steps as there are records, plus one;
-- after that the walker stands at the data's end, and says end again, however often it is asked
pub record WalkerWalks (b : List ℕ) : Type 0 where
  pub whole : answers b (suc (length (records v4 b))) ≡ map (λ r. Ok (step_over v4 r)) (records v4 b) ++ (Ok (step_end (data_end b)) ∷ [])
  pub stays : (k : ℕ) → nth_place b (length (records v4 b) + k) ≡ data_end b
  pub again : (k : ℕ) → walk_step v4 b (nth_place b (length (records v4 b) + k)) ≡ Ok (step_end (data_end b))

unfoldable pub WalkerRight : Type 0
WalkerRight = (b : List ℕ) → bytes b ≡ true → Accepted v4 b → WalkerWalks b
