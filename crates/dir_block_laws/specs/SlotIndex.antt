-- Slots by hash. Assumes nothing.
use Rattle.std.specs.Prelude.{ℕ, suc, ◌+◌, ◌*◌, ◌≤◌, ◌<◌, ◌≡◌, Bool, true, List, take, drop, leb, ltb}
use Rattle.be.specs.Lists.{every}
use Rattle.dir_block_rules.specs.Block.{Slot, slots, count_of, data_end, is_live}
use Rattle.be.specs.Bytes.{field}

-- every hash is below h; every hash is at least h; every hash is above h
unfoldable pub all_below : ℕ → List Slot → Bool
all_below h ss = every (λ s. ltb s.hash h) ss

unfoldable pub all_from : ℕ → List Slot → Bool
all_from h ss = every (λ s. leb h s.hash) ss

-- a slot of hash h goes in at index p: the slots before it have an equal or lower hash, and those from it on a higher one
pub record Spot (b : List ℕ) (h p : ℕ) : Type 0 where
  pub fits : p ≤ count_of b
  pub below : all_below (suc h) (take p (slots b)) ≡ true
  pub above : all_from (suc h) (drop p (slots b)) ≡ true

-- the first stale slot stands at index j
pub record FirstStale (b : List ℕ) (j : ℕ) : Type 0 where
  pub fits : j < count_of b
  pub before : every is_live (take j (slots b)) ≡ true
  pub here : field (data_end b + 8 * j + 4) 4 b ≡ 0
