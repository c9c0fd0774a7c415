-- What the search hands back, of the definition's record.
-- Assumes nothing.
use Rattle.std.specs.Prelude.{ℕ, false, cond, Some, None}
use Rattle.dir_block_rules.specs.Lookup.{Sought}
use Rattle.dir_block_lookup.specs.declared.Search as search_type

-- the slot and the entry where the search hits
abbrev pub found_as : Sought → search_type.Search
found_as s = record { found = cond s.hit (Some (record { index = s.index; at = s.at })) None; compared = s.compared }

-- the definition's record of a search that hits none of k slots and compares c names
abbrev pub missed : ℕ → ℕ → Sought
missed k c = record { hit = false; index = k; at = 0; compared = c }
