use mathlib.Core.Path.{◌≡◌}
use mathlib.Core.Bool.{true}
use lib.ListN.{take}
use Rattle.be.specs.Lists.{every}
use Rattle.dir_block_rules.specs.Block.{slots, is_live}
use Rattle.dir_block_index.proofs.first_stale.Given as goal

abbrev pub invariant-loop-j : goal.invariant-loop-j
invariant-loop-j l = every is_live (take l.j (slots l.b)) ≡ true
