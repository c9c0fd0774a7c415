use mathlib.Core.Path.{◌≡◌}
use lib.ListN.{length}
use Rattle.list.proofs.hex_of.Given as goal

abbrev pub invariant-loop-i : goal.invariant-loop-i
invariant-loop-i l = length l.out ≡ 512
