use Rattle.std.proofs.Common.{◌-◌, ◌≤◌}
use Rattle.edit_run.proofs.gaps.Given as goal

abbrev pub invariant-loop-o : goal.invariant-loop-o
invariant-loop-o l = 16 ≤ l.o

abbrev pub decreases-loop-o : goal.decreases-loop-o
decreases-loop-o l = l.end - l.o
