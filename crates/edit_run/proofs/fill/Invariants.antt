use Rattle.std.proofs.Common.{◌≡◌, ◌≤◌, length}
use Rattle.edit_run.proofs.fill.Given as goal

abbrev pub invariant-loop-i : goal.invariant-loop-i
invariant-loop-i l = (l.i ≤ 400) × (length l.b ≡ length l.initial.b)
