use Prim.Native.Nat.{◌-◌, ◌<◌}
use mathlib.Core.Path.{◌≡◌}
use lib.ListN.{length}
use Rattle.dir_block_twice.proofs.Slots.sort.Given as goal

abbrev pub invariant-loop-run : goal.invariant-loop-run
invariant-loop-run l =
    (0 < l.run) × (l.run < 16385) × (length l.order ≡ length l.initial.order) × (length l.spare ≡ length l.initial.spare)

abbrev pub decreases-loop-run : goal.decreases-loop-run
decreases-loop-run l = l.m - l.run
