use Prim.Native.Nat.{◌+◌, ◌≤◌}
use mathlib.Core.Path.{◌≡◌}
use lib.ListN.{length}
use Rattle.dir_block_twice.proofs.Slots.merge.Given as goal

abbrev pub invariant-loop-k : goal.invariant-loop-k
invariant-loop-k l =
    (l.p + l.q ≡ l.k) × (l.p ≤ length l.left) × (l.q ≤ length l.right) × (length l.to ≡ length l.initial.to)
