use Prim.Native.Nat.{◌+◌, ◌-◌, ◌≤◌}
use mathlib.Core.Path.{◌≡◌}
use lib.ListN.{length}
use Rattle.dir_block_twice.proofs.TwinKeys.{Downing}
use Rattle.dir_block_twice.proofs.Slots.once_with.Given as goal

abbrev pub invariant-loop-i : goal.invariant-loop-i
invariant-loop-i l =
    Downing l.e l.self.block.now l.self.at l.self.count l.i l.seen × (length l.seen ≡ length l.initial.seen) × (l.turns ≤ l.left + (l.self.count - l.i))
