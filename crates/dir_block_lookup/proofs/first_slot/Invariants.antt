use Prim.Native.Nat.{◌-◌, ◌≤◌}
use mathlib.Core.Path.{◌≡◌}
use mathlib.Core.Bool.{true}
use lib.ListN.{drop, take}
use Rattle.dir_block_rules.specs.Block.{slots}
use Rattle.dir_block_laws.specs.SlotIndex.{all_below, all_from}
use Rattle.dir_block_lookup.proofs.first_slot.Given as goal

abbrev pub invariant-loop-lo : goal.invariant-loop-lo
invariant-loop-lo l =
    (l.lo ≤ l.hi) × ((l.hi ≤ l.count) × ((all_below l.h (take l.lo (slots l.b)) ≡ true) × (all_from l.h (drop l.hi (slots l.b)) ≡ true)))

abbrev pub decreases-loop-lo : goal.decreases-loop-lo
decreases-loop-lo l = l.hi - l.lo
