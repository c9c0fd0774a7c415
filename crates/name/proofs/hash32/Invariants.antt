use mathlib.Core.Path.{◌≡◌}
use Prim.Native.Nat.{◌≤◌, ◌-◌, ◌%◌}
use lib.ListN.{length, drop}
use Rattle.name.specs.Name.{hash_from}
use Rattle.name.proofs.hash32.Given as goal

-- whole fours are left
abbrev pub invariant-loop-i : goal.invariant-loop-i
invariant-loop-i l = ((l.i ≤ length l.s) × ((length l.s - l.i) % 4 ≡ 0)) × (hash_from l.h (drop l.i l.s) ≡ hash_from 0 l.s)
