use Prim.Native.Nat.{◌≤◌, ◌%◌}
use mathlib.Core.Path.{◌≡◌}
use lib.ListN.{drop}
use Rattle.crc32c.specs.Crc.{crc_from}
use Rattle.crc32c.proofs.over.Given as goal

abbrev pub invariant-loop-i : goal.invariant-loop-i
invariant-loop-i l = ((l.i ≤ l.whole) × (l.i % 8 ≡ 0)) × (crc_from l.c0 l.s ≡ crc_from l.c (drop l.i l.s))
