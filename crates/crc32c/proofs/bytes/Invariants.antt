use Prim.Native.Nat.{◌≤◌}
use mathlib.Core.Path.{◌≡◌}
use lib.ListN.{length, drop}
use Rattle.crc32c.specs.Crc.{crc_from}
use Rattle.crc32c.proofs.bytes.Given as goal

abbrev pub invariant-loop-x : goal.invariant-loop-x
invariant-loop-x l = (l.x-index ≤ length l.s) × (crc_from l.c0 l.s ≡ crc_from l.c (drop l.x-index l.s))
