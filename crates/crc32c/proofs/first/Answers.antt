use Rattle.crc32c.specs.Crc.{Table}
use Prim.Native.Nat.{◌%◌}
use native.Mathlib.Nat.{mod-lt}
use lib.Dec.{lit<}
use Rattle.crc32c.proofs.first.Goals as goal

pub returns : goal.returns
unfolding Table
returns c = let a = c.args in c.requires (a.x % 256) (mod-lt _ (lit< tt))
