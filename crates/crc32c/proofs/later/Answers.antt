use Rattle.crc32c.specs.Crc.{Later}
use Prim.Native.Nat.{◌%◌}
use native.Mathlib.Nat.{mod-lt}
use lib.Dec.{lit<}
use Rattle.crc32c.proofs.later.Goals as goal

pub returns : goal.returns
unfolding Later
returns c = let a = c.args in c.requires.1 a.j (a.x % 256) c.requires.0 (mod-lt _ (lit< tt))
