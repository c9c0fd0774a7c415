use Prim.Native.Nat.{ℕ}
use mathlib.Core.Path.{ap₂}
use Rattle.dir.specs.Target.{target}
use Rattle.dir_sf.proofs.target_at.Goals as goal

pub returns : goal.returns
returns c = ap₂ (λ (i k : ℕ). target i k) c.number-inode.ensures c.kind-kind.ensures
