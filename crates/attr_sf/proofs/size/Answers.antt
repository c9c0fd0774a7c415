use Prim.Native.Nat.{ℕ, ◌+◌}
use native.Mathlib.Omega.{arith}
use mathlib.Core.Path.{ap₂}
use Rattle.attr_sf.specs.Fork.{size_at}
use Rattle.attr_sf.proofs.size.Goals as goal

pub returns : goal.returns
unfolding size_at
returns c = (ap₂ (λ (x y : ℕ). 3 + x + y) c.be8.ensures.0 c.be8-2.ensures.0, (omega arith, omega arith))
