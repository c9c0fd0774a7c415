-- A chain of tests that answers 0: each test passed.
-- Assumes nothing.
use Prim.Native.Nat.{ℕ, suc, ◌≤◌}
use native.Mathlib.Omega.{arith}
use mathlib.Core.Bool.{Bool, true, false}
use mathlib.Core.Path.{◌≡◌, refl}
use lib.Dec.{eqb}
use borrow.Author.Tests.{eqb-true, eqb-false}
use Rattle.be.specs.Codes.{◌unless◌then◌, ◌and_then◌}
use Rattle.be.proofs.Bools.{by_cases}

-- the test whose number is n + 1
pub passes : (t : Bool) (n rest : ℕ) → (suc n unless t then rest) ≡ 0 → (t ≡ true) × (rest ≡ 0)
passes true n rest h = (refl, h)
passes false n rest h = absurd (omega arith)

pub both : (n rest : ℕ) → (n and_then rest) ≡ 0 → (n ≡ 0) × (rest ≡ 0)
both n rest h = by_cases (eqb n 0) (λ q. (eqb-true n 0 q, rw q at h)) (λ q. absurd (eqb-false n 0 q (rw q at h)))

-- the number of a chain is one of its own, so it is at most m if each of them is: cited along the chain
pub unless_le : (t : Bool) (n rest m : ℕ) → n ≤ m → rest ≤ m → (n unless t then rest) ≤ m
unless_le true n rest m p q = q
unless_le false n rest m p q = p
