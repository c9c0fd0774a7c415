-- Every number that a call on a block gives is 0 or a refusal of the paper's, at most the highest; a file type is one byte at most.
-- Assumes nothing.
use Prim.Native.Nat.{ℕ, ◌+◌, ◌≤◌, ◌<◌}
use native.Mathlib.Omega.{arith}
use mathlib.Core.Bool.{true}
use mathlib.Core.Path.{◌≡◌}
use mathlib.Core.List.{List}
use lib.Dec.{eqb}
use borrow.Author.Tests.{leb-true}
use Rattle.refusal.specs.Refusal.{HIGHEST}
use Rattle.be.specs.Bytes.{byte, bytes}
use Rattle.be.proofs.Bools.{by_cases}
use Rattle.be.proofs.Codes.{unless_le}
use Rattle.edition.specs.declared.Edition.{Edition}
use Rattle.edition.specs.Edition.{Sane}
use Rattle.dir.specs.declared.Target.{Target}
use Rattle.dir.proofs.FileTypes.{kind_byte}
use Rattle.dir_block_rules.specs.Verdict.{verdict}
use Rattle.dir_block_rules.specs.Lookup.{sought, lookup_refusal, lookup_code, lookup_target}
use Rattle.dir_block_rules.specs.Change.{insert_code, remove_code}
use Rattle.dir_block_rules.specs.Walk.{step_code}

-- the file type that a lookup reports
pub type_small : (e : Edition) → Sane e → (b n : List ℕ) → bytes b ≡ true → (lookup_target e b n).kind < 256
unfolding lookup_target
type_small e sane b n h =
    by_cases (eqb (lookup_code e b n) 0)
    (λ q. rw q (kind_byte e sane ((sought e b n).at + 9 + byte ((sought e b n).at + 8) b) b h))
    (λ q. rw q (omega arith))

module _ (e : Edition) (b : List ℕ) where
  pub verdict_small : verdict e b ≤ HIGHEST
  unfolding verdict
  verdict_small = search (unless_le, leb-true) depth 12

  pub lookup_small : (n : List ℕ) → lookup_code e b n ≤ HIGHEST
  unfolding lookup_code lookup_refusal
  lookup_small n = search (unless_le, verdict_small, leb-true) depth 8

  pub insert_small : (n : List ℕ) (i : Target) → insert_code e b n i ≤ HIGHEST
  unfolding insert_code
  insert_small n i = search (unless_le, verdict_small, leb-true) depth 8

  pub remove_small : (n : List ℕ) → remove_code e b n ≤ HIGHEST
  unfolding remove_code
  remove_small n = search (unless_le, verdict_small, leb-true) depth 8

  pub step_small : (p : ℕ) → step_code e b p ≤ HIGHEST
  unfolding step_code
  step_small p = search (unless_le, verdict_small, leb-true)
