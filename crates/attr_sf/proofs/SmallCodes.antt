-- Every number that a call on attributes gives is 0 or a refusal of the paper's: at most the highest.
-- Assumes nothing.
use Prim.Native.Nat.{ℕ, ◌≤◌}
use mathlib.Core.List.{List}
use borrow.Author.Tests.{leb-true}
use Rattle.refusal.specs.Refusal.{HIGHEST}
use Rattle.be.proofs.Codes.{unless_le}
use Rattle.edition.specs.declared.Edition.{Edition}
use Rattle.dinode.proofs.SmallCodes.{attributes_small}
use Rattle.attr_sf.specs.Fork.{fork_verdict}
use Rattle.attr_sf.specs.Calls.{verdict, asked_code, held_request, lookup_code, room_request, set_code}
use Rattle.attr_sf.specs.Walk.{step_code}

fork_small : (f : List ℕ) → fork_verdict f ≤ HIGHEST
unfolding fork_verdict
fork_small f = search (unless_le, leb-true) depth 8

module _ (e : Edition) (b : List ℕ) where
  pub verdict_small : verdict e b ≤ HIGHEST
  unfolding verdict
  verdict_small = search (unless_le, attributes_small, fork_small)

  module _ (name : List ℕ) (flags : ℕ) where
    asked_small : asked_code e b name flags ≤ HIGHEST
    unfolding asked_code
    asked_small = search (unless_le, verdict_small, leb-true)

    pub lookup_small : lookup_code e b name flags ≤ HIGHEST
    unfolding lookup_code held_request
    lookup_small = search (unless_le, asked_small, leb-true)

    pub set_small : (value : List ℕ) → set_code e b name flags value ≤ HIGHEST
    unfolding set_code room_request
    set_small value = search (unless_le, asked_small, leb-true)

  pub step_small : (place : ℕ) → step_code e b place ≤ HIGHEST
  unfolding step_code
  step_small place = search (unless_le, verdict_small, leb-true)
