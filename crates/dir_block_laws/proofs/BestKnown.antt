-- The best-gap table that an accepted block stores: what its pairs say of the gaps.
-- Assumes nothing.
use native.Mathlib.Omega.{arith}
use mathlib.Core.Bool.{Bool, true, ◌&&◌}
use mathlib.Core.Path.{◌≡◌, sym, ap₂}
use mathlib.Core.List.{List, ◌∷◌}
use lib.Dec.{eqb, leb, ltb}
use borrow.Author.Tests.{eqb-true, leb-true, ltb-true}
use Rattle.be.specs.Lists.{every, some_of}
use Rattle.be.proofs.Bools.{and_left, and_right, every_head}
use Rattle.dir_block_rules.specs.Record.{Rec, size, besides}
use Rattle.dir_block_rules.specs.Verdict.{Pair, pair, best_ok, zero_pair, is_gap_of}

-- has bytes
abbrev pub solid : Rec → Bool
solid r = ltb 0 (size r)

-- what BEST says of the first pair
module _ (p : Pair) (ps : List Pair) (g : Rec) (gs : List Rec) (h : best_ok (p ∷ ps) (g ∷ gs) ≡ true) where
  abbrev named : Bool
  named = some_of (is_gap_of p) (g ∷ gs)

  abbrev most : Bool
  most = every (λ r. leb (size r) p.long) (g ∷ gs)

  pub ok_named : named ≡ true
  unfolding best_ok
  ok_named = and_left named most (and_left (named && most) (best_ok ps (besides p.from (g ∷ gs))) h)

  ok_most : most ≡ true
  unfolding best_ok
  ok_most = and_right named most (and_left (named && most) (best_ok ps (besides p.from (g ∷ gs))) h)

  pub ok_rest : best_ok ps (besides p.from (g ∷ gs)) ≡ true
  unfolding best_ok
  ok_rest = and_right (named && most) (best_ok ps (besides p.from (g ∷ gs))) h

-- where no gap is longer than 0, there is none
pub none_long : (p : Pair) (ps : List Pair) (g : Rec) (gs : List Rec) → every solid (g ∷ gs) ≡ true → best_ok (p ∷ ps) (g ∷ gs) ≡ true → p.long ≡ 0 → ⊥
none_long p ps g gs s h z =
    omega (arith, ltb-true 0 (size g) (every_head solid g gs s), leb-true (size g) p.long (every_head (λ r. leb (size r) p.long) g gs (ok_most p ps g gs h)))

-- a pair of no gap
pub zero_is : (p : Pair) → zero_pair p ≡ true → pair 0 0 ≡ p
zero_is p z =
    ap₂ pair (sym (eqb-true p.from 0 (and_left (eqb p.from 0) (eqb p.long 0) z))) (sym (eqb-true p.long 0 (and_right (eqb p.from 0) (eqb p.long 0) z)))
