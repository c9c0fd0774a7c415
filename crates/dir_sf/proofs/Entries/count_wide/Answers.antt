use native.Mathlib.Omega.{arith}
use Prim.Native.Nat.{ℕ}
use mathlib.Core.List.{List}
use mathlib.Core.Path.{ap}
use lib.ListN.{length}
use Rattle.be.specs.Lists.{tally}
use Rattle.dir_sf.specs.Entry.{SfEntry, width_of, is_wide, wides_of}
use Rattle.dir_sf.specs.Left.{left, bare}
use Rattle.dir_sf.proofs.Turn.{turn_length}
use Rattle.dir_sf.proofs.Entries.count_wide.Goals as goal

abbrev wides : List (ℕ × SfEntry) → ℕ
wides xs = tally (λ x. is_wide x.target.inode) (bare xs)

pub loop-x-init : goal.loop-x-init
unfolding wides_of
loop-x-init c =
    let s = c.args.self in
    let q = ap left c.into_iter-x-iterator.ensures.into_iter_gives in
    let l = turn_length s.edition (width_of s.wides) s.bytes.now s.left s.at in
    (tt, tt, omega (arith, c.one_if_wide-c.ensures, ap wides q), omega (arith, c.one_if_wide-c.ensures, ap length q, l, c.requires))

pub overflow_add-c : goal.overflow_add-c
overflow_add-c c = record { fits = omega (arith, c.loop-x.invariant, c.one_if_wide-c-in-loop-x.ensures) }

pub loop-x-preserved : goal.loop-x-preserved
loop-x-preserved c =
    let g = c.in-Some.ensures.steps.0 in
    (tt, tt, omega (arith, c.loop-x.invariant, c.one_if_wide-c-in-loop-x.ensures, ap wides g), omega (arith, c.loop-x.invariant, c.one_if_wide-c-in-loop-x.ensures, ap length g))

pub returns : goal.returns
returns c =
    let g = c.in-None.ensures.steps.0.0 in
    omega (arith, c.loop-x.invariant, ap wides g)
