use mathlib.Core.Path.{◌∙◌, ap}
use Prim.Native.Nat.{ℕ, ◌+◌, ◌-◌, ◌%◌}
use native.Mathlib.Omega.{arith}
use lib.ListN.{length, drop}
use Rattle.name.specs.Name.{hash_from, hash_of}
use Rattle.name.proofs.Scans.{four_at}
use Rattle.name.proofs.Hashing.{hash_turn, hash_end}
use Rattle.name.proofs.FirstBytes.{first_long}
use Rattle.name.proofs.hash32.Goals as goal

pub returns-then-s-lt4 : goal.returns-then-s-lt4
unfolding hash_of
returns-then-s-lt4 c = c.hash_short.ensures

pub loop-i-init : goal.loop-i-init
loop-i-init c =
    let s = c.args.s.now in
    let k = (length s - 1) % 4 + 1 in
    ((omega arith, omega arith), ap (λ (h : ℕ). hash_from h (drop k s)) c.hash_first-h.ensures ∙ first_long k s (omega arith) (omega arith))

pub loop-i-preserved : goal.loop-i-preserved
loop-i-preserved c =
    let s = c.args.s.now in
    let i = c.loop-i.i in
    ((omega arith, omega arith), hash_turn s i c.loop-i.h _ _ (i + 4) _ (four_at s i (omega arith)) c.hash_four-h.ensures c.loop-i.invariant.1)

pub returns-else-s-lt4 : goal.returns-else-s-lt4
unfolding hash_of
returns-else-s-lt4 c =
    let s = c.args.s.now in
    hash_end s c.loop-i.i c.loop-i.h _ c.loop-i-test.false c.loop-i.invariant.1

pub returns-else-s-lt4-2 : goal.returns-else-s-lt4-2
unfolding hash_of
returns-else-s-lt4-2 c =
    let s = c.args.s.now in
    let i = c.loop-i.i in
    hash_end s (i + 4) c.hash_four-h.result _ (omega arith) (hash_turn s i c.loop-i.h _ _ (i + 4) _ (four_at s i (omega arith)) c.hash_four-h.ensures c.loop-i.invariant.1)
