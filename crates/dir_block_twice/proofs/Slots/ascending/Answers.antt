use Prim.Native.Nat.{ℕ, ◌+◌, ◌-◌}
use mathlib.Core.Path.{◌≡◌, sym, ap, ◌∙◌, subst}
use lib.ListN.{get_or}
use Rattle.dir_block_twice.specs.Twice.{sorts_before}
use native.Mathlib.Omega.{arith}
use Rattle.dir_block_twice.proofs.SortedSlots.{AscendsTo, ascends_on, ascends_all}
use Rattle.dir_block_twice.proofs.Slots.ascending.Goals as goal

pub loop-k-init : goal.loop-k-init
loop-k-init c = λ j l. absurd (omega arith)

pub returns-then-not-ascends : goal.returns-then-not-ascends
returns-then-not-ascends c = (ascends_all _ _ _ _ _ c.loop-k.invariant _ (omega arith), λ z. omega arith)

pub loop-k-preserved : goal.loop-k-preserved
loop-k-preserved c =
    let o = c.args.order.now in
    let k : c.loop-k.k - 1 + 1 ≡ c.loop-k.k = omega (arith, c.loop-k.near-k, c.loop-k.far-k) in
    let h = c.ascends.ensures ∙ ap (λ (i : ℕ). sorts_before c.args.self.block.now c.args.self.at c.args.self.count (get_or o (c.loop-k.k - 1) 0) (get_or o i 0)) (sym k) in
    subst (λ (i : ℕ). AscendsTo c.args.self.block.now c.args.self.at c.args.self.count o i) (k ∙ omega arith) (ascends_on c.args.self.block.now c.args.self.at c.args.self.count o _ c.loop-k.invariant _ h c.if-not-ascends.false)

pub returns : goal.returns
returns c = (ascends_all _ _ _ _ _ c.loop-k.invariant _ (omega (arith, c.loop-k-test.false)), λ z. absurd (omega arith))
