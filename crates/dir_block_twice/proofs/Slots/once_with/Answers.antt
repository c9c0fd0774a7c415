use native.Mathlib.Omega.{arith}
use borrow.Author.Rules.{rules}
use Prim.Native.Nat.{◌+◌, ◌-◌, ◌<◌}
use mathlib.Core.Path.{◌≡◌, refl, ◌∙◌}
use Rattle.dir_block_twice.proofs.TwinWalk.{twin_live}
use Rattle.dir_block_twice.proofs.TwinKeys.{down_start, down_end, down_marks, twin_twice, down_on}
use Rattle.dir_block_twice.proofs.Slots.once_with.Goals as goal

pub loop-i-init : goal.loop-i-init
loop-i-init c = (down_start _ _ _ _ _ c.requires, refl, omega arith)

pub suspect-requires : goal.suspect-requires
suspect-requires c =
    let l = c.loop-i in
    let u : l.i - 1 < c.args.self.count = omega (arith, l.invariant.0.within) in
    let q : l.i ≡ l.i - 1 + 1 = omega arith in
    (u, down_marks _ _ _ _ _ _ u q _ l.invariant.0)

pub returns-then-left-eq0 : goal.returns-then-left-eq0
returns-then-left-eq0 c =
    record { answer = tt; enough = λ h. absurd (omega (arith, c.loop-i.invariant.0.within, c.loop-i.invariant.2)) }

pub clash-requires : goal.clash-requires
clash-requires c =
    let u : c.loop-i.i - 1 < c.args.self.count = omega (arith, c.loop-i.invariant.0.within) in
    (u, c.suspect.ensures.live c.if-suspect.true)

pub returns-then-clash : goal.returns-then-clash
returns-then-clash c =
    let a = c.args in
    let l = c.loop-i in
    let u : l.i - 1 < a.self.count = omega (arith, l.invariant.0.within) in
    let h = twin_live a.e a.self.block.now a.self.at a.self.count (l.i - 1) _ (c.suspect.ensures.live c.if-suspect.true) c.clash.ensures ∙ c.if-clash.true in
    record { answer = twin_twice a.e a.self.block.now a.self.at a.self.count (l.i - 1) u h; enough = λ z. refl }

pub loop-i-preserved-else-clash : goal.loop-i-preserved-else-clash
loop-i-preserved-else-clash c =
    let a = c.args in
    let l = c.loop-i in
    let u : l.i - 1 < a.self.count = omega (arith, l.invariant.0.within) in
    let q : l.i ≡ l.i - 1 + 1 = omega arith in
    let h = twin_live a.e a.self.block.now a.self.at a.self.count (l.i - 1) _ (c.suspect.ensures.live c.if-suspect.true) c.clash.ensures ∙ c.if-clash.false in
    (down_on a.e a.self.block.now a.self.at a.self.count (l.i - 1) _ u q _ l.invariant.0 h _ c.suspect.ensures.marks, search rules, omega (arith, l.invariant.0.within, l.invariant.2))

pub loop-i-preserved : goal.loop-i-preserved
loop-i-preserved c =
    let a = c.args in
    let l = c.loop-i in
    let u : l.i - 1 < a.self.count = omega (arith, l.invariant.0.within) in
    let q : l.i ≡ l.i - 1 + 1 = omega arith in
    (down_on a.e a.self.block.now a.self.at a.self.count (l.i - 1) _ u q _ l.invariant.0 (c.suspect.ensures.alone c.if-suspect.false a.e) _ c.suspect.ensures.marks, search rules, omega (arith, l.invariant.0.within, l.invariant.2))

pub returns : goal.returns
returns c = record { answer = down_end _ _ _ _ _ _ c.loop-i.invariant.0 c.loop-i-test.false; enough = λ z. refl }
