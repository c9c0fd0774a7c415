use native.Mathlib.Omega.{arith}
use mathlib.Core.Bool.{true}
use mathlib.Core.Path.{refl, sym, ◌∙◌}
use Rattle.dir_block_test.proofs.SlotWalk.{level_once}
use Rattle.dir_block_test.proofs.LaterTests.{reach, end_9, end_10, end_0}
use Rattle.dir_block_test.proofs.Block.test_best.Goals as goal

pub returns-then-not-best : goal.returns-then-not-best
returns-then-not-best c =
    let a = c.args.self in
    end_9 _ a.sane _ _ _ (record { parts = a.parts; tiles = c.requires.tiles }) _ c.requires.indexed _ c.requires.best_is c.if-not-best.true

pub returns-then-not-equal : goal.returns-then-not-equal
returns-then-not-equal c =
    let a = c.args.self in
    end_0 _ a.sane _ _ _ (record { parts = a.parts; tiles = c.requires.tiles }) _ c.requires.indexed _ c.requires.best_is c.if-not-best.false true (sym (level_once _ _ _ _ (sym c.requires.equal_is ∙ c.if-not-equal.true))) refl

pub once-requires : goal.once-requires
once-requires c =
    let a = c.args.self in
    (omega (arith, a.parts.slots_fit), reach _ a.sane _ _ _ (record { parts = a.parts; tiles = c.requires.tiles }) _ c.requires.indexed, omega (arith, a.parts.slots_fit, a.parts.top))

pub returns-then-not-once : goal.returns-then-not-once
returns-then-not-once c =
    let a = c.args.self in
    end_10 _ a.sane _ _ _ (record { parts = a.parts; tiles = c.requires.tiles }) _ c.requires.indexed _ c.requires.best_is c.if-not-best.false _ c.once.ensures c.if-not-once.true

pub returns : goal.returns
returns c =
    let a = c.args.self in
    end_0 _ a.sane _ _ _ (record { parts = a.parts; tiles = c.requires.tiles }) _ c.requires.indexed _ c.requires.best_is c.if-not-best.false _ c.once.ensures c.if-not-once.false
