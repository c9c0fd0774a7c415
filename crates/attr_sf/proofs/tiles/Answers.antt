use borrow.Author.Rules.{rules}
use Rattle.attr_sf.proofs.Tiling.{left_all, tiles_short, tiles_over, tiles_next, tiles_done}
use Rattle.attr_sf.proofs.tiles.Goals as goal

pub loop-init : goal.loop-init
loop-init c = record { upto = search rules; rest = left_all _ _ _ _ }

pub returns-then-end-at-lt3 : goal.returns-then-end-at-lt3
returns-then-end-at-lt3 c = tiles_short c.loop.invariant c.loop-test.true c.if-end-at-lt3.true

pub returns-then-end-at : goal.returns-then-end-at
returns-then-end-at c = tiles_over c.loop.invariant c.loop-test.true c.size-s.ensures.0 c.if-end-at.true

pub loop-preserved : goal.loop-preserved
loop-preserved c = tiles_next c.loop.invariant c.loop-test.true c.size-s.ensures.0 c.if-end-at.false

pub returns : goal.returns
returns c = tiles_done c.loop.invariant c.loop-test.false
