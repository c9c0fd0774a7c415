use Rattle.name.specs.Name.{clear_of}
use Rattle.name.proofs.Scans.{every_turn, every_done}
use Rattle.name.proofs.clear_of.Goals as goal

pub loop-x-preserved : goal.loop-x-preserved
loop-x-preserved c = let a = c.args in
    every_turn (clear_of a.t) a.s.now c.loop-x.x-index c.loop-x.bad c.loop-x.invariant c.loop-x-test.true _ c.bad_byte-bad.ensures

pub returns : goal.returns
returns c = let a = c.args in
    every_done (clear_of a.t) a.s.now c.loop-x.x-index c.loop-x.bad c.loop-x.invariant c.loop-x-test.false
