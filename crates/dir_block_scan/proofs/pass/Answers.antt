use native.Mathlib.Omega.{arith}
use Rattle.dir_block_laws.proofs.RecordSteps.{place_within}
use Rattle.dir_block_laws.proofs.BothEnds.{spot_of, front_start, back_start, both_met}
use Rattle.dir_block_scan.specs.Table.{table}
use Rattle.dir_block_scan.proofs.pass.Goals as goal

-- `dir_block_scan::pass` meets its contract.

-- Assumes nothing.

pub loop-f-init : goal.loop-f-init
loop-f-init c =
    let b = c.args.b.now in (
      rw (c.start-f.ensures.0, c.start-f.ensures.2) (front_start _ b c.requires.sane.1),
      (
        rw (c.start-g.ensures.0, c.start-g.ensures.2) (back_start _ b c.requires.sane.1 c.args.v c.requires.place),
        omega (arith, c.start-f.ensures.2, c.start-g.ensures.2, c.requires.place.place),
      ),
    )

-- the walk from the front goes on only before a place, that of the other walk
pub forward-f-requires : goal.forward-f-requires
forward-f-requires c =
    let l = c.loop-f in
    let b = c.args.b.now in
    record { sane = c.requires.sane; gaps_before = (l.invariant.0, omega (arith, c.loop-f-test.true, place_within _ b c.requires.sane.1 _ (spot_of _ b c.requires.sane.1 c.args.v l.g.at (table l.g) l.invariant.1.0))) }

pub backward-g-requires : goal.backward-g-requires
backward-g-requires c =
    let l = c.loop-f in
    let f = c.forward-f.ensures in
    let w = spot_of _ c.args.b.now c.requires.sane.1 c.args.v l.g.at (table l.g) l.invariant.1.0 in
    record { sane = c.requires.sane; gaps_up_to = (l.invariant.1.0, (f.0.spot, f.1.first _ w c.loop-f-test.true)) }

pub loop-f-smaller : goal.loop-f-smaller
loop-f-smaller c =
    omega (arith, c.backward-g.ensures.1, c.forward-f.ensures.1.on, c.loop-f-test.true)

pub loop-f-preserved : goal.loop-f-preserved
loop-f-preserved c =
    (c.forward-f.ensures.0, (c.backward-g.ensures.0, c.backward-g.ensures.1.0))

pub returns : goal.returns
returns c =
    let l = c.loop-f in
    rw c.merged.ensures
    (both_met _ c.args.b.now c.requires.sane.1 l.f.at c.args.v l.g.at (table l.f) (table l.g) l.invariant.0 l.invariant.1.0 l.invariant.1.1 c.loop-f-test.false)
