use native.Mathlib.Omega.{arith}
use mathlib.Core.Path.{sym, ◌∙◌}
use Rattle.dir_block_laws.proofs.RecordSteps.{end_fits, place_within}
use Rattle.dir_block_laws.proofs.BothEnds.{spot_of, back_fits, back_gap, back_entry}
use Rattle.dir_block_scan.specs.Table.{table}
use Rattle.dir_block_scan.proofs.backward.Goals as goal

-- `dir_block_scan::backward` meets its contract.

-- Assumes nothing.

pub be16-p-requires : goal.be16-p-requires
be16-p-requires c =
    let b = c.args.b.now in
    omega (arith, place_within _ b c.requires.sane.1 c.args.g.at (spot_of _ b c.requires.sane.1 c.args.v c.args.g.at (table c.args.g) c.requires.gaps_up_to.0), end_fits _ b c.requires.sane.1)

pub be16-k-requires : goal.be16-k-requires
be16-k-requires c =
    let b = c.args.b.now in
    omega (
      arith,
      place_within _ b c.requires.sane.1 c.args.g.at (spot_of _ b c.requires.sane.1 c.args.v c.args.g.at (table c.args.g) c.requires.gaps_up_to.0),
      end_fits _ b c.requires.sane.1,
      back_fits _ b c.requires.sane.1 c.args.o c.args.v c.args.g.at c.be16-p.result (table c.args.g) c.requires.gaps_up_to.0 c.requires.gaps_up_to.1.0 c.if-g-o.false (sym c.be16-p.ensures.0),
    )

pub overflow_sub-g-then-k-eq65535 : goal.overflow_sub-g-then-k-eq65535
overflow_sub-g-then-k-eq65535 c =
    omega (arith, back_fits _ c.args.b.now c.requires.sane.1 c.args.o c.args.v c.args.g.at c.be16-p.result (table c.args.g) c.requires.gaps_up_to.0 c.requires.gaps_up_to.1.0 c.if-g-o.false (sym c.be16-p.ensures.0))

pub returns-then-k-eq65535 : goal.returns-then-k-eq65535
returns-then-k-eq65535 c =
    let b = c.args.b.now in
    let q = sym c.be16-p.ensures.0 in
    let f = back_fits _ b c.requires.sane.1 c.args.o c.args.v c.args.g.at c.be16-p.result (table c.args.g) c.requires.gaps_up_to.0 c.requires.gaps_up_to.1.0 c.if-g-o.false q in
    let s = back_gap _ b c.requires.sane.1 c.args.o c.args.v c.args.g.at c.be16-p.result (table c.args.g) c.requires.gaps_up_to.0 c.requires.gaps_up_to.1.0 c.if-g-o.false q
    (sym c.be16-k.ensures.0 ∙ c.if-k-eq65535.true) in
    (rw c.with_gap_at-r.ensures.0 s, (f.0, omega (arith, f.1)))

pub returns : goal.returns
returns c =
    let f = back_fits _ c.args.b.now c.requires.sane.1 c.args.o c.args.v c.args.g.at c.be16-p.result (table c.args.g) c.requires.gaps_up_to.0 c.requires.gaps_up_to.1.0 c.if-g-o.false (sym c.be16-p.ensures.0) in (
      back_entry _ c.args.b.now c.requires.sane.1 c.args.o c.args.v c.args.g.at c.be16-p.result (table c.args.g) c.requires.gaps_up_to.0 c.requires.gaps_up_to.1.0 c.if-g-o.false (sym c.be16-p.ensures.0) (λ z. c.if-k-eq65535.false (c.be16-k.ensures.0 ∙ z)),
      (f.0, omega (arith, f.1)),
    )
