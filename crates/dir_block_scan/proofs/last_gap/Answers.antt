use native.Mathlib.Omega.{arith}
use mathlib.Core.Path.{sym, ◌∙◌}
use mathlib.Core.List.{[]}
use Rattle.dir_block_laws.proofs.RecordSteps.{head_end, end_fits}
use Rattle.dir_block_laws.proofs.LastGap.{last_at, last_fits, last_none, last_gap, last_entry}
use Rattle.dir_block_laws.proofs.OtherGaps.{none_best}
use Rattle.dir_block_scan.proofs.last_gap.Goals as goal

pub returns-then-end-e : goal.returns-then-end-e
returns-then-end-e c =
    last_none _ c.args.b.now c.requires.sane.1 c.args.end c.requires.end_value [] (none_best _) c.if-end-e.true

pub overflow_sub-end : goal.overflow_sub-end
overflow_sub-end c =
    omega (arith, c.requires.end_value, head_end _ c.args.b.now c.requires.sane.1, c.requires.sane.0.magic_before, c.requires.sane.0.best_inside)

pub be16-p-requires : goal.be16-p-requires
be16-p-requires c =
    omega (arith, c.requires.end_value, end_fits _ c.args.b.now c.requires.sane.1)

pub be16-requires : goal.be16-requires
be16-requires c =
    let r = last_at _ c.args.b.now c.requires.sane.1 c.args.end c.requires.end_value c.be16-p.result c.if-end-e.false (sym c.be16-p.ensures.0) in
    omega (arith, last_fits _ c.args.b.now c.requires.sane.1 c.args.end c.requires.end_value c.be16-p.result r)

pub overflow_sub-r : goal.overflow_sub-r
overflow_sub-r c =
    let r = last_at _ c.args.b.now c.requires.sane.1 c.args.end c.requires.end_value c.be16-p.result c.if-end-e.false (sym c.be16-p.ensures.0) in
    omega (arith, last_fits _ c.args.b.now c.requires.sane.1 c.args.end c.requires.end_value c.be16-p.result r)

pub returns-then-be16-eq65535 : goal.returns-then-be16-eq65535
returns-then-be16-eq65535 c =
    let r = last_at _ c.args.b.now c.requires.sane.1 c.args.end c.requires.end_value c.be16-p.result c.if-end-e.false (sym c.be16-p.ensures.0) in
    last_gap _ c.args.b.now c.requires.sane.1 c.args.end c.requires.end_value [] (none_best _) c.be16-p.result r
    (sym c.be16.ensures.0 ∙ c.if-be16-eq65535.true)

pub returns-else-be16-eq65535 : goal.returns-else-be16-eq65535
returns-else-be16-eq65535 c =
    let r = last_at _ c.args.b.now c.requires.sane.1 c.args.end c.requires.end_value c.be16-p.result c.if-end-e.false (sym c.be16-p.ensures.0) in
    last_entry _ c.args.b.now c.requires.sane.1 c.args.end c.requires.end_value [] (none_best _) c.be16-p.result r
    (λ z. c.if-be16-eq65535.false (c.be16.ensures.0 ∙ z))
