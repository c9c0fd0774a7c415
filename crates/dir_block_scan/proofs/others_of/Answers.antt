use native.Mathlib.Omega.{arith}
use mathlib.Core.Path.{sym, ◌∙◌}
use Rattle.dir_block_laws.proofs.RecordSteps.{head_end, end_fits}
use Rattle.dir_block_laws.proofs.SlotSearch.{tiled}
use Rattle.dir_block_laws.proofs.BothEnds.{last_place, all_others}
use Rattle.dir_block_laws.proofs.StoredOthers.{stored_others}
use Rattle.dir_block_scan.proofs.others_of.Goals as goal

pub stored-s-requires : goal.stored-s-requires
stored-s-requires c =
    let t = tiled _ c.args.b.now c.requires.sane.1 in
    (c.requires.sane.0, omega (arith, head_end _ c.args.b.now t, end_fits _ c.args.b.now t))

pub returns-then-s-eq0 : goal.returns-then-s-eq0
returns-then-s-eq0 c =
    stored_others _ c.args.b.now c.requires.sane.1 _ _ _ c.stored-s.ensures c.if-s-eq0.true _ ∙ sym c.others.ensures

pub pass-requires : goal.pass-requires
pass-requires c =
    let t = tiled _ c.args.b.now c.requires.sane.1 in
    record { sane = (c.requires.sane.0, t); place = last_place _ c.args.b.now t _ _ c.requires.scanned }

pub returns : goal.returns
returns c =
    all_others _ c.args.b.now (tiled _ c.args.b.now c.requires.sane.1) _ _ c.requires.scanned _ c.pass.ensures
