use native.Mathlib.Omega.{arith}
use Rattle.be.proofs.Parts.{bytes_all}
use Rattle.name.proofs.Hashing.{hash_lt}
use Rattle.dir_block_laws.proofs.SlotSearch.{tiled}
use Rattle.dir_block_laws.proofs.OtherGaps.{survey_next}
use Rattle.dir_block_edit.proofs.choose.Goals as goal

pub spot-p-requires : goal.spot-p-requires
spot-p-requires c =
    let p = c.args in
    let q = c.requires in
    let k = c.type_inv.name in
    let l = hash_lt p.e p.name.now (bytes_all p.name.now (λ i. (k i).fits)) in
    record { sane = q.sane; end_value = (q.end_value.0, q.end_value.1.0); h_bound = omega (arith, q.h_value.0, l) }

pub longest-m-requires : goal.longest-m-requires
longest-m-requires c =
    record { sane = c.requires.sane; surveyed = c.requires.surveyed }

pub choose_ab-requires : goal.choose_ab-requires
choose_ab-requires c =
    record { sane = c.requires.sane; end_value = (c.requires.end_value.0, (c.requires.end_value.1.0, (c.requires.end_value.1.1, omega arith))); spot = c.spot-p.ensures; scanned = c.longest-m.ensures.0; h_value = (c.requires.h_value.0, (c.entry_size-need.ensures.0, c.requires.h_value.1)) }

pub choose_cd-requires : goal.choose_cd-requires
choose_cd-requires c =
    let b = c.args.b.now in
    let o = survey_next _ b (tiled _ b c.requires.sane.1) _ _ _ _ _ c.requires.surveyed c.args.name.now in record { sane = c.requires.sane; end_value = (c.requires.end_value.0, (c.requires.end_value.1.0, omega (arith, c.requires.end_value))); spot = c.spot-p.ensures; scanned = c.longest-m.ensures.0; name_value = o; h_value = (c.requires.h_value.0, (c.entry_size-need.ensures.0, c.requires.h_value.1)) }
