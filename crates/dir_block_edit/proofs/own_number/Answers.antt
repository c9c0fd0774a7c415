use native.Mathlib.Omega.{arith}
use mathlib.Core.Path.{sym, ◌∙◌}
use Rattle.dir_block_rules.proofs.OwnHeld.{own_read}
use Rattle.dir_block_laws.proofs.RecordSteps.{head_end}
use Rattle.dir_block_laws.proofs.SlotSearch.{slots_room, tiled}
use Rattle.dir_block_edit.proofs.own_number.Goals as goal

pub be64-requires : goal.be64-requires
be64-requires c =
    let b = c.args.b.now in
    omega (arith, slots_room _ b c.requires.0 c.requires.1, head_end _ b (tiled _ b c.requires.1))

pub returns : goal.returns
returns c =
    c.be64.ensures ∙ sym (own_read _ c.requires.0 c.args.b.now c.requires.1.are_bytes c.requires.1.ok)
