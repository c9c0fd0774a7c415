use native.Mathlib.Omega.{arith}
use mathlib.Core.Path.{sym, ap₂, ◌∙◌}
use Rattle.be.proofs.Parts.{last_piece}
use Rattle.dir_block_twice.specs.Twice.{lex}
use Rattle.dir_block_twice.proofs.NameOrder.{lex_lt}
use Rattle.dir_block_twice.proofs.sooner.Goals as goal

pub returns : goal.returns
returns c =
    let w = c.same_start-k.ensures in
    c.lt.ensures ∙ lex_lt _ _
    ∙ ap₂ lex (last_piece _ _ c.args.x.now (omega (arith, w.left))) (last_piece _ _ c.args.y.now (omega (arith, w.right))) ∙ sym w.so_far
