use mathlib.Core.Path.{sym, ◌∙◌}
use Rattle.name_words.proofs.all_words.Goals as goal

pub returns : goal.returns
returns c =
    let w = c.words.ensures in
    let g = c.begin-g.ensures in
    (w.0 ∙ sym g.hashed, w.1 ∙ sym g.judged)
