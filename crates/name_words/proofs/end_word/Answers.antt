use Rattle.name_words.proofs.WordWalk.{before_end}
use Rattle.name_words.proofs.end_word.Goals as goal

pub returns : goal.returns
returns c =
    before_end c.args.s.now (λ n. (c.type_inv.s n).fits) c.args.n c.le64.result c.requires.1 c.requires.2 c.le64.ensures
