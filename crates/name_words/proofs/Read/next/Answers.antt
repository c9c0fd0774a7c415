use Rattle.name_words.proofs.MarkedLanes.{marked_more}
use Rattle.name_words.proofs.Read.next.Goals as goal

pub returns : goal.returns
returns c = (c.with_word-hash.ensures, marked_more c.args.self.marks _ _ c.marks.ensures)
