use borrow.Author.Rules.{rules}
use Rattle.name_words.proofs.LastWord.{moved_law}
use Rattle.name_words.proofs.moved.Goals as goal

pub returns : goal.returns
returns c = moved_law _ _ (search rules)
