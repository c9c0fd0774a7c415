use mathlib.Core.Path.{refl}
use borrow.Author.Rules.{rules}
use Rattle.name_words.specs.Words.{marked}
use Rattle.name_words.proofs.judged.Goals as goal

pub returns : goal.returns
unfolding marked
returns c = (refl, (refl, search rules))
