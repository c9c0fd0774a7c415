use mathlib.Core.Path.{refl}
use borrow.Author.Rules.{rules}
use Rattle.name_words.proofs.MarkedLanes.{marked_none}
use Rattle.name_words.proofs.begin.Goals as goal

pub returns-then-end-i0-le32 : goal.returns-then-end-i0-le32
returns-then-end-i0-le32 c = record { short = search rules; hashed = refl; judged = marked_none _ }
