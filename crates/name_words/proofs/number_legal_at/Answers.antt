use Rattle.name_words.proofs.InodeNumbers.{number_at}
use Rattle.name_words.proofs.number_legal_at.Goals as goal

pub returns : goal.returns
returns c = number_at _ (λ k. (c.type_inv.b k).fits) _ c.requires _ c.le64-w.ensures
