use Rattle.be.proofs.Words.{ones_at}
use Rattle.be.proofs.ones_at.Goals as goal

pub returns : goal.returns
returns c = ones_at _ (λ k. (c.type_inv.b k).fits) _ c.requires _ c.le64.ensures
