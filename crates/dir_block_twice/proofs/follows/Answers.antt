use Rattle.dir_block_twice.proofs.TwinKeys.{follows_first, follows_next}
use Rattle.dir_block_twice.proofs.follows.Goals as goal

pub returns-then-i-gt0 : goal.returns-then-i-gt0
returns-then-i-gt0 c =
    follows_next _ _ _ (λ k. (c.type_inv.b k).fits) c.requires _ _ c.if-i-gt0.true c.le32.ensures.0 c.le32-then-i-gt0.ensures.0

pub returns : goal.returns
returns c = follows_first _ _ _ c.if-i-gt0.false
