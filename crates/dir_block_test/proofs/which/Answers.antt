use Rattle.dir_block_test.proofs.BestPass.{which_first, which_second, which_third, which_none}
use Rattle.dir_block_test.proofs.which.Goals as goal

pub returns-then-named : goal.returns-then-named
returns-then-named c = which_first _ _ _ _ _ _ c.named.ensures c.if-named.true

pub returns-then-named-2 : goal.returns-then-named-2
returns-then-named-2 c = which_second _ _ _ _ _ _ c.named.ensures c.if-named.false _ c.named-2.ensures c.if-named-2.true

pub returns-then-named-3 : goal.returns-then-named-3
returns-then-named-3 c =
    which_third _ _ _ _ _ _ c.named.ensures c.if-named.false _ c.named-2.ensures c.if-named-2.false _ c.named-3.ensures c.if-named-3.true

pub returns : goal.returns
returns c = which_none _ _ _ _ _ _ c.named.ensures c.if-named.false _ c.named-2.ensures c.if-named-2.false _ c.named-3.ensures c.if-named-3.false
