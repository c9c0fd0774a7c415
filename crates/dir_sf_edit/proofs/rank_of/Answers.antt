use borrow.Author.Rules.{rules}
use Rattle.dir_sf_edit.proofs.TagScans.{ranks_start, ranks_found, ranks_on, ranks_done}
use Rattle.dir_sf.proofs.Run.{run_one}
use Rattle.dir_sf_edit.proofs.rank_of.Goals as goal

pub loop-i-init : goal.loop-i-init
loop-i-init c = search (rules, ranks_start)

pub namelen-n-requires : goal.namelen-n-requires
namelen-n-requires c = search (rules, run_one)

pub returns-then-tag-be16 : goal.returns-then-tag-be16
returns-then-tag-be16 c = (search (rules, ranks_found), search rules)

pub loop-i-preserved : goal.loop-i-preserved
loop-i-preserved c = ranks_on _ _ _ _ _ _ _ _ _ _ _ c.loop-i.invariant c.loop-i-test.true c.namelen-n.ensures.0 c.rest-w.ensures.0 c.be16.ensures.0
    c.if-tag-be16.false

pub returns : goal.returns
returns c = ranks_done _ _ _ _ _ _ _ _ c.loop-i.invariant c.loop-i-test.false
