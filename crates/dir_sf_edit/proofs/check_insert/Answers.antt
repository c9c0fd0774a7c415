use Rattle.refusal.proofs.Passed.{code_is}
use Rattle.dir_sf.proofs.Tested.{lent_readable}
use Rattle.dir_sf_edit.proofs.Changes.{insert_refused, insert_passed, lent_whole, tested_dir}
use Rattle.dir_sf_edit.proofs.check_insert.Goals as goal

pub returns-in_err-check : goal.returns-in_err-check
returns-in_err-check c = code_is _ _ c.from_residual.ensures.1 (insert_refused _ _ _ _ _ _ c.in_err-check.ensures)

pub fork_long-fork-requires : goal.fork_long-fork-requires
fork_long-fork-requires c = (c.requires, tested_dir _ c.requires _ _ c.in_ok-check.ensures)

pub check_insertion-requires : goal.check_insertion-requires
check_insertion-requires c = let v = c.in_ok-check.ensures in
    (c.requires, lent_readable _ c.requires _ _ _ v c.used.ensures.0, c.used.ensures.1, lent_whole _ c.requires _ _ _ v c.used.ensures.0)

pub returns : goal.returns
returns c = insert_passed _ c.requires _ _ _ _ _ _ _ c.in_ok-check.ensures c.used.ensures.0 c.fork_long-fork.ensures.0 c.check_insertion.ensures
