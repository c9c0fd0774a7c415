use Rattle.refusal.proofs.Passed.{code_is}
use Rattle.dir_sf_edit.proofs.Changes.{insert_alone, insert_done}
use Rattle.dir_sf_edit.proofs.insert_into.Goals as goal

pub returns-in_err-check_insert : goal.returns-in_err-check_insert
returns-in_err-check_insert c = let n = c.in_err-check_insert.ensures in
    (code_is _ _ c.from_residual.ensures.1 n, insert_alone _ _ _ _ _ _ n)

pub returns : goal.returns
returns c = (c.in_ok-check_insert.ensures, insert_done _ _ _ _ _ _ c.in_ok-check_insert.ensures c.put_in.ensures)
