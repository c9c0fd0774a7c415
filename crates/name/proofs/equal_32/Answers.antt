use Rattle.name.proofs.EqualWords.{run_same}
use Rattle.name.proofs.equal_32.Goals as goal

pub returns : goal.returns
returns c =
    let a = c.args in
    run_same a.s.now a.t.now (λ n. (c.type_inv.s n).fits) (λ n. (c.type_inv.t n).fits) a.i _ _ _ _ _ _ _ _
    c.requires.0 c.requires.1 c.le64.ensures c.le64-2.ensures c.le64-3.ensures c.le64-4.ensures c.le64-5.ensures c.le64-6.ensures
    c.le64-7.ensures c.le64-8.ensures
