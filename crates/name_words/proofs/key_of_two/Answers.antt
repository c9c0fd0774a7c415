use Rattle.name_words.proofs.Keys.{key_of_two}
use Rattle.name_words.proofs.key_of_two.Goals as goal

pub returns : goal.returns
returns c =
    let p = c.requires in
    key_of_two _ (λ k. (c.type_inv.b k).fits) _ _ p.0 p.1 p.2 _ _ _ _ _ _
    c.le64.ensures c.mixed.ensures c.le64-2.ensures c.moved.ensures c.mixed-2.ensures
