use mathlib.Core.Path.{sym, ◌∙◌}
use native.Mathlib.Omega.{arith}
use Rattle.name_words.proofs.WholeName.{hash_whole}
use Rattle.name_words.proofs.hash.Goals as goal

pub hash_rest-requires : goal.hash_rest-requires
hash_rest-requires c = (c.runs-g.ensures.0, omega arith)

pub returns : goal.returns
returns c =
    let a = c.args in
    (hash_whole a.e a.s.now _ (c.hash_rest.ensures ∙ sym c.runs-g.ensures.1), c.hash_rest.type_inv)
