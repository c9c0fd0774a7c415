use Rattle.name_words.proofs.Overlay.{fold_law}
use Rattle.name_words.proofs.folded.Goals as goal

pub returns : goal.returns
returns c =
    let a = c.args in
    fold_law a.a a.b a.c a.d _ _ _ _ _ _ _
    c.hash_word.ensures c.hash_word-2.ensures c.hash_word-3.ensures c.hash_word-4.ensures
    c.rotated.ensures c.rotated-2.ensures c.rotated-3.ensures
