use Rattle.name_words.proofs.LastWord.{one_hash, one_marked, one_pos}
use Rattle.name_words.proofs.one_word.Goals as goal

pub overflow_sub-n-2 : goal.overflow_sub-n-2
overflow_sub-n-2 c =
    one_pos c.args.w c.args.n c.requires.1 _ c.moved-v.ensures c.requires.0

pub returns : goal.returns
returns c =
    let e = c.moved-v.ensures in (
      one_hash c.args.w c.args.n c.requires.1 _ e _ c.hash_word-hash.ensures,
      one_marked c.args.w c.args.n c.requires.1 _ e c.requires.0 _ c.marks-m.ensures,
    )
