use lib.Dec.{lit<}
use Rattle.name_words.proofs.LastWord.{joined_hash}
use Rattle.name_words.proofs.with_word.Goals as goal

pub rotated-requires : goal.rotated-requires
rotated-requires c = (lit< tt, lit< tt)

pub returns : goal.returns
returns c =
    joined_hash 8 c.args.w c.args.h _ _ c.ranges.h.fits c.rotated.ensures c.hash_word.ensures
