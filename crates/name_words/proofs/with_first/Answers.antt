use native.Mathlib.Nat.{mod-lt}
use lib.Dec.{lit<}
use Rattle.name_words.proofs.LastWord.{joined_hash, one_hash, turn_pos}
use Rattle.name_words.proofs.with_first.Goals as goal

pub rotated-requires : goal.rotated-requires
rotated-requires c = (turn_pos c.args.n c.requires.0 c.requires.1, mod-lt _ (lit< tt))

pub returns : goal.returns
returns c =
    joined_hash c.args.n c.args.w c.args.h _ _ c.ranges.h.fits c.rotated.ensures
    (one_hash c.args.w c.args.n c.requires.1 _ c.moved.ensures _ c.hash_word.ensures)
