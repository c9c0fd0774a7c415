use borrow.Author.Rules.{rules}
use native.Mathlib.Nat.{mod-lt}
use lib.Dec.{lit<}
use Rattle.name_words.proofs.LastWord.{joined_hash, turn_pos}
use Rattle.name_words.proofs.MarkedLanes.{marked_more}
use Rattle.name_words.proofs.Read.last.Goals as goal

pub rotated-requires : goal.rotated-requires
rotated-requires c = (turn_pos c.args.n c.requires.0 c.requires.1, mod-lt _ (lit< tt))

pub returns : goal.returns
returns c =
    let one = c.one_word-one.ensures in (
      joined_hash c.args.n c.args.w c.args.self.hash _ _ (search rules) c.rotated.ensures one.0,
      marked_more c.args.self.marks _ _ one.1,
    )
