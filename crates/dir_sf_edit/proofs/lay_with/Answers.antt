use borrow.Author.Rules.{rules}
use Rattle.dir_sf_edit.proofs.Lays.{with_1, with_2, with_3, with_size, with_laid}
use Rattle.dir_sf.proofs.Listed.{count_more}
use Rattle.dir_sf_edit.proofs.lay_with.Goals as goal

pub lay_first-m-requires : goal.lay_first-m-requires
lay_first-m-requires c = (search rules, search rules, search rules, count_more _ _ c.be8.ensures.0 c.requires.4, search rules, search (rules, with_1))

pub put_entry-q-requires : goal.put_entry-q-requires
put_entry-q-requires c = (search rules, search (rules, with_2), search rules)

pub copy_others-requires : goal.copy_others-requires
copy_others-requires c = (search rules, search rules, search rules, search rules, with_3 _ _ _ _ _ _ _ _ c.be8.ensures.0 _ c.requires.7 _ _ _ c.lay_first-m.ensures.1 c.put_entry-q.ensures.1 (search rules))

pub returns : goal.returns
returns c = (search (rules, with_laid), search (rules, with_size))
