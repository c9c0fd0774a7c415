use borrow.Author.Rules.{rules}
use Rattle.dir_sf_edit.proofs.Lays.{first_header, first_fits, first_size, first_laid}
use Rattle.dir_sf_edit.proofs.lay_first.Goals as goal

pub put_header-o-requires : goal.put_header-o-requires
put_header-o-requires c = (search (rules, first_header), search rules, search rules)

pub copy_first-requires : goal.copy_first-requires
copy_first-requires c = (search rules, search rules, search rules, search (rules, first_fits))

pub returns : goal.returns
returns c = (search (rules, first_laid), search (rules, first_size))
