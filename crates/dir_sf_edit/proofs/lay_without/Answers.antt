use borrow.Author.Rules.{rules}
use Rattle.dir_sf.proofs.Listed.{count_some, index_small}
use Rattle.dir_sf_edit.proofs.Lays.{without_1, without_2, without_size, without_laid}
use native.Mathlib.Omega.{arith}
use Rattle.dir_sf_edit.proofs.lay_without.Goals as goal

pub overflow_sub-be8 : goal.overflow_sub-be8
overflow_sub-be8 c = search (rules, count_some)

pub lay_first-m-requires : goal.lay_first-m-requires
lay_first-m-requires c = (search rules, search rules, search rules, search rules, search rules, search (rules, without_1))

pub overflow_add-index : goal.overflow_add-index
overflow_add-index c = record { fits = omega (arith, index_small _ _ _ c.be8.ensures.0 c.be8.ensures.1 c.requires.2) }

pub copy_others-requires : goal.copy_others-requires
copy_others-requires c = (search rules, search rules, search rules, search rules, search (rules, without_2))

pub returns : goal.returns
returns c = (search (rules, without_laid), search (rules, without_size))
