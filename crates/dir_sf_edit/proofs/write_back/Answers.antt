use native.Mathlib.Omega.{arith}
use lib.ListN.{length-take}
use borrow.Author.Rules.{rules}
use Rattle.dir_sf_edit.proofs.Puts.{put_put}
use Rattle.dir_sf_edit.proofs.write_back.Goals as goal

pub slice_bounds-copy_into-end : goal.slice_bounds-copy_into-end
slice_bounds-copy_into-end c = simp length-take (omega arith)

pub copy_into-requires : goal.copy_into-requires
copy_into-requires c = simp length-take (omega arith)

pub returns : goal.returns
returns c = search (rules, put_put)
