use Rattle.dir_sf_edit.proofs.TagScans.{Ranks}
use Rattle.dir_sf.specs.Entry.{width_of}
use Rattle.dir_sf_edit.proofs.rank_of.Given as goal

abbrev pub invariant-loop-i : goal.invariant-loop-i
invariant-loop-i l = Ranks l.e (width_of l.wides) l.tag l.u l.at l.k l.i l.p
