use mathlib.Core.Path.{ap}
use Rattle.dir_sf.specs.Left.{left, bare}
use Rattle.dir_sf_edit.proofs.Copies.{copy_start, copy_room, copy_on, copy_bytes, copy_end}
use Rattle.dir_sf_edit.proofs.copy_entries.Goals as goal

pub loop-x-init : goal.loop-x-init
loop-x-init c = (tt, tt, copy_start _ _ _ _ _ _ (ap (λ i. bare (left i)) c.into_iter-x-iterator.ensures.into_iter_gives))

pub put_entry-o-requires : goal.put_entry-o-requires
put_entry-o-requires c =
    (c.args.entries.sane, copy_room _ _ _ _ _ _ _ _ c.loop-x.invariant.2 _ _ (ap bare c.in-Some.ensures.steps.0) c.requires, c.in-Some.x.short)

pub loop-x-preserved : goal.loop-x-preserved
loop-x-preserved c =
    (tt, tt, copy_on _ _ _ _ _ _ _ _ c.loop-x.invariant.2 _ _ (ap bare c.in-Some.ensures.steps.0) _ _ c.put_entry-o.ensures.0 c.put_entry-o.ensures.1)

pub returns : goal.returns
returns c =
    let h = ap bare c.in-None.ensures.steps.0.0 in
    (copy_bytes _ _ _ _ _ _ _ _ c.loop-x.invariant.2 h, copy_end _ _ _ _ _ _ _ _ c.loop-x.invariant.2 h)
