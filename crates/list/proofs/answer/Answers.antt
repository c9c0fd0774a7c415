use native.Mathlib.Omega.{arith}
use mathlib.Core.Path.{refl, sym}
use Rattle.dir_block_laws.proofs.SlotSearch.{ready_of}
use Rattle.list.proofs.WholeInput.{passed}
use Rattle.list.proofs.answer.Goals as goal

pub listing-requires : goal.listing-requires
listing-requires c =
    let a = c.args in
    let p = c.requires in
    let v = passed _ p.0 a.b.now a.more.now p.1 (sym c.in-Ok.ensures) in
    (p.0, ready_of _ _ 0 (λ i. omega (arith, c.type_inv.b i)) (sym v) refl)
