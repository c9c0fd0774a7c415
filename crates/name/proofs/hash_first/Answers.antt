use mathlib.Core.Path.{refl, ◌∙◌}
use Rattle.name.proofs.FirstBytes.{first_is}
use Rattle.name.proofs.hash_first.Goals as goal

pub returns : goal.returns
returns c =
    let a = c.args in
    let f = c.ranges in
    c.hash_four.ensures ∙ first_is a.k a.a a.b a.c a.d _ c.requires f.a.fits f.b.fits f.c.fits f.d.fits refl
