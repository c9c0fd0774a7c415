use mathlib.Core.Path.{sym, ◌∙◌}
use Rattle.dir_block_scan.specs.Table.{put_by}
use Rattle.dir_block_scan.proofs.insert.Goals as goal

pub returns-then-precedes : goal.returns-then-precedes
unfolding put_by
returns-then-precedes g c =
    let q = sym c.precedes.ensures ∙ c.if-precedes.true in
    (rw q c.before_all.ensures.0, rw q c.before_all.ensures.1)

pub returns-then-precedes-2 : goal.returns-then-precedes-2
unfolding put_by
returns-then-precedes-2 g c =
    let q₁ = sym c.precedes.ensures ∙ c.if-precedes.false in
    let q₂ = sym c.precedes-2.ensures ∙ c.if-precedes-2.true in
    (rw (q₁, q₂), rw (q₁, q₂))

pub returns-then-precedes-3 : goal.returns-then-precedes-3
unfolding put_by
returns-then-precedes-3 g c =
    let q₁ = sym c.precedes.ensures ∙ c.if-precedes.false in
    let q₂ = sym c.precedes-2.ensures ∙ c.if-precedes-2.false in
    let q₃ = sym c.precedes-3.ensures ∙ c.if-precedes-3.true in
    (rw (q₁, q₂, q₃), rw (q₁, q₂, q₃))

pub returns-then-precedes-4 : goal.returns-then-precedes-4
unfolding put_by
returns-then-precedes-4 g c =
    let q₁ = sym c.precedes.ensures ∙ c.if-precedes.false in
    let q₂ = sym c.precedes-2.ensures ∙ c.if-precedes-2.false in
    let q₃ = sym c.precedes-3.ensures ∙ c.if-precedes-3.false in
    (rw (q₁, q₂, q₃, sym c.precedes-4.ensures ∙ c.if-precedes-4.true), rw (q₁, q₂, q₃))

pub returns : goal.returns
unfolding put_by
returns g c =
    let q₁ = sym c.precedes.ensures ∙ c.if-precedes.false in
    let q₂ = sym c.precedes-2.ensures ∙ c.if-precedes-2.false in
    let q₃ = sym c.precedes-3.ensures ∙ c.if-precedes-3.false in
    (rw (q₁, q₂, q₃, sym c.precedes-4.ensures ∙ c.if-precedes-4.false), rw (q₁, q₂, q₃))
