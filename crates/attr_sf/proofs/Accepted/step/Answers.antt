use mathlib.Core.Path.{sym, ◌∙◌}
use Rattle.attr_sf.proofs.WalkSteps.{stood, walk_fits, walk_not, walk_end, walk_live}
use Rattle.attr_sf.proofs.Accepted.step.Goals as goal

pub returns-then-not-stand : goal.returns-then-not-stand
returns-then-not-stand c =
    let p = c.entries-entries.ensures.places in
    walk_not _ _ _ (sym (stood _ _ c.entries-entries.ensures.bytes p.0 p.1.0 c.stand.ensures) ∙ c.if-not-stand.true)

pub returns-then-place-entries : goal.returns-then-place-entries
returns-then-place-entries c =
    let p = c.entries-entries.ensures.places in
    walk_end _ _ p.1.1 (sym (stood _ _ c.entries-entries.ensures.bytes p.0 p.1.0 c.stand.ensures) ∙ c.if-not-stand.false) _ c.if-place-entries.true

pub invariant_of-entry : goal.invariant_of-entry
invariant_of-entry c =
    let p = c.entries-entries.ensures.places in
    record { inside = walk_fits _ _ p.1.1 (sym (stood _ _ c.entries-entries.ensures.bytes p.0 p.1.0 c.stand.ensures) ∙ c.if-not-stand.false) c.args.self.passes c.if-place-entries.false }

pub returns : goal.returns
returns c =
    let p = c.entries-entries.ensures.places in
    walk_live _ _ p.1.1 (sym (stood _ _ c.entries-entries.ensures.bytes p.0 p.1.0 c.stand.ensures) ∙ c.if-not-stand.false) _ c.if-place-entries.false c.step.ensures
