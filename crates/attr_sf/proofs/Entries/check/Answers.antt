use mathlib.Core.Path.{sym, ap, ◌∙◌}
use Rattle.name.specs.Name.{legal_attr_name}
use Rattle.attr_sf.specs.Entry.{legal_flags}
use Rattle.attr_sf.proofs.Tiling.{next_fits}
use Rattle.attr_sf.proofs.EntryTests.{passed_none, passed_stop, passed_next, passed_done, passed_not}
use Rattle.attr_sf.proofs.Entries.check.Goals as goal

pub loop-init : goal.loop-init
loop-init c = passed_none _ _ _

pub invariant_of-entry : goal.invariant_of-entry
invariant_of-entry c = record { inside = next_fits _ _ c.loop.invariant.names c.args.self.tiling c.loop-test.true c.args.self.inside }

pub returns-then-not-attr_legal : goal.returns-then-not-attr_legal
returns-then-not-attr_legal c = passed_stop c.loop.invariant c.loop-test.true (sym (c.attr_legal.ensures ∙ ap legal_attr_name c.name.ensures) ∙ c.if-not-attr_legal.true)

pub loop-preserved : goal.loop-preserved
loop-preserved c = passed_next c.loop.invariant c.loop-test.true (sym (c.attr_legal.ensures ∙ ap legal_attr_name c.name.ensures) ∙ c.if-not-attr_legal.false)
    (c.flags_legal-flagged.ensures ∙ ap legal_flags c.flags.ensures) c.next-at.ensures

pub returns-then-flagged : goal.returns-then-flagged
returns-then-flagged c = passed_done c.loop.invariant c.loop-test.false c.if-flagged.true

pub returns : goal.returns
returns c = passed_not c.loop.invariant c.loop-test.false c.if-flagged.false
