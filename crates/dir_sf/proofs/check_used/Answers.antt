use borrow.Author.Rules.{rules}
use mathlib.Core.Bool.{not}
use mathlib.Core.Path.{ap}
use Rattle.dir_sf.proofs.Listed.{header_in, parent_in}
use Rattle.dir_sf.proofs.Verdicts.{tiles_enough, verdict_5, verdict_6, verdict_7, verdict_8, verdict_10, verdict_0}
use Rattle.dir_sf.proofs.check_used.Goals as goal

pub tiled-requires : goal.tiled-requires
tiled-requires c = (search rules, search (rules, header_in), search rules)

pub returns-then-not-tiled : goal.returns-then-not-tiled
returns-then-not-tiled c = search (rules, verdict_5)

pub invariant_of-entries : goal.invariant_of-entries
invariant_of-entries c =
    record { sane = c.requires.0; lie = tiles_enough _ _ _ _ _ _ _ _ _ c.tiled.ensures (ap not c.if-not-tiled.false) }

pub returns-then-not-named : goal.returns-then-not-named
returns-then-not-named c = search (rules, verdict_6)

pub number-parent-requires : goal.number-parent-requires
number-parent-requires c = search (rules, parent_in)

pub returns-then-not-numbered : goal.returns-then-not-numbered
returns-then-not-numbered c = search (rules, verdict_7)

pub returns-then-wides-count_wide : goal.returns-then-wides-count_wide
returns-then-wides-count_wide c = search (rules, verdict_8)

pub returns-then-not-once : goal.returns-then-not-once
returns-then-not-once c = search (rules, verdict_10)

pub returns : goal.returns
returns c = search (rules, verdict_0)
