use mathlib.Core.Path.{sym, ◌∙◌, ap}
use Rattle.pelunziwa.specs.Answers.{as_attr_seen}
use Rattle.pelunziwa.proofs.attr.seen_step.Goals as goal

pub returns-in-Some : goal.returns-in-Some
returns-in-Some c = ap (as_attr_seen c.args.next) (sym c.in-Some.is)

pub returns-in-None : goal.returns-in-None
returns-in-None c = c.no_attr.ensures ∙ ap (as_attr_seen c.args.next) (sym c.in-None.is)
