use mathlib.Core.Path.{sym, ◌∙◌, ap}
use Rattle.pelunziwa.specs.Answers.{as_seen}
use Rattle.pelunziwa.proofs.seen_step.Goals as goal

pub returns-in-Live : goal.returns-in-Live
returns-in-Live c = c.live.ensures ∙ ap (as_seen c.args.next) (sym c.in-Live.is)

pub returns-in-Gap : goal.returns-in-Gap
returns-in-Gap c = c.no_entry.ensures ∙ ap (as_seen c.args.next) (sym c.in-Gap.is)

pub returns-in-End : goal.returns-in-End
returns-in-End c = c.no_entry-in-End.ensures ∙ ap (as_seen c.args.next) (sym c.in-End.is)
