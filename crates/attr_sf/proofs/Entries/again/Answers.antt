use mathlib.Core.Path.{◌∙◌}
use Rattle.attr_sf.specs.Fork.{entry_at}
use Rattle.attr_sf.proofs.EntryReads.{again_test}
use Rattle.attr_sf.proofs.Entries.again.Goals as goal

pub returns : goal.returns
returns c = c.is_some.ensures ∙ again_test (entry_at c.args.other.fork.now c.args.other.at) _ _ _ _ c.name.ensures c.flags.ensures c.find.ensures c.args.self.tiling
