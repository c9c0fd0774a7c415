use borrow.Author.Rules.{rules}
use Rattle.attr_sf.proofs.ForkWrites.{entry_steps}
use Rattle.attr_sf.proofs.write_entry.Goals as goal

pub returns : goal.returns
returns c = entry_steps _ _ _ _ _ c.put8.ensures c.put8-2.ensures c.put8-3.ensures c.copy_into.ensures c.copy_into-2.ensures (search rules) (search rules) (search rules)
