use Rattle.attr_sf.proofs.EntryReads.{key_flags, key_name}
use Rattle.attr_sf.proofs.Entry.has.Goals as goal

pub returns-then-key-flags : goal.returns-then-key-flags
returns-then-key-flags c = key_flags _ _ _ c.flags.ensures c.if-key-flags.true

pub returns : goal.returns
returns c = key_name _ _ _ c.flags.ensures c.if-key-flags.false c.name.ensures c.equal.ensures
