use Rattle.dir_block_edit.proofs.EntryStored.{placed}
use Rattle.dir_block_edit.proofs.put_first.Goals as goal

pub returns : goal.returns
returns c = placed _ _ _ _ _ _ _ _ _ c.entry_size.ensures.0 c.put_entry.ensures c.put_gap.ensures
