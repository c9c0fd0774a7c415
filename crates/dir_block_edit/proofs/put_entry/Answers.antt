use Rattle.dir_block_edit.proofs.EntryStored.{entry_stored}
use Rattle.dir_block_edit.proofs.put_entry.Goals as goal

pub returns : goal.returns
returns c =
    entry_stored _ _ _ _ _ _ _ _ _ _ _ c.requires.name_len_bound.0 c.entry_size-long.ensures.0 c.put64.ensures c.put8.ensures c.copy_into.ensures c.put_pad.ensures c.put16.ensures
