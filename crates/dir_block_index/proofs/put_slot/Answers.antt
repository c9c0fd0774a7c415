use mathlib.Core.Path.{refl}
use Rattle.dir_block_laws.proofs.IndexStores.{slot_stored}
use Rattle.dir_block_index.proofs.put_slot.Goals as goal

pub returns : goal.returns
returns c = slot_stored _ _ _ _ _ _ _ refl c.put32.ensures c.put32-2.ensures
