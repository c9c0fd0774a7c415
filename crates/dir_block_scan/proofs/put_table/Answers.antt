use Rattle.dir_block_scan.proofs.TableStored.{table_stored}
use Rattle.dir_block_scan.proofs.put_table.Goals as goal

pub returns : goal.returns
returns c =
    table_stored _ _ _ _ _ _ _ _ _ _ _ _ _ _ c.put16.ensures c.put16-2.ensures c.put16-3.ensures c.put16-4.ensures c.put16-5.ensures c.put16-6.ensures
