use Rattle.dir_block_laws.proofs.StoresTiled.{gap_stores, no_gap_stores}
use Rattle.dir_block_edit.proofs.put_gap.Goals as goal

pub returns-then-n-eq0 : goal.returns-then-n-eq0
returns-then-n-eq0 c = no_gap_stores _ _ _ c.if-n-eq0.true

pub returns : goal.returns
returns c = gap_stores _ _ _ _ _ _ c.if-n-eq0.false c.put16.ensures c.put16-2.ensures c.put16-3.ensures
