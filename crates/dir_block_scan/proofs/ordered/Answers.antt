use borrow.Author.Tests.{lt-ltb, le-ltb}
use Rattle.dir_block_laws.specs.JoinedTable.{in_order}
use Rattle.dir_block_scan.proofs.ordered.Goals as goal

pub returns-then-s : goal.returns-then-s
unfolding in_order
returns-then-s c = rw (lt-ltb _ _ c.if-s.true)

pub returns : goal.returns
unfolding in_order
returns c = rw (le-ltb _ _ c.if-s.false)
