use borrow.Author.Tests.{lt-ltb, le-ltb}
use Rattle.dir_block_test.proofs.entry_at.Goals as goal

pub is_gap-requires : goal.is_gap-requires
is_gap-requires c =
    c.requires c.if-o-t.true

pub returns-then-o-t : goal.returns-then-o-t
returns-then-o-t c =
    rw (lt-ltb _ _ c.if-o-t.true, c.is_gap.ensures)

pub returns : goal.returns
returns c =
    rw (le-ltb _ _ c.if-o-t.false)
