use Rattle.dir_block_edit.proofs.EntryStored.{pad_stored}
use Rattle.dir_block_edit.proofs.put_pad.Goals as goal

pub returns : goal.returns
returns c =
    pad_stored c.args.e c.args.b.now _ _ c.args.o c.args.kind c.args.k c.put_kind.ensures c.zero.ensures
