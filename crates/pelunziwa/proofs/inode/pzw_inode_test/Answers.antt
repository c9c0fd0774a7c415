use Rattle.be.proofs.Parts.{bytes_all}
use Rattle.pelunziwa.proofs.FieldsFit.{sound_fits}
use Rattle.pelunziwa.proofs.inode.pzw_inode_test.Goals as goal

pub sound-requires : goal.sound-requires
sound-requires c = sound_fits _ _ (bytes_all c.args.inode.now (λ i. (c.type_inv.inode i).fits)) c.in-Ok.ensures.0
