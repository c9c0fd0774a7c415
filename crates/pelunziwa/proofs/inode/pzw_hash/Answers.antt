use mathlib.Core.Path.{◌∙◌, ap}
use Rattle.edition.specs.declared.Edition.{Edition}
use Rattle.name.specs.Name.{hash_of}
use Rattle.pelunziwa.proofs.inode.pzw_hash.Goals as goal

pub returns : goal.returns
returns c = c.hash.ensures.0 ∙ ap (λ (e : Edition). hash_of e c.args.name.now) c.edition.ensures.0
