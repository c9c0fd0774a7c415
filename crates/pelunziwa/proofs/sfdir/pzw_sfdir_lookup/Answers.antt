use mathlib.Core.Path.{◌∙◌, ap}
use Rattle.be.proofs.Parts.{bytes_all}
use Rattle.edition.specs.Edition.{v4}
use Rattle.edition.proofs.Sizes.{v4_sane}
use Rattle.dir_sf.proofs.SmallCodes.{type_small}
use Rattle.pelunziwa.specs.Answers.{as_found}
use Rattle.pelunziwa.proofs.sfdir.pzw_sfdir_lookup.Goals as goal

pub lookup_answer-requires : goal.lookup_answer-requires
lookup_answer-requires c = rw c.lookup.ensures.2 (type_small v4 v4_sane _ _ _ (bytes_all c.args.inode.now (λ i. (c.type_inv.inode i).fits)))

pub returns : goal.returns
returns c = c.lookup_answer.ensures ∙ ap as_found c.lookup.ensures.0
