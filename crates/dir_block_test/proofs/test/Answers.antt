use mathlib.Core.Path.{◌∙◌, ap}
use Rattle.edition.specs.declared.Edition.{Edition}
use Rattle.dir_block_rules.specs.Verdict.{verdict}
use Rattle.dir_block_test.proofs.test.Goals as goal

pub returns : goal.returns
returns c =
    c.check.ensures ∙ ap (λ (e : Edition). verdict e c.args.b.now) c.edition.ensures.0
