use native.Mathlib.Omega.{arith}
use mathlib.Core.Path.{sym, ◌∙◌}
use Rattle.refusal.proofs.Passed.{number_ne, code_is}
use Rattle.dinode.specs.Core.{attributes_code, attributes_ok}
use Rattle.dinode.proofs.Sound.{sound_size}
use Rattle.dinode.proofs.Codes.{kind_first, kind_holds, kind_fails}
use Rattle.dinode.proofs.check_attributes.Goals as goal

pub returns-in_err-check : goal.returns-in_err-check
unfolding attributes_code
returns-in_err-check c =
    code_is _ _ c.from_residual.ensures.1
    (c.in_err-check.ensures ∙ kind_first _ (attributes_ok c.args.b.now) (λ q. number_ne _ (c.in_err-check.ensures ∙ q)))

pub attributes-requires : goal.attributes-requires
attributes-requires c = omega (arith, sound_size _ _ (sym c.in_ok-check.ensures))

pub returns-then-not-attributes : goal.returns-then-not-attributes
unfolding attributes_code
returns-then-not-attributes c = kind_fails _ (attributes_ok c.args.b.now) (sym c.in_ok-check.ensures) (sym c.attributes.ensures ∙ c.if-not-attributes.true)

pub returns : goal.returns
unfolding attributes_code
returns c = kind_holds _ (attributes_ok c.args.b.now) (sym c.in_ok-check.ensures) (sym c.attributes.ensures ∙ c.if-not-attributes.false)
