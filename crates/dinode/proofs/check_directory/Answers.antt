use native.Mathlib.Omega.{arith}
use mathlib.Core.Path.{sym, ◌∙◌}
use Rattle.refusal.proofs.Passed.{number_ne, code_is}
use Rattle.dinode.specs.Core.{directory_code, directory_ok}
use Rattle.dinode.proofs.Sound.{sound_size}
use Rattle.dinode.proofs.Codes.{kind_first, kind_holds, kind_fails}
use Rattle.dinode.proofs.check_directory.Goals as goal

pub returns-in_err-check : goal.returns-in_err-check
unfolding directory_code
returns-in_err-check c =
    code_is _ _ c.from_residual.ensures.1
    (c.in_err-check.ensures ∙ kind_first _ (directory_ok c.args.b.now) (λ q. number_ne _ (c.in_err-check.ensures ∙ q)))

pub directory-requires : goal.directory-requires
directory-requires c = omega (arith, sound_size _ _ (sym c.in_ok-check.ensures))

pub returns-then-not-directory : goal.returns-then-not-directory
unfolding directory_code
returns-then-not-directory c = kind_fails _ (directory_ok c.args.b.now) (sym c.in_ok-check.ensures) (sym c.directory.ensures ∙ c.if-not-directory.true)

pub returns : goal.returns
unfolding directory_code
returns c = kind_holds _ (directory_ok c.args.b.now) (sym c.in_ok-check.ensures) (sym c.directory.ensures ∙ c.if-not-directory.false)
