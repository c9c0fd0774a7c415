use native.Mathlib.Omega.{arith}
use mathlib.Core.Path.{refl, sym, ◌∙◌}
use Rattle.refusal.proofs.Passed.{number_ne, numbered_is}
use Rattle.dir_block_laws.proofs.SlotSearch.{ready_of}
use Rattle.dir_block_lookup.proofs.CallAnswers.{step_block, step_asked}
use Rattle.dir_block_lookup.proofs.step_in.Goals as goal

pub returns-in_err-check : goal.returns-in_err-check
returns-in_err-check c = numbered_is _ _ c.from_residual.ensures.1 c.in_err-check.ensures ∙ step_block _ _ _ (λ q. number_ne _ (c.in_err-check.ensures ∙ q))

pub end_of_data-end-requires : goal.end_of_data-end-requires
end_of_data-end-requires c = (c.requires, ready_of _ _ _ (λ i. omega (arith, c.type_inv.b i)) c.in_ok-check.ensures refl)

pub stands-requires : goal.stands-requires
stands-requires c = record { sane = (c.requires, ready_of _ _ _ (λ i. omega (arith, c.type_inv.b i)) c.in_ok-check.ensures refl); end_value = c.end_of_data-end.ensures }

pub returns-then-not-stands : goal.returns-then-not-stands
returns-then-not-stands c = step_asked _ _ _ (sym c.in_ok-check.ensures) (sym c.stands.ensures.0 ∙ c.if-not-stands.true)

pub step_ready-requires : goal.step_ready-requires
step_ready-requires c = record { sane = (c.requires, ready_of _ _ _ (λ i. omega (arith, c.type_inv.b i)) c.in_ok-check.ensures refl); end_value = (c.end_of_data-end.ensures, c.stands.ensures.1 c.if-not-stands.false) }

pub returns : goal.returns
returns c = c.step_ready.ensures.says
