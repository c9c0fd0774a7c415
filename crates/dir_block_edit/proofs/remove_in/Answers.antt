use mathlib.Core.Path.{refl, sym, ◌∙◌}
use Rattle.refusal.proofs.Passed.{number_ne, code_is}
use Rattle.name.proofs.Legality.{legal_long}
use Rattle.dir_block_laws.proofs.SlotSearch.{ready_of}
use Rattle.dir_block_laws.proofs.EditAnswers.{removed_asked, removed_fixed}
use Rattle.dir_block_edit.proofs.Refused.{remove_tested}
use Rattle.dir_block_edit.proofs.remove_in.Goals as goal

pub returns-in_err-check : goal.returns-in_err-check
returns-in_err-check c =
    let r = c.from_residual.result in
    let k = code_is r _ c.from_residual.ensures.1 refl in
    let h = remove_tested _ c.args.b.now c.args.name.now _ c.in_err-check.ensures (number_ne _) in
    (k ∙ h.0, h.1)

pub returns-then-name-gt255 : goal.returns-then-name-gt255
returns-then-name-gt255 c =
    let k = ready_of _ _ _ (λ i. (c.slice_known-1.given i).fits) c.in_ok-check.ensures refl in
    removed_asked _ c.requires _ _ k (sym (legal_long _ _ c.if-name-gt255.true))

pub returns-then-fixed : goal.returns-then-fixed
returns-then-fixed c =
    let k = ready_of _ _ _ (λ i. (c.slice_known-1.given i).fits) c.in_ok-check.ensures refl in
    removed_fixed _ c.requires _ _ k (sym c.fixed.ensures ∙ c.if-fixed.true)

pub remove_ready-requires : goal.remove_ready-requires
remove_ready-requires c =
    let k = ready_of _ _ _ (λ i. (c.slice_known-1.given i).fits) c.in_ok-check.ensures refl in
    record { sane = (c.requires, k); name_value = (sym c.fixed.ensures ∙ c.if-fixed.false, c.hash.ensures.0) }
