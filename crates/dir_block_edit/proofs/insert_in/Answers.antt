use mathlib.Core.Path.{refl, sym, ◌∙◌, ap}
use Rattle.refusal.proofs.Passed.{number_ne, code_is}
use Rattle.be.proofs.Bools.{and_left, and_right}
use Rattle.be.proofs.Parts.{bytes_all}
use Rattle.dir.specs.Target.{legal_in}
use Rattle.dir_block_laws.proofs.SlotSearch.{ready_of}
use Rattle.dir_block_edit.proofs.Refused.{clear, insert_tested, insert_refused}
use Rattle.dir_block_edit.proofs.insert_in.Goals as goal

pub returns-in_err-check : goal.returns-in_err-check
returns-in_err-check c =
    let k = code_is c.from_residual.result _ c.from_residual.ensures.1 refl in
    let h = insert_tested _ c.args.b.now c.args.name.now c.args.to _ c.in_err-check.ensures (number_ne _) in
    (k ∙ h.0, h.1)

pub own_number-requires : goal.own_number-requires
own_number-requires c =
    (c.requires, ready_of _ c.args.b.now _ (λ i. (c.slice_known-1.given i).fits) c.in_ok-check.ensures refl)

pub returns-in_err-request : goal.returns-in_err-request
returns-in_err-request c =
    let k = code_is c.from_residual-in_err-request.result _ c.from_residual-in_err-request.ensures.1 refl in
    let h = insert_refused _ _ _ _ _ c.in_ok-check.ensures refl _ _ _ c.legal-asked.ensures
    (c.legal_in-legal.ensures ∙ ap (λ own. legal_in c.args.e own c.args.to) c.own_number.ensures)
    c.in_err-request.ensures (number_ne _) in
    (k ∙ h.0, h.1)

pub insert_ready-requires : goal.insert_ready-requires
insert_ready-requires c =
    let q = c.legal-asked in
    let t = c.legal_in-legal in
    let k = clear _ _ (sym c.in_ok-request.ensures) in
    let l = and_left q.result t.result k.asked in
    let r = and_right q.result t.result k.asked in
    let n = bytes_all c.args.name.now (λ i. (c.type_inv.name i).fits) in record { sane = (c.requires, ready_of _ c.args.b.now _ (λ i. (c.slice_known-1.given i).fits) c.in_ok-check.ensures refl); name_value = (sym q.ensures ∙ l, (ap (λ own. legal_in c.args.e own c.args.to) (sym c.own_number.ensures) ∙ sym t.ensures ∙ r, (k.free, n))); h_value = c.hash.ensures.0 }
