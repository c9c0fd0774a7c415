use native.Mathlib.Omega.{arith}
use mathlib.Core.Path.{refl, sym, ◌∙◌}
use Rattle.refusal.proofs.Passed.{number_ne, numbered_is}
use Rattle.name.proofs.Legality.{legal_long}
use Rattle.dir_block_laws.proofs.SlotSearch.{ready_of}
use Rattle.dir_block_lookup.proofs.CallAnswers.{lookup_block, lookup_asked}
use Rattle.dir_block_lookup.proofs.lookup_in.Goals as goal

pub returns-in_err-check : goal.returns-in_err-check
returns-in_err-check c = numbered_is _ _ c.from_residual.ensures.1 c.in_err-check.ensures ∙ lookup_block _ _ _ (λ q. number_ne _ (c.in_err-check.ensures ∙ q))

pub returns-then-name-gt255 : goal.returns-then-name-gt255
returns-then-name-gt255 c =
    lookup_asked _ _ _ (sym c.in_ok-check.ensures) (sym (legal_long _ _ c.if-name-gt255.true))

pub lookup_ready-requires : goal.lookup_ready-requires
lookup_ready-requires c =
    record { sane = (c.requires, ready_of _ _ _ (λ i. omega (arith, c.type_inv.b i)) c.in_ok-check.ensures refl); h_value = c.hash.ensures.0 }
