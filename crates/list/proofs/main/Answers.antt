use native.Mathlib.Omega.{arith}
use mathlib.Core.Path.{sym, ◌∙◌}
use Rattle.list.proofs.main.Goals as goal

-- only a full buffer is probed behind
pub answer-requires : goal.answer-requires
answer-requires c =
    let r = c.read_full-n.ensures in
    let p = c.probe-k.ensures in
    (c.edition.ensures.1, λ h. sym p.prefix_len.1 ∙ p.value (omega (arith, h, r.1)))
