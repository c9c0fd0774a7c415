use native.Mathlib.Omega.{arith}
use mathlib.Core.Path.{sym, ◌∙◌, ap}
use Rattle.dinode.specs.Core.{version_ok}
use Rattle.dinode.proofs.Sound.{size_long}
use Rattle.dinode.proofs.Codes.{not_sized, not_magic, not_version, not_inside, all_three}
use Rattle.dinode.proofs.check.Goals as goal

pub returns-then-not-sized : goal.returns-then-not-sized
returns-then-not-sized c = not_sized _ _ (sym c.sized.ensures ∙ c.if-not-sized.true)

pub be16-requires : goal.be16-requires
be16-requires c = omega (arith, size_long _ (sym c.sized.ensures ∙ c.if-not-sized.false))

pub returns-then-be16-ne18766 : goal.returns-then-be16-ne18766
returns-then-be16-ne18766 c = not_magic _ _ (sym c.sized.ensures ∙ c.if-not-sized.false) (λ q. c.if-be16-ne18766.true (c.be16.ensures.0 ∙ q))

pub be8-requires : goal.be8-requires
be8-requires c = omega (arith, size_long _ (sym c.sized.ensures ∙ c.if-not-sized.false))

pub returns-then-not-versioned : goal.returns-then-not-versioned
returns-then-not-versioned c = not_version _ _ (sym c.sized.ensures ∙ c.if-not-sized.false) (sym c.be16.ensures.0 ∙ c.if-be16-ne18766.false)
    (ap (version_ok _) (sym c.be8.ensures.0) ∙ sym c.versioned.ensures ∙ c.if-not-versioned.true)

pub be8-requires-2 : goal.be8-requires-2
be8-requires-2 c = omega (arith, size_long _ (sym c.sized.ensures ∙ c.if-not-sized.false))

pub returns-then-b-e : goal.returns-then-b-e
returns-then-b-e c = not_inside _ _ (sym c.sized.ensures ∙ c.if-not-sized.false) (sym c.be16.ensures.0 ∙ c.if-be16-ne18766.false) (ap (version_ok _) (sym c.be8.ensures.0) ∙ sym c.versioned.ensures ∙ c.if-not-versioned.false) (omega (arith, c.if-b-e.true, c.be8-2.ensures))

pub returns : goal.returns
returns c = all_three _ _ (sym c.sized.ensures ∙ c.if-not-sized.false) (sym c.be16.ensures.0 ∙ c.if-be16-ne18766.false) (ap (version_ok _) (sym c.be8.ensures.0) ∙ sym c.versioned.ensures ∙ c.if-not-versioned.false) (omega (arith, c.if-b-e.false, c.be8-2.ensures))
