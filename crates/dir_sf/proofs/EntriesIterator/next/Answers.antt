use native.Mathlib.Omega.{arith}
use borrow.Author.Rules.{rules}
use mathlib.Core.Path.{refl, sym, ap}
use lib.ListN.{length}
use Rattle.dir_sf.proofs.Turn.{placed_over, some_left, turn_one, turn_rest, turn_entry, turn_next, turn_tells}
use Rattle.dir_sf.proofs.EntriesIterator.next.Goals as goal

pub returns-then-self-eq0-clause-steps : goal.returns-then-self-eq0-clause-steps
returns-then-self-eq0-clause-steps c = let h = placed_over _ _ _ _ _ c.if-self-eq0.true in ((h, h), refl, ((c.if-self-eq0.true, refl), refl, refl))

pub namelen-n-requires : goal.namelen-n-requires
namelen-n-requires c = turn_one _ _ _ _ _ (some_left _ c.if-self-eq0.false) c.args.self.now.lie

pub invariant_of-self : goal.invariant_of-self
invariant_of-self c =
    record {
      sane = c.args.self.now.sane;
      lie = turn_rest _ _ _ _ _ (some_left _ c.if-self-eq0.false) c.args.self.now.lie _ _ c.namelen-n.ensures.0 c.rest.ensures.0;
    }

pub returns-clause-steps : goal.returns-clause-steps
returns-clause-steps c =
    let some = some_left _ c.if-self-eq0.false in
    let n = c.namelen-n.ensures.0 in
    let v = c.rest.ensures.0 in
    let o = c.be16-tag.ensures.0 in
    let t = c.target_at-target.ensures in
    (turn_tells _ _ _ _ _ _ _ _ _ some n v o t, refl, ((omega (arith, some), refl, sym (turn_next _ _ _ _ _ _ n v), turn_entry _ _ _ _ _ _ _ n o t), refl, refl))

pub returns-clause-goes : goal.returns-clause-goes
returns-clause-goes c = let shorter = ap length (returns-clause-steps c).0 in search rules
