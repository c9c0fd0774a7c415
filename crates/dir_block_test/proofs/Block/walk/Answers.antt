use Prim.Native.Nat.{ℕ, ◌≤◌, ◌<◌}
use mathlib.Core.Bool.{true, false, ◌||◌}
use lib.Dec.{eqb}
use lib.ListN.{length, get_or, set, length-set}
use native.Mathlib.Omega.{arith}
use mathlib.Core.Path.{◌≡◌, sym, ◌∙◌, refl, ap, subst}
use mathlib.Core.List.{List}
use Rattle.edition.specs.declared.Edition.{Edition}
use Rattle.dir_block_test.specs.Passes.{Surveyed, Parts}
use Rattle.dir_block_test.proofs.RecordWalk.{walking_start, walking_end, walking_broken, walking_room, walking_fits, walking_entry, walking_touch, walking_named, walking_other, hd}
use Rattle.dir_block_test.proofs.BestPass.{which_index, flag}
use Rattle.dir_block_test.proofs.Block.walk.Goals as goal
use Rattle.dir_block_test.proofs.Block.walk.Goals.{in-Some, in-None}

hi : {e : Edition} {b : List ℕ} {t n : ℕ} → Parts e b t n → t ≤ length b
hi p = omega (arith, p.slots_fit)

pub le64-own-requires : goal.le64-own-requires
le64-own-requires c = let p = c.args.self.parts in omega (arith, p.slots_fit, p.least)

pub loop-o-init : goal.loop-o-init
loop-o-init c =
    let p = c.args.self.parts in record {
      long = refl;
      walking = rw (c.is_zero.ensures, c.is_zero-2.ensures, c.is_zero-3.ensures) (walking_start _ _ _ _ _ _ _ _ _ _ _ _ (hi p) p.eights p.least c.args.self.sane.header_eights);
    }

pub whole_len-requires : goal.whole_len-requires
whole_len-requires c =
    record { sane = c.args.self.sane; o_bound = (walking_room _ _ _ _ _ _ _ _ _ _ _ _ (hi c.args.self.parts) c.args.self.parts.eights _ _ _ _ _ _ _ _ c.loop-o.invariant.walking c.loop-o-test.true, hi c.args.self.parts) }

pub returns-in_err-len : goal.returns-in_err-len
returns-in_err-len c = subst (Surveyed _ _ _ _ _) (sym c.from_residual.ensures) (walking_broken _ _ _ _ _ _ _ _ _ _ _ _ (hi c.args.self.parts) c.args.self.parts.eights _ _ _ _ _ _ _ _ c.loop-o.invariant.walking c.loop-o-test.true c.in_err-len.ensures)

pub returns-in_err-len-2 : goal.returns-in_err-len-2
returns-in_err-len-2 c = subst (Surveyed _ _ _ _ _) (sym c.from_residual-in_err-len-2.ensures) (walking_broken _ _ _ _ _ _ _ _ _ _ _ _ (hi c.args.self.parts) c.args.self.parts.eights _ _ _ _ _ _ _ _ c.loop-o.invariant.walking c.loop-o-test.true c.in_err-len-2.ensures)

pub entry_fault-requires : goal.entry_fault-requires
entry_fault-requires c =
    let p = c.args.self.parts in record {
      sane = c.args.self.sane;
      header_in_bounds = (omega (arith, p.slots_fit, p.least), c.le64-own.ensures);
      t_in_bounds = (
        omega (arith, p.slots_fit),
        p.short,
        c.requires,
        walking_fits _ _ _ _ _ _ _ _ _ _ _ _ (hi c.args.self.parts) c.args.self.parts.eights _ _ _ _ _ _ _ _ c.loop-o.invariant.walking c.loop-o-test.true _ c.in_ok-len.ensures (sym c.is_gap.ensures ∙ c.if-not-is_gap.true),
      );
    }

pub overflow_add-entries : goal.overflow_add-entries
overflow_add-entries c = omega (arith, c.loop-o.invariant.walking.few, c.loop-o.invariant.walking.within, c.args.self.parts.short)

pub overflow_add-o : goal.overflow_add-o
overflow_add-o c = omega (arith, (hd _ _ _ _ _ _ _ _ _ _ _ _ (hi c.args.self.parts) c.args.self.parts.eights _ _ _ _ _ _ _ _ c.loop-o.invariant.walking c.loop-o-test.true _ c.in_ok-len.ensures).fits)

pub loop-o-smaller-then-not-is_gap : goal.loop-o-smaller-then-not-is_gap
loop-o-smaller-then-not-is_gap c = omega (arith, c.loop-o-test.true, (hd _ _ _ _ _ _ _ _ _ _ _ _ (hi c.args.self.parts) c.args.self.parts.eights _ _ _ _ _ _ _ _ c.loop-o.invariant.walking c.loop-o-test.true _ c.in_ok-len.ensures).least)

pub loop-o-preserved-then-not-is_gap : goal.loop-o-preserved-then-not-is_gap
loop-o-preserved-then-not-is_gap c = record {
  long = c.loop-o.invariant.long;
  walking = walking_entry _ _ _ _ _ _ _ _ _ _ _ _ (hi c.args.self.parts) c.args.self.parts.eights _ _ _ _ _ _ _ _ c.loop-o.invariant.walking c.loop-o-test.true _ c.in_ok-len.ensures (sym c.is_gap.ensures ∙ c.if-not-is_gap.true)
      _ _ c.entry_fault.ensures c.first_fault-fault.ensures;
}

pub returns-then-after : goal.returns-then-after
returns-then-after c =
    walking_touch _ _ _ _ _ _ _ _ _ _ _ _ (hi c.args.self.parts) c.args.self.parts.eights _ _ _ _ _ _ _ _ c.loop-o.invariant.walking c.loop-o-test.true _ c.in_ok-len-2.ensures (sym c.is_gap.ensures ∙ c.if-not-is_gap.false) c.if-after.true

pub overflow_add-o-in-loop-o : goal.overflow_add-o-in-loop-o
overflow_add-o-in-loop-o c = omega (arith, (hd _ _ _ _ _ _ _ _ _ _ _ _ (hi c.args.self.parts) c.args.self.parts.eights _ _ _ _ _ _ _ _ c.loop-o.invariant.walking c.loop-o-test.true _ c.in_ok-len-2.ensures).fits)

pub loop-o-smaller : goal.loop-o-smaller
loop-o-smaller c = omega (arith, c.loop-o-test.true, (hd _ _ _ _ _ _ _ _ _ _ _ _ (hi c.args.self.parts) c.args.self.parts.eights _ _ _ _ _ _ _ _ c.loop-o.invariant.walking c.loop-o-test.true _ c.in_ok-len-2.ensures).least)

pub bounds-named-i : goal.bounds-named-i
bounds-named-i c = which_index _ _ _ _ _ _ (sym c.in-Some.is ∙ c.which.ensures)

pub loop-o-preserved : goal.loop-o-preserved
loop-o-preserved c =
    let g = sym c.is_gap.ensures ∙ c.if-not-is_gap.false in
    let v = c.loop-o.invariant in
    let f : (i j : ℕ) → j < 3 → get_or (set c.loop-o.named i true) j false ≡ (get_or c.loop-o.named j false || eqb i j) = λ i j h. flag c.loop-o.named i j (omega (arith, v.long)) in
    elim c.match-which.branch [
      | in-Some w ↦
          let i = w.in-Some.i in record {
            long = ap length w.named-is ∙ length-set c.loop-o.named i true ∙ v.long;
            walking = rw (w.named-is, w.best-is, f i 0 (omega arith), f i 1 (omega arith), f i 2 (omega arith))
                (walking_named _ _ _ _ _ _ _ _ _ _ _ _ (hi c.args.self.parts) c.args.self.parts.eights _ _ _ _ _ _ _ _ c.loop-o.invariant.walking c.loop-o-test.true _ c.in_ok-len-2.ensures g c.if-after.false i (sym w.in-Some.is ∙ c.which.ensures));
          }
      | in-None w ↦ record {
        long = ap length w.named-is ∙ v.long;
        walking = rw (w.named-is, w.best-is) (walking_other _ _ _ _ _ _ _ _ _ _ _ _ (hi c.args.self.parts) c.args.self.parts.eights _ _ _ _ _ _ _ _ c.loop-o.invariant.walking c.loop-o-test.true _ c.in_ok-len-2.ensures g c.if-after.false (sym w.in-None.is ∙ c.which.ensures));
      }
    ]

pub returns : goal.returns
returns c = walking_end _ _ _ _ _ _ _ _ _ _ _ _ (hi c.args.self.parts) c.args.self.parts.eights _ _ _ _ _ _ _ _ c.loop-o.invariant.walking c.loop-o-test.false c.loop-o.fault refl
