-- The walker after its step stands where a walk stands one step further; where a step is refused, each further one is.
use Rattle.std.proofs.Common.{ℕ, zero, suc, ◌≡◌, ◌≤◌, ◌+◌, ◌-◌, refl, sym, ◌∙◌, ap, subst, add-one, List, Result, Err, arith}
use Rattle.edition.specs.Edition.{v4}
use Rattle.refusal.specs.declared.Refusal.{Refusal}
use Rattle.refusal.specs.Refusal.{number, numbered}
use Rattle.refusal.proofs.Passed.{err_is}
use Rattle.dir.specs.declared.Step.{Step}
use Rattle.dir_block_rules.specs.Walk.{walk_step, StepPromise}
use Rattle.dir_block_walker.specs.declared.Walker.{Walker}
use Rattle.dir_block_walker.specs.Place.{place_after, moved, nth_place, Says}
use Rattle.dir_block_walker.proofs.nth.Goals as goal

one_further : (w x : Walker) (i : ℕ) → x ≡ moved w → w.place ≡ nth_place w.block.now i → x.place ≡ nth_place x.block.now (i + 1)
unfolding nth_place
one_further w x i e h =
    subst (λ (y : Walker). y.place ≡ nth_place y.block.now (i + 1)) (sym e)
    (rw add-one (ap (λ (p : ℕ). place_after p (walk_step v4 w.block.now p)) h))

stuck : (b : List ℕ) (i k j : ℕ) → Err k ≡ walk_step v4 b (nth_place b i) → nth_place b (i + j) ≡ nth_place b i
unfolding nth_place
stuck b i k zero h = ap (nth_place b) (omega arith)
stuck b i k (suc j) h =
    let z : i + suc j ≡ suc (i + j) = omega arith in
    ap (nth_place b) z ∙ ap (λ (p : ℕ). place_after p (walk_step v4 b p)) (stuck b i k j h) ∙ ap (place_after (nth_place b i)) (sym h)

told : (b : List ℕ) (w : Walker) (p : ℕ) (r : Result Step ℕ) → w.block.now ≡ b → w.place ≡ p → Says w r → StepPromise v4 b p r
told b w p r h q s = subst (λ (a : List ℕ). StepPromise v4 a p r) h (subst (λ (o : ℕ). StepPromise v4 w.block.now o r) q s)

refused_for_good : (b : List ℕ) (w : Walker) (i n : ℕ) (r : Result Step Refusal) (x : Refusal) → r ≡ Err x → w.block.now ≡ b → w.place ≡ nth_place b i → i ≤ n
    → Says w (Err (number x)) → StepPromise v4 b (nth_place b n) (numbered r)
refused_for_good b w i n r x e h p l s =
    let m : n ≡ i + (n - i) = omega arith in
    let q : nth_place b n ≡ nth_place b i = ap (nth_place b) m ∙ stuck b i (number x) (n - i) (told b w (nth_place b i) (Err (number x)) h p s).0 in
    told b w (nth_place b n) (numbered r) h (p ∙ sym q) (subst (Says w) (sym (ap numbered e)) s)

pub loop-init : goal.loop-init
unfolding nth_place
loop-init c = record { holds = refl; place = c.start-w.ensures.1 }

pub returns-in_err-advance : goal.returns-in_err-advance
returns-in_err-advance c =
    let h : c.loop.w.block.now ≡ c.args.block.now = ap (λ x. x.now) (c.loop.invariant.holds ∙ c.start-w.ensures.0) in
    refused_for_good c.args.block.now c.loop.w c.loop.counter c.args.n _ _ (err_is _ _ c.from_residual.ensures.1)
    h (c.loop.invariant.place ∙ ap (λ (b : List ℕ). nth_place b c.loop.counter) h) (omega arith) c.in_err-advance.ensures.0

pub loop-preserved : goal.loop-preserved
loop-preserved c = record {
  holds = ap (λ (x : Walker). x.block) c.in_ok-advance.ensures.1 ∙ c.loop.invariant.holds;
  place = one_further c.loop.w _ c.loop.counter c.in_ok-advance.ensures.1 c.loop.invariant.place;
}

pub returns : goal.returns
returns c =
    let h : c.loop.w.block.now ≡ c.args.block.now = ap (λ x. x.now) (c.loop.invariant.holds ∙ c.start-w.ensures.0) in
    let n : c.loop.counter ≡ c.args.n = omega arith in
    told c.args.block.now c.loop.w _ _ h (c.loop.invariant.place ∙ ap (λ (b : List ℕ). nth_place b c.loop.counter) h ∙ ap (nth_place c.args.block.now) n) c.step.ensures
