use native.Mathlib.Omega.{arith}
use Prim.Native.Nat.{ℕ}
use mathlib.Core.Path.{◌≡◌, sym, ap, ◌∙◌}
use mathlib.Core.List.{List}
use Rattle.std.specs.Prelude.{Result, Ok}
use Rattle.edition.specs.declared.Edition.{Edition}
use Rattle.edition.specs.Edition.{v4}
use Rattle.refusal.specs.declared.Refusal.{Refusal}
use Rattle.refusal.specs.Refusal.{code, numbered}
use Rattle.refusal.proofs.Passed.{passed_on, given, code_answered, outcome_numbered}
use Rattle.dinode.specs.declared.Core.{Core}
use Rattle.dinode.specs.Core.{inode_code, core_of, tested, tested_code}
use Rattle.dinode.proofs.Sound.{sound_size}
use Rattle.dinode.proofs.test.Goals as goal

-- the code, of the edition that was made
code_is : {e f : Edition} {n : ℕ} (b : List ℕ) → n ≡ inode_code e b → e ≡ f → n ≡ inode_code f b
code_is b h q = rw (← q) h

told : (r : Result Core Refusal) (b : List ℕ) → numbered r ≡ tested v4 b
    → (numbered r ≡ tested v4 b) × (tested_code (numbered r) ≡ inode_code v4 b) × (code r ≡ inode_code v4 b)
unfolding tested
told r b h = (h, outcome_numbered r ∙ code_answered r _ (core_of b) h, code_answered r _ (core_of b) h)

pub returns-in_err-check : goal.returns-in_err-check
unfolding tested
returns-in_err-check c =
    told _ c.args.b.now (passed_on _ _ (core_of c.args.b.now) c.from_residual.ensures.1 (code_is c.args.b.now c.in_err-check.ensures c.edition.ensures.0))

pub fields-requires : goal.fields-requires
fields-requires c = omega (arith, sound_size _ _ (sym c.in_ok-check.ensures))

pub returns : goal.returns
unfolding tested
returns c =
    let b = c.args.b.now in
    told (Ok c.fields.result) b (ap Ok c.fields.ensures ∙ given (core_of b) (code_is b c.in_ok-check.ensures c.edition.ensures.0))
