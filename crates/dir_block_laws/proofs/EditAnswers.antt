-- What a removal answers, once the block is accepted.
-- Assumes nothing.
use Prim.Native.Nat.{ℕ}
use native.Mathlib.Omega.{arith}
use mathlib.Core.Bool.{true, false}
use mathlib.Core.Path.{◌≡◌, sym, ◌∙◌}
use mathlib.Core.List.{List}
use borrow.Author.Tests.{ne_eqb}
use Rattle.refusal.specs.Refusal.{ABSENT}
use Rattle.be.specs.Codes.{◌unless◌then◌}
use Rattle.edition.specs.declared.Edition.{Edition}
use Rattle.name.specs.Name.{legal_name, fixed_name}
use Rattle.name.proofs.Same.{fixed_legal}
use Rattle.dir_block_rules.specs.Lookup.{sought}
use Rattle.dir_block_rules.specs.Change.{changed, remove_code, remove_bytes, remove_writes}
use Rattle.edition.specs.Edition.{Sane}
use Rattle.dir_block_rules.proofs.EachCall.{remove_code_is}
use Rattle.dir_block_laws.specs.Tiled.{Ready}

-- a refusal leaves every byte
pub remove_refused : (e : Edition) (b n : List ℕ) (k : ℕ) → (k ≡ 0 → ⊥) → remove_code e b n ≡ k → (k ≡ remove_code e b n) × (b ≡ remove_bytes e b n)
unfolding remove_bytes
remove_refused e b n k z q = (sym q, sym (rw (q, ne_eqb k 0 z)))

module _ (e : Edition) (sane : Sane e) (b n : List ℕ) (r : Ready e b) where
  pub removed_asked : legal_name e n ≡ false → (11 ≡ remove_code e b n) × (b ≡ remove_bytes e b n)
  removed_asked l = remove_refused e b n 11 (λ z. omega arith) (remove_code_is e sane b r.are_bytes r.ok n ∙ rw l)

  pub removed_fixed : fixed_name n ≡ true → (12 ≡ remove_code e b n) × (b ≡ remove_bytes e b n)
  removed_fixed x = remove_refused e b n 12 (λ z. omega arith) (remove_code_is e sane b r.are_bytes r.ok n ∙ rw (fixed_legal e n x, x))

module _ (e : Edition) (sane : Sane e) (b n : List ℕ) (r : Ready e b) (l : legal_name e n ≡ true) (x : fixed_name n ≡ false) where
  remove_chain : remove_code e b n ≡ (ABSENT unless (sought e b n).hit then 0)
  remove_chain = remove_code_is e sane b r.are_bytes r.ok n ∙ rw (l, x)

  pub removed_done : (c : List ℕ) → (sought e b n).hit ≡ true → c ≡ changed e b (remove_writes e b n) → (0 ≡ remove_code e b n) × (c ≡ remove_bytes e b n)
  unfolding remove_bytes
  removed_done c h q =
      let k : remove_code e b n ≡ 0 = remove_chain ∙ rw h in
      (sym k, q ∙ sym (rw k))

  pub removed_absent : (sought e b n).hit ≡ false → (13 ≡ remove_code e b n) × (b ≡ remove_bytes e b n)
  removed_absent h = remove_refused e b n 13 (λ z. omega arith) (remove_chain ∙ rw h)
