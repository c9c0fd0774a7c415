-- What a lookup and a walk step answer, test by test.
-- Assumes nothing.
use Prim.Native.Nat.{ℕ}
use mathlib.Core.Bool.{true, false}
use mathlib.Core.Path.{◌≡◌, refl, sym, ◌∙◌}
use mathlib.Core.List.{List}
use borrow.Author.Tests.{ne_eqb}
use Rattle.std.specs.Prelude.{Ok, Err}
use Rattle.refusal.specs.Refusal.{ASKED}
use Rattle.edition.specs.declared.Edition.{Edition}
use Rattle.edition.specs.Edition.{Sane}
use Rattle.name.specs.Name.{legal_name}
use Rattle.dir.specs.declared.Target.{Target}
use Rattle.dir.specs.declared.Looked.TheVariants.{Found, Absent}
use Rattle.dir_block_rules.specs.Block.{records, data_end}
use Rattle.dir_block_rules.specs.Verdict.{verdict, Accepted}
use Rattle.dir_block_rules.specs.Lookup.{sought, target_at, names_compared, lookup, lookup_refusal}
use Rattle.dir_block_rules.proofs.LookupRight.{compared_right}
use Rattle.dir_block_laws.specs.Tiled.{Ready}
use Rattle.dir_block_rules.specs.Walk.{is_place, walk_step, step_code}

module _ (e : Edition) (b n : List ℕ) where
  pub lookup_block : (verdict e b ≡ 0 → ⊥) → Err (verdict e b) ≡ lookup e b n
  unfolding lookup lookup_refusal
  lookup_block h = rw (ne_eqb (verdict e b) 0 h, ne_eqb (verdict e b) 0 h) refl

  pub lookup_asked : Accepted e b → legal_name e n ≡ false → Err ASKED ≡ lookup e b n
  unfolding lookup lookup_refusal
  lookup_asked a l = rw (a, l) refl

  module _ (sane : Sane e) (r : Ready e b) (l : legal_name e n ≡ true) (c : ℕ) (q : (sought e b n).compared ≡ c) where
    counted : c ≡ names_compared e b n
    counted = sym q ∙ compared_right e sane b r.are_bytes r.ok n

    pub lookup_found : (o : ℕ) → (sought e b n).hit ≡ true → (sought e b n).at ≡ o → (i : Target) → i ≡ target_at e b o → Ok (Found i o c) ≡ lookup e b n
    unfolding lookup lookup_refusal
    lookup_found o h at i is = rw (r.ok, l, h, at, counted, is) refl

    pub lookup_absent : (sought e b n).hit ≡ false → Ok (Absent c) ≡ lookup e b n
    unfolding lookup lookup_refusal
    lookup_absent h = rw (r.ok, l, h, counted) refl

module _ (e : Edition) (b : List ℕ) (p : ℕ) where
  pub step_block : (verdict e b ≡ 0 → ⊥) → Err (verdict e b) ≡ walk_step e b p
  unfolding walk_step step_code
  step_block h = rw (ne_eqb (verdict e b) 0 h, ne_eqb (verdict e b) 0 h) refl

  pub step_asked : Accepted e b → is_place p (data_end b) (records e b) ≡ false → Err ASKED ≡ walk_step e b p
  unfolding walk_step step_code
  step_asked a l = rw (a, l) refl
