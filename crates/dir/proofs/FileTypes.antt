-- File types, read and written: where the edition has none, and where it has one; legal targets.
-- Assumes nothing.
use Prim.Native.Nat.{ℕ, ◌^◌, ◌≤◌, ◌<◌}
use native.Mathlib.Omega.{arith}
use mathlib.Core.Path.{◌≡◌, refl, sym, ◌∙◌, ap}
use mathlib.Core.List.{List, [], ◌∷◌}
use mathlib.Core.Bool.{true, false}
use lib.Dec.{eqb, leb, ltb}
use lib.ListN.{length, drop, length-take}
use borrow.Author.Tests.{eqb-true, eqb-false, ne_eqb, not-true, leb-true, ltb-true}
use Rattle.be.specs.Bytes.{be, be_from, byte, bytes, field, part, to_be, put}
use Rattle.be.proofs.Parts.{field_1, bytes_take, bytes_drop}
use Rattle.be.proofs.Writes.{put_nothing}
use Rattle.be.proofs.Numbers.{be_to_be}
use Rattle.be.proofs.Bools.{by_cases, and_left, and_right, and_both, every_head}
use Rattle.edition.specs.declared.Edition.{Edition}
use Rattle.edition.specs.Edition.{Sane}
use Rattle.name.specs.Name.{legal_number}
use Rattle.name.proofs.Legality.{number_bounds}
use Rattle.dir.specs.declared.Target.{Target}
use Rattle.dir.specs.Target.{target, legal_type, legal_target, legal_in, kept_of}

module _ (e : Edition) (z : e.ftype ≡ 0) (o : ℕ) where
  pub kind_none : (u : List ℕ) → 0 ≡ field o e.ftype u
  unfolding be be_from
  kind_none u = rw z refl

  pub put_kind_none : (b : List ℕ) (v : ℕ) → b ≡ put b o (to_be e.ftype v)
  unfolding to_be
  put_kind_none b v = rw z (sym (put_nothing b o))

module _ (e : Edition) (s : Sane e) (z : e.ftype ≡ 0 → ⊥) (o : ℕ) where
  kind_one : e.ftype ≡ 1
  kind_one = omega (arith, s.ftype_most)

  pub kind_some : (u : List ℕ) (r : ℕ) → r ≡ byte o u → r ≡ field o e.ftype u
  kind_some u r h = h ∙ sym (field_1 u o) ∙ ap (λ (k : ℕ). field o k u) (sym kind_one)

  pub put_kind_some : (b c : List ℕ) (v : ℕ) → c ≡ put b o (to_be 1 v) → c ≡ put b o (to_be e.ftype v)
  put_kind_some b c v h = h ∙ ap (λ (k : ℕ). put b o (to_be k v)) (sym kind_one)

-- at most one byte is a number below 256
one_byte : (l : List ℕ) → bytes l ≡ true → length l ≤ 1 → be l < 256
unfolding be be_from
one_byte [] h n = omega arith
one_byte (x ∷ []) h n = omega (arith, ltb-true x 256 (every_head (λ y. ltb y 256) x [] h))
one_byte (x ∷ y ∷ l) h n = absurd (omega arith)

-- and so is a file type that is read
pub kind_byte : (e : Edition) → Sane e → (o : ℕ) (u : List ℕ) → bytes u ≡ true → field o e.ftype u < 256
kind_byte e s o u h =
    one_byte (part o e.ftype u) (bytes_take e.ftype (drop o u) (bytes_drop o u h)) (simp length-take (omega (arith, s.ftype_most)))

-- and what is kept of a directory's, which a short form's ".." is told with
pub parent_kind_byte : (e : Edition) (p : ℕ) → (kept_of e (target p 2)).kind < 256
parent_kind_byte e p = by_cases (eqb e.ftype 0) (λ y. rw y (omega arith)) (λ y. rw y (omega arith))

-- a legal target: its number, its type, and both
module _ (e : Edition) (t : Target) where
  pub target_number : legal_target e t ≡ true → legal_number t.inode ≡ true
  unfolding legal_target
  target_number h = and_left (legal_number t.inode) (legal_type e t.kind) h

  pub target_type : legal_target e t ≡ true → legal_type e t.kind ≡ true
  unfolding legal_target
  target_type h = and_right (legal_number t.inode) (legal_type e t.kind) h

  pub target_both : legal_number t.inode ≡ true → legal_type e t.kind ≡ true → legal_target e t ≡ true
  unfolding legal_target
  target_both h k = and_both (legal_number t.inode) (legal_type e t.kind) h k

  -- what an insert may ask for is legal, and not the directory's own number
  pub asked_target : (own : ℕ) → legal_in e own t ≡ true → (legal_target e t ≡ true) × (eqb t.inode own ≡ false)
  unfolding legal_in
  asked_target own h = (and_left (legal_target e t) _ h, not-true _ (and_right (legal_target e t) _ h))

  -- 0 is the own number of no directory: it keeps no legal target out
  pub no_own : legal_in e 0 t ≡ legal_target e t
  unfolding legal_in
  no_own =
      by_cases (legal_target e t)
      (λ h. rw (h, ne_eqb t.inode 0 (λ (z : t.inode ≡ 0). omega (arith, number_bounds t.inode (target_number h)))) refl)
      (λ h. rw h refl)

-- what is kept of a legal type fits its bytes, and is what is read of them
module _ (e : Edition) (sane : Sane e) (t : Target) where
  kept_one : legal_type e t.kind ≡ true → eqb e.ftype 0 ≡ false → t.kind < 256 ^ e.ftype
  unfolding legal_type
  kept_one h y =
      let one : e.ftype ≡ 1 = kind_one e sane (eqb-false e.ftype 0 y) 0 in
      rw one (omega (arith, leb-true t.kind 8 (and_right (leb 1 t.kind) (leb t.kind 8) (rw y at h))))

  pub kept_fits : legal_type e t.kind ≡ true → (kept_of e t).kind < 256 ^ e.ftype
  kept_fits h = by_cases (eqb e.ftype 0) (λ y. rw (y, eqb-true e.ftype 0 y) (omega arith)) (λ y. rw y (kept_one h y))

  no_bytes : (v : ℕ) → be (to_be 0 v) ≡ 0
  unfolding be be_from to_be
  no_bytes v = refl

  pub kept_read : legal_type e t.kind ≡ true → be (to_be e.ftype t.kind) ≡ (kept_of e t).kind
  kept_read h =
      by_cases (eqb e.ftype 0)
      (λ y. rw (y, eqb-true e.ftype 0 y) (no_bytes t.kind))
      (λ y. rw y (be_to_be e.ftype t.kind (kept_one h y)))
