-- A lookup gives what is stored.
-- Assumes nothing.
use Prim.Native.Nat.{ℕ}
use mathlib.Core.Bool.{true, false, cond}
use mathlib.Core.Path.{◌≡◌, refl, ◌∙◌}
use mathlib.Core.List.{List, [], ◌∷◌, ◌++◌}
use Rattle.std.specs.Prelude.{Ok}
use borrow.Author.Tests.{not-true}
use Rattle.be.specs.Lists.{every}
use Rattle.be.proofs.Bools.{by_cases, and_left, and_right, or_right, neither}
use Rattle.edition.specs.declared.Edition.{Edition}
use Rattle.edition.specs.Edition.{Sane}
use Rattle.name.specs.Name.{legal_name, same_name, fixed_name, dotdot}
use Rattle.name.proofs.Legality.{dotdot_legal}
use Rattle.name.proofs.Same.{not_fixed, same_name_refl, same_name_sym}
use Rattle.dir.specs.declared.Looked.TheVariants.{Absent}
use Rattle.dir_sf.specs.Entry.{SfEntry}
use Rattle.dir_sf.specs.Fork.{parent, entries, holds, once_ok, names_ok, name_ok}
use Rattle.dir_sf.specs.Change.{entry_in, parent_entry, entry_for}
use Rattle.dir_sf.specs.Inode.{used, verdict, found_entry, looked, lookup}
use Rattle.dir_sf.specs.Laws.{LookupStored, LookupAbsent, LookupParent}
use Rattle.dir_sf.proofs.Names.{fails, once_head, once_tail}
use Rattle.dir_sf.proofs.Tested.{used_passes, names_known, once_known}

-- a name among the entries
held_at : (e : Edition) (ys zs : List SfEntry) (x : SfEntry) → holds e x.name (ys ++ (x ∷ zs)) ≡ true
unfolding holds
held_at e [] zs x = rw (same_name_refl e x.name) refl
held_at e (y ∷ ys) zs x = or_right (same_name e x.name y.name) _ (held_at e ys zs x)

-- stands there once, so that it is the first found
apart : (e : Edition) (n : List ℕ) (ys zs : List SfEntry) (x : SfEntry) → holds e n (ys ++ (x ∷ zs)) ≡ false → same_name e n x.name ≡ false
unfolding holds
apart e n [] zs x h = (neither (same_name e n x.name) _ h).0
apart e n (y ∷ ys) zs x h = apart e n ys zs x (neither (same_name e n y.name) _ h).1

entry_there : (e : Edition) (ys zs : List SfEntry) (x : SfEntry) → once_ok e (ys ++ (x ∷ zs)) ≡ true → entry_in e x.name (ys ++ (x ∷ zs)) ≡ x
unfolding entry_in
entry_there e [] zs x h = rw (same_name_refl e x.name) refl
entry_there e (y ∷ ys) zs x h =
    let a : same_name e y.name x.name ≡ false = apart e y.name ys zs x (once_head e y (ys ++ (x ∷ zs)) h) in
    rw (fails (same_name e x.name y.name) (same_name e y.name x.name) (same_name_sym e x.name y.name) a) (entry_there e ys zs x (once_tail e y (ys ++ (x ∷ zs)) h))

name_at : (e : Edition) (ys zs : List SfEntry) (x : SfEntry) → every (name_ok e) (ys ++ (x ∷ zs)) ≡ true → name_ok e x ≡ true
name_at e [] zs x h = and_left (name_ok e x) _ h
name_at e (y ∷ ys) zs x h = name_at e ys zs x (and_right (name_ok e y) _ h)

module _ (e : Edition) (sane : Sane e) (told : ℕ) (b : List ℕ) (v : verdict e told b ≡ 0) where
  absent : (n : List ℕ) → legal_name e n ≡ true → fixed_name n ≡ false
      → lookup e told b n ≡ cond (holds e n (entries e (used e b))) (Ok (found_entry (entry_in e n (entries e (used e b))))) (Ok (Absent 0))
  unfolding lookup looked entry_for
  absent n h f =
      let d = not_fixed n f in
      rw (v, h, d.0, d.1) (by_cases (holds e n (entries e (used e b))) (λ q. rw q refl) (λ q. rw q refl))

  stored : (ys zs : List SfEntry) (x : SfEntry) → entries e (used e b) ≡ ys ++ (x ∷ zs) → lookup e told b x.name ≡ Ok (found_entry x)
  unfolding names_ok
  stored ys zs x q =
      let o : once_ok e (ys ++ (x ∷ zs)) ≡ true = rw q at (once_known e told (used e b) (used_passes e sane told b v)) in
      let m : name_ok e x ≡ true = name_at e ys zs x (rw q at (names_known e told (used e b) (used_passes e sane told b v))) in
      absent x.name (and_left _ _ m) (not-true _ (and_right (legal_name e x.name) _ m))
      ∙ rw (q, held_at e ys zs x, entry_there e ys zs x o) refl

  to_parent : lookup e told b dotdot ≡ Ok (found_entry (parent_entry e (parent (used e b))))
  unfolding lookup looked entry_for
  to_parent = rw (v, dotdot_legal e) refl

module _ (e : Edition) (sane : Sane e) where
  pub lookup_stored : LookupStored e
  unfolding LookupStored
  lookup_stored told b ys zs x v q = stored e sane told b v ys zs x q

  pub lookup_absent : LookupAbsent e
  unfolding LookupAbsent
  lookup_absent told b n v h f = absent e sane told b v n h f

  pub lookup_parent : LookupParent e
  unfolding LookupParent
  lookup_parent told b v = to_parent e sane told b v
