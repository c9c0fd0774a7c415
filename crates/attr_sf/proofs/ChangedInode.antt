-- A change of the whole inode, from the change of the fork that was lent.
-- Assumes nothing.
use Prim.Native.Nat.{ℕ, ◌-◌, ◌≤◌}
use mathlib.Core.Bool.{false}
use mathlib.Core.Path.{◌≡◌, refl, sym, ◌∙◌, ap}
use mathlib.Core.List.{List}
use lib.Dec.{eqb}
use lib.ListN.{length, take, drop}
use borrow.Rule.Slice.PartMut.{put_mid}
use borrow.Author.Tests.{ne_eqb}
use Rattle.std.specs.Prelude.{Result, Ok, Err}
use Rattle.std.specs.Result.{IsErrAnd}
use Rattle.refusal.specs.declared.Refusal.{Refusal}
use Rattle.refusal.specs.Refusal.{number, code}
use Rattle.refusal.proofs.Passed.{number_ne, code_is}
use Rattle.be.specs.Bytes.{put}
use Rattle.be.proofs.Bools.{by_cases}
use Rattle.be.proofs.Writes.{put_same}
use Rattle.be.specs.Codes.{◌and_then◌}
use Rattle.edition.specs.declared.Edition.{Edition}
use Rattle.dinode.specs.Core.{attr_start, attr_fork}
use Rattle.dinode.specs.declared.Fork.{Fork}
use Rattle.attr_sf.specs.Entry.{Entry, others}
use Rattle.attr_sf.specs.Fork.{stored}
use Rattle.attr_sf.specs.Calls.{asked_code, held_request, lookup_code, room_request, set_entries, set_code, changed, remove_bytes, set_bytes}
use Rattle.attr_sf.specs.Inner.{fork_if, fork_changed, ForkRemoval, ForkSet}
use Rattle.attr_sf.proofs.ForkWrites.{lent_put, lent_length}
use Rattle.attr_sf.proofs.InodeTests.{lent_fork, first_refused, then_is, if_passed, if_refused}

module _ (e : Edition) (b : List ℕ) where
  -- the fork written over itself
  put_own : put b (attr_start e b) (attr_fork e b) ≡ b
  put_own = ap (put b (attr_start e b)) (sym (lent_fork e b (attr_start e b) refl)) ∙ put_same b (attr_start e b) (length b - attr_start e b)

  put_changed : (n : ℕ) (xs : List Entry) → put b (attr_start e b) (fork_changed (attr_fork e b) n xs) ≡ changed e b n xs
  unfolding fork_changed changed
  put_changed n xs = by_cases (eqb n 0) (λ q. rw q) (λ q. rw q put_own)

  module _ (n : ℕ) where
    -- the tests have passed: the change is the fork's
    change_at : {F : Fork} {new : List ℕ} (k : ℕ) (xs : List Entry) → Ok F ≡ fork_if n e b → F.start ≤ length b
        → length new ≡ length (take (length b - F.start) (drop F.start b)) → new ≡ fork_changed (attr_fork e b) k xs
        → put_mid F.start (length b - F.start) b new ≡ changed e b (n and_then k) xs
    change_at {F} {new} k xs h i l w =
        let z = if_passed e b n h in lent_put F.start b new i (l ∙ lent_length F.start b) ∙ rw (z.0, z.1, w) (put_changed k xs)

    code_at : {F : Fork} {k r : ℕ} → Ok F ≡ fork_if n e b → r ≡ k → r ≡ (n and_then k)
    code_at h q = then_is (sym (if_passed e b n h).0) q

    -- they have not: nothing changes
    change_refused : (r : Result (Unit {0}) Refusal) (x : Refusal) (k : ℕ) (xs : List Entry) → IsErrAnd r (λ y. y ≡ x) → Err (number x) ≡ fork_if n e b
        → (code r ≡ (n and_then k)) × (b ≡ changed e b (n and_then k) xs)
    unfolding changed
    change_refused r x k xs i h =
        let q : number x ≡ n = if_refused e b x h in
        let t : eqb n 0 ≡ false = ne_eqb n 0 (λ z. number_ne x (q ∙ z)) in
        (code_is r x i (first_refused x k q), rw (t, t))

  -- ---- removal and set, in the code's order

  module _ (name : List ℕ) (flags : ℕ) where
    pub remove_at : {F : Fork} {r : ℕ} {new : List ℕ} → Ok F ≡ fork_if (asked_code e b name flags) e b → F.start ≤ length b
        → length new ≡ length (take (length b - F.start) (drop F.start b))
        → ForkRemoval (take (length b - F.start) (drop F.start b)) name flags r new
        → (r ≡ lookup_code e b name flags) × (put_mid F.start (length b - F.start) b new ≡ remove_bytes e b name flags)
    unfolding lookup_code remove_bytes
    remove_at {F} {r} {new} h i l w =
        let q : take (length b - F.start) (drop F.start b) ≡ attr_fork e b = lent_fork e b F.start (if_passed e b (asked_code e b name flags) h).1 in
        let p = rw q at w in
        (code_at (asked_code e b name flags) h p.0, change_at (asked_code e b name flags) (held_request (attr_fork e b) name flags) (others name flags (stored (attr_fork e b))) h i l p.1)

    pub remove_refused : (r : Result (Unit {0}) Refusal) (x : Refusal) → IsErrAnd r (λ y. y ≡ x) → Err (number x) ≡ fork_if (asked_code e b name flags) e b
        → (code r ≡ lookup_code e b name flags) × (b ≡ remove_bytes e b name flags)
    unfolding lookup_code remove_bytes
    remove_refused r x i h = change_refused (asked_code e b name flags) r x (held_request (attr_fork e b) name flags) (others name flags (stored (attr_fork e b))) i h

    module _ (value : List ℕ) where
      pub set_at : {F : Fork} {r : ℕ} {new : List ℕ} → Ok F ≡ fork_if (asked_code e b name flags) e b → F.start ≤ length b
          → length new ≡ length (take (length b - F.start) (drop F.start b))
          → ForkSet (take (length b - F.start) (drop F.start b)) name flags value r new
          → (r ≡ set_code e b name flags value) × (put_mid F.start (length b - F.start) b new ≡ set_bytes e b name flags value)
      unfolding set_code set_bytes
      set_at {F} {r} {new} h i l w =
          let q : take (length b - F.start) (drop F.start b) ≡ attr_fork e b = lent_fork e b F.start (if_passed e b (asked_code e b name flags) h).1 in
          let p = rw q at w in
          (code_at (asked_code e b name flags) h p.0, change_at (asked_code e b name flags) (room_request (attr_fork e b) name flags value) (set_entries name flags value (stored (attr_fork e b))) h i l p.1)

      pub set_refused : (r : Result (Unit {0}) Refusal) (x : Refusal) → IsErrAnd r (λ y. y ≡ x) → Err (number x) ≡ fork_if (asked_code e b name flags) e b
          → (code r ≡ set_code e b name flags value) × (b ≡ set_bytes e b name flags value)
      unfolding set_code set_bytes
      set_refused r x i h = change_refused (asked_code e b name flags) r x (room_request (attr_fork e b) name flags value) (set_entries name flags value (stored (attr_fork e b))) i h
