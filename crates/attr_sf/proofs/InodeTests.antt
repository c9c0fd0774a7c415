-- The tests of an inode with attributes, one after the other: its own, its fork's, then what was asked; and where the fork lies once they have passed.
-- Assumes nothing.
use Prim.Native.Nat.{ℕ, ◌+◌, ◌-◌, ◌≤◌, ◌<◌}
use native.Mathlib.Omega.{arith}
use mathlib.Core.Bool.{Bool, true, false, cond}
use mathlib.Core.Path.{◌≡◌, refl, sym, ◌∙◌, ap}
use mathlib.Core.List.{List}
use lib.ListN.{length, take, drop, length-drop}
use lib.Seq.{take_all}
use borrow.Author.Tests.{ne_eqb}
use Rattle.std.specs.Prelude.{Result, Ok, Err}
use Rattle.std.specs.Result.{IsErrAnd}
use Rattle.refusal.specs.declared.Refusal.{Refusal}
use Rattle.refusal.specs.Refusal.{ASKED, number, numbered}
use Rattle.refusal.proofs.Passed.{number_ne, passed_on, err_answered, ok_done, ok_given}
use Rattle.be.proofs.Codes.{both}
use Rattle.be.proofs.Bools.{and_left, and_right}
use Rattle.be.specs.Codes.{◌and_then◌}
use Rattle.edition.specs.declared.Edition.{Edition}
use Rattle.name.specs.Name.{legal_attr_name}
use Rattle.name.proofs.Legality.{attr_bounds}
use Rattle.dinode.specs.Core.{attributes_code, attributes_fork, attr_start, attr_length, attr_fork, fork_at}
use Rattle.dinode.specs.declared.Fork.{Fork}
use Rattle.dinode.proofs.Sound.{attributes_sound, sound_size, sound_fits}
use Rattle.attr_sf.specs.Entry.{legal_key, legal_flags}
use Rattle.attr_sf.specs.Fork.{fork_verdict}
use Rattle.attr_sf.specs.Calls.{verdict, asked_code}
use Rattle.attr_sf.specs.Inner.{fork_if}
use Rattle.attr_sf.proofs.FlagsLaw.{flags_low}

-- one test has passed
pub holds : (k : Bool) (n : ℕ) → 0 < n → ◌≡◌ {A = ℕ} (cond k 0 n) 0 → k ≡ true
holds true n p h = refl
holds false n p h = absurd (omega arith)

-- a refusal is that of the tests, whatever more is asked; and one more that passes
pub first_refused : {n : ℕ} (x : Refusal) (k : ℕ) → number x ≡ n → number x ≡ (n and_then k)
first_refused {n} x k h = rw (ne_eqb n 0 (λ q. number_ne x (h ∙ q))) h

pub then_is : {n k r : ℕ} → 0 ≡ n → r ≡ k → r ≡ (n and_then k)
then_is h q = rw (sym h) q

module _ (e : Edition) (b : List ℕ) where
  -- the fork that was lent
  pub lent_fork : (s : ℕ) → s ≡ attr_start e b → take (length b - s) (drop s b) ≡ attr_fork e b
  unfolding attr_fork
  lent_fork s h = take_all (length b - s) (drop s b) (simp length-drop (omega arith)) ∙ ap (λ (n : ℕ). drop n b) h

  pub start_inside : attributes_code e b ≡ 0 → attr_start e b ≤ length b
  unfolding attr_start
  start_inside h = sound_fits e b (attributes_sound e b h)

  -- the fork reaches to the inode's end
  pub fork_length : attributes_code e b ≡ 0 → attr_start e b + length (attr_fork e b) ≡ length b
  unfolding attr_fork
  fork_length h = let k : attr_start e b ≤ length b = start_inside h in simp length-drop (omega arith)

  pub inode_short : attributes_code e b ≡ 0 → length b ≤ 2048
  inode_short h = (sound_size e b (attributes_sound e b h)).1

  -- what passes has both parts
  pub inode_passed : verdict e b ≡ 0 → attributes_code e b ≡ 0
  unfolding verdict
  inode_passed h = (both (attributes_code e b) (fork_verdict (attr_fork e b)) h).0

  pub fork_passed : verdict e b ≡ 0 → fork_verdict (attr_fork e b) ≡ 0
  unfolding verdict
  fork_passed h = (both (attributes_code e b) (fork_verdict (attr_fork e b)) h).1

  module _ (name : List ℕ) (flags : ℕ) where
    pub tests_passed : asked_code e b name flags ≡ 0 → verdict e b ≡ 0
    unfolding asked_code
    tests_passed h = (both (verdict e b) (cond (legal_key name flags) 0 11) h).0

    pub asked_legal : asked_code e b name flags ≡ 0 → (legal_attr_name name ≡ true) × (legal_flags flags ≡ true)
    unfolding asked_code legal_key
    asked_legal h =
        let k : legal_key name flags ≡ true = holds (legal_key name flags) 11 (omega arith) (both (verdict e b) (cond (legal_key name flags) 0 11) h).1 in
        (and_left _ (legal_flags flags) k, and_right (legal_attr_name name) _ k)

    pub asked_small : asked_code e b name flags ≡ 0 → (length name < 256) × (flags < 256)
    asked_small h = (omega (arith, attr_bounds name (asked_legal h).0), omega (arith, flags_low flags (asked_legal h).1))

    pub still_asked : verdict e b ≡ 0 → (legal_attr_name name ≡ true) × (legal_flags flags ≡ true) → asked_code e b name flags ≡ 0
    unfolding asked_code legal_key
    still_asked h k = rw (h, k.0, k.1)

  -- ---- where the fork lies

  pub if_passed : (n : ℕ) {F : Fork} → Ok F ≡ fork_if n e b → (n ≡ 0) × (F.start ≡ attr_start e b)
  unfolding fork_if
  if_passed n h =
      (sym (ok_done (fork_at (attr_start e b) (attr_length e b)) h), ap (λ (x : Fork). x.start) (ok_given n (fork_at (attr_start e b) (attr_length e b)) h))

  pub if_refused : (x : Refusal) {n : ℕ} → Err (number x) ≡ fork_if n e b → number x ≡ n
  unfolding fork_if
  if_refused x h = err_answered (fork_at (attr_start e b) (attr_length e b)) h

  pub if_on : (n : ℕ) {k : ℕ} {F : Fork} → Ok F ≡ fork_if n e b → 0 ≡ k → Ok F ≡ fork_if k e b
  if_on n h q = rw (← q) (rw (if_passed n h).0 at h)

  pub if_not : (r : Result Fork Refusal) (x : Refusal) {n : ℕ} → IsErrAnd r (λ y. y ≡ x) → number x ≡ n → numbered r ≡ fork_if n e b
  unfolding fork_if
  if_not r x h q = passed_on r x (fork_at (attr_start e b) (attr_length e b)) h q

  -- ---- in the code's order: the fork of the inode, its tests, what was asked

  module _ {F : Fork} where
    of_inode : Ok F ≡ attributes_fork e b → Ok F ≡ fork_if (attributes_code e b) e b
    unfolding attributes_fork fork_if
    of_inode h = h

    pub inode_inside : Ok F ≡ attributes_fork e b → F.start ≤ length b
    inode_inside h = let z = if_passed (attributes_code e b) (of_inode h) in rw z.1 (start_inside z.0)

    pub tested_code : {n : ℕ} → Ok F ≡ attributes_fork e b → n ≡ fork_verdict (take (length b - F.start) (drop F.start b)) → n ≡ verdict e b
    unfolding verdict
    tested_code h q =
        let z = if_passed (attributes_code e b) (of_inode h) in
        then_is (sym z.0) (q ∙ ap fork_verdict (lent_fork F.start z.1))

    pub tested_at : Ok F ≡ attributes_fork e b → 0 ≡ fork_verdict (take (length b - F.start) (drop F.start b)) → Ok F ≡ fork_if (verdict e b) e b
    tested_at h q = if_on (attributes_code e b) (of_inode h) (tested_code h q)

    -- the fork that may be worked on
    pub located : Ok F ≡ fork_if (verdict e b) e b
        → (F.start ≤ length b) × ((fork_verdict (take (length b - F.start) (drop F.start b)) ≡ 0) × (F.start + length (take (length b - F.start) (drop F.start b)) ≤ 2048))
    located h =
        let z = if_passed (verdict e b) h in
        let i : attributes_code e b ≡ 0 = inode_passed z.0 in
        rw (lent_fork F.start z.1, z.1) (start_inside i, (fork_passed z.0, omega (arith, fork_length i, inode_short i)))

    module _ (name : List ℕ) (flags : ℕ) where
      pub asked_not : Ok F ≡ fork_if (verdict e b) e b → legal_key name flags ≡ false → Err ASKED ≡ fork_if (asked_code e b name flags) e b
      unfolding asked_code fork_if
      asked_not h k = rw ((if_passed (verdict e b) h).0, k)

      pub asked_at : Ok F ≡ fork_if (verdict e b) e b → legal_key name flags ≡ true → Ok F ≡ fork_if (asked_code e b name flags) e b
      unfolding asked_code
      asked_at h k = if_on (verdict e b) h (rw ((if_passed (verdict e b) h).0, k))

      pub asked_tested : Ok F ≡ fork_if (asked_code e b name flags) e b → Ok F ≡ fork_if (verdict e b) e b
      asked_tested h = if_on (asked_code e b name flags) h (sym (tests_passed name flags (if_passed (asked_code e b name flags) h).0))

  module _ (x : Refusal) where
    pub tested_refused : Err (number x) ≡ attributes_fork e b → number x ≡ verdict e b
    unfolding verdict attributes_fork
    tested_refused h = first_refused x (fork_verdict (attr_fork e b)) (err_answered (fork_at (attr_start e b) (attr_length e b)) h)

    pub asked_refused : (name : List ℕ) (flags : ℕ) → Err (number x) ≡ fork_if (verdict e b) e b → number x ≡ asked_code e b name flags
    unfolding asked_code
    asked_refused name flags h = first_refused x (cond (legal_key name flags) 0 11) (if_refused x h)
