-- A directory's inode: its fork, and the tests put together.
-- Assumes nothing.
use Prim.Native.Nat.{ℕ, zero, suc, ◌+◌, ◌-◌, ◌*◌, ◌≤◌}
use native.Mathlib.Omega.{arith}
use mathlib.Core.Bool.{Bool, true, false, not}
use mathlib.Core.Path.{◌≡◌, refl, sym, ◌∙◌, ap}
use mathlib.Core.List.{List}
use lib.Dec.{eqb}
use lib.ListN.{length, take, drop, length-take, length-drop}
use Rattle.std.specs.Prelude.{Ok, Err}
use borrow.Author.Tests.{eqb-false, eq-eqb, ne_eqb, not-true, not-false}
use Rattle.refusal.specs.declared.Refusal.{Refusal}
use Rattle.refusal.specs.Refusal.{number}
use Rattle.refusal.proofs.Passed.{number_ne, err_answered, ok_done, ok_given}
use Rattle.be.specs.Bytes.{byte}
use Rattle.be.proofs.Bools.{by_cases}
use Rattle.edition.specs.declared.Edition.{Edition}
use Rattle.edition.specs.Edition.{block_size, Sane}
use Rattle.dinode.specs.declared.Fork.{Fork}
use Rattle.dinode.specs.Core.{size_place, directory_code, directory_fork, data_length, data_fork}
use Rattle.dinode.proofs.Sound.{sound_size, sound_fits, directory_sound}
use Rattle.dir_sf.specs.Fork.{fork_verdict}
use Rattle.dir_sf.specs.Inode.{size_of, verdict}

pub least : (k : ℕ) → (k ≡ 0 → ⊥) → 1 ≤ k
least zero z = absurd (z refl)
least (suc k) z = omega arith

-- where the data fork lies, when it is given
fork_there : (e : Edition) (b : List ℕ) (x : Fork) → Ok x ≡ directory_fork e b → (directory_code e b ≡ 0) × (x.start ≡ e.literal) × (x.len ≡ data_length e b)
unfolding directory_fork
fork_there e b x told =
    let g = ok_given _ _ told in
    (sym (ok_done _ told), ap (λ (y : Fork). y.start) g, ap (λ (y : Fork). y.len) g)

module _ (e : Edition) (sane : Sane e) (b : List ℕ) (h : directory_code e b ≡ 0) where
  sized : (256 ≤ length b) × (length b ≤ 2048)
  sized = sound_size e b (directory_sound e b h)

  pub size_in : size_place + 8 ≤ length b
  size_in = omega (arith, sized)

  -- the length of the fork, by its two cases
  pub bounds : (8 ≤ data_length e b) × (data_length e b ≤ 1948) × (e.literal + data_length e b ≤ length b)
  unfolding data_length
  bounds =
      let f : e.literal + 8 * byte 82 b ≤ length b = sound_fits e b (directory_sound e b h) in
      by_cases (eqb (byte 82 b) 0)
      (λ q. rw q (omega (arith, sized, sane.literal_most), omega (arith, sized, sane.literal_least), omega (arith, sized, sane.literal_most)))
      (λ q.
      let p : 1 ≤ byte 82 b = least (byte 82 b) (eqb-false _ _ q) in
      rw q (omega arith, omega (arith, sized, sane.literal_least), omega arith))

  pub bounded : (n : ℕ) → n ≡ data_length e b → (n ≡ data_length e b) × (8 ≤ n) × (n ≤ 1948) × (e.literal + n ≤ length b)
  bounded n q = (q, omega (arith, bounds), omega (arith, bounds), omega (arith, bounds))

pub told_not : (e : Edition) (told : ℕ) (b : List ℕ) (t : Bool) → t ≡ block_size told → not t ≡ true → ◌≡◌ {A = ℕ} 1 (verdict e told b)
unfolding verdict
told_not e told b t h f = sym (rw (sym h ∙ not-true t f) refl)

-- the tests stop where there is no fork
pub no_fork : (e : Edition) (told : ℕ) (b : List ℕ) (x : Refusal) (t : Bool) → t ≡ block_size told → not t ≡ false → Err (number x) ≡ directory_fork e b
    → number x ≡ verdict e told b
unfolding verdict directory_fork
no_fork e told b x t h g told_err =
    let r : number x ≡ directory_code e b = err_answered _ told_err in
    r ∙ sym (rw (sym h ∙ not-false t g, ne_eqb (directory_code e b) 0 (λ q. number_ne x (r ∙ q))) refl)

-- and go on where it lies
module _ (e : Edition) (told : ℕ) (b : List ℕ) (x : Fork) (f : Ok x ≡ directory_fork e b) where
  pub fork_in : Sane e → (x.start + x.len ≤ length b) × (length b ≤ 2048) × (8 ≤ x.len)
  fork_in sane =
      let g = fork_there e b x f in
      (omega (arith, bounds e sane b g.0, g.1, g.2), (sized e sane b g.0).1, omega (arith, bounds e sane b g.0, g.2))

  pub size_there : Sane e → size_place + 8 ≤ length b
  size_there sane = size_in e sane b (fork_there e b x f).0

  pub fork_lent : Sane e → 2 ≤ length (take (x.start + x.len - x.start) (drop x.start b))
  fork_lent sane = simp (length-take, length-drop) (omega (arith, fork_in sane))

  pub tests_all : (r z : ℕ) (t : Bool) → t ≡ block_size told → not t ≡ false → z ≡ size_of b
      → r ≡ fork_verdict e told (take (x.start + x.len - x.start) (drop x.start b)) z → r ≡ verdict e told b
  unfolding verdict data_fork
  tests_all r z t h g q y =
      let w = fork_there e b x f in
      let l : x.start + x.len - x.start ≡ data_length e b = omega (arith, w.2) in
      y ∙ rw (l, w.1, q) (sym (rw (sym h ∙ not-false t g, eq-eqb _ _ w.0) refl))

-- of the edition that was made
pub test_made : (e f : Edition) (told : ℕ) (b : List ℕ) (r : ℕ) → r ≡ verdict e told b → e ≡ f → r ≡ verdict f told b
test_made e f told b r h q = h ∙ ap (λ (x : Edition). verdict x told b) q
