-- The pass over the entries: names, numbers and slots.
-- Assumes nothing.
use Prim.Native.Nat.{ℕ, ◌+◌, ◌-◌, ◌/◌, ◌≤◌, ◌<◌, min}
use native.Mathlib.Nat.{add-zero}
use native.Mathlib.Omega.{arith}
use mathlib.Core.Bool.{Bool, true, false}
use mathlib.Core.Path.{◌≡◌, refl, sym, ◌∙◌, ap}
use mathlib.Core.List.{List, [], ◌∷◌}
use lib.Dec.{eqb}
use lib.ListN.{length, get_or}
use Rattle.refusal.specs.Refusal.{NAME, NUMBER, INDEX}
use Rattle.be.specs.Bytes.{be, part, field}
use Rattle.edition.specs.declared.Edition.{Edition}
use Rattle.edition.specs.Edition.{entry_size}
use Rattle.name.specs.Name.{hash_of}
use Rattle.dir_block_rules.specs.Record.{Rec, rec, says, is_gap, name, number}
use Rattle.dir_block_rules.specs.Verdict.{number_fits}
use Rattle.edition.proofs.Sizes.{entry_size_least}
use Rattle.dir_block_rules.specs.Lookup.{name_at}
use Rattle.dir_block_test.specs.Passes.{no_fault, name_fits, fault_at, fault, worst}
use Rattle.be.proofs.Parts.{part_part, get_d_part}
use Rattle.dir_block_test.proofs.WholeRecord.{says_entry, gap_is}
use Rattle.dir_block_test.proofs.TileWalk.{Head, head_gap}

-- one entry
module _ (e : Edition) (own : ℕ) (ss : ℕ → ℕ → Bool) (b : List ℕ) (o len : ℕ) (is : len ≡ get_or b (o + 8) 0) (x : Bool) (xs : x ≡ name_fits e o (part (o + 9) len b)) where
  named : name_fits e o (name_at b o) ≡ x
  named = sym (xs ∙ ap (λ (k : ℕ). name_fits e o (part (o + 9) k b)) is)

  pub fault_name : x ≡ false → NAME ≡ fault_at e own ss b o
  unfolding fault_at
  fault_name p = sym (rw (named, p))

  module _ (p : x ≡ true) (y : Bool) (ys : y ≡ number_fits e own (part (o + 9) len b) (field o 8 b)) where
    numbered : number_fits e own (name_at b o) (field o 8 b) ≡ y
    numbered = sym (ys ∙ ap (λ (k : ℕ). number_fits e own (part (o + 9) k b) (field o 8 b)) is)

    pub fault_number : y ≡ false → NUMBER ≡ fault_at e own ss b o
    unfolding fault_at
    fault_number q = sym (rw (named, p, numbered, q))

    module _ (q : y ≡ true) (h : ℕ) (hs : h ≡ hash_of e (part (o + 9) len b)) (z : Bool) (zs : z ≡ ss (o / 8) h) where
      slotted : ss (o / 8) (hash_of e (name_at b o)) ≡ z
      slotted = sym (zs ∙ ap (λ (k : ℕ). ss (o / 8) k) (hs ∙ ap (λ (k : ℕ). hash_of e (part (o + 9) k b)) is))

      pub fault_none : z ≡ true → no_fault ≡ fault_at e own ss b o
      unfolding fault_at
      fault_none r = sym (rw (named, p, numbered, q, slotted, r))

      pub fault_index : z ≡ false → INDEX ≡ fault_at e own ss b o
      unfolding fault_at
      fault_index r = sym (rw (named, p, numbered, q, slotted, r))

-- what a whole record's entry is, in the block
module _ (e : Edition) (b : List ℕ) (t o n : ℕ) (lo : o < t) (hi : t ≤ length b) (hd : Head e b t o n) where
  module _ (g : eqb (field o 2 b) 0xffff ≡ false) where
    abbrev len : ℕ
    len = get_or b (o + 8) 0

    least_entry : 11 ≤ n
    unfolding says
    least_entry =
        let d : List ℕ = part o (t - o) b in
        let q : says e d ≡ entry_size e (get_or d 8 0) = rw (gap_is e b o (t - o) (omega (arith, hd.least, hd.fits)), g) in
        omega (arith, hd.is, entry_size_least e (get_or d 8 0))

    entry_long : 11 + len ≤ n
    entry_long =
        omega (arith, hd.is, says_entry e b o (t - o) (omega (arith, hd.least, hd.fits)) g (omega (arith, least_entry, hd.fits)), entry_size_least e len)

    pub entry_fits : o + 9 + len ≤ t
    entry_fits = omega (arith, entry_long, hd.fits)

    pub name_here : name (rec o (part o n b)) ≡ name_at b o
    name_here =
        ap (λ (k : ℕ). part 9 k (part o n b)) (get_d_part b o n 8 (omega (arith, entry_long)))
        ∙ part_part b o n 9 len (omega (arith, entry_long))

    pub number_here : number (rec o (part o n b)) ≡ field o 8 b
    number_here = ap be (part_part b o n 0 8 (omega (arith, entry_long))) ∙ ap (λ (k : ℕ). field k 8 b) (add-zero o)

    pub fault_entry : (own : ℕ) (ss : ℕ → ℕ → Bool) → fault e own ss (rec o (part o n b)) ≡ fault_at e own ss b o
    unfolding fault fault_at name_fits
    fault_entry own ss =
        let i : is_gap (rec o (part o n b)) ≡ false = head_gap e b t o lo hi n hd ∙ g in
        rw (i, name_here, number_here)

  pub fault_gap : (own : ℕ) (ss : ℕ → ℕ → Bool) → eqb (field o 2 b) 0xffff ≡ true → fault e own ss (rec o (part o n b)) ≡ no_fault
  unfolding fault
  fault_gap own ss g = let i : is_gap (rec o (part o n b)) ≡ true = head_gap e b t o lo hi n hd ∙ g in rw i

-- the lowest fault so far, and what is left
module _ (e : Edition) (own : ℕ) (ss : ℕ → ℕ → Bool) (all : List Rec) where
  abbrev pub Faulting : ℕ → List Rec → Type 0
  Faulting w rs = worst e own ss all ≡ min w (worst e own ss rs)

  pub worst_start : worst e own ss all ≡ min no_fault (worst e own ss all)
  unfolding worst fault
  worst_start = go all
    where
      go : (rs : List Rec) → worst e own ss rs ≡ min no_fault (worst e own ss rs)
      go [] = refl
      go (r ∷ rs) = let h : worst e own ss rs ≡ min no_fault (worst e own ss rs) = go rs in omega arith

  pub worst_end : (w : ℕ) → w ≤ no_fault → Faulting w [] → w ≡ worst e own ss all
  unfolding worst
  worst_end w l h = omega arith

  pub worst_on : (w x f : ℕ) (r : Rec) → fault e own ss r ≡ f → x ≡ min w f → (rs : List Rec) → Faulting w (r ∷ rs) → Faulting x rs
  unfolding worst
  worst_on w x f r e m rs h = omega arith
