-- TILE's pass: one record at a time.
-- Assumes nothing.
use Prim.Native.Nat.{ℕ, zero, suc, ◌+◌, ◌-◌, ◌%◌, ◌≤◌, ◌<◌}
use native.Mathlib.Omega.{arith}
use mathlib.Core.Bool.{Bool, true, false, true≢false}
use Rattle.std.specs.Prelude.{Option, Some, None, is_some}
use mathlib.Core.Path.{◌≡◌, refl, sym, ◌∙◌, ap, ap₂}
use mathlib.Core.List.{List, [], ◌∷◌}
use lib.Dec.{eqb}
use lib.ListN.{length, take, drop, length-take}
use lib.Seq.{take-take}
use Rattle.be.specs.Bytes.{be, part, field}
use Rattle.edition.specs.declared.Edition.{Edition}
use Rattle.dir_block_rules.specs.Record.{rec, cut, says, whole, is_gap, entries}
use Rattle.be.specs.Lists.{every}
use Rattle.be.proofs.Bools.{by_cases, and_left}
use Rattle.dir_block_rules.proofs.CutJoin.{Whole, whole→, cut_step, head_size}
use Rattle.dir_block_test.specs.Passes.{rest, tile_from, whole_len}
use Rattle.be.proofs.Parts.{part_length, drop_part, take_part}

-- a record at the head that is whole, and its length
pub record Head (e : Edition) (b : List ℕ) (t o n : ℕ) : Type 0 where
  pub is : says e (part o (t - o) b) ≡ n
  pub whole_is : whole e (rec o (part o n b)) ≡ true
  pub least : 8 ≤ n
  pub eights : n % 8 ≡ 0
  pub fits : o + n ≤ t

-- a length, and none
pub some_none : {n : ℕ} → Some n ≡ None → ⊥
some_none h = true≢false (ap is_some h)

length_or : ℕ → Option ℕ → ℕ
length_or d (Some n) = n
length_or d None = d

pub some_same : {m n : ℕ} → Some m ≡ Some n → m ≡ n
unfolding length_or
some_same {m} {n} h = ap (length_or 0) h

module _ (e : Edition) (b : List ℕ) (t o : ℕ) (lo : o < t) (hi : t ≤ length b) where
  abbrev here : List ℕ
  here = part o (t - o) b

  long : length here ≡ t - o
  long = part_length o (t - o) b (omega arith)

  step : (k : ℕ) → rest e b t (suc k) o ≡ rec o (take (says e here) here) ∷ cut e k (o + says e here) (drop (says e here) here)
  unfolding rest
  step k = cut_step e k o here (omega (arith, long))

  -- a length that is not 0 is that of a whole record
  pub head : (n : ℕ) → Some n ≡ whole_len e here o → Head e b t o n
  unfolding whole_len
  head n h =
      by_cases (whole e (rec o (take (says e here) here)))
      (λ q. let w : Whole e (rec o (take (says e here) here)) = whole→ e (rec o (take (says e here) here)) q in
      let s : n ≡ says e here = some_same (h ∙ rw q) in
      let l : length (take (says e here) here) ≡ says e here = head_size e o here w in
      let m : says e here ≤ t - o = omega (arith, long, simp length-take at l) in
      record {
        is = sym s;
        whole_is = ap (λ (c : List ℕ). whole e (rec o c)) (ap (λ (k : ℕ). part o k b) s ∙ sym (take_part b o (t - o) (says e here) m)) ∙ q;
        least = omega (arith, w.least);
        eights = ap (λ (k : ℕ). k % 8) (s ∙ sym l) ∙ w.eights;
        fits = omega arith;
      })
      (λ q. absurd (some_none (h ∙ rw q)))

  pub rest_head : (k n : ℕ) → Head e b t o n → rest e b t (suc k) o ≡ rec o (part o n b) ∷ rest e b t k (o + n)
  unfolding rest
  rest_head k n h =
      let m : n ≤ t - o = omega (arith, h.fits) in
      let left : t - o - n ≡ t - (o + n) = omega arith in
      step k ∙ rw h.is (ap₂ (λ (c d : List ℕ). rec o c ∷ cut e k (o + n) d) (take_part b o (t - o) n m) (drop_part b o (t - o) n m ∙ ap (λ (i : ℕ). part (o + n) i b) left))

  -- the first of whole records
  pub head_whole : (k : ℕ) → every (whole e) (rest e b t (suc k) o) ≡ true → Head e b t o (says e here)
  unfolding whole_len
  head_whole k h =
      let q : whole e (rec o (take (says e here) here)) ≡ true = and_left _ _ (rw (step k) at h) in
      let w : Whole e (rec o (take (says e here) here)) = whole→ e (rec o (take (says e here) here)) q in
      let l : length (take (says e here) here) ≡ says e here = head_size e o here w in
      let m : 8 ≤ length (take (says e here) here) = w.least in
      head (says e here) (sym (rw q))

  -- the record is a gap
  pub head_gap : (n : ℕ) → Head e b t o n → is_gap (rec o (part o n b)) ≡ eqb (field o 2 b) 0xffff
  head_gap n h = ap (λ (l : List ℕ). eqb (be l) 0xffff) (take-take 2 n (drop o b) (omega (arith, h.least)))

  module _ (g : Bool) (k : ℕ) where
    pub tile_broken : None ≡ whole_len e here o → tile_from e g (rest e b t (suc k) o) ≡ false
    unfolding tile_from whole_len
    tile_broken h =
        by_cases (whole e (rec o (take (says e here) here)))
        (λ q. absurd (some_none {n = says e here} (sym (h ∙ rw q))))
        (λ q. rw (step k, q))

    module _ (m : ℕ) (h : Head e b t o m) where
      module _ (p : eqb (field o 2 b) 0xffff ≡ false) where
        entry_here : is_gap (rec o (part o m b)) ≡ false
        entry_here = head_gap m h ∙ p

        pub tile_entry : tile_from e g (rest e b t (suc k) o) ≡ tile_from e false (rest e b t k (o + m))
        unfolding tile_from
        tile_entry = by_cases g (λ q. rw (rest_head k m h, h.whole_is, entry_here, q)) (λ q. rw (rest_head k m h, h.whole_is, entry_here, q))

        pub count_entry : length (entries (rest e b t (suc k) o)) ≡ suc (length (entries (rest e b t k (o + m))))
        count_entry = rw (rest_head k m h, entry_here)

      module _ (p : eqb (field o 2 b) 0xffff ≡ true) where
        gap_here : is_gap (rec o (part o m b)) ≡ true
        gap_here = head_gap m h ∙ p

        pub tile_gap : g ≡ false → tile_from e g (rest e b t (suc k) o) ≡ tile_from e true (rest e b t k (o + m))
        unfolding tile_from
        tile_gap q = rw (rest_head k m h, h.whole_is, gap_here, q)

        pub count_gap : length (entries (rest e b t (suc k) o)) ≡ length (entries (rest e b t k (o + m)))
        count_gap = rw (rest_head k m h, gap_here)

        pub tile_touch : g ≡ true → tile_from e g (rest e b t (suc k) o) ≡ false
        unfolding tile_from
        tile_touch q = rw (rest_head k m h, h.whole_is, gap_here, q)

-- at the end nothing is left
pub rest_end : (e : Edition) (b : List ℕ) (t k o : ℕ) → t ≤ o → rest e b t k o ≡ []
unfolding rest cut
rest_end e b t zero o h = refl
rest_end e b t (suc k) o h =
    let z : t - o ≡ 0 = omega arith in rw z
