-- A record at an offset: what it says, and when it is whole.
-- Assumes nothing.
use Prim.Native.Nat.{ℕ, ◌+◌, ◌-◌, ◌%◌, ◌≤◌, ◌<◌}
use native.Mathlib.Omega.{arith}
use mathlib.Core.Bool.{Bool, true, false}
use mathlib.Core.Path.{◌≡◌, sym, ◌∙◌, ap}
use mathlib.Core.List.{List}
use lib.Dec.{eqb, leb}
use lib.ListN.{length, take, drop, get_or, length-take, get_or-eq_default}
use lib.Seq.{length-take-le, take_all, take-take}
use borrow.Author.Tests.{eq-eqb, ne_eqb, le-leb, lt-leb}
use Rattle.std.specs.Prelude.{Some, None}
use Rattle.be.specs.Bytes.{byte, be, part, field}
use Rattle.edition.specs.declared.Edition.{Edition}
use Rattle.edition.specs.Edition.{entry_size}
use Rattle.dir_block_rules.specs.Record.{rec, says, record_ok, whole, size, tag, gap_start}
use Rattle.be.proofs.Bools.{by_cases}
use Rattle.dir_block_rules.proofs.WholeRecords.{says_alone}
use Rattle.dir_block_test.specs.Passes.{whole_len}
use Rattle.be.proofs.Parts.{field_part, get_d_part, part_length, drop_take}

-- what a record says, read in the block
module _ (e : Edition) (b : List ℕ) (o m : ℕ) (least : 8 ≤ m) where
  pub gap_is : gap_start (part o m b) ≡ eqb (field o 2 b) 0xffff
  gap_is = ap (λ (l : List ℕ). eqb (be l) 0xffff) (take-take 2 m (drop o b) (omega arith))

  pub says_gap : eqb (field o 2 b) 0xffff ≡ true → says e (part o m b) ≡ field (o + 2) 2 b
  unfolding says
  says_gap g = rw (gap_is, g) (field_part b o m 2 2 (omega arith))

  pub says_entry : eqb (field o 2 b) 0xffff ≡ false → 8 < m → says e (part o m b) ≡ entry_size e (get_or b (o + 8) 0)
  unfolding says
  says_entry g h = rw (gap_is, g) (ap (entry_size e) (get_d_part b o m 8 h))

  pub says_short : eqb (field o 2 b) 0xffff ≡ false → length (part o m b) ≤ 8 → says e (part o m b) ≡ entry_size e 0
  unfolding says
  says_short g h = rw (gap_is, g) (ap (entry_size e) (get_or-eq_default (part o m b) 0 h))

-- when the record at the head of d is whole
module _ (e : Edition) (d : List ℕ) (o : ℕ) where
  pub whole_short : says e d < 8 → whole_len e d o ≡ None
  unfolding whole_len whole record_ok
  whole_short h =
      let c : List ℕ = take (says e d) d in
      let s : leb 8 (length c) ≡ false = lt-leb 8 (length c) (simp length-take (omega arith)) in
      by_cases (eqb (length c) (says e c)) (λ q. rw (q, s)) (λ q. rw q)

  pub whole_long : length d < says e d → whole_len e d o ≡ None
  unfolding whole_len whole record_ok
  whole_long h =
      let all : take (says e d) d ≡ d = take_all (says e d) d (omega arith) in
      let s : eqb (length d) (says e d) ≡ false = ne_eqb (length d) (says e d) (λ (z : length d ≡ says e d). omega arith) in
      rw (all, s)

  module _ (l : 8 ≤ says e d) (h : says e d ≤ length d) where
    spans : length (take (says e d) d) ≡ says e d
    spans = length-take-le (says e d) d h

    alone : eqb (length (take (says e d) d)) (says e (take (says e d) d)) ≡ true
    alone = eq-eqb (length (take (says e d) d)) (says e (take (says e d) d)) (spans ∙ sym (says_alone e d l h))

    tag_is : tag (rec o (take (says e d) d)) ≡ field (says e d - 2) 2 d
    tag_is =
        let n : ℕ = says e d in
        let seam : (n - 2) + 2 ≡ n = omega arith in
        ap (λ (k : ℕ). be (drop (k - 2) (take n d))) spans
        ∙ ap (λ (k : ℕ). be (drop (n - 2) (take k d))) (sym seam)
        ∙ ap be (drop_take (n - 2) 2 d)

    pub whole_uneven : (says e d % 8 ≡ 0 → ⊥) → whole_len e d o ≡ None
    unfolding whole_len whole record_ok
    whole_uneven u =
        rw (alone, spans, le-leb 8 (says e d) l, ne_eqb (says e d % 8) 0 u)

    pub whole_untagged : (field (says e d - 2) 2 d ≡ o → ⊥) → whole_len e d o ≡ None
    unfolding whole_len whole record_ok
    whole_untagged u =
        let f : eqb (tag (rec o (take (says e d) d))) o ≡ false = ne_eqb (tag (rec o (take (says e d) d))) o (λ (z : tag (rec o (take (says e d) d)) ≡ o). u (sym tag_is ∙ z)) in
        by_cases (eqb (size (rec o (take (says e d) d)) % 8) 0)
        (λ q. rw (alone, ap (leb 8) spans, le-leb 8 (says e d) l, q, f))
        (λ q. rw (alone, ap (leb 8) spans, le-leb 8 (says e d) l, q))

    pub whole_good : says e d % 8 ≡ 0 → field (says e d - 2) 2 d ≡ o → whole_len e d o ≡ Some (says e d)
    unfolding whole_len whole record_ok
    whole_good u t =
        let f : eqb (tag (rec o (take (says e d) d))) o ≡ true = eq-eqb (tag (rec o (take (says e d) d))) o (tag_is ∙ t) in
        rw (alone, f, spans, le-leb 8 (says e d) l, eq-eqb (says e d % 8) 0 u)

-- what the functions show
module _ (e : Edition) (b : List ℕ) (o t : ℕ) (pre : (o + 8 ≤ t) × (t ≤ length b)) where
  pub rec_gap : (g : Bool) (x : ℕ) → g ≡ eqb (field o 2 b) 0xffff → g ≡ true → (x ≡ field (o + 2) 2 b) × (x < 65536)
      → (x ≡ says e (part o (t - o) b)) × (x < 65536)
  rec_gap g x p q h = (h.0 ∙ sym (says_gap e b o (t - o) (omega arith) (sym p ∙ q)), h.1)

  pub rec_short : (g : Bool) (x : ℕ) → g ≡ eqb (field o 2 b) 0xffff → g ≡ false → t - o < 9 → x ≡ entry_size e 0 → x < 280
      → (x ≡ says e (part o (t - o) b)) × (x < 65536)
  rec_short g x p q h s l =
      (s ∙ sym (says_short e b o (t - o) (omega arith) (sym p ∙ q) (omega (arith, part_length o (t - o) b (omega arith)))), omega arith)

  pub rec_entry : (g : Bool) (y x : ℕ) → g ≡ eqb (field o 2 b) 0xffff → g ≡ false → 9 ≤ t - o → y ≡ byte (o + 8) b → x ≡ entry_size e y → x < 280
      → (x ≡ says e (part o (t - o) b)) × (x < 65536)
  rec_entry g y x p q h i k l =
      (k ∙ ap (entry_size e) i ∙ sym (says_entry e b o (t - o) (omega arith) (sym p ∙ q) (omega arith)), omega arith)

  module _ (n : ℕ) (is : n ≡ says e (part o (t - o) b)) where
    abbrev d : List ℕ
    d = part o (t - o) b

    long : length d ≡ t - o
    long = part_length o (t - o) b (omega arith)

    pub len_short : n < 8 → None ≡ whole_len e d o
    len_short h = sym (whole_short e d o (omega arith))

    pub len_long : t - o < n → None ≡ whole_len e d o
    len_long h = sym (whole_long e d o (omega (arith, long)))

    module _ (l : 8 ≤ n) (h : n ≤ t - o) where
      least : 8 ≤ says e d
      least = omega arith

      most : says e d ≤ length d
      most = omega (arith, long)

      pub len_uneven : (n % 8 ≡ 0 → ⊥) → None ≡ whole_len e d o
      len_uneven u = sym (whole_uneven e d o least most (λ z. u (ap (λ (k : ℕ). k % 8) is ∙ z)))

      tag_at : field (says e d - 2) 2 d ≡ field (o + n - 2) 2 b
      tag_at =
          let w : o + (says e d - 2) ≡ o + n - 2 = omega arith in
          field_part b o (t - o) (says e d - 2) 2 (omega arith) ∙ ap (λ (k : ℕ). field k 2 b) w

      pub len_untagged : (field (o + n - 2) 2 b ≡ o → ⊥) → None ≡ whole_len e d o
      len_untagged u = sym (whole_untagged e d o least most (λ z. u (sym tag_at ∙ z)))

      pub len_good : n % 8 ≡ 0 → field (o + n - 2) 2 b ≡ o → Some n ≡ whole_len e d o
      len_good u z = ap Some is ∙ sym (whole_good e d o least most (ap (λ (k : ℕ). k % 8) (sym is) ∙ u) (tag_at ∙ z))
