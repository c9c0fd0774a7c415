-- Two bytes hold every offset and every length in a block's data.
-- Assumes nothing.
use Prim.Native.Nat.{ℕ, ◌+◌, ◌≤◌}
use native.Mathlib.Omega.{arith}
use mathlib.Core.Bool.{Bool, true, ◌&&◌, false≢true}
use mathlib.Core.Path.{◌≡◌, refl, sym, ◌∙◌}
use mathlib.Core.List.{List, [], ◌∷◌}
use lib.Dec.{eqb, leb}
use lib.ListN.{length}
use borrow.Author.Tests.{eqb-true, le-leb}
use Rattle.be.specs.Lists.{every, some_of, total}
use Rattle.be.specs.Bytes.{bytes}
use Rattle.be.proofs.Bools.{and_left, and_right, or_false, every_cons}
use Rattle.edition.specs.declared.Edition.{Edition}
use Rattle.edition.specs.Edition.{v4, largest_block, entry_size, Sane}
use Rattle.edition.proofs.Sizes.{v4_sane, block_size_bounds}
use Rattle.dir_block_rules.specs.Record.{Rec, size, entries, gaps}
use Rattle.dir_block_rules.specs.Block.{records, data_end}
use Rattle.dir_block_rules.specs.Verdict.{Accepted, size_ok, names_ok, name_ok, entry_stands}
use Rattle.dir_block_rules.specs.Claims.{lone_gap, TwoBytes}
use Rattle.dir_block_rules.proofs.AcceptedParts.{good_of}
use Rattle.dir_block_rules.proofs.Capacity.{live_bound}

-- elements at two places are two elements
two_places : (o p : ℕ) (es : List Rec) → some_of (λ r. eqb r.off o) es ≡ true → some_of (λ r. eqb r.off p) es ≡ true → (o ≡ p → ⊥) → 2 ≤ length es
two_places o p [] h k d = absurd (false≢true h)
two_places o p (r ∷ []) h k d =
    let x : r.off ≡ o = eqb-true r.off o (sym (or_false (eqb r.off o)) ∙ h) in
    let y : r.off ≡ p = eqb-true r.off p (sym (or_false (eqb r.off p)) ∙ k) in
    absurd (d (sym x ∙ y))
two_places o p (r ∷ s ∷ es) h k d = omega arith

-- no part is more than the sum
within_total : (n : ℕ) (gs : List Rec) → total size gs ≤ n → every (λ g. leb (size g) n) gs ≡ true
within_total n [] h = refl
within_total n (g ∷ gs) h =
    every_cons (λ g. leb (size g) n) g gs (le-leb (size g) n (omega arith)) (within_total n gs (omega arith))

module _ (e : Edition) (sane : Sane e) where
  -- "." and ".."
  two_entries : (b : List ℕ) → bytes b ≡ true → Accepted e b → 2 ≤ length (entries (records e b))
  unfolding names_ok
  two_entries b h a =
      let nm : Bool = every (name_ok e) (entries (records e b)) in
      let h0 : Bool = entry_stands e.header (records e b) in
      let h1 : Bool = entry_stands (e.header + 16) (records e b) in
      let ns : (nm && h0 && h1) ≡ true = (good_of e sane b h a).names in
      two_places e.header (e.header + 16) (entries (records e b)) (and_right nm h0 (and_left (nm && h0) h1 ns)) (and_right (nm && h0) h1 ns) (λ q. omega arith)

  longest_gap : (b : List ℕ) → bytes b ≡ true → Accepted e b → every (λ g. leb (size g) (lone_gap e (length b))) (gaps (records e b)) ≡ true
  unfolding entry_size
  longest_gap b h a =
      within_total (lone_gap e (length b)) (gaps (records e b))
      (omega (arith, live_bound e sane b h a, two_entries b h a, sane.ftype_most))

  pub two_bytes : TwoBytes e
  unfolding size_ok data_end entry_size
  two_bytes = record {
    hold = λ b o n s u. let k = block_size_bounds (length b) s in (omega (arith, k), omega (arith, k));
    longest = longest_gap;
    no_more = omega (arith, sane.header_most, sane.ftype_most);
  }

-- V4
pub v4_two_bytes : TwoBytes v4
v4_two_bytes = two_bytes v4 v4_sane

-- C1, and the longest gap of all
pub lone_440 : lone_gap v4 512 ≡ 440
unfolding entry_size
lone_440 = refl

pub lone_65464 : lone_gap v4 largest_block ≡ 65464
unfolding entry_size
lone_65464 = refl
