-- The parts of a tile_count block: what the tests that come later rely on.
-- Assumes nothing.
use Prim.Native.Nat.{ℕ, zero, suc, ◌+◌, ◌-◌, ◌%◌, ◌^◌, ◌≤◌, ◌<◌}
use native.Mathlib.Omega.{arith}
use mathlib.Core.Bool.{Bool, true, false, not, ◌&&◌}
use mathlib.Core.Path.{◌≡◌, refl, sym, ◌∙◌, ap}
use mathlib.Core.List.{List, [], ◌∷◌}
use lib.Dec.{eqb, leb, ltb}
use lib.ListN.{length, get_or}
use borrow.Author.Tests.{le-leb, eq-eqb, ltb-true, ltb-false, le-ltb}
use Rattle.be.specs.Lists.{every, some_of, keep, same}
use Rattle.be.specs.Bytes.{part, field}
use Rattle.edition.specs.declared.Edition.{Edition}
use Rattle.dir_block_rules.specs.Record.{Rec, rec, says, whole, size, is_gap, is_entry, entries, name}
use Rattle.dir_block_rules.specs.Verdict.{entry_stands}
use Rattle.be.proofs.Bools.{by_cases, and_right, and_both, every_head, every_tail, every_cons}
use Rattle.dir_block_rules.proofs.CutJoin.{Laid, laid_cut}
use Rattle.name.proofs.Same.{same_refl}
use Rattle.dir_block_rules.proofs.RecordPlaces.{off_above, none_at}
use Rattle.dir_block_rules.proofs.GoodParts.{small}
use Rattle.dir_block_rules.specs.Lookup.{name_at}
use Rattle.dir_block_test.specs.Passes.{rest}
use Rattle.dir_block_test.proofs.TileWalk.{Head, rest_head, rest_end, head_whole, head_gap}
use Rattle.dir_block_test.proofs.EntryWalk.{entry_fits, name_here}
use Rattle.dir_block_test.proofs.BestNamed.{Sep, at_most}

pub sep_laid : (e : Edition) (p : Rec → Bool) (o : ℕ) (rs : List Rec) → Laid e o rs → Sep (keep p rs)
sep_laid e p o [] l = tt
sep_laid e p o (r ∷ rs) l =
    let more : Sep (keep p rs) = sep_laid e p (o + size r) rs l.2 in
    let s : 8 ≤ size r = l.1.least in
    by_cases (p r)
    (λ q. rw q (omega arith, off_above e p r.off (o + size r) rs (omega (arith, l.0)) l.2, more))
    (λ q. rw q more)

pub small_most : (gs : List Rec) → every small gs ≡ true → at_most 65535 gs ≡ true
small_most [] h = refl
small_most (g ∷ gs) h =
    let s : size g < 256 ^ 2 = ltb-true (size g) (256 ^ 2) (and_right (ltb g.off (256 ^ 2)) (ltb (size g) (256 ^ 2)) (every_head small g gs h)) in
    every_cons (λ g. leb (size g) 65535) g gs (le-leb (size g) 65535 (omega arith)) (small_most gs (every_tail small g gs h))

module _ (e : Edition) (b : List ℕ) (t : ℕ) (hi : t ≤ length b) (te : t % 8 ≡ 0) where
  -- an entry's name is where the block has it
  abbrev pub placed : Rec → Bool
  placed r = leb (r.off + 9 + get_or b (r.off + 8) 0) t && same (name_at b r.off) (name r)

  pub head_of : (k o : ℕ) → o < t → o % 8 ≡ 0 → t - o ≤ k → every (whole e) (rest e b t k o) ≡ true → (n : ℕ) × Head e b t o n
  head_of zero o lo oe en w = absurd (omega arith)
  head_of (suc k) o lo oe en w = (says e (part o (t - o) b), head_whole e b t o lo hi k w)

  pub rest_placed : (k o : ℕ) → o ≤ t → o % 8 ≡ 0 → t - o ≤ k → every (whole e) (rest e b t k o) ≡ true → every placed (entries (rest e b t k o)) ≡ true
  rest_placed zero o l oe en w = rw (rest_end e b t zero o (omega arith))
  rest_placed (suc k) o l oe en w =
      by_cases (ltb o t)
      (λ q. let lo : o < t = ltb-true o t q in
      let x : (n : ℕ) × Head e b t o n = head_of (suc k) o lo oe en w in
      let n : ℕ = x.0 in
      let hd : Head e b t o x.0 = x.1 in
      let r : Rec = rec o (part o n b) in
      let nx : rest e b t (suc k) o ≡ rec o (part o x.0 b) ∷ rest e b t k (o + x.0) = rest_head e b t o lo hi k x.0 x.1 in
      let w' : every (whole e) (rest e b t k (o + x.0)) ≡ true = and_right (whole e (rec o (part o x.0 b))) _ (rw nx at w) in
      let ih : every placed (entries (rest e b t k (o + x.0))) ≡ true =
      rest_placed k (o + x.0) x.1.fits (omega (arith, x.1.eights)) (omega (arith, x.1.least)) w' in
      rw nx (by_cases (is_gap (rec o (part o x.0 b)))
      (λ g. rw g ih)
      (λ g. let f : eqb (field o 2 b) 0xffff ≡ false = sym (head_gap e b t o lo hi x.0 x.1) ∙ g in
      rw g (every_cons placed (rec o (part o x.0 b)) (entries (rest e b t k (o + x.0)))
      (and_both (leb (o + 9 + get_or b (o + 8) 0) t) _ (le-leb (o + 9 + get_or b (o + 8) 0) t (entry_fits e b t o x.0 lo hi x.1 f))
      (ap (same (name_at b o)) (name_here e b t o x.0 lo hi x.1 f) ∙ same_refl (name_at b o))) ih))))
      (λ q. rw (rest_end e b t (suc k) o (ltb-false o t q)))

  pub laid_rest : (k o : ℕ) → every (whole e) (rest e b t k o) ≡ true → Laid e o (rest e b t k o)
  unfolding rest
  laid_rest k o w = laid_cut e k o (part o (t - o) b) w

  -- an entry at the head
  pub at_head : (k o : ℕ) → o ≤ t → o % 8 ≡ 0 → t - o ≤ k → every (whole e) (rest e b t k o) ≡ true
      → entry_stands o (rest e b t k o) ≡ (ltb o t && not (eqb (field o 2 b) 0xffff))
  at_head zero o l oe en w = rw (rest_end e b t zero o (omega arith), le-ltb o t (omega arith))
  at_head (suc k) o l oe en w =
      by_cases (ltb o t)
      (λ q. let lo : o < t = ltb-true o t q in
      let x : (n : ℕ) × Head e b t o n = head_of (suc k) o lo oe en w in
      let nx : rest e b t (suc k) o ≡ rec o (part o x.0 b) ∷ rest e b t k (o + x.0) = rest_head e b t o lo hi k x.0 x.1 in
      let w' : every (whole e) (rest e b t k (o + x.0)) ≡ true = and_right (whole e (rec o (part o x.0 b))) _ (rw nx at w) in
      let gp : is_gap (rec o (part o x.0 b)) ≡ eqb (field o 2 b) 0xffff = head_gap e b t o lo hi x.0 x.1 in
      let none : some_of (λ r. eqb r.off o) (entries (rest e b t k (o + x.0))) ≡ false =
      none_at o (entries (rest e b t k (o + x.0))) (off_above e is_entry o (o + x.0) (rest e b t k (o + x.0)) (omega (arith, x.1.least)) (laid_rest k (o + x.0) w')) in
      rw nx (by_cases (is_gap (rec o (part o x.0 b)))
      (λ g. let f : eqb (field o 2 b) 0xffff ≡ true = sym gp ∙ g in rw (g, q, f) none)
      (λ g. let f : eqb (field o 2 b) 0xffff ≡ false = sym gp ∙ g in rw (g, q, f, eq-eqb o o refl))))
      (λ q. rw (rest_end e b t (suc k) o (ltb-false o t q), q))
