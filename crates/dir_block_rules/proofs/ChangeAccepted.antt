-- A change that leaves good parts leaves an accepted block.
-- Assumes nothing.
use Prim.Native.Nat.{ℕ, suc, ◌+◌, ◌*◌, ◌%◌, ◌^◌, ◌≤◌, ◌<◌}
use native.Mathlib.Omega.{arith}
use mathlib.Core.Bool.{Bool, true}
use mathlib.Core.Path.{◌≡◌, refl, sym, ◌∙◌, ap}
use mathlib.Core.List.{List, [], ◌∷◌, ◌++◌}
use lib.Dec.{eqb, leb}
use lib.ListN.{length, take, length-append}
use Rattle.be.specs.Lists.{keep, tally, without_first}
use Rattle.be.specs.Bytes.{bytes, part, field, written, Write}
use Rattle.edition.specs.declared.Edition.{Edition}
use Rattle.edition.specs.Edition.{block_size, Sane}
use Rattle.dir_block_rules.specs.Record.{Rec, size, gaps}
use Rattle.dir_block_rules.specs.Block.{Slot, records, slots, stale_of, is_stale, is_live}
use Rattle.dir_block_rules.specs.Verdict.{Accepted, size_ok, best_pairs}
use Rattle.dir_block_rules.specs.Change.{longest, in_front, changed, sealed, with_best, insert_slot, best_table, pair_bytes}
use Rattle.be.proofs.Bools.{by_cases}
use Rattle.be.proofs.Writes.{length_written}
use Rattle.be.proofs.Numbers.{length_to_be}
use Rattle.dir_block_rules.proofs.CutJoin.{join, Laid, join_append}
use Rattle.dir_block_rules.proofs.BlockParts.{build, Fit, length_slot_bytes, build_records, build_slots, build_stale, length_build}
use Rattle.be.proofs.Splits.{Split, split_cons}
use Rattle.dir_block_rules.proofs.GoodParts.{Good, new_head, new_fit, new_build, new_size, new_magic, new_table, good_accepted, good_pairs, block_bound}
use Rattle.dir_block_rules.proofs.AcceptedParts.{tests, fit_of, build_of, magic_of, index_bytes}

-- what is known of the block that a change leaves
pub record After (e : Edition) (b c : List ℕ) (rs : List Rec) (ss : List Slot) (st : ℕ) : Type 0 where
  pub accepted : Accepted e c
  pub records_are : records e c ≡ rs
  pub slots_are : slots c ≡ ss
  pub stale_is : stale_of c ≡ st
  pub long : length c ≡ length b
  pub best_is : best_pairs e c ≡ best_table (gaps (records e c))

module _ (e : Edition) (sane : Sane e) (b : List ℕ) (h : bytes b ≡ true) (a : Accepted e b) where
  hd : List ℕ
  hd = take e.header b

  size_of_block : block_size (length b) ≡ true
  unfolding size_ok
  size_of_block = (tests e sane b h a).size

  pub short : length b ≤ 256 ^ 2
  short = block_bound (length b) size_of_block

  pub finish : (ws : List Write) (rs : List Rec) (ss : List Slot) (st : ℕ) → written b ws ≡ build (take e.header b) rs ss st
      → Fit e (take e.header b) rs ss st → Good e rs ss st → After e b (changed e b ws) rs ss st
  unfolding changed size_ok
  finish ws rs ss st w f g =
      let hd : List ℕ = take e.header b in
      let long : length (build hd rs ss st) ≡ length b = ap length (sym w) ∙ length_written b ws in
      let sz : block_size (length (build hd rs ss st)) ≡ true = rw long size_of_block in
      let mg : eqb (field 0 4 hd) e.magic ≡ true = magic_of e sane b h a in
      let nh : List ℕ = new_head e sane hd rs ss st f sz mg in
      let nf : Fit e nh rs ss st = new_fit e sane hd rs ss st f sz mg in
      let ns : size_ok (build nh rs ss st) ≡ true = new_size e sane hd rs ss st f sz mg in
      let nm : eqb (field 0 4 nh) e.magic ≡ true = new_magic e sane hd rs ss st f sz mg in
      let nt : part e.best 12 nh ≡ pair_bytes (best_table (gaps rs)) = new_table e sane hd rs ss st f sz mg in
      let q : sealed e (with_best e (written b ws)) ≡ build nh rs ss st = ap (λ (l : List ℕ). sealed e (with_best e l)) w ∙ new_build e sane hd rs ss st f sz mg in
      record {
        accepted = rw q (good_accepted e sane nh rs ss st nf g ns nm nt);
        records_are = rw q (build_records e nh rs ss st nf);
        slots_are = rw q (build_slots e nh rs ss st nf);
        stale_is = rw q (build_stale e nh rs ss st nf);
        best_is = rw q (good_pairs e sane nh rs ss st nf g ns nm nt ∙ ap (λ (l : List Rec). best_table (gaps l)) (sym (build_records e nh rs ss st nf)));
        long = ap length q ∙ length_build e nh rs ss st nf ∙ sym (length_build e hd rs ss st f) ∙ long;
      }

-- whole records take a multiple of 8
pub laid_mod : (e : Edition) (o : ℕ) (rs : List Rec) → Laid e o rs → length (join rs) % 8 ≡ 0
laid_mod e o [] l = refl
laid_mod e o (r ∷ rs) l = rw length-append (omega (arith, l.1.eights, laid_mod e (o + size r) rs l.2))

-- the longest of some records is among them
pub longest_in : (gs : List Rec) → 0 < size (longest gs) → (t : Split gs) × (t.here ≡ longest gs)
unfolding longest
longest_in [] h = absurd (omega arith)
longest_in (g ∷ gs) h =
    by_cases (leb (size (longest gs)) (size g))
    (λ q. (record { before = []; here = g; behind = gs; is = refl }, rw q))
    (λ q. let r : (t : Split gs) × (t.here ≡ longest gs) = longest_in gs (rw q at h) in
    (split_cons g gs r.0, r.1 ∙ rw q))

pub length_insert : (s : Slot) (ss : List Slot) → length (insert_slot s ss) ≡ suc (length ss)
unfolding insert_slot
length_insert s [] = refl
length_insert s (t ∷ ts) = by_cases (in_front s t) (λ q. rw q (ap suc (length_insert s ts))) (λ q. rw q refl)

pub length_without : (p : Slot → Bool) (ss : List Slot) → 0 < tally p ss → suc (length (without_first p ss)) ≡ length ss
length_without p [] h = absurd (omega arith)
length_without p (s ∷ ss) h =
    by_cases (p s)
    (λ q. rw q refl)
    (λ q. let h' : 0 < 0 + tally p ss = rw q at h in rw q (ap suc (length_without p ss (omega arith))))

pub length_live : (ss : List Slot) → length (keep is_live ss) + tally is_stale ss ≡ length ss
length_live [] = refl
length_live (s ∷ ss) = by_cases (is_stale s) (λ q. rw q (omega (arith, length_live ss))) (λ q. rw q (omega (arith, length_live ss)))

-- the parts' lengths
module _ (e : Edition) (sane : Sane e) (b : List ℕ) (h : bytes b ≡ true) (a : Accepted e b) where
  pub total_long : e.header + length (join (records e b)) + 8 * length (slots b) + 8 ≡ length b
  total_long = sym (length_build e (take e.header b) (records e b) (slots b) (stale_of b) (fit_of e sane b h a)) ∙ ap length (build_of e sane b h a)

  pub three_long : (xs gs ys : List Rec) → records e b ≡ xs ++ (gs ++ ys)
      → length (join (records e b)) ≡ length (join xs) + (length (join gs) + length (join ys))
  three_long xs gs ys q = ap (λ (l : List Rec). length (join l)) q ∙ rw (join_append xs (gs ++ ys), length-append, join_append gs ys, length-append)

  pub long_index : length (index_bytes e sane b h a) ≡ 8 * length (slots b) + 8
  unfolding index_bytes
  long_index = simp (length-append, length_slot_bytes, length_to_be) (omega arith)
