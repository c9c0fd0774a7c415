-- The best-gap table that a removal leaves, from the pairs stored before it, where they name all gaps.
-- Assumes nothing.
use Prim.Native.Nat.{ℕ, ◌+◌, ◌-◌, ◌≤◌}
use native.Mathlib.Nat.{le_refl}
use native.Mathlib.Omega.{arith}
use mathlib.Core.Bool.{Bool, true, false, cond}
use mathlib.Core.Path.{◌≡◌, refl, sym, ◌∙◌, ap, ap₂, subst}
use mathlib.Core.List.{List, [], ◌∷◌, ◌++◌, append_assoc, append-nil}
use lib.Dec.{leb, ltb}
use lib.ListN.{length, length-append}
use borrow.Author.Tests.{ltb-true, leb-true, lt-ltb, le-ltb, le-leb, lt-leb, ne_eqb}
use Rattle.be.specs.Lists.{every}
use Rattle.be.specs.Bytes.{bytes, written, Write}
use Rattle.be.proofs.Bools.{and_both, by_cases, every_head, every_tail, every_cons, every_append, keep_append}
use Rattle.be.proofs.BytesStay.{bytes_written}
use Rattle.edition.specs.declared.Edition.{Edition}
use Rattle.edition.specs.Edition.{entry_size, Sane}
use Rattle.name.specs.Name.{fixed_name}
use Rattle.dir_block_rules.specs.Record.{Rec, rec, size, is_gap, gaps}
use Rattle.dir_block_rules.specs.Block.{records, stale_of}
use Rattle.dir_block_rules.specs.Lookup.{sought}
use Rattle.dir_block_rules.specs.Verdict.{Accepted, Pair, pair, best_pairs, best_ok}
use Rattle.dir_block_rules.specs.Change.{best_of, changed, gap_start_before, gap_end_after, remove_writes}
use Rattle.dir_block_rules.proofs.Acceptance.{passed}
use Rattle.dir_block_rules.proofs.CutJoin.{Laid, join, laid_front, laid_back}
use Rattle.dir_block_rules.proofs.PlainTests.{every_from}
use Rattle.dir_block_rules.proofs.StaysBytes.{all_remove}
use Rattle.dir_block_rules.proofs.WritesLeave.{free, gap_raw, length_gap_raw}
use Rattle.dir_block_rules.proofs.InsertGood.{gap_raw_gap}
use Rattle.dir_block_rules.proofs.AcceptedParts.{place_of}
use Rattle.dir_block_rules.proofs.ChangeAccepted.{After}
use Rattle.dir_block_rules.proofs.RemoveAccepted.{Removable, fr, bk, from, freed, left, stale_slots, remove_entry, all_records, freed_is, laid_mid, laid_left, freed_long}
use Rattle.dir_block_rules.proofs.LookupFinds.{FoundRemovable, found_removable, o_is, u_is, same_writes}
use Rattle.dir_block_laws.specs.Tiled.{Ready}
use Rattle.dir_block_laws.specs.BestSoFar.{ins}
use Rattle.dir_block_laws.specs.JoinedTable.{empty_table, ins_before, ins_behind, joined_table, in_order}
use Rattle.dir_block_laws.proofs.BestGrows.{elsewhere, best_more}
use Rattle.dir_block_laws.proofs.RecordSteps.{laid_all}
use Rattle.dir_block_laws.proofs.SlotSearch.{tiled}
use Rattle.dir_block_laws.proofs.StoresTiled.{records_changed}
use Rattle.dir_block_laws.proofs.FewGaps.{Rising, rising_laid, named_by, pairs_of, Named, named, few_gaps, table_filled}

-- starts before o; at o or behind
abbrev pub before : ℕ → Rec → Bool
before o r = ltb r.off o

abbrev behind : ℕ → Rec → Bool
behind o r = leb o r.off

-- gaps put into a table one by one
abbrev pub into : List Rec → List Pair → List Pair
into [] ts = ts
into (g ∷ gs) ts = into gs (ins (named_by g) ts)

pub into_append : (gs hs : List Rec) (ts : List Pair) → into (gs ++ hs) ts ≡ into hs (into gs ts)
into_append [] hs ts = refl
into_append (g ∷ gs) hs ts = into_append gs hs (ins (named_by g) ts)

not_at : (o p : ℕ) (r : Rec) → o ≤ p → before o r ≡ true → elsewhere p r ≡ true
not_at o p r h b = rw (ne_eqb r.off p (λ (z : r.off ≡ p). omega (arith, ltb-true r.off o b)))

further : (o p : ℕ) (r : Rec) → o ≤ p → before o r ≡ true → before p r ≡ true
further o p r h b = lt-ltb r.off p (omega (arith, ltb-true r.off o b))

pub best_into : (k o : ℕ) (gs hs : List Rec) → every (before o) gs ≡ true → Rising o hs → best_of k (gs ++ hs) ≡ into hs (best_of k gs)
best_into k o gs [] b r = ap (best_of k) (append-nil gs)
best_into k o gs (g ∷ hs) b r =
    let p : ℕ = g.off + size g in
    let b₂ : every (before p) (gs ++ (g ∷ [])) ≡ true =
    every_append (before p) gs (g ∷ [])
    ∙ and_both (every (before p) gs) (every (before p) (g ∷ [])) (every_from (before o) (before p) (λ x y. further o p x (omega (arith, r.0)) y) gs b)
    (every_cons (before p) g [] (lt-ltb g.off p (omega (arith, r.1))) refl) in
    ap (best_of k) (sym (append_assoc gs (g ∷ []) hs)) ∙ best_into k p (gs ++ (g ∷ [])) hs b₂ r.2
    ∙ ap (into hs) (best_more k gs g r.1 (every_from (before o) (elsewhere g.off) (λ x y. not_at o g.off x r.0 y) gs b))

-- the parts of the pairs that a bound picks
before_all : (o : ℕ) (gs hs : List Rec) (ts : List Pair) → every (before o) gs ≡ true
    → ins_before o (pairs_of (gs ++ hs)) ts ≡ ins_before o (pairs_of hs) (into gs ts)
unfolding ins_before
before_all o [] hs ts b = refl
before_all o (g ∷ gs) hs ts b =
    ap (λ (t : Bool). ins_before o (pairs_of (gs ++ hs)) (cond t (ins (named_by g) ts) ts)) (every_head (before o) g gs b)
    ∙ before_all o gs hs (ins (named_by g) ts) (every_tail (before o) g gs b)

before_none : (o : ℕ) (gs : List Rec) (ts : List Pair) → every (behind o) gs ≡ true → ins_before o (pairs_of gs) ts ≡ ts
unfolding ins_before
before_none o [] ts b = refl
before_none o (g ∷ gs) ts b =
    ap (λ (t : Bool). ins_before o (pairs_of gs) (cond t (ins (named_by g) ts) ts)) (le-ltb g.off o (leb-true o g.off (every_head (behind o) g gs b)))
    ∙ before_none o gs ts (every_tail (behind o) g gs b)

behind_none : (u : ℕ) (gs hs : List Rec) (ts : List Pair) → every (before u) gs ≡ true
    → ins_behind u (pairs_of (gs ++ hs)) ts ≡ ins_behind u (pairs_of hs) ts
unfolding ins_behind
behind_none u [] hs ts b = refl
behind_none u (g ∷ gs) hs ts b =
    ap (λ (t : Bool). ins_behind u (pairs_of (gs ++ hs)) (cond t (ins (named_by g) ts) ts)) (lt-leb u g.off (ltb-true g.off u (every_head (before u) g gs b)))
    ∙ behind_none u gs hs ts (every_tail (before u) g gs b)

behind_all : (u : ℕ) (gs : List Rec) (ts : List Pair) → every (behind u) gs ≡ true → ins_behind u (pairs_of gs) ts ≡ into gs ts
unfolding ins_behind
behind_all u [] ts b = refl
behind_all u (g ∷ gs) ts b =
    ap (λ (t : Bool). ins_behind u (pairs_of gs) (cond t (ins (named_by g) ts) ts)) (every_head (behind u) g gs b)
    ∙ behind_all u gs (ins (named_by g) ts) (every_tail (behind u) g gs b)

every_both : (p : Rec → Bool) (xs ys : List Rec) → every p xs ≡ true → every p ys ≡ true → every p (xs ++ ys) ≡ true
every_both p xs ys h k = every_append p xs ys ∙ and_both (every p xs) (every p ys) h k

-- the gap g, from o up to u, in place of the gaps ms
replaced : (o u : ℕ) (xs ms ys : List Rec) (g : Rec) → g.off ≡ o → size g ≡ u - o → every (before o) xs ≡ true
    → every (before u) (xs ++ ms) ≡ true
    → every (behind o) (ms ++ ys) ≡ true → every (behind u) ys ≡ true
    → joined_table o u (pairs_of (xs ++ (ms ++ ys))) ≡ into (xs ++ (g ∷ ys)) empty_table
unfolding joined_table
replaced o u xs ms ys g i j a b c d =
    let x : ins_before o (pairs_of (xs ++ (ms ++ ys))) empty_table ≡ into xs empty_table =
    before_all o xs (ms ++ ys) empty_table a ∙ before_none o (ms ++ ys) (into xs empty_table) c in
    ap (λ (l : List Pair). ins_behind u (pairs_of (xs ++ (ms ++ ys))) (ins (pair o (u - o)) l)) x
    ∙ ap (λ (p : Pair). ins_behind u (pairs_of (xs ++ (ms ++ ys))) (ins p (into xs empty_table))) (ap₂ pair (sym i) (sym j))
    ∙ ap (λ (l : List Rec). ins_behind u (pairs_of l) (ins (named_by g) (into xs empty_table))) (sym (append_assoc xs ms ys))
    ∙ behind_none u (xs ++ ms) ys (ins (named_by g) (into xs empty_table)) b
    ∙ behind_all u ys (ins (named_by g) (into xs empty_table)) d
    ∙ sym (into_append xs (g ∷ ys) empty_table)

pub laid_before : (e : Edition) (o p : ℕ) (rs : List Rec) → Laid e o rs → o + length (join rs) ≤ p → every (before p) (gaps rs) ≡ true
laid_before e o p [] l h = refl
laid_before e o p (r ∷ rs) l h =
    let s : length (r.raw ++ join rs) ≡ size r + length (join rs) = length-append r.raw (join rs) in
    let v : every (before p) (gaps rs) ≡ true = laid_before e (o + size r) p rs l.2 (omega arith) in
    by_cases (is_gap r)
    (λ y. rw y (every_cons (before p) r (gaps rs) (lt-ltb r.off p (omega (arith, l.0, l.1.least))) v))
    (λ y. rw y v)

laid_behind : (e : Edition) (o p : ℕ) (rs : List Rec) → Laid e o rs → p ≤ o → every (behind p) (gaps rs) ≡ true
laid_behind e o p [] l h = refl
laid_behind e o p (r ∷ rs) l h =
    let v : every (behind p) (gaps rs) ≡ true = laid_behind e (o + size r) p rs l.2 (omega arith) in
    by_cases (is_gap r)
    (λ y. rw y (every_cons (behind p) r (gaps rs) (le-leb p r.off (omega (arith, l.0))) v))
    (λ y. rw y v)

-- freed bytes as a gap
record OneGap (o : ℕ) (c : List ℕ) : Type 0 where
  it : Rec
  is : free o c ≡ it ∷ []
  at : it.off ≡ o
  long : size it ≡ length c
  gap : is_gap it ≡ true

one_gap : (o : ℕ) (c : List ℕ) → 8 ≤ length c → OneGap o c
one_gap o [] h = absurd (omega arith)
one_gap o (x ∷ c) h =
    record { it = rec o (gap_raw o (x ∷ c)); is = refl; at = refl; long = length_gap_raw o (x ∷ c) h; gap = gap_raw_gap o (x ∷ c) }

module _ (e : Edition) (sane : Sane e) (b : List ℕ) (h : bytes b ≡ true) (a : Accepted e b) (p : Removable e b) where
  abbrev rs : List Rec
  rs = (fr e sane b h a p).rest

  abbrev ms : List Rec
  ms = (fr e sane b h a p).gap ++ (p.entry ∷ (bk e sane b h a p).gap)

  abbrev ss : List Rec
  ss = (bk e sane b h a p).rest

  abbrev o : ℕ
  o = from e sane b h a p

  abbrev c : List ℕ
  c = freed e sane b h a p

  old_gaps : gaps (records e b) ≡ gaps rs ++ (gaps ms ++ gaps ss)
  old_gaps = ap gaps (all_records e sane b h a p) ∙ keep_append is_gap rs (ms ++ ss) ∙ ap (λ (l : List Rec). gaps rs ++ l) (keep_append is_gap ms ss)

  mid_long : length (join ms) ≡ length c
  mid_long = ap length (freed_is e sane b h a p)

  entry_least : 8 ≤ length c
  entry_least =
      omega (arith, freed_long e sane b h a p, (place_of e sane b h a p.before (p.entry ∷ []) p.behind p.record_is).1.least)

  new : OneGap o c
  new = one_gap o c entry_least

  new_gaps : gaps (left e sane b h a p) ≡ gaps rs ++ (new.it ∷ gaps ss)
  new_gaps =
      keep_append is_gap rs (free o c ++ ss) ∙ ap (λ (l : List Rec). gaps rs ++ gaps (l ++ ss)) new.is
      ∙ ap (λ (l : List Rec). gaps rs ++ l) (rw new.gap)

  best_left : best_of 3 (gaps (left e sane b h a p)) ≡ joined_table o (o + length c) (pairs_of (gaps (records e b)))
  unfolding best_of
  best_left =
      let u : ℕ = o + length c in
      let lr : Laid e e.header rs = laid_front e e.header rs (free o c ++ ss) (laid_left e sane b h a p) in
      let lm : Laid e o ms = laid_front e o ms ss (laid_mid e sane b h a p) in
      let ls : Laid e (o + length (join ms)) ss = laid_back e o ms ss (laid_mid e sane b h a p) in
      best_into 3 e.header [] (gaps (left e sane b h a p)) refl (rising_laid e e.header (left e sane b h a p) (laid_left e sane b h a p))
      ∙ ap (λ (l : List Rec). into l empty_table) new_gaps
      ∙ sym (replaced o u (gaps rs) (gaps ms) (gaps ss) new.it new.at (omega (arith, new.long))
      (laid_before e e.header o rs lr (le_refl o))
      (every_both (before u) (gaps rs) (gaps ms) (laid_before e e.header u rs lr (omega arith)) (laid_before e o u ms lm (omega (arith, mid_long))))
      (every_both (behind o) (gaps ms) (gaps ss) (laid_behind e o o ms lm (le_refl o)) (laid_behind e (o + length (join ms)) o ss ls (omega arith)))
      (laid_behind e (o + length (join ms)) u ss ls (omega (arith, mid_long))))
      ∙ ap (λ (l : List Rec). joined_table o u (pairs_of l)) (sym old_gaps)

-- the pairs of an accepted block, if the third is empty
pub stored_named : (e : Edition) (b : List ℕ) → Ready e b → (p q t : Pair) → p ∷ q ∷ t ∷ [] ≡ best_pairs e b → t.long ≡ 0 → Named p q (gaps (records e b))
stored_named e b r p q t s z =
    named p q t (gaps (records e b)) e.header (rising_laid e e.header (records e b) (laid_all e b (tiled e b r)))
    (subst (λ (l : List Pair). best_ok l (gaps (records e b)) ≡ true) (sym s) (passed e b r.ok).best) z

-- the table of what a removal leaves, from the gaps before it
module _ (e : Edition) (sane : Sane e) (b n : List ℕ) (r : Ready e b) (hit : (sought e b n).hit ≡ true) (fx : fixed_name n ≡ false) where
  from_gaps : (o u : ℕ) → o ≡ gap_start_before (sought e b n).at (gaps (records e b))
      → u ≡ gap_end_after ((sought e b n).at + entry_size e (length n)) (gaps (records e b))
      → best_of 3 (gaps (records e (written b (remove_writes e b n)))) ≡ joined_table o u (pairs_of (gaps (records e b)))
  from_gaps o u i j =
      let h : bytes b ≡ true = r.are_bytes in
      let f : FoundRemovable e sane b h r.ok n hit = found_removable e sane b h r.ok n hit fx in
      let p : Removable e b = f.removable in
      let w : After e b (changed e b (remove_writes e b n)) (left e sane b h r.ok p) (stale_slots e sane b h r.ok p) (stale_of b + 1) =
      subst (λ (z : List Write). After e b (changed e b z) (left e sane b h r.ok p) (stale_slots e sane b h r.ok p) (stale_of b + 1))
      (same_writes e sane b h r.ok p n f.of_name f.at_is f.index_is) (remove_entry e sane b h r.ok p) in
      let q : records e (written b (remove_writes e b n)) ≡ left e sane b h r.ok p =
      sym (records_changed e sane b (remove_writes e b n) (bytes_written b (remove_writes e b n) h (all_remove e b n)) w.accepted) ∙ w.records_are in
      ap (λ (l : List Rec). best_of 3 (gaps l)) q ∙ best_left e sane b h r.ok p
      ∙ sym (ap₂ (λ (x y : ℕ). joined_table x y (pairs_of (gaps (records e b))))
      (i ∙ o_is e sane b h r.ok p n f.of_name f.at_is f.index_is) (j ∙ u_is e sane b h r.ok p n f.of_name f.at_is f.index_is))

  -- from the pairs stored before it, if the third is empty
  pub from_stored : (o u : ℕ) (p q t : Pair) → p ∷ q ∷ t ∷ [] ≡ best_pairs e b → t.long ≡ 0
      → o ≡ gap_start_before (sought e b n).at (gaps (records e b))
      → u ≡ gap_end_after ((sought e b n).at + entry_size e (length n)) (gaps (records e b))
      → best_of 3 (gaps (records e (written b (remove_writes e b n)))) ≡ joined_table o u (in_order p q)
  from_stored o u p q t s z i j =
      from_gaps o u i j
      ∙ ap (joined_table o u) (sym (few_gaps p q (gaps (records e b)) (stored_named e b r p q t s z)))
      ∙ sym (table_filled o u (in_order p q))
