-- What a search in an accepted block finds, and the removal of what it finds.
-- Assumes nothing.
use Prim.Native.Nat.{ℕ, ◌+◌, ◌-◌, ◌*◌, ◌≤◌}
use native.Mathlib.Nat.{zero-add, le_of_eq}
use native.Mathlib.Omega.{arith}
use mathlib.Core.Bool.{true, false}
use mathlib.Core.Path.{◌≡◌, sym, ◌∙◌, ap, ap₂, subst}
use mathlib.Core.List.{List, [], ◌∷◌, ◌++◌, append_assoc, append-nil}
use lib.Dec.{eqb}
use lib.ListN.{length, length-append}
use borrow.Author.Tests.{eqb-true, not-true}
use Rattle.be.specs.Lists.{every, some_of}
use Rattle.be.specs.Bytes.{bytes, to_be, Write, write}
use Rattle.be.proofs.Bools.{keep_append}
use Rattle.edition.specs.declared.Edition.{Edition}
use Rattle.edition.specs.Edition.{entry_size, Sane}
use Rattle.name.specs.Name.{hash_of, same_name, fixed_name}
use Rattle.dir_block_rules.specs.Record.{Rec, rec, target_of, size, is_gap, is_entry, entries, gaps, name, tag, gap_writes}
use Rattle.dir_block_rules.specs.Block.{records, slots, stale_of, data_end}
use Rattle.dir_block_rules.specs.Verdict.{Accepted, best_pairs}
use Rattle.dir_block_rules.specs.Lookup.{sought, target_at}
use Rattle.dir_block_rules.specs.Change.{changed, gap_start_before, gap_end_after, remove_writes, best_table}
use Rattle.dir_block_rules.proofs.CutJoin.{join, Laid, join_append}
use Rattle.dir_block_rules.proofs.WritesLeave.{free, gap_raw, length_gap_raw}
use Rattle.dir_block_rules.proofs.InsertGood.{gap_raw_gap}
use Rattle.dir_block_rules.proofs.IndexedEntries.{addr_of}
use Rattle.be.proofs.Splits.{Split, every_at}
use Rattle.dir_block_rules.proofs.SearchFinds.{First, seek_hit, seek_first, Owner, match_owner, hit_is}
use Rattle.dir_block_rules.proofs.PartsAddUp.{entry_long}
use Rattle.name.proofs.Same.{same_name_length, same_name_fixed}
use Rattle.dir_block_rules.proofs.AcceptedParts.{FoundIn, keep_find, good_of, apart_of, reads_of, place_of, target_is, entry_tag}
use Rattle.dir_block_rules.proofs.ChangeAccepted.{After}
use Rattle.dir_block_rules.proofs.RemoveAccepted.{Removable, Front, Back, fr, bk, from, freed, left, stale_slots, free_writes, remove_entry, freed_long, entries_before, entries_left}

-- the freed bytes are a gap among the gaps
free_gap : (ws : List Rec) (o : ℕ) (c : List ℕ) (zs : List Rec) → 8 ≤ length c → (t : Split (gaps (ws ++ (free o c ++ zs)))) × (length c ≤ size t.here)
free_gap ws o [] zs h = absurd (omega arith)
free_gap ws o (x ∷ c) zs h = (
  record {
    before = gaps ws;
    here = rec o (gap_raw o (x ∷ c));
    behind = gaps zs;
    is = keep_append is_gap ws (rec o (gap_raw o (x ∷ c)) ∷ zs) ∙ ap (λ (l : List Rec). gaps ws ++ l) (rw (gap_raw_gap o (x ∷ c)));
  },
  le_of_eq (sym (length_gap_raw o (x ∷ c) h)),
)

-- what a removal leaves
pub record Removed (e : Edition) (b n c : List ℕ) : Type 0 where
  pub before : List Rec
  pub gone : Rec
  pub behind : List Rec
  pub accepted : Accepted e c
  pub long : length c ≡ length b
  pub best_is : best_pairs e c ≡ best_table (gaps (records e c))
  pub old_entries : entries (records e b) ≡ before ++ gone ∷ behind
  pub new_entries_are : entries (records e c) ≡ before ++ behind
  pub of_name : same_name e n (name gone) ≡ true
  pub one_more : stale_of c ≡ stale_of b + 1
  pub gap_split : Split (gaps (records e c))
  pub gap_long : entry_size e (length n) ≤ size gap_split.here

module _ (e : Edition) (sane : Sane e) (b : List ℕ) (h : bytes b ≡ true) (a : Accepted e b) (p : Removable e b)
    (n : List ℕ) (sn : same_name e n (name p.entry) ≡ true) (fa : (sought e b n).at ≡ p.entry.off) (fp : (sought e b n).index ≡ length p.slots_before) where
  abbrev xs : List Rec
  xs = p.before

  abbrev r : Rec
  r = p.entry

  abbrev ys : List Rec
  ys = p.behind

  q : records e b ≡ xs ++ (r ∷ ys)
  q = p.record_is

  F : Front e e.header xs (r ∷ ys)
  F = fr e sane b h a p

  B : Back e e.header (xs ++ (r ∷ [])) ys
  B = bk e sane b h a p

  here : Laid e (e.header + length (join xs)) (r ∷ ys)
  here = place_of e sane b h a xs (r ∷ []) ys q

  long_r : size r ≡ entry_size e (length n)
  long_r = entry_long e r here.1 (not-true (is_gap r) p.no_gap) ∙ ap (entry_size e) (sym (same_name_length e n (name r) sn))

  o : ℕ
  o = from e sane b h a p

  c : List ℕ
  c = freed e sane b h a p

  -- where the joined gap starts and ends
  pub o_is : gap_start_before (sought e b n).at (gaps (records e b)) ≡ from e sane b h a p
  unfolding F
  o_is = ap₂ (λ (m : ℕ) (l : List Rec). gap_start_before m (gaps l)) (fa ∙ here.0) q ∙ F.start

  pub u_is : gap_end_after ((sought e b n).at + entry_size e (length n)) (gaps (records e b)) ≡ from e sane b h a p + length (freed e sane b h a p)
  unfolding o c F B
  u_is =
      let all : records e b ≡ (xs ++ (r ∷ [])) ++ ys = q ∙ sym (append_assoc xs (r ∷ []) ys) in
      let jl : length (join (xs ++ (r ∷ []))) ≡ length (join xs) + size r = ap length (join_append xs (r ∷ [])) ∙ length-append (join xs) (r.raw ++ []) ∙ ap (λ (l : List ℕ). length (join xs) + length l) (append-nil r.raw) in
      let xl : length (join xs) ≡ length (join F.rest) + length (join F.gap) = ap (λ (l : List Rec). length (join l)) F.is ∙ ap length (join_append F.rest F.gap) ∙ length-append (join F.rest) (join F.gap) in
      let cl : length c ≡ length (join F.gap) + (size r + length (join B.gap)) = length-append (join F.gap) (r.raw ++ join B.gap) ∙ ap (λ (m : ℕ). length (join F.gap) + m) (length-append r.raw (join B.gap)) in
      let start : (sought e b n).at + entry_size e (length n) ≡ e.header + length (join (xs ++ (r ∷ []))) = omega (arith, fa, here.0, jl, long_r) in
      ap₂ (λ (m : ℕ) (l : List Rec). gap_end_after m (gaps l)) start all ∙ B.stop ∙ omega (arith, jl, xl, cl)

  pub same_writes : free_writes e sane b h a p ≡ remove_writes e b n
  unfolding remove_writes o c
  same_writes =
      sym (ap₂ (λ (x y : ℕ). gap_writes x (y - x) ++ (write (data_end b + 8 * (sought e b n).index + 4) (to_be 4 0) ∷ write (length b - 4) (to_be 4 (stale_of b + 1)) ∷ [])) o_is u_is
      ∙ ap₂ (λ (z p : ℕ). gap_writes o z ++ (write (data_end b + 8 * p + 4) (to_be 4 0) ∷ write (length b - 4) (to_be 4 (stale_of b + 1)) ∷ [])) (minus o (length c)) fp)
    where
      minus : (x y : ℕ) → x + y - x ≡ y
      minus x y = omega arith

  pub removed_at : Removed e b n (changed e b (remove_writes e b n))
  unfolding o c
  removed_at =
      let w : After e b (changed e b (free_writes e sane b h a p)) (left e sane b h a p) (stale_slots e sane b h a p) (stale_of b + 1) =
      remove_entry e sane b h a p in
      let g : (t : Split (gaps (left e sane b h a p))) × (entry_size e (length n) ≤ size t.here) =
      let f : size r ≤ length (freed e sane b h a p) = freed_long e sane b h a p in
      let z : (t : Split (gaps (left e sane b h a p))) × (length (freed e sane b h a p) ≤ size t.here) =
      free_gap (fr e sane b h a p).rest (from e sane b h a p) (freed e sane b h a p)
      (bk e sane b h a p).rest (omega (arith, f, here.1.least)) in
      (z.0, omega (arith, f, z.1, long_r)) in
      subst (λ (z : List Write). Removed e b n (changed e b z)) same_writes
      (record {
        before = entries xs;
        gone = r;
        behind = entries ys;
        accepted = w.accepted;
        long = w.long;
        best_is = w.best_is;
        old_entries = entries_before e sane b h a p;
        new_entries_are = ap entries w.records_are ∙ entries_left e sane b h a p;
        of_name = sn;
        one_more = w.stale_is;
        gap_split = record { before = g.0.before; here = g.0.here; behind = g.0.behind; is = ap gaps w.records_are ∙ g.0.is };
        gap_long = g.1;
      })

module _ (e : Edition) (sane : Sane e) (b : List ℕ) (h : bytes b ≡ true) (a : Accepted e b) (n : List ℕ) where
  es : List Rec
  es = entries (records e b)

  pub hit_of : (sought e b n).hit ≡ some_of (λ r. same_name e n (name r)) (entries (records e b))
  unfolding sought
  hit_of =
      seek_hit e b n (hash_of e n) 0 0 (slots b)
      ∙ hit_is e b n (entries (records e b)) (slots b) (stale_of b) (good_of e sane b h a).index (apart_of e sane b h a) (reads_of e sane b h a)

  module _ (q : (sought e b n).hit ≡ true) where
    first : First e b n (hash_of e n) 0 (slots b) (sought e b n)
    unfolding sought
    first = seek_first e b n (hash_of e n) 0 0 (slots b) (sym (seek_hit e b n (hash_of e n) 0 0 (slots b)) ∙ q)

    owned : (o : Owner e (entries (records e b)) first.split.here) × (same_name e n (name o.split.here) ≡ true)
    owned =
        match_owner e b n (entries (records e b)) (slots b) (stale_of b) (good_of e sane b h a).index (apart_of e sane b h a) (reads_of e sane b h a) first.split first.matches

    pub spot : Split (entries (records e b))
    spot = owned.0.split

    pub spot_name : same_name e n (name spot.here) ≡ true
    unfolding spot
    spot_name = owned.1

    pub at_spot : (sought e b n).at ≡ spot.here.off
    unfolding spot
    at_spot =
        first.at_is ∙ ap (λ (x : ℕ). 8 * x) (sym owned.0.addr_is)
        ∙ eqb-true (8 * addr_of owned.0.split.here) owned.0.split.here.off
        (every_at (λ r. eqb (8 * addr_of r) r.off) owned.0.split.before owned.0.split.here owned.0.split.behind (subst (λ (l : List Rec). every (λ r. eqb (8 * addr_of r) r.off) l ≡ true) owned.0.split.is (reads_of e sane b h a).eights))

    -- the number and the file type that stand there
    pub target_found : target_at e b (sought e b n).at ≡ target_of e spot.here
    target_found = ap (target_at e b) at_spot ∙ target_is e sane b h a spot

    -- and the tag, which the entry stores too
    pub tag_found : (sought e b n).at ≡ tag spot.here
    tag_found = at_spot ∙ sym (entry_tag e sane b h a spot)

    -- the entry found and its slot, if the name is not fixed
    pub record FoundRemovable : Type 0 where
      pub removable : Removable e b
      pub of_name : same_name e n (name removable.entry) ≡ true
      pub at_is : (sought e b n).at ≡ removable.entry.off
      pub index_is : (sought e b n).index ≡ length removable.slots_before

    pub found_removable : fixed_name n ≡ false → FoundRemovable
    unfolding spot
    found_removable fx =
        let t : Split (entries (records e b)) = owned.0.split in
        let k : FoundIn is_entry (records e b) t.before t.here t.behind = keep_find is_entry (records e b) t.before t.here t.behind t.is in
        record {
          removable = record {
            before = k.before;
            entry = t.here;
            behind = k.behind;
            record_is = k.is;
            no_gap = k.passes;
            not_fixed = sym (same_name_fixed e n (name t.here) owned.1) ∙ fx;
            slots_before = first.split.before;
            own = first.split.here;
            slots_behind = first.split.behind;
            slot_is = first.split.is;
            addr_is = sym owned.0.addr_is;
          };
          of_name = owned.1;
          at_is = at_spot;
          index_is = first.index_is ∙ zero-add (length first.split.before);
        }

    pub removed_of : fixed_name n ≡ false → Removed e b n (changed e b (remove_writes e b n))
    removed_of fx =
        let f : FoundRemovable = found_removable fx in
        removed_at e sane b h a f.removable n f.of_name f.at_is f.index_is
