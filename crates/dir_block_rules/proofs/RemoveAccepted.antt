-- A removal from an accepted block leaves an accepted block with that entry gone.
-- Assumes nothing.
use Prim.Native.Nat.{ℕ, ◌+◌, ◌-◌, ◌*◌, ◌%◌, ◌≤◌}
use native.Mathlib.Nat.{add-zero, add_assoc}
use native.Mathlib.Omega.{arith}
use mathlib.Core.Bool.{Bool, true, false, not, ◌&&◌, false≢true}
use mathlib.Core.Path.{◌≡◌, refl, sym, ◌∙◌, ap, ap₂, subst}
use mathlib.Core.List.{List, [], ◌∷◌, ◌++◌, map, append_assoc, append-nil}
use lib.ListN.{length, take, length-append}
use borrow.Author.Tests.{not-true}
use Rattle.be.specs.Bytes.{bytes, to_be, written, Write, write}
use Rattle.edition.specs.declared.Edition.{Edition}
use Rattle.edition.specs.Edition.{Sane}
use Rattle.name.specs.Name.{fixed_name}
use Rattle.dir_block_rules.specs.Record.{Rec, size, is_gap, is_entry, entries, gaps, apart, name, gap_writes}
use Rattle.dir_block_rules.specs.Block.{is_stale, Slot, slot, slot_bytes, records, slots, stale_of, data_end}
use Rattle.dir_block_rules.specs.Verdict.{Accepted}
use Rattle.dir_block_rules.specs.Change.{changed, gap_start_before, gap_end_after}
use Rattle.be.proofs.Bools.{by_cases, keep_append}
use Rattle.dir_block_rules.proofs.CutJoin.{join, Laid, join_append, laid_append, laid_front, laid_back}
use Rattle.dir_block_rules.proofs.BlockParts.{build, Fit, SlotsFit, tail_bytes}
use Rattle.dir_block_rules.proofs.WritesLeave.{free, Gapful, length_free, free_laid}
use Rattle.dir_block_rules.proofs.SlotCounts.{Apart}
use Rattle.dir_block_rules.proofs.IndexedEntries.{addr_of}
use Rattle.be.proofs.Splits.{Split}
use Rattle.dir_block_rules.proofs.RecordPlaces.{apart_front}
use Rattle.dir_block_rules.proofs.GoodParts.{Good, tally_length}
use Rattle.dir_block_rules.proofs.EntryLess.{good_remove}
use Rattle.dir_block_rules.proofs.GapsApart.{Follows, follows, from_follows, last_gap?, follows_front, follows_back, follows_append, last_no}
use Rattle.dir_block_rules.proofs.InsertGood.{gapful, free_entries, free_follows}
use Rattle.dir_block_rules.proofs.RemoveWrites.{before_gap, before_entry, after_gap, after_entry, after_end, removed}
use Rattle.dir_block_rules.proofs.AcceptedParts.{fit_of, good_of, block_around, index_bytes, place_of, apart_of, end_of_data}
use Rattle.dir_block_rules.proofs.ChangeAccepted.{laid_mod, After, finish, short, total_long, three_long}

-- the last record
pub snoc : (x : Rec) (xs : List Rec) → (t : Split (x ∷ xs)) × (t.behind ≡ []) × ((g : Bool) → last_gap? g (x ∷ xs) ≡ is_gap t.here)
snoc x [] = (record { before = []; here = x; behind = []; is = refl }, refl, λ g. refl)
snoc x (y ∷ xs) =
    let r : (t : Split (y ∷ xs)) × (t.behind ≡ []) × ((g : Bool) → last_gap? g (y ∷ xs) ≡ is_gap t.here) = snoc y xs in
    (record { before = x ∷ r.0.before; here = r.0.here; behind = r.0.behind; is = ap (λ (l : List Rec). x ∷ l) r.0.is }, r.1, λ g. r.2 (is_gap x))

-- the records xs, with a gap at their end set apart
pub record Front (e : Edition) (o : ℕ) (xs zs : List Rec) : Type 0 where
  pub rest : List Rec
  pub gap : List Rec
  pub is : xs ≡ rest ++ gap
  pub none : entries gap ≡ []
  pub no_gap : last_gap? false rest ≡ false
  pub start : gap_start_before (o + length (join xs)) (gaps (xs ++ zs)) ≡ o + length (join rest)

pub front : (e : Edition) (o : ℕ) (xs zs : List Rec) → Laid e o (xs ++ zs) → Follows false xs → Front e o xs zs
front e o xs zs l f = by_cases (last_gap? false xs) (λ q. some_gap xs l f q) (λ q. no_gaps q)
  where
    no_gaps : last_gap? false xs ≡ false → Front e o xs zs
    no_gaps q = record { rest = xs; gap = []; is = sym (append-nil xs); none = refl; no_gap = q; start = before_entry e o xs zs l q }

    some_gap : (ws : List Rec) → Laid e o (ws ++ zs) → Follows false ws → last_gap? false ws ≡ true → Front e o ws zs
    some_gap [] l₂ f₂ q = absurd (false≢true q)
    some_gap (x ∷ ws) l₂ f₂ q =
        let r : (t : Split (x ∷ ws)) × (t.behind ≡ []) × ((g : Bool) → last_gap? g (x ∷ ws) ≡ is_gap t.here) = snoc x ws in
        let t : Split (x ∷ ws) = r.0 in
        let g : Rec = r.0.here in
        let gp : is_gap g ≡ true = sym (r.2 false) ∙ q in
        let is : x ∷ ws ≡ t.before ++ (g ∷ []) = t.is ∙ ap (λ (m : List Rec). t.before ++ g ∷ m) r.1 in
        let fl : Follows false (t.before ++ (g ∷ [])) = subst (λ (m : List Rec). Follows false m) is f₂ in
        let nl : not (last_gap? false t.before && is_gap g) ≡ true = (follows_back false t.before (g ∷ []) fl).0 in
        let ld : Laid e o (t.before ++ g ∷ zs) =
        subst (λ (m : List Rec). Laid e o m) (ap (λ (m : List Rec). m ++ zs) is ∙ append_assoc t.before (g ∷ []) zs) l₂ in
        record {
          rest = t.before;
          gap = g ∷ [];
          is = is;
          none = rw gp;
          no_gap = last_no (last_gap? false t.before) (is_gap g) nl gp;
          start =
              ap₂ (λ (m : List Rec) (n : ℕ). gap_start_before n (gaps m)) (ap (λ (m : List Rec). m ++ zs) is ∙ append_assoc t.before (g ∷ []) zs)
              (ap (λ (m : List Rec). o + length (join m)) is ∙ rw (join_append t.before (g ∷ []), length-append, append-nil g.raw, ← add_assoc))
              ∙ before_gap e o t.before g zs ld gp;
        }

-- the records zs behind xs, with a gap at their start set apart
pub record Back (e : Edition) (o : ℕ) (xs zs : List Rec) : Type 0 where
  pub rest : List Rec
  pub gap : List Rec
  pub is : zs ≡ gap ++ rest
  pub none : entries gap ≡ []
  pub follows_gap : Follows true rest
  pub stop : gap_end_after (o + length (join xs)) (gaps (xs ++ zs)) ≡ o + length (join xs) + length (join gap)

pub back : (e : Edition) (o : ℕ) (xs zs : List Rec) → Laid e o (xs ++ zs) → Follows false zs → Back e o xs zs
back e o xs [] l f =
    record {
      rest = [];
      gap = [];
      is = refl;
      none = refl;
      follows_gap = tt;
      stop = ap (λ (m : List Rec). gap_end_after (o + length (join xs)) (gaps m)) (append-nil xs) ∙ after_end e o xs (rw append-nil at l) ∙ sym (add-zero (o + length (join xs)));
    }
back e o xs (z ∷ zs) l f =
    by_cases (is_gap z)
    (λ q. record {
      rest = zs;
      gap = z ∷ [];
      is = refl;
      none = rw q;
      follows_gap = rw q at f.1;
      stop = after_gap e o xs z zs l q ∙ ap (λ (m : List ℕ). o + length (join xs) + length m) (sym (append-nil z.raw));
    })
    (λ q. record {
      rest = z ∷ zs;
      gap = [];
      is = refl;
      none = refl;
      follows_gap = (rw q, f.1);
      stop = after_entry e o xs z zs l q ∙ sym (add-zero (o + length (join xs)));
    })

fits_mid : (us : List Slot) (s : Slot) (vs : List Slot) → SlotsFit (us ++ s ∷ vs) → SlotsFit (us ++ slot s.hash 0 ∷ vs)
fits_mid [] s vs f = (f.0, omega arith, f.2)
fits_mid (u ∷ us) s vs f = (f.0, f.1, fits_mid us s vs f.2)

-- an entry that may be removed, among the records, and its slot among the slots
pub record Removable (e : Edition) (b : List ℕ) : Type 0 where
  pub before : List Rec
  pub entry : Rec
  pub behind : List Rec
  pub record_is : records e b ≡ before ++ (entry ∷ behind)
  pub no_gap : is_entry entry ≡ true
  pub not_fixed : fixed_name (name entry) ≡ false
  pub slots_before : List Slot
  pub own : Slot
  pub slots_behind : List Slot
  pub slot_is : slots b ≡ slots_before ++ own ∷ slots_behind
  pub addr_is : own.addr ≡ addr_of entry

module _ (e : Edition) (sane : Sane e) (b : List ℕ) (h : bytes b ≡ true) (a : Accepted e b) (p : Removable e b) where
  abbrev xs : List Rec
  xs = p.before

  abbrev r : Rec
  r = p.entry

  abbrev ys : List Rec
  ys = p.behind

  abbrev us : List Slot
  us = p.slots_before

  abbrev s : Slot
  s = p.own

  abbrev vs : List Slot
  vs = p.slots_behind

  q : records e b ≡ xs ++ (r ∷ ys)
  q = p.record_is

  sq : slots b ≡ us ++ s ∷ vs
  sq = p.slot_is

  no_gap_r : is_gap r ≡ false
  no_gap_r = not-true (is_gap r) p.no_gap

  laid_all : Laid e e.header (xs ++ (r ∷ ys))
  laid_all = rw q at (fit_of e sane b h a).laid

  apart_all : Follows false (xs ++ (r ∷ ys))
  apart_all = rw q at (follows (records e b) (good_of e sane b h a).gaps_apart)

  pub fr : Front e e.header xs (r ∷ ys)
  fr = front e e.header xs (r ∷ ys) laid_all (follows_front false xs (r ∷ ys) apart_all)

  pub bk : Back e e.header (xs ++ (r ∷ [])) ys
  bk =
      back e e.header (xs ++ (r ∷ [])) ys (rw append_assoc laid_all)
      (rw no_gap_r at (follows_back false xs (r ∷ ys) apart_all).1)

  -- where the joined gap starts, its bytes, and the records that are left
  abbrev pub from : ℕ
  from = e.header + length (join fr.rest)

  abbrev pub freed : List ℕ
  freed = join fr.gap ++ (r.raw ++ join bk.gap)

  abbrev pub left : List Rec
  left = fr.rest ++ (free from freed ++ bk.rest)

  abbrev pub stale_slots : List Slot
  stale_slots = us ++ slot s.hash 0 ∷ vs

  abbrev pub free_writes : List Write
  free_writes = gap_writes from (length freed) ++ (write (data_end b + 8 * length us + 4) (to_be 4 0) ∷ write (length b - 4) (to_be 4 (stale_of b + 1)) ∷ [])

  -- all the records in order
  pub all_records : records e b ≡ fr.rest ++ ((fr.gap ++ (r ∷ bk.gap)) ++ bk.rest)
  all_records = q ∙ ap₂ (λ (m k : List Rec). m ++ (r ∷ k)) fr.is bk.is ∙ simp append_assoc

  pub freed_is : join (fr.gap ++ (r ∷ bk.gap)) ≡ freed
  freed_is = join_append fr.gap (r ∷ bk.gap)

  middle : List Rec
  middle = fr.gap ++ (r ∷ bk.gap)

  pub laid_mid : Laid e from ((fr.gap ++ (r ∷ bk.gap)) ++ bk.rest)
  laid_mid = place_of e sane b h a fr.rest (fr.gap ++ (r ∷ bk.gap)) bk.rest all_records

  freed_mod : length freed % 8 ≡ 0
  freed_mod =
      subst (λ (l : List ℕ). length l % 8 ≡ 0) freed_is
      (laid_mod e from (fr.gap ++ (r ∷ bk.gap)) (laid_front e from (fr.gap ++ (r ∷ bk.gap)) bk.rest laid_mid))

  lengths : length (join (records e b)) ≡ length (join fr.rest) + (length freed + length (join bk.rest))
  lengths =
      three_long e sane b h a fr.rest (fr.gap ++ (r ∷ bk.gap)) bk.rest all_records
      ∙ ap (λ (l : List ℕ). length (join fr.rest) + (length l + length (join bk.rest))) freed_is

  inside : from + length freed + length (join bk.rest) + 8 * length (slots b) + 8 ≡ length b
  inside = omega (arith, total_long e sane b h a, lengths)

  gapful_freed : Gapful freed
  gapful_freed = gapful freed freed_mod

  pub laid_left : Laid e e.header left
  laid_left =
      laid_append e e.header fr.rest (free from freed ++ bk.rest)
      (laid_front e e.header fr.rest ((fr.gap ++ (r ∷ bk.gap)) ++ bk.rest) (subst (λ (l : List Rec). Laid e e.header l) all_records (fit_of e sane b h a).laid))
      (laid_append e from (free from freed) bk.rest
      (free_laid e from freed gapful_freed (omega (arith, inside, short e sane b h a)) (omega (arith, inside, short e sane b h a)))
      (rw (length_free from freed gapful_freed)
      (subst (λ (l : List ℕ). Laid e (from + length l) bk.rest) freed_is (laid_back e from (fr.gap ++ (r ∷ bk.gap)) bk.rest laid_mid))))

  same_count : length stale_slots ≡ length (slots b)
  same_count = length-append us (slot s.hash 0 ∷ vs) ∙ sym (length-append us (s ∷ vs)) ∙ ap length (sym sq)

  fit_left : Fit e (take e.header b) left stale_slots (stale_of b + 1)
  fit_left =
      record {
        head = (fit_of e sane b h a).head;
        laid = laid_left;
        few = rw same_count (fit_of e sane b h a).few;
        fewer = omega (arith, inside, short e sane b h a, (good_of e sane b h a).index.stales, tally_length is_stale (slots b));
        fits = fits_mid us s vs (subst SlotsFit sq (fit_of e sane b h a).fits);
      }

  pub entries_before : entries (records e b) ≡ entries xs ++ r ∷ entries ys
  entries_before = ap entries q ∙ keep_append is_entry xs (r ∷ ys) ∙ ap (λ (l : List Rec). entries xs ++ l) (rw p.no_gap)

  entries_xs : entries xs ≡ entries fr.rest
  entries_xs = ap entries fr.is ∙ keep_append is_entry fr.rest fr.gap ∙ ap (λ (l : List Rec). entries fr.rest ++ l) fr.none ∙ append-nil (entries fr.rest)

  entries_ys : entries ys ≡ entries bk.rest
  entries_ys = ap entries bk.is ∙ keep_append is_entry bk.gap bk.rest ∙ ap (λ (l : List Rec). l ++ entries bk.rest) bk.none

  pub entries_left : entries left ≡ entries xs ++ entries ys
  entries_left =
      keep_append is_entry fr.rest (free from freed ++ bk.rest)
      ∙ ap (λ (l : List Rec). entries fr.rest ++ l)
      (keep_append is_entry (free from freed) bk.rest ∙ ap (λ (l : List Rec). l ++ entries bk.rest) (free_entries from freed))
      ∙ ap₂ (λ (l m : List Rec). l ++ m) (sym entries_xs) (sym entries_ys)

  apart_left : apart left ≡ true
  apart_left =
      from_follows false left
      (follows_append false fr.rest (free from freed ++ bk.rest)
      (follows_front false fr.rest fr.gap (subst (λ (l : List Rec). Follows false l) fr.is (follows_front false xs (r ∷ ys) apart_all)))
      (subst (λ (t : Bool). Follows t (free from freed ++ bk.rest)) (sym fr.no_gap) (free_follows from freed bk.rest bk.follows_gap)))

  apart_s : Apart (s.addr ∷ map addr_of (entries xs ++ entries ys))
  apart_s =
      subst (λ (c : ℕ). Apart (c ∷ map addr_of (entries xs ++ entries ys))) (sym p.addr_is)
      (apart_front (entries xs) r (entries ys) (subst (λ (l : List Rec). Apart (map addr_of l)) entries_before (apart_of e sane b h a)))

  good_left : Good e left stale_slots (stale_of b + 1)
  good_left =
      good_remove e (records e b) left (entries xs) r (entries ys) us s vs (stale_of b)
      (subst (λ (l : List Slot). Good e (records e b) l (stale_of b)) sq (good_of e sane b h a)) apart_s apart_left entries_before entries_left p.not_fixed

  around : b ≡ take e.header b ++ (join fr.rest ++ (freed ++ (join bk.rest ++ (slot_bytes (us ++ s ∷ vs) ++ tail_bytes (length (slots b)) (stale_of b)))))
  unfolding index_bytes
  around =
      block_around e sane b h a fr.rest (fr.gap ++ (r ∷ bk.gap)) bk.rest all_records
      ∙ ap₂ (λ (l : List ℕ) (m : List Slot). take e.header b ++ (join fr.rest ++ (l ++ (join bk.rest ++ (slot_bytes m ++ tail_bytes (length (slots b)) (stale_of b)))))) freed_is sq

  written_left : written b free_writes ≡ build (take e.header b) left stale_slots (stale_of b + 1)
  written_left =
      ap (λ (l : List ℕ). written l free_writes) around
      ∙ removed (take e.header b) fr.rest freed bk.rest us s vs (length (slots b)) (stale_of b) (stale_of b + 1) from (data_end b + 8 * length us + 4) (length b)
      (rw (length-append, (fit_of e sane b h a).head)) gapful_freed (ap length sq) (omega (arith, end_of_data e sane b h a, lengths)) inside
      ∙ ap (λ (n : ℕ). take e.header b ++ (join left ++ (slot_bytes stale_slots ++ tail_bytes n (stale_of b + 1)))) (sym same_count)

  pub remove_entry : After e b (changed e b free_writes) left stale_slots (stale_of b + 1)
  remove_entry = finish e sane b h a free_writes left stale_slots (stale_of b + 1) written_left fit_left good_left

  -- a gap as long as the entry is there, and a stale slot: freed room serves again, by (a)
  pub freed_long : size r ≤ length freed
  freed_long = rw (length-append, length-append) (omega arith)
