-- An accepted block has good parts, and is the block that they build.
-- Assumes nothing.
use Prim.Native.Nat.{ℕ, ◌+◌, ◌^◌, ◌<◌}
use native.Mathlib.Omega.{arith}
use mathlib.Core.Bool.{Bool, true, false}
use mathlib.Core.Path.{◌≡◌, refl, sym, ◌∙◌, ap, subst}
use mathlib.Core.List.{List, [], ◌∷◌, ◌++◌, map, append_assoc, append-nil, nil≢cons, head-eq_of_cons-eq, tail-eq_of_cons-eq}
use lib.Dec.{eqb}
use lib.ListN.{length, take, length-append}
use lib.Seq.{take-take, take_at, drop_at}
use borrow.Author.Tests.{not-true}
use Rattle.be.specs.Lists.{every, keep, without_first}
use Rattle.be.specs.Bytes.{bytes, be, field, part}
use Rattle.edition.specs.declared.Edition.{Edition}
use Rattle.edition.specs.Edition.{Sane}
use Rattle.dir_block_rules.specs.Record.{Rec, whole, size, entries, is_gap, is_entry, namelen, name, target_of, tag}
use Rattle.dir_block_rules.specs.Block.{Slot, slot_bytes, records, slots, stale_of, data_end}
use Rattle.dir_block_rules.specs.Verdict.{Accepted, magic_ok}
use Rattle.dir_block_rules.specs.Lookup.{name_at, target_at}
use Rattle.dir_block_rules.specs.Change.{insert_slot, in_front}
use Rattle.be.proofs.Bools.{by_cases}
use Rattle.dir_block_rules.proofs.CutJoin.{join, Laid, join_append, laid_back}
use Rattle.dir_block_rules.proofs.BlockParts.{build, build_end, Fit, SlotsFit, tail_bytes, refit, rebuild}
use Rattle.dir_block_rules.proofs.Acceptance.{Passed, passed}
use Rattle.dir_block_rules.proofs.WholeRecords.{tile_whole, tile_apart}
use Rattle.dir_block_rules.proofs.SlotCounts.{Apart}
use Rattle.dir_block_rules.proofs.IndexedEntries.{indexed, addr_of}
use Rattle.be.proofs.Splits.{Split}
use Rattle.dir_block_rules.proofs.RecordPlaces.{apart_keep, laid_eights, part_there, name_there, target_there}
use Rattle.dir_block_rules.proofs.SearchFinds.{Reads}
use Rattle.dir_block_rules.proofs.GoodParts.{Good}

-- a record among those that pass a test, with what stands before and behind it among all
pub record FoundIn (p : Rec → Bool) (rs xs : List Rec) (x : Rec) (ys : List Rec) : Type 0 where
  pub before : List Rec
  pub behind : List Rec
  pub is : rs ≡ before ++ x ∷ behind
  pub before_is : keep p before ≡ xs
  pub behind_is : keep p behind ≡ ys
  pub passes : p x ≡ true

pub keep_find : (p : Rec → Bool) (rs xs : List Rec) (x : Rec) (ys : List Rec) → keep p rs ≡ xs ++ x ∷ ys → FoundIn p rs xs x ys
keep_find p [] [] x ys h = absurd (nil≢cons h)
keep_find p [] (z ∷ xs) x ys h = absurd (nil≢cons h)
keep_find p (r ∷ rs) xs x ys h = by_cases (p r) (λ q. here (λ zs g. keep_find p rs zs x ys g) xs q (rw q at h)) (λ q. skip q (keep_find p rs xs x ys (rw q at h)))
  where
    skip : p r ≡ false → FoundIn p rs xs x ys → FoundIn p (r ∷ rs) xs x ys
    skip q f =
        record { before = r ∷ f.before; behind = f.behind; is = ap (λ (l : List Rec). r ∷ l) f.is; before_is = rw q f.before_is; behind_is = f.behind_is; passes = f.passes }

    more : (zs : List Rec) → p r ≡ true → FoundIn p rs zs x ys → FoundIn p (r ∷ rs) (r ∷ zs) x ys
    more zs q f =
        record { before = r ∷ f.before; behind = f.behind; is = ap (λ (l : List Rec). r ∷ l) f.is; before_is = rw q (ap (λ (l : List Rec). r ∷ l) f.before_is); behind_is = f.behind_is; passes = f.passes }

    here : ((zs : List Rec) → keep p rs ≡ zs ++ x ∷ ys → FoundIn p rs zs x ys) → (zs : List Rec) → p r ≡ true → r ∷ keep p rs ≡ zs ++ x ∷ ys → FoundIn p (r ∷ rs) zs x ys
    here again [] q g =
        record {
          before = [];
          behind = rs;
          is = ap (λ (y : Rec). y ∷ rs) (head-eq_of_cons-eq g);
          before_is = refl;
          behind_is = tail-eq_of_cons-eq g;
          passes = subst (λ (y : Rec). p y ≡ true) (head-eq_of_cons-eq g) q;
        }
    here again (z ∷ zs) q g =
        subst (λ (y : Rec). FoundIn p (r ∷ rs) (y ∷ zs) x ys) (head-eq_of_cons-eq g) (more zs q (again zs (tail-eq_of_cons-eq g)))

pub fit_insert : (s : Slot) (ss : List Slot) → s.hash < 256 ^ 4 → s.addr < 256 ^ 4 → SlotsFit ss → SlotsFit (insert_slot s ss)
unfolding insert_slot
fit_insert s [] h k f = (h, k, tt)
fit_insert s (t ∷ ts) h k f =
    by_cases (in_front s t) (λ q. rw q (f.0, f.1, fit_insert s ts h k f.2)) (λ q. rw q (h, k, f))

pub fit_keep : (p : Slot → Bool) (ss : List Slot) → SlotsFit ss → SlotsFit (keep p ss)
fit_keep p [] f = tt
fit_keep p (s ∷ ss) f = by_cases (p s) (λ q. rw q (f.0, f.1, fit_keep p ss f.2)) (λ q. rw q (fit_keep p ss f.2))

pub fit_without : (p : Slot → Bool) (ss : List Slot) → SlotsFit ss → SlotsFit (without_first p ss)
fit_without p [] f = tt
fit_without p (s ∷ ss) f = by_cases (p s) (λ q. rw q f.2) (λ q. rw q (f.0, f.1, fit_without p ss f.2))

-- an accepted block
module _ (e : Edition) (sane : Sane e) (b : List ℕ) (h : bytes b ≡ true) (a : Accepted e b) where
  pub tests : Passed e b
  tests = passed e b a

  wholes : every (whole e) (records e b) ≡ true
  wholes = tile_whole e b tests.tile

  pub fit_of : Fit e (take e.header b) (records e b) (slots b) (stale_of b)
  fit_of = refit e b h tests.span wholes

  pub build_of : build (take e.header b) (records e b) (slots b) (stale_of b) ≡ b
  build_of = rebuild e b h tests.span wholes

  pub apart_of : Apart (map addr_of (entries (records e b)))
  apart_of = apart_keep e is_entry e.header (records e b) (omega (arith, sane.magic_before, sane.best_inside)) fit_of.laid

  pub good_of : Good e (records e b) (slots b) (stale_of b)
  good_of =
      record {
        gaps_apart = tile_apart e b tests.tile;
        names = tests.names;
        numbers = tests.numbers;
        index = indexed e (records e b) (slots b) (stale_of b) apart_of tests.index;
        once = tests.once;
      }

  -- the data ends where its records do
  pub end_of_data : data_end b ≡ e.header + length (join (records e b))
  end_of_data = ap data_end (sym build_of) ∙ build_end e (take e.header b) (records e b) (slots b) (stale_of b) fit_of

  pub magic_of : eqb (field 0 4 (take e.header b)) e.magic ≡ true
  unfolding magic_ok
  magic_of = ap (λ (l : List ℕ). eqb (be l) e.magic) (take-take 4 e.header b (omega (arith, sane.best_inside))) ∙ tests.magic

  -- the bytes of the index
  unfoldable pub index_bytes : List ℕ
  index_bytes = slot_bytes (slots b) ++ tail_bytes (length (slots b)) (stale_of b)

  -- the block around the records gs
  pub block_around : (xs gs ys : List Rec) → records e b ≡ xs ++ (gs ++ ys) → b ≡ take e.header b ++ (join xs ++ (join gs ++ (join ys ++ index_bytes)))
  unfolding index_bytes
  block_around xs gs ys q =
      let I : List ℕ = slot_bytes (slots b) ++ tail_bytes (length (slots b)) (stale_of b) in
      sym build_of
      ∙ ap (λ (l : List ℕ). take e.header b ++ (l ++ I)) (ap join q ∙ join_append xs (gs ++ ys) ∙ ap (λ (l : List ℕ). join xs ++ l) (join_append gs ys))
      ∙ ap (λ (l : List ℕ). take e.header b ++ l) (simp append_assoc)

  pub place_of : (xs gs ys : List Rec) → records e b ≡ xs ++ (gs ++ ys) → Laid e (e.header + length (join xs)) (gs ++ ys)
  place_of xs gs ys q = laid_back e e.header xs (gs ++ ys) (rw q at fit_of.laid)

  front_long : (xs : List Rec) → length (take e.header b ++ join xs) ≡ e.header + length (join xs)
  front_long xs = rw (length-append, fit_of.head)

  -- a record in the block: what stands before and behind it, and what is read there
  module _ (xs : List Rec) (r : Rec) (ys : List Rec) (q : records e b ≡ xs ++ r ∷ ys) where
    abbrev front : List ℕ
    front = take e.header b ++ join xs

    abbrev behind : List ℕ
    behind = join ys ++ index_bytes

    around : b ≡ front ++ (r.raw ++ behind)
    around =
        block_around xs (r ∷ []) ys q ∙ sym (append_assoc (take e.header b) (join xs) _) ∙ ap (λ (l : List ℕ). front ++ (l ++ behind)) (append-nil r.raw)

    laid_here : Laid e (e.header + length (join xs)) (r ∷ ys)
    laid_here = place_of xs (r ∷ []) ys q

    off_here : length front ≡ r.off
    off_here = front_long xs ∙ sym laid_here.0

    -- its tag is its offset
    pub tag_own : tag r ≡ r.off
    tag_own = laid_here.1.tagged

    -- where all of its bytes stand
    pub raw_part : part (tag r) (size r) b ≡ r.raw
    raw_part =
        ap (part (tag r) (size r)) around ∙ ap (take (size r)) (drop_at front (r.raw ++ behind) (tag r) (off_here ∙ sym tag_own))
        ∙ take_at r.raw behind (size r) refl

    module _ (g : is_gap r ≡ false) where
      pub name_part : part (r.off + 9) (namelen r) b ≡ name r
      name_part = ap (part (r.off + 9) (namelen r)) around ∙ part_there e front behind r laid_here.1 g off_here

      name_here : name_at b r.off ≡ name r
      name_here = ap (λ (l : List ℕ). name_at l r.off) around ∙ name_there e front behind r laid_here.1 g off_here

      target_here : target_at e b r.off ≡ target_of e r
      target_here = ap (λ (l : List ℕ). target_at e l r.off) around ∙ target_there e front behind r laid_here.1 g off_here

  -- an entry in the block
  module _ (t : Split (entries (records e b))) where
    spot : FoundIn is_entry (records e b) t.before t.here t.behind
    spot = keep_find is_entry (records e b) t.before t.here t.behind t.is

    no_gap : is_gap t.here ≡ false
    no_gap = not-true (is_gap t.here) spot.passes

    name_of : name_at b t.here.off ≡ name t.here
    name_of = name_here spot.before t.here spot.behind spot.is no_gap

    pub target_is : target_at e b t.here.off ≡ target_of e t.here
    target_is = target_here spot.before t.here spot.behind spot.is no_gap

    pub entry_tag : tag t.here ≡ t.here.off
    entry_tag = tag_own spot.before t.here spot.behind spot.is

    pub entry_part : part (tag t.here) (size t.here) b ≡ t.here.raw
    entry_part = raw_part spot.before t.here spot.behind spot.is

  pub reads_of : Reads e b (entries (records e b))
  reads_of = record { eights = laid_eights e is_entry e.header (records e b) sane.header_eights fit_of.laid; named = λ t. name_of t }
