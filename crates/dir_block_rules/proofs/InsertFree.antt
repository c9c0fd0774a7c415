-- An insert into free bytes leaves an accepted block: (a), (b) and (d) of the room rule at once, over where the free bytes lie.
-- Assumes nothing.
use Prim.Native.Nat.{ℕ, suc, ◌+◌, ◌-◌, ◌*◌, ◌/◌, ◌%◌, ◌^◌, ◌≤◌, ◌<◌}
use native.Mathlib.Omega.{arith}
use mathlib.Core.Bool.{true, false}
use mathlib.Core.Path.{◌≡◌, refl, sym, ◌∙◌, ap}
use mathlib.Core.List.{List, [], ◌∷◌, ◌++◌, append_assoc, append-nil}
use lib.ListN.{length, take, drop, length-append, length-take, length-drop, take-append-drop}
use Rattle.be.proofs.Bools.{keep_append}
use Rattle.name.proofs.Hashing.{hash_lt}
use Rattle.be.specs.Lists.{some_of, keep, tally, without_first}
use Rattle.be.specs.Bytes.{bytes, to_be, written, Write}
use Rattle.edition.specs.declared.Edition.{Edition}
use Rattle.edition.specs.Edition.{entry_size, Sane}
use Rattle.name.specs.Name.{hash_of, same_name, legal_name, fixed_name}
use Rattle.dir.specs.declared.Target.{Target}
use Rattle.dir_block_rules.specs.Record.{Rec, size, is_gap, is_entry, entries, name}
use Rattle.dir_block_rules.specs.Block.{Slot, slot, slot_bytes, records, slots, stale_of, is_stale, is_live}
use Rattle.dir.specs.Target.{legal_in, legal_type}
use Rattle.dir_block_rules.specs.Verdict.{Accepted, own_of}
use Rattle.dir_block_rules.specs.Change.{changed, entry_writes, index_writes, insert_slot}
use Rattle.be.proofs.Numbers.{length_to_be}
use Rattle.edition.proofs.Sizes.{entry_size_eights}
use Rattle.dir_block_rules.proofs.CutJoin.{join, Laid, laid_front}
use Rattle.dir_block_rules.proofs.BlockParts.{build, Fit, SlotsFit, tail_bytes, length_slot_bytes}
use Rattle.dir_block_rules.proofs.IndexedEntries.{Kept, kept_less_one, kept_all, kept_live}
use Rattle.dir_block_rules.proofs.GoodParts.{Good, tally_length}
use Rattle.dir_block_rules.proofs.InsertWrites.{inserted}
use Rattle.dir_block_rules.proofs.InsertGood.{new_records, new_apart, new_laid, new_good, gapful}
use Rattle.dir_block_rules.proofs.GapsApart.{Follows, follows, follows_front, follows_back}
use Rattle.dir_block_rules.proofs.AcceptedParts.{fit_of, good_of, block_around, index_bytes, place_of, fit_insert, fit_without, fit_keep}
use Rattle.name.proofs.Legality.{number_bounds}
use Rattle.dir.proofs.FileTypes.{target_number, target_type, asked_target}
use Rattle.dir_block_rules.proofs.ChangeAccepted.{After, finish, short, laid_mod, length_insert, length_without, length_live, long_index}

-- a legal request to insert name n with target i, where no live entry of the block bears the name
pub record Asked (e : Edition) (b n : List ℕ) (i : Target) : Type 0 where
  pub name_bytes : bytes n ≡ true
  pub name_legal : legal_name e n ≡ true
  pub number_legal : legal_in e (own_of e b) i ≡ true
  pub not_fixed : fixed_name n ≡ false
  pub absent : some_of (λ r. same_name e n (name r)) (entries (records e b)) ≡ false

-- its number fits an entry
pub asked_small : (e : Edition) (b n : List ℕ) (i : Target) → Asked e b n i → i.inode < 2 ^ 56
asked_small e b n i ask = (number_bounds i.inode (target_number e i (asked_target e i (own_of e b) ask.number_legal).0)).1

-- and its file type is legal
pub asked_type : (e : Edition) (b n : List ℕ) (i : Target) → Asked e b n i → legal_type e i.kind ≡ true
asked_type e b n i ask = target_type e i (asked_target e i (own_of e b) ask.number_legal).0

-- an insert into free bytes c behind the records xs, with the records ys behind them: (a), (b) and (d)
module _ (e : Edition) (sane : Sane e) (b : List ℕ) (h : bytes b ≡ true) (a : Accepted e b) (i : Target) (n : List ℕ) (ask : Asked e b n i) where
  pub record Free (xs : List Rec) (c : List ℕ) (ys : List Rec) (r : List ℕ) (o : ℕ) (ts : List Slot) (m : ℕ) : Type 0 where
    pub around : b ≡ take e.header b ++ (join xs ++ (c ++ (join ys ++ r)))
    pub place : e.header + length (join xs) ≡ o
    pub eights : length c % 8 ≡ 0
    pub enough : entry_size e (length n) ≤ length c
    pub laid_xs : Laid e e.header xs
    pub laid_ys : Laid e (o + length c) ys
    pub kept : Kept (slots b) ts m
    pub fit_ts : SlotsFit ts
    pub small_m : m < 256 ^ 4
    pub rest_long : length r ≡ 8 * suc (length ts) + 8
    pub entries_old : entries (records e b) ≡ entries xs ++ entries ys
    pub apart_xs : Follows false xs
    pub apart_ys : Follows true ys

  module _ (xs : List Rec) (c : List ℕ) (ys : List Rec) (r : List ℕ) (o : ℕ) (ts : List Slot) (m : ℕ) (f : Free xs c ys r o ts m) where
    abbrev pub new_index : List Slot
    new_index = insert_slot (slot (hash_of e n) (o / 8)) ts

    inside : o + length c + length r ≤ length b
    inside =
        let q : length b ≡ length (take e.header b) + (length (join xs) + (length c + (length (join ys) + length r))) =
        ap length f.around ∙ simp length-append in
        omega (arith, q, (fit_of e sane b h a).head, f.place)

    laid_new : Laid e e.header (new_records e sane i n xs c ys o)
    laid_new = new_laid e sane i n xs c ys o (asked_small e b n i ask) f.place f.enough f.eights (omega (arith, inside, f.rest_long, short e sane b h a)) f.laid_xs f.laid_ys

    fit_new : Fit e (take e.header b) (new_records e sane i n xs c ys o) new_index m
    fit_new =
        record {
          head = (fit_of e sane b h a).head;
          laid = laid_new;
          few = rw (length_insert (slot (hash_of e n) (o / 8)) ts) (omega (arith, inside, f.rest_long, short e sane b h a));
          fewer = f.small_m;
          fits = fit_insert (slot (hash_of e n) (o / 8)) ts (hash_lt e n ask.name_bytes) (omega (arith, inside, short e sane b h a)) f.fit_ts;
        }

    good_new : Good e (new_records e sane i n xs c ys o) new_index m
    good_new =
        new_good e sane i n xs c ys o (records e b) (slots b) ts (stale_of b) m (good_of e sane b h a) f.kept f.entries_old laid_new
        (new_apart e sane i n xs c ys o (asked_small e b n i ask) f.apart_xs f.apart_ys) ask.name_legal (rw f.entries_old at ask.number_legal) (asked_small e b n i ask) ask.not_fixed (rw f.entries_old at ask.absent)

    left : length (drop (entry_size e (length n)) c) % 8 ≡ 0
    left = simp length-drop (omega (arith, entry_size_eights e (length n), f.eights))

    abbrev pub free_writes : List Write
    free_writes = entry_writes e i n o (o + length c) ++ index_writes (length b) new_index m

    written_new : written b free_writes ≡ build (take e.header b) (new_records e sane i n xs c ys o) new_index m
    unfolding new_records
    written_new =
        ap (λ (l : List ℕ). written l free_writes) f.around
        ∙ inserted e i n (take e.header b) xs c ys r o (length b) new_index m
        (rw (length-append, (fit_of e sane b h a).head) f.place) f.enough (gapful (drop (entry_size e (length n)) c) left)
        (rw (length_insert (slot (hash_of e n) (o / 8)) ts) f.rest_long) (ap length (sym f.around))

    pub insert_free : After e b (changed e b free_writes) (new_records e sane i n xs c ys o) new_index m
    insert_free = finish e sane b h a free_writes (new_records e sane i n xs c ys o) new_index m written_new fit_new good_new

-- where the free bytes lie, by each case
module _ (e : Edition) (sane : Sane e) (b : List ℕ) (h : bytes b ≡ true) (a : Accepted e b) (i : Target) (n : List ℕ) (ask : Asked e b n i) where
  module _ (xs : List Rec) (g : Rec) (ys : List Rec) (q : records e b ≡ xs ++ (g ∷ ys)) (gp : is_gap g ≡ true) where
    here : Laid e (e.header + length (join xs)) (g ∷ ys)
    here = place_of e sane b h a xs (g ∷ []) ys q

    apart_here : Follows false (xs ++ (g ∷ ys))
    apart_here = rw q at (follows (records e b) (good_of e sane b h a).gaps_apart)

    entries_here : entries (records e b) ≡ entries xs ++ entries ys
    entries_here = ap entries q ∙ keep_append is_entry xs (g ∷ ys) ∙ ap (λ (l : List Rec). entries xs ++ l) (rw gp)

    around_here : b ≡ take e.header b ++ (join xs ++ (g.raw ++ (join ys ++ index_bytes e sane b h a)))
    around_here =
        block_around e sane b h a xs (g ∷ []) ys q
        ∙ ap (λ (l : List ℕ). take e.header b ++ (join xs ++ (l ++ (join ys ++ index_bytes e sane b h a)))) (append-nil g.raw)

    laid_front_here : Laid e e.header xs
    laid_front_here = laid_front e e.header xs (g ∷ ys) (rw q at (fit_of e sane b h a).laid)

    -- (a): a gap, with the first stale slot dropped
    pub free_a : entry_size e (length n) ≤ size g → 0 < stale_of b
        → Free e sane b h a i n ask xs g.raw ys (index_bytes e sane b h a) g.off (without_first is_stale (slots b)) (stale_of b - 1)
    free_a fits some_stale =
        record {
          around = around_here;
          place = sym here.0;
          eights = here.1.eights;
          enough = fits;
          laid_xs = laid_front_here;
          laid_ys = rw here.0 here.2;
          kept = kept_less_one (slots b) (stale_of b) (good_of e sane b h a).index.stales;
          fit_ts = fit_without is_stale (slots b) (fit_of e sane b h a).fits;
          small_m = omega (arith, (fit_of e sane b h a).fewer);
          rest_long = omega (arith, long_index e sane b h a, length_without is_stale (slots b) (omega (arith, (good_of e sane b h a).index.stales)));
          entries_old = entries_here;
          apart_xs = follows_front false xs (g ∷ ys) apart_here;
          apart_ys = rw gp at (follows_back false xs (g ∷ ys) apart_here).1;
        }

  -- (d): T is the last record, and loses its last 8 bytes to the index
  pub free_d : (xs : List Rec) (g : Rec) (q : records e b ≡ xs ++ (g ∷ [])) (gp : is_gap g ≡ true) → entry_size e (length n) + 8 ≤ size g → stale_of b ≡ 0
      → Free e sane b h a i n ask xs (take (size g - 8) g.raw) [] (drop (size g - 8) g.raw ++ index_bytes e sane b h a) g.off (slots b) 0
  free_d xs g q gp fits none =
      let w : Laid e (e.header + length (join xs)) (g ∷ []) = here xs g [] q gp in
      let I : List ℕ = index_bytes e sane b h a in
      record {
        around = around_here xs g [] q gp
            ∙ ap (λ (l : List ℕ). take e.header b ++ (join xs ++ (l ++ I))) (sym (take-append-drop (size g - 8) g.raw))
            ∙ ap (λ (l : List ℕ). take e.header b ++ (join xs ++ l)) (append_assoc (take (size g - 8) g.raw) (drop (size g - 8) g.raw) I);
        place = sym w.0;
        eights = simp length-take (omega (arith, w.1.eights));
        enough = simp length-take (omega arith);
        laid_xs = laid_front_here xs g [] q gp;
        laid_ys = tt;
        kept = kept_all (slots b) 0 ((good_of e sane b h a).index.stales ∙ none);
        fit_ts = (fit_of e sane b h a).fits;
        small_m = omega arith;
        rest_long = simp (length-append, length-drop) (omega (arith, long_index e sane b h a));
        entries_old = entries_here xs g [] q gp;
        apart_xs = follows_front false xs (g ∷ []) (apart_here xs g [] q gp);
        apart_ys = tt;
      }

  -- (b): T, if there is one, and the bytes of the slots that are not needed
  pub free_b : (xs gs : List Rec) → records e b ≡ xs ++ (gs ++ []) → entries gs ≡ [] → entry_size e (length n) ≤ length (join gs) + 8 * (stale_of b - 1) → 0 < stale_of b
      → Free e sane b h a i n ask xs (join gs ++ take (8 * (stale_of b - 1)) (slot_bytes (slots b))) []
      (drop (8 * (stale_of b - 1)) (slot_bytes (slots b)) ++ tail_bytes (length (slots b)) (stale_of b)) (e.header + length (join xs)) (keep is_live (slots b)) 0
  unfolding index_bytes
  free_b xs gs q none fits some_stale =
      let k : ℕ = 8 * (stale_of b - 1) in
      let SB : List ℕ = slot_bytes (slots b) in
      let T : List ℕ = tail_bytes (length (slots b)) (stale_of b) in
      let w : Laid e (e.header + length (join xs)) (gs ++ []) = place_of e sane b h a xs gs [] q in
      let fl : Follows false (xs ++ (gs ++ [])) = rw q at (follows (records e b) (good_of e sane b h a).gaps_apart) in
      let st : tally is_stale (slots b) ≡ stale_of b = (good_of e sane b h a).index.stales in
      let sl : length SB ≡ 8 * length (slots b) = length_slot_bytes (slots b) in
      let lk : k ≤ length SB = omega (arith, sl, st, tally_length is_stale (slots b)) in
      record {
        around = block_around e sane b h a xs gs [] q
            ∙ ap (λ (l : List ℕ). take e.header b ++ (join xs ++ (join gs ++ (l ++ T)))) (sym (take-append-drop k SB))
            ∙ ap (λ (l : List ℕ). take e.header b ++ (join xs ++ l)) (simp append_assoc);
        place = refl;
        eights = rw length-append (rw length-take (omega (arith, lk, laid_mod e (e.header + length (join xs)) gs (laid_front e (e.header + length (join xs)) gs [] w))));
        enough = rw length-append (rw length-take (omega (arith, lk)));
        laid_xs = laid_front e e.header xs (gs ++ []) (rw q at (fit_of e sane b h a).laid);
        laid_ys = tt;
        kept = kept_live (slots b);
        fit_ts = fit_keep is_live (slots b) (fit_of e sane b h a).fits;
        small_m = omega arith;
        rest_long = rw length-append (rw length-drop (omega (arith, lk, sl, st, length_live (slots b), length-append (to_be 4 (length (slots b))) (to_be 4 (stale_of b)), length_to_be 4 (length (slots b)), length_to_be 4 (stale_of b))));
        entries_old = ap entries q ∙ keep_append is_entry xs (gs ++ []) ∙ ap (λ (l : List Rec). entries xs ++ l) (ap entries (append-nil gs) ∙ none);
        apart_xs = follows_front false xs (gs ++ []) fl;
        apart_ys = tt;
      }
