-- A block put together from good parts is accepted once its best-gap table is written.
-- Assumes nothing.
use Prim.Native.Nat.{ℕ, zero, suc, ◌+◌, ◌*◌, ◌^◌, ◌≤◌, ◌<◌}
use native.Mathlib.Nat.{zero-add}
use native.Mathlib.Omega.{arith}
use mathlib.Core.Bool.{Bool, true, not, ◌&&◌}
use mathlib.Core.Path.{◌≡◌, refl, sym, ◌∙◌, ap, subst}
use mathlib.Core.List.{List, [], ◌∷◌, ◌++◌, append_assoc}
use lib.Dec.{eqb, leb, ltb, leb-zero}
use lib.ListN.{length, take, drop, length-append, length-take, take-append-drop}
use lib.Seq.{take-append-le, take_at, drop_at}
use borrow.Author.Tests.{le-leb, ltb-true, lt-ltb}
use Rattle.edition.proofs.Sizes.{block_size_bounds}
use Rattle.edition.specs.Edition.{Sane, block_size}
use Rattle.be.specs.Lists.{every, tally, keep}
use Rattle.be.specs.Bytes.{be, part, field, put, written}
use Rattle.edition.specs.declared.Edition.{Edition}
use Rattle.dir_block_rules.specs.Record.{Rec, size, whole, apart, entries, gaps, is_gap, is_entry, besides}
use Rattle.dir_block_rules.specs.Block.{Slot, slot_bytes, is_stale}
use Rattle.dir_block_rules.specs.Verdict.{Accepted, Pair, size_ok, magic_ok, span_ok, names_ok, numbers_ok, best_pairs, pairs_in, once_ok}
use Rattle.dir_block_rules.specs.Change.{longest, best_of, best_table, pair_bytes, with_best, sealed}
use Rattle.be.proofs.Bools.{and_left, and_right, and_both, by_cases, every_head, every_tail, every_cons, every_keep}
use Rattle.be.proofs.Parts.{piece, part_part}
use Rattle.be.proofs.Numbers.{length_to_be}
use Rattle.be.proofs.Writes.{put_inside, length_put, part_before, part_inside}
use Rattle.dir_block_rules.proofs.CutJoin.{join, Laid, →whole}
use Rattle.dir_block_rules.proofs.BlockParts.{build, Fit, tail_bytes, build_records, build_slots, build_stale, build_count, length_build}
use Rattle.dir_block_rules.proofs.Acceptance.{accepted}
use Rattle.dir_block_rules.proofs.WholeRecords.{tile_both}
use Rattle.dir_block_rules.proofs.BestTable.{best_of_right, PairsFit, pairs_in_bytes}
use Rattle.dir_block_rules.proofs.IndexedEntries.{Indexed, →indexed}
use Rattle.dir_block_rules.proofs.RecordPlaces.{apart_keep}
use Rattle.dir_block_rules.proofs.Sealing.{Seals, seals}

pub record Good (e : Edition) (rs : List Rec) (ss : List Slot) (st : ℕ) : Type 0 where
  pub gaps_apart : apart rs ≡ true
  pub names : names_ok e rs ≡ true
  pub numbers : numbers_ok e rs ≡ true
  pub index : Indexed e (entries rs) ss st
  pub once : once_ok e (entries rs) ≡ true

-- offsets and lengths of the records fit two bytes
abbrev pub small : Rec → Bool
small r = ltb r.off (256 ^ 2) && ltb (size r) (256 ^ 2)

pub laid_small : (e : Edition) (p : Rec → Bool) (o : ℕ) (rs : List Rec) → Laid e o rs → o + length (join rs) < 256 ^ 2 → every small (keep p rs) ≡ true
laid_small e p o [] l h = refl
laid_small e p o (r ∷ rs) l h =
    let h' : o + (size r + length (join rs)) < 256 ^ 2 = rw length-append at h in
    let rest : every small (keep p rs) ≡ true = laid_small e p (o + size r) rs l.2 (omega arith) in
    by_cases (p r)
    (λ q. rw q (every_cons small r (keep p rs)
    (and_both (ltb r.off (256 ^ 2)) (ltb (size r) (256 ^ 2)) (lt-ltb r.off (256 ^ 2) (omega (arith, l.0))) (lt-ltb (size r) (256 ^ 2) (omega arith))) rest))
    (λ q. rw q rest)

-- a test that passes at every record passes at the longest
pub every_longest : (p : Rec → Bool) (g : Rec) (gs : List Rec) → every p (g ∷ gs) ≡ true → p (longest (g ∷ gs)) ≡ true
unfolding longest
every_longest p g [] h = rw (leb-zero (size g)) (every_head p g [] h)
every_longest p g (g₂ ∷ gs) h =
    by_cases (leb (size (longest (g₂ ∷ gs))) (size g))
    (λ q. rw q (every_head p g (g₂ ∷ gs) h))
    (λ q. rw q (every_longest p g₂ gs (every_tail p g (g₂ ∷ gs) h)))

pairs_fit : (k : ℕ) (gs : List Rec) → every small gs ≡ true → PairsFit (best_of k gs)
unfolding best_of
pairs_fit zero gs h = tt
pairs_fit (suc k) [] h = (omega arith, omega arith, pairs_fit k [] h)
pairs_fit (suc k) (g ∷ gs) h =
    let m : Rec = longest (g ∷ gs) in
    let s : small (longest (g ∷ gs)) ≡ true = every_longest small g gs h in (
      ltb-true m.off (256 ^ 2) (and_left (ltb m.off (256 ^ 2)) (ltb (size m) (256 ^ 2)) s),
      ltb-true (size m) (256 ^ 2) (and_right (ltb m.off (256 ^ 2)) (ltb (size m) (256 ^ 2)) s),
      pairs_fit k (besides m.off (g ∷ gs)) (every_keep small (λ r. not (eqb r.off m.off)) (g ∷ gs) h),
    )

pub length_best : (k : ℕ) (gs : List Rec) → length (best_of k gs) ≡ k
unfolding best_of
length_best zero gs = refl
length_best (suc k) [] = ap suc (length_best k [])
length_best (suc k) (g ∷ gs) = ap suc (length_best k (besides (longest (g ∷ gs)).off (g ∷ gs)))

-- the table has three pairs
length_table : (gs : List Rec) → length (best_table gs) ≡ 3
length_table gs = length_best _ gs

pub length_pair_bytes : (ps : List Pair) → length (pair_bytes ps) ≡ 4 * length ps
unfolding pair_bytes
length_pair_bytes [] = refl
length_pair_bytes (p ∷ ps) = simp (length-append, length_to_be) (omega (arith, length_pair_bytes ps))

pub tally_length : (p : Slot → Bool) (ss : List Slot) → tally p ss ≤ length ss
tally_length p [] = omega arith
tally_length p (s ∷ ss) = by_cases (p s) (λ q. rw q (omega (arith, tally_length p ss))) (λ q. rw q (omega (arith, tally_length p ss)))

laid_every : (e : Edition) (o : ℕ) (rs : List Rec) → Laid e o rs → every (whole e) rs ≡ true
laid_every e o [] l = refl
laid_every e o (r ∷ rs) l = every_cons (whole e) r rs (→whole e r l.1) (laid_every e (o + size r) rs l.2)

pub block_bound : (n : ℕ) → block_size n ≡ true → n ≤ 256 ^ 2
block_bound n h = omega (arith, block_size_bounds n h)

-- a block of good parts is accepted if its header bears the magic and the table of its gaps, whatever else stands in the header
module _ (e : Edition) (sane : Sane e) (hd : List ℕ) (rs : List Rec) (ss : List Slot) (st : ℕ) (f : Fit e hd rs ss st) (g : Good e rs ss st)
    (sz : size_ok (build hd rs ss st) ≡ true) (mg : eqb (field 0 4 hd) e.magic ≡ true) (tb : part e.best 12 hd ≡ pair_bytes (best_table (gaps rs))) where
  rest : List ℕ
  rest = join rs ++ (slot_bytes ss ++ tail_bytes (length ss) st)

  good_magic : magic_ok e (build hd rs ss st) ≡ true
  unfolding magic_ok rest
  good_magic =
      ap (λ (l : List ℕ). eqb (be l) e.magic) (take-append-le 4 hd rest (omega (arith, f.head, sane.best_inside))) ∙ mg

  good_span : span_ok e (build hd rs ss st) ≡ true
  unfolding span_ok
  good_span =
      rw (build_count e hd rs ss st f, build_stale e hd rs ss st f)
      (and_both (leb (e.header + 8 * length ss + 8) (length (build hd rs ss st))) (leb st (length ss))
      (le-leb (e.header + 8 * length ss + 8) (length (build hd rs ss st)) (omega (arith, length_build e hd rs ss st f)))
      (le-leb st (length ss) (omega (arith, g.index.stales, tally_length is_stale ss))))

  pub good_pairs : best_pairs e (build hd rs ss st) ≡ best_table (gaps rs)
  unfolding best_pairs rest
  good_pairs =
      let a : List ℕ = take e.best hd in
      let t : List ℕ = pair_bytes (best_table (gaps rs)) in
      let d : List ℕ = drop (e.best + 12) hd in
      let three : hd ≡ a ++ (t ++ d) =
      sym (ap (λ (l : List ℕ). a ++ (l ++ d)) (sym tb) ∙ ap (λ (l : List ℕ). a ++ l) (piece e.best 12 (e.best + 12) hd refl) ∙ take-append-drop e.best hd) in
      let q : build hd rs ss st ≡ a ++ (t ++ (d ++ rest)) =
      ap (λ (l : List ℕ). l ++ rest) three ∙ append_assoc a (t ++ d) rest ∙ ap (λ (l : List ℕ). a ++ l) (append_assoc t d rest) in
      let ll : e.header + length (join rs) < 256 ^ 2 =
      omega (arith, length_build e hd rs ss st f, block_bound (length (build hd rs ss st)) (unfold size_ok in sz)) in
      ap (λ (l : List ℕ). pairs_in 3 (drop e.best l)) q
      ∙ ap (pairs_in 3) (drop_at a (t ++ (d ++ rest)) e.best (simp length-take (omega (arith, f.head, sane.best_inside))))
      ∙ subst (λ (n : ℕ). pairs_in n (t ++ (d ++ rest)) ≡ best_table (gaps rs)) (length_table (gaps rs))
      (pairs_in_bytes (best_table (gaps rs)) (d ++ rest) (pairs_fit _ (gaps rs) (laid_small e is_gap e.header rs f.laid ll)))

  pub good_accepted : Accepted e (build hd rs ss st)
  good_accepted =
      accepted e (build hd rs ss st)
      (record {
        size = sz;
        magic = good_magic;
        span = good_span;
        tile = tile_both e (build hd rs ss st) (rw (build_records e hd rs ss st f) (laid_every e e.header rs f.laid)) (rw (build_records e hd rs ss st f) g.gaps_apart);
        names = rw (build_records e hd rs ss st f) g.names;
        numbers = rw (build_records e hd rs ss st f) g.numbers;
        index = rw (build_records e hd rs ss st f, build_slots e hd rs ss st f, build_stale e hd rs ss st f) (→indexed e rs ss st (apart_keep e is_entry e.header rs (omega (arith, sane.magic_before, sane.best_inside)) f.laid) g.index);
        best = rw (build_records e hd rs ss st f, good_pairs) (best_of_right 3 (gaps rs));
        once = rw (build_records e hd rs ss st f) g.once;
      })

-- a change's header: the table put in, then sealed
module _ (e : Edition) (sane : Sane e) (hd : List ℕ) (rs : List Rec) (ss : List Slot) (st : ℕ) (f : Fit e hd rs ss st)
    (sz : size_ok (build hd rs ss st) ≡ true) (mg : eqb (field 0 4 hd) e.magic ≡ true) where
  table : List ℕ
  table = pair_bytes (best_table (gaps rs))

  table_long : length table ≡ 12
  unfolding table
  table_long = length_pair_bytes (best_table (gaps rs)) ∙ ap (λ (n : ℕ). 4 * n) (length_table (gaps rs))

  behind_head : List ℕ
  behind_head = join rs ++ (slot_bytes ss ++ tail_bytes (length ss) st)

  -- the header with the table in it
  table_head : List ℕ
  table_head = put hd e.best table

  table_head_long : length table_head ≡ e.header
  unfolding table_head
  table_head_long = length_put hd e.best table ∙ f.head

  table_build : with_best e (build hd rs ss st) ≡ table_head ++ behind_head
  unfolding with_best written table table_head behind_head
  table_build =
      ap (λ (l : List Rec). put (build hd rs ss st) e.best (pair_bytes (best_table (gaps l)))) (build_records e hd rs ss st f)
      ∙ put_inside hd (join rs ++ (slot_bytes ss ++ tail_bytes (length ss) st)) e.best table (omega (arith, table_long, f.head, sane.best_inside))

  -- the whole block, sealed
  whole_block : List ℕ
  whole_block = sealed e (table_head ++ behind_head)

  seal : Seals e (table_head ++ behind_head)
  seal = seals e sane (table_head ++ behind_head)

  whole_long : length whole_block ≡ e.header + length behind_head
  unfolding whole_block
  whole_long = seal.long ∙ length-append table_head behind_head ∙ ap (λ (n : ℕ). n + length behind_head) table_head_long

  pub new_head : List ℕ
  new_head = take e.header whole_block

  pub new_build : sealed e (with_best e (build hd rs ss st)) ≡ build new_head rs ss st
  unfolding new_head whole_block behind_head
  new_build =
      ap (sealed e) table_build
      ∙ sym (take-append-drop e.header whole_block)
      ∙ ap (λ (l : List ℕ). new_head ++ l) (seal.behind ∙ drop_at table_head behind_head e.header table_head_long)

  pub new_fit : Fit e new_head rs ss st
  unfolding new_head
  new_fit = record { head = rw length-take (omega (arith, whole_long)); laid = f.laid; few = f.few; fewer = f.fewer; fits = f.fits }

  pub new_size : size_ok (build new_head rs ss st) ≡ true
  unfolding size_ok
  new_size = subst (λ (n : ℕ). block_size n ≡ true) (length_build e hd rs ss st f ∙ sym (length_build e new_head rs ss st new_fit)) sz

  -- a part of the header is that of the header with the table, where the seal leaves it
  part_stays : (o n : ℕ) → o + n ≤ e.header → part o n whole_block ≡ part o n (table_head ++ behind_head) → part o n new_head ≡ part o n table_head
  unfolding new_head
  part_stays o n h q =
      part_part whole_block 0 e.header o n h ∙ ap (λ (k : ℕ). part k n whole_block) (zero-add o) ∙ q
      ∙ sym (ap (λ (k : ℕ). part k n (table_head ++ behind_head)) (zero-add o))
      ∙ sym (part_part (table_head ++ behind_head) 0 e.header o n h)
      ∙ ap (λ (l : List ℕ). part o n l) (take_at table_head behind_head e.header table_head_long)

  pub new_magic : eqb (field 0 4 new_head) e.magic ≡ true
  unfolding whole_block table_head
  new_magic =
      ap (λ (l : List ℕ). eqb (be l) e.magic)
      (part_stays 0 4 (omega (arith, sane.best_inside)) seal.magic_stays ∙ part_before hd 0 4 e.best table sane.magic_before) ∙ mg

  pub new_table : part e.best 12 new_head ≡ pair_bytes (best_table (gaps rs))
  unfolding whole_block table_head table
  new_table =
      part_stays e.best 12 sane.best_inside seal.table_stays
      ∙ subst (λ (n : ℕ). part e.best n (put hd e.best table) ≡ table) table_long (part_inside hd e.best table (omega (arith, table_long, f.head, sane.best_inside)))
