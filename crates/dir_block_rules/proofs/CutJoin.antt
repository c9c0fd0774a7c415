-- The data cut into records, and records laid end to end: one is the other's inverse where every record is whole.
-- Assumes nothing.
use Prim.Native.Nat.{ℕ, zero, suc, ◌+◌, ◌-◌, ◌*◌, ◌%◌, ◌≤◌, ◌<◌}
use native.Mathlib.Nat.{add-zero, zero-add, add_assoc, suc-add, not-suc-le-zero}
use native.Mathlib.Omega.{arith}
use mathlib.Core.Bool.{true, ◌&&◌}
use mathlib.Core.Path.{◌≡◌, refl, sym, ◌∙◌, ap, ap₂}
use mathlib.Core.List.{List, [], ◌∷◌, ◌++◌, append_assoc, append-nil}
use lib.Dec.{eqb, leb}
use lib.ListN.{length, take, drop, get_or, length-append, length-drop, take-append-drop, get_or-append}
use lib.Seq.{take-append-le, drop-append-le, take-append_seam, drop-append_seam}
use borrow.Author.Tests.{eqb-true, leb-true, eq-eqb, le-leb}
use Rattle.edition.proofs.Sizes.{entry_size_least}
use Rattle.be.specs.Lists.{every}
use Rattle.records.proofs.Joined.{joined_append}
use Rattle.edition.specs.declared.Edition.{Edition}
pub use Rattle.dir_block_rules.specs.Record.{join}
use Rattle.dir_block_rules.specs.Record.{Rec, rec, cut, says, record_ok, whole, size, tag, gap_start}
use Rattle.be.proofs.Bools.{and_left, and_right, and_both, by_cases}

-- what whole says
pub record Whole (e : Edition) (r : Rec) : Type 0 where
  pub spans : size r ≡ says e r.raw
  pub least : 8 ≤ size r
  pub eights : size r % 8 ≡ 0
  pub tagged : tag r ≡ r.off

pub whole→ : (e : Edition) (r : Rec) → whole e r ≡ true → Whole e r
unfolding whole record_ok
whole→ e r h =
    let ok : record_ok r ≡ true = and_right (eqb (size r) (says e r.raw)) (record_ok r) h in
    record {
      spans = eqb-true _ _ (and_left _ _ h);
      least = leb-true _ _ (and_left _ _ (and_left _ _ ok));
      eights = eqb-true _ _ (and_right (leb 8 (size r)) _ (and_left _ _ ok));
      tagged = eqb-true _ _ (and_right (leb 8 (size r) && eqb (size r % 8) 0) _ ok);
    }

pub →whole : (e : Edition) (r : Rec) → Whole e r → whole e r ≡ true
unfolding whole record_ok
→whole e r w = and_both _ _ (eq-eqb _ _ w.spans) (and_both _ _ (and_both _ _ (le-leb _ _ w.least) (eq-eqb _ _ w.eights)) (eq-eqb _ _ w.tagged))

pub gap_start_append : (c d : List ℕ) → 2 ≤ length c → gap_start (c ++ d) ≡ gap_start c
gap_start_append c d h = rw (take-append-le 2 c d h)

-- the bytes after a record don't change what it says
pub says_append : (e : Edition) (c d : List ℕ) → length c ≡ says e c → 8 ≤ length c → says e (c ++ d) ≡ says e c
unfolding says
says_append e c d h l =
    by_cases (gap_start c)
    (λ g. rw (gap_start_append c d (omega arith), g) (rw (drop-append-le 2 c d (omega arith), take-append-le 2 (drop 2 c) d (simp length-drop (omega arith)))))
    (λ g.
    let long : 8 < length c = omega (arith, rw g at h, entry_size_least e (get_or c 8 0)) in
    rw (gap_start_append c d (omega arith), g) (rw (get_or-append c d 0 8 long)))

-- whole records, laid end to end from offset o on
abbrev pub Laid : Edition → ℕ → List Rec → Type 0
Laid e o [] = Unit {0}
Laid e o (r ∷ rs) = (r.off ≡ o) × (Whole e r) × Laid e (o + size r) rs

pub join_append : (rs ss : List Rec) → join (rs ++ ss) ≡ join rs ++ join ss
join_append rs ss = joined_append (λ (r : Rec). r.raw) rs ss

pub laid_append : (e : Edition) (o : ℕ) (rs ss : List Rec) → Laid e o rs → Laid e (o + length (join rs)) ss → Laid e o (rs ++ ss)
laid_append e o [] ss h k = rw add-zero at k
laid_append e o (r ∷ rs) ss h k =
    (h.0, h.1, laid_append e (o + size r) rs ss h.2 (rw (length-append, ← add_assoc) at k))

-- one step of the cut
pub cut_step : (e : Edition) (k o : ℕ) (d : List ℕ) → 0 < length d
    → cut e (suc k) o d ≡ rec o (take (says e d) d) ∷ cut e k (o + says e d) (drop (says e d) d)
unfolding cut
cut_step e k o [] h = absurd (not-suc-le-zero h)
cut_step e k o (x ∷ xs) h = refl

-- the records of xs ++ ys, where xs is tiled by the records rs: those, and then the records of ys
pub cut_join : (e : Edition) (k o : ℕ) (rs : List Rec) (ys : List ℕ) → Laid e o rs
    → cut e (length rs + k) o (join rs ++ ys) ≡ rs ++ cut e k (o + length (join rs)) ys
cut_join e k o [] ys h = rw (zero-add, add-zero)
cut_join e k o (r ∷ rs) ys h =
    let w : Whole e r = h.1 in
    let d : List ℕ = join rs ++ ys in
    let n : says e (r.raw ++ d) ≡ size r = says_append e r.raw d w.spans w.least ∙ sym w.spans in
    let long : 0 < length (r.raw ++ d) = simp length-append (omega (arith, w.least)) in
    rw (append_assoc, suc-add) (cut_step e (length rs + k) o (r.raw ++ d) long ∙
    rw (n, take-append_seam r.raw d, drop-append_seam r.raw d, length-append, ← add_assoc)
    (ap₂ (λ (q : Rec) (qs : List Rec). q ∷ qs) (ap (λ (p : ℕ). rec p r.raw) (sym h.0)) (cut_join e k (o + size r) rs ys h.2)))

-- fuel beyond the data's end changes nothing
cut_nil : (e : Edition) (k o : ℕ) → cut e k o [] ≡ []
unfolding cut
cut_nil e zero o = refl
cut_nil e (suc k) o = refl

-- whole records, laid end to end, are what their bytes are cut into
pub cut_laid : (e : Edition) (k o : ℕ) (rs : List Rec) → Laid e o rs → length rs ≤ k → cut e k o (join rs) ≡ rs
cut_laid e k o rs h l =
    let fuel : length rs + (k - length rs) ≡ k = omega arith in
    let c : cut e (length rs + (k - length rs)) o (join rs ++ []) ≡ rs ++ [] =
    rw cut_nil at (cut_join e (k - length rs) o rs [] h) in
    rw (fuel, append-nil (join rs), append-nil rs) at c

-- a whole record at the head of d is as long as d says
pub head_size : (e : Edition) (o : ℕ) (d : List ℕ) → Whole e (rec o (take (says e d) d)) → length (take (says e d) d) ≡ says e d
head_size e o d w =
    let c : List ℕ = take (says e d) d in
    let q : says e (take (says e d) d ++ drop (says e d) d) ≡ says e (take (says e d) d) =
    says_append e (take (says e d) d) (drop (says e d) d) w.spans w.least in
    w.spans ∙ sym q ∙ ap (λ (l : List ℕ). says e l) (take-append-drop (says e d) d)

-- the other way: where the cut's records are all whole, they are laid end to end, and their bytes are the data
pub laid_cut : (e : Edition) (k o : ℕ) (d : List ℕ) → every (whole e) (cut e k o d) ≡ true → Laid e o (cut e k o d)
unfolding cut
laid_cut e zero o d h = tt
laid_cut e (suc k) o [] h = tt
laid_cut e (suc k) o (x ∷ xs) h =
    let r : Rec = rec o (take (says e (x ∷ xs)) (x ∷ xs)) in
    let w : Whole e r = whole→ e r (and_left _ _ h) in
    let ih : Laid e (o + says e (x ∷ xs)) (cut e k (o + says e (x ∷ xs)) (drop (says e (x ∷ xs)) (x ∷ xs))) =
    laid_cut e k (o + says e (x ∷ xs)) (drop (says e (x ∷ xs)) (x ∷ xs)) (and_right (whole e r) _ h) in
    (refl, w, rw (head_size e o (x ∷ xs) w) ih)

pub join_cut : (e : Edition) (k o : ℕ) (d : List ℕ) → length d ≤ k → every (whole e) (cut e k o d) ≡ true → join (cut e k o d) ≡ d
unfolding cut
join_cut e zero o [] l h = refl
join_cut e zero o (x ∷ xs) l h = absurd (not-suc-le-zero l)
join_cut e (suc k) o [] l h = refl
join_cut e (suc k) o (x ∷ xs) l h =
    let r : Rec = rec o (take (says e (x ∷ xs)) (x ∷ xs)) in
    let w : Whole e r = whole→ e r (and_left _ _ h) in
    let less : length (drop (says e (x ∷ xs)) (x ∷ xs)) ≤ k =
    simp length-drop (omega (arith, head_size e o (x ∷ xs) w, w.least)) in
    rw (join_cut e k (o + says e (x ∷ xs)) (drop (says e (x ∷ xs)) (x ∷ xs)) less (and_right (whole e r) _ h))
    (take-append-drop (says e (x ∷ xs)) (x ∷ xs))

pub laid_front : (e : Edition) (o : ℕ) (rs ss : List Rec) → Laid e o (rs ++ ss) → Laid e o rs
laid_front e o [] ss h = tt
laid_front e o (r ∷ rs) ss h = (h.0, h.1, laid_front e (o + size r) rs ss h.2)

pub laid_back : (e : Edition) (o : ℕ) (rs ss : List Rec) → Laid e o (rs ++ ss) → Laid e (o + length (join rs)) ss
laid_back e o [] ss h = rw add-zero h
laid_back e o (r ∷ rs) ss h = rw (length-append, ← add_assoc) (laid_back e (o + size r) rs ss h.2)

-- the records gs replaced by whole records ms of the same length in all. An insert replaces one gap by an entry and perhaps a
-- gap; a removal replaces an entry and the gaps beside it by one gap
pub laid_replaced : (e : Edition) (o : ℕ) (xs gs ms ys : List Rec)
    → Laid e o (xs ++ (gs ++ ys)) → Laid e (o + length (join xs)) ms → length (join ms) ≡ length (join gs)
    → Laid e o (xs ++ (ms ++ ys))
laid_replaced e o xs gs ms ys h m q =
    let back : Laid e (o + length (join xs) + length (join gs)) ys =
    laid_back e (o + length (join xs)) gs ys (laid_back e o xs (gs ++ ys) h) in
    laid_append e o xs (ms ++ ys) (laid_front e o xs (gs ++ ys) h)
    (laid_append e (o + length (join xs)) ms ys m (rw q back))

-- fewer records than bytes, so the block's length is fuel enough
pub laid_count : (e : Edition) (o : ℕ) (rs : List Rec) → Laid e o rs → 8 * length rs ≤ length (join rs)
laid_count e o [] h = omega arith
laid_count e o (r ∷ rs) h = simp length-append (omega (arith, laid_count e (o + size r) rs h.2, h.1.least))
