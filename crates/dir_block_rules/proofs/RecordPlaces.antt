-- Where records stand, and what a block reads at their offsets.
-- Assumes nothing.
use Prim.Native.Nat.{ℕ, ◌+◌, ◌*◌, ◌%◌, ◌≤◌, ◌<◌}
use native.Mathlib.Nat.{add_assoc}
use native.Mathlib.Omega.{arith}
use mathlib.Core.Bool.{Bool, true, false, not, ◌&&◌}
use mathlib.Core.Path.{◌≡◌, refl, sym, ◌∙◌, ap, ap₂}
use mathlib.Core.List.{List, [], ◌∷◌, ◌++◌, map}
use lib.Dec.{eqb}
use lib.ListN.{length, take, drop, get_or, length-drop, get_or-append}
use lib.Seq.{drop-append_seam, take-append-le, drop-append-le, drop-append-add, get_or-append-add}
use borrow.Author.Tests.{eqb-false, eq-eqb, ne_eqb, not-true}
use Rattle.be.specs.Lists.{every, some_of, keep}
use Rattle.be.specs.Bytes.{be, part}
use Rattle.edition.specs.declared.Edition.{Edition}
use Rattle.dir.specs.Target.{target}
use Rattle.dir_block_rules.specs.Record.{Rec, says, size, name, number, kind_of, target_of, is_gap}
use Rattle.dir_block_rules.specs.Lookup.{name_at, number_at, kind_at, target_at}
use Rattle.be.proofs.Bools.{and_left, and_right, by_cases, every_cons, every_head, every_tail}
use Rattle.edition.proofs.Sizes.{entry_size_least}
use Rattle.dir_block_rules.proofs.CutJoin.{Laid, Whole}
use Rattle.dir_block_rules.proofs.SlotCounts.{Apart}
use Rattle.dir_block_rules.proofs.IndexedEntries.{addr_of}
use Rattle.be.proofs.Splits.{every_mid, every_map}

-- addresses past a bound are not at it
above : (e : Edition) (p : Rec → Bool) (a o : ℕ) (rs : List Rec) → 8 * a + 8 ≤ o → Laid e o rs → every (λ c. not (eqb a c)) (map addr_of (keep p rs)) ≡ true
above e p a o [] h l = refl
above e p a o (r ∷ rs) h l =
    let rest : every (λ c. not (eqb a c)) (map addr_of (keep p rs)) ≡ true = above e p a (o + size r) rs (omega arith) l.2 in
    by_cases (p r)
    (λ q. rw q (every_cons (λ c. not (eqb a c)) (addr_of r) (map addr_of (keep p rs))
    (rw (ne_eqb a (addr_of r) (λ (z : a ≡ addr_of r). omega (arith, l.0)))) rest))
    (λ q. rw q rest)

-- the addresses of whole records laid end to end are apart
pub apart_keep : (e : Edition) (p : Rec → Bool) (o : ℕ) (rs : List Rec) → 8 ≤ o → Laid e o rs → Apart (map addr_of (keep p rs))
apart_keep e p o [] h l = tt
apart_keep e p o (r ∷ rs) h l =
    let rest : Apart (map addr_of (keep p rs)) = apart_keep e p (o + size r) rs (omega arith) l.2 in
    by_cases (p r)
    (λ q. rw q (omega (arith, l.0), above e p (addr_of r) (o + size r) rs (omega (arith, l.0, l.1.least)) l.2, rest))
    (λ q. rw q rest)

eqb_not_swap : (a b : ℕ) → not (eqb a b) ≡ true → not (eqb b a) ≡ true
eqb_not_swap a b h = rw (ne_eqb b a (λ (z : b ≡ a). eqb-false a b (not-true (eqb a b) h) (sym z)))

-- the element in the middle may stand first
pub apart_front : (xs : List Rec) (x : Rec) (ys : List Rec) → Apart (map addr_of (xs ++ x ∷ ys)) → Apart (addr_of x ∷ map addr_of (xs ++ ys))
apart_front [] x ys a = a
apart_front (z ∷ xs) x ys a =
    let ih : Apart (addr_of x ∷ map addr_of (xs ++ ys)) = apart_front xs x ys a.2 in
    let p : ℕ → Bool = λ c. not (eqb (addr_of z) c) in
    let m : (p (addr_of x) && every (λ r. p (addr_of r)) (xs ++ ys)) ≡ true =
    sym (every_mid (λ (r : Rec). p (addr_of r)) xs x ys) ∙ (sym (every_map p addr_of (xs ++ x ∷ ys)) ∙ a.1) in
    let zx : not (eqb (addr_of z) (addr_of x)) ≡ true = and_left (p (addr_of x)) (every (λ r. p (addr_of r)) (xs ++ ys)) m in
    let rest : every (λ c. not (eqb (addr_of z) c)) (map addr_of (xs ++ ys)) ≡ true =
    every_map p addr_of (xs ++ ys) ∙ and_right (p (addr_of x)) (every (λ r. p (addr_of r)) (xs ++ ys)) m in
    (ih.0, every_cons (λ c. not (eqb (addr_of x) c)) (addr_of z) (map addr_of (xs ++ ys)) (eqb_not_swap (addr_of z) (addr_of x) zx) ih.1, (a.0, rest, ih.2))

-- offsets are multiples of 8
pub laid_eights : (e : Edition) (p : Rec → Bool) (o : ℕ) (rs : List Rec) → o % 8 ≡ 0 → Laid e o rs → every (λ r. eqb (8 * addr_of r) r.off) (keep p rs) ≡ true
laid_eights e p o [] h l = refl
laid_eights e p o (r ∷ rs) h l =
    let rest : every (λ r. eqb (8 * addr_of r) r.off) (keep p rs) ≡ true = laid_eights e p (o + size r) rs (omega (arith, l.1.eights)) l.2 in
    by_cases (p r)
    (λ q. rw q (every_cons (λ r. eqb (8 * addr_of r) r.off) r (keep p rs) (eq-eqb (8 * addr_of r) r.off (omega (arith, l.0))) rest))
    (λ q. rw q rest)

-- what a block reads at an entry's offset
module _ (e : Edition) (p q : List ℕ) (r : Rec) (w : Whole e r) (i : is_gap r ≡ false) (h : length p ≡ r.off) where
  entry_long : 11 + e.ftype + get_or r.raw 8 0 ≤ size r
  unfolding says
  entry_long = omega (arith, rw i at w.spans, entry_size_least e (get_or r.raw 8 0))

  pub number_there : number_at (p ++ (r.raw ++ q)) r.off ≡ number r
  number_there =
      ap be (ap (λ (n : ℕ). take 8 (drop n (p ++ (r.raw ++ q)))) (sym h) ∙ ap (take 8) (drop-append_seam p (r.raw ++ q)) ∙ take-append-le 8 r.raw q w.least)

  -- the name, as the part of the block that starts after number and namelen
  pub part_there : part (r.off + 9) (get_or r.raw 8 0) (p ++ (r.raw ++ q)) ≡ name r
  part_there =
      ap (λ (n : ℕ). take (get_or r.raw 8 0) (drop (n + 9) (p ++ (r.raw ++ q)))) (sym h)
      ∙ ap (take (get_or r.raw 8 0)) (drop-append-add p (r.raw ++ q) 9 ∙ drop-append-le 9 r.raw q (omega (arith, entry_long)))
      ∙ take-append-le (get_or r.raw 8 0) (drop 9 r.raw) q (simp length-drop (omega (arith, entry_long)))

  long_there : get_or (p ++ (r.raw ++ q)) (r.off + 8) 0 ≡ get_or r.raw 8 0
  long_there =
      ap (λ (n : ℕ). get_or (p ++ (r.raw ++ q)) (n + 8) 0) (sym h) ∙ get_or-append-add p (r.raw ++ q) 8 0 ∙ get_or-append r.raw q 0 8 (omega (arith, entry_long))

  pub name_there : name_at (p ++ (r.raw ++ q)) r.off ≡ name r
  name_there =
      ap (λ (n : ℕ). part (r.off + 9) n (p ++ (r.raw ++ q))) long_there ∙ part_there

  pub kind_there : kind_at e (p ++ (r.raw ++ q)) r.off ≡ kind_of e r
  kind_there =
      let k : ℕ = get_or r.raw 8 0 in
      ap₂ (λ (o n : ℕ). be (take e.ftype (drop (o + 9 + n) (p ++ (r.raw ++ q))))) (sym h) long_there
      ∙ ap (λ (o : ℕ). be (take e.ftype (drop o (p ++ (r.raw ++ q))))) (add_assoc (length p) 9 k)
      ∙ ap (λ (l : List ℕ). be (take e.ftype l)) (drop-append-add p (r.raw ++ q) (9 + k) ∙ drop-append-le (9 + k) r.raw q (omega (arith, entry_long)))
      ∙ ap be (take-append-le e.ftype (drop (9 + k) r.raw) q (simp length-drop (omega (arith, entry_long))))

  pub target_there : target_at e (p ++ (r.raw ++ q)) r.off ≡ target_of e r
  target_there = ap₂ (λ (i k : ℕ). target i k) number_there kind_there

pub apart_pos : (es : List Rec) → Apart (map addr_of es) → every (λ r. not (eqb (addr_of r) 0)) es ≡ true
apart_pos [] a = refl
apart_pos (r ∷ es) a =
    every_cons (λ r. not (eqb (addr_of r) 0)) r es (rw (ne_eqb (addr_of r) 0 (λ (z : addr_of r ≡ 0). omega (arith, a.0)))) (apart_pos es a.2)

-- records laid from o on stand at o or behind
pub off_above : (e : Edition) (p : Rec → Bool) (c o : ℕ) (rs : List Rec) → c < o → Laid e o rs → every (λ h. not (eqb h.off c)) (keep p rs) ≡ true
off_above e p c o [] h l = refl
off_above e p c o (r ∷ rs) h l =
    let more : every (λ h. not (eqb h.off c)) (keep p rs) ≡ true = off_above e p c (o + size r) rs (omega arith) l.2 in
    by_cases (p r)
    (λ q. rw q (every_cons (λ h. not (eqb h.off c)) r (keep p rs) (rw (ne_eqb r.off c (λ (z : r.off ≡ c). omega (arith, l.0)))) more))
    (λ q. rw q more)

-- no record starts at c
pub none_at : (c : ℕ) (rs : List Rec) → every (λ h. not (eqb h.off c)) rs ≡ true → some_of (λ r. eqb r.off c) rs ≡ false
none_at c [] h = refl
none_at c (r ∷ rs) h =
    rw (not-true (eqb r.off c) (every_head (λ h. not (eqb h.off c)) r rs h)) (none_at c rs (every_tail (λ h. not (eqb h.off c)) r rs h))
