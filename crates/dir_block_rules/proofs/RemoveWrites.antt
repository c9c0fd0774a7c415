-- A removal: the entry and the gaps beside it become one gap, and its slot goes stale.
-- Assumes nothing.
use Prim.Native.Nat.{ℕ, suc, ◌+◌, ◌-◌, ◌*◌, ◌≤◌, ◌<◌}
use native.Mathlib.Nat.{add-zero, add_assoc, le_refl}
use native.Mathlib.Omega.{arith}
use mathlib.Core.Bool.{true, false}
use mathlib.Core.Path.{◌≡◌, refl, sym, ◌∙◌, ap, subst}
use mathlib.Core.List.{List, [], ◌∷◌, ◌++◌, append_assoc, append-nil}
use lib.ListN.{length, length-append}
use borrow.Author.Tests.{eq-eqb, ne_eqb}
use Rattle.be.specs.Bytes.{to_be, put, written, write}
use Rattle.edition.specs.declared.Edition.{Edition}
use Rattle.dir_block_rules.specs.Record.{Rec, size, is_gap, gaps, gap_writes}
use Rattle.dir_block_rules.specs.Block.{Slot, slot, slot_bytes}
use Rattle.dir_block_rules.specs.Change.{gap_start_before, gap_end_after}
use Rattle.be.proofs.Bools.{by_cases}
use Rattle.be.proofs.Numbers.{length_to_be}
use Rattle.be.proofs.Writes.{put_at}
use Rattle.dir_block_rules.proofs.CutJoin.{join, Laid, laid_back}
use Rattle.dir_block_rules.proofs.BlockParts.{tail_bytes, length_slot_bytes}
use Rattle.dir_block_rules.proofs.WritesLeave.{written_append, gap_written, free, Gapful, length_free}
use Rattle.dir_block_rules.proofs.GapsApart.{last_gap?}
use Rattle.dir_block_rules.proofs.InsertWrites.{join_three, regroup}

-- no gap of records from o on ends at p, where p ≤ o
before_none : (e : Edition) (p o : ℕ) (zs : List Rec) → p ≤ o → Laid e o zs → gap_start_before p (gaps zs) ≡ p
unfolding gap_start_before
before_none e p o [] h l = refl
before_none e p o (z ∷ zs) h l =
    by_cases (is_gap z)
    (λ q. rw (q, ne_eqb (z.off + size z) p (λ (y : z.off + size z ≡ p). omega (arith, l.0, l.1.least))) (before_none e p (o + size z) zs (omega arith) l.2))
    (λ q. rw q (before_none e p (o + size z) zs (omega arith) l.2))

-- records before p, the last of which is the gap g or no gap at all
pub before_gap : (e : Edition) (o : ℕ) (xs : List Rec) (g : Rec) (zs : List Rec) → Laid e o (xs ++ g ∷ zs) → is_gap g ≡ true
    → gap_start_before (o + length (join xs) + size g) (gaps (xs ++ g ∷ zs)) ≡ o + length (join xs)
unfolding gap_start_before
before_gap e o [] g zs l q = rw (q, eq-eqb (g.off + size g) (o + 0 + size g) (omega (arith, l.0))) (omega (arith, l.0))
before_gap e o (x ∷ xs) g zs l q =
    let ih : gap_start_before (o + size x + length (join xs) + size g) (gaps (xs ++ g ∷ zs)) ≡ o + size x + length (join xs) = before_gap e (o + size x) xs g zs l.2 q in
    let m : o + length (x.raw ++ join xs) ≡ o + size x + length (join xs) = rw (length-append, add_assoc) in
    let w : Laid e (o + size x + length (join xs)) (g ∷ zs) = laid_back e (o + size x) xs (g ∷ zs) l.2 in
    rw m (by_cases (is_gap x)
    (λ y. rw (y, ne_eqb (x.off + size x) (o + size x + length (join xs) + size g) (λ (v : x.off + size x ≡ o + size x + length (join xs) + size g). omega (arith, l.0, w.1.least))) ih)
    (λ y. rw y ih))

pub before_entry : (e : Edition) (o : ℕ) (xs zs : List Rec) → Laid e o (xs ++ zs) → last_gap? false xs ≡ false
    → gap_start_before (o + length (join xs)) (gaps (xs ++ zs)) ≡ o + length (join xs)
unfolding gap_start_before
before_entry e o [] zs l q = rw add-zero (before_none e o o zs (le_refl o) l)
before_entry e o (x ∷ []) zs l q = rw (append-nil x.raw, q) (before_none e (o + size x) (o + size x) zs (le_refl (o + size x)) l.2)
before_entry e o (x ∷ y ∷ xs) zs l q =
    let ih : gap_start_before (o + size x + length (y.raw ++ join xs)) (gaps (y ∷ (xs ++ zs))) ≡ o + size x + length (y.raw ++ join xs) = before_entry e (o + size x) (y ∷ xs) zs l.2 q in
    let m : o + length (x.raw ++ (y.raw ++ join xs)) ≡ o + size x + length (y.raw ++ join xs) = rw (length-append x.raw (y.raw ++ join xs), add_assoc) in
    let far : x.off + size x ≡ o + size x + length (y.raw ++ join xs) → ⊥ =
    λ v. omega (arith, l.0, l.2.1.least, length-append y.raw (join xs), v) in
    rw m (by_cases (is_gap x)
    (λ w. rw (w, ne_eqb (x.off + size x) (o + size x + length (y.raw ++ join xs)) far) ih)
    (λ w. rw w ih))

-- the gap that starts at p
after_none : (e : Edition) (p o : ℕ) (zs : List Rec) → p < o → Laid e o zs → gap_end_after p (gaps zs) ≡ p
unfolding gap_end_after
after_none e p o [] h l = refl
after_none e p o (z ∷ zs) h l =
    by_cases (is_gap z)
    (λ q. rw (q, ne_eqb z.off p (λ (y : z.off ≡ p). omega (arith, l.0))) (after_none e p (o + size z) zs (omega arith) l.2))
    (λ q. rw q (after_none e p (o + size z) zs (omega arith) l.2))

after_skip : (e : Edition) (o : ℕ) (xs zs : List Rec) → Laid e o (xs ++ zs) → gap_end_after (o + length (join xs)) (gaps (xs ++ zs)) ≡ gap_end_after (o + length (join xs)) (gaps zs)
unfolding gap_end_after
after_skip e o [] zs l = refl
after_skip e o (x ∷ xs) zs l =
    let ih : gap_end_after (o + size x + length (join xs)) (gaps (xs ++ zs)) ≡ gap_end_after (o + size x + length (join xs)) (gaps zs) = after_skip e (o + size x) xs zs l.2 in
    let m : o + length (x.raw ++ join xs) ≡ o + size x + length (join xs) = rw (length-append, add_assoc) in
    rw m (by_cases (is_gap x)
    (λ y. rw (y, ne_eqb x.off (o + size x + length (join xs)) (λ (v : x.off ≡ o + size x + length (join xs)). omega (arith, l.0, l.1.least))) ih)
    (λ y. rw y ih))

pub after_gap : (e : Edition) (o : ℕ) (xs : List Rec) (g : Rec) (zs : List Rec) → Laid e o (xs ++ g ∷ zs) → is_gap g ≡ true
    → gap_end_after (o + length (join xs)) (gaps (xs ++ g ∷ zs)) ≡ o + length (join xs) + size g
unfolding gap_end_after
after_gap e o xs g zs l q =
    let w : Laid e (o + length (join xs)) (g ∷ zs) = laid_back e o xs (g ∷ zs) l in
    after_skip e o xs (g ∷ zs) l ∙ rw (q, eq-eqb g.off (o + length (join xs)) w.0) (omega (arith, w.0))

pub after_entry : (e : Edition) (o : ℕ) (xs : List Rec) (z : Rec) (zs : List Rec) → Laid e o (xs ++ z ∷ zs) → is_gap z ≡ false
    → gap_end_after (o + length (join xs)) (gaps (xs ++ z ∷ zs)) ≡ o + length (join xs)
after_entry e o xs z zs l q =
    let w : Laid e (o + length (join xs)) (z ∷ zs) = laid_back e o xs (z ∷ zs) l in
    after_skip e o xs (z ∷ zs) l ∙ rw q (after_none e (o + length (join xs)) (o + length (join xs) + size z) zs (omega (arith, w.1.least)) w.2)

pub after_end : (e : Edition) (o : ℕ) (xs : List Rec) → Laid e o xs → gap_end_after (o + length (join xs)) (gaps xs) ≡ o + length (join xs)
unfolding gap_end_after
after_end e o xs l = subst (λ (ys : List Rec). gap_end_after (o + length (join xs)) (gaps ys) ≡ o + length (join xs)) (append-nil xs) (after_skip e o xs [] (rw append-nil l))

pub slot_bytes_append : (us vs : List Slot) → slot_bytes (us ++ vs) ≡ slot_bytes us ++ slot_bytes vs
unfolding slot_bytes
slot_bytes_append [] vs = refl
slot_bytes_append (u ∷ us) vs = rw (slot_bytes_append us vs) (simp append_assoc)

-- an address and the stale count written
stale_written : (F ub hb ab zb vb nb sb tb : List ℕ) (k l : ℕ) → length F + (length ub + length hb) ≡ k → length zb ≡ length ab
    → length F + (length ub + (length hb + (length ab + length vb)) + length nb) ≡ l → length tb ≡ length sb
    → put (put (F ++ ((ub ++ (hb ++ (ab ++ vb))) ++ (nb ++ sb))) k zb) l tb ≡ F ++ ((ub ++ (hb ++ (zb ++ vb))) ++ (nb ++ tb))
stale_written F ub hb ab zb vb nb sb tb k l hk hz hl ht =
    let q1 : F ++ ((ub ++ (hb ++ (ab ++ vb))) ++ (nb ++ sb)) ≡ (F ++ (ub ++ hb)) ++ (ab ++ (vb ++ (nb ++ sb))) = simp append_assoc in
    let q2 : (F ++ (ub ++ hb)) ++ (zb ++ (vb ++ (nb ++ sb))) ≡ (F ++ ((ub ++ (hb ++ (zb ++ vb))) ++ nb)) ++ (sb ++ []) = simp (append_assoc, append-nil) in
    let q3 : (F ++ ((ub ++ (hb ++ (zb ++ vb))) ++ nb)) ++ (tb ++ []) ≡ F ++ ((ub ++ (hb ++ (zb ++ vb))) ++ (nb ++ tb)) = simp (append_assoc, append-nil) in
    ap (λ (d : List ℕ). put (put d k zb) l tb) q1
    ∙ ap (λ (d : List ℕ). put d l tb) (put_at (F ++ (ub ++ hb)) ab zb (vb ++ (nb ++ sb)) k (simp length-append hk) hz ∙ q2)
    ∙ put_at (F ++ ((ub ++ (hb ++ (zb ++ vb))) ++ nb)) sb tb [] l (simp length-append (omega arith)) ht
    ∙ q3

-- the writes of a removal, over the bytes c of the entry and the gaps beside it, and over the address of slot s
pub removed : (hd : List ℕ) (xs : List Rec) (c : List ℕ) (ys : List Rec) (us : List Slot) (s : Slot) (vs : List Slot) (n st st' o k len : ℕ)
    → length (hd ++ join xs) ≡ o → Gapful c → n ≡ length (us ++ s ∷ vs)
    → o + length c + length (join ys) + 8 * length us + 4 ≡ k → o + length c + length (join ys) + 8 * n + 8 ≡ len
    → written (hd ++ (join xs ++ (c ++ (join ys ++ (slot_bytes (us ++ s ∷ vs) ++ tail_bytes n st)))))
    (gap_writes o (length c) ++ (write k (to_be 4 0) ∷ write (len - 4) (to_be 4 st') ∷ []))
    ≡ hd ++ (join (xs ++ (free o c ++ ys)) ++ (slot_bytes (us ++ slot s.hash 0 ∷ vs) ++ tail_bytes n st'))
unfolding written slot_bytes
removed hd xs c ys us s vs n st st' o k len h g q hk hl =
    let F : List ℕ = hd ++ join (xs ++ (free o c ++ ys)) in
    let SB : List ℕ = slot_bytes (us ++ s ∷ vs) in
    let T : List ℕ = tail_bytes n st in
    let ub : List ℕ = slot_bytes us in
    let hb : List ℕ = to_be 4 s.hash in
    let ab : List ℕ = to_be 4 s.addr in
    let vb : List ℕ = slot_bytes vs in
    let g1 : written (hd ++ (join xs ++ (c ++ (join ys ++ (SB ++ T))))) (gap_writes o (length c)) ≡ F ++ (SB ++ T) =
    ap (λ (d : List ℕ). written d (gap_writes o (length c))) (sym (append_assoc hd (join xs) (c ++ (join ys ++ (SB ++ T)))))
    ∙ gap_written (hd ++ join xs) c (join ys ++ (SB ++ T)) o h g
    ∙ regroup hd (join xs) (join (free o c)) (join ys) (SB ++ T)
    ∙ ap (λ (d : List ℕ). hd ++ d ++ (SB ++ T)) (sym (join_three xs (free o c) ys)) in
    let lf : length F ≡ o + length c + length (join ys) =
    length-append hd (join (xs ++ (free o c ++ ys))) ∙ ap (λ (d : List ℕ). length hd + length d) (join_three xs (free o c) ys)
    ∙ simp length-append (omega (arith, length_free o c g, length-append hd (join xs), h)) in
    let lu : length ub ≡ 8 * length us = length_slot_bytes us in
    let lv : length vb ≡ 8 * length vs = length_slot_bytes vs in
    let ln : length (us ++ s ∷ vs) ≡ length us + suc (length vs) = length-append us (s ∷ vs) in
    written_append (hd ++ (join xs ++ (c ++ (join ys ++ (SB ++ T))))) (gap_writes o (length c)) (write k (to_be 4 0) ∷ write (len - 4) (to_be 4 st') ∷ [])
    ∙ ap (λ (d : List ℕ). put (put d k (to_be 4 0)) (len - 4) (to_be 4 st')) (g1 ∙ ap (λ (d : List ℕ). F ++ (d ++ T)) (slot_bytes_append us (s ∷ vs)))
    ∙ stale_written F ub hb ab (to_be 4 0) vb (to_be 4 n) (to_be 4 st) (to_be 4 st') k (len - 4)
    (omega (arith, lf, lu, length_to_be 4 s.hash, hk))
    (rw (length_to_be 4 0, length_to_be 4 s.addr))
    (omega (arith, lf, lu, lv, ln, q, length_to_be 4 s.hash, length_to_be 4 s.addr, length_to_be 4 n, hl))
    (rw (length_to_be 4 st, length_to_be 4 st'))
    ∙ ap (λ (d : List ℕ). F ++ (d ++ tail_bytes n st')) (sym (slot_bytes_append us (slot s.hash 0 ∷ vs)))
    ∙ append_assoc hd (join (xs ++ (free o c ++ ys))) (slot_bytes (us ++ slot s.hash 0 ∷ vs) ++ tail_bytes n st')
