-- What the writes of a change leave, on a block that is put together from parts.
-- Assumes nothing.
use Prim.Native.Nat.{ℕ, ◌+◌, ◌-◌, ◌*◌, ◌%◌, ◌^◌, ◌≤◌, ◌<◌}
use native.Mathlib.Omega.{arith}
use mathlib.Core.Bool.{false}
use mathlib.Core.Path.{◌≡◌, refl, sym, ◌∙◌, ap, ap₂, subst}
use mathlib.Core.List.{List, [], ◌∷◌, ◌++◌, append_assoc, append-nil}
use lib.ListN.{length, take, drop, get_or, length-replicate, length-append, length-take, length-drop, take-append-drop}
use lib.Seq.{take_at, drop_at}
use borrow.Author.Tests.{ne_eqb}
use Rattle.be.specs.Bytes.{be, be_from, to_be, part, field, put, written, Write}
use Rattle.edition.specs.declared.Edition.{Edition}
use Rattle.edition.specs.Edition.{entry_size}
use Rattle.dir.specs.declared.Target.{Target}
use Rattle.dir_block_rules.specs.Record.{pad, Rec, rec, says, tag, gap_start, entry_bytes, gap_writes}
use Rattle.dir_block_rules.specs.Block.{Slot, slot_bytes}
use Rattle.dir_block_rules.specs.Change.{entry_writes, index_writes}
use Rattle.be.proofs.Numbers.{length_to_be, be_to_be}
use Rattle.be.proofs.Parts.{piece}
use Rattle.be.proofs.Writes.{put_at}
use Rattle.edition.proofs.Sizes.{entry_size_least}
use Rattle.dir_block_rules.proofs.CutJoin.{join, Laid, Whole}
use Rattle.dir_block_rules.proofs.BlockParts.{tail_bytes, length_slot_bytes}

pub written_append : (b : List ℕ) (ws vs : List Write) → written b (ws ++ vs) ≡ written (written b ws) vs
unfolding written
written_append b [] vs = refl
written_append b (w ∷ ws) vs = written_append (put b w.place w.what) ws vs

-- the bytes of a gap at offset o over the bytes c: its three fields, and between them what stood there
abbrev pub gap_raw : ℕ → List ℕ → List ℕ
gap_raw o c = (0xff ∷ 0xff ∷ to_be 2 (length c)) ++ (part 4 (length c - 6) c ++ to_be 2 o)

-- the gap of the bytes c at offset o; none if there are no bytes
abbrev pub free : ℕ → List ℕ → List Rec
free o [] = []
free o (x ∷ xs) = rec o (gap_raw o (x ∷ xs)) ∷ []

-- none, or enough for a gap
abbrev pub Gapful : List ℕ → Type 0
Gapful [] = Unit {0}
Gapful (x ∷ xs) = (8 ≤ length (x ∷ xs)) × (length (x ∷ xs) % 8 ≡ 0)

pub length_gap_raw : (o : ℕ) (c : List ℕ) → 8 ≤ length c → length (gap_raw o c) ≡ length c
length_gap_raw o c h = simp (length-append, length_to_be, length-take, length-drop) (omega arith)

pub length_free : (o : ℕ) (c : List ℕ) → Gapful c → length (join (free o c)) ≡ length c
length_free o [] h = refl
length_free o (x ∷ xs) h = ap length (append-nil (gap_raw o (x ∷ xs))) ∙ length_gap_raw o (x ∷ xs) h.0

-- c in three pieces: 4 bytes, what a gap keeps, and 2 bytes
three : (c : List ℕ) → 8 ≤ length c → c ≡ take 4 c ++ (part 4 (length c - 6) c ++ drop (length c - 2) c)
three c h = rw (piece 4 (length c - 6) (length c - 2) c (omega arith)) (sym (take-append-drop 4 c))

gap_written_cons : (p c q : List ℕ) → 8 ≤ length c
    → put (put (p ++ (c ++ q)) (length p) (0xff ∷ 0xff ∷ to_be 2 (length c))) (length p + length c - 2) (to_be 2 (length p))
    ≡ p ++ (gap_raw (length p) c ++ q)
gap_written_cons p c q h =
    let a : List ℕ = take 4 c in
    let m : List ℕ = part 4 (length c - 6) c in
    let z : List ℕ = drop (length c - 2) c in
    let f : List ℕ = 0xff ∷ 0xff ∷ to_be 2 (length c) in
    let s1 : put (p ++ (c ++ q)) (length p) f ≡ p ++ (f ++ (m ++ (z ++ q))) =
    ap (λ (l : List ℕ). put (p ++ (l ++ q)) (length p) f) (three c h)
    ∙ ap (λ (l : List ℕ). put (p ++ l) (length p) f) (append_assoc a (m ++ z) q ∙ ap (λ (l : List ℕ). a ++ l) (append_assoc m z q))
    ∙ put_at p a f (m ++ (z ++ q)) (length p) refl (simp (length_to_be, length-take) (omega arith)) in
    let s2 : p ++ (f ++ (m ++ (z ++ q))) ≡ (p ++ (f ++ m)) ++ (z ++ q) = simp append_assoc in
    ap (λ (l : List ℕ). put l (length p + length c - 2) (to_be 2 (length p))) (s1 ∙ s2)
    ∙ put_at (p ++ (f ++ m)) z (to_be 2 (length p)) q (length p + length c - 2) (simp (length-append, length_to_be, length-take, length-drop) (omega arith)) (simp (length_to_be, length-drop) (omega arith))
    ∙ simp append_assoc

-- the writes of a gap over the bytes c behind p
pub gap_written : (p c q : List ℕ) (o : ℕ) → length p ≡ o → Gapful c
    → written (p ++ (c ++ q)) (gap_writes o (length c)) ≡ p ++ (join (free o c) ++ q)
unfolding gap_writes written
gap_written p [] q o k h = refl
gap_written p (x ∷ xs) q o k h =
    subst (λ (n : ℕ). put (put (p ++ ((x ∷ xs) ++ q)) n (0xff ∷ 0xff ∷ to_be 2 (length (x ∷ xs)))) (n + length (x ∷ xs) - 2) (to_be 2 n)
    ≡ p ++ (join (free n (x ∷ xs)) ++ q))
    k (gap_written_cons p (x ∷ xs) q h.0 ∙ ap (λ (l : List ℕ). p ++ (l ++ q)) (sym (append-nil (gap_raw (length p) (x ∷ xs)))))

-- such a gap is whole
gap_tag : (o : ℕ) (c : List ℕ) → 8 ≤ length c → o < 256 ^ 2 → tag (rec o (gap_raw o c)) ≡ o
gap_tag o c h k =
    let f : List ℕ = (0xff ∷ 0xff ∷ to_be 2 (length c)) ++ part 4 (length c - 6) c in
    let q : gap_raw o c ≡ f ++ to_be 2 o = sym (append_assoc (0xff ∷ 0xff ∷ to_be 2 (length c)) (part 4 (length c - 6) c) (to_be 2 o)) in
    let n : length f ≡ length (gap_raw o c) - 2 = rw (length_gap_raw o c h) (simp (length-append, length_to_be, length-take, length-drop) (omega arith)) in
    ap be (ap (λ (l : List ℕ). drop (length (gap_raw o c) - 2) l) q ∙ drop_at f (to_be 2 o) (length (gap_raw o c) - 2) n) ∙ be_to_be 2 o k

gap_says : (e : Edition) (o : ℕ) (c : List ℕ) → length c < 256 ^ 2 → says e (gap_raw o c) ≡ length c
unfolding says be be_from
gap_says e o c h =
    ap be (take_at (to_be 2 (length c)) (part 4 (length c - 6) c ++ to_be 2 o) 2 (length_to_be 2 (length c))) ∙ be_to_be 2 (length c) h

pub gap_whole : (e : Edition) (o : ℕ) (c : List ℕ) → 8 ≤ length c → length c % 8 ≡ 0 → length c < 256 ^ 2 → o < 256 ^ 2 → Whole e (rec o (gap_raw o c))
gap_whole e o c h m k l =
    record {
      spans = length_gap_raw o c h ∙ sym (gap_says e o c k);
      least = rw (length_gap_raw o c h) h;
      eights = rw (length_gap_raw o c h) m;
      tagged = gap_tag o c h l;
    }

pub free_laid : (e : Edition) (o : ℕ) (c : List ℕ) → Gapful c → length c < 256 ^ 2 → o < 256 ^ 2 → Laid e o (free o c)
free_laid e o [] h k l = tt
free_laid e o (x ∷ xs) h k l = (refl, gap_whole e o (x ∷ xs) h.0 h.1 k l, tt)

-- a new entry is whole
pub length_pad : (e : Edition) (k : ℕ) (n : List ℕ) → length (pad e k n) ≡ entry_size e (length n) - (11 + length n)
unfolding pad
length_pad e k n = simp (length-append, length_to_be, length-replicate) (omega (arith, entry_size_least e (length n)))

pub length_entry_bytes : (e : Edition) (o : ℕ) (i : Target) (n : List ℕ) → length (entry_bytes e o i n) ≡ entry_size e (length n)
unfolding entry_bytes
length_entry_bytes e o i n =
    simp (length-append, length_to_be, length_pad) (omega (arith, entry_size_least e (length n)))

entry_tag : (e : Edition) (o : ℕ) (i : Target) (n : List ℕ) → o < 256 ^ 2 → tag (rec o (entry_bytes e o i n)) ≡ o
unfolding entry_bytes
entry_tag e o i n h =
    let f : List ℕ = to_be 8 i.inode ++ (length n ∷ n) ++ pad e i.kind n in
    let k : length f ≡ length (entry_bytes e o i n) - 2 =
    rw (length_entry_bytes e o i n) (simp (length-append, length_to_be, length_pad) (omega (arith, entry_size_least e (length n)))) in
    ap be (drop_at f (to_be 2 o) (length (entry_bytes e o i n) - 2) k) ∙ be_to_be 2 o h

-- an inode number below 2^56 doesn't start with 0xffff
pub entry_no_gap : (e : Edition) (o : ℕ) (i : Target) (n : List ℕ) → i.inode < 2 ^ 56 → gap_start (entry_bytes e o i n) ≡ false
unfolding entry_bytes to_be be be_from
entry_no_gap e o i n h = ne_eqb (field 0 2 (entry_bytes e o i n)) 0xffff (λ (q : field 0 2 (entry_bytes e o i n) ≡ 0xffff). omega arith)

pub entry_namelen : (e : Edition) (o : ℕ) (i : Target) (n : List ℕ) → get_or (entry_bytes e o i n) 8 0 ≡ length n
unfolding entry_bytes to_be
entry_namelen e o i n = refl

pub entry_whole : (e : Edition) (o : ℕ) (i : Target) (n : List ℕ) → i.inode < 2 ^ 56 → o < 256 ^ 2 → Whole e (rec o (entry_bytes e o i n))
unfolding says entry_size
entry_whole e o i n h k =
    record {
      spans = length_entry_bytes e o i n ∙ rw (entry_no_gap e o i n h) (rw (entry_namelen e o i n));
      least = rw (length_entry_bytes e o i n) (omega (arith, entry_size_least e (length n)));
      eights = rw (length_entry_bytes e o i n) (omega arith);
      tagged = entry_tag e o i n k;
    }

-- an entry's writes over the free bytes c behind p: the entry, and a gap of what is left
pub entry_written : (e : Edition) (i : Target) (n p c q : List ℕ) (o : ℕ) → length p ≡ o → entry_size e (length n) ≤ length c → Gapful (drop (entry_size e (length n)) c)
    → written (p ++ (c ++ q)) (entry_writes e i n o (o + length c))
    ≡ p ++ (join (rec o (entry_bytes e o i n) ∷ free (o + entry_size e (length n)) (drop (entry_size e (length n)) c)) ++ q)
unfolding written
entry_written e i n p c q o k l g =
    let E : ℕ = entry_size e (length n) in
    let en : List ℕ = entry_bytes e o i n in
    let left : List ℕ = drop (entry_size e (length n)) c in
    let len : length en ≡ length (take E c) = rw (length_entry_bytes e o i n) (simp length-take (omega arith)) in
    let s1 : put (p ++ (c ++ q)) o en ≡ p ++ (en ++ (left ++ q)) =
    ap (λ (d : List ℕ). put (p ++ (d ++ q)) o en) (sym (take-append-drop E c))
    ∙ ap (λ (d : List ℕ). put (p ++ d) o en) (append_assoc (take E c) left q)
    ∙ put_at p (take E c) en (left ++ q) o k len in
    let s2 : o + length c - (o + E) ≡ length left = simp length-drop (omega arith) in
    let s3 : length (p ++ en) ≡ o + E = simp length-append (omega (arith, length_entry_bytes e o i n)) in
    ap₂ (λ (d : List ℕ) (m : ℕ). written d (gap_writes (o + E) m)) (s1 ∙ sym (append_assoc p en (left ++ q))) s2
    ∙ gap_written (p ++ en) left q (o + E) s3 g
    ∙ simp append_assoc

-- the writes of the index over the bytes behind p
pub index_written : (p c : List ℕ) (ss : List Slot) (st len : ℕ) → length p + length c ≡ len → length c ≡ 8 * length ss + 8
    → written (p ++ c) (index_writes len ss st) ≡ p ++ (slot_bytes ss ++ tail_bytes (length ss) st)
unfolding written
index_written p c ss st len h k =
    let x : List ℕ = slot_bytes ss ++ tail_bytes (length ss) st in
    ap (λ (d : List ℕ). put (p ++ d) (len - 8 - 8 * length ss) x) (sym (append-nil c))
    ∙ put_at p c x [] (len - 8 - 8 * length ss) (omega arith) (simp (length-append, length_slot_bytes, length_to_be) (omega arith))
    ∙ ap (λ (d : List ℕ). p ++ d) (append-nil x)
