-- Writes into a fork that is taken apart.
-- Assumes nothing.
use Prim.Native.Nat.{ℕ, ◌+◌, ◌-◌, ◌≤◌, ◌<◌}
use native.Mathlib.Omega.{arith}
use mathlib.Core.Path.{◌≡◌, refl, sym, ◌∙◌, ap}
use mathlib.Core.List.{List, [], ◌∷◌, ◌++◌, append_assoc, append-nil}
use lib.ListN.{length, take, drop, replicate, length-append, length-drop, length-replicate, replicate-append-replicate}
use lib.Seq.{take_at, drop-drop, take_all}
use borrow.Rule.Slice.PartMut.{put_mid}
use Rattle.be.specs.Bytes.{part, put, to_be}
use Rattle.be.proofs.Numbers.{length_to_be, to_be_1}
use Rattle.be.proofs.Parts.{part_at, part_length, part_add}
use Rattle.be.proofs.Writes.{put_at, put_front, put_whole, put_next}
use Rattle.attr_sf.specs.Entry.{entry, entry_bytes}
use Rattle.attr_sf.specs.Fork.{header}

abbrev pub zeros : ℕ → List ℕ
zeros n = replicate n 0

-- the bytes E are taken out, and what is behind B becomes zero
pub close_writes : (f H A E B R : List ℕ) (p s end : ℕ) → f ≡ H ++ (A ++ (E ++ (B ++ R))) → p ≡ length H + length A → s ≡ length E
    → end ≡ length H + length A + length E + length B
    → put (put f p (part (p + s) (end - (p + s)) f)) (end - s) (zeros (length f - (end - s)))
    ≡ H ++ ((A ++ B) ++ zeros (length f - (end - s)))
close_writes f H A E B R p s end e hp hs he =
    let g : f ≡ (H ++ (A ++ E)) ++ (B ++ R) = e ∙ simp append_assoc in
    let k : f ≡ (H ++ A) ++ (E ++ (B ++ R)) = e ∙ simp append_assoc in
    let lf : length f ≡ length H + (length A + (length E + (length B + length R))) = ap length e ∙ simp length-append in
    let lp : length (H ++ (A ++ E)) ≡ p + s = rw (length-append H (A ++ E), length-append A E) (omega arith) in
    let n : end - (p + s) ≡ length B = omega arith in
    let m : end - s ≡ p + length B = omega arith in
    let b : part (p + s) (end - (p + s)) f ≡ B = ap (part (p + s) (end - (p + s))) g ∙ part_at (H ++ (A ++ E)) B R (p + s) (end - (p + s)) lp (sym n) in
    let t : take p f ≡ H ++ A = ap (take p) k ∙ take_at (H ++ A) (E ++ (B ++ R)) p (rw (length-append H A) (omega arith)) in
    let one : put f p B ≡ (H ++ A) ++ (B ++ drop (p + length B) f) = put_whole f p B (omega arith) ∙ ap (λ (x : List ℕ). x ++ (B ++ drop (p + length B) f)) t in
    let lz : length (zeros (length f - (end - s))) ≡ length (drop (p + length B) f) = length-replicate (length f - (end - s)) 0 ∙ simp length-drop (omega arith) in
    let two : put (((H ++ A) ++ B) ++ (drop (p + length B) f ++ [])) (end - s) (zeros (length f - (end - s))) ≡ ((H ++ A) ++ B) ++ (zeros (length f - (end - s)) ++ []) =
    put_at ((H ++ A) ++ B) (drop (p + length B) f) (zeros (length f - (end - s))) [] (end - s) (rw (length-append (H ++ A) B, length-append H A) (omega arith)) lz in
    let join : (H ++ A) ++ (B ++ drop (p + length B) f) ≡ ((H ++ A) ++ B) ++ (drop (p + length B) f ++ []) = rw (append-nil (drop (p + length B) f)) (sym (append_assoc (H ++ A) B (drop (p + length B) f))) in
    ap (λ (x : List ℕ). put (put f p x) (end - s) (zeros (length f - (end - s)))) b
    ∙ ap (λ (x : List ℕ). put x (end - s) (zeros (length f - (end - s)))) (one ∙ join) ∙ two
    ∙ rw (append-nil (zeros (length f - (end - s)))) (simp append_assoc)

-- the part from a place on was lent, and came back
pub lent_put : (s : ℕ) (b new : List ℕ) → s ≤ length b → length new ≡ length b - s → put_mid s (length b - s) b new ≡ put b s new
lent_put s b new h l =
    let e : drop (length b - s) (drop s b) ≡ drop (s + length new) b = drop-drop (length b - s) s b ∙ ap (λ (n : ℕ). drop (s + n) b) (sym l) in
    ap (λ (x : List ℕ). take s b ++ (new ++ x)) e ∙ sym (put_whole b s new (omega arith))

pub lent_length : (s : ℕ) (b : List ℕ) → length (take (length b - s) (drop s b)) ≡ length b - s
lent_length s b = ap length (take_all (length b - s) (drop s b) (simp length-drop (omega arith))) ∙ length-drop s b

-- the two writes of the code
pub close_steps : (f : List ℕ) {g h : List ℕ} (end at s : ℕ) → g ≡ put f at (part (at + s) (end - (at + s)) f) → length g ≡ length f → (at + s ≤ end) × (end ≤ length f)
    → h ≡ replicate (length (take (length g - (end - s)) (drop (end - s) g))) 0
    → put_mid (end - s) (length g - (end - s)) g h ≡ put (put f at (part (at + s) (end - (at + s)) f)) (end - s) (zeros (length f - (end - s)))
close_steps f {g} {h} end at s q l r w =
    let z : h ≡ zeros (length g - (end - s)) = w ∙ ap zeros (lent_length (end - s) g) in
    lent_put (end - s) g h (omega arith) (ap length z ∙ length-replicate (length g - (end - s)) 0) ∙ rw (z, l, q)

-- bytes written over the first zeros
pub append_writes : (H C N : List ℕ) (o m k : ℕ) → o ≡ length H + length C → m ≡ length N + k
    → put (H ++ (C ++ zeros m)) o N ≡ H ++ ((C ++ N) ++ zeros k)
append_writes H C N o m k ho hm =
    let z : zeros m ≡ zeros (length N) ++ zeros k = ap (λ (x : ℕ). zeros x) hm ∙ sym (replicate-append-replicate (length N) k 0) in
    let j : H ++ (C ++ zeros m) ≡ (H ++ C) ++ (zeros (length N) ++ zeros k) =
    ap (λ (x : List ℕ). H ++ (C ++ x)) z ∙ sym (append_assoc H C (zeros (length N) ++ zeros k)) in
    ap (λ (x : List ℕ). put x o N) j
    ∙ put_at (H ++ C) (zeros (length N)) N (zeros k) o (length-append H C ∙ sym ho) (sym (length-replicate (length N) 0))
    ∙ simp append_assoc

-- totsize and count, before whatever follows
pub head_writes : (f Y : List ℕ) (t n : ℕ) → header ≤ length f
    → put (put (take header f ++ Y) 0 (to_be 2 t)) 2 (to_be 1 n) ≡ to_be 2 t ++ (to_be 1 n ++ (part 3 1 f ++ Y))
head_writes f Y t n h =
    let a : take header f ≡ part 0 2 f ++ (part 2 1 f ++ part 3 1 f) = part_add 0 2 2 f ∙ ap (λ (x : List ℕ). part 0 2 f ++ x) (part_add 2 1 1 f) in
    let b : take header f ++ Y ≡ part 0 2 f ++ (part 2 1 f ++ (part 3 1 f ++ Y)) = ap (λ (x : List ℕ). x ++ Y) a ∙ simp append_assoc in
    ap (λ (x : List ℕ). put (put x 0 (to_be 2 t)) 2 (to_be 1 n)) b
    ∙ ap (λ (x : List ℕ). put x 2 (to_be 1 n)) (put_front (part 0 2 f) (to_be 2 t) (part 2 1 f ++ (part 3 1 f ++ Y)) (length_to_be 2 t ∙ sym (part_length 0 2 f (omega arith))))
    ∙ put_at (to_be 2 t) (part 2 1 f) (to_be 1 n) (part 3 1 f ++ Y) 2 (length_to_be 2 t) (length_to_be 1 n ∙ sym (part_length 2 1 f (omega arith)))

-- an entry, field by field
entry_writes : (f n v : List ℕ) (o g : ℕ) → length n < 256 → length v < 256 → g < 256
    → put (put (put (put (put f o (to_be 1 (length n))) (o + 1) (to_be 1 (length v))) (o + 2) (to_be 1 g)) (o + 3) n) (o + 3 + length n) v
    ≡ put f o (entry_bytes (entry g n v))
unfolding entry_bytes
entry_writes f n v o g hn hv hg =
    let a : put (put f o (length n ∷ [])) (o + 1) (length v ∷ []) ≡ put f o (length n ∷ length v ∷ []) = put_next f _ o (length n ∷ []) (length v ∷ []) refl in
    let b : put (put f o (length n ∷ length v ∷ [])) (o + 2) (g ∷ []) ≡ put f o (length n ∷ length v ∷ g ∷ []) = put_next f _ o (length n ∷ length v ∷ []) (g ∷ []) refl in
    let d : put (put f o (length n ∷ length v ∷ g ∷ [])) (o + 3) n ≡ put f o (length n ∷ length v ∷ g ∷ n) = put_next f _ o (length n ∷ length v ∷ g ∷ []) n refl in
    let k : put (put f o (length n ∷ length v ∷ g ∷ n)) (o + 3 + length n) v ≡ put f o (length n ∷ length v ∷ g ∷ (n ++ v)) =
    put_next f (o + 3 + length n) o (length n ∷ length v ∷ g ∷ n) v (omega arith) in
    rw (to_be_1 (length n) hn, to_be_1 (length v) hv, to_be_1 g hg, a, b, d, k)

pub entry_steps : {a b c d r : List ℕ} (f n v : List ℕ) (o g : ℕ) → a ≡ put f o (to_be 1 (length n)) → b ≡ put a (o + 1) (to_be 1 (length v))
    → c ≡ put b (o + 2) (to_be 1 g) → d ≡ put c (o + 3) n → r ≡ put d (o + 3 + length n) v → length n < 256 → length v < 256 → g < 256
    → r ≡ put f o (entry_bytes (entry g n v))
entry_steps f n v o g q₁ q₂ q₃ q₄ q₅ hn hv hg = q₅ ∙ rw (q₄, q₃, q₂, q₁) (entry_writes f n v o g hn hv hg)
