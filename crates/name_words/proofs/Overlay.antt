-- Runs of 32 bytes may be laid over each other before they are hashed: 32 rotations by 7 are whole turns.
-- Assumes nothing.
use Prim.Native.Nat.{ℕ, zero, suc, ◌+◌, ◌-◌, ◌*◌, ◌/◌, ◌%◌, ◌^◌, ◌≤◌, ◌<◌}
use mathlib.Core.Path.{◌≡◌, refl, sym, ap, ap₂, ◌∙◌}
use mathlib.Core.Bool.{◌&&◌}
use mathlib.Core.List.{List, [], ◌∷◌, ◌++◌}
use native.Mathlib.Omega.{arith}
use lib.Dec.{lit<, lit≤}
use lib.Bits.{bit_and, bit_xor, xor_lt, xor_mod, xor_shr, xor_comm}
use lib.ListN.{length}
use Rattle.be.specs.Bytes.{byte, part}
use Rattle.be.specs.Lists.{every}
use Rattle.be.specs.Words.{le, to_le}
use Rattle.be.proofs.Parts.{part_add}
use Rattle.be.proofs.Words.{Bytes, none, more, below_append, bytes_true, length_to_le, to_le_bytes, word_bytes}
use Rattle.be.proofs.Bitwise.{xor_assoc}
use Rattle.name.specs.Name.{rol, hash_byte, hash_from, legal_byte}
use Rattle.name.proofs.Rotation.{rol_xor, rol_lt}
use Rattle.name.proofs.Hashing.{hash_append, hash_from_lt}
use Rattle.name_words.specs.Words.{marked, bytes_32}
use Rattle.name_words.proofs.Linear.{hash_join, rol_none}
use Rattle.name_words.proofs.MarkedLanes.{marked_more, marked_append}
use Rattle.name_words.proofs.WordWalk.{hash_on, legal_on}

-- byte over byte
unfoldable zip : List ℕ → List ℕ → List ℕ
zip [] ys = []
zip (x ∷ xs) [] = []
zip (x ∷ xs) (y ∷ ys) = bit_xor x y ∷ zip xs ys

four : (a b c d : ℕ) → bit_xor (bit_xor a b) (bit_xor c d) ≡ bit_xor (bit_xor a c) (bit_xor b d)
four a b c d =
    xor_assoc a b (bit_xor c d)
    ∙ ap (bit_xor a) (sym (xor_assoc b c d) ∙ ap (λ (n : ℕ). bit_xor n d) (xor_comm b c) ∙ xor_assoc c b d)
    ∙ sym (xor_assoc a c (bit_xor b d))

hash_zip : (g h : ℕ) → g < 2 ^ 32 → h < 2 ^ 32 → {xs ys : List ℕ} → Bytes xs → Bytes ys → length xs ≡ length ys
    → hash_from (bit_xor g h) (zip xs ys) ≡ bit_xor (hash_from g xs) (hash_from h ys)
unfolding hash_from hash_byte zip
hash_zip g h p q none none e = refl
hash_zip g h p q none (more l r) e = absurd (omega arith)
hash_zip g h p q (more l r) none e = absurd (omega arith)
hash_zip g h p q (more {x} {xs} l r) (more {x = y} {xs = ys} m s) e =
    ap (λ (n : ℕ). hash_from n (zip xs ys)) (ap (λ (n : ℕ). bit_xor n (bit_xor x y)) (rol_xor 7 g h (lit≤ tt) p q) ∙ four (rol 7 g) (rol 7 h) x y)
    ∙ hash_zip (bit_xor (rol 7 g) x) (bit_xor (rol 7 h) y)
    (xor_lt 32 (rol 7 g) x (rol_lt 7 g (lit≤ tt) p) (omega arith)) (xor_lt 32 (rol 7 h) y (rol_lt 7 h (lit≤ tt) q) (omega arith)) r s (omega arith)

to_le_zip : (n a w : ℕ) → to_le n (bit_xor a w) ≡ zip (to_le n a) (to_le n w)
unfolding to_le zip
to_le_zip zero a w = refl
to_le_zip (suc n) a w =
    ap₂ (λ (x : ℕ) (l : List ℕ). x ∷ l) (xor_mod a w 8) (ap (to_le n) (xor_shr a w 8) ∙ to_le_zip n (a / 256) (w / 256))

zip_append : (xs ys us vs : List ℕ) → length xs ≡ length us → zip (xs ++ ys) (us ++ vs) ≡ zip xs us ++ zip ys vs
unfolding zip
zip_append [] ys [] vs e = refl
zip_append [] ys (u ∷ us) vs e = absurd (omega arith)
zip_append (x ∷ xs) ys [] vs e = absurd (omega arith)
zip_append (x ∷ xs) ys (u ∷ us) vs e = ap (λ (l : List ℕ). bit_xor x u ∷ l) (zip_append xs ys us vs (omega arith))

module _ (a b c d : ℕ) where
  is_bytes : Bytes (bytes_32 a b c d)
  unfolding bytes_32
  is_bytes = below_append (to_le_bytes 8 a) (below_append (to_le_bytes 8 b) (below_append (to_le_bytes 8 c) (to_le_bytes 8 d)))

  length_32 : length (bytes_32 a b c d) ≡ 32
  unfolding bytes_32 to_le
  length_32 = refl

-- laid over each other, word by word
over_32 : (a b c d p q r s : ℕ) → zip (bytes_32 a b c d) (bytes_32 p q r s) ≡ bytes_32 (bit_xor a p) (bit_xor b q) (bit_xor c r) (bit_xor d s)
unfolding bytes_32
over_32 a b c d p q r s =
    let e : (x y : ℕ) → length (to_le 8 x) ≡ length (to_le 8 y) = λ x y. length_to_le 8 x ∙ sym (length_to_le 8 y) in
    zip_append (to_le 8 a) (to_le 8 b ++ (to_le 8 c ++ to_le 8 d)) (to_le 8 p) (to_le 8 q ++ (to_le 8 r ++ to_le 8 s)) (e a p)
    ∙ ap₂ (λ (l m : List ℕ). l ++ m) (sym (to_le_zip 8 a p))
    (zip_append (to_le 8 b) (to_le 8 c ++ to_le 8 d) (to_le 8 q) (to_le 8 r ++ to_le 8 s) (e b q)
    ∙ ap₂ (λ (l m : List ℕ). l ++ m) (sym (to_le_zip 8 b q))
    (zip_append (to_le 8 c) (to_le 8 d) (to_le 8 r) (to_le 8 s) (e c r)
    ∙ ap₂ (λ (l m : List ℕ). l ++ m) (sym (to_le_zip 8 c r)) (sym (to_le_zip 8 d s))))

-- 32 bytes more after the hash of 32 bytes
hash_over : (a b c d p q r s : ℕ)
    → hash_from (hash_from 0 (bytes_32 a b c d)) (bytes_32 p q r s) ≡ hash_from 0 (bytes_32 (bit_xor a p) (bit_xor b q) (bit_xor c r) (bit_xor d s))
hash_over a b c d p q r s =
    let A = bytes_32 a b c d in
    let P = bytes_32 p q r s in
    let l : hash_from 0 A < 2 ^ 32 = hash_from_lt 0 A (lit< tt) (bytes_true (is_bytes a b c d)) in
    hash_join (hash_from 0 A) l (is_bytes p q r s)
    ∙ ap (λ (n : ℕ). bit_xor (rol (7 * n % 32) (hash_from 0 A)) (hash_from 0 P)) (length_32 p q r s)
    ∙ ap (λ (n : ℕ). bit_xor n (hash_from 0 P)) (rol_none (hash_from 0 A) l)
    ∙ sym (hash_zip 0 0 (lit< tt) (lit< tt) (is_bytes a b c d) (is_bytes p q r s) (length_32 a b c d ∙ sym (length_32 p q r s)))
    ∙ ap (hash_from 0) (over_32 a b c d p q r s)

-- the hash of a word and the k bytes behind it
word_first : (x k : ℕ) {ys : List ℕ} → Bytes ys → length ys ≡ k → (h r g : ℕ) → h ≡ hash_from 0 (to_le 8 x) → r ≡ rol (7 * k % 32) h → g ≡ hash_from 0 ys
    → bit_xor r g ≡ hash_from 0 (to_le 8 x ++ ys)
word_first x k {ys} b l h r g eh er eg =
    let w : ℕ = hash_from 0 (to_le 8 x) in
    let p : hash_from 0 (to_le 8 x) < 2 ^ 32 = hash_from_lt 0 (to_le 8 x) (lit< tt) (bytes_true (to_le_bytes 8 x)) in
    ap₂ bit_xor (er ∙ ap (rol (7 * k % 32)) eh) eg
    ∙ sym (hash_append (to_le 8 x) ys 0 ∙ hash_join w p b ∙ ap (λ (n : ℕ). bit_xor (rol (7 * n % 32) w) (hash_from 0 ys)) l)

-- of four words, as the code has it
module _ (a b c d : ℕ) where
  length_16 : length (to_le 8 c ++ to_le 8 d) ≡ 16
  unfolding to_le
  length_16 = refl

  length_24 : length (to_le 8 b ++ (to_le 8 c ++ to_le 8 d)) ≡ 24
  unfolding to_le
  length_24 = refl

  pub fold_law : (A B C D R S U : ℕ)
      → A ≡ hash_from 0 (to_le 8 a) → B ≡ hash_from 0 (to_le 8 b) → C ≡ hash_from 0 (to_le 8 c) → D ≡ hash_from 0 (to_le 8 d)
      → R ≡ rol 8 A → S ≡ rol 16 B → U ≡ rol 24 C
      → bit_xor R (bit_xor S (bit_xor U D)) ≡ hash_from 0 (bytes_32 a b c d)
  unfolding bytes_32
  fold_law A B C D R S U ea eb ec ed er es eu =
      let bd = to_le_bytes 8 d in
      let bc = below_append (to_le_bytes 8 c) bd in
      let bb = below_append (to_le_bytes 8 b) bc in
      word_first a 24 bb length_24 A R _ ea er
      (word_first b 16 bc length_16 B S _ eb es (word_first c 8 bd (length_to_le 8 d) C U D ec eu ed))

-- a turn of 32 bytes
module _ (b : List ℕ) (known : (k : ℕ) → byte k b < 256) (i end : ℕ) (fits : end ≤ length b) (more_left : 32 < end - i) (p q r s : ℕ)
    (ep : p ≡ le (part i 8 b)) (eq : q ≡ le (part (i + 8) 8 b)) (er : r ≡ le (part (i + 16) 8 b)) (es : s ≡ le (part (i + 24) 8 b)) where
  -- a word, and what stands behind it
  word : (o m w : ℕ) (l : List ℕ) → o + 8 ≤ end → w ≡ le (part o 8 b) → part (o + 8) m b ≡ l → part o (8 + m) b ≡ to_le 8 w ++ l
  word o m w l h e f = part_add o 8 m b ∙ ap₂ (λ (x y : List ℕ). x ++ y) (sym (word_bytes b known o (omega arith) 8 w (lit≤ tt) e)) f

  at : (o k m n : ℕ) → o + k ≡ n → part (o + k) m b ≡ part n m b
  at o k m n e = ap (λ (x : ℕ). part x m b) e

  at_32 : part i 32 b ≡ bytes_32 p q r s
  unfolding bytes_32
  at_32 =
      word i 24 p _ (omega arith) ep
      (word (i + 8) 16 q _ (omega arith) eq
      (at (i + 8) 8 16 (i + 16) (omega arith) ∙ word (i + 16) 8 r _ (omega arith) er
      (at (i + 16) 8 8 (i + 24) (omega arith) ∙ sym (word_bytes b known (i + 24) (omega arith) 8 s (lit≤ tt) es))))

  over_hash : (u v x y : ℕ) → hash_from 0 (bytes_32 (bit_xor u p) (bit_xor v q) (bit_xor x r) (bit_xor y s)) ≡ hash_from (hash_from 0 (bytes_32 u v x y)) (part i 32 b)
  over_hash u v x y = sym (ap (hash_from (hash_from 0 (bytes_32 u v x y))) at_32 ∙ hash_over u v x y p q r s)

  pub chunk_hash : (u v x y : ℕ)
      → hash_from (hash_from 0 (bytes_32 u v x y)) (part i (end - i) b)
      ≡ hash_from (hash_from 0 (bytes_32 (bit_xor u p) (bit_xor v q) (bit_xor x r) (bit_xor y s))) (part (i + 32) (end - (i + 32)) b)
  chunk_hash u v x y = hash_on b i end 32 (omega arith) (hash_from 0 (bytes_32 u v x y)) _ (over_hash u v x y)

  pub chunk_turn : (u v x y c P Q R S : ℕ)
      → marked P ≡ every legal_byte (to_le 8 p) → marked Q ≡ every legal_byte (to_le 8 q)
      → marked R ≡ every legal_byte (to_le 8 r) → marked S ≡ every legal_byte (to_le 8 s)
      → (hash_from (hash_from 0 (bytes_32 u v x y)) (part i (end - i) b)
      ≡ hash_from (hash_from 0 (bytes_32 (bit_xor u p) (bit_xor v q) (bit_xor x r) (bit_xor y s))) (part (i + 32) (end - (i + 32)) b))
      × ((marked c && every legal_byte (part i (end - i) b))
      ≡ (marked (bit_and c (bit_and P (bit_and Q (bit_and R S)))) && every legal_byte (part (i + 32) (end - (i + 32)) b)))
  unfolding bytes_32
  chunk_turn u v x y c P Q R S eP eQ eR eS =
      let e : marked (bit_and P (bit_and Q (bit_and R S))) ≡ every legal_byte (bytes_32 p q r s) =
      marked_append legal_byte P _ (to_le 8 p) _ eP
      (marked_append legal_byte Q _ (to_le 8 q) _ eQ (marked_append legal_byte R S (to_le 8 r) (to_le 8 s) eR eS)) in (
        chunk_hash u v x y,
        legal_on b i end 32 (omega arith) (marked c) _ (marked_more c _ _ (e ∙ ap (every legal_byte) (sym at_32))),
      )

-- before the first turn
pub hash_none : (l : List ℕ) → hash_from 0 l ≡ hash_from (hash_from 0 (bytes_32 0 0 0 0)) l
unfolding bytes_32 to_le hash_from hash_byte rol
hash_none l = refl
