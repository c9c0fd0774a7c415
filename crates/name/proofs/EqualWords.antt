-- Two runs of bytes compared by words: two words are equal exactly if their eight bytes are.
-- Assumes nothing.
use Prim.Native.Nat.{ℕ, ◌+◌, ◌-◌, ◌≤◌, ◌<◌}
use native.Mathlib.Omega.{arith}
use mathlib.Core.Bool.{Bool, true, false, ◌&&◌, and_assoc}
use mathlib.Core.Path.{◌≡◌, refl, sym, ◌∙◌, ap, ap₂}
use mathlib.Core.List.{List, [], ◌∷◌, ◌++◌}
use lib.Dec.{eqb}
use lib.ListN.{length, take, drop}
use lib.Seq.{drop-drop}
use borrow.Author.Tests.{eq-eqb, ne_eqb, eqb-true, eqb-false}
use Rattle.be.specs.Lists.{same}
use Rattle.be.specs.Bytes.{byte, part}
use Rattle.be.specs.Words.{le}
use Rattle.be.proofs.Bools.{by_cases, clash}
use Rattle.be.proofs.Parts.{part_length, part_add, piece, last_piece}
use Rattle.be.proofs.Words.{word_bytes}
use Rattle.name.proofs.Same.{same_eq, same_refl}
use Rattle.name.proofs.Scans.{Alike}

-- the same bytes before both
same_behind : (p s t : List ℕ) → same (p ++ s) (p ++ t) ≡ same s t
same_behind [] s t = refl
same_behind (x ∷ p) s t = rw (eq-eqb x x refl) (same_behind p s t)

-- in parts as long as each other
same_parts : (p q s t : List ℕ) → length p ≡ length q → same (p ++ s) (q ++ t) ≡ (same p q && same s t)
same_parts [] [] s t h = refl
same_parts [] (y ∷ q) s t h = absurd (omega arith)
same_parts (x ∷ p) [] s t h = absurd (omega arith)
same_parts (x ∷ p) (y ∷ q) s t h =
    ap (λ (z : Bool). eqb x y && z) (same_parts p q s t (omega arith)) ∙ sym (and_assoc (eqb x y) (same p q) (same s t))

-- k bytes at i of both
module _ (v : Bool) (s t : List ℕ) (i k : ℕ) (a : Alike v s t i) (h : i + k ≤ length s) where
  pub alike_run : same (part i k s) (part i k t) ≡ true → Alike v s t (i + k)
  alike_run e =
      let f : drop i s ≡ part i k t ++ drop (i + k) s =
      sym (piece i k (i + k) s refl) ∙ ap (λ (x : List ℕ). x ++ drop (i + k) s) (same_eq (part i k s) (part i k t) e) in
      record {
        upto = h;
        long = a.long;
        rest = a.rest ∙ ap₂ same f (sym (piece i k (i + k) t refl)) ∙ same_behind (part i k t) (drop (i + k) s) (drop (i + k) t);
      }

  pub alike_run_not : same (part i k s) (part i k t) ≡ false → false ≡ v
  alike_run_not n =
      by_cases (same (drop i s) (drop i t))
      (λ y. absurd (clash (ap (λ (x : List ℕ). same (take k x) (part i k t)) (same_eq (drop i s) (drop i t) y) ∙ same_refl (part i k t)) n))
      (λ y. sym (a.rest ∙ y))

module _ (s t : List ℕ) (ks : (k : ℕ) → byte k s < 256) (kt : (k : ℕ) → byte k t < 256) where
  -- the words w of s and u of t at i
  word_same : (i w u : ℕ) → i + 8 ≤ length s → i + 8 ≤ length t → w ≡ le (part i 8 s) → u ≡ le (part i 8 t) → eqb w u ≡ same (part i 8 s) (part i 8 t)
  word_same i w u hs ht p q =
      by_cases (eqb w u)
      (λ y.
      let m : part i 8 s ≡ part i 8 t =
      sym (word_bytes s ks i hs 8 w (omega arith) p) ∙ word_bytes t kt i ht 8 w (omega arith) (eqb-true w u y ∙ q) in
      y ∙ sym (ap (λ (x : List ℕ). same x (part i 8 t)) m ∙ same_refl (part i 8 t)))
      (λ y. y ∙ sym (by_cases (same (part i 8 s) (part i 8 t))
      (λ z. absurd (eqb-false w u y (p ∙ ap le (same_eq (part i 8 s) (part i 8 t) z) ∙ sym q)))
      (λ z. z)))

  module _ (v : Bool) (i w u : ℕ) (a : Alike v s t i) (h : i + 8 ≤ length s) (p : w ≡ le (part i 8 s)) (q : u ≡ le (part i 8 t)) where
    here : eqb w u ≡ same (part i 8 s) (part i 8 t)
    here = word_same i w u h (omega (arith, a.long)) p q

    pub alike_word : w ≡ u → Alike v s t (i + 8)
    alike_word e = alike_run v s t i 8 a h (sym here ∙ eq-eqb w u e)

    pub alike_word_not : (w ≡ u → ⊥) → false ≡ v
    alike_word_not n = alike_run_not v s t i 8 a h (sym here ∙ ne_eqb w u n)

  -- a word more, before m bytes
  word_more : (o m n j w u : ℕ) (r : Bool) → 8 + m ≡ n → o + 8 ≡ j → o + n ≤ length s → o + n ≤ length t → w ≡ le (part o 8 s) → u ≡ le (part o 8 t)
      → r ≡ same (part j m s) (part j m t) → (eqb w u && r) ≡ same (part o n s) (part o n t)
  word_more o m n j w u r en ej hs ht p q e =
      let l : length (part o 8 s) ≡ length (part o 8 t) = part_length o 8 s (omega arith) ∙ sym (part_length o 8 t (omega arith)) in
      let cut : (b : List ℕ) → part o n b ≡ part o 8 b ++ part j m b =
      λ b. ap (λ (x : ℕ). part o x b) (sym en) ∙ part_add o 8 m b ∙ ap (λ (x : ℕ). part o 8 b ++ part x m b) ej in
      ap₂ (λ (x y : Bool). x && y) (word_same o w u (omega arith) (omega arith) p q) e
      ∙ sym (ap₂ same (cut s) (cut t) ∙ same_parts (part o 8 s) (part o 8 t) (part j m s) (part j m t) l)

  pub run_same : (i a₀ b₀ a₁ b₁ a₂ b₂ a₃ b₃ : ℕ) → i + 32 ≤ length s → i + 32 ≤ length t
      → a₀ ≡ le (part i 8 s) → b₀ ≡ le (part i 8 t) → a₁ ≡ le (part (i + 8) 8 s) → b₁ ≡ le (part (i + 8) 8 t)
      → a₂ ≡ le (part (i + 16) 8 s) → b₂ ≡ le (part (i + 16) 8 t) → a₃ ≡ le (part (i + 24) 8 s) → b₃ ≡ le (part (i + 24) 8 t)
      → (eqb a₀ b₀ && (eqb a₁ b₁ && (eqb a₂ b₂ && eqb a₃ b₃))) ≡ same (part i 32 s) (part i 32 t)
  run_same i a₀ b₀ a₁ b₁ a₂ b₂ a₃ b₃ hs ht p₀ q₀ p₁ q₁ p₂ q₂ p₃ q₃ =
      word_more i 24 32 (i + 8) a₀ b₀ _ refl refl (omega arith) (omega arith) p₀ q₀
      (word_more (i + 8) 16 24 (i + 16) a₁ b₁ _ refl (omega arith) (omega arith) (omega arith) p₁ q₁
      (word_more (i + 16) 8 16 (i + 24) a₂ b₂ _ refl (omega arith) (omega arith) (omega arith) p₂ q₂
      (word_same (i + 24) a₃ b₃ (omega arith) (omega arith) p₃ q₃)))

-- the last words, of which a part may have been compared
pub last_words : (s t : List ℕ) → ((k : ℕ) → byte k s < 256) → ((k : ℕ) → byte k t < 256) → (i w u : ℕ) → Alike (same s t) s t i
    → 8 ≤ length s → length s - i ≤ 8 → w ≡ le (part (length s - 8) 8 s) → u ≡ le (part (length s - 8) 8 t) → eqb w u ≡ same s t
last_words s t ks kt i w u a h m p q =
    let o : ℕ = length s - 8 in
    let fs : length s - 8 + 8 ≡ length s = omega arith in
    let ft : length s - 8 + 8 ≡ length t = fs ∙ a.long in
    by_cases (eqb w u)
    (λ y.
    let e : w ≡ u = eqb-true w u y in
    let l : part o 8 s ≡ part o 8 t =
    sym (word_bytes s ks o (omega (arith, fs)) 8 w (omega arith) p) ∙ word_bytes t kt o (omega (arith, ft)) 8 w (omega arith) (e ∙ q) in
    let d : drop o s ≡ drop o t = sym (last_piece o 8 s fs) ∙ l ∙ last_piece o 8 t ft in
    let j : length s - 8 + (i - (length s - 8)) ≡ i = omega (arith, a.upto) in
    let r : drop i s ≡ drop i t =
    ap (λ (x : ℕ). drop x s) (sym j) ∙ sym (drop-drop (i - o) o s) ∙ ap (drop (i - o)) d ∙ drop-drop (i - o) o t ∙ ap (λ (x : ℕ). drop x t) j in
    y ∙ sym (a.rest ∙ ap (λ (x : List ℕ). same x (drop i t)) r ∙ same_refl (drop i t)))
    (λ y. y ∙ sym (by_cases (same s t)
    (λ z. absurd (eqb-false w u y (p ∙ ap (λ (x : List ℕ). le (part o 8 x)) (same_eq s t z) ∙ sym q)))
    (λ z. z)))
