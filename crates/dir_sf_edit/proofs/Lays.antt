-- A directory laid out piece by piece: a header, the first entries, and the others.
-- Assumes nothing.
use Prim.Native.Nat.{ℕ, ◌+◌, ◌-◌, ◌≤◌, ◌<◌}
use native.Mathlib.Nat.{zero-add}
use native.Mathlib.Numerals.{add-one}
use native.Mathlib.Omega.{arith}
use mathlib.Core.Path.{◌≡◌, refl, sym, ◌∙◌, ap, ap₂}
use mathlib.Core.List.{List, [], ◌∷◌, ◌++◌, append_assoc}
use lib.ListN.{length, take, drop, length-append}
use Rattle.be.specs.Bytes.{byte, to_be, put}
use Rattle.be.proofs.Numbers.{length_to_be, to_be_1}
use Rattle.be.proofs.Writes.{put_then}
use Rattle.records.proofs.Joined.{joined_append}
use Rattle.edition.specs.declared.Edition.{Edition}
use Rattle.dir.specs.declared.Target.{Target}
use Rattle.dir_sf.specs.Entry.{SfEntry, entry, width_of, entry_bytes, entries_bytes}
use Rattle.dir_sf.specs.Fork.{laid, count_of, parent, entries}
use Rattle.dir_sf_edit.specs.Inner.{without_nth, with_nth}
use Rattle.dir_sf_edit.proofs.ReadBack.{length_entry_bytes}

pub header_put : (b b₁ b₂ b₃ : List ℕ) (k wides p : ℕ) → k < 256 → wides < 256 → b₁ ≡ put b 0 (to_be 1 k) → b₂ ≡ put b₁ 1 (to_be 1 wides)
    → b₃ ≡ put b₂ 2 (to_be (width_of wides) p) → b₃ ≡ put b 0 (k ∷ wides ∷ to_be (width_of wides) p)
header_put b b₁ b₂ b₃ k wides p h l e₁ e₂ e₃ =
    let q₁ : b₁ ≡ put b 0 (k ∷ []) = e₁ ∙ ap (put b 0) (to_be_1 k h) in
    let f₂ : b₂ ≡ put b₁ 1 (wides ∷ []) = e₂ ∙ ap (put b₁ 1) (to_be_1 wides l) in
    let q₂ : b₂ ≡ put b 0 ((k ∷ []) ++ (wides ∷ [])) = put_then b b₁ b₂ 0 1 (k ∷ []) (wides ∷ []) q₁ f₂ refl in
    put_then b b₂ b₃ 0 2 (k ∷ wides ∷ []) (to_be (width_of wides) p) q₂ e₃ refl

bytes_cons : (e : Edition) (v : ℕ) (y : SfEntry) (ys : List SfEntry) → entries_bytes e v (y ∷ ys) ≡ entry_bytes e v y ++ entries_bytes e v ys
bytes_cons e v y ys = refl

-- the header, then entries
module _ (e : Edition) (count after p : ℕ) (xs : List SfEntry) where
  laid_long : length (laid e count after p xs) ≡ 2 + width_of after + length (entries_bytes e (width_of after) xs)
  laid_long = simp (length-append, length_to_be) (omega arith)

  pub first_header : (T : ℕ) → length (laid e count after p xs) ≤ T → 2 + width_of after ≤ T
  first_header T h = omega (arith, laid_long)

  pub first_fits : (o T all : ℕ) → length (laid e count after p xs) ≤ T → o ≡ 2 + width_of after → all ≡ T → o + length (entries_bytes e (width_of after) xs) ≤ all
  first_fits o T all h a b = omega (arith, laid_long)

  pub first_size : (o r : ℕ) → o ≡ 2 + width_of after → r ≡ o + length (entries_bytes e (width_of after) xs) → r ≡ length (laid e count after p xs)
  first_size o r a h = omega (arith, laid_long)

  pub first_laid : (q o : ℕ) (t t₁ t₂ : List ℕ) → q ≡ p → o ≡ 2 + width_of after → t₁ ≡ put t 0 (count ∷ after ∷ to_be (width_of after) q)
      → t₂ ≡ put t₁ o (entries_bytes e (width_of after) xs) → t₂ ≡ put t 0 (laid e count after p xs)
  first_laid q o t t₁ t₂ k a e₁ e₂ =
      let H : List ℕ = count ∷ after ∷ to_be (width_of after) p in
      let lh : length H ≡ 2 + width_of after = simp length_to_be (omega arith) in
      put_then t t₁ t₂ 0 o H (entries_bytes e (width_of after) xs) (rw k at e₁) e₂ (omega arith)

-- more entries behind them
laid_append : (e : Edition) (count after p : ℕ) (xs ys : List SfEntry) → laid e count after p (xs ++ ys) ≡ laid e count after p xs ++ entries_bytes e (width_of after) ys
laid_append e count after p xs ys =
    ap (λ (l : List ℕ). (count ∷ after ∷ to_be (width_of after) p) ++ l) (joined_append (entry_bytes e (width_of after)) xs ys)
    ∙ sym (append_assoc (count ∷ after ∷ to_be (width_of after) p) (entries_bytes e (width_of after) xs) (entries_bytes e (width_of after) ys))

append_long : (e : Edition) (count after p : ℕ) (xs ys : List SfEntry)
    → length (laid e count after p (xs ++ ys)) ≡ length (laid e count after p xs) + length (entries_bytes e (width_of after) ys)
append_long e count after p xs ys =
    ap length (laid_append e count after p xs ys) ∙ length-append (laid e count after p xs) (entries_bytes e (width_of after) ys)

append_laid : (e : Edition) (count after p m : ℕ) (xs ys : List SfEntry) (t t₁ t₂ : List ℕ) → t₁ ≡ put t 0 (laid e count after p xs) → m ≡ length (laid e count after p xs)
    → t₂ ≡ put t₁ m (entries_bytes e (width_of after) ys) → t₂ ≡ put t 0 (laid e count after p (xs ++ ys))
append_laid e count after p m xs ys t t₁ t₂ h a k =
    put_then t t₁ t₂ 0 m (laid e count after p xs) (entries_bytes e (width_of after) ys) h k (a ∙ sym (zero-add _)) ∙ ap (put t 0) (sym (laid_append e count after p xs ys))

-- ---- without an entry

module _ (e : Edition) (u : List ℕ) (index after c : ℕ) (a : c ≡ byte 0 u) where
  behind : without_nth index (entries e u) ≡ take index (entries e u) ++ drop (index + 1) (entries e u)
  unfolding without_nth
  behind = ap (λ (j : ℕ). take index (entries e u) ++ drop j (entries e u)) (sym (add-one index))

  whole : laid e (count_of u - 1) after (parent u) (without_nth index (entries e u)) ≡ laid e (c - 1) after (parent u) (take index (entries e u) ++ drop (index + 1) (entries e u))
  unfolding count_of
  whole = ap₂ (λ (j : ℕ) (l : List SfEntry). laid e (j - 1) after (parent u) l) (sym a) behind

  without_long : length (laid e (count_of u - 1) after (parent u) (without_nth index (entries e u)))
      ≡ length (laid e (c - 1) after (parent u) (take index (entries e u))) + length (entries_bytes e (width_of after) (drop (index + 1) (entries e u)))
  without_long = ap length whole ∙ append_long e (c - 1) after (parent u) (take index (entries e u)) (drop (index + 1) (entries e u))

  pub without_1 : (T : ℕ) → length (laid e (count_of u - 1) after (parent u) (without_nth index (entries e u))) ≤ T
      → length (laid e (c - 1) after (parent u) (take index (entries e u))) ≤ T
  without_1 T h = omega (arith, without_long)

  pub without_2 : (T m all : ℕ) → length (laid e (count_of u - 1) after (parent u) (without_nth index (entries e u))) ≤ T
      → m ≡ length (laid e (c - 1) after (parent u) (take index (entries e u))) → all ≡ T
      → m + length (entries_bytes e (width_of after) (drop (index + 1) (entries e u))) ≤ all
  without_2 T m all h k q = omega (arith, without_long)

  pub without_size : (m r : ℕ) → m ≡ length (laid e (c - 1) after (parent u) (take index (entries e u)))
      → r ≡ m + length (entries_bytes e (width_of after) (drop (index + 1) (entries e u)))
      → r ≡ length (laid e (count_of u - 1) after (parent u) (without_nth index (entries e u)))
  without_size m r h k = omega (arith, without_long)

  pub without_laid : (m : ℕ) (t t₁ t₂ : List ℕ) → t₁ ≡ put t 0 (laid e (c - 1) after (parent u) (take index (entries e u)))
      → m ≡ length (laid e (c - 1) after (parent u) (take index (entries e u)))
      → t₂ ≡ put t₁ m (entries_bytes e (width_of after) (drop (index + 1) (entries e u)))
      → t₂ ≡ put t 0 (laid e (count_of u - 1) after (parent u) (without_nth index (entries e u)))
  without_laid m t t₁ t₂ h k l =
      append_laid e (c - 1) after (parent u) m (take index (entries e u)) (drop (index + 1) (entries e u)) t t₁ t₂ h k l ∙ ap (put t 0) (sym whole)

-- ---- with one more

module _ (e : Edition) (u : List ℕ) (index after tag : ℕ) (to : Target) (c : ℕ) (name : List ℕ) (a : c ≡ byte 0 u) where
  more : laid e (count_of u + 1) after (parent u) (with_nth index (entry tag name to) (entries e u))
      ≡ laid e (c + 1) after (parent u) (take index (entries e u) ++ (entry tag name to ∷ drop index (entries e u)))
  unfolding with_nth count_of
  more = ap (λ (j : ℕ). laid e (j + 1) after (parent u) (take index (entries e u) ++ (entry tag name to ∷ drop index (entries e u)))) (sym a)

  with_long : length (laid e (count_of u + 1) after (parent u) (with_nth index (entry tag name to) (entries e u)))
      ≡ length (laid e (c + 1) after (parent u) (take index (entries e u))) + (3 + length name + (e.ftype + width_of after))
      + length (entries_bytes e (width_of after) (drop index (entries e u)))
  with_long =
      let y : SfEntry = entry tag name to in
      let ys : List SfEntry = drop index (entries e u) in
      let g : length (entries_bytes e (width_of after) (y ∷ ys)) ≡ length (entry_bytes e (width_of after) y) + length (entries_bytes e (width_of after) ys) =
      ap length (bytes_cons e (width_of after) y ys) ∙ length-append (entry_bytes e (width_of after) y) (entries_bytes e (width_of after) ys) in
      ap length more ∙ append_long e (c + 1) after (parent u) (take index (entries e u)) (y ∷ ys) ∙ omega (arith, length_entry_bytes e (width_of after) y)

  module _ (T : ℕ) (room : length (laid e (count_of u + 1) after (parent u) (with_nth index (entry tag name to) (entries e u))) ≤ T) where
    pub with_1 : length (laid e (c + 1) after (parent u) (take index (entries e u))) ≤ T
    with_1 = omega (arith, with_long)

    pub with_2 : (m all : ℕ) → m ≡ length (laid e (c + 1) after (parent u) (take index (entries e u))) → all ≡ T → m + (3 + length name + (e.ftype + width_of after)) ≤ all
    with_2 m all b d = omega (arith, with_long)

    pub with_3 : (m z all : ℕ) → m ≡ length (laid e (c + 1) after (parent u) (take index (entries e u)))
        → z ≡ m + (3 + length name + (e.ftype + width_of after)) → all ≡ T → z + length (entries_bytes e (width_of after) (drop index (entries e u))) ≤ all
    with_3 m z all b d f = omega (arith, with_long)

  pub with_size : (m z r : ℕ) → m ≡ length (laid e (c + 1) after (parent u) (take index (entries e u)))
      → z ≡ m + (3 + length name + (e.ftype + width_of after)) → r ≡ z + length (entries_bytes e (width_of after) (drop index (entries e u)))
      → r ≡ length (laid e (count_of u + 1) after (parent u) (with_nth index (entry tag name to) (entries e u)))
  with_size m z r b d f = omega (arith, with_long)

  pub with_laid : (m z : ℕ) (t t₁ t₂ t₃ : List ℕ) → t₁ ≡ put t 0 (laid e (c + 1) after (parent u) (take index (entries e u)))
      → m ≡ length (laid e (c + 1) after (parent u) (take index (entries e u)))
      → t₂ ≡ put t₁ m (entry_bytes e (width_of after) (entry tag name to)) → z ≡ m + (3 + length name + (e.ftype + width_of after))
      → t₃ ≡ put t₂ z (entries_bytes e (width_of after) (drop index (entries e u)))
      → t₃ ≡ put t 0 (laid e (count_of u + 1) after (parent u) (with_nth index (entry tag name to) (entries e u)))
  with_laid m z t t₁ t₂ t₃ h b k d f =
      let y : SfEntry = entry tag name to in
      let ys : List SfEntry = drop index (entries e u) in
      let l : z ≡ m + length (entry_bytes e (width_of after) y) = omega (arith, length_entry_bytes e (width_of after) y) in
      let q : t₃ ≡ put t₁ m (entries_bytes e (width_of after) (y ∷ ys)) =
      put_then t₁ t₂ t₃ m z (entry_bytes e (width_of after) y) (entries_bytes e (width_of after) ys) k f l ∙ ap (put t₁ m) (sym (bytes_cons e (width_of after) y ys)) in
      append_laid e (c + 1) after (parent u) m (take index (entries e u)) (y ∷ ys) t t₁ t₃ h b q ∙ ap (put t 0) (sym more)
