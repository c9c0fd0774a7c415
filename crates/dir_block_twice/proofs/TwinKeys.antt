-- TWICE from the last slot down, with a table of the names seen.
-- Assumes nothing.
use Prim.Native.Nat.{ℕ, zero, suc, ◌+◌, ◌-◌, ◌*◌, ◌/◌, ◌≤◌, ◌<◌}
use native.Mathlib.Omega.{arith}
use native.Mathlib.Numerals.{add-one}
use mathlib.Core.Bool.{Bool, true, false, not, ◌&&◌, ◌||◌, false≢true}
use mathlib.Core.Path.{◌≡◌, refl, sym, ◌∙◌, ap, subst}
use mathlib.Core.List.{List}
use lib.Bits.{bit_and, bit_or}
use lib.Dec.{eqb, ltb}
use lib.ListN.{length, get_or, set}
use borrow.Author.Tests.{eqb-true, eqb-false, eq-eqb, lt-ltb, le-ltb}
use Rattle.be.specs.Bytes.{byte, part}
use Rattle.be.specs.Words.{le}
use Rattle.be.proofs.Bools.{by_cases, and_both, and_false, neither, clash}
use Rattle.edition.specs.declared.Edition.{Edition}
use Rattle.name.specs.Name.{same_name}
use Rattle.name.proofs.Same.{same_eq}
use Rattle.name_words.specs.Words.{key_of}
use Rattle.dir_block_rules.specs.Lookup.{name_at}
use Rattle.dir_block_twice.specs.Twice.{key_bits, HasKey, clash_from, runs_on, follows, Marked, Noted, twin_at, once_in, slots_from, hash_at, addr_at}
use Rattle.dir_block_twice.proofs.SeenKeys.{noted_long, key_kept, key_noted}
use Rattle.dir_block_twice.proofs.SlotList.{slots_next, slots_end, same_fields}
use Rattle.dir_block_twice.proofs.TwinWalk.{apart, twin_stale}

-- the slot before slot i
module _ (b : List ℕ) (t i : ℕ) where
  pub follows_first : i ≤ 0 → false ≡ follows b t i
  unfolding follows
  follows_first h = sym (rw (le-ltb 0 i h))

  pub follows_next : ((k : ℕ) → byte k b < 256) → t + 8 * i + 8 ≤ length b → (w u : ℕ) → 0 < i
      → w ≡ le (part (t + 8 * (i - 1)) 4 b) → u ≡ le (part (t + 8 * i) 4 b) → eqb w u ≡ follows b t i
  unfolding follows
  follows_next known r w u l ew eu =
      same_fields b known 4 (t + 8 * (i - 1)) (t + 8 * i) (omega arith) (omega arith) w u ew eu ∙ sym (rw (lt-ltb 0 i l))

pub either_first : (x f g : Bool) → x ≡ f → x ≡ true → true ≡ (f || g)
either_first x f g h z = sym (rw (sym h ∙ z))

pub either_second : (x y f g : Bool) → x ≡ f → x ≡ false → y ≡ g → y ≡ (f || g)
either_second x y f g h z k = k ∙ sym (rw (sym h ∙ z))

module _ (b : List ℕ) (t n : ℕ) where
  -- the key of slot j's name
  abbrev key_at : ℕ → ℕ
  key_at j = key_of (name_at b (8 * addr_at b t j))

  marked_start : (S : List ℕ) → 0 < length S → Marked b t n n S
  marked_start S h = record { some = h; each = λ j l u g a. absurd (omega arith) }

  module _ (i : ℕ) (S : List ℕ) (k : Marked b t n (i + 1) S) where
    lt_of : (j : ℕ) → i ≤ j → (i ≡ j → ⊥) → i + 1 ≤ j
    lt_of j u v = omega arith

    marked_stale : addr_at b t i ≡ 0 → Marked b t n i S
    marked_stale z = record {
      some = k.some;
      each = λ j l u g a. k.each j (lt_of j l (λ (q : i ≡ j). a (ap (addr_at b t) (sym q) ∙ z))) u g a;
    }

    marked_skip : follows b t i ≡ false → Marked b t n i S
    marked_skip z = record {
      some = k.some;
      each = λ j l u g a. k.each j (lt_of j l (λ (q : i ≡ j). clash (ap (follows b t) q ∙ g) z)) u g a;
    }

    pub noted_apart : (r : Bool) → r ≡ (follows b t i || runs_on (hash_at b t i) (slots_from b t n (i + 1))) → r ≡ false → Noted b t n i S false
    noted_apart r h z =
        let y = neither (follows b t i) (runs_on (hash_at b t i) (slots_from b t n (i + 1))) (sym h ∙ z) in
        record {
          marks = marked_skip y.0;
          live = λ q. absurd (false≢true q);
          alone = λ q e. rw (apart e b (hash_at b t i) (addr_at b t i) (slots_from b t n (i + 1)) y.1) (and_false (not (eqb (addr_at b t i) 0)));
        }

    pub noted_stale : (a : ℕ) → a ≡ addr_at b t i → a ≡ 0 → Noted b t n i S false
    noted_stale a ea z = record {
      marks = marked_stale (sym ea ∙ z);
      live = λ q. absurd (false≢true q);
      alone = λ q e. twin_stale e b t n i (sym ea ∙ z);
    }

    -- a name whose key the table doesn't have is not among the later ones
    module _ (e : Edition) (h : ℕ) (hs : h ≡ hash_at b t i) (c : ℕ) (new : HasKey S (key_of (name_at b (8 * c))) → ⊥) where
      unlike : (j : ℕ) → i < j → j < n → follows b t j ≡ true → (addr_at b t j ≡ 0 → ⊥) → same_name e (name_at b (8 * c)) (name_at b (8 * addr_at b t j)) ≡ false
      unfolding same_name
      unlike j l u g a =
          by_cases (same_name e (name_at b (8 * c)) (name_at b (8 * addr_at b t j)))
          (λ q. absurd (new (subst (λ (m : List ℕ). HasKey S (key_of m)) (sym (same_eq _ _ q)) (k.each j (omega arith) u g a))))
          (λ q. q)

      none_from : (d j : ℕ) → j + d ≡ n → i < j → hash_at b t (j - 1) ≡ h → clash_from e b h c (slots_from b t n j) ≡ false
      unfolding clash_from follows
      none_from zero j q l p = rw (slots_end b t n j (omega arith)) refl
      none_from (suc d) j q l p =
          by_cases (eqb (hash_at b t j) h)
          (λ w. let z : hash_at b t j ≡ h = eqb-true (hash_at b t j) h w in
          let g : (ltb 0 j && eqb (hash_at b t (j - 1)) (hash_at b t j)) ≡ true = and_both _ _ (lt-ltb 0 j (omega arith)) (eq-eqb (hash_at b t (j - 1)) (hash_at b t j) (p ∙ sym z)) in
          let m : j + 1 - 1 ≡ j = omega arith in
          let r : clash_from e b h c (slots_from b t n (j + 1)) ≡ false = none_from d (j + 1) (omega arith) (omega arith) (ap (hash_at b t) m ∙ z) in
          by_cases (eqb (addr_at b t j) 0)
          (λ y. rw (slots_next b t n j (omega arith), w, y, r))
          (λ y. rw (slots_next b t n j (omega arith), w, y, unlike j l (omega arith) g (eqb-false (addr_at b t j) 0 y), r)))
          (λ w. rw (slots_next b t n j (omega arith), w))

      none : i < n → clash_from e b h c (slots_from b t n (i + 1)) ≡ false
      none l = let m : i + 1 - 1 ≡ i = omega arith in none_from (n - (i + 1)) (i + 1) (omega arith) (omega arith) (ap (hash_at b t) m ∙ sym hs)

    -- the key v of slot i's name noted, for its address a
    module _ (a v m x : ℕ) (R : List ℕ) (r : Bool) (ea : a ≡ addr_at b t i) (ev : v ≡ key_of (name_at b (8 * a))) (em : m ≡ key_bits v)
        (ex : x ≡ bit_and (v / 4096) (length S - 1)) (er : r ≡ eqb (bit_and (get_or S x 0) m) m) (rs : R ≡ set S x (bit_or (get_or S x 0) m)) where
      key_is : v ≡ key_at i
      key_is = ev ∙ ap (λ (w : ℕ). key_of (name_at b (8 * w))) ea

      marked_note : Marked b t n i R
      marked_note = record {
        some = omega (arith, k.some, noted_long S R v x m k.some ex em rs);
        each = λ j l u g f.
            by_cases (eqb i j)
            (λ q. subst (HasKey R) (key_is ∙ ap key_at (eqb-true i j q)) (key_noted S R v x m k.some ex em rs))
            (λ q. key_kept S R v x m k.some ex em rs (key_at j) (k.each j (lt_of j l (eqb-false i j q)) u g f));
      }

      twin_new : (e : Edition) → i < n → r ≡ false → twin_at e b t n i ≡ false
      twin_new e l z =
          let new : HasKey S (key_at i) → ⊥ = λ h. clash (er ∙ eq-eqb (bit_and (get_or S x 0) m) m (rw (ex, em, key_is) h)) z in
          rw (none e (hash_at b t i) refl (addr_at b t i) new l) (and_false (not (eqb (addr_at b t i) 0)))

      pub noted_new : (a ≡ 0 → ⊥) → i < n → Noted b t n i R r
      noted_new u l = record { marks = marked_note; live = λ q z. u (ea ∙ z); alone = λ q e. twin_new e l q }

-- the slots from i on
pub record Downing (e : Edition) (b : List ℕ) (t n i : ℕ) (S : List ℕ) : Type 0 where
  pub within : i ≤ n
  pub so_far : once_in e b (slots_from b t n i) ≡ true
  pub seen : Marked b t n i S

module _ (e : Edition) (b : List ℕ) (t n : ℕ) where
  pub down_start : (S : List ℕ) → 0 < length S → Downing e b t n n S
  unfolding once_in
  down_start S h = record { within = omega arith; so_far = rw (slots_end b t n n (omega arith)) refl; seen = marked_start b t n S h }

  pub down_end : (i : ℕ) (S : List ℕ) → Downing e b t n i S → i ≤ 0 → true ≡ once_in e b (slots_from b t n 0)
  down_end i S k h = let z : i ≡ 0 = omega arith in sym (ap (λ (y : ℕ). once_in e b (slots_from b t n y)) (sym z) ∙ k.so_far)

  -- one that fails from i on fails whole
  fails : (i : ℕ) → i ≤ n → once_in e b (slots_from b t n i) ≡ false → once_in e b (slots_from b t n 0) ≡ false
  unfolding once_in
  fails zero l h = h
  fails (suc i) l h =
      let h' : once_in e b (slots_from b t n (i + 1)) ≡ false = ap (λ (y : ℕ). once_in e b (slots_from b t n y)) (add-one i) ∙ h in
      fails i (omega arith) (rw (slots_next b t n i (omega arith), h') (and_false (not (twin_at e b t n i))))

  pub twin_twice : (i : ℕ) → i < n → twin_at e b t n i ≡ true → false ≡ once_in e b (slots_from b t n 0)
  unfolding once_in
  twin_twice i l h = sym (fails i (omega arith) (rw (slots_next b t n i l, h)))

  module _ (i j : ℕ) (l : i < n) (eq : j ≡ i + 1) (S : List ℕ) (k : Downing e b t n j S) where
    pub down_marks : Marked b t n (i + 1) S
    down_marks = subst (λ (y : ℕ). Marked b t n y S) eq k.seen

    pub down_on : twin_at e b t n i ≡ false → (R : List ℕ) → Marked b t n i R → Downing e b t n i R
    unfolding once_in
    down_on z R m =
        let later : once_in e b (slots_from b t n (i + 1)) ≡ true = ap (λ (y : ℕ). once_in e b (slots_from b t n y)) (sym eq) ∙ k.so_far in
        record { within = omega arith; so_far = rw (slots_next b t n i l, z, later); seen = m }
