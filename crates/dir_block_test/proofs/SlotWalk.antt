-- The slots, by their places: order, and neighbours of one hash.
-- Assumes nothing.
use Prim.Native.Nat.{ℕ, ◌+◌, ◌≤◌, ◌<◌}
use native.Mathlib.Nat.{add-zero}
use native.Mathlib.Omega.{arith}
use mathlib.Core.Bool.{Bool, true, false, not, cond, ◌&&◌, ◌||◌}
use mathlib.Core.Path.{◌≡◌, refl, sym, ◌∙◌, ap}
use mathlib.Core.List.{List, [], ◌∷◌}
use lib.Dec.{eqb, leb}
use borrow.Author.Tests.{eqb-false, ne_eqb}
use Rattle.be.specs.Lists.{tally}
use Rattle.be.proofs.Bools.{or_false, and_false, neither}
use Rattle.edition.specs.declared.Edition.{Edition}
use Rattle.dir_block_rules.specs.Block.{Slot, is_stale}
use Rattle.dir_block_twice.specs.Twice.{slots_from, hash_at, addr_at, runs_on, once_in}
use Rattle.dir_block_twice.proofs.SlotList.{slots_next, slots_end}
use Rattle.dir_block_twice.proofs.TwinWalk.{apart}
use Rattle.dir_block_test.specs.Passes.{rising_from, ordered_with, level}

module _ (b : List ℕ) (t n : ℕ) where
  -- the pass over the slots
  pub record Ordering (m i last stale : ℕ) (good equal : Bool) : Type 0 where
    pub within : i ≤ n
    pub few : stale ≤ i
    pub so_far : ordered_with 0 0 m (slots_from b t n 0) ≡ (good && ordered_with last stale m (slots_from b t n i))
    pub levels : level 0 (slots_from b t n 0) ≡ (equal || level last (slots_from b t n i))

  module _ (m : ℕ) where
    pub ordering_start : Ordering m 0 0 0 true false
    ordering_start = record { within = omega arith; few = omega arith; so_far = refl; levels = refl }

    module _ (i last stale : ℕ) (good equal : Bool) (o : Ordering m i last stale good equal) where
      pub ordering_end : n ≤ i → (good && eqb stale m) ≡ ordered_with 0 0 m (slots_from b t n 0)
      unfolding ordered_with rising_from
      ordering_end h = sym (o.so_far ∙ rw (slots_end b t n i h) (ap (λ (k : ℕ). good && eqb k m) (add-zero stale)))

      pub level_end : n ≤ i → equal ≡ level 0 (slots_from b t n 0)
      unfolding level
      level_end h = sym (o.levels ∙ rw (slots_end b t n i h) (or_false equal))

      pub ordering_on : i < n → (h a c : ℕ) → h ≡ hash_at b t i → a ≡ addr_at b t i → c ≡ cond (eqb a 0) 1 0 → c ≤ 1
          → Ordering m (i + 1) h (stale + c) (good && leb last h) (equal || eqb last h)
      unfolding ordered_with rising_from level
      ordering_on lo h a c hi ai ci cl =
          let x : ℕ = tally is_stale (slots_from b t n (i + 1)) in
          let ci' : cond (eqb (addr_at b t i) 0) 1 0 ≡ c = sym (ci ∙ ap (λ (k : ℕ). cond (eqb k 0) 1 0) ai) in
          let w : stale + (c + tally is_stale (slots_from b t n (i + 1))) ≡ stale + c + tally is_stale (slots_from b t n (i + 1)) = omega arith in
          record {
            within = omega arith;
            few = omega (arith, o.few);
            so_far = o.so_far ∙ rw (slots_next b t n i lo, ci', w, hi) (regroup good (leb last (hash_at b t i)) (rising_from (hash_at b t i) (slots_from b t n (i + 1))) (eqb (stale + c + tally is_stale (slots_from b t n (i + 1))) m));
            levels = o.levels ∙ rw (slots_next b t n i lo, hi) (or_assoc equal (eqb last (hash_at b t i)) (level (hash_at b t i) (slots_from b t n (i + 1))));
          }
        where
          regroup : (g l k q : Bool) → (g && ((l && k) && q)) ≡ ((g && l) && (k && q))
          regroup true true k q = refl
          regroup true false k q = refl
          regroup false l k q = refl

          or_assoc : (x y z : Bool) → (x || (y || z)) ≡ ((x || y) || z)
          or_assoc true y z = refl
          or_assoc false y z = refl

-- no two neighbours of one hash: nothing is stored twice
pub level_once : (e : Edition) (b : List ℕ) (h : ℕ) (ss : List Slot) → level h ss ≡ false → once_in e b ss ≡ true
unfolding level once_in runs_on
level_once e b h [] z = refl
level_once e b h (s ∷ ss) z =
    let l : level s.hash ss ≡ false = (neither (eqb h s.hash) (level s.hash ss) z).1 in
    rw (apart e b s.hash s.addr ss (alone s.hash ss l), and_false (not (eqb s.addr 0)), level_once e b s.hash ss l)
  where
    alone : (h : ℕ) (ss : List Slot) → level h ss ≡ false → runs_on h ss ≡ false
    alone h [] z = refl
    alone h (u ∷ us) z =
        let d : eqb h u.hash ≡ false = (neither (eqb h u.hash) (level u.hash us) z).0 in
        ne_eqb u.hash h (λ (y : u.hash ≡ h). eqb-false h u.hash d (sym y))
