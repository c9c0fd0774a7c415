-- TWICE's pass: names compared within runs of one hash.
-- Assumes nothing.
use Prim.Native.Nat.{ℕ, ◌+◌, ◌*◌, ◌≤◌, ◌<◌}
use native.Mathlib.Omega.{arith}
use mathlib.Core.Bool.{Bool, true, false}
use mathlib.Core.Path.{◌≡◌, refl, sym, ◌∙◌, ap, subst}
use mathlib.Core.List.{List, [], ◌∷◌}
use lib.Dec.{eqb}
use lib.ListN.{length, get_or}
use borrow.Author.Tests.{eq-eqb, ne_eqb}
use Rattle.be.specs.Bytes.{byte, part}
use Rattle.be.specs.Words.{le}
use Rattle.edition.specs.declared.Edition.{Edition}
use Rattle.name.specs.Name.{same_name}
use Rattle.dir_block_rules.specs.Block.{Slot}
use Rattle.dir_block_rules.specs.Lookup.{name_at}
use Rattle.dir_block_twice.specs.Twice.{clash_from, runs_on, slots_from, hash_at, addr_at, twin_at, Reach}
use Rattle.dir_block_twice.proofs.SlotList.{slots_next, slots_end, same_fields}

-- a run so far
pub record Clashing (e : Edition) (b : List ℕ) (t n h c i j : ℕ) : Type 0 where
  pub from : i < j
  pub within : j ≤ n
  pub so_far : clash_from e b h c (slots_from b t n (i + 1)) ≡ clash_from e b h c (slots_from b t n j)

module _ (e : Edition) (b : List ℕ) (t n i h c : ℕ) where
  pub clash_start : i < n → Clashing e b t n h c i (i + 1)
  clash_start l = record { from = omega arith; within = omega arith; so_far = refl }

  abbrev answer : Bool
  answer = clash_from e b h c (slots_from b t n (i + 1))

  module _ (j : ℕ) (k : Clashing e b t n h c i j) where
    pub clash_end : n ≤ j → false ≡ answer
    unfolding clash_from
    clash_end l = sym (k.so_far ∙ rw (slots_end b t n j l))

    module _ (l : j < n) (x y : ℕ) (xs : x ≡ hash_at b t j) (ys : y ≡ h) where
      pub clash_past : (x ≡ y → ⊥) → false ≡ answer
      unfolding clash_from
      clash_past d = sym (k.so_far ∙ rw (slots_next b t n j l, ne_eqb (hash_at b t j) h (λ (z : hash_at b t j ≡ h). d (xs ∙ z ∙ sym ys))))

      module _ (d : x ≡ y) (a : ℕ) (ea : a ≡ addr_at b t j) where
        eq : eqb (hash_at b t j) h ≡ true
        eq = eq-eqb (hash_at b t j) h (sym xs ∙ d ∙ ys)

        pub clash_stale : a ≡ 0 → Clashing e b t n h c i (j + 1)
        unfolding clash_from
        clash_stale z = record {
          from = omega (arith, k.from);
          within = omega arith;
          so_far = k.so_far ∙ rw (slots_next b t n j l, eq, eq-eqb (addr_at b t j) 0 (sym ea ∙ z));
        }

        module _ (u : a ≡ 0 → ⊥) (s : Bool) (ss : s ≡ same_name e (name_at b (8 * c)) (name_at b (8 * a))) where
          live : eqb (addr_at b t j) 0 ≡ false
          live = ne_eqb (addr_at b t j) 0 (λ (z : addr_at b t j ≡ 0). u (ea ∙ z))

          names : same_name e (name_at b (8 * c)) (name_at b (8 * addr_at b t j)) ≡ s
          names = sym (ss ∙ ap (λ (v : ℕ). same_name e (name_at b (8 * c)) (name_at b (8 * v))) ea)

          pub clash_hit : s ≡ true → true ≡ answer
          unfolding clash_from
          clash_hit z = sym (k.so_far ∙ rw (slots_next b t n j l, eq, live, names, z))

          pub clash_on : s ≡ false → Clashing e b t n h c i (j + 1)
          unfolding clash_from
          clash_on z = record {
            from = omega (arith, k.from);
            within = omega arith;
            so_far = k.so_far ∙ rw (slots_next b t n j l, eq, live, names, z);
          }

-- the slot behind slot i
module _ (b : List ℕ) (t n i : ℕ) where
  pub runs_last : n ≤ i + 1 → false ≡ runs_on (hash_at b t i) (slots_from b t n (i + 1))
  unfolding runs_on
  runs_last l = sym (rw (slots_end b t n (i + 1) l))

  pub runs_next : ((k : ℕ) → byte k b < 256) → t + 8 * n ≤ length b → (w u : ℕ) → i + 1 < n
      → w ≡ le (part (t + 8 * (i + 1)) 4 b) → u ≡ le (part (t + 8 * i) 4 b) → eqb w u ≡ runs_on (hash_at b t i) (slots_from b t n (i + 1))
  unfolding runs_on
  runs_next known r w u l ew eu =
      same_fields b known 4 (t + 8 * (i + 1)) (t + 8 * i) (omega arith) (omega arith) w u ew eu ∙ sym (rw (slots_next b t n (i + 1) l))

-- a run that ends at once has no twin
pub apart : (e : Edition) (b : List ℕ) (h c : ℕ) (ss : List Slot) → runs_on h ss ≡ false → clash_from e b h c ss ≡ false
unfolding runs_on clash_from
apart e b h c [] z = refl
apart e b h c (s ∷ ss) z = rw z

-- a live slot whose later ones were searched, and a stale one
module _ (e : Edition) (b : List ℕ) (t n i : ℕ) where
  pub twin_stale : addr_at b t i ≡ 0 → twin_at e b t n i ≡ false
  twin_stale z = rw (eq-eqb (addr_at b t i) 0 z)

  pub twin_live : (x : Bool) → (addr_at b t i ≡ 0 → ⊥) → x ≡ clash_from e b (hash_at b t i) (addr_at b t i) (slots_from b t n (i + 1)) → twin_at e b t n i ≡ x
  twin_live x u xs = rw (ne_eqb (addr_at b t i) 0 u, sym xs)

-- the names that slots address are within the block
pub reach_past : (b : List ℕ) (t n : ℕ) → Reach b t n → (i a : ℕ) → i < n → a ≡ addr_at b t i → (a ≡ 0 → ⊥) → 8 * a + 9 + get_or b (8 * a + 8) 0 + 8 ≤ length b
unfolding Reach
reach_past b t n r i a l e u =
    subst (λ (v : ℕ). 8 * v + 9 + get_or b (8 * v + 8) 0 + 8 ≤ length b) (sym e) (r i l (λ (z : addr_at b t i ≡ 0). u (e ∙ z)))

pub reach_at : (b : List ℕ) (t n : ℕ) → Reach b t n → (i a : ℕ) → i < n → a ≡ addr_at b t i → (a ≡ 0 → ⊥) → 8 * a + 9 + get_or b (8 * a + 8) 0 ≤ length b
reach_at b t n r i a l e u = omega (arith, reach_past b t n r i a l e u)

pub same_at : (e : Edition) (b : List ℕ) (a c d : ℕ) (s : Bool) → a ≡ c → s ≡ same_name e (name_at b (8 * a)) (name_at b (8 * d)) → s ≡ same_name e (name_at b (8 * c)) (name_at b (8 * d))
same_at e b a c d s q h = h ∙ ap (λ (v : ℕ). same_name e (name_at b (8 * v)) (name_at b (8 * d))) q
