-- From the block to its parts: SIZE, MAGIC, SPAN, TILE.
-- Assumes nothing.
use Prim.Native.Nat.{ℕ, ◌+◌, ◌-◌, ◌*◌, ◌%◌, ◌≤◌, ◌<◌}
use native.Mathlib.Nat.{add-zero, sub-zero}
use native.Mathlib.Omega.{arith}
use mathlib.Core.Bool.{Bool, true, false}
use mathlib.Core.Path.{◌≡◌, sym, ◌∙◌, ap, ap₂}
use mathlib.Core.List.{List}
use lib.Dec.{leb}
use lib.ListN.{length, drop, replicate}
use borrow.Author.Tests.{le-leb, lt-leb, eq-eqb, ne_eqb}
use Rattle.be.specs.Bytes.{field}
use Rattle.edition.specs.declared.Edition.{Edition}
use Rattle.edition.specs.Edition.{Sane, block_size, largest_block}
use Rattle.dir_block_rules.specs.Record.{Rec}
use Rattle.dir_block_rules.specs.Block.{Slot, records, slots, slots_in, count_of, stale_of, data_end}
use Rattle.dir_block_rules.specs.Verdict.{verdict, size_ok, magic_ok, span_ok}
use Rattle.dir_block_twice.specs.Twice.{slots_from}
use Rattle.dir_block_test.specs.Passes.{rest, Parts, after_span, after_tile, after_index, tile_from, cells_of, hint, worst, own_at, Faulted}
use Rattle.dir_block_test.proofs.FaultsAnswer.{tile_is}
use Rattle.dir_block_rules.proofs.WholeRecords.{tile_law}
-- TILE
use Rattle.edition.proofs.Sizes.{block_size_bounds}

module _ (e : Edition) (b : List ℕ) (t n m : ℕ) where
  pub end_5 : tile_from e false (rest e b t (length b) e.header) ≡ false → 5 ≡ after_span e b (rest e b t (length b) e.header) (slots_from b t n 0) m
  unfolding after_span
  end_5 z = sym (rw z)

  module _ (z : tile_from e false (rest e b t (length b) e.header) ≡ true) where
    pub end_tile : (r : ℕ) → r ≡ after_tile e b (rest e b t (length b) e.header) (slots_from b t n 0) m
        → r ≡ after_span e b (rest e b t (length b) e.header) (slots_from b t n 0) m
    unfolding after_span
    end_tile r rs = rs ∙ sym (rw z)

-- the lowest fault, by the table P that the slots have made of zeros
pub faulted : (e : Edition) (b : List ℕ) (t n w : ℕ) (M P : List ℕ) → t ≤ 8 * length M → M ≡ replicate (length M) 0 → P ≡ cells_of b t M n
    → w ≡ worst e (own_at e b) (hint P) (rest e b t (length b) e.header) → Faulted e b t n w
faulted e b t n w M P l z p h = record {
  cells = length M;
  long = l;
  lowest = h ∙ ap (λ (Q : List ℕ). worst e (own_at e b) (hint Q) (rest e b t (length b) e.header)) (p ∙ ap (λ (N : List ℕ). cells_of b t N n) z);
}

module _ (e : Edition) (sane : Sane e) (b : List ℕ) (z : Bool) (zs : z ≡ block_size (length b)) where
  pub end_1 : z ≡ false → 1 ≡ verdict e b
  unfolding verdict size_ok
  end_1 f = sym (rw (sym zs ∙ f))

  module _ (zt : z ≡ true) where
    pub sizes : (512 ≤ length b) × (length b ≤ largest_block) × (length b % 8 ≡ 0)
    sizes = block_size_bounds (length b) (sym zs ∙ zt)

    size : size_ok b ≡ true
    unfolding size_ok
    size = sym zs ∙ zt

    module _ (x : ℕ) (xs : x ≡ field 0 4 b) where
      pub end_2 : (x ≡ e.magic → ⊥) → 2 ≡ verdict e b
      unfolding verdict magic_ok
      end_2 f = sym (rw (size, ne_eqb (field 0 4 b) e.magic (λ (y : field 0 4 b ≡ e.magic). f (xs ∙ y))))

      module _ (xt : x ≡ e.magic) (n m : ℕ) (ns : n ≡ field (length b - 8) 4 b) (ms : m ≡ field (length b - 4) 4 b) where
        magic : magic_ok e b ≡ true
        unfolding magic_ok
        magic = eq-eqb (field 0 4 b) e.magic (sym xs ∙ xt)

        counted : n ≡ count_of b
        unfolding count_of
        counted = ns

        staled : m ≡ stale_of b
        unfolding stale_of
        staled = ms

        pub end_4 : length b < e.header + 8 * n + 8 → 4 ≡ verdict e b
        unfolding verdict span_ok
        end_4 f =
            let q : leb (e.header + 8 * count_of b + 8) (length b) ≡ false = lt-leb (e.header + 8 * count_of b + 8) (length b) (omega (arith, counted)) in
            sym (rw (size, magic, q))

        module _ (fits : e.header + 8 * n + 8 ≤ length b) where
          q4 : leb (e.header + 8 * count_of b + 8) (length b) ≡ true
          q4 = le-leb (e.header + 8 * count_of b + 8) (length b) (omega (arith, counted))

          pub end_4' : n < m → 4 ≡ verdict e b
          unfolding verdict span_ok
          end_4' f =
              let q : leb (stale_of b) (count_of b) ≡ false = lt-leb (stale_of b) (count_of b) (omega (arith, counted, staled)) in
              sym (rw (size, magic, q4, q))

          pub block_parts : Parts e b (length b - 8 - 8 * n) n
          block_parts = record { slots_fit = omega (arith, sizes); eights = omega (arith, sizes); least = omega arith; short = omega (arith, sizes); top = sizes.1 }

          ends : length b - 8 - 8 * n ≡ data_end b
          unfolding data_end
          ends = ap (λ (k : ℕ). length b - 8 - 8 * k) counted

          recs : rest e b (length b - 8 - 8 * n) (length b) e.header ≡ records e b
          unfolding rest records
          recs = ap (λ (k : ℕ). rest e b k (length b) e.header) ends

          slts : slots_from b (length b - 8 - 8 * n) n 0 ≡ slots b
          unfolding slots_from slots
          slts = ap₂ (λ (k o : ℕ). slots_in k (drop o b)) (sub-zero n ∙ counted) (add-zero (length b - 8 - 8 * n) ∙ ends)

          pub end_span : m ≤ n → (r : ℕ)
              → r ≡ after_span e b (rest e b (length b - 8 - 8 * n) (length b) e.header) (slots_from b (length b - 8 - 8 * n) n 0) m
              → r ≡ verdict e b
          unfolding verdict span_ok after_span after_tile after_index
          end_span f r rs =
              let q : leb (stale_of b) (count_of b) ≡ true = le-leb (stale_of b) (count_of b) (omega (arith, counted, staled)) in
              rs ∙ ap₂ (λ (l : List Rec) (s : List Slot). after_span e b l s m) recs slts ∙ ap (after_span e b (records e b) (slots b)) staled ∙ sym (rw (size, magic, q4, q, tile_law e b, ← tile_is e (records e b)))
