-- The pass over the records: tiling, faults and best gaps, one record at a time.
-- Assumes nothing.
use Prim.Native.Nat.{ℕ, suc, ◌+◌, ◌-◌, ◌%◌, ◌≤◌, ◌<◌, min}
use native.Mathlib.Nat.{add-zero}
use native.Mathlib.Omega.{arith}
use mathlib.Core.Bool.{Bool, true, false, ◌&&◌, ◌||◌, and_assoc}
use mathlib.Core.Path.{◌≡◌, refl, sym, ◌∙◌, ap}
use mathlib.Core.List.{List, [], ◌∷◌}
use lib.Dec.{eqb, leb}
use Rattle.std.specs.Prelude.{Option, Some, None}
use Rattle.refusal.specs.declared.Refusal.{Refusal}
use lib.ListN.{length, get_or}
use Rattle.be.specs.Bytes.{part, field}
use Rattle.be.proofs.Parts.{part_length}
use Rattle.edition.specs.declared.Edition.{Edition}
use Rattle.dir_block_rules.specs.Record.{Rec, rec, gaps, entries, is_gap}
use Rattle.dir_block_rules.specs.Verdict.{Pair}
use Rattle.dir_block_test.specs.Passes.{no_fault, rest, whole_len, tile_from, worst, fault_at, fault_of, which, best_left, Surveyed}
use Rattle.dir_block_test.proofs.TileWalk.{Head, head, rest_head, rest_end, head_gap, tile_broken, tile_entry, tile_gap, tile_touch, count_entry, count_gap}
use Rattle.dir_block_test.proofs.EntryWalk.{worst_start, worst_end, worst_on, fault_entry, fault_gap, entry_fits}
use Rattle.dir_block_test.proofs.BestPass.{met_named, met_other, best_end}

module _ (e : Edition) (b : List ℕ) (t a own : ℕ) (f : ℕ → ℕ → Bool) (p q s : Pair) (x0 y0 z0 : Bool) where
  abbrev pub all : List Rec
  all = rest e b t (length b) a

  abbrev pub bests_all : Bool
  bests_all = best_left x0 y0 z0 p q s (gaps all)

  -- what is left decides, with what is kept so far
  pub record Walking (o : ℕ) (g : Bool) (n w : ℕ) (x y z good : Bool) : Type 0 where
    pub within : o ≤ t
    pub eights : o % 8 ≡ 0
    pub few : n ≤ o
    pub most : w ≤ no_fault
    pub fuel : ℕ
    pub enough : t - o ≤ fuel
    pub tiles : tile_from e false all ≡ tile_from e g (rest e b t fuel o)
    pub counts : length (entries all) ≡ n + length (entries (rest e b t fuel o))
    pub faults : worst e own f all ≡ min w (worst e own f (rest e b t fuel o))
    pub bests : bests_all ≡ (good && best_left x y z p q s (gaps (rest e b t fuel o)))

  module _ (hi : t ≤ length b) (te : t % 8 ≡ 0) where
    pub walking_start : a ≤ t → a % 8 ≡ 0 → Walking a false 0 no_fault x0 y0 z0 true
    walking_start h r = record {
      within = h;
      eights = r;
      few = omega arith;
      most = omega arith;
      fuel = length b;
      enough = omega arith;
      tiles = refl;
      counts = omega arith;
      faults = worst_start e own f all;
      bests = refl;
    }

    module _ (o : ℕ) (g : Bool) (n w : ℕ) (x y z good : Bool) (k : Walking o g n w x y z good) where
      pub walking_end : t ≤ o → (fault : Option Refusal) → fault_of fault ≡ w
          → Surveyed e own f all bests_all (Some (record { entries = n; fault = fault; best = good && (x && (y && z)) }))
      unfolding tile_from
      walking_end h fault ws =
          let r : rest e b t k.fuel o ≡ [] = rest_end e b t k.fuel o h in (
            k.tiles ∙ rw r refl,
            sym (k.counts ∙ rw r (add-zero n)),
            ws ∙ worst_end e own f all w k.most (k.faults ∙ ap (λ (l : List Rec). min w (worst e own f l)) r),
            sym (k.bests ∙ ap (λ (l : List Rec). good && best_left x y z p q s (gaps l)) r ∙ ap (λ (v : Bool). good && v) (sym (best_end p q s x y z))),
          )

      module _ (lo : o < t) where
        more : k.fuel ≡ suc (k.fuel - 1)
        more = omega (arith, k.enough)

        tiles_now : tile_from e false all ≡ tile_from e g (rest e b t (suc (k.fuel - 1)) o)
        tiles_now = k.tiles ∙ ap (λ (j : ℕ). tile_from e g (rest e b t j o)) more

        counts_now : length (entries all) ≡ n + length (entries (rest e b t (suc (k.fuel - 1)) o))
        counts_now = k.counts ∙ ap (λ (j : ℕ). n + length (entries (rest e b t j o))) more

        pub walking_room : o + 8 ≤ t
        walking_room = omega (arith, k.eights)

        pub walking_broken : None ≡ whole_len e (part o (t - o) b) o → tile_from e false all ≡ false
        walking_broken v = tiles_now ∙ tile_broken e b t o lo hi g (k.fuel - 1) v

        module _ (m : ℕ) (ms : Some m ≡ whole_len e (part o (t - o) b) o) where
          pub hd : Head e b t o m
          hd = head e b t o lo hi m ms

          abbrev R : Rec
          R = rec o (part o m b)

          abbrev rs : List Rec
          rs = rest e b t (k.fuel - 1) (o + m)

          next : rest e b t k.fuel o ≡ R ∷ rs
          next = ap (λ (j : ℕ). rest e b t j o) more ∙ rest_head e b t o lo hi (k.fuel - 1) m hd

          gap_is : is_gap R ≡ eqb (field o 2 b) 0xffff
          gap_is = head_gap e b t o lo hi m hd

          bests_now : bests_all ≡ (good && best_left x y z p q s (gaps (R ∷ rs)))
          bests_now = k.bests ∙ ap (λ (l : List Rec). good && best_left x y z p q s (gaps l)) next

          faults_now : worst e own f all ≡ min w (worst e own f (R ∷ rs))
          faults_now = k.faults ∙ ap (λ (l : List Rec). min w (worst e own f l)) next

          -- an entry
          module _ (ge : eqb (field o 2 b) 0xffff ≡ false) where
            pub walking_fits : o + 9 + get_or b (o + 8) 0 ≤ t
            walking_fits = entry_fits e b t o m lo hi hd ge

            pub walking_entry : (v w' : ℕ) → v ≡ fault_at e own f b o → w' ≡ min w v → Walking (o + m) false (n + 1) w' x y z good
            walking_entry v w' vs ws = record {
              within = hd.fits;
              eights = omega (arith, k.eights, hd.eights);
              few = omega (arith, k.few, hd.least);
              most = omega (arith, k.most);
              fuel = k.fuel - 1;
              enough = omega (arith, k.enough, hd.least);
              tiles = tiles_now ∙ tile_entry e b t o lo hi g (k.fuel - 1) m hd ge;
              counts = omega (arith, counts_now, count_entry e b t o lo hi g (k.fuel - 1) m hd ge);
              faults = worst_on e own f all w w' v R (fault_entry e b t o m lo hi hd ge own f ∙ sym vs) ws rs faults_now;
              bests = bests_now ∙ rw (gap_is ∙ ge);
            }

          -- a gap
          module _ (gg : eqb (field o 2 b) 0xffff ≡ true) where
            pub walking_touch : g ≡ true → tile_from e false all ≡ false
            walking_touch v = tiles_now ∙ tile_touch e b t o lo hi g (k.fuel - 1) m hd gg v

            module _ (gf : g ≡ false) where
              long : length (part o m b) ≡ m
              long = part_length o m b (omega (arith, hd.fits))

              -- what is kept of the pairs, when the gap is met
              met : (x' y' z' good' : Bool) → bests_all ≡ (good' && best_left x' y' z' p q s (gaps rs)) → Walking (o + m) true n w x' y' z' good'
              met x' y' z' good' h =
                  let kept : w ≡ min w no_fault = omega (arith, k.most) in record {
                    within = hd.fits;
                    eights = omega (arith, k.eights, hd.eights);
                    few = omega (arith, k.few);
                    most = k.most;
                    fuel = k.fuel - 1;
                    enough = omega (arith, k.enough, hd.least);
                    tiles = tiles_now ∙ tile_gap e b t o lo hi g (k.fuel - 1) m hd gg gf;
                    counts = counts_now ∙ ap (λ (j : ℕ). n + j) (count_gap e b t o lo hi g (k.fuel - 1) m hd gg);
                    faults = worst_on e own f all w w no_fault R (fault_gap e b t o m lo hi hd own f gg) kept rs faults_now;
                    bests = h;
                  }

              pub walking_named : (i : ℕ) → Some i ≡ which o m p q s → Walking (o + m) true n w (x || eqb i 0) (y || eqb i 1) (z || eqb i 2) good
              walking_named i h = met _ _ _ _ (bests_now ∙ rw (gap_is ∙ gg) (ap (λ (v : Bool). good && v) (met_named p q s x y z o m R refl long (gaps rs) i h)))

              pub walking_other : None ≡ which o m p q s → Walking (o + m) true n w x y z (good && leb m s.long)
              walking_other h =
                  met _ _ _ _ (bests_now ∙ rw (gap_is ∙ gg) (ap (λ (v : Bool). good && v) (met_other p q s x y z o m R refl long (gaps rs) h)
                  ∙ sym (and_assoc good (leb m s.long) (best_left x y z p q s (gaps rs)))))
