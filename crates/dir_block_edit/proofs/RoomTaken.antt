-- The room rule's cases, as the code takes them; and what an insert answers.
-- Assumes nothing.
use Prim.Native.Nat.{ℕ, ◌+◌, ◌-◌, ◌*◌, ◌/◌, ◌≤◌, ◌<◌}
use mathlib.Core.Bool.{true, false, not}
use mathlib.Core.Path.{◌≡◌, refl, sym, ◌∙◌, ap}
use mathlib.Core.List.{List, ◌∷◌, ◌++◌}
use lib.ListN.{length}
use Rattle.refusal.specs.Refusal.{EXISTS, NOROOM}
use Rattle.be.specs.Lists.{without_first, keep}
use Rattle.be.specs.Bytes.{written}
use Rattle.be.specs.Codes.{◌unless◌then◌}
use Rattle.edition.specs.declared.Edition.{Edition}
use Rattle.edition.specs.Edition.{entry_size, Sane}
use Rattle.dir_block_rules.specs.Record.{size, gap_writes, gaps}
use Rattle.dir_block_rules.specs.Block.{slots, slot, stale_of, is_stale, is_live, records}
use Rattle.name.specs.Name.{hash_of, legal_name, fixed_name}
use Rattle.dir.specs.declared.Target.{Target}
use Rattle.dir_block_rules.specs.Lookup.{sought}
use Rattle.dir.specs.Target.{legal_in}
use Rattle.dir_block_rules.specs.Verdict.{own_of, Pair, pair}
use Rattle.dir_block_rules.specs.Room.{has_room, room_of, other_gaps}
use Rattle.dir_block_rules.specs.Change.{longest, index_writes, insert_slot, entry_writes, insert_writes, changed, insert_code, insert_bytes}
use Rattle.dir_block_rules.proofs.EachCall.{insert_code_is}
use Rattle.dir_block_laws.specs.Tiled.{Ready, Tiled}
use Rattle.dir_block_laws.specs.Pass.{Scanned, Inside}
use Rattle.dir_block_laws.proofs.InsertStores.{is_a, is_b, is_c, is_d, no_ab, no_t, no_cd, first_best, longest_inside}
use Rattle.dir_block_edit.specs.Chosen.{chosen}

module _ (e : Edition) (b n : List ℕ) (i : Target) (o₁ l₁ : ℕ) (ps : List Pair) (u k s E h : ℕ) (sc : Scanned e b (pair o₁ l₁ ∷ ps) u k)
    (se : s ≡ stale_of b) (ee : E ≡ entry_size e (length n)) (hq : h ≡ hash_of e n) where
  pub room_a : (d : List ℕ) → 1 ≤ s → E ≤ l₁
      → d ≡ written b (entry_writes e i n o₁ (o₁ + l₁) ++ index_writes (length b) (insert_slot (slot h (o₁ / 8)) (without_first is_stale (slots b))) (s - 1))
      → (true ≡ has_room e b n) × (d ≡ chosen e true b n i)
  room_a d p q f =
      let w = is_a e b n i o₁ l₁ ps u k s E sc se ee p q in
      (sym w.0, f ∙ ap (λ (x : ℕ). written b (entry_writes e i n o₁ (o₁ + l₁) ++ index_writes (length b) (insert_slot (slot x (o₁ / 8)) (without_first is_stale (slots b))) (s - 1))) hq ∙ ap (written b) (sym w.1))

  pub room_b : (d : List ℕ) → 1 ≤ s → l₁ < E → E ≤ k + 8 * (s - 1)
      → d ≡ written b (entry_writes e i n u (u + k + 8 * (s - 1)) ++ index_writes (length b) (insert_slot (slot h (u / 8)) (keep is_live (slots b))) 0)
      → (true ≡ has_room e b n) × (d ≡ chosen e true b n i)
  room_b d p q m f =
      let w = is_b e b n i o₁ l₁ ps u k s E sc se ee p q m in
      (sym w.0, f ∙ ap (λ (x : ℕ). written b (entry_writes e i n u (u + k + 8 * (s - 1)) ++ index_writes (length b) (insert_slot (slot x (u / 8)) (keep is_live (slots b))) 0)) hq ∙ ap (written b) (sym w.1))

  pub room_none : 1 ≤ s → l₁ < E → k + 8 * (s - 1) < E → (false ≡ has_room e b n) × (b ≡ chosen e false b n i)
  room_none p q m = (sym (no_ab e b n i o₁ l₁ ps u k s E sc se ee p q m), refl)

  pub first_inside : Tiled e b → 0 < l₁ → Inside e b o₁ l₁
  first_inside t p =
      let f = first_best (length ps) (gaps (records e b)) o₁ l₁ ps sc.best in
      longest_inside e b t o₁ l₁ p f.0 f.1

  module _ (o l : ℕ) (oo : (longest (other_gaps (room_of e b n))).off ≡ o) (ol : size (longest (other_gaps (room_of e b n))) ≡ l) (z : s ≡ 0) where
    pub room_c : (d : List ℕ) → 8 ≤ k → E ≤ l
        → d ≡ written b (entry_writes e i n o (o + l) ++ (gap_writes u (k - 8) ++ index_writes (length b) (insert_slot (slot h (o / 8)) (slots b)) 0))
        → (true ≡ has_room e b n) × (d ≡ chosen e true b n i)
    room_c d p q f =
        let w = is_c e b n i o₁ l₁ ps u k s E sc se ee o l oo ol z p q in
        (sym w.0, f ∙ ap (λ (x : ℕ). written b (entry_writes e i n o (o + l) ++ (gap_writes u (k - 8) ++ index_writes (length b) (insert_slot (slot x (o / 8)) (slots b)) 0))) hq ∙ ap (written b) (sym w.1))

    pub room_d : (d : List ℕ) → l < E → E + 8 ≤ k
        → d ≡ written b (entry_writes e i n u (u + k - 8) ++ index_writes (length b) (insert_slot (slot h (u / 8)) (slots b)) 0)
        → (true ≡ has_room e b n) × (d ≡ chosen e true b n i)
    room_d d p q f =
        let w = is_d e b n i o₁ l₁ ps u k s E sc se ee o l oo ol z p q in
        (sym w.0, f ∙ ap (λ (x : ℕ). written b (entry_writes e i n u (u + k - 8) ++ index_writes (length b) (insert_slot (slot x (u / 8)) (slots b)) 0)) hq ∙ ap (written b) (sym w.1))

    pub room_no_t : k < 8 → (false ≡ has_room e b n) × (b ≡ chosen e false b n i)
    room_no_t p = (sym (no_t e b n i o₁ l₁ ps u k s E sc se ee o l oo ol z p), refl)

    pub room_no_cd : l < E → k < E + 8 → (false ≡ has_room e b n) × (b ≡ chosen e false b n i)
    room_no_cd p q = (sym (no_cd e b n i o₁ l₁ ps u k s E sc se ee o l oo ol z p q), refl)

-- ---- the answer

module _ (e : Edition) (sane : Sane e) (b n : List ℕ) (i : Target) (r : Ready e b) (ln : legal_name e n ≡ true) (li : legal_in e (own_of e b) i ≡ true) (fx : fixed_name n ≡ false) where
  chain : insert_code e b n i ≡ (EXISTS unless not (sought e b n).hit then NOROOM unless has_room e b n then 0)
  chain = insert_code_is e sane b r.are_bytes r.ok n i ∙ rw (ln, li, fx)

  pub insert_there : (sought e b n).hit ≡ true → (14 ≡ insert_code e b n i) × (b ≡ insert_bytes e b n i)
  unfolding insert_bytes
  insert_there h = let k : insert_code e b n i ≡ 14 = chain ∙ rw h in (sym k, sym (rw k))

  pub insert_no_room : (sought e b n).hit ≡ false → false ≡ has_room e b n → (c : List ℕ) → c ≡ b → (15 ≡ insert_code e b n i) × (c ≡ insert_bytes e b n i)
  unfolding insert_bytes
  insert_no_room h m c q = let k : insert_code e b n i ≡ 15 = chain ∙ rw (h, sym m) in (sym k, q ∙ sym (rw k))

  pub insert_made : (sought e b n).hit ≡ false → true ≡ has_room e b n → (c : List ℕ) → c ≡ changed e b (insert_writes e b n i) → (0 ≡ insert_code e b n i) × (c ≡ insert_bytes e b n i)
  unfolding insert_bytes
  insert_made h m c q = let k : insert_code e b n i ≡ 0 = chain ∙ rw (h, sym m) in (sym k, q ∙ sym (rw k))
