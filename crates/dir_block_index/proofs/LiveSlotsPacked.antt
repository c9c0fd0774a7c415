-- The live slots packed against the tail, and one slot more among them (room rule (b)).
-- Assumes nothing.
use Prim.Native.Nat.{ℕ, zero, suc, ◌+◌, ◌-◌, ◌*◌, ◌≤◌, ◌<◌}
use native.Mathlib.Nat.{add-zero}
use native.Mathlib.Omega.{arith}
use mathlib.Core.Bool.{Bool, true}
use mathlib.Core.Path.{◌≡◌, refl, sym, ◌∙◌, ap, ap₂}
use mathlib.Core.List.{List, [], ◌∷◌, ◌++◌, append_assoc}
use lib.Dec.{leb, ltb, lit≤}
use lib.ListN.{length, take, drop, length-append, take-append-drop}
use lib.Seq.{drop-drop}
use borrow.Author.Tests.{eq-eqb, ne_eqb}
use Rattle.be.specs.Lists.{keep}
use Rattle.be.specs.Bytes.{be, byte, part, field, put, to_be, written}
use Rattle.be.specs.Words.{le, to_le}
use Rattle.edition.specs.declared.Edition.{Edition}
use Rattle.dir_block_rules.specs.Block.{Slot, slot, slots, slots_in, slot_bytes, data_end, count_of, stale_of, is_live}
use Rattle.dir_block_rules.specs.Change.{index_writes, insert_slot}
use Rattle.be.proofs.Bools.{by_cases, every_head, every_tail, every_cons, keep_append}
use Rattle.be.proofs.Writes.{put_nothing, length_put, put_next, part_before, part_inside, put_over}
use Rattle.be.proofs.Numbers.{length_to_be}
use Rattle.be.proofs.Parts.{part_add, bytes_all, field_bytes}
use Rattle.be.proofs.Words.{word_bytes, be_zero}
use Rattle.dir_block_rules.proofs.BlockParts.{length_slot_bytes, length_slots_in}
use Rattle.dir_block_rules.proofs.ChangeAccepted.{length_insert, length_live}
use Rattle.edition.specs.Edition.{Sane}
use Rattle.dir_block_rules.proofs.RemoveWrites.{slot_bytes_append}
use Rattle.dir_block_laws.specs.Tiled.{Ready}
use Rattle.dir_block_laws.specs.SlotIndex.{all_below, all_from, Spot}
use Rattle.dir_block_laws.proofs.RecordSteps.{end_fits}
use Rattle.dir_block_laws.proofs.SlotSearch.{slots_drop, tiled, length_slots}
use Rattle.dir_block_laws.proofs.IndexStores.{put_front, slot_front, one_slot, insert_at, tail_stored, stale_some, take_slots}

-- ---- one slot

keep_live : (h a : ℕ) → (a ≡ 0 → ⊥) → keep is_live (slot h a ∷ []) ≡ slot h a ∷ []
keep_live h a n = rw (ne_eqb a 0 n)

keep_stale : (h a : ℕ) → a ≡ 0 → keep is_live (slot h a ∷ []) ≡ []
keep_stale h a n = rw (eq-eqb a 0 n)

none_bytes : slot_bytes [] ≡ []
unfolding slot_bytes
none_bytes = refl

pub packed_stale : (b : List ℕ) (h a w : ℕ) → a ≡ 0 → (b ≡ put b w (slot_bytes (keep is_live (slot h a ∷ [])))) × (w + 8 * length (keep is_live (slot h a ∷ [])) ≡ w)
packed_stale b h a w z =
    let k : keep is_live (slot h a ∷ []) ≡ [] = keep_stale h a z in (
      sym (ap (λ (l : List Slot). put b w (slot_bytes l)) k ∙ ap (put b w) none_bytes ∙ put_nothing b w),
      ap (λ (l : List Slot). w + 8 * length l) k ∙ add-zero w,
    )

-- a slot is copied as a word
pub packed_live : (b c : List ℕ) → ((i : ℕ) → byte i b < 256) → (o w s : ℕ) → o + 8 ≤ length b → 8 ≤ w → (le (part (o + 4) 4 b) ≡ 0 → ⊥)
    → s ≡ le (part o 8 b) → c ≡ put b (w - 8) (to_le 8 s)
    → (c ≡ put b (w - 8) (slot_bytes (keep is_live (slot (field o 4 b) (field (o + 4) 4 b) ∷ []))))
    × (w - 8 + 8 * length (keep is_live (slot (field o 4 b) (field (o + 4) 4 b) ∷ [])) ≡ w)
packed_live b c known o w s fits l n es e =
    let h : ℕ = field o 4 b in
    let a : ℕ = field (o + 4) 4 b in
    let k : keep is_live (slot h a ∷ []) ≡ slot h a ∷ [] = keep_live h a (λ z. n (be_zero (part (o + 4) 4 b) z)) in
    let p : to_be 4 h ≡ part o 4 b = field_bytes o 4 b (bytes_all b known) (omega arith) in
    let q : to_be 4 a ≡ part (o + 4) 4 b = field_bytes (o + 4) 4 b (bytes_all b known) (omega arith) in
    let word : to_le 8 s ≡ to_be 4 h ++ to_be 4 a =
    word_bytes b known o fits 8 s (lit≤ tt) es ∙ part_add o 4 4 b ∙ sym (ap₂ (λ (x y : List ℕ). x ++ y) p q) in
    let r : w - 8 + 8 ≡ w = omega arith in (
      e ∙ ap (put b (w - 8)) word ∙ sym (ap (λ (m : List Slot). put b (w - 8) (slot_bytes m)) k ∙ ap (put b (w - 8)) (one_slot h a)),
      ap (λ (m : List Slot). w - 8 + 8 * length m) k ∙ r,
    )

-- ---- a run of slots, from its end down

keep_few : (p : Slot → Bool) (l : List Slot) → length (keep p l) ≤ length l
keep_few p [] = omega arith
keep_few p (x ∷ l) = by_cases (p x) (λ q. rw q (omega (arith, keep_few p l))) (λ q. rw q (omega (arith, keep_few p l)))

-- those from place i on of the k slots at o
abbrev pub live_from : List ℕ → ℕ → ℕ → ℕ → List Slot
live_from b o k i = keep is_live (slots_in (k - i) (drop (o + 8 * i) b))

pub live_few : (b : List ℕ) (o k i : ℕ) → length (live_from b o k i) ≤ k - i
live_few b o k i = omega (arith, keep_few is_live (slots_in (k - i) (drop (o + 8 * i) b)), length_slots_in (k - i) (drop (o + 8 * i) b))

slots_suc : (n : ℕ) (d : List ℕ) → slots_in (suc n) d ≡ slot (field 0 4 d) (field 4 4 d) ∷ slots_in n (drop 8 d)
unfolding slots_in
slots_suc n d = refl

slots_zero : (d : List ℕ) → slots_in 0 d ≡ []
unfolding slots_in
slots_zero d = refl

live_next : (b : List ℕ) (o k i j : ℕ) → j + 1 ≡ i → i ≤ k
    → live_from b o k j ≡ keep is_live (slot (field (o + 8 * j) 4 b) (field (o + 8 * j + 4) 4 b) ∷ []) ++ live_from b o k i
live_next b o k i j q l =
    let m : k - j ≡ suc (k - i) = omega arith in
    let d : drop 8 (drop (o + 8 * j) b) ≡ drop (o + 8 * i) b = drop-drop 8 (o + 8 * j) b ∙ ap (λ (x : ℕ). drop x b) at_next in
    let f : field 4 4 (drop (o + 8 * j) b) ≡ field (o + 8 * j + 4) 4 b = ap (λ (x : List ℕ). be (take 4 x)) (drop-drop 4 (o + 8 * j) b) in
    ap (λ (x : ℕ). keep is_live (slots_in x (drop (o + 8 * j) b))) m
    ∙ ap (keep is_live) (slots_suc (k - i) (drop (o + 8 * j) b) ∙ ap₂ (λ (x : ℕ) (y : List ℕ). slot (field (o + 8 * j) 4 b) x ∷ slots_in (k - i) y) f d)
    ∙ keep_append is_live (slot (field (o + 8 * j) 4 b) (field (o + 8 * j + 4) 4 b) ∷ []) (slots_in (k - i) (drop (o + 8 * i) b))
  where
    at_next : o + 8 * j + 8 ≡ o + 8 * i
    at_next = omega arith

pub pack_start : (b : List ℕ) (o k w : ℕ) → (b ≡ put b w (slot_bytes (live_from b o k k))) × (w + 8 * length (live_from b o k k) ≡ w)
pack_start b o k w =
    let z : k - k ≡ 0 = omega arith in
    let n : live_from b o k k ≡ [] = ap (λ (x : ℕ). keep is_live (slots_in x (drop (o + 8 * k) b))) z ∙ ap (keep is_live) (slots_zero (drop (o + 8 * k) b)) in
    (sym (ap (λ (l : List Slot). put b w (slot_bytes l)) n ∙ ap (put b w) none_bytes ∙ put_nothing b w), ap (λ (l : List Slot). w + 8 * length l) n ∙ add-zero w)

pub pack_turn : (b c d : List ℕ) (o k i j w v dst : ℕ) → j + 1 ≡ i → i ≤ k → o + 8 * k ≤ dst
    → c ≡ put b w (slot_bytes (live_from b o k i)) → w + 8 * length (live_from b o k i) ≡ dst
    → d ≡ put c v (slot_bytes (keep is_live (slot (field (o + 8 * j) 4 c) (field (o + 8 * j + 4) 4 c) ∷ []))) → v + 8 * length (keep is_live (slot (field (o + 8 * j) 4 c) (field (o + 8 * j + 4) 4 c) ∷ [])) ≡ w
    → (d ≡ put b v (slot_bytes (live_from b o k j))) × (v + 8 * length (live_from b o k j) ≡ dst)
pack_turn b c d o k i j w v dst q l h e₁ n₁ e₂ n₂ =
    let X : List Slot = keep is_live (slot (field (o + 8 * j) 4 b) (field (o + 8 * j + 4) 4 b) ∷ []) in
    let Y : List Slot = live_from b o k i in
    let wi : o + 8 * i ≤ w = omega (arith, live_few b o k i) in
    let f₁ : field (o + 8 * j) 4 c ≡ field (o + 8 * j) 4 b = ap (field (o + 8 * j) 4) e₁ ∙ ap be (part_before b (o + 8 * j) 4 w (slot_bytes (live_from b o k i)) (omega arith)) in
    let f₂ : field (o + 8 * j + 4) 4 c ≡ field (o + 8 * j + 4) 4 b = ap (field (o + 8 * j + 4) 4) e₁ ∙ ap be (part_before b (o + 8 * j + 4) 4 w (slot_bytes (live_from b o k i)) (omega arith)) in
    let x : keep is_live (slot (field (o + 8 * j) 4 c) (field (o + 8 * j + 4) 4 c) ∷ []) ≡ keep is_live (slot (field (o + 8 * j) 4 b) (field (o + 8 * j + 4) 4 b) ∷ []) =
    ap₂ (λ (x y : ℕ). keep is_live (slot x y ∷ [])) f₁ f₂ in
    let nx : v + 8 * length X ≡ w = ap (λ (m : List Slot). v + 8 * length m) (sym x) ∙ n₂ in
    let z : live_from b o k j ≡ X ++ Y = live_next b o k i j q l in (
      e₂ ∙ ap₂ (λ (m : List ℕ) (s : List Slot). put m v (slot_bytes s)) e₁ x
          ∙ put_front b v w (slot_bytes X) (slot_bytes Y) (ap (λ (m : ℕ). v + m) (length_slot_bytes X) ∙ nx)
          ∙ ap (put b v) (sym (slot_bytes_append X Y) ∙ ap slot_bytes (sym z)),
      omega (arith, nx, n₁, ap length z, length-append X Y),
    )

pub pack_end : (b : List ℕ) (o k : ℕ) → live_from b o k 0 ≡ keep is_live (slots_in k (drop o b))
pack_end b o k = ap₂ (λ (x y : ℕ). keep is_live (slots_in x (drop y b))) (omega_sub k) (omega_add o)
  where
    omega_sub : (k : ℕ) → k - 0 ≡ k
    omega_sub k = omega arith

    omega_add : (o : ℕ) → o + 8 * 0 ≡ o
    omega_add o = omega arith

-- ---- writes over others

slots_before : (b : List ℕ) (k o w : ℕ) (xs : List ℕ) → o + 8 * k ≤ w → slots_in k (drop o (put b w xs)) ≡ slots_in k (drop o b)
slots_before b zero o w xs h = slots_zero (drop o (put b w xs)) ∙ sym (slots_zero (drop o b))
slots_before b (suc k) o w xs h =
    let c : List ℕ = put b w xs in
    let g : (d : List ℕ) → slots_in (suc k) (drop o d) ≡ slot (field o 4 d) (field (o + 4) 4 d) ∷ slots_in k (drop (o + 8) d) =
    λ d. slots_suc k (drop o d) ∙ ap₂ (λ (x y : List ℕ). slot (field o 4 d) (be (take 4 x)) ∷ slots_in k y) (drop-drop 4 o d) (drop-drop 8 o d) in
    g (put b w xs)
    ∙ ap₂ (λ (x y : List ℕ). slot (be x) (be y) ∷ slots_in k (drop (o + 8) (put b w xs))) (part_before b o 4 w xs (omega arith)) (part_before b (o + 4) 4 w xs (omega arith))
    ∙ ap (λ (l : List Slot). slot (field o 4 b) (field (o + 4) 4 b) ∷ l) (slots_before b k (o + 8) w xs (omega arith))
    ∙ sym (g b)

keep_below : (h : ℕ) (q : Slot → Bool) (l : List Slot) → all_below h l ≡ true → all_below h (keep q l) ≡ true
unfolding all_below
keep_below h q [] p = refl
keep_below h q (x ∷ l) p =
    by_cases (q x)
    (λ y. rw y (every_cons (λ s. ltb s.hash h) x (keep q l) (every_head (λ s. ltb s.hash h) x l p) (keep_below h q l (every_tail (λ s. ltb s.hash h) x l p))))
    (λ y. rw y (keep_below h q l (every_tail (λ s. ltb s.hash h) x l p)))

keep_above : (h : ℕ) (q : Slot → Bool) (l : List Slot) → all_from h l ≡ true → all_from h (keep q l) ≡ true
unfolding all_from
keep_above h q [] p = refl
keep_above h q (x ∷ l) p =
    by_cases (q x)
    (λ y. rw y (every_cons (λ s. leb h s.hash) x (keep q l) (every_head (λ s. leb h s.hash) x l p) (keep_above h q l (every_tail (λ s. leb h s.hash) x l p))))
    (λ y. rw y (keep_above h q l (every_tail (λ s. leb h s.hash) x l p)))

-- ---- the whole

module _ (e : Edition) (sane : Sane e) (b : List ℕ) (r : Ready e b) (end count stale p h a : ℕ) (qe : end ≡ data_end b) (qc : count ≡ count_of b) (qs : stale ≡ stale_of b) (s0 : 0 < stale) (sp : Spot b h p) where
  fits : data_end b + 8 * count_of b + 8 ≡ length b
  fits = end_fits e b (tiled e b r)

  K₁ : List Slot
  K₁ = keep is_live (slots_in p (drop end b))

  K₂ : List Slot
  K₂ = keep is_live (slots_in (count - p) (drop (end + 8 * p) b))

  low : keep is_live (take p (slots b)) ≡ keep is_live (slots_in p (drop end b))
  unfolding slots
  low = ap (keep is_live) (take_slots p (count_of b) (drop (data_end b) b) sp.fits ∙ ap (λ (x : ℕ). slots_in p (drop x b)) (sym qe))

  high : keep is_live (drop p (slots b)) ≡ keep is_live (slots_in (count - p) (drop (end + 8 * p) b))
  unfolding slots
  high =
      ap (keep is_live) (slots_drop p (count_of b) (drop (data_end b) b) sp.fits ∙ ap (slots_in (count_of b - p)) (drop-drop (8 * p) (data_end b) b))
      ∙ ap₂ (λ (x y : ℕ). keep is_live (slots_in (x - p) (drop (y + 8 * p) b))) (sym qc) (sym qe)

  both : keep is_live (slots b) ≡ K₁ ++ K₂
  unfolding K₁ K₂
  both = ap (keep is_live) (sym (take-append-drop p (slots b))) ∙ keep_append is_live (take p (slots b)) (drop p (slots b)) ∙ ap₂ (λ (x y : List Slot). x ++ y) low high

  new_slots : insert_slot (slot h a) (keep is_live (slots b)) ≡ K₁ ++ slot h a ∷ K₂
  unfolding K₁ K₂
  new_slots =
      ap (insert_slot (slot h a)) both
      ∙ insert_at (slot h a) K₁ K₂
      (ap (all_below (suc h)) (sym low) ∙ keep_below (suc h) is_live (take p (slots b)) sp.below)
      (ap (all_from (suc h)) (sym high) ∙ keep_above (suc h) is_live (drop p (slots b)) sp.above)

  pub live_count : length (keep is_live (slots b)) + stale ≡ count
  live_count = ap (λ (x : ℕ). length (keep is_live (slots b)) + x) (qs ∙ sym (stale_some e sane b r)) ∙ length_live (slots b) ∙ length_slots e b r ∙ sym qc

  parts : length K₁ + length K₂ + stale ≡ count
  parts = ap (λ (x : ℕ). x + stale) (sym (length-append K₁ K₂) ∙ ap length (sym both)) ∙ live_count

  -- where the two packs end
  pub pack_room : (w₁ w₂ : ℕ) → w₁ + 8 * length (keep is_live (slots_in (count - p) (drop (end + 8 * p) b))) ≡ length b - 8
      → w₂ + 8 * length (keep is_live (slots_in p (drop end b))) ≡ w₁ → (end + 8 ≤ w₂) × ((w₂ ≤ w₁) × (w₁ + 8 ≤ length b))
  unfolding K₁ K₂
  pack_room w₁ w₂ n₁ n₂ = (omega (arith, parts, fits), (omega arith, omega (arith, fits)))

  pub first_room : (w₁ : ℕ) → w₁ + 8 * length (keep is_live (slots_in (count - p) (drop (end + 8 * p) b))) ≡ length b - 8 → (end + 8 * p ≤ w₁) × (w₁ + 8 ≤ length b)
  first_room w₁ n₁ =
      let k : length (keep is_live (slots_in (count - p) (drop (end + 8 * p) b))) ≤ count - p = omega (arith, keep_few is_live (slots_in (count - p) (drop (end + 8 * p) b)), length_slots_in (count - p) (drop (end + 8 * p) b)) in
      (omega (arith, fits, sp.fits), omega (arith, fits))

  -- the lower slots are still read as they stood
  pub low_same : (w₁ : ℕ) (b₁ : List ℕ) → end + 8 * p ≤ w₁ → b₁ ≡ put b w₁ (slot_bytes (keep is_live (slots_in (count - p) (drop (end + 8 * p) b)))) → slots_in p (drop end b₁) ≡ slots_in p (drop end b)
  low_same w₁ b₁ l e₁ = ap (λ (c : List ℕ). slots_in p (drop end c)) e₁ ∙ slots_before b p end w₁ (slot_bytes (keep is_live (slots_in (count - p) (drop (end + 8 * p) b)))) l

  pub squeezed : (w₁ w₂ : ℕ) (b₁ b₂ b₃ b₄ b₅ : List ℕ)
      → b₁ ≡ put b w₁ (slot_bytes (keep is_live (slots_in (count - p) (drop (end + 8 * p) b)))) → w₁ + 8 * length (keep is_live (slots_in (count - p) (drop (end + 8 * p) b))) ≡ length b - 8
      → b₂ ≡ put b₁ w₂ (slot_bytes (keep is_live (slots_in p (drop end b₁)))) → w₂ + 8 * length (keep is_live (slots_in p (drop end b₁))) ≡ w₁
      → b₃ ≡ put b₂ (w₂ - 8) (part w₂ (w₁ - w₂) b₂) → b₄ ≡ put b₃ (w₁ - 8) (to_be 4 h ++ to_be 4 a) → b₅ ≡ put b₄ (length b - 8) (to_be 4 (count - stale + 1) ++ to_be 4 0)
      → b₅ ≡ written b (index_writes (length b) (insert_slot (slot h a) (keep is_live (slots b))) 0)
  unfolding K₁ K₂
  squeezed w₁ w₂ b₁ b₂ b₃ b₄ b₅ e₁ n₁ e₂ n₂ e₃ e₄ e₅ =
      let fr = first_room w₁ n₁ in
      let ls : slots_in p (drop end b₁) ≡ slots_in p (drop end b) = low_same w₁ b₁ fr.0 e₁ in
      let n₂' : w₂ + 8 * length (keep is_live (slots_in p (drop end b))) ≡ w₁ = ap (λ (l : List Slot). w₂ + 8 * length (keep is_live l)) (sym ls) ∙ n₂ in
      let pr = pack_room w₁ w₂ n₁ n₂' in
      let Y₁ : List ℕ = slot_bytes (keep is_live (slots_in p (drop end b))) in
      let Y₂ : List ℕ = slot_bytes (keep is_live (slots_in (count - p) (drop (end + 8 * p) b))) in
      let S : List ℕ = to_be 4 h ++ to_be 4 a in
      let l₁ : length Y₁ ≡ 8 * length (keep is_live (slots_in p (drop end b))) = length_slot_bytes (keep is_live (slots_in p (drop end b))) in
      let lS : length S ≡ 8 = simp (length-append, length_to_be) in
      let lb : length b₁ ≡ length b = ap length e₁ ∙ length_put b w₁ Y₂ in
      let e₂' : b₂ ≡ put b₁ w₂ Y₁ = e₂ ∙ ap (λ (l : List Slot). put b₁ w₂ (slot_bytes (keep is_live l))) ls in
      let lw : w₁ - w₂ ≡ length Y₁ = omega (arith, l₁, n₂') in
      let mv : part w₂ (w₁ - w₂) b₂ ≡ Y₁ = ap₂ (λ (m : ℕ) (l : List ℕ). part w₂ m l) lw e₂' ∙ part_inside b₁ w₂ Y₁ (omega (arith, l₁, n₂', lb, fr.1)) in
      let s₄ : b₄ ≡ put b₂ (w₂ - 8) (Y₁ ++ S) =
      e₄ ∙ ap (λ (l : List ℕ). put l (w₁ - 8) S) (e₃ ∙ ap (put b₂ (w₂ - 8)) mv) ∙ put_next b₂ (w₁ - 8) (w₂ - 8) Y₁ S (omega (arith, l₁, n₂', pr.0)) in
      let lX : length (Y₁ ++ S) ≡ length Y₁ + 8 = length-append Y₁ S ∙ ap (λ (m : ℕ). length Y₁ + m) lS in
      let s₅ : b₄ ≡ put b (w₂ - 8) ((Y₁ ++ S) ++ Y₂) =
      s₄ ∙ ap (λ (l : List ℕ). put l (w₂ - 8) (Y₁ ++ S)) e₂' ∙ put_over b₁ (w₂ - 8) w₂ (Y₁ ++ S) Y₁ (omega arith) (omega (arith, lX, pr.0))
      ∙ ap (λ (l : List ℕ). put l (w₂ - 8) (Y₁ ++ S)) e₁ ∙ put_front b (w₂ - 8) w₁ (Y₁ ++ S) Y₂ (omega (arith, lX, l₁, n₂', pr.0)) in
      let sb : slot_bytes (insert_slot (slot h a) (keep is_live (slots b))) ≡ (Y₁ ++ S) ++ Y₂ =
      ap slot_bytes new_slots ∙ slot_bytes_append (keep is_live (slots_in p (drop end b))) (slot h a ∷ keep is_live (slots_in (count - p) (drop (end + 8 * p) b)))
      ∙ ap (λ (l : List ℕ). Y₁ ++ l) (slot_front h a (keep is_live (slots_in (count - p) (drop (end + 8 * p) b)))) ∙ sym (append_assoc Y₁ S Y₂) in
      let L : length (insert_slot (slot h a) (keep is_live (slots b))) ≡ count - stale + 1 = length_insert (slot h a) (keep is_live (slots b)) ∙ omega (arith, live_count) in
      let z : w₂ - 8 ≡ length b - 8 - 8 * (count - stale + 1) = omega (arith, parts, n₁, n₂', fits) in
      tail_stored (length b) (count - stale + 1) 0 (insert_slot (slot h a) (keep is_live (slots b))) b b₄ b₅ L (omega (arith, parts, fits))
      (s₅ ∙ ap₂ (λ (m : ℕ) (l : List ℕ). put b m l) z (sym sb)) e₅

  pub squeeze_room : (w₁ w₂ : ℕ) (b₁ : List ℕ)
      → b₁ ≡ put b w₁ (slot_bytes (keep is_live (slots_in (count - p) (drop (end + 8 * p) b)))) → w₁ + 8 * length (keep is_live (slots_in (count - p) (drop (end + 8 * p) b))) ≡ length b - 8
      → w₂ + 8 * length (keep is_live (slots_in p (drop end b₁))) ≡ w₁
      → (end + 8 ≤ w₂) × ((w₂ ≤ w₁) × (w₁ + 8 ≤ length b))
  squeeze_room w₁ w₂ b₁ e₁ n₁ n₂ =
      pack_room w₁ w₂ n₁ (ap (λ (l : List Slot). w₂ + 8 * length (keep is_live l)) (sym (low_same w₁ b₁ (first_room w₁ n₁).0 e₁)) ∙ n₂)

  pub few_stale : stale ≤ count
  few_stale = omega (arith, live_count)
