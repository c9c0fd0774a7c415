-- A block put together from its parts, and taken apart again.
-- Assumes nothing.
use Prim.Native.Nat.{ℕ, zero, suc, ◌+◌, ◌-◌, ◌*◌, ◌^◌, ◌≤◌, ◌<◌}
use native.Mathlib.Omega.{arith}
use mathlib.Core.Bool.{true}
use mathlib.Core.Path.{◌≡◌, refl, sym, ◌∙◌, ap, ap₂}
use mathlib.Core.List.{List, [], ◌∷◌, ◌++◌, append_assoc, append-nil}
use lib.ListN.{length, take, drop, length-append, length-take, length-drop, take-append-drop}
use lib.Seq.{take-add, take_at, drop_at, drop-drop}
use borrow.Author.Tests.{leb-true}
use Rattle.be.specs.Lists.{every}
use Rattle.be.specs.Bytes.{bytes, be, to_be, part}
use Rattle.edition.specs.declared.Edition.{Edition}
use Rattle.dir_block_rules.specs.Record.{Rec, cut, whole}
use Rattle.dir_block_rules.specs.Block.{Slot, slots_in, slot_bytes, slots, records, count_of, stale_of, data_end}
use Rattle.dir_block_rules.specs.Verdict.{span_ok}
use Rattle.be.proofs.Bools.{and_left}
use Rattle.be.proofs.Parts.{piece, last_piece, bytes_drop, field_bytes, field_lt, part_at}
use Rattle.be.proofs.Numbers.{length_to_be, be_to_be}
use Rattle.dir_block_rules.proofs.CutJoin.{join, Laid, cut_laid, laid_count, laid_cut, join_cut}

pub length_slot_bytes : (ss : List Slot) → length (slot_bytes ss) ≡ 8 * length ss
unfolding slot_bytes
length_slot_bytes [] = refl
length_slot_bytes (s ∷ ss) = simp (length-append, length_to_be) (omega (arith, length_slot_bytes ss))

-- the tail's bytes
abbrev pub tail_bytes : ℕ → ℕ → List ℕ
tail_bytes n st = to_be 4 n ++ to_be 4 st

abbrev pub build : List ℕ → List Rec → List Slot → ℕ → List ℕ
build hd rs ss st = hd ++ (join rs ++ (slot_bytes ss ++ tail_bytes (length ss) st))

-- the numbers of the slots fit their four bytes
abbrev pub SlotsFit : List Slot → Type 0
SlotsFit [] = Unit {0}
SlotsFit (s ∷ ss) = (s.hash < 256 ^ 4) × (s.addr < 256 ^ 4) × SlotsFit ss

pub record Fit (e : Edition) (hd : List ℕ) (rs : List Rec) (ss : List Slot) (st : ℕ) : Type 0 where
  pub head : length hd ≡ e.header
  pub laid : Laid e e.header rs
  pub few : length ss < 256 ^ 4
  pub fewer : st < 256 ^ 4
  pub fits : SlotsFit ss

pub slots_in_bytes : (ss : List Slot) (d : List ℕ) → SlotsFit ss → slots_in (length ss) (slot_bytes ss ++ d) ≡ ss
unfolding slots_in slot_bytes
slots_in_bytes [] d h = refl
slots_in_bytes (s ∷ ss) d h =
    let hb : List ℕ = to_be 4 s.hash in
    let ab : List ℕ = to_be 4 s.addr in
    let rest : List ℕ = slot_bytes ss ++ d in
    let q : hb ++ (ab ++ slot_bytes ss) ++ d ≡ hb ++ (ab ++ rest) = simp append_assoc in
    rw (q, take_at hb (ab ++ rest) 4 (length_to_be 4 s.hash), drop_at hb (ab ++ rest) 4 (length_to_be 4 s.hash))
    (rw (
      take_at ab rest 4 (length_to_be 4 s.addr),
      ← append_assoc hb ab rest,
      drop_at (hb ++ ab) rest 8 (simp (length-append, length_to_be)),
      be_to_be 4 s.hash h.0,
      be_to_be 4 s.addr h.1,
      slots_in_bytes ss d h.2,
    ))

module _ (e : Edition) (hd : List ℕ) (rs : List Rec) (ss : List Slot) (st : ℕ) (f : Fit e hd rs ss st) where
  pub length_build : length (build hd rs ss st) ≡ e.header + length (join rs) + 8 * length ss + 8
  length_build = simp (length-append, length_slot_bytes, length_to_be) (omega (arith, f.head))

  front : List ℕ
  front = hd ++ (join rs ++ slot_bytes ss)

  build_front : build hd rs ss st ≡ front ++ (to_be 4 (length ss) ++ to_be 4 st)
  unfolding front
  build_front = simp append_assoc

  length_front : length front ≡ e.header + length (join rs) + 8 * length ss
  unfolding front
  length_front = simp (length-append, length_slot_bytes) (omega (arith, f.head))

  pub build_count : count_of (build hd rs ss st) ≡ length ss
  unfolding count_of
  build_count =
      ap be (ap (λ (l : List ℕ). part (length (build hd rs ss st) - 8) 4 l) build_front
      ∙ part_at front (to_be 4 (length ss)) (to_be 4 st) (length (build hd rs ss st) - 8) 4 (omega (arith, length_build, length_front)) (length_to_be 4 (length ss)))
      ∙ be_to_be 4 (length ss) f.few

  build_back : build hd rs ss st ≡ (front ++ to_be 4 (length ss)) ++ (to_be 4 st ++ [])
  unfolding front
  build_back = simp (append_assoc, append-nil)

  pub build_stale : stale_of (build hd rs ss st) ≡ st
  unfolding stale_of
  build_stale =
      ap be (ap (λ (l : List ℕ). part (length (build hd rs ss st) - 4) 4 l) build_back
      ∙ part_at (front ++ to_be 4 (length ss)) (to_be 4 st) [] (length (build hd rs ss st) - 4) 4
      (omega (arith, length-append front (to_be 4 (length ss)), length_to_be 4 (length ss), length_build, length_front)) (length_to_be 4 st))
      ∙ be_to_be 4 st f.fewer

  pub build_end : data_end (build hd rs ss st) ≡ e.header + length (join rs)
  unfolding data_end
  build_end = rw (build_count, length_build) (omega arith)

  pub build_slots : slots (build hd rs ss st) ≡ ss
  unfolding slots
  build_slots =
      rw (
        build_count,
        build_end,
        ← append_assoc hd (join rs) (slot_bytes ss ++ tail_bytes (length ss) st),
        drop_at (hd ++ join rs) (slot_bytes ss ++ tail_bytes (length ss) st) (e.header + length (join rs)) (simp length-append (omega (arith, f.head))),
        slots_in_bytes ss (tail_bytes (length ss) st) f.fits,
      )

  pub build_records : records e (build hd rs ss st) ≡ rs
  unfolding records
  build_records =
      let n : e.header + length (join rs) - e.header ≡ length (join rs) = omega arith in
      ap (λ (u : ℕ). cut e (length (build hd rs ss st)) e.header (part e.header (u - e.header) (build hd rs ss st))) build_end
      ∙ ap (λ (l : List ℕ). cut e (length (build hd rs ss st)) e.header l)
      (part_at hd (join rs) (slot_bytes ss ++ tail_bytes (length ss) st) e.header (e.header + length (join rs) - e.header) f.head (sym n))
      ∙ cut_laid e (length (build hd rs ss st)) e.header rs f.laid (omega (arith, length_build, laid_count e e.header rs f.laid))

-- the other way: a block is its parts put together
pub slot_bytes_in : (n : ℕ) (d : List ℕ) → bytes d ≡ true → 8 * n ≤ length d → slot_bytes (slots_in n d) ≡ take (8 * n) d
unfolding slot_bytes slots_in
slot_bytes_in zero d h l = refl
slot_bytes_in (suc n) d h l =
    let q : 8 * suc n ≡ 4 + (4 + 8 * n) = omega arith in
    let ih : slot_bytes (slots_in n (drop 8 d)) ≡ take (8 * n) (drop 8 d) =
    slot_bytes_in n (drop 8 d) (bytes_drop 8 d h) (simp length-drop (omega arith)) in
    rw (q, take-add 4 (4 + 8 * n) d, take-add 4 (8 * n) (drop 4 d), field_bytes 0 4 d h (omega arith), field_bytes 4 4 d h (omega arith), ih, drop-drop)

pub slots_in_fit : (n : ℕ) (d : List ℕ) → bytes d ≡ true → 8 * n ≤ length d → SlotsFit (slots_in n d)
unfolding slots_in
slots_in_fit zero d h l = tt
slots_in_fit (suc n) d h l =
    (field_lt 0 4 d h (omega arith), field_lt 4 4 d h (omega arith), slots_in_fit n (drop 8 d) (bytes_drop 8 d h) (simp length-drop (omega arith)))

pub length_slots_in : (n : ℕ) (d : List ℕ) → length (slots_in n d) ≡ n
unfolding slots_in
length_slots_in zero d = refl
length_slots_in (suc n) d = ap suc (length_slots_in n (drop 8 d))

module _ (e : Edition) (b : List ℕ) (h : bytes b ≡ true) (sp : span_ok e b ≡ true) (w : every (whole e) (records e b) ≡ true) where
  pub room_for : e.header + 8 * count_of b + 8 ≤ length b
  unfolding span_ok
  room_for = leb-true _ _ (and_left _ _ sp)

  pub slots_count : length (slots b) ≡ count_of b
  unfolding slots
  slots_count = length_slots_in (count_of b) (drop (data_end b) b)

  pub end_is : data_end b + 8 * count_of b + 8 ≡ length b
  unfolding data_end
  end_is = omega (arith, room_for)

  pub refit : Fit e (take e.header b) (records e b) (slots b) (stale_of b)
  unfolding slots records stale_of count_of
  refit =
      record {
        head = simp length-take (omega (arith, room_for));
        laid = laid_cut e (length b) e.header (part e.header (data_end b - e.header) b) w;
        few = rw slots_count (field_lt (length b - 8) 4 b h (omega (arith, room_for)));
        fewer = field_lt (length b - 4) 4 b h (omega (arith, room_for));
        fits = slots_in_fit (count_of b) (drop (data_end b) b) (bytes_drop (data_end b) b h) (simp length-drop (omega (arith, end_is)));
      }

  head_end : e.header ≤ data_end b
  head_end = omega (arith, room_for, end_is)

  tail_is : tail_bytes (length (slots b)) (stale_of b) ≡ drop (length b - 8) b
  unfolding stale_of count_of
  tail_is =
      rw (
        slots_count,
        field_bytes (length b - 8) 4 b h (omega (arith, room_for)),
        field_bytes (length b - 4) 4 b h (omega (arith, room_for)),
        last_piece (length b - 4) 4 b (omega (arith, room_for)),
      )
      (piece (length b - 8) 4 (length b - 4) b (omega (arith, room_for)))

  index_is : slot_bytes (slots b) ++ tail_bytes (length (slots b)) (stale_of b) ≡ drop (data_end b) b
  unfolding slots
  index_is =
      ap₂ (λ (l m : List ℕ). l ++ m)
      (slot_bytes_in (count_of b) (drop (data_end b) b) (bytes_drop (data_end b) b h) (simp length-drop (omega (arith, end_is)))) tail_is
      ∙ piece (data_end b) (8 * count_of b) (length b - 8) b (omega (arith, end_is))

  pub records_join : join (records e b) ≡ part e.header (data_end b - e.header) b
  unfolding records
  records_join =
      join_cut e (length b) e.header (part e.header (data_end b - e.header) b) (simp (length-take, length-drop) (omega arith)) w

  pub rebuild : build (take e.header b) (records e b) (slots b) (stale_of b) ≡ b
  rebuild =
      rw (index_is, records_join, piece e.header (data_end b - e.header) (data_end b) b (omega (arith, head_end)))
      (take-append-drop e.header b)
