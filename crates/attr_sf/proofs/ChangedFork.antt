-- The writes of a removal and of a set leave the fork that the definitions name, and the code's tests for has_room are theirs.
-- Assumes nothing.
use Prim.Native.Nat.{ℕ, ◌+◌, ◌-◌, ◌≤◌, ◌<◌}
use native.Mathlib.Omega.{arith}
use mathlib.Core.Bool.{true, false, cond}
use mathlib.Core.Path.{◌≡◌, sym, ◌∙◌, ap}
use mathlib.Core.List.{List, [], ◌∷◌, ◌++◌, append-nil}
use lib.Dec.{leb, ltb}
use lib.Seq.{length-take-le}
use lib.ListN.{length, take, drop, length-append}
use borrow.Author.Tests.{lt-ltb, le-ltb, le-leb, lt-leb}
use Rattle.be.specs.Bytes.{put, to_be}
use Rattle.be.proofs.Bools.{and_false}
use Rattle.records.proofs.Joined.{joined_append}
use Rattle.attr_sf.specs.declared.Plan.{Plan}
use Rattle.attr_sf.specs.Inner.{plan_of, closed, fork_changed, ForkRemoval, ForkSet}
use Rattle.attr_sf.specs.Entry.{entry, others, entry_bytes, run}
use Rattle.attr_sf.specs.Fork.{header, totsize, count, stored, size_at, key_place, fork_verdict, fork_with, fits}
use Rattle.attr_sf.specs.Calls.{held, held_request, set_entries, has_room, room_request}
use Rattle.attr_sf.proofs.ForkTests.{long, end_inside}
use Rattle.attr_sf.proofs.ReadBack.{bytes_length}
use Rattle.attr_sf.proofs.ForkWrites.{zeros, close_writes, append_writes, head_writes}
use Rattle.attr_sf.proofs.AroundEntry.{Apart, layout}

module _ (f name : List ℕ) (flags : ℕ) (z : fork_verdict f ≡ 0) (P : Plan) (q : P ≡ plan_of f name flags) where
  p_at : P.at ≡ key_place f name flags
  unfolding plan_of
  p_at = ap (λ (x : Plan). x.at) q

  p_size : P.size ≡ cond (ltb (key_place f name flags) (totsize f)) (size_at f (key_place f name flags)) 0
  unfolding plan_of
  p_size = ap (λ (x : Plan). x.size) q

  p_kept : P.kept ≡ cond (ltb (key_place f name flags) (totsize f)) (count f - 1) (count f)
  unfolding plan_of
  p_kept = ap (λ (x : Plan). x.kept) q

  p_end : P.end ≡ totsize f
  unfolding plan_of
  p_end = ap (λ (x : Plan). x.end) q

  L : Apart f name flags
  L = layout f name flags z

  size_is : P.size ≡ length L.own
  size_is = p_size ∙ L.sized

  -- what is read first lies in the fork
  plan_inside : (P.at + P.size ≤ P.end) × (P.end ≤ length f)
  plan_inside = (omega (arith, p_at, p_end, size_is, L.starts, L.stops), omega (arith, p_end, end_inside f z))

  kept_is : length (others name flags (stored f)) ≡ P.kept
  kept_is = L.kept ∙ sym p_kept

  left_is : header + length (run (others name flags (stored f))) ≡ P.end - P.size
  left_is =
      let l : length (run (others name flags (stored f))) ≡ length L.before + length L.behind = ap length L.rest ∙ length-append L.before L.behind in
      omega (arith, p_end, size_is, L.stops)

  closes : closed f P.end P.at P.size ≡ take header f ++ (run (others name flags (stored f)) ++ zeros (length f - (P.end - P.size)))
  closes =
      let h : length (take header f) ≡ header = length-take-le header f (long f z) in
      close_writes f (take header f) L.before L.own L.behind (drop (totsize f) f) P.at P.size P.end L.whole
      (omega (arith, p_at, L.starts)) size_is (omega (arith, p_end, L.stops))
      ∙ ap (λ (x : List ℕ). take header f ++ (x ++ zeros (length f - (P.end - P.size)))) (sym L.rest)

  remove_writes : put (put (closed f P.end P.at P.size) 0 (to_be 2 (P.end - P.size))) 2 (to_be 1 P.kept)
      ≡ fork_with f (others name flags (stored f))
  unfolding fork_with
  remove_writes =
      ap (λ (x : List ℕ). put (put x 0 (to_be 2 (P.end - P.size))) 2 (to_be 1 P.kept)) closes
      ∙ head_writes f (run (others name flags (stored f)) ++ zeros (length f - (P.end - P.size))) (P.end - P.size) P.kept (long f z)
      ∙ rw (left_is, kept_is)

  held_is : P.at < P.end → held f name flags ≡ true
  unfolding held
  held_is h = rw (← p_at, ← p_end) (lt-ltb _ _ h)

  held_not : P.end ≤ P.at → held f name flags ≡ false
  unfolding held
  held_not h = rw (← p_at, ← p_end) (le-ltb _ _ h)

  module _ (value : List ℕ) where
    set_run : run (set_entries name flags value (stored f)) ≡ run (others name flags (stored f)) ++ entry_bytes (entry flags name value)
    unfolding set_entries
    set_run = joined_append entry_bytes (others name flags (stored f)) (entry flags name value ∷ []) ∙ ap (λ (x : List ℕ). run (others name flags (stored f)) ++ x) (append-nil (entry_bytes (entry flags name value)))

    set_total : header + length (run (set_entries name flags value (stored f))) ≡ P.end - P.size + 3 + length name + length value
    set_total =
        let l : length (run (set_entries name flags value (stored f))) ≡ length (run (others name flags (stored f))) + length (entry_bytes (entry flags name value)) =
        ap length set_run ∙ length-append (run (others name flags (stored f))) (entry_bytes (entry flags name value)) in
        omega (arith, left_is, bytes_length (entry flags name value))

    set_number : length (set_entries name flags value (stored f)) ≡ P.kept + 1
    unfolding set_entries
    set_number = length-append (others name flags (stored f)) (entry flags name value ∷ []) ∙ omega (arith, kept_is)

    room_value : 255 < length value → has_room f name flags value ≡ false
    unfolding has_room
    room_value h = rw (lt-leb (length value) 255 h)

    room_count : 254 < P.kept → has_room f name flags value ≡ false
    unfolding has_room fits
    room_count k = rw (lt-leb (length (set_entries name flags value (stored f))) 255 (omega (arith, set_number))) (and_false (leb (length value) 255))

    room_total : length f < P.end - P.size + 3 + length name + length value → has_room f name flags value ≡ false
    unfolding has_room fits
    room_total t =
        let o : leb (header + length (run (set_entries name flags value (stored f)))) (length f) ≡ false =
        lt-leb (header + length (run (set_entries name flags value (stored f)))) (length f) (omega (arith, set_total)) in
        rw (o, and_false (leb (length (set_entries name flags value (stored f))) 255)) (and_false (leb (length value) 255))

    room_is : length value ≤ 255 → P.kept ≤ 254 → P.end - P.size + 3 + length name + length value ≤ length f → has_room f name flags value ≡ true
    unfolding has_room fits
    room_is h k t =
        rw (le-leb (length value) 255 h, le-leb (length (set_entries name flags value (stored f))) 255 (omega (arith, set_number)), le-leb (header + length (run (set_entries name flags value (stored f)))) (length f) (omega (arith, set_total)))

    set_writes : P.end - P.size + 3 + length name + length value ≤ length f
        → put (put (put (closed f P.end P.at P.size) (P.end - P.size) (entry_bytes (entry flags name value))) 0 (to_be 2 (P.end - P.size + 3 + length name + length value))) 2 (to_be 1 (P.kept + 1))
        ≡ fork_with f (set_entries name flags value (stored f))
    unfolding fork_with
    set_writes t =
        let h : length (take header f) ≡ header = length-take-le header f (long f z) in
        let a : put (closed f P.end P.at P.size) (P.end - P.size) (entry_bytes (entry flags name value))
        ≡ take header f ++ ((run (others name flags (stored f)) ++ entry_bytes (entry flags name value)) ++ zeros (length f - (P.end - P.size + 3 + length name + length value))) =
        ap (λ (x : List ℕ). put x (P.end - P.size) (entry_bytes (entry flags name value))) closes
        ∙ append_writes (take header f) (run (others name flags (stored f))) (entry_bytes (entry flags name value)) (P.end - P.size) (length f - (P.end - P.size)) (length f - (P.end - P.size + 3 + length name + length value))
        (omega (arith, left_is)) (omega (arith, bytes_length (entry flags name value))) in
        ap (λ (x : List ℕ). put (put x 0 (to_be 2 (P.end - P.size + 3 + length name + length value))) 2 (to_be 1 (P.kept + 1))) a
        ∙ head_writes f ((run (others name flags (stored f)) ++ entry_bytes (entry flags name value)) ++ zeros (length f - (P.end - P.size + 3 + length name + length value))) (P.end - P.size + 3 + length name + length value) (P.kept + 1) (long f z)
        ∙ rw (set_total, set_number, set_run)

-- ---- the answers in the code's order, and the fork after them

module _ (f name : List ℕ) (flags : ℕ) (z : fork_verdict f ≡ 0) {P : Plan} (q : P ≡ plan_of f name flags) where
  pub planned : (P ≡ plan_of f name flags) × ((P.at + P.size ≤ P.end) × (P.end ≤ length f))
  planned = (q, plan_inside f name flags z P q)

  pub remove_not : P.end ≤ P.at → ForkRemoval f name flags 13 f
  unfolding held_request fork_changed
  remove_not h = let k = held_not f name flags z P q h in (rw k, rw k)

  pub remove_done : {c g : List ℕ} → P.at < P.end → c ≡ closed f P.end P.at P.size
      → g ≡ put (put c 0 (to_be 2 (P.end - P.size))) 2 (to_be 1 P.kept)
      → ForkRemoval f name flags 0 g
  unfolding held_request fork_changed
  remove_done h a b =
      let k = held_is f name flags z P q h in
      (rw k, rw k (b ∙ ap (λ (x : List ℕ). put (put x 0 (to_be 2 (P.end - P.size))) 2 (to_be 1 P.kept)) a ∙ remove_writes f name flags z P q))

  module _ (value : List ℕ) where
    refused_by : has_room f name flags value ≡ false → ForkSet f name flags value 15 f
    unfolding room_request fork_changed
    refused_by h = (rw h, rw h)

    pub set_value : 255 < length value → ForkSet f name flags value 15 f
    set_value h = refused_by (room_value f name flags z P q value h)

    pub set_count : 254 < P.kept → ForkSet f name flags value 15 f
    set_count k = refused_by (room_count f name flags z P q value k)

    pub set_total_over : length f < P.end - P.size + 3 + length name + length value → ForkSet f name flags value 15 f
    set_total_over t = refused_by (room_total f name flags z P q value t)

    pub set_done : {c d g : List ℕ} → length value ≤ 255 → P.kept ≤ 254 → P.end - P.size + 3 + length name + length value ≤ length f
        → c ≡ closed f P.end P.at P.size
        → d ≡ put c (P.end - P.size) (entry_bytes (entry flags name value))
        → g ≡ put (put d 0 (to_be 2 (P.end - P.size + 3 + length name + length value))) 2 (to_be 1 (P.kept + 1))
        → ForkSet f name flags value 0 g
    unfolding room_request fork_changed
    set_done h k t a b w =
        let r = room_is f name flags z P q value h k t in
        let y = b ∙ ap (λ (x : List ℕ). put x (P.end - P.size) (entry_bytes (entry flags name value))) a in
        (rw r, rw r (w ∙ ap (λ (x : List ℕ). put (put x 0 (to_be 2 (P.end - P.size + 3 + length name + length value))) 2 (to_be 1 (P.kept + 1))) y ∙ set_writes f name flags z P q value t))
