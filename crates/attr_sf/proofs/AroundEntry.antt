-- A fork that passes, taken apart around the entry asked for; what the writes of a removal and of a set leave.
-- Assumes nothing.
use Prim.Native.Nat.{ℕ, suc, ◌+◌, ◌-◌, ◌≤◌, ◌<◌}
use native.Mathlib.Omega.{arith}
use mathlib.Core.Bool.{false, cond}
use mathlib.Core.Path.{◌≡◌, sym, ◌∙◌, ap}
use mathlib.Core.List.{List, [], ◌∷◌, ◌++◌, append_assoc, append-nil}
use lib.Dec.{ltb}
use lib.ListN.{length, take, drop, length-append, take-append-drop}
use borrow.Author.Tests.{ltb-true, ltb-false, lt-ltb, le-ltb}
use Rattle.be.specs.Lists.{some_of}
use Rattle.be.specs.Bytes.{part}
use Rattle.be.proofs.Bools.{by_cases}
use Rattle.be.proofs.Parts.{piece, part_length}
use Rattle.records.specs.Records.{start}
use Rattle.records.proofs.Starts.{length_records}
use Rattle.records.proofs.Joined.{joined_append, joined_stored}
use Rattle.attr_sf.specs.Entry.{is_key, others, entry_bytes, run}
use Rattle.attr_sf.specs.Fork.{header, totsize, count, stored, size_at, entry_at, key_place, fork_verdict}
use Rattle.attr_sf.proofs.Tiling.{seek_some}
use Rattle.attr_sf.proofs.ForkTests.{end_above, end_inside, all_ends, all_once}
use Rattle.attr_sf.proofs.StoredBytes.{stored_bytes}
use Rattle.attr_sf.proofs.Seeking.{place_within}
use Rattle.attr_sf.proofs.OtherEntries.{Split, split, others_all}

-- the bytes before the entry asked for, its own, and those behind it; its own are none when there is no such entry
pub record Apart (f name : List ℕ) (flags : ℕ) : Type 0 where
  pub before : List ℕ
  pub own : List ℕ
  pub behind : List ℕ
  pub whole : f ≡ take header f ++ (before ++ (own ++ (behind ++ drop (totsize f) f)))
  pub starts : key_place f name flags ≡ header + length before
  pub sized : cond (ltb (key_place f name flags) (totsize f)) (size_at f (key_place f name flags)) 0 ≡ length own
  pub stops : totsize f ≡ header + length before + length own + length behind
  pub rest : run (others name flags (stored f)) ≡ before ++ behind
  pub kept : length (others name flags (stored f)) ≡ cond (ltb (key_place f name flags) (totsize f)) (count f - 1) (count f)

module _ (f name : List ℕ) (flags : ℕ) (z : fork_verdict f ≡ 0) where
  body : part header (totsize f - header) f ≡ run (stored f)
  unfolding stored
  body =
      ap (λ (n : ℕ). part header (n - header) f) (sym (all_ends f z))
      ∙ joined_stored entry_bytes f (size_at f) (entry_at f) (stored_bytes f) (count f) header (rw (all_ends f z) (end_inside f z))

  pub body_length : length (run (stored f)) ≡ totsize f - header
  body_length = ap length (sym body) ∙ part_length header (totsize f - header) f (omega (arith, end_above f z, end_inside f z))

  parts : f ≡ take header f ++ (run (stored f) ++ drop (totsize f) f)
  parts =
      sym (take-append-drop header f)
      ∙ ap (λ (x : List ℕ). take header f ++ x) (sym (piece header (totsize f - header) (totsize f) f (omega (arith, end_above f z))) ∙ ap (λ (x : List ℕ). x ++ drop (totsize f) f) body)

  pub number : length (stored f) ≡ count f
  unfolding stored
  number = length_records (size_at f) (entry_at f) (count f) header

  pub splits : key_place f name flags < totsize f → Split f name flags (count f) header
  unfolding key_place stored
  splits h = split f name flags (count f) header (rw (all_ends f z) (end_inside f z)) (all_once f z) (rw (← all_ends f z) at h)

  found : key_place f name flags < totsize f → Apart f name flags
  unfolding key_place stored
  found h =
      let s = splits h in
      let a = s.around in
      let w : run (stored f) ≡ run a.front ++ (entry_bytes a.mid ++ run a.back) =
      ap run a.whole ∙ joined_append entry_bytes a.front (a.mid ∷ a.back) in
      let lw : length (run (stored f)) ≡ length (run a.front) + (length (entry_bytes a.mid) + length (run a.back)) = ap length w ∙ simp length-append in
      let ln : count f ≡ length a.front + suc (length a.back) = sym number ∙ ap length a.whole ∙ length-append a.front (a.mid ∷ a.back) in
      record {
        before = run a.front;
        own = entry_bytes a.mid;
        behind = run a.back;
        whole = parts ∙ ap (λ (x : List ℕ). take header f ++ x) (ap (λ (x : List ℕ). x ++ drop (totsize f) f) w ∙ simp append_assoc);
        starts = s.starts;
        sized = rw (lt-ltb _ _ h) s.sized;
        stops = omega (arith, body_length, end_above f z);
        rest = ap run a.rest ∙ joined_append entry_bytes a.front a.back;
        kept = rw (lt-ltb _ _ h) (ap length a.rest ∙ length-append a.front a.back ∙ omega arith);
      }

  -- no entry has the name and the flags
  pub absent : totsize f ≤ key_place f name flags → some_of (is_key name flags) (stored f) ≡ false
  unfolding key_place stored
  absent h = sym (seek_some f name flags (count f) header) ∙ le-ltb (key_place f name flags) (start (size_at f) (count f) header) (rw (all_ends f z) h)

  missing : totsize f ≤ key_place f name flags → Apart f name flags
  missing h =
      let o : others name flags (stored f) ≡ stored f = others_all name flags (stored f) (absent h) in
      let p : key_place f name flags ≡ totsize f = omega (arith, place_within f name flags z) in
      let t : ltb (key_place f name flags) (totsize f) ≡ false = le-ltb _ _ h in
      record {
        before = run (stored f);
        own = [];
        behind = [];
        whole = parts;
        starts = omega (arith, body_length, end_above f z);
        sized = rw t;
        stops = omega (arith, body_length, end_above f z);
        rest = ap run o ∙ sym (append-nil (run (stored f)));
        kept = rw t (ap length o ∙ number);
      }

  pub layout : Apart f name flags
  layout = by_cases (ltb (key_place f name flags) (totsize f)) (λ q. found (ltb-true _ _ q)) (λ q. missing (ltb-false _ _ q))
