-- A change leaves bytes.
-- Assumes nothing.
use Prim.Native.Nat.{ℕ, zero, suc, ◌+◌, ◌-◌, ◌*◌, ◌/◌, ◌<◌}
use mathlib.Core.Bool.{true}
use mathlib.Core.Path.{◌≡◌, refl}
use mathlib.Core.List.{List, [], ◌∷◌, ◌++◌}
use lib.Dec.{ltb}
use lib.ListN.{length, replicate}
use borrow.Author.Tests.{lt-ltb}
use Rattle.be.specs.Lists.{keep, without_first}
use Rattle.be.specs.Bytes.{bytes, to_be, written, Write, write}
use Rattle.edition.specs.declared.Edition.{Edition}
use Rattle.edition.specs.Edition.{entry_size, Sane}
use Rattle.dir.specs.declared.Target.{Target}
use Rattle.dir_block_rules.specs.Record.{pad, Rec, size, entry_bytes, gap_writes, gaps}
use Rattle.dir_block_rules.specs.Block.{Slot, slot, slots, slot_bytes, records, stale_of, data_end, is_stale, is_live}
use Rattle.name.specs.Name.{hash_of}
use Rattle.dir_block_rules.proofs.Sealing.{seals}
use Rattle.dir_block_rules.specs.Lookup.{sought}
use Rattle.dir_block_rules.specs.Verdict.{Pair}
use Rattle.dir_block_rules.specs.Room.{Room, room_of, other_gaps, case_a, case_b, case_c}
use Rattle.dir_block_rules.specs.Change.{longest, insert_slot, gap_start_before, gap_end_after, best_table, pair_bytes, with_best, changed, index_writes, entry_writes, writes_a, writes_b, writes_c, writes_d, insert_writes, remove_writes}
use Rattle.be.proofs.Bools.{by_cases, every_cons}
use Rattle.be.proofs.BytesStay.{All, all_append, bytes_append, bytes_to_be, bytes_zeros, bytes_written}

bytes_pad : (e : Edition) (k : ℕ) (n : List ℕ) → bytes (pad e k n) ≡ true
unfolding pad
bytes_pad e k n =
    bytes_append (to_be e.ftype k) (replicate (entry_size e (length n) - (11 + e.ftype + length n)) 0) (bytes_to_be e.ftype k) (bytes_zeros (entry_size e (length n) - (11 + e.ftype + length n)))

bytes_entry : (e : Edition) (o : ℕ) (i : Target) (n : List ℕ) → bytes n ≡ true → length n < 256 → bytes (entry_bytes e o i n) ≡ true
unfolding entry_bytes
bytes_entry e o i n h l =
    bytes_append (to_be 8 i.inode ++ (length n ∷ n) ++ pad e i.kind n) (to_be 2 o)
    (bytes_append (to_be 8 i.inode ++ (length n ∷ n)) (pad e i.kind n)
    (bytes_append (to_be 8 i.inode) (length n ∷ n) (bytes_to_be 8 i.inode) (every_cons (λ z. ltb z 256) (length n) n (lt-ltb (length n) 256 l) h))
    (bytes_pad e i.kind n))
    (bytes_to_be 2 o)

all_gap : (o n : ℕ) → All (gap_writes o n)
unfolding gap_writes
all_gap o zero = tt
all_gap o (suc n) = (bytes_to_be 2 (suc n), (bytes_to_be 2 o, tt))

bytes_slots : (ss : List Slot) → bytes (slot_bytes ss) ≡ true
unfolding slot_bytes
bytes_slots [] = refl
bytes_slots (s ∷ ss) =
    bytes_append (to_be 4 s.hash) (to_be 4 s.addr ++ slot_bytes ss) (bytes_to_be 4 s.hash) (bytes_append (to_be 4 s.addr) (slot_bytes ss) (bytes_to_be 4 s.addr) (bytes_slots ss))

bytes_pairs : (ps : List Pair) → bytes (pair_bytes ps) ≡ true
unfolding pair_bytes
bytes_pairs [] = refl
bytes_pairs (p ∷ ps) =
    bytes_append (to_be 2 p.from) (to_be 2 p.long ++ pair_bytes ps) (bytes_to_be 2 p.from) (bytes_append (to_be 2 p.long) (pair_bytes ps) (bytes_to_be 2 p.long) (bytes_pairs ps))

all_index : (n : ℕ) (ss : List Slot) (s : ℕ) → All (index_writes n ss s)
all_index n ss s =
    (bytes_append (slot_bytes ss) (to_be 4 (length ss) ++ to_be 4 s) (bytes_slots ss) (bytes_append (to_be 4 (length ss)) (to_be 4 s) (bytes_to_be 4 (length ss)) (bytes_to_be 4 s)), tt)

pub bytes_changed : (e : Edition) → Sane e → (b : List ℕ) (ws : List Write) → bytes b ≡ true → All ws → bytes (changed e b ws) ≡ true
unfolding changed with_best
bytes_changed e sane b ws h a =
    (seals e sane (with_best e (written b ws))).stays_bytes
    (bytes_written (written b ws) (write e.best (pair_bytes (best_table (gaps (records e (written b ws))))) ∷ []) (bytes_written b ws h a)
    (bytes_pairs (best_table (gaps (records e (written b ws)))), tt))

all_entry : (e : Edition) (i : Target) (n : List ℕ) (o u : ℕ) → bytes n ≡ true → length n < 256 → All (entry_writes e i n o u)
all_entry e i n o u h l = (bytes_entry e o i n h l, all_gap (o + entry_size e (length n)) (u - (o + entry_size e (length n))))

all_two : (e : Edition) (i : Target) (n : List ℕ) (o u len : ℕ) (ss : List Slot) (s : ℕ) → bytes n ≡ true → length n < 256 → All (entry_writes e i n o u ++ index_writes len ss s)
all_two e i n o u len ss s h l = all_append (entry_writes e i n o u) (index_writes len ss s) (all_entry e i n o u h l) (all_index len ss s)

all_three : (e : Edition) (i : Target) (n : List ℕ) (o u p q len : ℕ) (ss : List Slot) (s : ℕ) → bytes n ≡ true → length n < 256
    → All (entry_writes e i n o u ++ (gap_writes p q ++ index_writes len ss s))
all_three e i n o u p q len ss s h l =
    all_append (entry_writes e i n o u) (gap_writes p q ++ index_writes len ss s) (all_entry e i n o u h l) (all_append (gap_writes p q) (index_writes len ss s) (all_gap p q) (all_index len ss s))

pub all_insert : (e : Edition) (b n : List ℕ) (i : Target) → bytes n ≡ true → length n < 256 → All (insert_writes e b n i)
unfolding insert_writes writes_a writes_b writes_c writes_d
all_insert e b n i h l =
    let m : Room = room_of e b n in
    let L : ℕ = length b in
    let sl : Rec → Slot = λ g. slot (hash_of e n) (g.off / 8) in
    let g : Rec = longest m.all_gaps in
    let d : Rec = longest (other_gaps m) in
    let t : Rec = m.last_gap in
    by_cases (case_a m) (λ q. rw q (all_two e i n g.off (g.off + size g) L (insert_slot (sl g) (without_first is_stale (slots b))) (m.stale - 1) h l))
    (λ q. by_cases (case_b m) (λ p. rw (q, p) (all_two e i n t.off (t.off + size t + 8 * (m.stale - 1)) L (insert_slot (sl t) (keep is_live (slots b))) 0 h l))
    (λ p. by_cases (case_c m)
    (λ r. rw (q, p, r) (all_three e i n d.off (d.off + size d) t.off (size t - 8) L (insert_slot (sl d) (slots b)) 0 h l))
    (λ r. rw (q, p, r) (all_two e i n t.off (t.off + size t - 8) L (insert_slot (sl t) (slots b)) 0 h l))))

pub all_remove : (e : Edition) (b n : List ℕ) → All (remove_writes e b n)
unfolding remove_writes
all_remove e b n =
    let gs : List Rec = gaps (records e b) in
    let o : ℕ = gap_start_before (sought e b n).at gs in
    let u : ℕ = gap_end_after ((sought e b n).at + entry_size e (length n)) gs in
    all_append (gap_writes o (u - o)) (write (data_end b + 8 * (sought e b n).index + 4) (to_be 4 0) ∷ write (length b - 4) (to_be 4 (stale_of b + 1)) ∷ []) (all_gap o (u - o)) (bytes_to_be 4 0, (bytes_to_be 4 (stale_of b + 1), tt))
