-- A removal that is done leaves an accepted fork without the attribute, which is absent from then on, and every other as before.
-- Assumes nothing.
use Prim.Native.Nat.{ℕ, ◌+◌, ◌≤◌}
use native.Mathlib.Omega.{arith}
use mathlib.Core.Bool.{true}
use mathlib.Core.Path.{◌≡◌, ◌∙◌, ap}
use mathlib.Core.List.{List, [], ◌∷◌}
use lib.ListN.{length, length-append}
use borrow.Author.Tests.{le-leb}
use Rattle.be.specs.Lists.{some_of}
use Rattle.be.specs.Bytes.{bytes}
use Rattle.be.proofs.Bools.{by_cases}
use Rattle.be.proofs.Parts.{bytes_drop, field_lt, field_1}
use Rattle.be.proofs.Codes.{both}
use Rattle.edition.specs.declared.Edition.{Edition}
use Rattle.edition.specs.Edition.{Sane}
use Rattle.dinode.specs.Core.{attr_start, attr_fork}
use Rattle.attr_sf.specs.Entry.{Entry, entry_bytes, is_key, others, run}
use Rattle.attr_sf.specs.Fork.{header, count, stored, fork_verdict, fits, name_legal_of, flags_legal_of}
use Rattle.attr_sf.specs.Calls.{verdict, asked_code, held_request, lookup_code, remove_bytes}
use Rattle.attr_sf.specs.Laws.{RemovalLaw}
use Rattle.attr_sf.proofs.ForkTests.{long, end_above, end_inside, all_named, all_flagged, all_once}
use Rattle.attr_sf.proofs.InodeTests.{fork_passed, tests_passed, asked_legal, still_asked}
use Rattle.attr_sf.proofs.OtherEntries.{others_none, others_every, others_distinct}
use Rattle.attr_sf.proofs.AroundEntry.{number, body_length}
use Rattle.attr_sf.proofs.LookupLaws.{absent_if}
use Rattle.attr_sf.proofs.RebuiltInode.{new_kept, new_stored}

-- without the one asked for, the entries still fit
others_length : (name : List ℕ) (flags : ℕ) (xs : List Entry) → length (others name flags xs) ≤ length xs
unfolding others
others_length name flags [] = omega arith
others_length name flags (x ∷ xs) =
    let r : length (others name flags xs) ≤ length xs = others_length name flags xs in
    by_cases (is_key name flags x) (λ q. rw q (omega arith)) (λ q. rw q (omega arith))

others_run : (name : List ℕ) (flags : ℕ) (xs : List Entry) → length (run (others name flags xs)) ≤ length (run xs)
unfolding others
others_run name flags [] = omega arith
others_run name flags (x ∷ xs) =
    let r : length (run (others name flags xs)) ≤ length (run xs) = others_run name flags xs in
    by_cases (is_key name flags x) (λ q. rw (q, length-append (entry_bytes x) (run xs)) (omega arith))
    (λ q. rw (q, length-append (entry_bytes x) (run xs), length-append (entry_bytes x) (run (others name flags xs))) (omega arith))

count_byte : (f : List ℕ) → bytes f ≡ true → header ≤ length f → count f ≤ 255
unfolding count
count_byte f y l = omega (arith, field_1 f 2, field_lt 2 1 f y (omega arith))

others_fit : (f name : List ℕ) (flags : ℕ) → bytes f ≡ true → fork_verdict f ≡ 0 → fits f (others name flags (stored f)) ≡ true
unfolding fits
others_fit f name flags y z =
    let a : length (others name flags (stored f)) ≤ length (stored f) = others_length name flags (stored f) in
    let r : length (run (others name flags (stored f))) ≤ length (run (stored f)) = others_run name flags (stored f) in
    rw (le-leb (length (others name flags (stored f))) 255 (omega (arith, number f name flags z, count_byte f y (long f z))), le-leb (header + length (run (others name flags (stored f)))) (length f) (omega (arith, body_length f name flags z, end_inside f z, end_above f z)))

pub removal_law : (e : Edition) → Sane e → RemovalLaw e
unfolding lookup_code remove_bytes attr_fork
removal_law e sane b name flags y q =
    let p = both (asked_code e b name flags) (held_request (attr_fork e b) name flags) q in
    let t : verdict e b ≡ 0 = tests_passed e b name flags p.0 in
    let z : fork_verdict (attr_fork e b) ≡ 0 = fork_passed e b t in
    let k = asked_legal e b name flags p.0 in
    let w : fits (attr_fork e b) (others name flags (stored (attr_fork e b))) ≡ true = others_fit (attr_fork e b) name flags (bytes_drop (attr_start e b) b y) z in
    let kept =
    new_kept e sane b t (lookup_code e b name flags) q (others name flags (stored (attr_fork e b))) w
    (others_every name flags name_legal_of (stored (attr_fork e b)) (all_named (attr_fork e b) z))
    (others_every name flags flags_legal_of (stored (attr_fork e b)) (all_flagged (attr_fork e b) z))
    (others_distinct name flags (stored (attr_fork e b)) (all_once (attr_fork e b) z)) in
    let st = new_stored e sane b t (lookup_code e b name flags) q (others name flags (stored (attr_fork e b))) w in
    record {
      left = kept;
      rest = st;
      gone =
          absent_if e (remove_bytes e b name flags) name flags (still_asked e (remove_bytes e b name flags) name flags kept.accepted k)
          (ap (some_of (is_key name flags)) st ∙ others_none name flags (stored (attr_fork e b)));
    }
