-- A set that is done leaves an accepted fork with the new attribute at the end, every other as before, and the lookup gives exactly the value.
-- Assumes nothing.
use Prim.Native.Nat.{ℕ}
use native.Mathlib.Omega.{arith}
use mathlib.Core.Bool.{true}
use mathlib.Core.Path.{◌≡◌, ◌∙◌, ap}
use mathlib.Core.List.{List, [], ◌∷◌, ◌++◌}
use lib.Dec.{leb}
use lib.ListN.{length}
use Rattle.be.specs.Lists.{keep}
use Rattle.be.proofs.Bools.{and_right, keep_append}
use Rattle.be.proofs.Codes.{both}
use Rattle.edition.specs.declared.Edition.{Edition}
use Rattle.edition.specs.Edition.{Sane}
use Rattle.dinode.specs.Core.{attr_fork}
use Rattle.attr_sf.specs.Entry.{Entry, entry, is_key, others}
use Rattle.attr_sf.specs.Fork.{stored, fork_verdict, fits, name_legal_of, flags_legal_of}
use Rattle.attr_sf.specs.Calls.{verdict, asked_code, has_room, room_request, set_entries, set_code, set_bytes}
use Rattle.attr_sf.specs.Laws.{SetLaw}
use Rattle.attr_sf.proofs.ForkTests.{all_named, all_flagged, all_once}
use Rattle.attr_sf.proofs.InodeTests.{holds, fork_passed, tests_passed, asked_legal, still_asked}
use Rattle.attr_sf.proofs.OtherEntries.{key_own, others_none, others_every, others_distinct, distinct_more, every_more}
use Rattle.attr_sf.proofs.LookupLaws.{value_among, code_among, keep_none, value_by, code_by}
use Rattle.attr_sf.proofs.RebuiltInode.{new_kept, new_stored}

-- the new one is the only one with its name and flags
kept_new : (name : List ℕ) (flags : ℕ) (value : List ℕ) (xs : List Entry)
    → keep (is_key name flags) (others name flags xs ++ (entry flags name value ∷ [])) ≡ entry flags name value ∷ []
kept_new name flags value xs =
    keep_append (is_key name flags) (others name flags xs) (entry flags name value ∷ [])
    ∙ rw (keep_none (is_key name flags) (others name flags xs) (others_none name flags xs), key_own flags name value)

pub set_law : (e : Edition) → Sane e → SetLaw e
unfolding set_code room_request has_room set_bytes set_entries value_among code_among
set_law e sane b name flags value q =
    let p = both (asked_code e b name flags) (room_request (attr_fork e b) name flags value) q in
    let r : has_room (attr_fork e b) name flags value ≡ true = holds (has_room (attr_fork e b) name flags value) 15 (omega arith) p.1 in
    let t : verdict e b ≡ 0 = tests_passed e b name flags p.0 in
    let z : fork_verdict (attr_fork e b) ≡ 0 = fork_passed e b t in
    let k = asked_legal e b name flags p.0 in
    let w : fits (attr_fork e b) (set_entries name flags value (stored (attr_fork e b))) ≡ true = and_right (leb (length value) 255) _ r in
    let kept =
    new_kept e sane b t (set_code e b name flags value) q (set_entries name flags value (stored (attr_fork e b))) w
    (every_more name_legal_of (entry flags name value) (others name flags (stored (attr_fork e b))) (others_every name flags name_legal_of (stored (attr_fork e b)) (all_named (attr_fork e b) z)) k.0)
    (every_more flags_legal_of (entry flags name value) (others name flags (stored (attr_fork e b))) (others_every name flags flags_legal_of (stored (attr_fork e b)) (all_flagged (attr_fork e b) z)) k.1)
    (distinct_more name flags value (others name flags (stored (attr_fork e b))) (others_distinct name flags (stored (attr_fork e b)) (all_once (attr_fork e b) z)) (others_none name flags (stored (attr_fork e b)))) in
    let st = new_stored e sane b t (set_code e b name flags value) q (set_entries name flags value (stored (attr_fork e b))) w in
    let a : asked_code e (set_bytes e b name flags value) name flags ≡ 0 = still_asked e (set_bytes e b name flags value) name flags kept.accepted k in
    let o : keep (is_key name flags) (stored (attr_fork e (set_bytes e b name flags value))) ≡ entry flags name value ∷ [] =
    ap (keep (is_key name flags)) st ∙ kept_new name flags value (stored (attr_fork e b)) in
    record {
      left = kept;
      rest = st;
      there = code_by e (set_bytes e b name flags value) name flags a ∙ ap code_among o;
      given = value_by e (set_bytes e b name flags value) name flags a ∙ ap value_among o;
    }
