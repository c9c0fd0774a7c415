-- Every change writes the best-gap table anew.
-- Assumes nothing.
use Prim.Native.Nat.{ℕ}
use mathlib.Core.Bool.{true, false}
use mathlib.Core.Path.{◌≡◌, refl, ap}
use lib.Dec.{eqb}
use borrow.Author.Tests.{eqb-true}
use Rattle.std.specs.Prelude.{Result}
use Rattle.be.proofs.Bools.{by_cases, clash}
use Rattle.edition.specs.declared.Edition.{Edition}
use Rattle.edition.specs.Edition.{v4, Sane}
use Rattle.edition.proofs.Sizes.{v4_sane}
use Rattle.dir.specs.declared.Looked.{Looked}
use Rattle.dir_block_rules.specs.Record.{is_gap, gaps}
use Rattle.dir_block_rules.specs.Block.{records}
use Rattle.dir_block_rules.specs.Verdict.{Accepted, best_pairs}
use Rattle.dir.specs.Answers.{looked_code}
use Rattle.dir_block_rules.specs.Lookup.{lookup}
use Rattle.dir_block_rules.specs.Change.{best_table, insert_code, insert_bytes, remove_code, remove_bytes}
use Rattle.dir.specs.Calls.{Call, look_up, insert, remove, done, found_or, done_or}
use Rattle.dir_block_rules.specs.Calls.{reply, after}
use Rattle.dir.specs.Book.{is_done}
use Rattle.dir.specs.Along.{call_bytes}
use Rattle.dir_block_rules.specs.Claims.{BestWritten, BestRight}
use Rattle.dir.proofs.Replies.{refused_not_done}
use Rattle.dir_block_rules.proofs.EachCall.{insert_done, remove_done, stays_bytes}
use Rattle.dir_block_rules.proofs.AcceptedParts.{fit_of}
use Rattle.dir_block_rules.proofs.InsertCases.{Inserted}
use Rattle.dir_block_rules.proofs.LookupFinds.{Removed}
use Rattle.dir_block_rules.proofs.BestRanked.{kept_rises, table_ranks}

found_not_done : (a : Result Looked ℕ) → is_done (found_or a) ≡ false
found_not_done a = by_cases (eqb (looked_code a) 0) (λ z. rw z refl) (λ z. rw z refl)

done_is_0 : (k : ℕ) → done_or k ≡ done → k ≡ 0
done_is_0 k q = by_cases (eqb k 0) (λ z. eqb-true k 0 z) (λ z. absurd (clash (ap is_done q) (refused_not_done k z)))

pub best_right : (e : Edition) → Sane e → BestRight e
unfolding BestRight reply after
best_right e sane b c h a q d = anew c q d
  where
    ranks : (c : Call) → call_bytes c ≡ true → Accepted e (after e b c) → best_pairs e (after e b c) ≡ best_table (gaps (records e (after e b c)))
        → BestWritten (best_pairs e (after e b c)) (gaps (records e (after e b c)))
    ranks c q ok is =
        rw is (table_ranks (gaps (records e (after e b c)))
        (kept_rises e is_gap e.header (records e (after e b c)) (fit_of e sane (after e b c) (stays_bytes e sane b h a c q) ok).laid))

    anew : (c : Call) → call_bytes c ≡ true → reply e b c ≡ done → BestWritten (best_pairs e (after e b c)) (gaps (records e (after e b c)))
    anew (look_up n) q d = absurd (clash (ap is_done d) (found_not_done (lookup e b n)))
    anew (insert n i) q d =
        let w : Inserted e b n i (insert_bytes e b n i) = insert_done e sane b h a n i q (done_is_0 (insert_code e b n i) d) in
        ranks (insert n i) q w.accepted w.best_is
    anew (remove n) q d =
        let w : Removed e b n (remove_bytes e b n) = remove_done e sane b h a n (done_is_0 (remove_code e b n) d) in
        ranks (remove n) q w.accepted w.best_is

pub v4_best_right : BestRight v4
v4_best_right = best_right v4 v4_sane
