-- Demand 3's sum, of every accepted block.
-- Assumes nothing.
use Prim.Native.Nat.{ℕ, ◌+◌}
use native.Mathlib.Omega.{arith}
use mathlib.Core.Bool.{true, false}
use mathlib.Core.Path.{◌≡◌, refl, sym, ◌∙◌, ap}
use mathlib.Core.List.{List, [], ◌∷◌}
use lib.ListN.{length, get_or, length-append, length-take, length-drop}
use Rattle.be.specs.Lists.{total}
use Rattle.be.specs.Bytes.{bytes}
use Rattle.edition.specs.declared.Edition.{Edition}
use Rattle.edition.specs.Edition.{entry_size, Sane}
use Rattle.dir_block_rules.specs.Record.{Rec, size, says, is_gap, entries, gaps, name}
use Rattle.dir_block_rules.specs.Block.{records, sum_of_parts}
use Rattle.dir_block_rules.specs.Verdict.{Accepted}
use Rattle.be.proofs.Bools.{by_cases}
use Rattle.edition.proofs.Sizes.{entry_size_least}
use Rattle.dir_block_rules.proofs.CutJoin.{join, Laid, Whole}
use Rattle.dir_block_rules.proofs.AcceptedParts.{fit_of}
use Rattle.dir_block_rules.proofs.ChangeAccepted.{total_long}

-- an entry is E of its name long
pub entry_long : (e : Edition) (r : Rec) → Whole e r → is_gap r ≡ false → size r ≡ entry_size e (length (name r))
unfolding says
entry_long e r w q =
    let l : size r ≡ entry_size e (get_or r.raw 8 0) = rw q at w.spans in
    let n : length (name r) ≡ get_or r.raw 8 0 = rw (length-take, length-drop) (omega (arith, l, entry_size_least e (get_or r.raw 8 0))) in
    l ∙ ap (entry_size e) (sym n)

pub parts_long : (e : Edition) (o : ℕ) (rs : List Rec) → Laid e o rs
    → total (λ r. entry_size e (length (name r))) (entries rs) + total size (gaps rs) ≡ length (join rs)
parts_long e o [] l = refl
parts_long e o (r ∷ rs) l =
    by_cases (is_gap r)
    (λ q. rw (q, length-append r.raw (join rs)) (omega (arith, parts_long e (o + size r) rs l.2)))
    (λ q. rw (q, length-append r.raw (join rs)) (omega (arith, entry_long e r l.1 q, parts_long e (o + size r) rs l.2)))

pub adds_up : (e : Edition) → Sane e → (b : List ℕ) → bytes b ≡ true → Accepted e b → sum_of_parts e b ≡ length b
unfolding sum_of_parts
adds_up e sane b h a = omega (arith, total_long e sane b h a, parts_long e e.header (records e b) (fit_of e sane b h a).laid)
