-- A fork made of legal entries passes the tests, and holds them.
-- Assumes nothing.
use Prim.Native.Nat.{ℕ, ◌+◌, ◌-◌, ◌≤◌, ◌<◌}
use native.Mathlib.Omega.{arith}
use mathlib.Core.Bool.{true}
use mathlib.Core.Path.{◌≡◌, refl, sym, ◌∙◌, ap}
use mathlib.Core.List.{List, [], ◌++◌, append_assoc}
use lib.Dec.{leb}
use lib.Seq.{drop_at}
use lib.ListN.{drop, length, replicate, length-append, length-replicate}
use borrow.Author.Tests.{le-leb, leb-true, eq-eqb}
use Rattle.be.specs.Lists.{every}
use Rattle.be.specs.Bytes.{byte, part, be, to_be}
use Rattle.be.proofs.Bools.{and_left, and_right}
use Rattle.be.proofs.Numbers.{length_to_be, be_to_be}
use Rattle.be.proofs.Parts.{part_at, part_length, field_1}
use Rattle.records.specs.Records.{start, tiled}
use Rattle.attr_sf.specs.Entry.{Entry, distinct, run}
use Rattle.attr_sf.specs.Fork.{header, totsize, count, stored, size_at, name_legal_of, flags_legal_of, span_ok, tile_ok, names_ok, flags_ok, once_ok, fork_verdict, fork_with, fits}
use Rattle.attr_sf.proofs.ReadBack.{read_entries, read_ends}

-- the header that is written
pub head_of : List ℕ → List Entry → List ℕ
head_of f es = to_be 2 (header + length (run es)) ++ (to_be 1 (length es) ++ part 3 1 f)

pub unused : List ℕ → List Entry → List ℕ
unused f es = replicate (length f - (header + length (run es))) 0

module _ (f : List ℕ) (es : List Entry) where
  pub with_is : fork_with f es ≡ head_of f es ++ (run es ++ unused f es)
  unfolding fork_with head_of unused
  with_is = simp append_assoc

  module _ (l : header ≤ length f) (s : length f < 65536) (z : fits f es ≡ true) where
    pub number_fits : length es ≤ 255
    unfolding fits
    number_fits = leb-true _ _ (and_left (leb (length es) 255) _ z)

    pub run_fits : header + length (run es) ≤ length f
    unfolding fits
    run_fits = leb-true _ _ (and_right (leb (length es) 255) _ z)

    pub head_length : length (head_of f es) ≡ header
    unfolding head_of
    head_length = rw (length-append, length-append, length_to_be, length_to_be, part_length 3 1 f (omega arith))

    pub with_length : length (fork_with f es) ≡ length f
    unfolding unused
    with_length =
        ap length with_is
        ∙ rw (length-append (head_of f es) (run es ++ unused f es), length-append (run es) (unused f es), head_length, length-replicate) (omega (arith, run_fits))

    pub with_totsize : totsize (fork_with f es) ≡ header + length (run es)
    unfolding totsize fork_with
    with_totsize =
        ap be (part_at [] (to_be 2 (header + length (run es))) _ 0 2 refl (length_to_be 2 (header + length (run es))))
        ∙ be_to_be 2 (header + length (run es)) (omega (arith, run_fits))

    pub with_count : count (fork_with f es) ≡ length es
    unfolding count fork_with
    with_count =
        sym (field_1 (fork_with f es) 2)
        ∙ ap be (part_at (to_be 2 (header + length (run es))) (to_be 1 (length es)) _ 2 1 (length_to_be 2 (header + length (run es))) (length_to_be 1 (length es)))
        ∙ be_to_be 1 (length es) (omega (arith, number_fits))

    -- the pad byte is left alone
    pub with_pad : byte 3 (fork_with f es) ≡ byte 3 f
    unfolding fork_with
    with_pad =
        sym (field_1 (fork_with f es) 3)
        ∙ ap be
        (ap (part 3 1) (sym (append_assoc (to_be 2 (header + length (run es))) (to_be 1 (length es)) _))
        ∙ part_at (to_be 2 (header + length (run es)) ++ to_be 1 (length es)) (part 3 1 f) _ 3 1
        (length-append (to_be 2 (header + length (run es))) (to_be 1 (length es)) ∙ rw (length_to_be, length_to_be)) (part_length 3 1 f (omega arith)))
        ∙ field_1 f 3

    -- unused bytes are zero
    pub with_unused : drop (totsize (fork_with f es)) (fork_with f es) ≡ replicate (length f - totsize (fork_with f es)) 0
    unfolding unused
    with_unused =
        let w : fork_with f es ≡ (head_of f es ++ run es) ++ unused f es = with_is ∙ sym (append_assoc (head_of f es) (run es) (unused f es)) in
        rw with_totsize
        (ap (drop (header + length (run es))) w
        ∙ drop_at (head_of f es ++ run es) (unused f es) (header + length (run es)) (length-append (head_of f es) (run es) ∙ rw head_length))

    -- the entries are what was written
    pub with_stored : stored (fork_with f es) ≡ es
    unfolding stored
    with_stored = rw (with_count, with_is, ← head_length) (read_entries es (head_of f es) (unused f es))

    with_tiled : tiled (size_at (fork_with f es)) (totsize (fork_with f es)) (count (fork_with f es)) header ≡ true
    with_tiled =
        eq-eqb (start (size_at (fork_with f es)) (count (fork_with f es)) header) (totsize (fork_with f es))
        (rw (with_count, with_totsize, with_is, ← head_length) (read_ends es (head_of f es) (unused f es)))

    pub with_passes : every name_legal_of es ≡ true → every flags_legal_of es ≡ true → distinct es ≡ true → fork_verdict (fork_with f es) ≡ 0
    unfolding fork_verdict span_ok tile_ok names_ok flags_ok once_ok
    with_passes n g d =
        let a : leb header (length (fork_with f es)) ≡ true = le-leb header (length (fork_with f es)) (omega (arith, with_length)) in
        let b : leb header (totsize (fork_with f es)) ≡ true = le-leb header (totsize (fork_with f es)) (omega (arith, with_totsize)) in
        let k : leb (totsize (fork_with f es)) (length (fork_with f es)) ≡ true =
        le-leb (totsize (fork_with f es)) (length (fork_with f es)) (omega (arith, with_length, with_totsize, run_fits)) in
        rw (a, b, k, with_tiled, with_stored, n, g, d)
