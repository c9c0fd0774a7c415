-- A name that is found in an accepted block is legal, since the stored one is.
-- Assumes nothing.
use Prim.Native.Nat.{ℕ, ◌+◌}
use mathlib.Core.Bool.{Bool, true, ◌&&◌, beq}
use mathlib.Core.Path.{◌≡◌, ◌∙◌, subst}
use mathlib.Core.List.{List}
use lib.Dec.{eqb}
use Rattle.be.specs.Lists.{every, same}
use Rattle.be.proofs.Bools.{and_left}
use Rattle.be.proofs.Splits.{Split, every_at}
use Rattle.edition.specs.declared.Edition.{Edition}
use Rattle.edition.specs.Edition.{Sane}
use Rattle.name.specs.Name.{legal_name, dot, dotdot}
use Rattle.name.proofs.Same.{same_name_legal}
use Rattle.dir_block_rules.specs.Record.{Rec, name, entries}
use Rattle.dir_block_rules.specs.Block.{records}
use Rattle.dir_block_rules.specs.Verdict.{name_ok, names_ok, entry_stands}
use Rattle.dir_block_rules.specs.Lookup.{sought}
use Rattle.dir_block_rules.proofs.AcceptedParts.{good_of}
use Rattle.dir_block_rules.proofs.LookupFinds.{spot, spot_name}
use Rattle.dir_block_laws.specs.Tiled.{Ready}

module _ (e : Edition) (sane : Sane e) (b n : List ℕ) (r : Ready e b) where
  -- every stored name is
  stored_legal : (t : Split (entries (records e b))) → legal_name e (name t.here) ≡ true
  unfolding names_ok
  stored_legal t =
      let rs : List Rec = records e b in
      let x : Rec = t.here in
      let nm : Bool = every (name_ok e) (entries rs) in
      let h0 : Bool = entry_stands e.header rs in
      let h1 : Bool = entry_stands (e.header + 16) rs in
      let ns : (nm && h0 && h1) ≡ true = (good_of e sane b r.are_bytes r.ok).names in
      let k : name_ok e x ≡ true =
      every_at (name_ok e) t.before x t.behind (subst (λ (l : List Rec). every (name_ok e) l ≡ true) t.is (and_left nm h0 (and_left (nm && h0) h1 ns))) in
      let d : Bool = beq (same (name x) dot) (eqb x.off e.header) in
      and_left (legal_name e (name x)) d (and_left (legal_name e (name x) && d) (beq (same (name x) dotdot) (eqb x.off (e.header + 16))) k)

  pub found_legal : (sought e b n).hit ≡ true → legal_name e n ≡ true
  found_legal q =
      let s : Split (entries (records e b)) = spot e sane b r.are_bytes r.ok n q in
      same_name_legal e n (name s.here) (spot_name e sane b r.are_bytes r.ok n q) ∙ stored_legal s
