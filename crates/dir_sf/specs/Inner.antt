-- What the code's own contracts say of what it reads: for code and proofs alone, no call that README lists promises anything by these.
-- Assumes nothing.
use Rattle.std.specs.Prelude.{ℕ, suc, ◌+◌, ◌≤◌, ◌≡◌, Bool, true, cond, ◌&&◌, List, [], ◌∷◌, eqb, length, Option, Some, None, Result, Ok, Err}
use Rattle.refusal.specs.Refusal.{ASKED}
use Rattle.records.specs.Records.{start, within, stands}
use Rattle.edition.specs.declared.Edition.{Edition}
use Rattle.name.specs.Name.{same_name}
use Rattle.dir.specs.declared.Step.{Step}
use Rattle.dir.specs.Target.{no_target}
use Rattle.dir_sf.specs.declared.Hit.{Hit}
use Rattle.dir_sf.specs.Entry.{SfEntry, size_at, entries_in, filled, wides_of, tags_ok, end_tag, in_block}
use Rattle.dir_sf.specs.Fork.{count_of, stored_wides, used_width, parent, entries, place_of, holds}
use Rattle.dir_sf.specs.Change.{target_in, tag_in}
use Rattle.dir_sf.specs.Walk.{end_step, entry_step}

-- k entries of u from a place on lie in u
unfoldable pub enough : Edition → ℕ → List ℕ → ℕ → ℕ → Bool
enough e w u k at = within (size_at e w u) (length u) k at

-- what is known of used bytes that pass the tests: header and entries lie in them, and i8count is right
pub record Readable (e : Edition) (u : List ℕ) : Type 0 where
  pub header : 2 + used_width u ≤ length u
  pub listed : enough e (used_width u) u (count_of u) (2 + used_width u) ≡ true
  pub wides : stored_wides u ≡ wides_of (parent u) (entries e u)

-- TILE of k entries of u from a place on, of all in the list, whose tags start at low: what a pass over them has still to test
unfoldable pub tiles : Edition → ℕ → ℕ → ℕ → ℕ → List ℕ → ℕ → ℕ → Bool
tiles e w told all low u k at =
    filled e w u k at
    && tags_ok e low (entries_in e w u k at)
    && in_block told (end_tag e low (entries_in e w u k at)) all

-- how many entries stand before the first of the name
unfoldable pub seek : Edition → List ℕ → List SfEntry → ℕ
seek e n [] = 0
seek e n (x ∷ xs) = let r = seek e n xs in cond (same_name e n x.name) 0 (suc r)

-- what is told of the first entry of a name in the used bytes: how many stand before it, where it starts, what it stands for, and its tag
abbrev pub hit_of : Edition → List ℕ → List ℕ → Hit
hit_of e n u =
    let i = seek e n (entries e u) in
    record { index = i; at = place_of e i u; target = target_in e n (entries e u); tag = tag_in e n (entries e u) }

-- what the search for a name in the used bytes finds, if an entry bears it
unfoldable pub hits : Edition → List ℕ → List ℕ → Option Hit
hits e n u = cond (holds e n (entries e u)) (Some (hit_of e n u)) None

-- what would be told where no entry bears the name: all stand before it, it starts behind them, and it stands for nothing
abbrev pub missed : Edition → List ℕ → Hit
missed e u = record { index = count_of u; at = place_of e (count_of u) u; target = no_target; tag = 0 }

-- what the walk's pass over the used bytes answers: at the end, and at an entry
abbrev pub at_end : ℕ → Result Step ℕ
at_end p = Ok (end_step p)

abbrev pub at_entry : Edition → ℕ → List ℕ → ℕ → Result Step ℕ
at_entry e w u p = Ok (entry_step e w u p)

-- over k entries of u from p on
unfoldable pub walked_over : Edition → ℕ → List ℕ → ℕ → ℕ → ℕ → Result Step ℕ
walked_over e w u k p place =
    let end = start (size_at e w u) k p in
    cond (stands (size_at e w u) k p place) (cond (eqb place end) (at_end place) (at_entry e w u place)) (Err ASKED)

unfoldable pub walked_in : Edition → List ℕ → ℕ → Result Step ℕ
walked_in e u place = walked_over e (used_width u) u (count_of u) (2 + used_width u) place
