-- A short-form directory in its inode: what each call answers, and the bytes that it leaves.
-- Assumes nothing.
use Rattle.std.specs.Prelude.{ℕ, ◌≡◌, cond, not, ◌||◌, List, [], ◌∷◌, eqb, length, take, Result, Ok, Err}
use Rattle.refusal.specs.Refusal.{SIZE, ASKED, FIXED}
use Rattle.be.specs.Bytes.{field, to_be, written, write}
use Rattle.be.specs.Lists.{same}
use Rattle.be.specs.Codes.{◌unless◌then◌, ◌and_then◌}
use Rattle.edition.specs.declared.Edition.{Edition}
use Rattle.edition.specs.Edition.{block_size}
use Rattle.dinode.specs.Core.{size_place, directory_code, data_fork, data_length}
use Rattle.name.specs.Name.{legal_name, dot, dotdot}
use Rattle.dir.specs.declared.Target.{Target}
use Rattle.dir.specs.declared.Looked.{Looked}
use Rattle.dir.specs.declared.Looked.TheVariants.{Found, Absent}
use Rattle.dir.specs.Target.{no_target}
use Rattle.dir.specs.Answers.{looked_code, looked_target, looked_tag, looked_compared}
use Rattle.dir_sf.specs.Entry.{SfEntry}
use Rattle.dir_sf.specs.Fork.{parent, entries, holds, lay, lay_fork, fork_verdict}
use Rattle.dir_sf.specs.Change.{inserted, insert_request, removed, remove_request, lookup_request, entry_for}

-- the size field
abbrev pub size_of : List ℕ → ℕ
size_of b = field size_place 8 b

-- the used bytes of the data fork
unfoldable pub used : Edition → List ℕ → List ℕ
used e b = take (size_of b) (data_fork e b)

-- tests 1 to 10, 1 SIZE being the told block length's first: 0, or the number of the first that fails
unfoldable pub verdict : Edition → ℕ → List ℕ → ℕ
verdict e told b =
    SIZE unless block_size told then
    directory_code e b and_then
    fork_verdict e told (data_fork e b) (size_of b)

-- ---- what each call answers: the tests' number, or what the request itself comes to

unfoldable pub lookup_code : Edition → ℕ → List ℕ → List ℕ → ℕ
lookup_code e told b n = verdict e told b and_then lookup_request e n (entries e (used e b))

unfoldable pub insert_code : Edition → ℕ → List ℕ → List ℕ → Target → ℕ
insert_code e told b n t =
    verdict e told b and_then insert_request e told (data_length e b) n t (parent (used e b)) (entries e (used e b))

unfoldable pub remove_code : Edition → ℕ → List ℕ → List ℕ → ℕ
remove_code e told b n = verdict e told b and_then remove_request e n (entries e (used e b))

-- what the name stands for, when it is found
unfoldable pub lookup_target : Edition → ℕ → List ℕ → List ℕ → Target
lookup_target e told b n =
    cond (eqb (lookup_code e told b n) 0) (entry_for e n (parent (used e b)) (entries e (used e b))).target no_target

-- its entry's tag, which is the stored one; 0 for ".."
unfoldable pub lookup_tag : Edition → ℕ → List ℕ → List ℕ → ℕ
lookup_tag e told b n = cond (eqb (lookup_code e told b n) 0) (entry_for e n (parent (used e b)) (entries e (used e b))).tag 0

-- what a lookup tells of the entry that it finds; no names are counted as compared
abbrev pub found_entry : SfEntry → Looked
found_entry x = Found x.target x.tag 0

-- the answer of a lookup in an accepted fork
unfoldable pub looked : Edition → List ℕ → ℕ → List SfEntry → Result Looked ℕ
looked e n p xs =
    Err ASKED unless legal_name e n then
    Err FIXED unless not (same n dot) then
    Ok (Absent 0) unless same n dotdot || holds e n xs then Ok (found_entry (entry_for e n p xs))

unfoldable pub lookup : Edition → ℕ → List ℕ → List ℕ → Result Looked ℕ
lookup e told b n =
    Err (verdict e told b) unless eqb (verdict e told b) 0 then looked e n (parent (used e b)) (entries e (used e b))

-- what a lookup promises of its answer: the answer itself, and its number and values
abbrev pub LookupPromise : Edition → ℕ → List ℕ → List ℕ → Result Looked ℕ → Type 0
LookupPromise e told b n r =
    (r ≡ lookup e told b n) × (looked_code r ≡ lookup_code e told b n) × (looked_target r ≡ lookup_target e told b n)
    × (looked_tag r ≡ lookup_tag e told b n) × (looked_compared r ≡ 0)

-- ---- what each change leaves

-- Changes write the size field and the data fork, nothing else
unfoldable pub with_entries : Edition → List ℕ → List SfEntry → List ℕ
with_entries e b xs =
    let p = parent (used e b) in
    written b (write size_place (to_be 8 (length (lay e p xs))) ∷ write e.literal (lay_fork e (data_length e b) p xs) ∷ [])

-- a refusal changes no byte
unfoldable pub insert_bytes : Edition → ℕ → List ℕ → List ℕ → Target → List ℕ
insert_bytes e told b n t =
    cond (eqb (insert_code e told b n t) 0) (with_entries e b (inserted e told n t (entries e (used e b)))) b

unfoldable pub remove_bytes : Edition → ℕ → List ℕ → List ℕ → List ℕ
remove_bytes e told b n =
    cond (eqb (remove_code e told b n) 0) (with_entries e b (removed e n (entries e (used e b)))) b
