-- What an entry's name stands for: an inode number and a file type.
-- Assumes nothing.
use Rattle.std.specs.Prelude.{ℕ, Bool, not, cond, ◌&&◌, ◌||◌, eqb, leb}
use Rattle.edition.specs.declared.Edition.{Edition}
use Rattle.name.specs.Name.{legal_number}
use Rattle.dir.specs.declared.Target.{Target}

abbrev pub target : ℕ → ℕ → Target
target i k = record { inode = i; kind = k }

-- none: what an answer without an entry has
abbrev pub no_target : Target
no_target = target 0 0

abbrev pub same_target : Target → Target → Bool
same_target s t = eqb s.inode t.inode && eqb s.kind t.kind

-- a legal file type: 1 to 8 where the edition has one; else any, which is ignored
unfoldable pub legal_type : Edition → ℕ → Bool
legal_type e k = eqb e.ftype 0 || (leb 1 k && leb k 8)

-- a legal number and type, as an insert asks for them
unfoldable pub legal_target : Edition → Target → Bool
legal_target e t = legal_number t.inode && legal_type e t.kind

-- what an insert may ask for in a directory whose own number is `own`: a legal target, and not the directory itself
unfoldable pub legal_in : Edition → ℕ → Target → Bool
legal_in e own t = legal_target e t && not (eqb t.inode own)

-- what an entry keeps of a target: an edition without a type byte ignores the type
abbrev pub kept_of : Edition → Target → Target
kept_of e t = target t.inode (cond (eqb e.ftype 0) 0 t.kind)
