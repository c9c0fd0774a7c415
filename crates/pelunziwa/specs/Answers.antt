-- What C and Rust get for each case of an answer: the paper's number and values, as a struct of numbers.
-- A refusal has its number only (a block lookup's 13 also the names compared): every other field is 0.
-- Assumes nothing.
use Rattle.std.specs.Prelude.{ℕ, ◌<◌, Option, Some, None, Result, Ok, Err}
use Rattle.refusal.specs.Refusal.{ABSENT}
use Rattle.dinode.specs.declared.Core.{Core as Fields}
use Rattle.attr_sf.specs.declared.Place.{Place as Value}
use Rattle.attr_sf.specs.declared.Attr.{Attr}
use Rattle.attr_sf.specs.declared.Step.{Step as AttrWalked}
use Rattle.dir.specs.declared.Target.{Target}
use Rattle.dir.specs.declared.Entry.{Entry}
use Rattle.dir.specs.declared.Looked.{Looked}
use Rattle.dir.specs.declared.Looked.TheVariants.{Found as LookedFound, Absent}
use Rattle.dir.specs.declared.Seen.{Seen}
use Rattle.dir.specs.declared.Seen.TheVariants.{Live, Gap, End}
use Rattle.dir.specs.declared.Step.{Step as Walked}
use Rattle.pelunziwa.specs.declared.Core.{Core}
use Rattle.pelunziwa.specs.declared.Found.{Found}
use Rattle.pelunziwa.specs.declared.Place.{Place}
use Rattle.pelunziwa.specs.declared.Step.{Step}
use Rattle.pelunziwa.specs.declared.AttrStep.{AttrStep}

-- ---- an inode's fields

-- each field but the size fits in the 4 bytes that it goes out in
pub record Fitting (c : Fields) : Type 0 where
  pub magic_fits : c.magic < 65536
  pub mode_fits : c.mode < 65536
  pub version_fits : c.version < 256
  pub format_fits : c.format < 256
  pub forkoff_fits : c.forkoff < 256
  pub aformat_fits : c.aformat < 256

abbrev pub sound : Fields → Core
sound c =
    record {
      refusal = 0;
      magic = c.magic;
      mode = c.mode;
      version = c.version;
      format = c.format;
      forkoff = c.forkoff;
      aformat = c.aformat;
      size = c.size;
    }

abbrev pub as_core : Result Fields ℕ → Core
as_core (Ok c) = sound c
as_core (Err k) =
    record { refusal = k; magic = 0; mode = 0; version = 0; format = 0; forkoff = 0; aformat = 0; size = 0 }

-- ---- a lookup in a directory

-- found: what the name stands for, its entry's tag, and the names compared
abbrev pub found_target : Target → ℕ → ℕ → Found
found_target t g c = record { refusal = 0; kind = t.kind; number = t.inode; tag = g; compared = c }

-- not found: the refusal, and the names compared
abbrev pub not_found : ℕ → ℕ → Found
not_found k c = record { refusal = k; kind = 0; number = 0; tag = 0; compared = c }

-- 13 ABSENT has the names compared; in a short form none are
abbrev pub as_found : Result Looked ℕ → Found
as_found (Ok (LookedFound t g c)) = found_target t g c
as_found (Ok (Absent c)) = not_found ABSENT c
as_found (Err k) = not_found k 0

-- ---- a step of a directory's walk. seen: 0 end, 1 gap, 2 live

-- a live entry: where the walk now stands, number, tag, file type, where the name starts, its length
abbrev pub live : ℕ → Entry → Step
live p l =
    record {
      refusal = 0;
      seen = 2;
      next = p;
      number = l.target.inode;
      tag = l.tag;
      kind = l.target.kind;
      name_start = l.start;
      name_len = l.len;
    }

-- no entry: refusal, seen, and where the walk stands
abbrev pub no_entry : ℕ → ℕ → ℕ → Step
no_entry k s p = record { refusal = k; seen = s; next = p; number = 0; tag = 0; kind = 0; name_start = 0; name_len = 0 }

abbrev pub as_seen : ℕ → Seen → Step
as_seen p (Live l) = live p l
as_seen p Gap = no_entry 0 1 p
as_seen p End = no_entry 0 0 p

abbrev pub as_step : Result Walked ℕ → Step
as_step (Ok s) = as_seen s.next s.seen
as_step (Err k) = no_entry k 0 0

-- ---- attributes

-- where a value lies in the lent inode
abbrev pub as_place : Result Value ℕ → Place
as_place (Ok p) = record { refusal = 0; start = p.start; len = p.len }
as_place (Err k) = record { refusal = k; start = 0; len = 0 }

-- no attribute: refusal, and where the walk stands
abbrev pub no_attr : ℕ → ℕ → AttrStep
no_attr k p =
    record {
      refusal = k;
      seen = 0;
      next = p;
      flags = 0;
      name_start = 0;
      name_len = 0;
      value_start = 0;
      value_len = 0;
    }

abbrev pub as_attr_seen : ℕ → Option Attr → AttrStep
as_attr_seen p (Some a) =
    record {
      refusal = 0;
      seen = 2;
      next = p;
      flags = a.flags;
      name_start = a.name_start;
      name_len = a.name_len;
      value_start = a.value_start;
      value_len = a.value_len;
    }
as_attr_seen p None = no_attr 0 p

abbrev pub as_attr_step : Result AttrWalked ℕ → AttrStep
as_attr_step (Ok s) = as_attr_seen s.next s.seen
as_attr_step (Err k) = no_attr k 0
