-- The inode core: which bytes are an inode, the fields that are handed out, and where its two forks lie.
-- Assumes nothing.
use Rattle.std.specs.Prelude.{ℕ, ◌+◌, ◌-◌, ◌*◌, ◌/◌, Bool, cond, not, ◌&&◌, ◌||◌, List, eqb, leb, length, drop, Result}
use Rattle.refusal.specs.Refusal.{SIZE, MAGIC, KIND, answered, outcome}
use Rattle.be.specs.Codes.{◌unless◌then◌, ◌and_then◌}
use Rattle.be.specs.Bytes.{byte, field, part}
use Rattle.edition.specs.declared.Edition.{Edition}
use Rattle.dinode.specs.declared.Core.{Core}
use Rattle.dinode.specs.declared.Fork.{Fork}

-- Inode: 256, 512, 1,024 or 2,048 bytes
unfoldable pub inode_size : ℕ → Bool
inode_size n = ((eqb n 256 || eqb n 512) || eqb n 1024) || eqb n 2048

-- where the size field lies
abbrev pub size_place : ℕ
size_place = 56

-- the fields handed out
unfoldable pub core_of : List ℕ → Core
core_of b =
    record {
      magic = field 0 2 b;
      mode = field 2 2 b;
      version = byte 4 b;
      format = byte 5 b;
      size = field size_place 8 b;
      forkoff = byte 82 b;
      aformat = byte 83 b;
    }

-- where the attribute fork starts: at the inode's end or beyond it, there is none
unfoldable pub attr_start : Edition → List ℕ → ℕ
attr_start e b = e.literal + 8 * byte 82 b

-- the data fork is forkoff × 8 bytes, or runs to the inode's end when forkoff is 0
unfoldable pub data_length : Edition → List ℕ → ℕ
data_length e b = cond (eqb (byte 82 b) 0) (length b - e.literal) (8 * byte 82 b)

-- the attribute fork is the rest
unfoldable pub attr_length : Edition → List ℕ → ℕ
attr_length e b = length b - attr_start e b

-- the bytes of each fork
unfoldable pub data_fork : Edition → List ℕ → List ℕ
data_fork e b = part e.literal (data_length e b) b

unfoldable pub attr_fork : Edition → List ℕ → List ℕ
attr_fork e b = drop (attr_start e b) b

-- 2 MAGIC
unfoldable pub magic_ok : List ℕ → Bool
magic_ok b = eqb (field 0 2 b) 0x494e

-- 3 KIND: version not 1 or 2 (the edition's own)
unfoldable pub version_ok : Edition → ℕ → Bool
version_ok e v = leb e.oldest v && leb v e.newest

-- 3 KIND, of any inode: the version, and 100 + 8 × forkoff (the edition's literal area) not beyond the end
unfoldable pub kind_ok : Edition → List ℕ → Bool
kind_ok e b = version_ok e (byte 4 b) && leb (attr_start e b) (length b)

-- 3 KIND, for directories: mode / 4,096 is 4 and format is 1 (local)
unfoldable pub directory_ok : List ℕ → Bool
directory_ok b = eqb (field 2 2 b / 4096) 4 && eqb (byte 5 b) 1

-- 3 KIND, for attributes: aformat is 1 and forkoff is not 0
unfoldable pub attributes_ok : List ℕ → Bool
attributes_ok b = eqb (byte 83 b) 1 && not (eqb (byte 82 b) 0)

-- the first test of an inode that fails, by its number; 0 when none does
unfoldable pub inode_code : Edition → List ℕ → ℕ
inode_code e b =
    SIZE unless inode_size (length b) then
    MAGIC unless magic_ok b then
    KIND unless kind_ok e b then 0

-- the code of the tests so far, or 3 when a call asks more of the inode and that does not hold
abbrev pub and_kind : ℕ → Bool → ℕ
and_kind n good = n and_then KIND unless good then 0

-- the code of an inode that has to be a local directory
unfoldable pub directory_code : Edition → List ℕ → ℕ
directory_code e b = and_kind (inode_code e b) (directory_ok b)

-- of one that has to have local attributes
unfoldable pub attributes_code : Edition → List ℕ → ℕ
attributes_code e b = and_kind (inode_code e b) (attributes_ok b)

-- what the test of an inode answers: the fields, or the number of the first test that fails
unfoldable pub tested : Edition → List ℕ → Result Core ℕ
tested e b = answered (inode_code e b) (core_of b)

-- its number, 0 when it hands the fields out
abbrev pub tested_code : Result Core ℕ → ℕ
tested_code = outcome

abbrev pub fork_at : ℕ → ℕ → Fork
fork_at s n = record { start = s; len = n }

-- what the directory calls are told of the data fork
unfoldable pub directory_fork : Edition → List ℕ → Result Fork ℕ
directory_fork e b = answered (directory_code e b) (fork_at e.literal (data_length e b))

-- what the attribute calls are told of the attribute fork
unfoldable pub attributes_fork : Edition → List ℕ → Result Fork ℕ
attributes_fork e b = answered (attributes_code e b) (fork_at (attr_start e b) (attr_length e b))
