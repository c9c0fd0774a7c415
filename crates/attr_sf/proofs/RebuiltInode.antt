-- An inode whose attribute fork is rewritten with legal, distinct entries that fit: it is accepted, holds them, and nothing outside has changed.
-- Assumes nothing.
use Prim.Native.Nat.{ℕ, ◌-◌, ◌≤◌, ◌<◌}
use native.Mathlib.Omega.{arith}
use mathlib.Core.Bool.{true}
use mathlib.Core.Path.{◌≡◌, ◌∙◌, ap}
use mathlib.Core.List.{List}
use lib.ListN.{length, take}
use Rattle.be.specs.Lists.{every}
use Rattle.be.specs.Bytes.{byte, put}
use Rattle.be.proofs.Writes.{length_put}
use Rattle.edition.specs.Edition.{Sane}
use Rattle.edition.specs.declared.Edition.{Edition}
use Rattle.dinode.specs.Core.{attributes_code, attr_start, attr_fork}
use Rattle.attr_sf.specs.Entry.{Entry, distinct}
use Rattle.attr_sf.specs.Fork.{header, stored, fork_verdict, fork_with, fits, name_legal_of, flags_legal_of}
use Rattle.attr_sf.specs.Calls.{verdict, changed}
use Rattle.attr_sf.specs.Laws.{Kept}
use Rattle.attr_sf.proofs.ForkTests.{long}
use Rattle.attr_sf.proofs.InodeTests.{inode_passed, fork_passed, fork_length, inode_short}
use Rattle.attr_sf.proofs.RebuiltFork.{with_pad, with_unused, with_length, with_stored, with_passes}
use Rattle.attr_sf.proofs.RewrittenInode.{code_kept, fork_kept, outside_kept}

module _ (e : Edition) (sane : Sane e) (b : List ℕ) (t : verdict e b ≡ 0) (n : ℕ) (done : n ≡ 0) (xs : List Entry) (w : fits (attr_fork e b) xs ≡ true) where
  i : attributes_code e b ≡ 0
  i = inode_passed e b t

  f_long : header ≤ length (attr_fork e b)
  f_long = long (attr_fork e b) (fork_passed e b t)

  f_short : length (attr_fork e b) < 65536
  f_short = omega (arith, fork_length e b i, inode_short e b i)

  new_length : length (fork_with (attr_fork e b) xs) ≡ length b - attr_start e b
  new_length = with_length (attr_fork e b) xs f_long f_short w ∙ omega (arith, fork_length e b i)

  is_put : changed e b n xs ≡ put b (attr_start e b) (fork_with (attr_fork e b) xs)
  unfolding changed
  is_put = rw done

  new_fork : attr_fork e (changed e b n xs) ≡ fork_with (attr_fork e b) xs
  new_fork = ap (attr_fork e) is_put ∙ fork_kept e sane b i (fork_with (attr_fork e b) xs) new_length

  pub new_stored : stored (attr_fork e (changed e b n xs)) ≡ xs
  new_stored = ap stored new_fork ∙ with_stored (attr_fork e b) xs f_long f_short w

  pub new_kept : every name_legal_of xs ≡ true → every flags_legal_of xs ≡ true → distinct xs ≡ true → Kept e b (changed e b n xs)
  unfolding verdict
  new_kept p g d =
      let k : attributes_code e (changed e b n xs) ≡ 0 = ap (attributes_code e) is_put ∙ code_kept e sane b i (fork_with (attr_fork e b) xs) new_length in
      record {
        accepted = rw k (ap fork_verdict new_fork ∙ with_passes (attr_fork e b) xs f_long f_short w p g d);
        long = ap length is_put ∙ length_put b (attr_start e b) (fork_with (attr_fork e b) xs);
        outside = ap (take (attr_start e b)) is_put ∙ outside_kept e sane b i (fork_with (attr_fork e b) xs) new_length;
        pad = ap (byte 3) new_fork ∙ with_pad (attr_fork e b) xs f_long f_short w;
        unused = rw new_fork (with_unused (attr_fork e b) xs f_long f_short w);
      }
