use Prim.Native.Nat.{ℕ, ◌-◌, ◌<◌}
use mathlib.Core.Path.{◌∙◌, ap₂}
use mathlib.Core.Bool.{Bool, ◌&&◌}
use native.Mathlib.Omega.{arith}
use Rattle.be.specs.Bytes.{byte}
use Rattle.name_words.proofs.LastWord.{one_hash}
use Rattle.name_words.proofs.MarkedLanes.{marked_and}
use Rattle.name_words.proofs.TwoWords.{two_hash, two_legal}
use Rattle.name_words.proofs.two_words.Goals as goal

pub returns : goal.returns
returns c =
    let a = c.args in
    let v = c.le64-v in
    let w = c.le64-w in
    let known : (n : ℕ) → byte n a.b.now < 256 = λ n. (c.type_inv.b n).fits in (
      two_hash a.b.now known a.i a.end c.requires.0 c.requires.1 c.requires.2 _ _ v.ensures w.ensures _ _
          (one_hash v.result (a.end - 8 - a.i) (omega arith) _ c.moved.ensures _ c.hash_word-h.ensures) c.with_word-hash.ensures,
      two_legal a.b.now known a.i a.end c.requires.0 c.requires.1 c.requires.2 _ _ v.ensures w.ensures _
          (marked_and _ _ ∙ ap₂ (λ (s t : Bool). s && t) c.marks.ensures c.marks-2.ensures),
    )
