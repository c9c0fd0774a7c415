use Prim.Native.Nat.{◌-◌}
use native.Mathlib.Omega.{arith}
use Rattle.name_words.proofs.Keys.{two_range, key_none, key_some}
use Rattle.name_words.proofs.key.Goals as goal

pub returns-then-end-i : goal.returns-then-end-i
returns-then-end-i c =
    let p = c.requires in
    (key_none _ _ _ p.0 p.1 c.if-end-i.true, omega arith)

pub key_of_two-requires : goal.key_of_two-requires
key_of_two-requires c =
    let a = c.args in
    let r = two_range (a.end - a.i) c.if-n.true in
    (r.0, r.1, omega arith)

pub returns-then-n : goal.returns-then-n
returns-then-n c =
    let p = c.requires in
    (key_some _ _ _ p.0 p.1 _ _ c.if-end-i.false c.key_of_two.ensures c.finished.ensures.0, c.finished.ensures.1)

pub returns : goal.returns
returns c =
    let p = c.requires in
    (key_some _ _ _ p.0 p.1 _ _ c.if-end-i.false c.key_words.ensures c.finished-2.ensures.0, c.finished-2.ensures.1)
