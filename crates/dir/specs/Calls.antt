-- The calls on a directory, and their replies.
-- Assumes nothing.
use Rattle.std.specs.Prelude.{ℕ, cond, List, eqb, Result}
use Rattle.dir.specs.declared.Target.{Target}
use Rattle.dir.specs.declared.Looked.{Looked}
use Rattle.dir.specs.Answers.{looked_code, looked_target}

pub data Call : Type 0 where
  look_up : List ℕ → Call
  insert : List ℕ → Target → Call
  remove : List ℕ → Call

pub data Reply : Type 0 where
  found : Target → Reply
  done : Reply
  refuse : ℕ → Reply

abbrev pub call_name : Call → List ℕ
call_name (look_up n) = n
call_name (insert n t) = n
call_name (remove n) = n

-- a lookup's reply, tag and names compared left out
abbrev pub found_or : Result Looked ℕ → Reply
found_or a = cond (eqb (looked_code a) 0) (found (looked_target a)) (refuse (looked_code a))

-- a change's reply, by its number
abbrev pub done_or : ℕ → Reply
done_or k = cond (eqb k 0) done (refuse k)
