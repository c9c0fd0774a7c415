-- Tests run in number order, the first that fails is the answer: 0, or the number of that test.
-- Assumes nothing.
use Rattle.std.specs.Prelude.{ℕ, Bool, cond, eqb}

infixr 10 ◌unless◌then◌ ◌and_then◌
-- the answer of a test that fails, and behind it the answer of those that follow: 'SIZE unless size_ok b then ..'
abbrev pub ◌unless◌then◌ : {A : Type 0} → A → Bool → A → A
x unless t then rest = cond t rest x

-- the number of tests that stand together, and behind it the number of those that follow
abbrev pub ◌and_then◌ : ℕ → ℕ → ℕ
n and_then rest = n unless eqb n 0 then rest
