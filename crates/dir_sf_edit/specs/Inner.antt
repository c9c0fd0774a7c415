-- What the code's own contracts say of where an entry goes in or out: for code and proofs alone, no call that README lists promises anything by these.
-- Assumes nothing.
use Rattle.std.specs.Prelude.{ℕ, suc, cond, List, [], ◌∷◌, ◌++◌, ltb, take, drop}
use Rattle.dir_sf.specs.Entry.{SfEntry}

-- how many entries stand before a new one with tag t
unfoldable pub rank : ℕ → List SfEntry → ℕ
rank t [] = 0
rank t (x ∷ xs) = let r = rank t xs in cond (ltb t x.tag) 0 (suc r)

-- the list with an entry put in, j before it
unfoldable pub with_nth : ℕ → SfEntry → List SfEntry → List SfEntry
with_nth j y xs = take j xs ++ (y ∷ drop j xs)

-- the list without the entry that has j before it
unfoldable pub without_nth : ℕ → List SfEntry → List SfEntry
without_nth j xs = take j xs ++ drop (suc j) xs
