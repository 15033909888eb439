-- Where a byte stands in a list. These definitions stand for those of an older library that is no longer there: they are written anew, from how the
-- definitions and proofs that cite them use them.
use Rattle.std.specs.Prelude.{ℕ, suc, Bool, true, false, List, [], ◌∷◌, take, drop, ◌==◌}

-- the part from `from` up to `to`
unfoldable pub slice : ℕ → ℕ → List ℕ → List ℕ
slice from to l = drop from (take to l)

-- 0 where the first byte is the one, else one more
unfoldable pub index_after : Bool → ℕ → ℕ
index_after true n = 0
index_after false n = suc n

-- where the byte b first stands, or the length where it does not
unfoldable pub index_of : ℕ → List ℕ → ℕ
index_of b [] = 0
index_of b (x ∷ l) = index_after (x == b) (index_of b l)
