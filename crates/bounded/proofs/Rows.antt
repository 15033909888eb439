-- The laws of a table of refusals.
use Prim.Native.Nat.{ℕ, zero, suc, ◌<◌}
use mathlib.Core.Bool.{Bool, true, false, cond}
use mathlib.Core.List.{List, [], ◌∷◌, ◌++◌}
use mathlib.Core.Path.{◌≡◌, refl}
use lib.ListN.{length, get_or}
use native.Mathlib.Nat.{not-suc-le-zero, le_of_suc-le-suc}
use native.Mathlib.Omega.{arith}
use Rattle.bounded.specs.Rows.{Row, refusal, Past, Numbered}
use Rattle.bounded.proofs.Tests.{case_on, row-yes, row-no}

-- the first k rows do not apply and row k does
pub row_at : (rs : List Row) (k : ℕ) → k < length rs → Past rs k → (get_or rs k (true, 0)).0 ≡ true → (get_or rs k (true, 0)).1 ≡ refusal rs
row_at [] k l p e = absurd (not-suc-le-zero l)
row_at (r ∷ rs) zero l p e = row-yes r.0 r.1 (refusal rs) e
row_at (r ∷ rs) (suc k) l p e = row-no r.0 r.1 (refusal rs) _ p.0 (row_at rs k (le_of_suc-le-suc l) p.1 e)

-- no row applies
pub row-none : (rs : List Row) → Past rs (length rs) → 0 ≡ refusal rs
row-none [] p = refl
row-none (r ∷ rs) p = row-no r.0 r.1 (refusal rs) 0 p.0 (row-none rs p.1)

not-zero : {m : ℕ} → 0 < m → m ≡ 0 → ⊥
not-zero l z = omega arith

none-step : (b : Bool) (n m : ℕ) (P : Type 0) → 0 < n → cond b n m ≡ 0 → (m ≡ 0 → P) → (b ≡ false) × P
none-step true n m P l e f = absurd (not-zero l e)
none-step false n m P l e f = (refl, f e)

-- where the number is 0, no row applies
pub none-apply : (rs : List Row) → Numbered rs → refusal rs ≡ 0 → Past rs (length rs)
none-apply [] n e = tt
none-apply (r ∷ rs) n e = none-step r.0 r.1 (refusal rs) (Past rs (length rs)) n.0 e (λ h. none-apply rs n.1 h)

-- rows before others: the first of them that applies, or none and the others
pub rows-first : (rs ss : List Row) (row : ℕ) → row ≡ refusal rs → (row ≡ 0 → ⊥) → row ≡ refusal (rs ++ ss)
rows-first [] ss row e n = absurd (n e)
rows-first (r ∷ rs) ss row e n =
    case_on r.0
    (λ t. rw t (rw t at e))
    (λ t. rw t (rows-first rs ss row (rw t at e) n))

pub rows_then : (rs ss : List Row) (row : ℕ) → Past rs (length rs) → row ≡ refusal ss → row ≡ refusal (rs ++ ss)
rows_then [] ss row p e = e
rows_then (r ∷ rs) ss row p e = row-no r.0 r.1 (refusal (rs ++ ss)) row p.0 (rows_then rs ss row p.1 e)
