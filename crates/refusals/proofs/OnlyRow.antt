-- A table of refusals in which one row alone has the number n: where n is the answer, that row applies and none before it does.
use mathlib.Core.Path.{◌≡◌, refl}
use mathlib.Core.Bool.{Bool, true, false, not, ◌&&◌}
use mathlib.Core.List.{List, [], ◌∷◌}
use Prim.Native.Nat.{ℕ, zero, suc}
use lib.Dec.{eqb}
use lib.ListN.{get_or}
use borrow.Author.Tests.{eq-eqb, not-true}
use Rattle.bounded.specs.Rows.{Row, refusal, Past}
use Rattle.bounded.proofs.Tests.{case_on, contradicts, and_left, and_right}

-- no row, and row k alone, has the number n
abbrev pub nowhere : ℕ → List Row → Bool
nowhere n [] = not (eqb 0 n)
nowhere n (r ∷ rs) = not (eqb r.1 n) && nowhere n rs

abbrev pub only : ℕ → ℕ → List Row → Bool
only k n [] = false
only zero n (r ∷ rs) = nowhere n rs
only (suc k) n (r ∷ rs) = not (eqb r.1 n) && only k n rs

differs : {X : Type 0} {m n : ℕ} → not (eqb m n) ≡ true → m ≡ n → X
differs {m = m} {n} t e = contradicts (eq-eqb m n e) (not-true (eqb m n) t)

pub never : {X : Type 0} (rs : List Row) (n : ℕ) → nowhere n rs ≡ true → refusal rs ≡ n → X
never [] n t e = differs t e
never (r ∷ rs) n t e =
    case_on r.0
    (λ q. differs (and_left (not (eqb r.1 n)) (nowhere n rs) t) (rw q at e))
    (λ q. never rs n (and_right (not (eqb r.1 n)) (nowhere n rs) t) (rw q at e))

pub record Stopped (rs : List Row) (k : ℕ) : Type 0 where
  pub past : Past rs k
  pub applies : (get_or rs k (true, 0)).0 ≡ true

pub stopped : (rs : List Row) (k n : ℕ) → only k n rs ≡ true → refusal rs ≡ n → Stopped rs k
stopped [] k n t e = contradicts t refl
stopped (r ∷ rs) zero n t e = case_on r.0 (λ q. record { past = tt; applies = q }) (λ q. never rs n t (rw q at e))
stopped (r ∷ rs) (suc k) n t e =
    case_on r.0
    (λ q. differs (and_left (not (eqb r.1 n)) (only k n rs) t) (rw q at e))
    (λ q.
    let s = stopped rs k n (and_right (not (eqb r.1 n)) (only k n rs) t) (rw q at e) in
    record { past = (q, s.past); applies = s.applies })
