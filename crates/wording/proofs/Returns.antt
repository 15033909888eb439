-- A number that a call can return is in the table, and so is the call.
use mathlib.Core.Path.{◌≡◌, refl}
use mathlib.Core.Bool.{Bool, true, false, ◌&&◌, ◌||◌}
use mathlib.Core.List.{List, [], ◌∷◌}
use Prim.Native.Nat.{ℕ, ◌<◌, ◌≤◌}
use native.Mathlib.Omega.{arith}
use lib.Dec.{eqb, ltb}
use borrow.Author.Tests.{eqb-true, ltb-true}
use Rattle.bounded.proofs.Tests.{case_on, contradicts, and_left, and_right}
use Rattle.wording.specs.Calls.{call_count, number_count, one_more, one_of, stands_in, can_return, places}

-- each number of a list is below k
abbrev under : ℕ → List ℕ → Bool
under k [] = true
under k (y ∷ ys) = ltb y k && under k ys

rows_under : ℕ → ℕ → List (ℕ × List ℕ) → Bool
rows_under k m [] = true
rows_under k m (row ∷ rows) = (ltb row.0 m && under k row.1) && rows_under k m rows

or_cases : {X : Type 0} (a b : Bool) → a || b ≡ true → (a ≡ true → X) → (b ≡ true → X) → X
or_cases true b e f g = f refl
or_cases false b e f g = g e

more-under : (k : ℕ) (b : Bool) (ys : List ℕ) (x : ℕ) → (b ≡ true → x < k) → under k ys ≡ true → one_more b ys x ≡ true → x < k
unfolding one_more
more-under k b [] x f u e = f e
more-under k b (y ∷ ys) x f u e =
    more-under k (b || eqb x y) ys x
    (λ t. or_cases b (eqb x y) t f (λ q. omega (arith, eqb-true x y q, ltb-true y k (and_left (ltb y k) (under k ys) u))))
    (and_right (ltb y k) (under k ys) u)
    e

one-under : (k : ℕ) (ys : List ℕ) (x : ℕ) → under k ys ≡ true → one_of ys x ≡ true → x < k
unfolding one_of
one-under k [] x u e = contradicts e refl
one-under k (y ∷ ys) x u e =
    more-under k (eqb x y) ys x
    (λ q. omega (arith, eqb-true x y q, ltb-true y k (and_left (ltb y k) (under k ys) u)))
    (and_right (ltb y k) (under k ys) u)
    e

pub record Known (k m c n : ℕ) : Type 0 where
  pub call : c < k
  pub number : n < m

stands-under : (k m : ℕ) (rows : List (ℕ × List ℕ)) (c n : ℕ) → rows_under k m rows ≡ true → stands_in rows c n ≡ true → Known k m c n
unfolding stands_in rows_under
stands-under k m [] c n u e = contradicts e refl
stands-under k m (row ∷ rows) c n u e =
    let here = ltb row.0 m && under k row.1 in
    let h = and_left here (rows_under k m rows) u in
    or_cases (eqb n row.0 && one_of row.1 c) (stands_in rows c n) e
    (λ t.
    record {
      call = one-under k row.1 c (and_right (ltb row.0 m) (under k row.1) h) (and_right (eqb n row.0) (one_of row.1 c) t);
      number = omega (arith, eqb-true n row.0 (and_left (eqb n row.0) (one_of row.1 c) t), ltb-true row.0 m (and_left (ltb row.0 m) (under k row.1) h));
    })
    (λ t. stands-under k m rows c n (and_right here (rows_under k m rows) u) t)

-- one test over the table
pub known : (c n : ℕ) → can_return c n ≡ true → Known call_count number_count c n
unfolding can_return places rows_under
known c n e = stands-under call_count number_count places c n refl e

pub unknown-call : (c n : ℕ) → call_count ≤ c → can_return c n ≡ false
unknown-call c n h = case_on (can_return c n) (λ t. absurd (omega (arith, (known c n t).call))) (λ t. t)

pub unknown-number : (c n : ℕ) → number_count ≤ n → can_return c n ≡ false
unknown-number c n h = case_on (can_return c n) (λ t. absurd (omega (arith, (known c n t).number))) (λ t. t)
