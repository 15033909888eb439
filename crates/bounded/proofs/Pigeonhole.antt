-- n entries name each number below n once if and only if all are below n and no two are alike; and what changes of
-- the list keep that.
use Prim.Native.Nat.{ℕ, zero, suc, ◌+◌, ◌≤◌, ◌<◌}
use mathlib.Core.Path.{◌≡◌, refl, sym, ap, ◌∙◌, subst}
use mathlib.Core.List.{List, [], ◌∷◌, ◌++◌}
use mathlib.Core.Bool.{Bool, true, false}
use native.Mathlib.Nat.{not-suc-le-zero}
use native.Mathlib.Omega.{arith}
use lib.Dec.{leb, eqb}
use lib.ListN.{length, get_or, set, length-set}
use lib.Seq.{get_or-set_same, get_or-set_other}
use borrow.Author.Tests.{eqb-true, eqb-false, eq-eqb, ne_eqb, leb-true, leb-false, le-leb, lt-leb}
use Rattle.bounded.specs.Below.{one, all_below}
use Rattle.bounded.specs.Count.{count_of, not_below, sum_below, each_once, Once}
use Rattle.bounded.proofs.Tests.{case_on}
use Rattle.bounded.proofs.Below.{split_below, all-at, all_made, one-le}

-- ---- sums

sum-zero : (n : ℕ) → sum_below n (λ x. 0) ≡ 0
unfolding sum_below
sum-zero zero = refl
sum-zero (suc n) = omega (arith, sum-zero n)

sum-add : (n : ℕ) (f g : ℕ → ℕ) → sum_below n (λ x. f x + g x) ≡ sum_below n f + sum_below n g
unfolding sum_below
sum-add zero f g = refl
sum-add (suc n) f g = omega (arith, sum-add n f g)

sum-le : (n : ℕ) (f : ℕ → ℕ) → ((x : ℕ) → x < n → f x ≤ 1) → sum_below n f ≤ n
unfolding sum_below
sum-le zero f h = omega arith
sum-le (suc n) f h = omega (arith, h n (omega arith), sum-le n f (λ x p. h x (omega arith)))

-- numbers that are at most 1 and add up to n are all 1
sum-full : (n : ℕ) (f : ℕ → ℕ) → ((x : ℕ) → x < n → f x ≤ 1) → n ≤ sum_below n f → (x : ℕ) → x < n → f x ≡ 1
unfolding sum_below
sum-full zero f h e x p = absurd (not-suc-le-zero p)
sum-full (suc n) f h e x p =
    let low = sum-le n f (λ z r. h z (omega arith)) in
    split_below p
    (λ q. rw q (omega (arith, h n (omega arith))))
    (λ l. sum-full n f (λ z r. h z (omega arith)) (omega (arith, h n (omega arith))) x l)

sum_ones : (n : ℕ) (f : ℕ → ℕ) → ((x : ℕ) → x < n → f x ≡ 1) → sum_below n f ≡ n
unfolding sum_below
sum_ones zero f h = refl
sum_ones (suc n) f h = omega (arith, h n (omega arith), sum_ones n f (λ x p. h x (omega arith)))

-- ---- counting by value

-- y is one of the numbers below n, or is not below n
sum_one : (n y : ℕ) → sum_below n (λ x. one (eqb x y)) + one (leb n y) ≡ 1
unfolding sum_below one
sum_one zero y = rw (le-leb 0 y (omega arith))
sum_one (suc n) y =
    case_on (leb n y)
    (λ t.
    case_on (eqb n y)
    (λ e. rw (e, lt-leb (suc n) y (omega (arith, eqb-true n y e))) (omega (arith, rw t at (sum_one n y))))
    (λ e. rw (e, le-leb (suc n) y (omega (arith, leb-true n y t, eqb-false n y e))) (omega (arith, rw t at (sum_one n y)))))
    (λ t.
    rw (ne_eqb n y (λ e. omega (arith, leb-false n y t)), lt-leb (suc n) y (omega (arith, leb-false n y t)))
    (omega (arith, rw t at (sum_one n y))))

sum-count : (n : ℕ) (l : List ℕ) → sum_below n (λ x. count_of x l) + not_below n l ≡ length l
unfolding count_of not_below
sum-count n [] = omega (arith, sum-zero n)
sum-count n (y ∷ l) = omega (arith, sum-add n (λ x. one (eqb x y)) (λ x. count_of x l), sum_one n y, sum-count n l)

-- n entries below n, no two alike: each number below n stands once
pub pigeonhole : (n : ℕ) (l : List ℕ) → length l ≡ n → not_below n l ≡ 0 → ((x : ℕ) → x < n → count_of x l ≤ 1) → Once n l
pigeonhole n l e low apart = sum-full n (λ x. count_of x l) apart (omega (arith, sum-count n l))

-- numbers that are at least 1 and add up to at most n are all 1
sum-least : (n : ℕ) (f : ℕ → ℕ) → ((x : ℕ) → x < n → 1 ≤ f x) → n ≤ sum_below n f
unfolding sum_below
sum-least zero f h = omega arith
sum-least (suc n) f h = omega (arith, h n (omega arith), sum-least n f (λ x p. h x (omega arith)))

sum-tight : (n : ℕ) (f : ℕ → ℕ) → ((x : ℕ) → x < n → 1 ≤ f x) → sum_below n f ≤ n → (x : ℕ) → x < n → f x ≡ 1
unfolding sum_below
sum-tight zero f h e x p = absurd (not-suc-le-zero p)
sum-tight (suc n) f h e x p =
    let low = sum-least n f (λ z r. h z (omega arith)) in
    split_below p
    (λ q. rw q (omega (arith, h n (omega arith))))
    (λ l. sum-tight n f (λ z r. h z (omega arith)) (omega (arith, h n (omega arith))) x l)

-- n entries that leave out no number below n: each stands once
pub covered : (n : ℕ) (l : List ℕ) → length l ≡ n → ((x : ℕ) → x < n → 1 ≤ count_of x l) → Once n l
covered n l e all = sum-tight n (λ x. count_of x l) all (omega (arith, sum-count n l))

-- and back: n entries that name each number below n once are all below n, and no two are alike
pub once-below : (n : ℕ) (l : List ℕ) → length l ≡ n → Once n l → not_below n l ≡ 0
once-below n l e o = omega (arith, sum-count n l, sum_ones n (λ x. count_of x l) o)

pub count-high : (n x : ℕ) (l : List ℕ) → n ≤ x → count_of x l ≤ not_below n l
unfolding count_of not_below one
count-high n x [] p = omega arith
count-high n x (y ∷ l) p =
    case_on (eqb x y)
    (λ e. rw (e, le-leb n y (omega (arith, eqb-true x y e))) (omega (arith, count-high n x l p)))
    (λ e. rw e (omega (arith, count-high n x l p)))

pub once-apart : (n : ℕ) (l : List ℕ) → length l ≡ n → Once n l → (x : ℕ) → count_of x l ≤ 1
once-apart n l e o x =
    case_on (leb n x)
    (λ t. omega (arith, count-high n x l (leb-true n x t), once-below n l e o))
    (λ t. omega (arith, o x (leb-false n x t)))

-- ---- the test is the fact

pub once-true : (n : ℕ) (l : List ℕ) → each_once n l ≡ true → Once n l
unfolding each_once
once-true n l t x p = eqb-true (count_of x l) 1 (all-at (λ x. eqb (count_of x l) 1) n x p t)

pub true-once : (n : ℕ) (l : List ℕ) → Once n l → each_once n l ≡ true
unfolding each_once
true-once n l o = all_made (λ x. eqb (count_of x l) 1) n (λ x p. eq-eqb (count_of x l) 1 (o x p))

-- ---- entries

pub count-append : (x : ℕ) (a b : List ℕ) → count_of x (a ++ b) ≡ count_of x a + count_of x b
unfolding count_of
count-append x [] b = omega arith
count-append x (y ∷ a) b = omega (arith, count-append x a b)

pub below-append : (n : ℕ) (a b : List ℕ) → not_below n (a ++ b) ≡ not_below n a + not_below n b
unfolding not_below
below-append n [] b = omega arith
below-append n (y ∷ a) b = omega (arith, below-append n a b)

pub count_set : (x : ℕ) (l : List ℕ) (i v : ℕ) → i < length l → count_of x (set l i v) + one (eqb x (get_or l i 0)) ≡ count_of x l + one (eqb x v)
unfolding count_of
count_set x [] i v p = absurd (not-suc-le-zero p)
count_set x (y ∷ l) zero v p = omega arith
count_set x (y ∷ l) (suc i) v p = omega (arith, count_set x l i v (omega arith))

-- an entry stands at least once
pub count-get_or : (l : List ℕ) (i : ℕ) → i < length l → 1 ≤ count_of (get_or l i 0) l
unfolding count_of one
count-get_or [] i p = absurd (not-suc-le-zero p)
count-get_or (y ∷ l) zero p = rw (eq-eqb y y refl) (omega arith)
count-get_or (y ∷ l) (suc i) p = omega (arith, count-get_or l i (omega arith))

-- an entry is below n
pub entry-below : (n : ℕ) (l : List ℕ) (i : ℕ) → not_below n l ≡ 0 → i < length l → get_or l i 0 < n
unfolding not_below one
entry-below n [] i e p = absurd (not-suc-le-zero p)
entry-below n (y ∷ l) zero e p =
    case_on (leb n y) (λ t. absurd (omega (arith, rw t at e))) (λ t. leb-false n y t)
entry-below n (y ∷ l) (suc i) e p = entry-below n l i (omega (arith, e)) (omega arith)

-- no entry stands at two places
pub entries-apart : (l : List ℕ) → ((x : ℕ) → count_of x l ≤ 1) → (i j : ℕ) → i < length l → j < length l → get_or l i 0 ≡ get_or l j 0 → i ≡ j
unfolding one
entries-apart l d i j p q e =
    case_on (eqb i j) (λ t. eqb-true i j t)
    (λ t.
    let x = get_or l i 0 in
    let m = set l i (suc x) in
    let s : get_or m j 0 ≡ x = get_or-set_other l i j (suc x) 0 (λ z. eqb-false i j t (sym z)) ∙ sym e in
    let u : 1 ≤ count_of x m = subst (λ (z : ℕ). 1 ≤ count_of z m) s (count-get_or m j (rw length-set q)) in
    let v : count_of x m + one (eqb x x) ≡ count_of x l + one (eqb x (suc x)) = count_set x l i (suc x) p in
    absurd (omega (arith, d x, rw (eq-eqb x x refl, ne_eqb x (suc x) (λ z. omega arith)) at v)))

-- two entries change places
pub once-swap : (n : ℕ) (l : List ℕ) (i j : ℕ) → i < length l → j < length l → Once n l → Once n (set (set l i (get_or l j 0)) j (get_or l i 0))
once-swap n l i j p q o x r =
    let a = get_or l i 0 in
    let b = get_or l j 0 in
    let k : get_or (set l i b) j 0 ≡ b =
    case_on (eqb i j)
    (λ t. subst (λ (z : ℕ). get_or (set l i b) z 0 ≡ b) (eqb-true i j t) (get_or-set_same l i b 0 p))
    (λ t. get_or-set_other l i j b 0 (λ z. eqb-false i j t (sym z))) in
    let u : count_of x (set (set l i b) j a) + one (eqb x (get_or (set l i b) j 0)) ≡ count_of x (set l i b) + one (eqb x a) =
    count_set x (set l i b) j a (rw length-set q) in
    omega (arith, rw k at u, count_set x l i b p, o x r)
