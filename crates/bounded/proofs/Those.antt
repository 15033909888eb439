-- The numbers below a bound that pass a test, as a list: how many, the n-th of them, and each of them.
use Prim.Native.Nat.{ℕ, zero, suc, ◌+◌, ◌<◌, ◌≤◌}
use mathlib.Core.Bool.{Bool, true, cond}
use mathlib.Core.List.{List, [], ◌∷◌, ◌++◌}
use mathlib.Core.Path.{◌≡◌, refl, sym, ap, ap₂, subst, ◌∙◌}
use lib.Dec.{ltb}
use lib.ListN.{length, get_or, length-append, get_or-append, get_or-eq_default}
use lib.Seq.{get_or_at}
use borrow.Author.Tests.{ltb-true, ltb-false}
use native.Mathlib.Nat.{not-suc-le-zero, add-zero}
use native.Mathlib.Omega.{arith}
use Rattle.bounded.specs.Below.{one, count_below, those}
use Rattle.bounded.proofs.Tests.{case_on}
use Rattle.bounded.proofs.Below.{split_below, count-before}

-- one number more: it joins the list where it passes
those-in : (f : ℕ → Bool) (n : ℕ) → f n ≡ true → those (suc n) f ≡ those n f ++ (n ∷ [])
unfolding those
those-in f n t = rw t

pub length-those : (f : ℕ → Bool) (n : ℕ) → length (those n f) ≡ count_below n f
unfolding those count_below one
length-those f zero = refl
length-those f (suc n) =
    case_on (f n)
    (λ t. rw t (length-append (those n f) (n ∷ []) ∙ ap (λ (x : ℕ). x + 1) (length-those f n)))
    (λ t. rw t (length-append (those n f) [] ∙ ap (λ (x : ℕ). x + 0) (length-those f n)))

-- the entry at a place, by whether the place lies before the last number
those-step : (f : ℕ → Bool) (n k d : ℕ) → k < length (those n f) → get_or (those (suc n) f) k d ≡ get_or (those n f) k d
unfolding those
those-step f n k d l = get_or-append (those n f) (cond (f n) (n ∷ []) []) d k l

-- a number that passes stands at the place that says how many pass before it
pub those-at : (f : ℕ → Bool) (n i d : ℕ) → i < n → f i ≡ true → get_or (those n f) (count_below i f) d ≡ i
those-at f zero i d l t = absurd (not-suc-le-zero l)
those-at f (suc n) i d l t =
    split_below l
    (λ q.
    let u : f n ≡ true = subst (λ (k : ℕ). f k ≡ true) q t in
    rw (q, those-in f n u) (get_or_at (those n f) n [] d (count_below n f) (length-those f n)))
    (λ lt.
    those-step f n (count_below i f) d (omega (arith, count-before f n i lt t, length-those f n))
    ∙ those-at f n i d lt t)

-- past the last there is none
pub those-past : (f : ℕ → Bool) (n k d : ℕ) → count_below n f ≤ k → get_or (those n f) k d ≡ d
those-past f n k d l = get_or-eq_default (those n f) d (omega (arith, length-those f n))

-- the entry at place k is below n, passes, and has k that pass before it
pub record Chosen (f : ℕ → Bool) (n k i : ℕ) : Type 0 where
  pub below : i < n
  pub passes : f i ≡ true
  pub before : count_below i f ≡ k

pub chosen : (f : ℕ → Bool) (n k d : ℕ) → k < count_below n f → Chosen f n k (get_or (those n f) k d)
unfolding count_below one
chosen f zero k d l = absurd (not-suc-le-zero l)
chosen f (suc n) k d l =
    case_on (ltb k (count_below n f))
    (λ t.
    let c = chosen f n k d (ltb-true k (count_below n f) t) in
    rw (those-step f n k d (omega (arith, ltb-true k (count_below n f) t, length-those f n)))
    (record { below = omega (arith, c.below); passes = c.passes; before = c.before }))
    (λ t.
    let g : count_below n f ≤ k = ltb-false k (count_below n f) t in
    case_on (f n)
    (λ u.
    let m : k < count_below n f + 1 = rw u at l in
    let e : k ≡ count_below n f = omega arith in
    let p : get_or (those (suc n) f) k d ≡ n = rw (those-in f n u) (get_or_at (those n f) n [] d k (omega (arith, length-those f n))) in
    rw p (record { below = omega arith; passes = u; before = sym e }))
    (λ u. absurd (omega (arith, rw u at l))))

pub those-ext : (f g : ℕ → Bool) (n : ℕ) → ((i : ℕ) → i < n → f i ≡ g i) → those n f ≡ those n g
unfolding those
those-ext f g zero h = refl
those-ext f g (suc n) h =
    ap₂ (λ (l : List ℕ) (b : Bool). l ++ cond b (n ∷ []) []) (those-ext f g n (λ i l. h i (omega arith))) (h n (omega arith))
