-- The laws of loops over the numbers below a bound: a loop's start, a turn, an early exit and the end; and what each
-- result tells of the numbers. In a law about code, r is what the call in the loop returned.
use Prim.Native.Nat.{ℕ, zero, suc, ◌+◌, ◌<◌, ◌≤◌}
use mathlib.Core.Bool.{Bool, true, false, ◌&&◌, and-false, cond, not}
use mathlib.Core.Logic.{⊎_elim}
use mathlib.Core.Path.{◌≡◌, refl, sym, ap, ap₂, subst, ◌∙◌}
use lib.Dec.{eqb}
use borrow.Author.Tests.{eq-eqb, ne_eqb, eqb-true, eqb-false, not-true, not-false}
use native.Mathlib.Nat.{not-suc-le-zero, le_of_suc-le-suc, eq-or-lt_of_le, le_antisymm}
use native.Mathlib.Numerals.{add-one}
use native.Mathlib.Omega.{arith}
use Rattle.bounded.specs.Below.{all_below, some_below, first_below, one, count_below, up_to}
use Rattle.bounded.proofs.Tests.{case_on, contradicts}

-- the number below suc n is n or below n
pub split_below : {X : Type 0} {n i : ℕ} → i < suc n → (i ≡ n → X) → (i < n → X) → X
split_below l f g = ⊎_elim f g (eq-or-lt_of_le (le_of_suc-le-suc l))

-- what a loop has found of the first i numbers, i having come to n, is its result
pub ends : {A : Type 0} (g : ℕ → A) (n i : ℕ) → i ≤ n → n ≤ i → g i ≡ g n
ends g n i a b = ap g (le_antisymm a b)

-- ---- all

pub all_none : (f : ℕ → Bool) → all_below 0 f ≡ true
unfolding all_below
all_none f = refl

pub all-turn : (f : ℕ → Bool) (i : ℕ) (r : Bool) → all_below i f ≡ true → r ≡ f i → r ≡ true → all_below (i + 1) f ≡ true
unfolding all_below
all-turn f i r all e t = rw (add-one, all, ← e, t)

pub all-fails : (f : ℕ → Bool) (n i : ℕ) → i < n → f i ≡ false → all_below n f ≡ false
unfolding all_below
all-fails f zero i l e = absurd (not-suc-le-zero l)
all-fails f (suc n) i l e =
    split_below l
    (λ q. ap (λ (b : Bool). all_below n f && b) (subst (λ (k : ℕ). f k ≡ false) q e) ∙ and-false (all_below n f))
    (λ lt. ap (λ (b : Bool). b && f n) (all-fails f n i lt e))

pub all-stops : (f : ℕ → Bool) (n i : ℕ) (r : Bool) → i < n → r ≡ f i → r ≡ false → false ≡ all_below n f
all-stops f n i r l e t = sym (all-fails f n i l (sym e ∙ t))

pub all-ends : (f : ℕ → Bool) (n i : ℕ) → i ≤ n → n ≤ i → all_below i f ≡ true → true ≡ all_below n f
all-ends f n i a b all = sym all ∙ ends (λ k. all_below k f) n i a b

-- what a test over every number below n tells of each, and what makes it
pub all-at : (f : ℕ → Bool) (n i : ℕ) → i < n → all_below n f ≡ true → f i ≡ true
all-at f n i l all = case_on (f i) (λ t. t) (λ t. contradicts all (all-fails f n i l t))

pub all_made : (f : ℕ → Bool) (n : ℕ) → ((i : ℕ) → i < n → f i ≡ true) → all_below n f ≡ true
unfolding all_below
all_made f zero h = refl
all_made f (suc n) h = rw (all_made f n (λ i l. h i (omega arith)), h n (omega arith))

pub all_map : (f g : ℕ → Bool) (n : ℕ) → ((i : ℕ) → i < n → f i ≡ true → g i ≡ true) → all_below n f ≡ true → all_below n g ≡ true
all_map f g n h all = all_made g n (λ i l. h i l (all-at f n i l all))

pub all-ext : (f g : ℕ → Bool) (n : ℕ) → ((i : ℕ) → i < n → f i ≡ g i) → all_below n f ≡ all_below n g
unfolding all_below
all-ext f g zero h = refl
all-ext f g (suc n) h = ap₂ (λ (x y : Bool). x && y) (all-ext f g n (λ i l. h i (omega arith))) (h n (omega arith))

-- ---- some

none_yet : (f : ℕ → Bool) (n : ℕ) → some_below n f ≡ false → all_below n (λ i. not (f i)) ≡ true
unfolding some_below
none_yet f n e = not-false (all_below n (λ i. not (f i))) e

pub some-none : (f : ℕ → Bool) → some_below 0 f ≡ false
unfolding some_below
some-none f = ap not (all_none (λ i. not (f i)))

pub some_turn : (f : ℕ → Bool) (i : ℕ) (r : Bool) → some_below i f ≡ false → r ≡ f i → r ≡ false → some_below (i + 1) f ≡ false
unfolding some_below
some_turn f i r none e t =
    ap not (all-turn (λ k. not (f k)) i (not r) (none_yet f i none) (ap not e) (ap not t))

pub some_at : (f : ℕ → Bool) (n i : ℕ) → i < n → f i ≡ true → some_below n f ≡ true
unfolding some_below
some_at f n i l t = ap not (all-fails (λ k. not (f k)) n i l (ap not t))

pub some-stops : (f : ℕ → Bool) (n i : ℕ) (r : Bool) → i < n → r ≡ f i → r ≡ true → true ≡ some_below n f
some-stops f n i r l e t = sym (some_at f n i l (sym e ∙ t))

pub some-ends : (f : ℕ → Bool) (n i : ℕ) → i ≤ n → n ≤ i → some_below i f ≡ false → false ≡ some_below n f
some-ends f n i a b none = sym none ∙ ends (λ k. some_below k f) n i a b

pub none-at : (f : ℕ → Bool) (n i : ℕ) → i < n → some_below n f ≡ false → f i ≡ false
none-at f n i l none = not-true (f i) (all-at (λ k. not (f k)) n i l (none_yet f n none))

pub none_made : (f : ℕ → Bool) (n : ℕ) → ((i : ℕ) → i < n → f i ≡ false) → some_below n f ≡ false
unfolding some_below
none_made f n h = ap not (all_made (λ k. not (f k)) n (λ i l. ap not (h i l)))

pub some-ext : (f g : ℕ → Bool) (n : ℕ) → ((i : ℕ) → i < n → f i ≡ g i) → some_below n f ≡ some_below n g
unfolding some_below
some-ext f g n h = ap not (all-ext (λ k. not (f k)) (λ k. not (g k)) n (λ i l. ap not (h i l)))

-- ---- the first

pub first-none : (f : ℕ → Bool) → first_below 0 f ≡ 0
unfolding first_below
first-none f = refl

pub first-turn : (f : ℕ → Bool) (i : ℕ) (r : Bool) → first_below i f ≡ i → r ≡ f i → r ≡ false → first_below (i + 1) f ≡ i + 1
unfolding first_below
first-turn f i r none e t = rw (add-one, none, eq-eqb i i refl, ← e, t)

first-here : (f : ℕ → Bool) (i : ℕ) → first_below i f ≡ i → f i ≡ true → first_below (suc i) f ≡ i
unfolding first_below
first-here f i none e = rw (none, eq-eqb i i refl, e)

first-kept : (f : ℕ → Bool) (n i : ℕ) → i < n → first_below n f ≡ i → first_below (suc n) f ≡ i
unfolding first_below
first-kept f n i l e = rw (e, ne_eqb i n (λ q. omega arith))

first-at : (f : ℕ → Bool) (n i : ℕ) → i < n → first_below i f ≡ i → f i ≡ true → first_below n f ≡ i
first-at f zero i l none e = absurd (not-suc-le-zero l)
first-at f (suc n) i l none e =
    split_below l
    (λ q. subst (λ (k : ℕ). first_below (suc k) f ≡ i) q (first-here f i none e))
    (λ lt. first-kept f n i lt (first-at f n i lt none e))

pub first_stops : (f : ℕ → Bool) (n i : ℕ) (r : Bool) → i < n → first_below i f ≡ i → r ≡ f i → r ≡ true → i ≡ first_below n f
first_stops f n i r l none e t = sym (first-at f n i l none (sym e ∙ t))

pub first_ends : (f : ℕ → Bool) (n i : ℕ) → i ≤ n → n ≤ i → first_below i f ≡ i → n ≡ first_below n f
first_ends f n i a b none = sym (subst (λ (k : ℕ). first_below k f ≡ k) (le_antisymm a b) none)

-- the first is at most n; below n it passes the test; no number before it does
pub first-le : (f : ℕ → Bool) (n : ℕ) → first_below n f ≤ n
unfolding first_below
first-le f zero = omega arith
first-le f (suc n) =
    case_on (eqb (first_below n f) n)
    (λ e. case_on (f n) (λ t. rw (e, t) (omega arith)) (λ t. rw (e, t) (omega arith)))
    (λ e. rw e (omega (arith, first-le f n)))

pub first_holds : (f : ℕ → Bool) (n : ℕ) → first_below n f < n → f (first_below n f) ≡ true
unfolding first_below
first_holds f zero l = absurd (not-suc-le-zero l)
first_holds f (suc n) l =
    case_on (eqb (first_below n f) n)
    (λ e. case_on (f n) (λ t. rw (e, t) t) (λ t. absurd (no t e)))
    (λ e. rw e (first_holds f n (omega (arith, first-le f n, eqb-false (first_below n f) n e))))
  where
    no : f n ≡ false → eqb (first_below n f) n ≡ true → ⊥
    no t e = omega (arith, rw (e, t) at l)

pub first-before : (f : ℕ → Bool) (n i : ℕ) → i < first_below n f → f i ≡ false
unfolding first_below
first-before f zero i l = absurd (not-suc-le-zero l)
first-before f (suc n) i l =
    case_on (eqb (first_below n f) n)
    (λ e.
    let q : first_below n f ≡ n = eqb-true (first_below n f) n e in
    case_on (f n)
    (λ t. first-before f n i (omega (arith, rw (e, t) at l)))
    (λ t.
    let m : i < suc n = rw (e, t) at l in
    split_below m (λ p. rw p t) (λ lt. first-before f n i (omega arith))))
    (λ e. first-before f n i (rw e at l))

-- ---- how many

pub count_none : (f : ℕ → Bool) → 0 ≡ count_below 0 f
unfolding count_below
count_none f = refl

pub count_turn : (f : ℕ → Bool) (i n r : ℕ) → n ≡ count_below i f → r ≡ one (f i) → n + r ≡ count_below (i + 1) f
unfolding count_below
count_turn f i n r e t = rw (add-one, ← e, ← t)

pub count-ends : (f : ℕ → Bool) (n i r : ℕ) → i ≤ n → n ≤ i → r ≡ count_below i f → r ≡ count_below n f
count-ends f n i r a b e = e ∙ ends (λ k. count_below k f) n i a b

pub one-le : (b : Bool) → one b ≤ 1
unfolding one
one-le true = omega arith
one-le false = omega arith

pub count-le : (f : ℕ → Bool) (n : ℕ) → count_below n f ≤ n
unfolding count_below
count-le f zero = omega arith
count-le f (suc n) = omega (arith, count-le f n, one-le (f n))

-- up to a number at which f holds there are fewer than in all
pub count-before : (f : ℕ → Bool) (n i : ℕ) → i < n → f i ≡ true → count_below i f < count_below n f
unfolding count_below one
count-before f zero i l t = absurd (not-suc-le-zero l)
count-before f (suc n) i l t =
    split_below l
    (λ q. rw (q, subst (λ (k : ℕ). f k ≡ true) q t) (omega arith))
    (λ lt. omega (arith, count-before f n i lt t))

-- the first number apart
pub count-first : (f : ℕ → Bool) (n : ℕ) → count_below (suc n) f ≡ one (f 0) + count_below n (λ i. f (suc i))
unfolding count_below
count-first f zero = omega arith
count-first f (suc n) = omega (arith, count-first f n)

pub count-ext : (f g : ℕ → Bool) (n : ℕ) → ((i : ℕ) → i < n → f i ≡ g i) → count_below n f ≡ count_below n g
unfolding count_below
count-ext f g zero h = refl
count-ext f g (suc n) h = ap₂ (λ (x : ℕ) (b : Bool). x + one b) (count-ext f g n (λ i l. h i (omega arith))) (h n (omega arith))

-- those that pass and those that do not are all
pub count-other : (f : ℕ → Bool) (n : ℕ) → count_below n f + count_below n (λ i. not (f i)) ≡ n
unfolding count_below one
count-other f zero = refl
count-other f (suc n) =
    case_on (f n) (λ t. rw t (omega (arith, count-other f n))) (λ t. rw t (omega (arith, count-other f n)))

-- ---- what the turns make

pub up_none : {A : Type 0} (f : ℕ → A → A) (x : A) → x ≡ up_to 0 f x
unfolding up_to
up_none f x = refl

pub up_turn : {A : Type 0} (f : ℕ → A → A) (x y : A) (i : ℕ) → y ≡ up_to i f x → f i y ≡ up_to (i + 1) f x
unfolding up_to
up_turn f x y i e = rw (add-one, e)

pub up_ends : {A : Type 0} (f : ℕ → A → A) (x y : A) (n i : ℕ) → i ≤ n → n ≤ i → y ≡ up_to i f x → y ≡ up_to n f x
up_ends f x y n i a b e = e ∙ ends (λ k. up_to k f x) n i a b

-- what each turn keeps, the whole keeps
pub up-keeps : {A : Type 0} (P : A → Type 0) (f : ℕ → A → A) (n : ℕ) (x : A) → ((i : ℕ) (y : A) → i < n → P y → P (f i y)) → P x → P (up_to n f x)
unfolding up_to
up-keeps P f zero x h p = p
up-keeps P f (suc n) x h p = h n (up_to n f x) (omega arith) (up-keeps P f n x (λ i y l q. h i y (omega arith) q) p)

pub up-ext : {A : Type 0} (f g : ℕ → A → A) (n : ℕ) (x : A) → ((i : ℕ) (y : A) → i < n → f i y ≡ g i y) → up_to n f x ≡ up_to n g x
unfolding up_to
up-ext f g zero x h = refl
up-ext f g (suc n) x h = h n (up_to n f x) (omega arith) ∙ ap (g n) (up-ext f g n x (λ i y l. h i y (omega arith)))

-- the turns from a on, after the first a
pub up_more : {A : Type 0} (f : ℕ → A → A) (a b : ℕ) (x : A) → up_to (a + b) f x ≡ up_to b (λ i. f (a + i)) (up_to a f x)
unfolding up_to
up_more f a zero x = let e : a + 0 ≡ a = omega arith in ap (λ (n : ℕ). up_to n f x) e
up_more f a (suc b) x =
    let e : a + suc b ≡ suc (a + b) = omega arith in
    ap (λ (n : ℕ). up_to n f x) e ∙ ap (f (a + b)) (up_more f a b x)
