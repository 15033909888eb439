-- Which stores come before the next one that decides, by how many of the operation's stores decide.
use Prim.Native.Nat.{ℕ, ◌+◌, ◌-◌, ◌<◌}
use mathlib.Core.Bool.{Bool, true, false, not, ◌&&◌, ◌||◌, cond}
use mathlib.Core.Path.{◌≡◌, refl, sym, ap, ap₂, ◌∙◌}
use native.Mathlib.Omega.{arith}
use lib.Dec.{ltb, eqb}
use borrow.Author.Tests.{ltb-true, ltb-false, eq-eqb, ne_eqb, eqb-true}
use Rattle.bounded.specs.Below.{first_below}
use Rattle.bounded.proofs.Below.{first_stops, first-le, first_holds}
use Rattle.bounded.proofs.Tests.{case_on, contradicts, and_left, and_right}
use Rattle.state.specs.State.{State}
use Rattle.state.specs.declared.Op.{Op}
use Rattle.state.specs.declared.Op.TheVariants.{Idle, Write, Commit, Consolidate, Checkpoint, Event, Prepare, Confirm, Log, Copy, Format}
use Rattle.operations.specs.Operations.{needs}
use Rattle.refinement.specs.Stores.{with_made, left}
use Rattle.refinement.proofs.Pending.{needs-made}
use Rattle.any_order.specs.AnyOrder.{is_last, to_fence}
use Rattle.op_stores.specs.Started.{fence_in}
use Rattle.call_step.specs.NextStore.{before_deciding, StopsWhereItDecides}

-- ---- the first number that a test holds of

none_first : (f : ℕ → Bool) (n : ℕ) → ((j : ℕ) → j < n → f j ≡ false) → first_below n f ≡ n
none_first f n none =
    case_on (ltb (first_below n f) n)
    (λ t. let l = ltb-true (first_below n f) n t in contradicts (first_holds f n l) (none (first_below n f) l))
    (λ t. omega (arith, first-le f n, ltb-false (first_below n f) n t))

one-first : (f : ℕ → Bool) (n i : ℕ) → i < n → ((j : ℕ) → j < i → f j ≡ false) → f i ≡ true → i ≡ first_below n f
one-first f n i l none e = first_stops f n i true l (none_first f i none) (sym e) refl

-- ---- by how many stores decide

-- how many stores of an operation decide: none; one, the last; two, the first and the last
abbrev deciding_stores : Op → ℕ
deciding_stores Idle = 0
deciding_stores (Write w p l o n) = 0
deciding_stores (Commit w) = 1
deciding_stores (Consolidate p) = 1
deciding_stores Checkpoint = 1
deciding_stores (Event k m a) = 1
deciding_stores (Prepare w) = 0
deciding_stores (Confirm w) = 1
deciding_stores (Log p l o n) = 0
deciding_stores Copy = 2
deciding_stores Format = 2

-- n of an operation's stores decide; the next one is its first, its last
abbrev told : ℕ → Bool → Bool → Bool
told n first last = (eqb n 2 && first) || (not (eqb n 0) && last)

by_count : (st : State) (op : Op) → to_fence st op ≡ told (deciding_stores op) (eqb st.pending.made 0) (is_last st op)
by_count st Idle = refl
by_count st (Write w p l o n) = refl
by_count st (Commit w) = refl
by_count st (Consolidate p) = refl
by_count st Checkpoint = refl
by_count st (Event k m a) = refl
by_count st (Prepare w) = refl
by_count st (Confirm w) = refl
by_count st (Log p l o n) = refl
by_count st Copy = refl
by_count st Format = refl

told_none : (n : ℕ) (first last : Bool) → n ≡ 0 → told n first last ≡ false
told_none n first last e = rw e

told-neither : (n : ℕ) (first last : Bool) → (n ≡ 2 → first ≡ false) → last ≡ false → told n first last ≡ false
told-neither n first last f e =
    rw e (case_on (eqb n 2) (λ t. rw (t, f (eqb-true n 2 t)) (case_on (eqb n 0) (λ u. rw u) (λ u. rw u))) (λ t. rw t (case_on (eqb n 0) (λ u. rw u) (λ u. rw u))))

told-first : (n : ℕ) (first last : Bool) → n ≡ 2 → first ≡ true → told n first last ≡ true
told-first n first last e f = rw (e, f)

told-last : (n : ℕ) (first last : Bool) → (n ≡ 0 → ⊥) → last ≡ true → told n first last ≡ true
told-last n first last h e = rw (e, ne_eqb n 0 h) (case_on (eqb n 2) (λ t. rw t (case_on first (λ u. rw u) (λ u. rw u))) (λ t. rw t))

module _ (st : State) (needed : ℕ) (e : needed ≡ needs st st.pending.op) (low : st.pending.made < needed) where
  abbrev op : Op
  op = st.pending.op

  abbrev made : ℕ
  made = st.pending.made

  abbrev n : ℕ
  n = deciding_stores st.pending.op

  abbrev test : ℕ → Bool
  test i = to_fence (with_made st (st.pending.made + i)) st.pending.op

  test-told : (i : ℕ) → test i ≡ told n (eqb (made + i) 0) (eqb (made + i + 1) needed)
  test-told i =
      by_count (with_made st (made + i)) op
      ∙ ap (λ (k : ℕ). told n (eqb (made + i) 0) (eqb (made + i + 1) k)) (needs-made st (made + i) op ∙ sym e)

  -- k is the number of deciding stores that the code found
  module _ (k : ℕ) (f : k ≡ deciding_stores st.pending.op) where
    pub before-none : k ≡ 0 → needed - made ≡ before_deciding st
    unfolding before_deciding
    before-none z =
        let many : left st ≡ needed - made = omega (arith, e) in
        sym (none_first test (left st) (λ j l. test-told j ∙ told_none n (eqb (made + j) 0) (eqb (made + j + 1) needed) (sym f ∙ z)) ∙ many)

    pub before-first : (eqb k 2 && eqb made 0) ≡ true → 0 ≡ before_deciding st
    unfolding before_deciding
    before-first t =
        let two : n ≡ 2 = sym f ∙ eqb-true k 2 (and_left (eqb k 2) (eqb made 0) t) in
        let z : made ≡ 0 = eqb-true made 0 (and_right (eqb k 2) (eqb made 0) t) in
        one-first test (left st) 0 (omega (arith, e, low)) (λ j l. absurd (omega (arith, l))) (test-told 0 ∙ told-first n (eqb (made + 0) 0) (eqb (made + 0 + 1) needed) two (eq-eqb (made + 0) 0 (omega (arith, z))))

    pub before_last : (k ≡ 0 → ⊥) → (eqb k 2 && eqb made 0) ≡ false → needed - made - 1 ≡ before_deciding st
    unfolding before_deciding
    before_last some t =
        let i : ℕ = needed - made - 1 in
        let later : n ≡ 2 → made ≡ 0 → ⊥ = λ two z. contradicts (ap₂ (λ (x y : Bool). x && y) (eq-eqb k 2 (f ∙ two)) (eq-eqb made 0 z)) t in
        one-first test (left st) i (omega (arith, e, low))
        (λ j l.
        test-told j
        ∙ told-neither n (eqb (made + j) 0) (eqb (made + j + 1) needed) (λ two. ne_eqb (made + j) 0 (λ z. later two (omega (arith, z)))) (ne_eqb (made + j + 1) needed (λ q. omega (arith, q, l, low))))
        (test-told i ∙ told-last n (eqb (made + i) 0) (eqb (made + i + 1) needed) (λ z. some (f ∙ z)) (eq-eqb (made + i + 1) needed (omega (arith, low))))

  -- the next store decides where none comes before the next one that does
  pub decides-now : (before : ℕ) → before ≡ before_deciding st → eqb before 0 ≡ to_fence st op
  unfolding before_deciding
  decides-now before q =
      let same : test 0 ≡ to_fence st op = let z : made + 0 ≡ made = omega arith in ap (λ (k : ℕ). to_fence (with_made st k) op) z in
      let some : 0 < left st = omega (arith, e, low) in
      case_on (test 0)
      (λ t.
      let z : before ≡ 0 = q ∙ sym (one-first test (left st) 0 some (λ j l. absurd (omega arith)) t) in
      eq-eqb before 0 z ∙ sym t ∙ same)
      (λ t.
      ne_eqb before 0
      (λ z.
      let f : first_below (left st) test ≡ 0 = sym q ∙ z in
      let h = first_holds test (left st) (omega (arith, f, some)) in
      contradicts (ap test (sym f) ∙ h) t)
      ∙ sym t ∙ same)

-- ---- the calls that stop before a fence count the same stores

counted : (op : Op) (m n : ℕ) → fence_in op m n ≡ cond (eqb (deciding_stores op) 0) n (cond (eqb (deciding_stores op) 2 && eqb m 0) 0 (n - 1))
counted Idle m n = refl
counted (Write w p l o k) m n = refl
counted (Commit w) m n = refl
counted (Consolidate p) m n = refl
counted Checkpoint m n = refl
counted (Event k i a) m n = refl
counted (Prepare w) m n = refl
counted (Confirm w) m n = refl
counted (Log p l o k) m n = refl
counted Copy m n = refl
counted Format m n = refl

pub stops-where-it-decides : StopsWhereItDecides
stops-where-it-decides st low =
    let p = st.pending.op in
    let k = deciding_stores st.pending.op in
    counted p st.pending.made (left st)
    ∙ case_on (eqb k 0)
    (λ t. rw t (before-none st (needs st p) refl low k refl (eqb-true k 0 t)))
    (λ t.
    rw t
    (case_on (eqb k 2 && eqb st.pending.made 0)
    (λ u. rw u (before-first st (needs st p) refl low k refl u))
    (λ u. rw u (before_last st (needs st p) refl low k refl (λ z. contradicts (eq-eqb k 0 z) t) u))))
