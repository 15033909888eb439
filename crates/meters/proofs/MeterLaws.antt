-- Laws of the meters' numbers: what a known event and a taken amount tell.
use Prim.Native.Nat.{ℕ, ◌+◌, ◌-◌, ◌%◌, ◌<◌, ◌≤◌}
use mathlib.Core.Bool.{Bool, true, false, ◌&&◌, ◌||◌, not}
use mathlib.Core.List.{List}
use mathlib.Core.Path.{◌≡◌, refl, sym, ◌∙◌}
use native.Mathlib.Nat.{mod-add-mod, add-mod-mod, mod-lt}
use native.Mathlib.Omega.{arith}
use lib.Dec.{ltb, leb, eqb}
use lib.ListN.{length, get_or}
use borrow.Author.Tests.{ltb-true, ltb-false, leb-true, leb-false, eqb-true, not-true, lt-ltb, le-ltb, le-leb, lt-leb}
use Rattle.bounded.specs.Below.{all_below}
use Rattle.bounded.specs.Tab.{tab}
use Rattle.bounded.proofs.Below.{all-at}
use Rattle.bounded.proofs.Tab.{get_or-tab}
use Rattle.bounded.proofs.Tests.{case_on, and_left, and_right, or_left, or_right}
use Rattle.meters.specs.Meters.{modulus_bad, moduli_ok, modulus_of, fixed_modulus, fixed_moduli, event_known, moves_credit, own_meter, first_meter, adds, rolled, credit_after, first_number, credit_bad, amount_bad}

-- ---- moduli

abbrev in_range : List ℕ → ℕ → Bool
in_range ms m = not (modulus_bad (get_or ms m 0))

module _ (ms : List ℕ) (ok : moduli_ok ms ≡ true) where
  pub moduli-length : length ms ≡ 24
  unfolding moduli_ok
  moduli-length = eqb-true (length ms) 24 (and_left (eqb (length ms) 24) (all_below 24 (in_range ms)) ok)

  pub modulus-range : (m : ℕ) → m < 24 → (100 ≤ modulus_of ms m) × (modulus_of ms m ≤ 1000000000000)
  unfolding moduli_ok modulus_of
  modulus-range m l =
      let x : ℕ = get_or ms m 0 in
      let e : ltb x 100 || ltb 1000000000000 x ≡ false =
      not-true (modulus_bad x) (all-at (in_range ms) 24 m l (and_right (eqb (length ms) 24) (all_below 24 (in_range ms)) ok)) in
      (ltb-false x 100 (or_left (ltb x 100) (ltb 1000000000000 x) e), ltb-false 1000000000000 x (or_right (ltb x 100) (ltb 1000000000000 x) e))

  pub rolled-low : (m s a : ℕ) → m < 24 → rolled ms m s a < modulus_of ms m
  rolled-low m s a l = mod-lt (s + a) (omega (arith, (modulus-range m l).0))

-- the sum of the remainders
pub rolled-sum : (ms : List ℕ) (m s a : ℕ) → (s % modulus_of ms m + a % modulus_of ms m) % modulus_of ms m ≡ rolled ms m s a
rolled-sum ms m s a = mod-add-mod s (modulus_of ms m) (a % modulus_of ms m) ∙ add-mod-mod s a (modulus_of ms m)

-- L2's table: its range rule is one test over its entries, which antt computes
pub fixed-ok : moduli_ok fixed_moduli ≡ true
unfolding moduli_ok fixed_moduli fixed_modulus tab all_below
fixed-ok = refl

pub fixed-modulus : (m : ℕ) → m < 24 → modulus_of fixed_moduli m ≡ fixed_modulus m
unfolding modulus_of fixed_moduli
fixed-modulus m l = get_or-tab 24 fixed_modulus m 0 l

-- ---- a known event

module _ (kind meter : ℕ) (e : event_known kind meter ≡ true) where
  pub record Credit : Type 0 where
    pub some : 1 ≤ kind
    pub most : kind ≤ 4

  pub record Count : Type 0 where
    pub is : kind ≡ 5
    pub some : 5 ≤ meter
    pub most : meter ≤ 23

  pub of-credit : moves_credit kind ≡ true → Credit
  of-credit t =
      let l : kind < 5 = ltb-true kind 5 t in
      case_on (leb 1 kind && leb kind 4)
      (λ u. record { some = leb-true 1 kind (and_left (leb 1 kind) (leb kind 4) u); most = omega arith })
      (λ u.
      let h : eqb kind 5 && (leb 5 meter && leb meter 23) ≡ true = rw u at e in
      let k : kind ≡ 5 = eqb-true kind 5 (and_left (eqb kind 5) (leb 5 meter && leb meter 23) h) in
      absurd (omega arith))

  pub of-count : moves_credit kind ≡ false → Count
  of-count t =
      let l : 5 ≤ kind = ltb-false kind 5 t in
      case_on (leb 1 kind && leb kind 4)
      (λ u. let k : kind ≤ 4 = leb-true kind 4 (and_right (leb 1 kind) (leb kind 4) u) in absurd (omega arith))
      (λ u.
      let h : eqb kind 5 && (leb 5 meter && leb meter 23) ≡ true = rw u at e in
      let r = and_right (eqb kind 5) (leb 5 meter && leb meter 23) h in
      record {
        is = eqb-true kind 5 (and_left (eqb kind 5) (leb 5 meter && leb meter 23) h);
        some = leb-true 5 meter (and_left (leb 5 meter) (leb meter 23) r);
        most = leb-true meter 23 (and_right (leb 5 meter) (leb meter 23) r);
      })

  pub own_range : (1 ≤ own_meter kind meter) × (own_meter kind meter < 24)
  own_range =
      case_on (moves_credit kind)
      (λ t. let c = of-credit t in rw t (omega (arith, c.some), omega (arith, c.most)))
      (λ t. let c = of-count t in rw t (omega (arith, c.some), omega (arith, c.most)))

  pub first-low : first_meter kind meter < 24
  first-low = case_on (moves_credit kind) (λ t. rw t (omega arith)) (λ t. let c = of-count t in rw t (omega (arith, c.most)))

-- ---- a taken amount

module _ (ms : List ℕ) (kind credit amount : ℕ) (e : credit_bad ms kind credit amount ≡ false) where
  pub credit-adds : adds kind ≡ true → credit + amount < modulus_of ms 0
  unfolding credit_bad
  credit-adds t = leb-false (modulus_of ms 0) (credit + amount) (rw t at e)

  pub credit-takes : adds kind ≡ false → (amount ≤ credit) × (credit - amount < modulus_of ms 0)
  unfolding credit_bad
  credit-takes t =
      let under = ltb credit amount in
      let over = leb (modulus_of ms 0) (credit - amount) in
      let h : ltb credit amount || leb (modulus_of ms 0) (credit - amount) ≡ false = rw t at e in
      (ltb-false credit amount (or_left under over h), leb-false (modulus_of ms 0) (credit - amount) (or_right under over h))

  pub credit-low : credit_after kind credit amount < modulus_of ms 0
  credit-low = case_on (adds kind) (λ t. rw t (credit-adds t)) (λ t. rw t (credit-takes t).1)

module _ (ms : List ℕ) (kind meter stored amount : ℕ) (e : amount_bad ms kind meter stored amount ≡ false) where
  pub amount-low : amount < modulus_of ms (own_meter kind meter)
  unfolding amount_bad
  amount-low = leb-false (modulus_of ms (own_meter kind meter)) amount (or_left (leb (modulus_of ms (own_meter kind meter)) amount) (moves_credit kind && credit_bad ms kind stored amount) e)

  pub credit-fine : moves_credit kind ≡ true → credit_bad ms kind stored amount ≡ false
  unfolding amount_bad
  credit-fine t = rw t at (or_right (leb (modulus_of ms (own_meter kind meter)) amount) (moves_credit kind && credit_bad ms kind stored amount) e)

  -- the new number of the first line is a small one
  pub first-number-low : moduli_ok ms ≡ true → event_known kind meter ≡ true → first_number ms kind meter stored amount < 1000000000000
  first-number-low ok known =
      case_on (moves_credit kind)
      (λ t. rw t (omega (arith, credit-low ms kind stored amount (credit-fine t), (modulus-range ms ok 0 (omega arith)).1)))
      (λ t.
      let l : meter < 24 = omega (arith, (of-count kind meter known t).most) in
      rw t (omega (arith, rolled-low ms ok meter stored amount l, (modulus-range ms ok meter l).1)))

-- ---- what the code finds: r is the modulus of credit, x whether the event adds

same-leb : (a b c d : ℕ) → (a ≤ b → c ≤ d) → (c ≤ d → a ≤ b) → leb a b ≡ leb c d
same-leb a b c d f g =
    case_on (leb a b)
    (λ t. t ∙ sym (le-leb c d (f (leb-true a b t))))
    (λ t. t ∙ sym (lt-leb c d (let n = leb-false a b t in not-under c d (λ h. let k = g h in omega arith))))
  where
    not-under : (c d : ℕ) → (c ≤ d → ⊥) → d < c
    not-under c d n = case_on (leb c d) (λ t. absurd (n (leb-true c d t))) (λ t. leb-false c d t)

module _ (ms : List ℕ) (kind credit amount r : ℕ) (x : Bool) (q : r ≡ modulus_of ms 0) (e : x ≡ adds kind) where
  pub adds-high : x ≡ true → r ≤ credit → true ≡ credit_bad ms kind credit amount
  unfolding credit_bad
  adds-high t l = sym (rw (sym e ∙ t) (le-leb (modulus_of ms 0) (credit + amount) (omega arith)))

  pub adds-rest : x ≡ true → credit < r → leb (r - credit) amount ≡ credit_bad ms kind credit amount
  unfolding credit_bad
  adds-rest t l = rw (sym e ∙ t) (same-leb (r - credit) amount (modulus_of ms 0) (credit + amount) (λ h. omega arith) (λ h. omega arith))

  pub takes-under : x ≡ false → credit < amount → true ≡ credit_bad ms kind credit amount
  unfolding credit_bad
  takes-under t l = rw (sym e ∙ t, lt-ltb credit amount l)

  pub takes-rest : x ≡ false → amount ≤ credit → leb r (credit - amount) ≡ credit_bad ms kind credit amount
  unfolding credit_bad
  takes-rest t l = rw (sym e ∙ t, le-ltb credit amount l, q)
