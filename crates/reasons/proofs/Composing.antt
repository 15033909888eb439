-- What composing does, by its rows.
use mathlib.Core.Path.{◌≡◌, refl, ap}
use mathlib.Core.Bool.{true, false}
use mathlib.Core.List.{List}
use Prim.Native.Nat.{ℕ, ◌<◌, ◌≤◌}
use native.Mathlib.Omega.{arith}
use lib.ListN.{length}
use borrow.Author.Tests.{lt-ltb, le-ltb, ltb-true, ltb-false}
use lib.Dec.{ltb}
use Rattle.bounded.proofs.Tests.{case_on}
use Rattle.std.specs.Prelude.{Result, Ok, Err}
use Rattle.rows.specs.declared.Refusal.{Refusal}
use Rattle.rows.specs.declared.Refusal.TheVariants.{BadArgument}
use Rattle.words.specs.Words.{over}
use Rattle.number_text.specs.Text.{Put}
use Rattle.wording.specs.Calls.{can_return}
use Rattle.reasons.specs.declared.Reason.{Reason}
use Rattle.reasons.specs.Sentence.{sentence, compose_row, composed, composed_in}

-- what is known of a sentence of n bytes that was composed
pub record Told (r : Reason) (target : List ℕ) (n : ℕ) : Type 0 where
  pub long : 200 ≤ length target
  pub can : can_return r.call r.number ≡ true
  pub row : compose_row r (length target) ≡ 0
  pub count : n ≡ length (sentence r)

module _ (r : Reason) (target : List ℕ) where
  row-short : length target < 200 → compose_row r (length target) ≡ 11
  unfolding compose_row
  row-short h = rw (lt-ltb (length target) 200 h)

  pub row-cannot : 200 ≤ length target → can_return r.call r.number ≡ false → compose_row r (length target) ≡ 11
  unfolding compose_row
  row-cannot h e = rw (le-ltb (length target) 200 h, e)

  pub row-taken : 200 ≤ length target → can_return r.call r.number ≡ true → compose_row r (length target) ≡ 0
  unfolding compose_row
  row-taken h e = rw (le-ltb (length target) 200 h, e)

  refused : compose_row r (length target) ≡ 11 → (Err BadArgument ≡ composed r (length target)) × (target ≡ composed_in r target)
  unfolding composed composed_in
  refused e = (rw e refl, rw e refl)

  pub too_short : length target < 200 → (Err BadArgument ≡ composed r (length target)) × (target ≡ composed_in r target)
  too_short h = refused (row-short h)

  pub cannot : 200 ≤ length target → can_return r.call r.number ≡ false
      → (Err BadArgument ≡ composed r (length target)) × (target ≡ composed_in r target)
  cannot h e = refused (row-cannot h e)

  pub taken : {after : List ℕ} {end : ℕ} → 200 ≤ length target → can_return r.call r.number ≡ true → Put target 0 (sentence r) after end
      → (Ok end ≡ composed r (length target)) × (after ≡ composed_in r target)
  unfolding composed composed_in
  taken {after} {end} h e p =
      let row = row-taken h e in
      let n : end ≡ length (sentence r) = omega (arith, p.place) in
      (rw row (ap (λ (k : ℕ). Ok k) n), rw row p.laid)

  -- the same, said of what is composed
  pub composed-taken : 200 ≤ length target → can_return r.call r.number ≡ true
      → (composed r (length target) ≡ Ok (length (sentence r))) × (composed_in r target ≡ over target 0 (sentence r))
  unfolding composed composed_in
  composed-taken h e = let row = row-taken h e in (rw row refl, rw row refl)

  -- and what a composed sentence or a refusal tells
  pub composed-by : {n : ℕ} → composed r (length target) ≡ Ok n → Told r target n
  unfolding composed
  composed-by {n} e =
      case_on (ltb (length target) 200)
      (λ t. absurd (not-ok (rw (row-short (ltb-true (length target) 200 t)) at e)))
      (λ t.
      let long : 200 ≤ length target = ltb-false (length target) 200 t in
      case_on (can_return r.call r.number)
      (λ q.
      let row = row-taken long q in
      let k : ◌≡◌ {A = Result ℕ Refusal} (Ok (length (sentence r))) (Ok n) = rw row at e in
      record { long = long; can = q; row = row; count = cc })
      (λ q. absurd (not-ok (rw (row-cannot long q) at e))))
    where
      not-ok : {k : ℕ} → ◌≡◌ {A = Result ℕ Refusal} (Err BadArgument) (Ok k) → ⊥
      not-ok q = let z : ◌≡◌ {A = ℕ} 0 1 = cc in omega arith

  pub refused-by : {d : Refusal} → composed r (length target) ≡ Err d → (compose_row r (length target) ≡ 11) × (d ≡ BadArgument)
  unfolding composed
  refused-by {d} e =
      case_on (ltb (length target) 200)
      (λ t. told (row-short (ltb-true (length target) 200 t)))
      (λ t.
      let long : 200 ≤ length target = ltb-false (length target) 200 t in
      case_on (can_return r.call r.number)
      (λ q. absurd (not-err (rw (row-taken long q) at e)))
      (λ q. told (row-cannot long q)))
    where
      not-err : {k : ℕ} → ◌≡◌ {A = Result ℕ Refusal} (Ok k) (Err d) → ⊥
      not-err q = let z : ◌≡◌ {A = ℕ} 0 1 = cc in omega arith

      told : compose_row r (length target) ≡ 11 → (compose_row r (length target) ≡ 11) × (d ≡ BadArgument)
      told row = let k : ◌≡◌ {A = Result ℕ Refusal} (Err BadArgument) (Err d) = rw row at e in (row, cc)
