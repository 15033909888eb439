-- What a call comes to: a row's number with nothing changed, or taken.
use Prim.Native.Nat.{ℕ}
use mathlib.Core.Bool.{Bool, true, ◌&&◌}
use mathlib.Core.List.{List, [], ◌∷◌}
use mathlib.Core.Path.{◌≡◌, refl, sym}
use lib.Dec.{eqb}
use borrow.Author.Tests.{ne_eqb}
use Rattle.std.specs.Prelude.{Ok, Err}
use Rattle.bounded.specs.Rows.{Row, refusal}
use Rattle.bounded.proofs.Tests.{and_left, and_right, row_keeps}
use Rattle.rows.specs.declared.Refusal.{Refusal}
use Rattle.rows.specs.Numbers.{number}
use Rattle.rows.proofs.Numbers.{number-some}
use Rattle.state.specs.State.{State}
use Rattle.refinement.specs.Outcome.{answered}
use Rattle.answers.specs.Answers.{is_answer, answered_at}

-- each row's number is one of the answers'
abbrev pub known : List Row → Bool
known [] = true
known (r ∷ rs) = is_answer r.1 && known rs

pub row-known : (rs : List Row) → known rs ≡ true → is_answer (refusal rs) ≡ true
row-known [] k = refl
row-known (r ∷ rs) k =
    row_keeps (λ (x : ℕ). is_answer x ≡ true) r.0 r.1 (refusal rs) (and_left (is_answer r.1) (known rs) k) (row-known rs (and_right (is_answer r.1) (known rs) k))

-- a call turned back by a row of its table, or taken with the state that the code leaves
module _ (rs : List Row) (st after : State) (stores : ℕ) where
  pub row-refused : (r : Refusal) → number r ≡ refusal rs → answered_at (Err r) st ≡ answered (refusal rs) st stores after
  row-refused r e = rw (sym e) (rw (ne_eqb (number r) 0 (number-some r)) refl)

  pub row-taken : (left : State) → 0 ≡ refusal rs → left ≡ after → answered_at (Ok stores) left ≡ answered (refusal rs) st stores after
  row-taken left e a = rw (sym e) (rw a refl)
