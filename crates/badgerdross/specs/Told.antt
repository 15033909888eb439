-- What is told to C in numbers that lie side by side: the next store, and a refusal.
use Rattle.std.specs.Prelude.{ℕ, List, [], ◌∷◌, ◌≡◌, get_or, Option, Some, None}
use Rattle.bounded.specs.Below.{one}
use Rattle.state.specs.State.{State}
use Rattle.reasons.specs.declared.Reason.{Reason}
use Rattle.refusals.specs.Met.{reason_met}
use Rattle.op_stores.specs.Beside.{Beside}
use Rattle.call_step.specs.NextStore.{next_store_of, left_of}

-- the next store's word, how many stores go to that word and to those behind it, whether it decides, how many come before the next one that does, and
-- how many are left in all
pub record Tells (st : State) (img : List ℕ) (told : List ℕ) : Type 0 where
  pub word : get_or told 0 0 ≡ (next_store_of st img).at
  pub beside : Beside st (get_or told 1 0)
  pub decides : get_or told 2 0 ≡ one (next_store_of st img).decides
  pub before : get_or told 3 0 ≡ (next_store_of st img).before
  pub left : get_or told 4 0 ≡ left_of st img

-- a refusal: the call, its number, the writer, the page and the line that it was given, of an event the kind and the meter. The last number, the writer in
-- its way, is found in the state
abbrev pub reason_by : State → List ℕ → Reason
reason_by st g = reason_met st (get_or g 0 0) (get_or g 1 0) (get_or g 2 0) (get_or g 3 0) (get_or g 4 0) (get_or g 5 0) (get_or g 6 0)

-- and as it is read back: 0 and its numbers, or 11 and those that were lent
abbrev pub read_number : Option Reason → ℕ
read_number (Some r) = 0
read_number None = 11

abbrev pub read_refusal : Option Reason → List ℕ → List ℕ
read_refusal (Some r) lent = r.call ∷ r.number ∷ r.writer ∷ r.page ∷ r.line ∷ 0 ∷ 0 ∷ r.holder ∷ []
read_refusal None lent = lent
