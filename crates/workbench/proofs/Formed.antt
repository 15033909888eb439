-- The turn of a line that has its letter's form, and of one that has not.
use mathlib.Core.Bool.{Bool, true, false}
use mathlib.Core.Path.{◌≡◌, refl, sym, ap, ap₂, ◌∙◌}
use Rattle.std.proofs.Common.{ℕ, ◌<◌, List, [], get_or-take, Option, Some, None, take, get_or}
use lib.Dec.{eqb}
use Rattle.bounded.proofs.Tests.{case_on, contradicts}
use Rattle.text.specs.declared.Line.{Line}
use Rattle.state.specs.State.{State}
use Rattle.refinement.specs.Outcome.{Outcome}
use Rattle.answers.specs.Answers.{Answer}
use Rattle.answers.specs.Answers.{answered_at}
use Rattle.workbench.specs.declared.Said.{Said}
use Rattle.workbench.specs.Turns.{Turn, arg, numbers_of, done, edited, shown, formed, called, answer_said}

pub has-form : (r : Turn) (ok : Bool) (st : State) (t : Turn) → ok ≡ true → r ≡ t → r ≡ formed ok st t
has-form r ok st t e h = rw e h

pub has-not : (r : Option Said) (ok : Bool) (st : State) (t : Turn) → ok ≡ false → r ≡ None → shown st r ≡ formed ok st t
has-not r ok st t e h = rw e (ap (shown st) h)

-- the turn of an edit, by the state that it leaves
pub has-edited : (r : Said) (ok : Bool) (st after next : State) → ok ≡ true → after ≡ next → r ≡ done → shown after (Some r) ≡ formed ok st (edited next)
has-edited r ok st after next e k h = has-form (shown after (Some r)) ok st (edited next) e (ap₂ shown k (ap Some h))

-- the turn of a call, by its answer and the state that it leaves
pub has-called : (r : Said) (ok : Bool) (st after : State) (a : Answer) (o : Outcome) → ok ≡ true → answered_at a after ≡ o → r ≡ answer_said a
    → shown after (Some r) ≡ formed ok st (called o)
has-called r ok st after a o e k h = has-form (shown after (Some r)) ok st (called o) e (ap (λ (s : Said). shown after (Some s)) h ∙ ap called k)

-- the numbers of a line that has n
value : {A : Type 0} → A → Option A → A
value d None = d
value d (Some a) = a

is_some : {A : Type 0} → Option A → Bool
is_some None = false
is_some (Some a) = true

pub has-numbers : (n : ℕ) (line : Line) (xs : List ℕ) → Some xs ≡ numbers_of n line → (eqb line.count n ≡ true) × (xs ≡ take n line.numbers)
unfolding value is_some
has-numbers n line xs h =
    case_on (eqb line.count n)
    (λ t. (t, ap (value []) (rw t at h)))
    (λ f. contradicts (sym (ap is_some (rw f at h))) refl)

-- number i of them
pub nth-number : (n : ℕ) (line : Line) (xs : List ℕ) (i : ℕ) → i < n → xs ≡ take n line.numbers → get_or xs i 0 ≡ arg line i
nth-number n line xs i h e = rw e (get_or-take _ _ _ _ h)
