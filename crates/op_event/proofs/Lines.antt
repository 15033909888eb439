-- The lines of an event held in the words are those that the definition writes.
use Prim.Native.Nat.{ℕ, ◌<◌}
use mathlib.Core.Bool.{true, false}
use mathlib.Core.Path.{◌≡◌, refl, ap, ◌∙◌}
use native.Mathlib.Nat.{mod-lt}
use Rattle.bounded.proofs.Tests.{case_on, row_keeps}
use Rattle.layout.specs.declared.Sizes.{Sizes}
use Rattle.layout.specs.Layout.{Legal}
use Rattle.meters.specs.Meters.{moves_credit, first_meter, own_meter}
use Rattle.state.specs.State.{State}
use Rattle.operations.specs.Operations.{slotted}
use Rattle.refinement.specs.Write.{write_slot}
use Rattle.refinement.specs.Commit.{commit_done}
use Rattle.refinement.specs.Event.{line_done, lines_done, event_done}
use Rattle.state_words.specs.Decoded.{with_nothing}
use Rattle.op_write.specs.LineHeld.{line_held}
use Rattle.op_event.specs.LinesHeld.{begun, lines_held}

-- the next slot to try is one of the slots
pub next-held : (st s : State) (z : Sizes) (l : ℕ) → z ≡ st.sizes → Legal z → st.next < z.slots → s ≡ line_held st 1 0 l → s.next < z.slots
next-held st s z l ez g h e =
    let n : 0 < st.sizes.slots = rw ez at g.slots-low in
    let m : st.next < st.sizes.slots = rw ez at h in
    rw (ez, e) (row_keeps (λ (x : ℕ). x < st.sizes.slots) (slotted st 0) st.next _ m (mod-lt _ n))

-- what the code held: s₁ is the state with the first line held, s₂ with the second
pub one_line : (st s₁ : State) (k m l : ℕ) → moves_credit k ≡ false → l ≡ first_meter k m → s₁ ≡ line_held (begun st) 1 0 l → s₁ ≡ lines_held st k m
one_line st s₁ k m l t e q = q ∙ rw (e, t)

pub two-lines : (st s₁ s₂ : State) (k m l o : ℕ) → moves_credit k ≡ true → l ≡ first_meter k m → o ≡ own_meter k m → s₁ ≡ line_held (begun st) 1 0 l → s₂ ≡ line_held s₁ 1 0 o
    → s₂ ≡ lines_held st k m
two-lines st s₁ s₂ k m l o t e g q r = r ∙ ap (λ (u : State). line_held u 1 0 o) q ∙ rw (e, g, t)

pub lines_are : (st : State) (k m : ℕ) → with_nothing (lines_held st k m) ≡ lines_done st k m
unfolding line_done write_slot
lines_are st k m = case_on (moves_credit k) (λ t. rw t) (λ t. rw t)

-- a commit does not read what is pending
pub event-done : (st s e : State) (k m : ℕ) → s ≡ lines_held st k m → e ≡ commit_done s 1 → e ≡ event_done st k m
unfolding event_done
event-done st s e k m q r =
    r ∙ ap (λ (u : State). commit_done (with_nothing u) 1) q ∙ ap (λ (u : State). commit_done u 1) (lines_are st k m)

-- sizes and head are as before
pub lines_same : (st s : State) (k m : ℕ) → s ≡ lines_held st k m → (s.sizes ≡ st.sizes) × (s.head ≡ st.head)
lines_same st s k m e = case_on (moves_credit k) (λ t. rw (e, t) (refl, refl)) (λ t. rw (e, t) (refl, refl))

-- the state with the lines held, once it has nothing pending
pub lines-held : (st s : State) (k m : ℕ) → s ≡ lines_held st k m → with_nothing s ≡ lines_done st k m
lines-held st s k m e = ap with_nothing e ∙ lines_are st k m
