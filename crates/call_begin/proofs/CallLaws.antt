-- The states that the calls leave.
use Prim.Native.Nat.{ℕ, ◌<◌}
use mathlib.Core.Bool.{true, false, cond}
use mathlib.Core.List.{List}
use mathlib.Core.Path.{◌≡◌, refl, sym, ap, ◌∙◌}
use native.Mathlib.Omega.{arith}
use borrow.Author.Tests.{eq-eqb, ne_eqb, ltb-false}
use lib.Dec.{eqb}
use lib.ListN.{set}
use Rattle.bounded.specs.Rows.{refusal, Past}
use Rattle.bounded.proofs.Rows.{none-apply}
use Rattle.layout.specs.declared.Sizes.{Sizes}
use Rattle.state.specs.State.{State}
use Rattle.state.specs.Held.{let_go}
use Rattle.state.specs.Wide.{wide_of, no_wide}
use Rattle.refinement.specs.Commit.{closed_writer}
use Rattle.refinement.specs.Settled.{with_writers, with_wide}
use Rattle.refinement.proofs.Begun.{beginning_wide, aborting}
use Rattle.rows.specs.declared.Refusal.{Refusal}
use Rattle.rows.specs.Numbers.{number}
use Rattle.rows.proofs.Numbers.{number-some}
use Rattle.state_words.specs.Decoded.{with_opened, with_held}
use Rattle.call_begin.specs.First.{first_rows}

-- a wide begin's three changes one after the other
pub wide-begun : (st s1 s2 s3 : State) (w : ℕ) → s1 ≡ with_writers st (with_opened st.writers (set st.writers.opened w true)) → s2 ≡ with_wide s1 no_wide
    → s3 ≡ with_wide s2 (wide_of w 0 s2.wide.keys) → s3 ≡ beginning_wide st w
wide-begun st s1 s2 s3 w e1 e2 e3 = e3 ∙ ap (λ (u : State). with_wide u (wide_of w 0 u.wide.keys)) (e2 ∙ ap (λ (u : State). with_wide u no_wide) e1)

-- an abort's: of any writer, then of a narrow one and of the wide one; z is what the code read
module _ (st s1 s2 : State) (z : Sizes) (w : ℕ) (ez : z ≡ st.sizes)
    (e1 : s1 ≡ with_writers st (with_opened st.writers (set st.writers.opened w false)))
    (e2 : s2 ≡ with_writers s1 (with_held s1.writers (let_go z s1.writers.held w))) where
  closed : s2 ≡ with_writers st (closed_writer st.sizes st.writers w)
  unfolding closed_writer
  closed = e2 ∙ ap (λ (u : State). with_writers u (with_held u.writers (let_go z u.writers.held w))) e1 ∙ rw ez

  pub narrow-aborted : (st.wide.writer ≡ w → ⊥) → s2 ≡ aborting st w
  narrow-aborted n = rw (ne_eqb st.wide.writer w n) closed

  pub wide-aborted : (s3 : State) → st.wide.writer ≡ w → s3 ≡ with_wide s2 no_wide → s3 ≡ aborting st w
  wide-aborted s3 e e3 = rw (eq-eqb st.wide.writer w e) (e3 ∙ ap (λ (u : State). with_wide u no_wide) closed)
