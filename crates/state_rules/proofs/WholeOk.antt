-- Row 8 is the rules that say nothing of what is pending, and those of what is.
use Prim.Native.Nat.{◌≤◌}
use mathlib.Core.Bool.{true, ◌&&◌}
use mathlib.Core.Path.{◌≡◌, ap₂, ◌∙◌}
use Rattle.layout.specs.declared.Sizes.{Sizes}
use Rattle.state.specs.State.{State}
use Rattle.state.specs.declared.Places.{Places}
use Rattle.validity.specs.Validity.{pending_ok, state_ok}
use Rattle.validity.proofs.Quiet.{state-quiet, quiet-ranged}
use Rattle.state_words.specs.Decoded.{places_of}
use Rattle.op_rows.specs.Seen.{Low, seen}
use Rattle.state_rules.specs.Quiet.{quiet_in}

module _ (st : State) (z : Sizes) (at : Places) where
  pub quiet-low : quiet_in z at st ≡ true → Low z at × (at.count ≤ 64)
  quiet-low e =
      let r = quiet-ranged (seen z at st) e in
      ((r.0.legal, r.0.head-low, r.0.tail-low, r.0.live-high, r.0.next_low), r.1)

  pub quiet-whole : z ≡ st.sizes → at ≡ places_of st → quiet_in z at st && pending_ok (seen z at st) ≡ state_ok st
  quiet-whole e f = state-quiet (seen z at st) ∙ ap₂ (λ (y : Sizes) (p : Places). state_ok (seen y p st)) e f
