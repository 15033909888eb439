-- What comes of a mount or a format: the row that turns it back with the words as they were, or the state that it finds or makes.
use Prim.Native.Nat.{ℕ, ◌≤◌}
use mathlib.Core.Bool.{true}
use mathlib.Core.List.{List}
use mathlib.Core.Path.{◌≡◌, refl, sym, ap, ◌∙◌}
use borrow.Author.Tests.{ne_eqb}
use Rattle.std.specs.Prelude.{Ok, Err}
use Rattle.mount.specs.declared.Judged.{Judged}
use Rattle.mount.specs.Mount.{Mounted, mount_of, judged}
use Rattle.state.specs.State.{State}
use Rattle.state.specs.Wide.{wide_of}
use Rattle.operations.specs.Operations.{is_idle}
use Rattle.validity.specs.Validity.{state_ok}
use Rattle.refinement.specs.Outcome.{answered}
use Rattle.refinement.specs.Mount.{quiet_state, copying, no_state, mounted_state}
use Rattle.refinement.proofs.CallMounted.{mounted-valid}
use Rattle.rows.specs.declared.Refusal.{Refusal}
use Rattle.rows.specs.Numbers.{number}
use Rattle.rows.proofs.Numbers.{number-some}
use Rattle.answers.specs.Answers.{answered_at}
use Rattle.call_mount.proofs.Found.{mounted-copying}
use Rattle.state_words.specs.Decoded.{with_wide}
use Rattle.state_pending.specs.Put.{with_pending}
use Rattle.call_mount.specs.Replacing.{replacing}

module _ (st after : State) (row : ℕ) where
  pub replace-refused : (r : Refusal) → number r ≡ row → answered_at (Err r) st ≡ replacing st (answered row no_state 0 after)
  replace-refused r e = rw (sym e) (rw (ne_eqb (number r) 0 (number-some r)) refl)

  pub replace-taken : (left : State) → row ≡ 0 → left ≡ after → answered_at (Ok 0) left ≡ replacing st (answered row no_state 0 after)
  replace-taken left z e = rw (z, e)

-- the copying of the entries that an image counts may be put pending on the quiet state; j is what the code found, st what the words are then
module _ (img : List ℕ) (j : Judged) (st : State) (e : j ≡ judged (mount_of img)) (n : j.count ≡ 0 → ⊥) where
  abbrev m : Mounted
  m = mount_of img

  abbrev with : State → State
  with u = with_pending (with_wide u (wide_of 4 j.count j.keys)) copying

  module _ (q : st ≡ quiet_state m.sizes m.head m.tail m.table m.map) where
    copies : with st ≡ mounted_state m
    copies =
        let some : m.count ≡ 0 → ⊥ = λ z. n (ap (λ (x : Judged). x.count) e ∙ z) in
        ap with q ∙ rw e (mounted-copying m some)

    pub copying-may : m.row ≡ 0 → (is_idle st.pending.op ≡ true) × (state_ok (with st) ≡ true)
    copying-may z = (ap (λ (u : State). is_idle u.pending.op) q, ap state_ok copies ∙ mounted-valid img z)

    pub copying-left : (after : State) → after ≡ with st → after ≡ mounted_state m
    copying-left after h = h ∙ copies
