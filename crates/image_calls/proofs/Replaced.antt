-- The turn of a mount or a format, by what comes of the call on the words: a refused one makes no store, so what is printed of it is the same either way.
use Prim.Native.Nat.{ℕ}
use mathlib.Core.Bool.{Bool, true, false}
use mathlib.Core.List.{List}
use mathlib.Core.Path.{◌≡◌, ◌∙◌}
use lib.Dec.{eqb}
use Rattle.std.proofs.Common.{Some}
use Rattle.bounded.proofs.Tests.{case_on, contradicts}
use Rattle.layout.specs.declared.Sizes.{Sizes}
use Rattle.fresh.specs.Fresh.{format_row}
use Rattle.mount.specs.Mount.{mount_of}
use Rattle.state.specs.State.{State}
use Rattle.refinement.specs.Outcome.{Outcome}
use Rattle.refinement.specs.Mount.{mount_call, format_of}
use Rattle.answers.specs.Answers.{Answer}
use Rattle.answers.specs.Answers.{answered_at}
use Rattle.op_stores.specs.declared.Until.TheVariants.{Asked}
use Rattle.call_mount.specs.Replacing as call
use Rattle.call_mount.specs.Replacing.{FormatStarted}
use Rattle.call_turns.proofs.Turned.{has-asked}
use Rattle.workbench.specs.declared.Said.{Said}
use Rattle.workbench.specs.Turns.{answer_said, called, shown, formed, replacing}
use Rattle.workbench.proofs.Formed.{has-called}

-- of a call that makes no store where it is refused
same : (st : State) (o : Outcome) → (eqb o.number 0 ≡ false → o.stores ≡ 0) → called (call.replacing st o) ≡ replacing st o
same st o z = case_on (eqb o.number 0) (λ t. rw t) (λ t. rw (t, z t))

module _ (img : List ℕ) where
  mount-refused : eqb (mount_call img).number 0 ≡ false → (mount_call img).stores ≡ 0
  unfolding mount_call
  mount-refused f = case_on (eqb (mount_of img).row 0) (λ t. rw t) (λ t. rw t)

  format-refused : (z : Sizes) → eqb (format_of z img).number 0 ≡ false → (format_of z img).stores ≡ 0
  unfolding format_of
  format-refused z f = case_on (eqb (format_row z img) 0) (λ t. contradicts t f) (λ t. rw t)

module _ (r : Said) (ok : Bool) (st after : State) (a : Answer) (e : ok ≡ true) (h : r ≡ answer_said a) where
  pub has-mounted : (img : List ℕ) → answered_at a after ≡ call.replacing st (mount_call img) → shown after (Some r) ≡ formed ok st (replacing st (mount_call img))
  has-mounted img k = has-called r ok st after a (call.replacing st (mount_call img)) e k h ∙ rw e (same st (mount_call img) (mount-refused img))

  pub has-formatted : (z : Sizes) (img bytes : List ℕ) → FormatStarted a after bytes z st img Asked
      → (shown after (Some r) ≡ formed ok st (replacing st (format_of z img))) × (bytes ≡ img)
  has-formatted z img bytes s =
      let t = has-asked r ok st after a e h bytes (call.replacing st (format_of z img)) img s in
      (t.0 ∙ rw e (same st (format_of z img) (format-refused img z)), t.1)
