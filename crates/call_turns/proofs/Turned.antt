-- The turn of a call that has its letter's form, asked for or in place, by what comes of the call on the words.
use mathlib.Core.Bool.{Bool, true, false}
use mathlib.Core.List.{List}
use Prim.Native.Nat.{ℕ}
use mathlib.Core.Path.{◌≡◌, refl}
use Rattle.std.proofs.Common.{Some}
use Rattle.state.specs.State.{State}
use Rattle.refinement.specs.Outcome.{Outcome}
use Rattle.answers.specs.Answers.{Answer}
use Rattle.op_stores.specs.declared.Until.{Until}
use Rattle.op_stores.specs.declared.Until.TheVariants.{Asked}
use Rattle.op_stores.specs.Started.{Started}
use Rattle.calling.proofs.Asked.{asked-told}
use Rattle.workbench.specs.declared.Said.{Said}
use Rattle.workbench.specs.Turns.{answer_said, called, shown, formed}
use Rattle.workbench.proofs.Formed.{has-called}
use Rattle.call_turns.specs.InPlace.{until_by, call_by, bytes_by}

module _ (r : Said) (ok : Bool) (st after : State) (a : Answer) (e : ok ≡ true) (h : r ≡ answer_said a) (bytes : List ℕ) (o : Outcome) (img : List ℕ) where
  -- asked for, it changes no byte
  pub has-asked : Started a after bytes o img Asked → (shown after (Some r) ≡ formed ok st (called o)) × (bytes ≡ img)
  has-asked s = let t = asked-told a after bytes o img s in (has-called r ok st after a o e t.0 h, t.1)

  by-until : (whole : Bool) → Started a after bytes o img (until_by whole) → (shown after (Some r) ≡ call_by ok whole st o img) × (bytes ≡ bytes_by ok whole o img)
  by-until true s = (has-called r ok st after a _ e s.0 h, rw e s.1)
  by-until false s = let t = has-asked s in (t.0, rw e t.1)

  pub has-started : (whole : Bool) (u : Until) → u ≡ until_by whole → Started a after bytes o img u
      → (shown after (Some r) ≡ call_by ok whole st o img) × (bytes ≡ bytes_by ok whole o img)
  has-started whole u k s = by-until whole (rw k at s)

-- and asked for or of another form, a call changes no byte
pub asked-bytes : (ok : Bool) (o : Outcome) (img : List ℕ) → bytes_by ok false o img ≡ img
asked-bytes true o img = refl
asked-bytes false o img = refl
