-- An operation that keeps no lines and that no row turns back: what its count leans on, and that it may be started where it needs stores.
use Prim.Native.Nat.{ℕ, ◌<◌, ◌≤◌}
use mathlib.Core.List.{List}
use mathlib.Core.Path.{◌≡◌, refl, ◌∙◌}
use native.Mathlib.Omega.{arith}
use lib.ListN.{length, replicate}
use Rattle.bounded.specs.Rows.{refusal}
use Rattle.layout.specs.declared.Sizes.{Sizes}
use Rattle.layout.specs.Layout.{Legal, image_length}
use Rattle.state.specs.State.{State}
use Rattle.state.specs.declared.Places.{Places}
use Rattle.state.specs.declared.Pending.{Pending}
use Rattle.state.specs.declared.Op.{Op}
use Rattle.state.specs.declared.Op.TheVariants.{Commit, Confirm}
use Rattle.operations.specs.Operations.{Asked, op_rows, needs}
use Rattle.operations.proofs.Taken.{op-asked, commit-taken, confirm-taken}
use Rattle.refinement.proofs.Going.{ranges-of, entries-of}
use Rattle.op_rows.specs.Seen.{seen}
use Rattle.op_stores.specs.Asks.{Asks, Allowed}

module _ (st : State) {op : Op} (r : refusal (op_rows st op) ≡ 0) where
  pub now-commit : {w : ℕ} → op ≡ Commit w → w < 4
  now-commit {w} q = (commit-taken st w (rw q at r)).writer-low

  pub now-confirm : {w : ℕ} → op ≡ Confirm w → w < 4
  now-confirm {w} q = (confirm-taken st w (rw q at r)).writer-low

-- z and at are the sizes and places as they were read
module _ (z : Sizes) (at : Places) (st : State) (op : Op) (h : Allowed z at st op) where
  pub allowed-leans : Legal z × (at.count ≤ 64) × Asked z st.table.page op
  allowed-leans =
      let r = (ranges-of st h.ok).legal in
      rw (h.sizes, h.places) (r, omega (arith, (entries-of st h.ok).few, r.entries-high), op-asked st op h.rows)

  pub allowed-needs : (n : ℕ) → n ≡ needs (seen z at st) op → n ≡ needs st op
  allowed-needs n e = e ∙ rw (h.sizes, h.places)

  abbrev pub without_lines : Pending
  without_lines = record { op = op; made = 0; line = replicate 8 0; second = replicate 8 0 }

  pub allowed-asks : (img : List ℕ) → image_length z ≤ length img → (n : ℕ) → n ≡ needs st op → (n ≡ 0 → ⊥) → Asks z at st img without_lines
  allowed-asks img long n e some =
      record { sizes = h.sizes; places = h.places; ok = h.ok; long = long; idle = h.idle; busy = h.busy; none_made = refl; rows = h.rows; fits = h.fits; some = omega (arith, e, some) }
