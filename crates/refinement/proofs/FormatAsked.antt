-- A format that is asked for: row 8 accepts the fresh state with it pending, and a run makes its stores.
use Prim.Native.Nat.{ℕ, ◌+◌, ◌-◌, ◌<◌, ◌≤◌, min}
use mathlib.Core.Bool.{true, false, not, ◌&&◌}
use mathlib.Core.List.{List}
use mathlib.Core.Path.{◌≡◌, refl, sym, ap, ap₂, ◌∙◌, subst}
use native.Mathlib.Omega.{arith}
use native.Mathlib.Nat.{zero-add}
use lib.Dec.{eqb, ltb}
use lib.ListN.{length, get_or, replicate}
use borrow.Author.Tests.{eq-eqb, le-ltb}
use Rattle.bounded.specs.Below.{all_below, some_below, up_to}
use Rattle.bounded.proofs.Below.{all_made, up-ext}
use Rattle.bounded.proofs.Rows.{row-none}
use Rattle.bounded.proofs.Tests.{case_on}
use Rattle.layout.specs.declared.Sizes.{Sizes}
use Rattle.layout.specs.Layout.{Legal, sizes_ok, image_words, image_length}
use Rattle.layout.proofs.LayoutLaws.{legal}
use Rattle.words.specs.Words.{store}
use Rattle.journal.specs.declared.Slot.{Slot}
use Rattle.journal.specs.Slots.{no_page, free_slot}
use Rattle.replay.specs.Table.{no_position, empty_table, last_in}
use Rattle.replay.proofs.Tables.{Sixteen, sixteen-empty, sixteen-laid, laid-last, empty-last}
use Rattle.fresh.specs.Fresh.{fresh_table, format_at, format_value, format_stores, format_row, format_rows, fresh_map}
use Rattle.fresh.proofs.FreshMounts.{fresh-slot}
use Rattle.state.specs.State.{State}
use Rattle.state.specs.declared.Op.TheVariants.{Format}
use Rattle.state.specs.Wide.{some_open}
use Rattle.operations.specs.Operations.{is_idle, needs}
use Rattle.validity.specs.Validity.{fresh_at, fresh_of, is_fresh, state_ok}
use Rattle.refinement.specs.Settled.{with_pending}
use Rattle.refinement.specs.Stores.{World, store_made, stores_made, state_after, stepped_by, left}
use Rattle.refinement.specs.Calls.{world_of, step_row, step_rows, run_of, run_bytes}
use Rattle.refinement.specs.Mount.{fresh_state, format_of}
use Rattle.refinement.specs.Run.{run, exec}
use Rattle.refinement.specs.CutFormat.{asked_format, format_cut}
use Rattle.refinement.proofs.CallMounted.{fresh-valid}
use Rattle.refinement.proofs.CallAsked.{pending-valid}
use Rattle.refinement.proofs.CheckpointPlaces.{default_none}
use Rattle.refinement.proofs.Steps.{run-image, run-after}
use Rattle.replay.proofs.Maps.{map_at}

-- the fresh state with a format pending
abbrev pub formatting : Sizes → State
formatting z = with_pending (fresh_state z) Format (replicate 8 0)

module _ (z : Sizes) (g : Legal z) where
  fresh-sixteen : Sixteen (fresh_table z)
  unfolding fresh_table
  fresh-sixteen = sixteen-laid z.slots (λ s. free_slot (z.pages + s)) empty_table sixteen-empty

  fresh-last : (s : ℕ) → last_in (fresh_table z) s ≡ no_position
  unfolding fresh_table
  fresh-last s = laid-last z.slots (λ s. free_slot (z.pages + s)) empty_table s ∙ empty-last s

  slot-fresh : (s : ℕ) → s < z.slots → fresh_at z (fresh_table z) s ≡ true
  slot-fresh s l =
      let e = fresh-slot z s g l in
      let page : get_or (fresh_table z).page s 0 ≡ no_page = ap (λ (v : Slot). v.page) e in
      let spare : get_or (fresh_table z).spare s 0 ≡ z.pages + s = ap (λ (v : Slot). v.spare) e in
      let last : get_or (fresh_table z).last s 0 ≡ no_position =
      default_none (fresh_table z).last s 0 no_position (omega (arith, fresh-sixteen.last, g.slots-high)) ∙ fresh-last s in
      rw (eq-eqb (get_or (fresh_table z).page s 0) no_page page, eq-eqb (get_or (fresh_table z).spare s 0) (z.pages + s) spare) (eq-eqb (get_or (fresh_table z).last s 0) no_position last)

  pub fresh-is : is_fresh (fresh_state z) ≡ true
  unfolding fresh_of some_open some_below all_below
  fresh-is =
      rw (all_made (fresh_at z (fresh_table z)) z.slots slot-fresh)
      (all_made (λ p. eqb (get_or (fresh_map z) p 0) p) z.pages (λ p l. eq-eqb (get_or (fresh_map z) p 0) p (map_at z.pages (λ q. q) p l)))

  pub format-left : left (formatting z) ≡ image_words z + 1
  unfolding needs
  format-left = omega arith

pub format-valid : (z : Sizes) → sizes_ok z ≡ true → state_ok (formatting z) ≡ true
unfolding needs
format-valid z ok = pending-valid (fresh_state z) (replicate 8 0) Format (fresh-valid z ok) (fresh-is z (legal z ok)) refl (omega arith)

-- the stores of what is pending are those of the format
pub format-stores : (z : Sizes) (n : ℕ) (img : List ℕ) → stores_made (formatting z) n img ≡ format_stores z n img
unfolding format_stores
format-stores z n img =
    up-ext (λ i m. store_made (formatting z) m Format (0 + i)) (λ i m. store m (format_at z i) (format_value z i)) n img
    (λ i m l. ap (λ (k : ℕ). store m (format_at z k) (format_value z k)) (zero-add i))

module _ (z : Sizes) (ok : sizes_ok z ≡ true) (buffer : List ℕ) (fits : image_length z ≤ length buffer) where
  pub format-taken : 0 ≡ format_row z buffer
  format-taken = row-none (format_rows z (length buffer)) (ap not ok, (le-ltb (length buffer) (image_length z) fits, tt))

  pub asked-world : asked_format z buffer ≡ world_of (formatting z) buffer
  unfolding format_of
  asked-world = rw (← format-taken)

  runs : 0 ≡ step_row (formatting z) buffer
  runs = row-none (step_rows (formatting z) buffer) (ap not (format-valid z ok), (le-ltb (length buffer) (image_length z) fits, (refl, tt)))

  pub ran-image : (k : ℕ) → run_bytes (formatting z) buffer k ≡ format_stores z (min k (image_words z + 1)) buffer
  unfolding run_bytes
  ran-image k =
      let n : left (formatting z) ≡ image_words z + 1 = format-left z (legal z ok) in
      rw (← runs)
      (run-image (min k (left (formatting z))) (world_of (formatting z) buffer) (omega arith)
      ∙ format-stores z (min k (left (formatting z))) buffer
      ∙ ap (λ (m : ℕ). format_stores z (min k m) buffer) n)

  pub ran-state : (k : ℕ) → (run_of (formatting z) buffer k).state ≡ state_after (formatting z) (min k (image_words z + 1))
  unfolding run_of
  ran-state k =
      let n : left (formatting z) ≡ image_words z + 1 = format-left z (legal z ok) in
      rw (← runs)
      (run-after (min k (left (formatting z))) (world_of (formatting z) buffer) refl (omega arith) (omega arith)
      ∙ ap (λ (m : ℕ). state_after (formatting z) (min k m)) n)

  -- k stores, or all
  pub cut-image : (k : ℕ) → (format_cut z buffer k).image ≡ format_stores z (min k (image_words z + 1)) buffer
  unfolding exec
  cut-image k = ap (λ (v : World). run_bytes v.st v.image k) asked-world ∙ ran-image k

  pub cut-state : (k : ℕ) → (format_cut z buffer k).st ≡ state_after (formatting z) (min k (image_words z + 1))
  unfolding exec
  cut-state k = ap (λ (v : World). (run_of v.st v.image k).state) asked-world ∙ ran-state k
