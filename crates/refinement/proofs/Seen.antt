-- The line that a writer reads: its own copy of a line that it holds, the committed one of any other, is the reference machine's.
use Prim.Native.Nat.{ℕ, ◌<◌}
use mathlib.Core.Bool.{false}
use mathlib.Core.List.{List}
use mathlib.Core.Path.{◌≡◌, sym, ap, ◌∙◌}
use Rattle.bounded.proofs.Tab.{tab-ext}
use Rattle.bounded.proofs.Tests.{case_on}
use Rattle.image.specs.Lines.{line_bytes}
use Rattle.masks.specs.Lines.{in_mask}
use Rattle.state.specs.State.{State}
use Rattle.state.specs.Held.{held_at}
use Rattle.operations.specs.Operations.{slot_for, slotted}
use Rattle.refinement.specs.Frames.{seen_frame}
use Rattle.refinement.specs.Reference.{Reference, Cell, laid_over, read_line, recall_line}
use Rattle.refinement.proofs.Invariant.{Durable, Writing, holds}

module _ {past : List ℕ} (st : State) (img : List ℕ) (b : Reference) (written : ℕ → ℕ → ℕ → Type 0) (durable : Durable past st img b) (ws : Writing st img b written) where
  -- a writer with no unfinished writes to a line sees the page
  pub unheld-line : (w p l : ℕ) → w < 4 → p < st.sizes.pages → l < 64 → holds st w p l ≡ false → recall_line b p l ≡ read_line b w p l
  unheld-line w p l h k m e =
      tab-ext 64 (b.pages p l) (λ i. laid_over (b.writes w p l i) (b.pages p l i)) (λ i j. ap (λ (c : Cell). laid_over c (b.pages p l i)) (sym (ws.no_writes w p l i h k m j e)))

  pub seen-line : (w p l : ℕ) → w < 4 → p < st.sizes.pages → l < 64 → (written w p l → ⊥)
      → line_bytes img st.sizes (seen_frame st w p l) l ≡ read_line b w p l
  unfolding seen_frame
  seen-line w p l h k m n =
      let c = durable.committed p l k m in
      let o = durable.own p k in
      case_on (slotted st p)
      (λ s.
      case_on (in_mask (held_at st.writers.held w (slot_for st p)) l)
      (λ t. rw (s, t) (ws.own-copy w p l h k m n (rw (s, t))))
      (λ t. rw (s, t) ((rw s at c) ∙ unheld-line w p l h k m (rw (s, t)))))
      (λ s. rw s (ap (λ (f : ℕ). line_bytes img st.sizes f l) (rw s at o) ∙ (rw s at c) ∙ unheld-line w p l h k m (rw s)))
