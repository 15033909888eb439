-- Mount is taken at every time, also while an operation is pending: it finds the durable part, whose committed copies are the reference
-- machine's pages.
use Prim.Native.Nat.{ℕ, ◌<◌}
use mathlib.Core.Bool.{true}
use mathlib.Core.List.{List}
use mathlib.Core.Path.{◌≡◌, sym, ap, ◌∙◌, subst}
use lib.ListN.{length}
use Rattle.layout.specs.declared.Sizes.{Sizes}
use Rattle.replay.specs.Map.{page_frames}
use Rattle.image.specs.Lines.{line_bytes}
use Rattle.words.specs.Words.{word}
use Rattle.mount.specs.Mount.{Mounted}
use Rattle.mount.proofs.Verdict.{Taken, found_in, taken-mount}
use Rattle.mount.proofs.View.{View, Shows}
use Rattle.state.specs.State.{State}
use Rattle.validity.specs.Validity.{state_ok}
use Rattle.refinement.specs.Stores.{World}
use Rattle.refinement.specs.Outcome.{answered}
use Rattle.refinement.specs.Mount.{no_state, mounted_state, mount_call}
use Rattle.refinement.specs.Recall.{frame_of}
use Rattle.refinement.specs.Run.{mount, exec, replaces}
use Rattle.refinement.specs.Reference.{Reference, recall_line}
use Rattle.refinement.proofs.Invariant.{Durable}
use Rattle.refinement.proofs.Valid.{good, legal-sizes}
use Rattle.refinement.proofs.Copies.{frame-kept, mount-apart}
use Rattle.refinement.proofs.Mounted.{Committed}

module _ {past : List ℕ} (st : State) (img : List ℕ) (b : Reference) (valid : state_ok st ≡ true) (D : Durable past st img b) where
  -- the committed copies that a mount finds are those of the state
  pub mounted-committed : Committed img D.view b
  mounted-committed =
      subst (λ (z : Sizes). (p l : ℕ) → p < z.pages → l < 64 → line_bytes img z (frame_of (page_frames (word img)) z D.view.table p l) l ≡ recall_line b p l) (sym D.sizes-same)
      (λ p l h k.
      ap (λ (f : ℕ). line_bytes img st.sizes f l)
      (sym (frame-kept (page_frames (word img)) st.sizes D.view.table st.table (legal-sizes st valid) (mount-apart st img valid D) (good st valid).pages D.behind p l h))
      ∙ D.committed p l h k)

-- it is taken, and the state is what the image shows
pub mount-viewed : (v : World) (view : View) → Shows v.image view → Taken (length v.image) view → exec mount v ≡ replaces (answered 0 no_state 0 (mounted_state (found_in view))) v
unfolding exec mount_call
mount-viewed v view shows mounts = ap (λ (m : Mounted). replaces (answered m.row no_state 0 (mounted_state m)) v) (taken-mount v.image view shows mounts)
