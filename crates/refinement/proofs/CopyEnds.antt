-- The last store of a wide commit: every entry's line is in place, so with no entry counted each committed copy is the page's.
use Prim.Native.Nat.{ℕ, ◌+◌, ◌-◌, ◌*◌, ◌<◌, ◌≤◌}
use mathlib.Core.Bool.{true}
use mathlib.Core.List.{List}
use mathlib.Core.Path.{◌≡◌, refl, sym, ap, ap₂, ◌∙◌}
use native.Mathlib.Omega.{arith}
use lib.ListN.{length}
use borrow.Author.Tests.{ltb-false}
use Rattle.layout.specs.declared.Sizes.{Sizes}
use Rattle.replay.specs.Map.{page_frames}
use Rattle.layout.specs.Layout.{line_word, entry_word, count_word}
use Rattle.words.specs.Words.{word, store}
use Rattle.image.proofs.LineLaws.{eight-ext}
use Rattle.entries.specs.Entries.{key_page, key_line, keys_from}
use Rattle.entries.proofs.EntryLaws.{none_right, page-of-key, line-of-key}
use Rattle.state.specs.State.{State}
use Rattle.state.specs.declared.Op.TheVariants.{Copy}
use Rattle.state.specs.Wide.{no_wide}
use Rattle.operations.proofs.Taken.{copy-taken}
use Rattle.refinement.specs.Frames.{frame_of}
use Rattle.refinement.specs.Commit.{closed_writer}
use Rattle.refinement.specs.Settled.{with_wide, no_pending}
use Rattle.refinement.specs.Stores.{completed}
use Rattle.validity.specs.Validity.{state_ok}
use Rattle.refinement.specs.Reference.{Reference, none, with_work, idle, recall_line}
use Rattle.refinement.proofs.StateValid.{valid}
use Rattle.refinement.proofs.Pending.{Pends, pends}
use Rattle.refinement.proofs.WideValid.{copied-valid}
use Rattle.refinement.proofs.Closed.{closed-opened-length, closed-held-length}
use Rattle.refinement.proofs.Invariant.{Durable, Writing, Never, Quiet}
use Rattle.refinement.proofs.Keeps.{durable-kept}
use Rattle.refinement.proofs.Copies.{committed-low, durable-fits}
use Rattle.refinement.proofs.Silent.{Unheld, closed-unheld, silent}
use Rattle.refinement.proofs.Counted.{durable-counted}
use Rattle.refinement.proofs.Copying.{copy_of, key_at, in_place, shown_by, Copying}

-- the writers after it hold nothing, and none is prepared
pub done-silent : (st : State) (img : List ℕ) (b : Reference) → state_ok st ≡ true → Unheld st.sizes st.writers.held → length st.writers.opened ≡ 4 → length st.writers.held ≡ 64
    → 4 ≤ st.writers.prepared → ((w p l i : ℕ) → w < 4 → p < st.sizes.pages → l < 64 → i < 64 → b.writes w p l i ≡ none) → Writing (completed st Copy) img b Never
unfolding closed_writer
done-silent st img b ok unheld four lines prepared none_written =
    let g = (valid st ok).legal in
    let w : ℕ = st.wide.writer in
    silent (completed st Copy) (closed-unheld st.sizes g st.writers w unheld) img b
    (closed-opened-length st.sizes g st.writers w ∙ four) (closed-held-length st.sizes g st.writers w ∙ lines) prepared none_written

module _ (past : List ℕ) (st : State) (img : List ℕ) (b : Reference) (C : Copying past st img b) (some : 0 < st.wide.count) (all : st.pending.made ≡ 8 * st.wide.count + 1) where
  abbrev z : Sizes
  z = st.sizes

  abbrev D : Durable past st img (in_place st img b)
  D = C.durable

  -- each committed copy is the page's
  in_all : (p l : ℕ) → p < z.pages → l < 64 → copy_of st img p l ≡ recall_line b p l
  in_all p l lp ll =
      let f : ℕ = frame_of (page_frames (word img)) z st.table p l in
      let whole = durable-fits past st img (in_place st img b) D in
      let low = committed-low st img C.valid D p l lp in
      shown_by st.wide.keys st.wide.count p l
      (λ e m q k.
      let page : key_page (key_at st e) ≡ p = ap key_page k ∙ page-of-key p l ll in
      let line : key_line (key_at st e) ≡ l = ap key_line k ∙ line-of-key p l ll in
      let few = (valid st C.valid).entries.few in
      eight-ext img img (line_word z f l) (entry_word z e + 1) D.bytes D.bytes (omega arith) (omega arith)
      (λ j lj.
      sym (ap₂ (λ (x y : ℕ). word img (line_word z (frame_of (page_frames (word img)) z st.table x y) y + j)) page line) ∙ C.landed e j m lj (omega arith))
      ∙ C.entry e m
      ∙ ap₂ (recall_line b) page line)
      (λ q. C.other p l lp ll q)

  durable : Durable past (completed st Copy) (store img count_word 0) (with_work idle b)
  durable =
      let few = (valid st C.valid).entries.few in
      durable-kept (with_wide st no_wide) (store img count_word 0) b (with_work idle b) st.next (closed_writer z st.writers st.wide.writer) no_pending (λ p l lp ll. refl)
      (durable-counted st img b
      (durable-kept st img (in_place st img b) b st.next st.writers st.pending (λ p l lp ll. sym (D.committed p l lp ll) ∙ in_all p l lp ll) D)
      no_wide (λ e. omega arith) (omega arith) (none_right z (keys_from (word img) z 0)))

  pending : Pends st Copy
  pending = pends st Copy C.valid C.op refl

  pub copied_all : Quiet past (completed st Copy) (store img count_word 0) (with_work idle b)
  copied_all =
      record {
        valid = copied-valid st C.valid pending.taken;
        pending = refl;
        durable = durable;
        writers = done-silent st (store img count_word 0) (with_work idle b) C.valid C.unheld C.four C.sixty-four (ltb-false st.writers.prepared 4 (copy-taken st pending.taken)) C.no_writes;
        work = refl;
        narrow = record { state = refl; book = C.book };
      }
