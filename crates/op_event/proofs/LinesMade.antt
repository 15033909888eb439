-- The piece of an event that store i lies in is that of the definition: of its lines, whose frames the code finds in the slots as they were, and of its
-- commit. st is the state with the event pending.
use Prim.Native.Nat.{ℕ, ◌+◌, ◌-◌, ◌*◌, ◌<◌, ◌≤◌}
use mathlib.Core.Bool.{true}
use mathlib.Core.List.{List}
use mathlib.Core.Path.{◌≡◌, refl, sym, ap, ap₂, ◌∙◌, subst}
use native.Mathlib.Omega.{arith}
use lib.ListN.{length}
use Rattle.bounded.specs.Rows.{refusal}
use Rattle.bounded.proofs.Tests.{case_on, row-yes, row-no}
use Rattle.layout.specs.declared.Sizes.{Sizes}
use Rattle.layout.specs.Layout.{line_word, image_length}
use Rattle.replay.specs.Table.{slots_shaped}
use Rattle.meters.specs.Meters.{moves_credit, first_meter, own_meter}
use Rattle.op_pieces.specs.declared.Piece.{Piece}
use Rattle.op_pieces.specs.Pieces.{Next, line_piece}
use Rattle.op_pieces.proofs.PieceLaws.{line-next, next-as}
use Rattle.state.specs.State.{State}
use Rattle.state.specs.declared.Op.TheVariants.{Event}
use Rattle.state.specs.Held.{held_slots}
use Rattle.operations.specs.Operations.{op_rows}
use Rattle.operations.proofs.Taken.{EventTaken, event-taken}
use Rattle.validity.specs.Validity.{state_ok}
use Rattle.replay.proofs.Tables.{Sixteen}
use Rattle.refinement.specs.Write.{frame_to_write, write_slot, write_at}
use Rattle.refinement.specs.Commit.{commit_at_of, commit_value_of, commit_at, commit_value}
use Rattle.refinement.specs.Event.{second_asked, lines_done, line_stores, event_at, event_value}
use Rattle.refinement.proofs.EventReady.{Wrote, second-frame, lines-wrote, one-slot}
use Rattle.refinement.proofs.EventRows.{first-sizes}
use Rattle.refinement.proofs.Going.{shapes-of}
use Rattle.state_words.specs.Decoded.{with_nothing}
use Rattle.refinement.proofs.EventStores.{at_first, value-first, at_second, value-second, at-commit, value-commit}

module _ (st : State) (k m : ℕ) (valid : state_ok st ≡ true) (row : refusal (op_rows st (Event k m 0)) ≡ 0) where
  pub taken : EventTaken st k m
  taken = event-taken st k m 0 row

  module _ (full : Sixteen st.table) (sixty-four : length st.writers.held ≡ 64) (four : length st.writers.opened ≡ 4) where
    second_at : (j : ℕ) → write_at (second_asked st k m) 0 (own_meter k m) j ≡ line_word st.sizes (frame_to_write st.sizes st.table st.next 0 (own_meter k m)) (own_meter k m) + j
    unfolding write_slot
    second_at j =
        ap₂ (λ (y : Sizes) (f : ℕ). line_word y f (own_meter k m) + j) (first-sizes st k m) (second-frame st k m 0 valid full sixty-four four taken (own_meter k m))

    -- the piece r that store i lies in: z, next and the line are what the code read, l and o the meters that it found, n the stores of the lines
    module _ (z : Sizes) (ez : z ≡ st.sizes) (i : ℕ) (img : List ℕ) (r : Piece) where
      abbrev IsNext : Type 0
      IsNext = Next (λ x. event_at st k m) (λ x. event_value st k m) i (image_length z) img r

      module _ (next : ℕ) (en : next ≡ st.next) (line : List ℕ) where
        pub first_piece : (l : ℕ) → i < 8 → l ≡ first_meter k m → line ≡ st.pending.line → r ≡ line_piece (line_word z (frame_to_write z st.table next 0 l) l) line i
            → 8 * (r.at + 8) ≤ image_length z → IsNext
        unfolding write_slot
        first_piece l h e el q w =
            let p : r ≡ line_piece (line_word st.sizes (frame_to_write st.sizes st.table st.next 0 (first_meter k m)) (first_meter k m)) st.pending.line i = rw (e, el, en, ez) at q in
            let v = rw (p, ez) at w in
            rw (p, ez) (line-next _ _ i (image_length st.sizes) img _ st.pending.line i h v (λ d x b. at_first st k m (i + d) b) (λ d x b. value-first st k m (i + d) b))

        pub second-piece : (o n : ℕ) → 8 ≤ i → i < n → n ≡ line_stores k → o ≡ own_meter k m → line ≡ st.pending.second
            → r ≡ line_piece (line_word z (frame_to_write z st.table next 0 o) o) line (i - 8) → 8 * (r.at + 8) ≤ image_length z → IsNext
        second-piece o n h b ek e el q w =
            let u : moves_credit k ≡ true = case_on (moves_credit k) (λ t. t) (λ t. let s : line_stores k ≡ 8 = sym (row-no (moves_credit k) 16 8 8 t refl) in absurd (omega arith)) in
            let s : line_stores k ≡ 16 = sym (row-yes (moves_credit k) 16 8 u) in
            let p : r ≡ line_piece (line_word st.sizes (frame_to_write st.sizes st.table st.next 0 (own_meter k m)) (own_meter k m)) st.pending.second (i - 8) = rw (e, el, en, ez) at q in
            let v = rw (p, ez) at w in
            rw (p, ez)
            (line-next _ _ i (image_length st.sizes) img _ st.pending.second (i - 8) (omega arith) v
            (λ d x c. let g : i + d ≡ 8 + (i - 8 + d) = omega arith in ap (event_at st k m) g ∙ at_second st k m u (i - 8 + d) c ∙ second_at (i - 8 + d))
            (λ d x c. let g : i + d ≡ 8 + (i - 8 + d) = omega arith in ap (event_value st k m) g ∙ value-second st k m u (i - 8 + d) c))

      pub commit-piece : (n : ℕ) → n ≤ i → n ≡ line_stores k → Next (λ x. commit_at (lines_done st k m) 1) (λ x. commit_value (lines_done st k m) 1) (i - n) (image_length z) img r → IsNext
      commit-piece n h ek q =
          let g : (d : ℕ) → i + d ≡ line_stores k + (i - n + d) = λ d. omega arith in
          next-as _ _ _ _ _ i (image_length z) img r q (λ d x. ap (event_at st k m) (g d) ∙ at-commit st k m (i - n + d)) (λ d x. ap (event_value st k m) (g d) ∙ value-commit st k m (i - n + d))

    -- the state with the lines written: its slots have shapes, and writer 1 holds lines of one
    wrote : Wrote (lines_done st k m) k m
    wrote = lines-wrote st k m 0 valid full sixty-four four taken

    lines-shapes : slots_shaped (lines_done st k m).sizes (lines_done st k m).table ≡ true
    lines-shapes = shapes-of (lines_done st k m) wrote.ready.ok

    lines-slot : length (held_slots (lines_done st k m).sizes (lines_done st k m).writers.held 1) ≡ 1
    lines-slot = one-slot (lines_done st k m) k m wrote

    -- the state s that the code has is that one but for what is pending, which a commit does not read; z and head are what it read
    module _ (s : State) (es : with_nothing s ≡ lines_done st k m) (z : Sizes) (ez : z ≡ s.sizes) where
      pub held-shapes : slots_shaped z s.table ≡ true
      held-shapes = rw ez (subst (λ (u : State). slots_shaped u.sizes u.table ≡ true) (sym es) lines-shapes)

      pub held-slot : 1 ≡ length (held_slots z s.writers.held 1)
      held-slot = rw ez (sym (subst (λ (u : State). length (held_slots u.sizes u.writers.held 1) ≡ 1) (sym es) lines-slot))

      pub commit-part : (head : ℕ) → head ≡ s.head → (i : ℕ) (img : List ℕ) (r : Piece)
          → Next (λ x. commit_at_of z head s.writers.held 1) (λ x. commit_value_of z head s.table s.writers.held 1) i (image_length z) img r
          → Next (λ x. commit_at (lines_done st k m) 1) (λ x. commit_value (lines_done st k m) 1) i (image_length z) img r
      commit-part head eh i img r q =
          subst (λ (u : State). Next (λ x. commit_at u 1) (λ x. commit_value u 1) i (image_length z) img r) es
          (next-as _ _ (λ x. commit_at (with_nothing s) 1) (λ x. commit_value (with_nothing s) 1) i i (image_length z) img r q (λ d x. rw (ez, eh)) (λ d x. rw (ez, eh)))
