-- What the pieces and the end of each operation lean on, where it is pending and row 8 accepts the state. z and at are what the code read.
use Prim.Native.Nat.{ℕ, ◌+◌, ◌*◌, ◌<◌, ◌≤◌}
use mathlib.Core.Bool.{true}
use mathlib.Core.List.{List}
use mathlib.Core.Path.{◌≡◌, refl, sym, ap, ap₂, ◌∙◌, subst}
use native.Mathlib.Omega.{arith}
use lib.ListN.{length, get_or}
use borrow.Author.Tests.{eq-eqb, ne_eqb}
use Rattle.bounded.specs.Below.{up_to}
use Rattle.bounded.specs.Rows.{refusal}
use Rattle.layout.specs.declared.Sizes.{Sizes}
use Rattle.layout.specs.Layout.{Legal, frames, head_word, image_length}
use Rattle.journal.specs.Records.{position}
use Rattle.meters.specs.Meters.{event_known}
use Rattle.entries.specs.Entries.{key_page, key_line}
use Rattle.replay.specs.Table.{slots_shaped}
use Rattle.state.specs.State.{State, own_frame}
use Rattle.state.specs.declared.Places.{Places}
use Rattle.state.specs.declared.Op.{Op}
use Rattle.state.specs.declared.Op.TheVariants.{Write, Commit, Consolidate, Event, Prepare, Confirm, Log, Copy, Format}
use Rattle.state.specs.Held.{held_slots}
use Rattle.state.specs.Wide.{entry_for}
use Rattle.operations.specs.Operations.{Asked, slotted, op_rows, needs, format_needs}
use Rattle.operations.proofs.Taken.{op-asked, WriteTaken}
use Rattle.refinement.specs.Commit.{commit_at_of, commit_value_of}
use Rattle.refinement.specs.Consolidate.{Consolidates}
use Rattle.fresh.specs.Fresh.{format_at, format_value}
use Rattle.refinement.specs.Wide.{copied_frame, copy_at_of, copy_value_of}
use Rattle.refinement.specs.Stores.{store_at, store_value, completed, with_made, state_after, left}
use Rattle.refinement.proofs.Going.{going, ranges-of, shapes-of, entries-of, write-of, commit-of, prepare-of, confirm-of, consolidate-of, event-of}
use Rattle.refinement.proofs.Valid.{copy-low}
use Rattle.op_stores.proofs.WideGoing.{log-of, entry-room}
use Rattle.op_pieces.specs.declared.Piece.{Piece}
use Rattle.op_pieces.specs.Pieces.{Next, one_piece}
use Rattle.op_pieces.proofs.PieceLaws.{one-next, next-as}
use Rattle.op_rows.specs.Seen.{seen}
use Rattle.op_writer.specs.Served.{Served}
use Rattle.op_writer.proofs.Wider.{wider}

module _ (z : Sizes) (at : Places) (st : State) (h : Served z at st) where
  -- what is counted
  pub needs-leans : (op : Op) → op ≡ st.pending.op → Legal z × (at.count ≤ 64) × Asked z st.table.page op
  needs-leans op e =
      let r = (ranges-of st h.ok).legal in
      let g = going st h.ok h.busy in
      rw (h.sizes, h.places, e) (r, omega (arith, (entries-of st h.ok).few, r.entries-high), op-asked st st.pending.op g.taken)

  pub needs-seen : (op : Op) → needs (seen z at st) op ≡ needs st op
  needs-seen op = rw (h.sizes, h.places)

  pub made-low : st.pending.made < needs st st.pending.op
  made-low = (going st h.ok h.busy).made-low

  -- all is how many stores there are, as the code counted them: not all are made before n more
  pub within : (op : Op) (made all n : ℕ) → op ≡ st.pending.op → made ≡ st.pending.made → all ≡ needs (seen z at st) op → n ≤ left st → (made + n ≤ all) × (made + n ≤ needs st op)
  within op made all n eo em ea l =
      let a : all ≡ needs st op = ea ∙ needs-seen op in
      let b : needs st op ≡ needs st st.pending.op = ap (needs st) eo in
      let c : made + n ≤ needs st op = omega (arith, em, b, l, made-low) in
      (omega (arith, a, c), c)

  -- the state after n more of them: with the last one, and before it
  pub after_last : (op : Op) (made all n : ℕ) → op ≡ st.pending.op → made ≡ st.pending.made → all ≡ needs (seen z at st) op → made + n ≡ all → completed st op ≡ state_after st n
  after_last op made all n eo em ea l =
      let a : all ≡ needs st op = ea ∙ needs-seen op in
      let b : needs st op ≡ needs st st.pending.op = ap (needs st) eo in
      rw (eq-eqb (st.pending.made + n) (needs st st.pending.op) (omega (arith, em, a, b, l))) (ap (completed st) eo)

  pub after-some : (op : Op) (made all n : ℕ) → op ≡ st.pending.op → made ≡ st.pending.made → all ≡ needs (seen z at st) op → (made + n ≡ all → ⊥) → with_made st (made + n) ≡ state_after st n
  after-some op made all n eo em ea l =
      let a : all ≡ needs st op = ea ∙ needs-seen op in
      let b : needs st op ≡ needs st st.pending.op = ap (needs st) eo in
      rw (ne_eqb (st.pending.made + n) (needs st st.pending.op) (λ q. l (omega (arith, em, a, b, q)))) (ap (λ (m : ℕ). with_made st (m + n)) em)

  -- ---- what every operation leans on, of the sizes and places as they were read
  pub legal : Legal z
  legal = rw h.sizes (ranges-of st h.ok).legal

  pub head-low : at.head < 2 * z.places
  head-low = rw (h.sizes, h.places) (ranges-of st h.ok).head-low

  pub next_low : at.next < z.slots
  next_low = rw (h.sizes, h.places) (ranges-of st h.ok).next_low

  pub shapes : slots_shaped z st.table ≡ true
  shapes = rw h.sizes (shapes-of st h.ok)

  pub few : at.count ≤ z.entries
  few = rw (h.sizes, h.places) (entries-of st h.ok).few

  taken : refusal (op_rows st st.pending.op) ≡ 0
  taken = (going st h.ok h.busy).taken

  -- ---- and by operation, op being as it was read
  module _ {op : Op} (e : op ≡ st.pending.op) where
    pub write-taken : {w p l o n : ℕ} → op ≡ Write w p l o n → WriteTaken st w p l o n
    write-taken q = write-of st taken (sym e ∙ q)

    pub commit-low : {w : ℕ} → op ≡ Commit w → w < 4
    commit-low q = (commit-of st taken (sym e ∙ q)).writer-low

    pub prepare-low : {w : ℕ} → op ≡ Prepare w → w < 4
    prepare-low q = (prepare-of st taken (sym e ∙ q)).writer-low

    pub confirm-low : {w : ℕ} → op ≡ Confirm w → w < 4
    confirm-low q = (confirm-of st taken (sym e ∙ q)).writer-low

    pub consolidate-leans : {p : ℕ} → op ≡ Consolidate p → Consolidates z at.head st.table p × (slotted st p ≡ true)
    consolidate-leans q =
        let t = consolidate-of st taken (sym e ∙ q) in
        (record { legal = legal; head-low = head-low; shapes = shapes; page-low = rw h.sizes t.page-low; has-slot = rw h.sizes t.has-slot }, t.has-slot)

    pub event-leans : {k m a : ℕ} → op ≡ Event k m a → (refusal (op_rows st (Event k m 0)) ≡ 0) × (event_known k m ≡ true)
    event-leans {k} {m} {a} q = (rw (sym e ∙ q) at taken, (event-of st taken (sym e ∙ q)).known)

    pub log-leans : {p l o n : ℕ} → op ≡ Log p l o n → (entry_for st.wide p l < z.entries) × (p < z.pages) × (l < 64)
    log-leans q =
        let t = log-of st taken (sym e ∙ q) in
        let room = entry-room st.sizes st.wide _ _ (entries-of st h.ok).few t.room in
        (rw h.sizes room, rw h.sizes t.args.page-low, t.args.line_low)

  -- the page of each entry, and the frame that its line is copied to
  pub copy-pages : (e : ℕ) → e < at.count → (key_page (get_or st.wide.keys e 0) < z.pages) × (copied_frame (own_frame st) z st.table (get_or st.wide.keys e 0) < frames z)
  copy-pages =
      rw (h.sizes, h.places)
      (λ e l.
      let k = get_or st.wide.keys e 0 in
      let low = (entries-of st h.ok).page-low e l in
      (low, copy-low st h.ok (key_page k) (key_line k) low))

  -- store i of a write is one of eight, of a wide write one of nine
  pub write-below : {op : Op} {i w p l o n : ℕ} → op ≡ Write w p l o n → i < needs st op → i < 8
  unfolding needs
  write-below q l = rw q at l

  pub log-below : {op : Op} {i p l o n : ℕ} → op ≡ Log p l o n → i < needs st op → i < 9
  unfolding needs
  log-below q l = rw q at l

  pub format-below : {op : Op} {i : ℕ} → op ≡ Format → i < needs st op → i < format_needs z
  unfolding needs
  format-below q l = rw h.sizes (rw q at l)

  -- ---- a piece that an operation's function found is that of the operation
  module _ (i : ℕ) (img : List ℕ) (p : Piece) where
    abbrev pub IsNext : Op → Type 0
    IsNext op = Next (λ m. store_at st op) (λ m. store_value st m op) i (image_length z) img p

    pub next_of : {a b : Op} → a ≡ b → IsNext b → IsNext a
    next_of q n = subst IsNext (sym q) n

    module _ (w : ℕ) (n : Next (λ m. commit_at_of z at.head st.writers.held w) (λ m. commit_value_of z at.head st.table st.writers.held w) i (image_length z) img p) where
      pub commit-next : IsNext (Commit w)
      commit-next = next-as _ _ _ _ i i _ img p n (λ d m. rw (h.sizes, h.places)) (λ d m. rw (h.sizes, h.places))

      pub prepare-next : IsNext (Prepare w)
      prepare-next = next-as _ _ _ _ i i _ img p n (λ d m. rw (h.sizes, h.places)) (λ d m. rw (h.sizes, h.places))

    pub confirm-next : (w : ℕ) → p ≡ one_piece head_word (position z at.head (length (held_slots z st.writers.held w))) → IsNext (Confirm w)
    confirm-next w q = rw q (one-next _ _ i (image_length z) img head_word _ (omega arith) refl (rw (h.sizes, h.places)))

    pub copy-next : Next (λ m. copy_at_of (own_frame st) z st.table at.count st.wide.keys) (copy_value_of z at.count) i (image_length z) img p → IsNext Copy
    copy-next n = next-as _ _ _ _ i i _ img p n (λ d m. rw (h.sizes, h.places)) (λ d m. rw (h.sizes, h.places))

    pub format-next : Next (λ m. format_at z) (λ m. format_value z) i (image_length z) img p → IsNext Format
    format-next n = next-as _ _ _ _ i i _ img p n (λ d m. rw h.sizes) (λ d m. rw h.sizes)

-- the word that its first store that is still to be made goes to
pub first-place : (st : State) (op : Op) (made bound : ℕ) (img : List ℕ) (p : Piece) → op ≡ st.pending.op → made ≡ st.pending.made
    → Next (λ m. store_at st op) (λ m. store_value st m op) made bound img p → p.at + p.from ≡ store_at st st.pending.op st.pending.made
unfolding up_to
first-place st op made bound img p eo em n =
    let here : made + 0 ≡ made = omega arith in
    let from : p.at + p.from ≡ p.at + (p.from + 0) = omega arith in
    let some = n.some in
    from ∙ sym (n.place 0 (omega (arith, some))) ∙ ap (store_at st op) here ∙ ap₂ (store_at st) eo em

-- the piece that was found with the operation as it was read is that of what is pending
pub pending-here : (st : State) (op : Op) (made bound : ℕ) (img : List ℕ) (p : Piece) → op ≡ st.pending.op → made ≡ st.pending.made
    → Next (λ m. store_at st op) (λ m. store_value st m op) made bound img p
    → Next (λ m. store_at st st.pending.op) (λ m. store_value st m st.pending.op) st.pending.made bound img p
pending-here st op made bound img p eo em n =
    subst (λ (o : Op). Next (λ m. store_at st o) (λ m. store_value st m o) st.pending.made bound img p) eo
    (subst (λ (k : ℕ). Next (λ m. store_at st op) (λ m. store_value st m op) k bound img p) em n)

-- the piece that store i of the pending operation lies in, found with the operation as it was read, is the next of what is pending, inside the image
pub pending_next : (z : Sizes) (st : State) (op : Op) (made i : ℕ) (img : List ℕ) (p : Piece) → op ≡ st.pending.op → made ≡ st.pending.made → image_length z ≤ length img
    → Next (λ m. store_at st op) (λ m. store_value st m op) (made + i) (image_length z) img p
    → Next (λ m. store_at st st.pending.op) (λ m. store_value st m st.pending.op) (st.pending.made + i) (length img) img p
pending_next z st op made i img p eo em long n =
    wider _ _ _ _ _ _ _ (subst (λ (o : Op). Next (λ m. store_at st o) (λ m. store_value st m o) (st.pending.made + i) (image_length z) img p) eo
    (subst (λ (k : ℕ). Next (λ m. store_at st op) (λ m. store_value st m op) (k + i) (image_length z) img p) em n)) long
