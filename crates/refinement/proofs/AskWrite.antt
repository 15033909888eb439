-- A write asked for: the finished line is the reference machine's line with the data laid over it.
use Prim.Native.Nat.{ℕ, ◌+◌, ◌-◌, ◌<◌, ◌≤◌}
use mathlib.Core.Bool.{Bool, true, false, ◌&&◌, not, cond}
use mathlib.Core.List.{List}
use mathlib.Core.Logic.{◌⊎◌, inl, inr}
use mathlib.Core.Path.{◌≡◌, refl, sym, ap, ◌∙◌, subst}
use native.Mathlib.Omega.{arith}
use lib.Dec.{ltb, leb, eqb}
use lib.ListN.{length, get_or}
use lib.Seq.{ext_get_or}
use borrow.Author.Tests.{eq-eqb, ltb-true, ltb-false, leb-true, leb-false}
use Rattle.bounded.specs.Rows.{refusal}
use Rattle.bounded.specs.Tab.{tab}
use Rattle.bounded.proofs.Tab.{length-tab, get_or-tab}
use Rattle.bounded.proofs.Tests.{case_on}
use Rattle.image.specs.Lines.{line_bytes, merged, line_words}
use Rattle.words.specs.Words.{Bytes}
use Rattle.image.proofs.LineLaws.{length_merged, get_or-merged, get_or-merged-other}
use Rattle.words.proofs.Parts.{bytes-part}
use Rattle.state.specs.State.{State}
use Rattle.state.specs.declared.Op.{Op}
use Rattle.state.specs.declared.Op.TheVariants.{Write, Log}
use Rattle.state.specs.Wide.{is_wide}
use Rattle.operations.specs.Operations.{needs, slot_for, write_rows, op_rows}
use Rattle.operations.proofs.Taken.{ArgsGood, write-taken}
use Rattle.refinement.specs.Frames.{seen_frame}
use Rattle.refinement.specs.Stores.{World, stepped_by}
use Rattle.refinement.specs.Calls.{write_call_rows, changes_nothing, write_op, write_of, finished_line, with_pending, world_of}
use Rattle.refinement.specs.Run.{write, exec}
use Rattle.refinement.specs.Reference.{Reference, byte, laid_over, idle, writing, under, with_work, written, starts, read_line}
use Rattle.refinement.proofs.Invariant.{Never, Quiet, Busy, Related, not_wide}
use Rattle.refinement.proofs.Asked.{all_left, asked-busy}
use Rattle.refinement.proofs.Copies.{durable-fits}
use Rattle.refinement.proofs.Rewritten.{has-slot, world-back}
use Rattle.refinement.proofs.Seen.{seen-line}
use Rattle.refinement.proofs.WriterCalls.{finished-narrow, write-narrow, write-op-row, write-first, write-args}
use Rattle.refinement.proofs.Sound.{After, Sound, is-quiet}
use Rattle.refinement.proofs.StepCall.{work-same, run-related}
use Rattle.refinement.proofs.Next.{answered-still}

-- the bytes laid over the line, one by one
pub merged-read : (b : Reference) (w p l o n : ℕ) (bytes : List ℕ) → o + n ≤ 64 → n ≤ length bytes
    → merged (read_line b w p l) o n bytes ≡ read_line (written w p l o n bytes b) w p l
merged-read b w p l o n bytes fits given =
    let f : ℕ → ℕ = λ i. laid_over (b.writes w p l i) (b.pages p l i) in
    let g : ℕ → ℕ =
    λ i. laid_over (cond (eqb w w && eqb p p && eqb l l && leb o i && ltb i (o + n)) (byte (get_or bytes (i - o) 0)) (b.writes w p l i)) (b.pages p l i) in
    let sized : length (tab 64 f) ≡ 64 = length-tab 64 f in
    let long : length (merged (tab 64 f) o n bytes) ≡ 64 = length_merged (tab 64 f) o n bytes sized fits given in
    let keeps : (i : ℕ) → i < 64 → (o + n ≤ i) ⊎ (i < o) → get_or (merged (tab 64 f) o n bytes) i 0 ≡ f i =
    λ i m d. get_or-merged-other (tab 64 f) o n bytes sized fits given i d ∙ get_or-tab 64 f i 0 m in
    ext_get_or 0 (merged (tab 64 f) o n bytes) (tab 64 g) (long ∙ sym (length-tab 64 g))
    (λ i m'.
    let m : i < 64 = omega (arith, m', long) in
    let at : get_or (tab 64 g) i 0 ≡ g i = get_or-tab 64 g i 0 m in
    case_on (leb o i)
    (λ t.
    case_on (ltb i (o + n))
    (λ u.
    get_or-merged (tab 64 f) o n bytes sized fits given i (leb-true o i t) (ltb-true i (o + n) u)
    ∙ sym (at ∙ rw (eq-eqb w w refl, eq-eqb p p refl, eq-eqb l l refl, t, u)))
    (λ u. keeps i m (inl (ltb-false i (o + n) u)) ∙ sym (at ∙ rw (eq-eqb w w refl, eq-eqb p p refl, eq-eqb l l refl, t, u))))
    (λ t. keeps i m (inr (leb-false o i t)) ∙ sym (at ∙ rw (eq-eqb w w refl, eq-eqb p p refl, eq-eqb l l refl, t))))

module _ {past : List ℕ} (st : State) (img : List ℕ) (b : Reference) (w p l o n : ℕ) (bytes : List ℕ) (q : Quiet past st img b) (lent : Bytes bytes) (given : n ≤ length bytes)
    (row : refusal (write_rows st w p l o n) ≡ 0) where
  args : ArgsGood st.sizes w p l o n
  args = (write-taken st w p l o n row).args

  -- a writer of a narrow transaction
  other : is_wide st.wide w ≡ false
  other = not_wide st b w q.narrow args.writer-low

  seen : line_bytes img st.sizes (seen_frame st w p l) l ≡ read_line b w p l
  seen = seen-line st img b Never q.durable q.writers w p l args.writer-low args.page-low args.line_low (λ x. x)

  finished : finished_line st img w p l o n bytes ≡ line_words (read_line (written w p l o n bytes b) w p l)
  finished = finished-narrow st img w other p l o n bytes ∙ ap line_words (ap (λ (x : List ℕ). merged x o n bytes) seen ∙ merged-read b w p l o n bytes args.fits given)

  line-bytes : Bytes (read_line b w p l)
  line-bytes = subst Bytes seen (bytes-part img _ 64 q.durable.bytes)

  eight : 0 < needs st (Write w p l o n)
  unfolding needs
  eight = omega arith

  write-busy : Busy past (with_pending st (Write w p l o n) (finished_line st img w p l o n bytes)) img
      (with_work (under (writing w p l o n bytes) (needs st (Write w p l o n))) b)
  write-busy =
      asked-busy st img b (Write w p l o n) (finished_line st img w p l o n bytes) (writing w p l o n bytes) q (ap not other) eight row
      (bytes, lent, given, all_left st (Write w p l o n) (finished_line st img w p l o n bytes) (writing w p l o n bytes), finished, line-bytes)

  -- the same where nothing changes: what is left is what the run of its eight stores would leave
  write-idle : changes_nothing st img w p l o n bytes ≡ true → Related past (world_of st img) (written w p l o n bytes b)
  unfolding needs
  write-idle none =
      let low = q.writers.held_low w (slot_for st p) args.writer-low (ltb-true (slot_for st p) st.sizes.slots (has-slot st img w p l o n bytes q.valid (durable-fits past st img b q.durable) q.durable.bytes row given other none)) in
      let asks = with_pending st (Write w p l o n) (finished_line st img w p l o n bytes) in
      let ran : Related past (stepped_by 8 (world_of asks img)) (written w p l o n bytes (with_work idle b)) = run-related 8 (world_of asks img) (with_work (under (writing w p l o n bytes) 8) b) write-busy in
      subst (λ (v : World). Related past v (written w p l o n bytes b)) (world-back st img w p l o n bytes q.valid (durable-fits past st img b q.durable) q.durable.bytes row given other none q.pending low)
      (subst (λ (c : Reference). Related past (stepped_by 8 (world_of asks img)) (written w p l o n bytes c)) (work-same b idle q.work) ran)

-- a taken one of a narrow transaction: its rows after the first four, and what it leaves
pub op_row : (st : State) (img : List ℕ) (w p l o n : ℕ) (bytes : List ℕ) → is_wide st.wide w ≡ false → refusal (write_call_rows st img w p l o n bytes) ≡ 0
    → refusal (write_rows st w p l o n) ≡ 0
op_row st img w p l o n bytes other e =
    subst (λ (op : Op). refusal (op_rows st op) ≡ 0) (write-narrow st img w other p l o n) (write-op-row st img w p l o n bytes e)

pub write-sound : {past : List ℕ} (w p l o n : ℕ) (bytes : List ℕ) → Bytes bytes → (v : World) (b : Reference) → Related past v b → Sound past (write w p l o n bytes) v b
unfolding exec write_of needs
write-sound {past = past} w p l o n bytes lent v b h =
    let st = v.st in
    let img = v.image in
    let nothing = changes_nothing st img w p l o n bytes in
    let asks = with_pending st (write_op st w p l o n) (finished_line st img w p l o n bytes) in
    let a =
    answered-still (Related _) (write w p l o n bytes) v b (refusal (write_call_rows st img w p l o n bytes)) (cond nothing 0 (cond (is_wide st.wide w) 9 8)) (cond nothing st asks) h
    (λ e.
    let first = write-first st img w p l o n bytes e in
    let q : Quiet past st img b = is-quiet st img b h first.1.1.0 in
    let given : n ≤ length bytes = ltb-false (length bytes) n first.1.1.1.0 in
    let other = not_wide st b w q.narrow (write-args st img w p l o n bytes e).writer-low in
    let row = op_row st img w p l o n bytes other e in
    case_on nothing
    (λ t. rw t (record { sizes = refl; related = write-idle st img b w p l o n bytes q lent given row t }))
    (λ t.
    rw t
    (subst
    (λ (x : Bool). After past v (world_of (with_pending st (cond x (Log p l o n) (Write w p l o n)) (finished_line st img w p l o n bytes)) img) (starts (writing w p l o n bytes) (cond x 9 8) b))
    (sym other) (record { sizes = refl; related = inr (write-busy st img b w p l o n bytes q lent given row) })))) in
    record { right = tt; sizes = a.sizes; related = a.related }
