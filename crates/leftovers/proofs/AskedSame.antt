-- The calls that ask for an operation, and load, in two images of which they read the same.
use Prim.Native.Nat.{ℕ, ◌<◌}
use mathlib.Core.Bool.{Bool, true, false, cond, not, ◌&&◌}
use mathlib.Core.List.{List, ◌∷◌}
use mathlib.Core.Path.{◌≡◌, refl, ap, ap₂, ◌∙◌}
use native.Mathlib.Omega.{arith}
use lib.Dec.{ltb, leb, eqb}
use lib.ListN.{length, replicate}
use borrow.Author.Tests.{eqb-true, not-false}
use Rattle.bounded.specs.Below.{some_below}
use Rattle.bounded.specs.Rows.{Row, refusal}
use Rattle.bounded.proofs.Below.{some-ext}
use Rattle.bounded.proofs.Rows.{none-apply}
use Rattle.bounded.proofs.Tests.{case_on}
use Rattle.layout.specs.declared.Sizes.{Sizes}
use Rattle.layout.specs.Layout.{image_length}
use Rattle.image.specs.Lines.{merged, merge_changes, line_words}
use Rattle.words.specs.Words.{word_at, bytes_of}
use Rattle.state.specs.State.{State}
use Rattle.state.specs.declared.Op.{Op}
use Rattle.state.specs.declared.Op.TheVariants.{Event}
use Rattle.state.specs.Held.{no_writer}
use Rattle.state.specs.Wide.{is_wide, has_entry}
use Rattle.operations.specs.Operations.{is_idle, write_rows, log_rows, confirm_rows}
use Rattle.meters.specs.Meters.{modulus_of, event_known, moves_credit, first_meter, own_meter, event_needs, rolled, first_number, amount_bad}
use Rattle.meters.proofs.MeterLaws.{first-low, own_range}
use Rattle.moduli_text.specs.Text.{moduli_in}
use Rattle.refinement.specs.Frames.{holds}
use Rattle.refinement.specs.Outcome.{answered}
use Rattle.refinement.specs.Settled.{with_writers, with_prepared, with_lines}
use Rattle.refinement.specs.Calls.{row_state, row_short, row_pending, with_pending, asked, write_call_rows, write_op, seen_line, changes_nothing, write_of, withdraw_of, event_line, event_second, event_call_rows, event_of, meter_stored, load_rows, load_of}
use Rattle.refinement.proofs.WriterCalls.{write-first, write-args}
use Rattle.leftovers.proofs.SameRows.{same-refusal}
use Rattle.leftovers.proofs.SameReads.{SameReads}

-- a call answered: the stores and the state after it matter where it is taken
answered-same : (st : State) (row row' n n' : ℕ) (after after' : State) → row ≡ row' → (row ≡ 0 → (n ≡ n') × (after ≡ after')) → answered row st n after ≡ answered row' st n' after'
answered-same st row row' n n' after after' e f =
    case_on (eqb row 0) (λ t. let q = f (eqb-true row 0 t) in ap₂ (answered row st) q.0 q.1) (λ t. rw t) ∙ ap (λ (r : ℕ). answered r st n' after') e

module _ (st : State) (x y : List ℕ) (reads : SameReads st x y) where
  abbrev z : Sizes
  z = st.sizes

  -- a write taken, by the line as the writer reads it
  abbrev idle : ℕ → ℕ → ℕ → ℕ → ℕ → List ℕ → List ℕ → Bool
  idle w p l o n bytes line = cond (is_wide st.wide w) (has_entry st.wide p l) (holds st w p l) && not (merge_changes line o n bytes)

  abbrev stores : ℕ → Bool → ℕ
  stores w none = cond none 0 (cond (is_wide st.wide w) 9 8)

  abbrev asks : ℕ → ℕ → ℕ → ℕ → ℕ → List ℕ → List ℕ → State
  asks w p l o n bytes line = cond (idle w p l o n bytes line) st (with_pending st (write_op st w p l o n) (line_words (merged line o n bytes)))

  -- its rows, of either kind of writer
  abbrev rows_of : List ℕ → ℕ → List ℕ → List Row → List Row
  rows_of img n bytes rest = row_state st ∷ row_short st (length img) ∷ row_pending st ∷ (ltb (length bytes) n, 11) ∷ rest

  write-row : (w p l o n : ℕ) (bytes : List ℕ) → refusal (write_call_rows st x w p l o n bytes) ≡ refusal (write_call_rows st y w p l o n bytes)
  write-row w p l o n bytes =
      case_on (is_wide st.wide w)
      (λ t.
      rw t
      (same-refusal (rows_of x n bytes (log_rows st p l o n)) (rows_of y n bytes (log_rows st p l o n))
      (refl, refl, λ _. (reads.short, refl, λ _. (refl, refl, λ _. (refl, refl, λ _. (refl, refl, λ _. (refl, refl, λ _. (refl, refl, λ _. tt)))))))))
      (λ t.
      rw t
      (same-refusal (rows_of x n bytes (write_rows st w p l o n)) (rows_of y n bytes (write_rows st w p l o n))
      (refl, refl, λ _. (reads.short, refl, λ _. (refl, refl, λ _. (refl, refl, λ _. (refl, refl, λ _. (refl, refl, λ _. (refl, refl, λ _. (refl, refl, λ _. (refl, refl, λ _. tt)))))))))))

  pub write_same : (w p l o n : ℕ) (bytes : List ℕ) → write_of st x w p l o n bytes ≡ write_of st y w p l o n bytes
  unfolding write_of changes_nothing
  write_same w p l o n bytes =
      let none : List ℕ → Bool = idle w p l o n bytes in
      answered-same st (refusal (write_call_rows st x w p l o n bytes)) (refusal (write_call_rows st y w p l o n bytes)) (stores w (none (seen_line st x w p l))) (stores w (none (seen_line st y w p l)))
      (asks w p l o n bytes (seen_line st x w p l)) (asks w p l o n bytes (seen_line st y w p l)) (write-row w p l o n bytes)
      (λ q.
      let a = write-args st x w p l o n bytes q in
      let line = reads.seen (write-first st x w p l o n bytes q).1.1.0 w p l a.writer-low a.page-low a.line_low in
      (ap (λ (s : List ℕ). stores w (none s)) line, ap (asks w p l o n bytes) line))

  -- the others read the image's length alone
  pub rest-same : (rows : List Row) (op : Op)
      → asked (refusal (row_state st ∷ (ltb (length x) (image_length z), 4) ∷ row_pending st ∷ rows)) st op (replicate 8 0)
      ≡ asked (refusal (row_state st ∷ (ltb (length y) (image_length z), 4) ∷ row_pending st ∷ rows)) st op (replicate 8 0)
  rest-same rows op = ap (λ (s : Bool). asked (refusal (row_state st ∷ (s, 4) ∷ row_pending st ∷ rows)) st op (replicate 8 0)) reads.short

  pub withdraw-same : (w : ℕ) → withdraw_of st x w ≡ withdraw_of st y w
  unfolding withdraw_of
  withdraw-same w =
      ap (λ (s : Bool). answered (refusal (row_state st ∷ (s, 4) ∷ row_pending st ∷ confirm_rows st w)) st 0 (with_writers st (with_prepared st.writers no_writer))) reads.short

  -- ---- an event asked for

  -- a meter's line as writer 1 reads it
  meter-same : not (is_idle st.pending.op) ≡ false → (l : ℕ) → l < 64 → seen_line st x 1 0 l ≡ seen_line st y 1 0 l
  meter-same q l low = reads.seen q 1 0 l (omega arith) reads.some-page low

  pub event-same : (ms : List ℕ) (i m a : ℕ) → event_of st x ms i m a ≡ event_of st y ms i m a
  unfolding event_of
  event-same ms i m a =
      let row : ℕ = refusal (event_call_rows st x ms i m a) in
      let first : ℕ = first_meter i m in
      let own : ℕ = own_meter i m in
      let e : row ≡ refusal (event_call_rows st y ms i m a) =
      same-refusal (event_call_rows st x ms i m a) (event_call_rows st y ms i m a) (
        refl,
        refl,
        λ _. (
          reads.short,
          refl,
          λ _. (
            refl,
            refl,
            λ q. (
              refl,
              refl,
              λ _. (
                refl,
                refl,
                λ g. (
                  refl,
                  refl,
                  λ _. (
                    refl,
                    refl,
                    λ _. (
                      refl,
                      refl,
                      λ _. (
                        refl,
                        refl,
                        λ _. (
                          refl,
                          refl,
                          λ _.
                              (ap (λ (line : List ℕ). amount_bad ms i m (word_at line 0) a) (meter-same q first (omega (arith, first-low i m (not-false (event_known i m) g)))), refl, λ _. (refl, refl, λ _. tt)),
                        ),
                      ),
                    ),
                  ),
                ),
              ),
            ),
          ),
        ),
      ) in
      answered-same st row (refusal (event_call_rows st y ms i m a)) (event_needs i) (event_needs i) (with_lines st (Event i m a) (event_line st x ms i m a) (event_second st x ms i m a)) _ e
      (λ t.
      let rows = none-apply (event_call_rows st x ms i m a) (omega arith) t in
      let q = rows.1.1.0 in
      let known : event_known i m ≡ true = not-false (event_known i m) rows.1.1.1.1.0 in
      let line : event_line st x ms i m a ≡ event_line st y ms i m a =
      ap (λ (l : List ℕ). line_words (merged l 0 8 (bytes_of 8 (first_number ms i m (word_at l 0) a)))) (meter-same q first (omega (arith, first-low i m known))) in
      let second : event_second st x ms i m a ≡ event_second st y ms i m a =
      ap (λ (l : List ℕ). cond (moves_credit i) (line_words (merged l 0 8 (bytes_of 8 (rolled ms own (word_at l 0) a)))) (replicate 8 0)) (meter-same q own (omega (arith, (own_range i m known).1))) in
      (refl, λ j. with_lines st (Event i m a) (line j) (second j)))

  -- ---- load

  high_same : not (is_idle st.pending.op) ≡ false → (ms : List ℕ)
      → some_below 24 (λ m. leb (modulus_of ms m) (meter_stored st x m)) ≡ some_below 24 (λ m. leb (modulus_of ms m) (meter_stored st y m))
  high_same e ms =
      some-ext (λ m. leb (modulus_of ms m) (meter_stored st x m)) (λ m. leb (modulus_of ms m) (meter_stored st y m)) 24
      (λ m l. ap (λ (line : List ℕ). leb (modulus_of ms m) (word_at line 0)) (reads.stored e m (omega arith)))

  pub load_same : (text : List ℕ) → load_of st x text ≡ load_of st y text
  unfolding load_of
  load_same text =
      let e : refusal (load_rows st x text) ≡ refusal (load_rows st y text) =
      same-refusal (load_rows st x text) (load_rows st y text)
      (refl, refl, λ _. (reads.short, refl, λ _. (refl, refl, λ q. (refl, refl, λ _. (refl, refl, λ _. (high_same q (moduli_in text), refl, λ _. tt)))))) in
      ap (λ (r : ℕ). record { number = r; moduli = cond (eqb r 0) (moduli_in text) (replicate 24 0) }) e
