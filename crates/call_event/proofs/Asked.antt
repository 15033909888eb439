-- An event asked for: its rows by what the code finds, its finished lines, and what comes of it.
use Prim.Native.Nat.{ℕ, ◌<◌}
use mathlib.Core.Bool.{true, false, cond}
use mathlib.Core.List.{List, [], ◌∷◌, ◌++◌}
use mathlib.Core.Path.{◌≡◌, refl, sym, ap, ap₂, ◌∙◌}
use native.Mathlib.Omega.{arith}
use lib.ListN.{length, replicate}
use Rattle.std.specs.Prelude.{Ok}
use borrow.Author.Tests.{not-false, ne_eqb, ltb-false}
use Rattle.bounded.specs.Rows.{Row, refusal, Past}
use Rattle.bounded.proofs.Rows.{none-apply, row-none, rows-first, rows_then}
use Rattle.bounded.proofs.Tests.{row-yes, row-no}
use Rattle.layout.specs.Layout.{frames}
use Rattle.words.specs.Words.{bytes_of, put_word, word_at}
use Rattle.words.proofs.Bytes.{length-bytes}
use Rattle.words.proofs.Parts.{over-whole}
use Rattle.image.specs.Lines.{line_bytes, merged, line_words}
use Rattle.meters.specs.Meters.{moduli_ok, event_known, moves_credit, first_meter, own_meter, rolled, event_needs, first_number, amount_bad}
use Rattle.state.specs.State.{State}
use Rattle.state.specs.declared.Pending.{Pending}
use Rattle.state.specs.Wide.{some_wide, is_wide}
use Rattle.state.specs.declared.Op.TheVariants.{Event}
use Rattle.operations.specs.Operations.{journal_full, event_next_rows}
use Rattle.operations.proofs.Taken.{EventTaken, event-taken}
use Rattle.refinement.specs.Frames.{seen_frame}
use Rattle.refinement.specs.Settled.{with_lines}
use Rattle.refinement.specs.Outcome.{answered}
use Rattle.refinement.specs.Calls.{quiet_rows, seen_line, meter_in, event_line, event_second, event_call_rows, event_of}
use Rattle.refinement.proofs.EventRows.{event-op-row, event-amount, event-moduli}
use Rattle.refinement.proofs.Going.{ranges-of, shapes-of}
use Rattle.refinement.proofs.Quiet.{Quiet, quiet}
use Rattle.refinement.proofs.SeenFrames.{seen_low}
use Rattle.refinement.proofs.Valid.{map-low}
use Rattle.call_event.specs.Found.{start_rows, EventFound, second_of}
use Rattle.call_event.specs.declared.found.Found.{Found}

-- ---- rows

-- what the rows up to 26 tell
pub record Started (st : State) (n : ℕ) (ms : List ℕ) (k m : ℕ) : Type 0 where
  pub quiet : Quiet st n
  pub narrow : some_wide st.wide.writer ≡ false
  pub known : event_known k m ≡ true
  pub moduli : moduli_ok ms ≡ true
  pub past : Past (start_rows st n ms k m) 6

pub started : (st : State) (n : ℕ) (ms : List ℕ) (k m row : ℕ) → row ≡ refusal (start_rows st n ms k m) → row ≡ 0 → Started st n ms k m
started st n ms k m row e z =
    let h = none-apply (start_rows st n ms k m) (omega arith) (sym e ∙ z) in
    record {
      quiet = quiet st n 0 (row-none (quiet_rows st n) (h.0, (h.1.0, (h.1.1.0, tt)))) refl;
      narrow = h.1.1.1.0;
      known = not-false (event_known k m) h.1.1.1.1.0;
      moduli = not-false (moduli_ok ms) h.1.1.1.1.1.0;
      past = h;
    }

module _ (st : State) (img ms : List ℕ) (k m a : ℕ) where
  abbrev start : List Row
  start = start_rows st (length img) ms k m

  abbrev early : List Row
  early = event_next_rows st k m

  abbrev late : List Row
  late = (amount_bad ms k m (meter_in st img (first_meter k m)) a, 21) ∷ (journal_full st 1, 19) ∷ []

  pub row-start : (row : ℕ) → row ≡ refusal start → (row ≡ 0 → ⊥) → row ≡ refusal (event_call_rows st img ms k m a)
  row-start row e n = rows-first start (early ++ late) row e n

  module _ (q : Started st (length img) ms k m) where
    pub row-early : (row : ℕ) → row ≡ refusal early → (row ≡ 0 → ⊥) → row ≡ refusal (event_call_rows st img ms k m a)
    row-early row e n = rows_then start (early ++ late) row q.past (rows-first early late row e n)

    module _ (z : refusal early ≡ 0) where
      row-late : (row : ℕ) → row ≡ refusal late → row ≡ refusal (event_call_rows st img ms k m a)
      row-late row e = rows_then start (early ++ late) row q.past (rows_then early late row (none-apply early (omega arith) z) e)

      pub row-amount : amount_bad ms k m (meter_in st img (first_meter k m)) a ≡ true → 21 ≡ refusal (event_call_rows st img ms k m a)
      row-amount t = row-late 21 (row-yes (amount_bad ms k m (meter_in st img (first_meter k m)) a) 21 _ t)

      module _ (f : amount_bad ms k m (meter_in st img (first_meter k m)) a ≡ false) where
        pub row_room : journal_full st 1 ≡ true → 19 ≡ refusal (event_call_rows st img ms k m a)
        row_room t = row-late 19 (row-no (amount_bad ms k m (meter_in st img (first_meter k m)) a) 21 _ 19 f (row-yes (journal_full st 1) 19 0 t))

        pub row-taken : journal_full st 1 ≡ false → 0 ≡ refusal (event_call_rows st img ms k m a)
        row-taken t = row-late 0 (row-no (amount_bad ms k m (meter_in st img (first_meter k m)) a) 21 _ 0 f (row-no (journal_full st 1) 19 0 0 t refl))

-- a line of page 0 is read from a frame
pub line_frame : (st : State) (n l : ℕ) → Quiet st n → seen_frame st 1 0 l < frames st.sizes
line_frame st n l q =
    let g = (ranges-of st q.ok).legal in
    let low : 0 < st.sizes.pages = omega (arith, g.pages-low) in
    seen_low st 1 0 l g low (shapes-of st q.ok) (map-low st q.ok 0 low)

-- ---- numbers and lines

-- with no wide transaction, writer 1 sees a line of page 0 in a frame
pub narrow-line : (st : State) (img : List ℕ) (l : ℕ) → some_wide st.wide.writer ≡ false → line_bytes img st.sizes (seen_frame st 1 0 l) l ≡ seen_line st img 1 0 l
narrow-line st img l e =
    let other : is_wide st.wide 1 ≡ false = ne_eqb st.wide.writer 1 (λ q. omega (arith, q, ltb-false st.wide.writer 4 e)) in
    rw other

-- eight bytes with a number put into them are its bytes
pub number-bytes : (v : ℕ) (l d : List ℕ) → length l ≡ 8 → d ≡ put_word l 0 v → d ≡ bytes_of 8 v
unfolding put_word
number-bytes v l d n e = e ∙ over-whole l (bytes_of 8 v) (length-bytes 8 v ∙ sym n)

-- ---- what comes of it

module _ (st : State) (img ms : List ℕ) (k m a : ℕ) (found : Found) (f : EventFound st img ms k m a (Ok found)) where
  abbrev after : State
  after = with_lines st (Event k m a) (event_line st img ms k m a) (event_second st img ms k m a)

  -- the event pending, by what the code found: v is the first meter's new number, l that meter
  module _ (v l : ℕ) (line second : List ℕ) (q : Pending) (ev : v ≡ first_number ms k m found.stored a) (el : l ≡ first_meter k m)
      (eline : line ≡ line_words (merged (line_bytes img st.sizes found.first l) 0 8 (bytes_of 8 v))) (esecond : second ≡ second_of img ms st.sizes found.own k m a)
      (eq : q ≡ record { op = Event k m a; made = 0; line = line; second = second }) where
    pub event-pending : q ≡ record { op = Event k m a; made = 0; line = event_line st img ms k m a; second = event_second st img ms k m a }
    event-pending =
        let narrow : some_wide st.wide.writer ≡ false = (none-apply (event_call_rows st img ms k m a) (omega arith) (sym f.0)).1.1.1.0 in
        let v₀ : ℕ = first_number ms k m (meter_in st img (first_meter k m)) a in
        let one : line ≡ event_line st img ms k m a =
        eline
        ∙ ap₂ (λ (x y : ℕ). line_words (merged (line_bytes img st.sizes found.first x) 0 8 (bytes_of 8 y))) el (ev ∙ ap (λ (s : ℕ). first_number ms k m s a) f.3)
        ∙ ap (λ (x : ℕ). line_words (merged (line_bytes img st.sizes x (first_meter k m)) 0 8 (bytes_of 8 v₀))) f.1
        ∙ ap (λ (x : List ℕ). line_words (merged x 0 8 (bytes_of 8 v₀))) (narrow-line st img (first_meter k m) narrow) in
        let two : second ≡ event_second st img ms k m a =
        esecond
        ∙ ap (λ (x : ℕ). second_of img ms st.sizes x k m a) f.2
        ∙ ap (λ (x : List ℕ). cond (moves_credit k) (line_words (merged x 0 8 (bytes_of 8 (rolled ms (own_meter k m) (word_at x 0) a)))) (replicate 8 0)) (narrow-line st img (own_meter k m) narrow) in
        eq ∙ rw (one, two)

-- what a taken one has made sure of
pub asked-facts : (st : State) (img ms : List ℕ) (k m a : ℕ) → refusal (event_call_rows st img ms k m a) ≡ 0
    → Quiet st (length img) × EventTaken st k m × (amount_bad ms k m (meter_in st img (first_meter k m)) a ≡ false) × (moduli_ok ms ≡ true)
asked-facts st img ms k m a e =
    let h = none-apply (event_call_rows st img ms k m a) (omega arith) e in
    (quiet st (length img) 0 (sym_none h) refl, event-taken st k m a (event-op-row st img ms k m a e), event-amount st img ms k m a e, event-moduli st img ms k m a e)
  where
    sym_none : Past (event_call_rows st img ms k m a) (length (event_call_rows st img ms k m a)) → 0 ≡ refusal (quiet_rows st (length img))
    sym_none h = row-none (quiet_rows st (length img)) (h.0, (h.1.0, (h.1.1.0, tt)))
