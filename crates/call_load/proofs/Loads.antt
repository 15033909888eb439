-- A load by what the code finds: its rows, the frames that the meters are read from, and what comes of it.
use Prim.Native.Nat.{ℕ, ◌<◌}
use mathlib.Core.Bool.{Bool, true, false}
use mathlib.Core.List.{List, [], ◌∷◌, ◌++◌}
use mathlib.Core.Path.{◌≡◌, refl, sym, ap, ◌∙◌}
use lib.Dec.{eqb}
use lib.ListN.{length}
use Rattle.std.specs.Prelude.{Ok, Err}
use Rattle.rows.specs.declared.Refusal.{Refusal}
use Rattle.rows.specs.Numbers.{number}
use Rattle.rows.proofs.Numbers.{number-some}
use borrow.Author.Tests.{eqb-true, ne_eqb}
use Rattle.bounded.specs.Below.{some_below}
use Rattle.bounded.specs.Rows.{Row, refusal}
use Rattle.bounded.proofs.Rows.{rows-first, rows_then}
use Rattle.bounded.proofs.Tests.{case_on, row-yes, row-no}
use Rattle.layout.specs.declared.Sizes.{Sizes}
use Rattle.replay.specs.Table.{slot_in}
use Rattle.moduli_text.specs.Text.{text_row, moduli_in}
use Rattle.moduli_text.proofs.TextLaws.{text-taken}
use Rattle.state.specs.State.{State, own_frame}
use Rattle.state.specs.Slots.{slot_of_page}
use Rattle.refinement.specs.Frames.{frame_of}
use Rattle.refinement.specs.Calls.{quiet_rows, load_rows, load_of}
use Rattle.refinement.proofs.Quiet.{Quiet}
use Rattle.state_lines.specs.Committed.{committed_at}
use Rattle.call_load.specs.Loaded.{loaded_of, meter_high}

-- the frame of a line's committed copy, as the code found it
pub frame_found : (z : Sizes) (st : State) (s l f : ℕ) → s ≡ slot_of_page z st.table.page 0 → f ≡ committed_at z (slot_in st.table s) s (own_frame st 0) l → f ≡ frame_of (own_frame st) z st.table 0 l
frame_found z st s l f es ef = ef ∙ rw es

-- ---- page 0

module _ (st : State) (img : List ℕ) where
  -- ---- rows

  module _ (text : List ℕ) where
    abbrev of_text : List Row
    of_text = (eqb (text_row text) 25, 25) ∷ (eqb (text_row text) 26, 26) ∷ []

    abbrev of_page : List Row
    of_page = (some_below 24 (meter_high st.sizes img st (moduli_in text)), 27) ∷ []

    pub row-quiet : (row : ℕ) → row ≡ refusal (quiet_rows st (length img)) → (row ≡ 0 → ⊥) → row ≡ refusal (load_rows st img text)
    row-quiet row e n = rows-first (quiet_rows st (length img)) (of_text ++ of_page) row e n

    module _ (q : Quiet st (length img)) (row : ℕ) where
      text-row : row ≡ text_row text → (row ≡ 0 → ⊥) → row ≡ refusal of_text
      text-row e n =
          case_on (eqb (text_row text) 25)
          (λ t. rw t (e ∙ eqb-true (text_row text) 25 t))
          (λ t. case_on (eqb (text_row text) 26) (λ u. rw (t, u) (e ∙ eqb-true (text_row text) 26 u)) (λ u. absurd (n (e ∙ text-taken text t u))))

      pub row-text : row ≡ text_row text → (row ≡ 0 → ⊥) → row ≡ refusal (load_rows st img text)
      row-text e n = rows_then (quiet_rows st (length img)) (of_text ++ of_page) row q.past (rows-first of_text of_page row (text-row e n) n)

      -- past the text: h is whether a meter is high, the moduli being those of the text
      page-row : 0 ≡ text_row text → row ≡ refusal of_page → row ≡ refusal (load_rows st img text)
      page-row e r =
          rows_then (quiet_rows st (length img)) (of_text ++ of_page) row q.past
          (rows_then of_text of_page row (ap (λ (n : ℕ). eqb n 25) (sym e), (ap (λ (n : ℕ). eqb n 26) (sym e), tt)) r)

      module _ (e : 0 ≡ text_row text) (ms : List ℕ) (h : ms ≡ moduli_in text) (high : Bool) (eh : high ≡ some_below 24 (meter_high st.sizes img st ms)) where
        pub row-high : high ≡ true → row ≡ 27 → row ≡ refusal (load_rows st img text)
        row-high t r = page-row e (r ∙ row-yes (some_below 24 (meter_high st.sizes img st (moduli_in text))) 27 0 (rw (sym h) (sym eh ∙ t)))

        pub row_low : high ≡ false → row ≡ 0 → row ≡ refusal (load_rows st img text)
        row_low t r = page-row e (row-no (some_below 24 (meter_high st.sizes img st (moduli_in text))) 27 0 row (rw (sym h) (sym eh ∙ t)) r)

    -- ---- what comes of it

    pub load-refused : (r : Refusal) → number r ≡ refusal (load_rows st img text) → loaded_of (Err r) ≡ load_of st img text
    unfolding load_of
    load-refused r e = rw (← e, ne_eqb (number r) 0 (number-some r))

    pub load-taken : (ms : List ℕ) → 0 ≡ refusal (load_rows st img text) → ms ≡ moduli_in text → loaded_of (Ok ms) ≡ load_of st img text
    unfolding load_of
    load-taken ms e h = rw (← e, h)
