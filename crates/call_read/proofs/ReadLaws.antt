-- Read: a row's number with the target as it was, or the line.
use Prim.Native.Nat.{ℕ, ◌<◌, ◌≤◌}
use mathlib.Core.Bool.{Bool, true, false, ◌||◌, cond}
use mathlib.Core.List.{List}
use lib.ListN.{length}
use mathlib.Core.Path.{◌≡◌, refl, sym, ap, subst, ◌∙◌}
use native.Mathlib.Omega.{arith}
use lib.Dec.{eqb, ltb, leb}
use borrow.Author.Tests.{ne_eqb, ltb-false, leb-false, lt-ltb, le-ltb}
use Rattle.bounded.specs.Rows.{refusal}
use Rattle.bounded.proofs.Rows.{row_at, row-none}
use Rattle.layout.specs.Layout.{Legal, frames as frames_of, image_length}
use Rattle.state.specs.declared.Places.{Places}
use Rattle.state_words.specs.Decoded.{places_of}
use Rattle.refinement.proofs.SeenFrames.{seen_low}
use Rattle.refinement.proofs.Going.{shapes-of}
use Rattle.refinement.proofs.StateValid.{valid}
use Rattle.refinement.proofs.Valid.{map-low}
use Rattle.refinement.proofs.Quiet.{Quiet, quiet}
use Rattle.bounded.proofs.Tests.{case_on, or_left, or_right}
use Rattle.layout.specs.declared.Sizes.{Sizes}
use Rattle.image.specs.Lines.{line_bytes}
use Rattle.words.specs.Words.{over}
use Rattle.state.specs.State.{State}
use Rattle.state.specs.Wide.{is_wide, entry_for}
use Rattle.entry_lines.specs.Own.{own_entry}
use Rattle.refinement.specs.Wide.{entry_bytes}
use Rattle.refinement.specs.Frames.{seen_frame}
use Rattle.answers.specs.Answers.{number_of, stores_of}
use Rattle.std.specs.Prelude.{Err}
use Rattle.rows.specs.declared.Refusal.{Refusal}
use Rattle.rows.specs.declared.Refusal.TheVariants.{BadArgument}
use Rattle.rows.specs.Numbers.{number}
use Rattle.rows.proofs.Numbers.{number-some}
use Rattle.refinement.specs.Calls.{quiet_rows, seen_line, read_rows, read_row, read_bytes}

-- row 11 does not apply: n is the target's length
pub record Asking (z : Sizes) (w p l n : ℕ) : Type 0 where
  pub writer-low : w < 4
  pub page-low : p < z.pages
  pub line_low : l < 64
  pub target-long : 64 ≤ n

pub asking : (z : Sizes) (w p l n : ℕ) → ltb 3 w || leb z.pages p || ltb 63 l || ltb n 64 ≡ false → Asking z w p l n
asking z w p l n e =
    let e3 = or_left (ltb 3 w || leb z.pages p || ltb 63 l) (ltb n 64) e in
    let e2 = or_left (ltb 3 w || leb z.pages p) (ltb 63 l) e3 in
    record {
      writer-low = omega (arith, ltb-false 3 w (or_left (ltb 3 w) (leb z.pages p) e2));
      page-low = leb-false z.pages p (or_right (ltb 3 w) (leb z.pages p) e2);
      line_low = omega (arith, ltb-false 63 l (or_right (ltb 3 w || leb z.pages p) (ltb 63 l) e3));
      target-long = ltb-false n 64 (or_right (ltb 3 w || leb z.pages p || ltb 63 l) (ltb n 64) e);
    }

module _ (st : State) (img : List ℕ) (w p l : ℕ) (target : List ℕ) where
  pub read-refused : (row : Refusal) → number row ≡ refusal (read_rows st img w p l target)
      → ((number_of (Err row) ≡ read_row st img w p l target) × (stores_of (Err row) ≡ 0)) × (target ≡ read_bytes st img w p l target)
  unfolding read_row read_bytes
  read-refused row h =
      let q : eqb (refusal (read_rows st img w p l target)) 0 ≡ false = ne_eqb (refusal (read_rows st img w p l target)) 0 (λ z. number-some row (h ∙ z)) in
      ((h, refl), rw q)

  -- e is the entry that the code found, the count of entries where the writer has none for the line
  pub own_line : (e : ℕ) → e ≡ own_entry st.wide w p l → e < st.wide.count → entry_bytes img st.sizes e ≡ seen_line st img w p l
  own_line e q low =
      let n : ℕ = st.wide.count in
      let found : Bool → ℕ = λ x. cond x (entry_for st.wide p l) n in
      case_on (is_wide st.wide w)
      (λ t. let f : e ≡ entry_for st.wide p l = q ∙ ap found t in rw (t, ← f, lt-ltb e n low))
      (λ t. let f : e ≡ n = q ∙ ap found t in absurd (omega arith))

  pub frame-line : (e : ℕ) → e ≡ own_entry st.wide w p l → st.wide.count ≤ e
      → line_bytes img st.sizes (seen_frame st w p l) l ≡ seen_line st img w p l
  frame-line e q high =
      let n : ℕ = st.wide.count in
      case_on (is_wide st.wide w)
      (λ t. let f : e ≡ entry_for st.wide p l = q ∙ ap (λ (x : Bool). cond x (entry_for st.wide p l) n) t in rw (t, ← f, le-ltb e n high))
      (λ t. rw t)

  pub read_done : (line m : List ℕ) → 0 ≡ refusal (read_rows st img w p l target) → line ≡ seen_line st img w p l → m ≡ over target 0 line
      → ((0 ≡ read_row st img w p l target) × (◌≡◌ {A = ℕ} 0 0)) × (m ≡ read_bytes st img w p l target)
  unfolding read_row read_bytes
  read_done line m z s e = ((z, refl), rw (← z) (e ∙ ap (over target 0) s))

-- past the first rows: z and at are the sizes and places as they were read
module _ (st : State) (img : List ℕ) (w p l : ℕ) (target : List ℕ) (z : Sizes) (at : Places) (ez : z ≡ st.sizes) (ea : at ≡ places_of st)
    (none : 0 ≡ refusal (quiet_rows st (length img))) where
  abbrev bad : Sizes → Bool
  bad y = ltb 3 w || leb y.pages p || ltb 63 l || ltb (length target) 64

  right : Quiet st (length img)
  right = quiet st (length img) 0 none refl

  pub legal1 : Legal z
  legal1 = rw ez (valid st right.ok).legal

  pub long1 : image_length z ≤ length img
  long1 = subst (λ (y : Sizes). image_length y ≤ length img) (sym ez) right.long

  pub row-11 : bad z ≡ true → number BadArgument ≡ refusal (read_rows st img w p l target)
  row-11 e =
      let q = right.past in
      row_at (read_rows st img w p l target) 3 (omega arith) (q.0, (q.1.0, (q.1.1.0, tt))) (rw ez at e)

  -- past row 11
  module _ (good : bad z ≡ false) where
    good1 : bad st.sizes ≡ false
    good1 = rw ez at good

    pub asking2 : Asking st.sizes w p l (length target)
    asking2 = asking st.sizes w p l (length target) good1

    pub none2 : 0 ≡ refusal (read_rows st img w p l target)
    none2 = let q = right.past in row-none (read_rows st img w p l target) (q.0, (q.1.0, (q.1.1.0, (good1, tt))))

    pub page-low1 : p < 1024
    page-low1 = omega (arith, asking2.page-low, (valid st right.ok).legal.pages-high)

    pub count-low : at.count ≤ 64
    count-low =
        let h = valid st right.ok in
        omega (arith, ap (λ (a : Places). a.count) ea, h.entries.few, h.legal.entries-high)

    pub entry-low : (e : ℕ) → e < at.count → e < z.entries
    entry-low e k =
        let h = valid st right.ok in
        omega (arith, k, ap (λ (a : Places). a.count) ea, h.entries.few, ap (λ (y : Sizes). y.entries) ez)

    pub frame-low : (g : ℕ) → g ≡ seen_frame st w p l → g < frames_of z
    frame-low g e =
        let ok = right.ok in
        let low = seen_low st w p l (valid st ok).legal asking2.page-low (shapes-of st ok) (map-low st ok p asking2.page-low) in
        subst (λ (y : Sizes). g < frames_of y) (sym ez) (subst (λ (k : ℕ). k < frames_of st.sizes) (sym e) low)
