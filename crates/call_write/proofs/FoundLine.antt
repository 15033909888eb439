-- What the code found is what the definitions call for, of a narrow writer and of the wide one. r is what it found.
use Prim.Native.Nat.{ℕ, ◌<◌, ◌≤◌}
use mathlib.Core.Bool.{Bool, true, false, ◌&&◌, cond}
use mathlib.Core.List.{List}
use mathlib.Core.Path.{◌≡◌, refl, sym, ap, ◌∙◌}
use native.Mathlib.Omega.{arith}
use lib.Dec.{ltb}
use lib.ListN.{length}
use Rattle.std.specs.Prelude.{Result, Ok, Err}
use Rattle.rows.specs.declared.Refusal.{Refusal}
use borrow.Author.Tests.{eq-eqb, lt-ltb, le-ltb, ltb-true}
use Rattle.bounded.proofs.Tests.{case_on, and_right}
use Rattle.entries.specs.Entries.{key_of, entry_of}
use Rattle.state.specs.State.{State, Wide}
use Rattle.state.specs.Wide.{is_wide, entry_for, has_entry}
use Rattle.validity.specs.Validity.{state_ok}
use Rattle.refinement.specs.Frames.{seen_frame}
use Rattle.refinement.specs.Calls.{seen_line}
use Rattle.refinement.proofs.Going.{ranges-of, shapes-of, entries-of}
use Rattle.refinement.proofs.SeenFrames.{seen_low}
use Rattle.refinement.proofs.Valid.{map-low}
use Rattle.call_write.specs.declared.found.Found.{Found}
use Rattle.call_write.specs.Found.{FramesFound, EntryFound, FoundAfter, WriteFound, as_entry, found_line, SeenLow}

-- by whether the line has an entry; e is the one that the code found
module _ (d : Wide) (p l e x : ℕ) (h : e ≡ entry_of d.keys d.count (key_of p l)) where
  pub has-entry : e < d.count → (e ≡ cond (has_entry d p l) (entry_for d p l) x) × (true ≡ has_entry d p l)
  has-entry m = rw (← h, lt-ltb e d.count m) (refl, refl)

  pub has-none : d.count ≤ e → (x ≡ cond (has_entry d p l) (entry_for d p l) x) × (false ≡ has_entry d p l)
  has-none m = rw (← h, le-ltb e d.count m) (refl, refl)

-- past the rows that come first and short data
module _ (st : State) (w p l o n : ℕ) (bytes : List ℕ) (long : ltb (length bytes) n ≡ false) where
  pub entry-after : (r : Result Found Refusal) → st.wide.writer ≡ w → EntryFound st p l o n r → FoundAfter st w p l o n bytes r
  entry-after (Ok f) e h =
      let b : is_wide st.wide w ≡ true = eq-eqb st.wide.writer w e in
      (rw (long, b) h.0, rw (b, ← e) h.1, rw b h.2, h.3 ∙ sym b)
  entry-after (Err x) e h =
      let b : is_wide st.wide w ≡ true = eq-eqb st.wide.writer w e in
      rw (long, b) h

  pub frames-after : (r : Result Found Refusal) → is_wide st.wide w ≡ false → FramesFound st w p l o n r → FoundAfter st w p l o n bytes r
  frames-after (Ok f) b h = (rw (long, b) h.0, rw b h.1, rw b h.2, h.3 ∙ sym b)
  frames-after (Err x) b h = rw (long, b) h

-- the line that was found is the one that the writer sees
pub found-seen : (st : State) (img : List ℕ) (w p l o n : ℕ) (bytes : List ℕ) (r : Found) → WriteFound st img w p l o n bytes (Ok r)
    → (as_entry r ≡ is_wide st.wide w && has_entry st.wide p l) × (found_line img st.sizes r l ≡ seen_line st img w p l)
found-seen st img w p l o n bytes r f =
    let own : Bool = is_wide st.wide w && has_entry st.wide p l in
    let a : as_entry r ≡ own =
    case_on (is_wide st.wide w) (λ t. rw (f.2, f.3, t)) (λ t. rw (f.3, t)) in
    (a, case_on own (λ t. rw (a, f.1, t)) (λ t. rw (a, f.1, t)))

-- and the entry or the frame is one of the image's
pub found-low : (st : State) (img : List ℕ) (w p l o n : ℕ) (bytes : List ℕ) (r : Found) → WriteFound st img w p l o n bytes (Ok r) → state_ok st ≡ true → p < st.sizes.pages
    → SeenLow st.sizes r
found-low st img w p l o n bytes r f ok low =
    let own : Bool = is_wide st.wide w && has_entry st.wide p l in
    let a : as_entry r ≡ own = (found-seen st img w p l o n bytes r f).0 in (
      λ t.
          let b : own ≡ true = sym a ∙ t in
          let e : r.seen ≡ entry_for st.wide p l = rw b at f.1 in
          let m = ltb-true (entry_for st.wide p l) st.wide.count (and_right (is_wide st.wide w) (has_entry st.wide p l) b) in
          omega (arith, e, m, (entries-of st ok).few),
      λ t.
          let b : own ≡ false = sym a ∙ t in
          let e : r.seen ≡ seen_frame st w p l = rw b at f.1 in
          rw e (seen_low st w p l (ranges-of st ok).legal low (shapes-of st ok) (map-low st ok p low)),
    )
