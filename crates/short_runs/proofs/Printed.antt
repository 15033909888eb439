-- The output, text by text.
use Prim.Native.Nat.{ℕ, ◌+◌, ◌^◌, ◌<◌, ◌≤◌}
use Prim.Native.Char.{code}
use mathlib.Core.Bool.{Bool}
use mathlib.Core.List.{List, [], ◌∷◌, ◌++◌, append_assoc, append-nil}
use mathlib.Core.Path.{◌≡◌, refl, ap, subst, ◌∙◌}
use native.Mathlib.Numerals.{add-one}
use native.Mathlib.Omega.{arith}
use lib.Dec.{leb}
use lib.ListN.{length, set}
use borrow.Author.Tests.{le-leb, lt-leb, leb-true}
use Rattle.bounded.specs.Below.{up_to}
use Rattle.bounded.proofs.Tests.{case_on}
use Rattle.cutting.specs.Buffers.{Ends}
use Rattle.cutting.proofs.Buffers.{ends-none, ends_more}
use Rattle.number_text.specs.Text.{each}
use Rattle.sequences.specs.Sequences.{sequence}
use Rattle.sequence_lines.specs.declared.Line.{Line}
use Rattle.sequence_lines.specs.Listing.{needed_by, line_of, lines_of, listing}
use Rattle.sequence_lines.specs.Parts.{PutLine}
use Rattle.short_runs.specs.declared.Output.{Output}
use Rattle.short_runs.specs.Program.{roomed, wanted_of, mark, with_line, with_lines, with_listing, Prints, PutCut, Responds}

-- ---- room for a line

pub roomed-low : (at : ℕ) → roomed at ≤ 65000
roomed-low at = case_on (leb at 65000) (λ t. rw t (leb-true at 65000 t)) (λ t. rw t (omega arith))

-- all that waits is written, or nothing
ends-room : {out : List ℕ} {at : ℕ} {printed : List ℕ} → Ends out at printed → Ends out (roomed at) printed
ends-room {out} {at} {printed} h = case_on (leb at 65000) (λ t. rw t h) (λ t. rw t (ends-none out printed))

pub cut-put : (s : Output) (out : List ℕ) (room : ℕ) (calls : List ℕ) (k : ℕ) (out' : List ℕ) (r : Line) (ok : Bool)
    → room ≡ roomed s.at → length out ≡ 65536 → length out' ≡ length out → PutLine out room calls k out' r
    → PutCut s out calls k (record { output = record { at = r.next; ok = ok }; needed = r.needed }) out'
cut-put s out room calls k out' r ok made size same put =
    let p = put.text in
    let low : room ≤ 65000 = rw made (roomed-low s.at) in
    let n = rw p.laid at same in
    record {
      line = record {
        waiting = p.place ∙ ap (λ (at : ℕ). at + length (line_of calls k)) made;
        unwritten = λ printed e.
            let h : Ends out room printed = rw made (ends-room e) in
            rw (p.laid, p.place) (ends_more (line_of calls k) h (omega arith) n);
      };
      needed = put.needed;
    }

-- ---- one text after the other

module _ {s : Output} {out : List ℕ} where
  pub prints-none : (f : ℕ → List ℕ) (g : ℕ → ℕ → ℕ) → Prints s out (each 0 f) (up_to 0 g) s out
  unfolding each up_to
  prints-none f g = record { waiting = refl; unwritten = λ printed e. rw append-nil e }

  pub prints-more : {q r : Output} {out' out'' : List ℕ} (f : ℕ → List ℕ) (g : ℕ → ℕ → ℕ) (k : ℕ) → Prints s out (each k f) (up_to k g) q out' → Prints q out' (f k) (g k) r out''
      → Prints s out (each (k + 1) f) (up_to (k + 1) g) r out''
  unfolding each up_to
  prints-more f g k p h =
      rw add-one
      (record {
        waiting = h.waiting ∙ ap (g k) p.waiting;
        unwritten = λ printed e. rw (← append_assoc) (h.unwritten (printed ++ each k f) (p.unwritten printed e));
      })

  pub prints-lines : {r : Output} {out' : List ℕ} (calls : List ℕ) (k : ℕ) → k ≤ needed_by calls → needed_by calls ≤ k
      → Prints s out (each (k + 1) (line_of calls)) (up_to (k + 1) (λ j. with_line (line_of calls j))) r out' → Prints s out (lines_of calls) (with_lines calls) r out'
  unfolding lines_of with_lines
  prints-lines {r} {out'} calls k h l p =
      let e : k ≡ needed_by calls = omega arith in
      subst (λ (j : ℕ). Prints s out (each (j + 1) (line_of calls)) (up_to (j + 1) (λ j. with_line (line_of calls j))) r out') e p

  pub prints-all : {r : Output} {out' : List ℕ} (n i : ℕ) → i ≤ 12 ^ n → 12 ^ n ≤ i
      → Prints s out (each i (λ j. lines_of (sequence n j))) (up_to i (λ j. with_lines (sequence n j))) r out' → Prints s out (listing n) (with_listing n) r out'
  unfolding listing with_listing
  prints-all {r} {out'} n i h l p =
      let e : i ≡ 12 ^ n = omega arith in
      subst (λ (j : ℕ). Prints s out (each j (λ j. lines_of (sequence n j))) (up_to j (λ j. with_lines (sequence n j))) r out') e p

-- ---- the response to any other input

pub mark-ends : (out : List ℕ) → 2 ≤ length out → Ends (set (set out 0 (code "?")) 1 (code "\n")) 2 mark
mark-ends [] h = absurd (omega arith)
mark-ends (a ∷ []) h = absurd (omega arith)
mark-ends (a ∷ b ∷ l) h = record { within = omega arith; bytes = refl }
