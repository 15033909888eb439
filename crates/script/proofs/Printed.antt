-- A line performed, with room for what it prints and without.
use Prim.Native.Nat.{ℕ, ◌+◌, ◌-◌, ◌≤◌}
use mathlib.Core.Bool.{true, false}
use mathlib.Core.List.{List}
use mathlib.Core.Path.{◌≡◌, sym, ◌∙◌}
use lib.Dec.{leb}
use lib.ListN.{length}
use native.Mathlib.Omega.{arith}
use borrow.Author.Tests.{leb-true, leb-false, le-leb, lt-leb}
use Rattle.bounded.proofs.Tests.{case_on}
use Rattle.words.specs.Words.{over}
use Rattle.text.specs.declared.Line.{Line}
use Rattle.text.specs.Fields.{parsed}
use Rattle.printing.specs.Output.{output_line}
use Rattle.executing.specs.Called.{Machine, Turn}
use Rattle.script.specs.Performed.{room, performed}
use Rattle.script.specs.Turns.{turn_of}

-- the test that no sum wraps in
pub room-left : (size at : ℕ) → 67 ≤ size → leb at (size - 67) ≡ leb (at + room) size
room-left size at h =
    case_on (leb at (size - 67))
    (λ t. t ∙ sym (le-leb (at + room) size (omega (arith, leb-true at (size - 67) t))))
    (λ t. t ∙ sym (lt-leb (at + room) size (omega (arith, leb-false at (size - 67) t))))

module _ (m : Machine) (img : List ℕ) (n : ℕ) (line out : List ℕ) (at : ℕ) where
  pub perform-none : leb (at + room) (length out) ≡ false → record { machine = m; end = at; image = img; out = out } ≡ performed m img n line out at
  unfolding performed
  perform-none t = rw t

  pub perform-done : (l : Line) (t : Turn) (put : List ℕ) (end : ℕ) → leb (at + room) (length out) ≡ true
      → l ≡ parsed 9 line → t ≡ turn_of m img l
      → put ≡ over out at (output_line n t.output) → end ≡ at + length (output_line n t.output)
      → record { machine = t.machine; end = end; image = t.image; out = put } ≡ performed m img n line out at
  unfolding performed
  perform-done l t put end h hl ht hp he = rw (h, ← hl, ← ht, ← hp, ← he)
