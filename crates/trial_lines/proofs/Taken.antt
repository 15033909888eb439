-- A line that is taken, and the response.
use Prim.Native.Nat.{ℕ, ◌+◌, ◌≤◌, ◌%◌}
use mathlib.Core.Bool.{Bool, true, false, not, ◌&&◌, ◌||◌}
use mathlib.Core.List.{List, [], ◌∷◌, ◌++◌}
use mathlib.Core.Path.{◌≡◌, refl}
use native.Mathlib.Omega.{arith}
use lib.Dec.{ltb, leb, eqb}
use lib.ListN.{length, take, replicate, length-append, length-take, length-replicate}
use borrow.Author.Tests.{eq-eqb, ne_eqb, ltb-false}
use Rattle.bounded.proofs.Tests.{case_on, or_right}
use Rattle.refinement.specs.Calls.{world_of}
use Rattle.state_words.specs.Decoded.{decoded}
use Rattle.text.specs.declared.Line.{Line}
use Rattle.text.specs.Fields.{fields, all_numbers, line_of, parsed}
use Rattle.decimals.proofs.Printing.{decimal-le}
use Rattle.number_text.specs.Text.{field}
use Rattle.trials.specs.declared.Spent.{Spent}
use Rattle.trials.specs.Trials.{Tried, untried, formatted, as_abandoned, played}
use Rattle.trial_lines.specs.Lines.{Work, first, sizes_of, with_setting, with_round, acted, spent_text}

pub first-told : (t : Tried) (img : List ℕ) → t ≡ untried (world_of (decoded (replicate 1280 0)) img) → record { tried = t; lines = 0; set = false } ≡ first img
unfolding first
first-told t img e = rw e

-- ---- a line of numbers q

module _ (q q' : Line) (w : Work) (e : q ≡ q') where
  pub setting-none : (q.count ≡ 3 → ⊥) → record { tried = w.tried; lines = 1; set = false } ≡ with_setting q' w
  unfolding with_setting
  setting-none h = rw (← e, ne_eqb q.count 3 h)

  pub setting-given : q.count ≡ 3 → (t : Tried) → t ≡ formatted (sizes_of q) w.tried.world
      → record { tried = t; lines = 1; set = eqb t.number 0 } ≡ with_setting q' w
  unfolding with_setting
  setting-given h t f = rw (← e, eq-eqb q.count 3 h, ← f)

  pub round-none : ltb q.count 1 || ltb 64 q.count ≡ true → (t : Tried) → t ≡ as_abandoned w.tried
      → record { tried = t; lines = w.lines + 1; set = w.set } ≡ with_round q' w
  unfolding with_round
  round-none h t f = rw (← e, h, f)

  pub round-given : ltb q.count 1 || ltb 64 q.count ≡ false → (t : Tried) → t ≡ played (take q.count q.numbers) (w.lines % 256) w.tried
      → record { tried = t; lines = w.lines + 1; set = w.set } ≡ with_round q' w
  unfolding with_round
  round-given h t f = rw (← e, h, f)

-- its pages stand in an array of 69 numbers
length-numbers : (digits : ℕ) (fs : List (List ℕ)) → length (line_of digits fs).numbers ≡ 69
unfolding line_of
length-numbers digits [] = refl
length-numbers digits (name ∷ rest) =
    case_on (eqb (length name) 1 && all_numbers digits rest && leb (length rest) 69)
    (λ t. rw t (simp (length-take, length-append, length-replicate) (omega arith)))
    (λ t. rw t)

pub pages-room : (q : Line) (text : List ℕ) → q ≡ parsed 9 text → length q.numbers ≡ 69
unfolding parsed
pages-room q text e = rw e (length-numbers 9 (fields text))

pub few-pages : (n m : ℕ) → ltb n 1 || ltb 64 n ≡ false → m ≡ 69 → n ≤ m
few-pages n m h e = omega (arith, ltb-false 64 n (or_right (ltb n 1) (ltb 64 n) h), e)

-- ---- which line it is

module _ (q : Line) (w : Work) where
  pub acted-first : w.lines ≡ 0 → (r : Work) → r ≡ with_setting q w → r ≡ acted q w
  unfolding acted
  acted-first h r e = rw (eq-eqb w.lines 0 h) e

  pub acted-unread : (w.lines ≡ 0 → ⊥) → not w.set || ltb 1000 w.lines ≡ true → w ≡ acted q w
  unfolding acted
  acted-unread h k = rw (ne_eqb w.lines 0 h, k)

  pub acted-round : (w.lines ≡ 0 → ⊥) → not w.set || ltb 1000 w.lines ≡ false → (r : Work) → r ≡ with_round q w → r ≡ acted q w
  unfolding acted
  acted-round h k r e = rw (ne_eqb w.lines 0 h, k) e

pub unread-low : (b : Bool) (n : ℕ) → not b || ltb 1000 n ≡ false → n ≤ 1000
unread-low b n h = ltb-false 1000 n (or_right (not b) (ltb 1000 n) h)

-- ---- the response

pub length-spent : (s : Spent) → length (spent_text s) ≤ 84
length-spent s =
    omega (
      arith,
      length-append (field s.written) (field s.journal ++ (field s.copies ++ field s.tables)),
      length-append (field s.journal) (field s.copies ++ field s.tables),
      length-append (field s.copies) (field s.tables),
      decimal-le s.written,
      decimal-le s.journal,
      decimal-le s.copies,
      decimal-le s.tables,
    )
