-- No number comes near 2^64.
use Prim.Native.Nat.{ℕ, zero, suc, ◌+◌, ◌*◌, ◌%◌, ◌^◌, ◌<◌, ◌≤◌}
use Prim.Native.Char.{code}
use mathlib.Core.List.{List, [], ◌∷◌, ◌++◌}
use mathlib.Core.Path.{◌≡◌, refl, ap, ap₂}
use native.Mathlib.Omega.{arith}
use lib.ListN.{get_or}
use Rattle.bounded.proofs.Tests.{case_on}
use Rattle.bounded.proofs.Tab.{get_or-tab}
use Rattle.replay.proofs.Tables.{one_value}
use Rattle.decimals.specs.Decimal.{decimal_of}
use Rattle.number_text.specs.Text.{each}
use Rattle.text.specs.Fields.{parsed}
use Rattle.printing.specs.declared.Output.{Output}
use Rattle.printing.specs.declared.Output.TheVariants.{Answered, Shown, Unknown}
use Rattle.script.specs.Turns.{turn_of}
use Rattle.wear.specs.Wear.{stores_in, line_wear}
use Rattle.wear_lines.specs.Lines.{Work, opening, first, turned, parts, act, number_line, response}
use Rattle.wear_laws.specs.Inputs.{number}
use Rattle.wear_laws.specs.Plain.{NumbersLow, PrintedPlain}
use Rattle.wear_laws.proofs.Beside.{two}
use Rattle.wear_laws.proofs.Counted.{line_low}
use Rattle.wear_laws.proofs.Turned.{Readable, turn-readable}

-- a line's stores
told-low : (o : Output) → Readable o → stores_in o ≤ 535161
told-low (Answered letter number stores) h = h.1
told-low (Shown byte) h = omega arith
told-low Unknown h = omega arith

-- number k after so many lines
module _ (k : ℕ) (low : k < 22) where
  abbrev Low : Work → ℕ → Type 0
  Low w n = get_or w.worn k 0 ≤ 535161 * n

  turned-low : (w : Work) (n : ℕ) (line : List ℕ) → Low w n → Low (turned (parsed 9 line) w) (n + 1)
  unfolding turned
  turned-low w n line h =
      let q = parsed 9 line in
      let m = w.machine in
      let img = w.image in
      let e = get_or-tab 22 (λ (j : ℕ). get_or w.worn j 0 + line_wear m img q j) k 0 low in
      omega (arith, e, line_low m img q k, told-low (turn_of m img q).output (turn-readable m img q), h)

  act-low : (w : Work) (n : ℕ) (line : List ℕ) → Low w n → Low (act w line) (n + 1)
  unfolding act opening
  act-low w n line h = case_on (parts line) (λ t. rw t (omega (arith, h))) (λ t. rw t (turned-low w n line h))

  none-low : (size : ℕ) → Low (first size) 0
  unfolding opening
  none-low size = omega (arith, one_value 22 k 0)

pub numbers-low : NumbersLow
numbers-low size input k low = two act (λ (n : ℕ) line. n + 1) (Low k low) (act-low k low) input [] (first size) 0 (none-low k low size)

-- ---- what is printed

each_same : (n : ℕ) (f g : ℕ → List ℕ) → ((k : ℕ) → k < n → f k ≡ g k) → each n f ≡ each n g
unfolding each
each_same zero f g h = refl
each_same (suc n) f g h = ap₂ ◌++◌ (each_same n f g (λ k l. h k (omega arith))) (h n (omega arith))

same_number : (v : ℕ) → v < 2 ^ 64 → number_line v ≡ decimal_of v ++ (code "\n" ∷ [])
same_number v l = let e : v % 2 ^ 64 ≡ v = omega arith in ap (λ (x : ℕ). decimal_of x ++ (code "\n" ∷ [])) e

pub printed-plain : PrintedPlain
unfolding response
printed-plain size input few =
    each_same 22 (λ k. number_line (number size input k)) (λ k. decimal_of (number size input k) ++ (code "\n" ∷ []))
    (λ k l. same_number (number size input k) (omega (arith, numbers-low size input k l)))
