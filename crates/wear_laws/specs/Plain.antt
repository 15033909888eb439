-- The 22 numbers that are printed are the plain sums: a line makes at most 535,161 stores, so that below 2^44 lines no sum reaches 2^64.
use Rattle.std.specs.Prelude.{ℕ, ◌*◌, ◌^◌, ◌<◌, ◌≤◌, List, [], ◌∷◌, ◌++◌, ◌≡◌}
use Prim.Native.Char.{code}
use Rattle.decimals.specs.Decimal.{decimal_of}
use Rattle.number_text.specs.Text.{each}
use Rattle.wear_lines.specs.Lines.{response}
use Rattle.wear_laws.specs.Inputs.{worked, number, lines_of}

-- of any input
abbrev pub NumbersLow : Type 0
NumbersLow = (size : ℕ) (input : List ℕ) (k : ℕ) → k < 22 → number size input k ≤ 535161 * lines_of input

-- one with at most 2^44 lines
abbrev pub Few : List ℕ → Type 0
Few input = lines_of input ≤ 2 ^ 44

abbrev pub PrintedPlain : Type 0
PrintedPlain =
    (size : ℕ) (input : List ℕ) → Few input → response (worked size input) ≡ each 22 (λ k. decimal_of (number size input k) ++ (code "\n" ∷ []))
