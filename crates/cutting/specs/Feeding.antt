-- A program that is fed bytes, in pieces of any size, and acts on each line.
use Rattle.std.specs.Prelude.{ℕ, cond, List, [], ◌∷◌, ◌++◌, eqb, length}

-- what was done for the lines that have ended, and what has come of the next one
pub record Fed (W : Type 0) : Type 0 where
  pub done : W
  pub begun : List ℕ

-- one byte more; a newline ends the line
unfoldable pub fed_byte : {W : Type 0} → (W → List ℕ → W) → Fed W → ℕ → Fed W
fed_byte act f b =
    cond (eqb b 10)
    (record { done = act f.done f.begun; begun = [] })
    (record { done = f.done; begun = f.begun ++ (b ∷ []) })

unfoldable pub fed : {W : Type 0} → (W → List ℕ → W) → Fed W → List ℕ → Fed W
fed act f [] = f
fed act f (b ∷ bs) = fed act (fed_byte act f b) bs

-- at the input's end a last line that no newline ends is acted on too
unfoldable pub ended : {W : Type 0} → (W → List ℕ → W) → Fed W → W
ended act f = cond (eqb (length f.begun) 0) f.done (act f.done f.begun)
