-- What a load returns, and what it reads of page 0.
use Rattle.std.specs.Prelude.{ℕ, Bool, List, leb, replicate, Result, Ok, Err}
use Rattle.rows.specs.declared.Refusal.{Refusal}
use Rattle.rows.specs.Numbers.{number}
use Rattle.words.specs.Words.{word_at}
use Rattle.layout.specs.declared.Sizes.{Sizes}
use Rattle.image.specs.Lines.{line_bytes}
use Rattle.meters.specs.Meters.{modulus_of}
use Rattle.state.specs.State.{State, own_frame}
use Rattle.refinement.specs.Frames.{frame_of}
use Rattle.refinement.specs.Calls.{Loading}

-- a refused load gives zeros, which no event takes
abbrev pub loaded_of : Result (List ℕ) Refusal → Loading
loaded_of (Ok ms) = record { number = 0; moduli = ms }
loaded_of (Err r) = record { number = number r; moduli = replicate 24 0 }

-- row 27: meter m is not below its modulus
abbrev pub meter_high : Sizes → List ℕ → State → List ℕ → ℕ → Bool
meter_high z img st ms m = leb (modulus_of ms m) (word_at (line_bytes img z (frame_of (own_frame st) z st.table 0 m) m) 0)
