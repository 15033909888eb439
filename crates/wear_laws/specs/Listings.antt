-- The stores in powerhit's listings, read from the text that it prints, are the stores that are counted: by the part of the image that they go to, and by
-- whether a W line made them.
use Rattle.std.specs.Prelude.{ℕ, ◌+◌, cond, List, [], ◌∷◌, ◌≡◌, get_or, replicate}
use Rattle.cutting.specs.Feeding.{fed, ended}
use Rattle.text.specs.Fields.{fields, all_digits, value_from}
use Rattle.script.specs.Work.{act, opening}
use Rattle.wear_laws.specs.Inputs.{unfed, number, inputs_of}

-- what powerhit prints for an input, with a buffer of so many zeros
abbrev pub listing : ℕ → List ℕ → List ℕ
listing size input = (ended act (fed act (unfed (opening (replicate size 0))) input)).printed

-- the stores that a line of a listing tells: its fourth field, which in the heading is no number
abbrev pub number_in : List ℕ → ℕ
number_in field = cond (all_digits field) (value_from 0 field) 0

abbrev pub told : List ℕ → ℕ
told line = number_in (get_or (fields line) 3 [])

-- all its lines'
abbrev pub tells : ℕ → List ℕ → ℕ
tells sum line = sum + told line

abbrev pub stores_told : List ℕ → ℕ
stores_told text = ended tells (fed tells (unfed 0) text)

-- those in the listings of some inputs
unfoldable pub all_told : ℕ → List (List ℕ) → ℕ
all_told size [] = 0
all_told size (input ∷ inputs) = stores_told (listing size input) + all_told size inputs

-- frames, header, tables, journal and padding; then not by W lines and by W lines
pub record Told (size : ℕ) (input : List ℕ) : Type 0 where
  pub parts : number size input 15 + number size input 16 + number size input 17 + number size input 18 + number size input 19 ≡ all_told size (inputs_of input)
  pub writers : number size input 20 + number size input 21 ≡ all_told size (inputs_of input)

-- of every input, in a buffer of any length
abbrev pub StoresTold : Type 0
StoresTold = (size : ℕ) (input : List ℕ) → Told size input
