-- A witness of the laws of this crate: two inputs, of which the first formats, stores one copy whole and one cut short.
use Rattle.std.specs.Prelude.{ℕ, List, [], ◌∷◌, ◌≡◌}
use Rattle.script.specs.Listing.{text}
use Rattle.wear_laws.specs.Inputs.{worked, inputs_of}
use Rattle.wear_laws.specs.Listings.{all_told}
use Rattle.wear_laws.specs.Plain.{Few}
use Rattle.wear_laws.specs.Copies.{cut_to, summed, any_frame}

abbrev pub size : ℕ
size = 8320

abbrev pub format_line : List ℕ
format_line = text "F,1,1,1"

abbrev pub others : List ℕ
others = text "B,0\nW,0,0,0,0,1,165\nK,3\nW,0,0,1,0,1,165\n=\nB,0\n"

abbrev pub input : List ℕ
input = text "F,1,1,1\nB,0\nW,0,0,0,0,1,165\nK,3\nW,0,0,1,0,1,165\n=\nB,0\n"

-- frames 0 and 1; frames, header, tables, journal, padding; not by W lines and by W lines
abbrev pub numbers : List ℕ
numbers = 64 ∷ 65 ∷ 0 ∷ 0 ∷ 0 ∷ 0 ∷ 0 ∷ 0 ∷ 0 ∷ 0 ∷ 0 ∷ 0 ∷ 0 ∷ 0 ∷ 0 ∷ 1035 ∷ 9 ∷ 4 ∷ 4 ∷ 0 ∷ 1041 ∷ 11 ∷ []

pub record CopyCut : Type 0 where
  pub worn : (worked size input).worn ≡ numbers
  pub few : Few input
  pub told : all_told size (inputs_of input) ≡ 1052
  pub cut : summed (cut_to any_frame) size input ≡ 3
