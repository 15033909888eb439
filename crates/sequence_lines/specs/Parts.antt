-- What the code puts: numbers each followed by a comma, and a line.
use Rattle.std.specs.Prelude.{ℕ, List, [], ◌∷◌, ◌++◌, ◌≡◌}
use Prim.Native.Char.{code}
use Rattle.number_text.specs.Text.{Put}
use Rattle.sequence_lines.specs.declared.Line.{Line}
use Rattle.sequence_lines.specs.Listing.{marked, line_of, needed_by}

unfoldable pub followed : List ℕ → List ℕ
followed [] = []
followed (v ∷ vs) = marked v (code ",") ++ followed vs

-- the line of a sequence, put, and the stores that its last call needs
pub record PutLine (out : List ℕ) (at : ℕ) (calls : List ℕ) (k : ℕ) (out' : List ℕ) (r : Line) : Type 0 where
  pub text : Put out at (line_of calls k) out' r.next
  pub needed : r.needed ≡ needed_by calls
