-- What decimals promises of a text, as a text put.
use Prim.Native.Nat.{ℕ, ◌+◌}
use mathlib.Core.List.{List}
use mathlib.Core.Path.{◌≡◌}
use lib.ListN.{length}
use Rattle.words.specs.Words.{over}
use Rattle.number_text.specs.Text.{Put}

pub as-put : {l xs m : List ℕ} {a b : ℕ} → (m ≡ over l a xs) × (b ≡ a + length xs) → Put l a xs m b
as-put h = record { laid = h.0; place = h.1 }
