-- A field that is read byte by byte, by the digits that it has so far.
use Rattle.std.specs.Prelude.{ℕ, ◌+◌, ◌-◌, ◌*◌, ◌^◌, Bool, ◌&&◌, ltb, leb}

-- whether byte b can follow n digits of value v
unfoldable pub takes : ℕ → ℕ → ℕ → ℕ → Bool
takes digits n v b = leb 48 b && leb b 57 && ltb n digits && ltb (10 * v + (b - 48)) (2 ^ 64)

-- whether n digits are a number that can stand after `count` others
abbrev pub closes : ℕ → ℕ → Bool
closes n count = ltb 0 n && ltb count 69
