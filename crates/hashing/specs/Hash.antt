-- A hash of bytes: h starts 0, h := (31 h + byte) mod 4,294,967,291.
use Rattle.std.specs.Prelude.{ℕ, ◌+◌, ◌*◌, ◌%◌, List, [], ◌∷◌}

unfoldable pub hash_from : ℕ → List ℕ → ℕ
hash_from h [] = h
hash_from h (b ∷ bs) = hash_from ((31 * h + b) % 4294967291) bs

abbrev pub hash_of : List ℕ → ℕ
hash_of bytes = hash_from 0 bytes
