-- The hash, a byte a turn.
use Prim.Native.Nat.{ℕ, ◌+◌, ◌*◌, ◌%◌, ◌<◌, ◌≤◌}
use mathlib.Core.List.{List}
use mathlib.Core.Path.{◌≡◌, sym, ap, ◌∙◌}
use native.Mathlib.Numerals.{add-one}
use lib.ListN.{length, drop, get_or, drop_of_length-le}
use lib.Seq.{drop-cons}
use Rattle.hashing.specs.Hash.{hash_from, hash_of}

-- what is left of the list, hashed from h, is the hash of all of it
pub hash-turn : (l : List ℕ) (h i : ℕ) → i < length l → hash_from h (drop i l) ≡ hash_of l
    → hash_from ((31 * h + get_or l i 0) % 4294967291) (drop (i + 1) l) ≡ hash_of l
unfolding hash_from
hash-turn l h i k e = rw add-one (sym (ap (hash_from h) (drop-cons l i 0 k)) ∙ e)

pub hash-ends : (l : List ℕ) (h i : ℕ) → length l ≤ i → hash_from h (drop i l) ≡ hash_of l → h ≡ hash_of l
unfolding hash_from
hash-ends l h i k e = sym (ap (hash_from h) (drop_of_length-le l k)) ∙ e
