-- The entries of a wide transaction (document 02, L14): nine words each, page × 64 + line, then the line. The first word is the entry's key.
use Rattle.std.specs.Prelude.{ℕ, ◌+◌, ◌*◌, ◌/◌, ◌%◌, min, Bool, ◌&&◌, List, ltb, leb, eqb, get_or, replicate}
use Rattle.bounded.specs.Below.{all_below, first_below}
use Rattle.bounded.specs.Tab.{filled}
use Rattle.layout.specs.declared.Sizes.{Sizes}
use Rattle.layout.specs.Layout.{entry_word}

abbrev pub key_of : ℕ → ℕ → ℕ
key_of p l = 64 * p + l

abbrev pub key_page : ℕ → ℕ
key_page k = k / 64

abbrev pub key_line : ℕ → ℕ
key_line k = k % 64

-- 64 places for keys, and the keys of the first n entries, as far as there are so many, read through r
abbrev pub no_keys : List ℕ
no_keys = replicate 64 0

unfoldable pub keys_from : (ℕ → ℕ) → Sizes → ℕ → List ℕ
keys_from r z n = filled (min n z.entries) (λ e. r (entry_word z e)) no_keys

-- the first of n entries with key k, n where there is none
abbrev pub entry_of : List ℕ → ℕ → ℕ → ℕ
entry_of keys n k = first_below n (λ e. eqb (get_or keys e 0) k)

-- row 6, of entry e: its page is below P, and no entry before it has its line
abbrev pub key_right : Sizes → List ℕ → ℕ → Bool
key_right z keys e = ltb (key_page (get_or keys e 0)) z.pages && eqb (entry_of keys e (get_or keys e 0)) e

-- of n entries: they are at most L, and each is right
unfoldable pub entries_ok : Sizes → List ℕ → ℕ → Bool
entries_ok z keys n = leb n z.entries && all_below n (key_right z keys)
