-- Words of an image: a run of bytes as a number, the bytes of a number, a part of a list, and the words of a list of bytes.
use Rattle.std.specs.Prelude.{ℕ, zero, suc, ◌+◌, ◌*◌, ◌/◌, ◌%◌, ◌<◌, List, [], ◌∷◌, ◌++◌, length, take, drop, get_or}

-- the number that bytes make, the lowest first
unfoldable pub le_of : List ℕ → ℕ
le_of [] = 0
le_of (b ∷ bs) = b + 256 * le_of bs

-- the n lowest bytes of v, the lowest first
unfoldable pub bytes_of : ℕ → ℕ → List ℕ
bytes_of zero v = []
bytes_of (suc n) v = v % 256 ∷ bytes_of n (v / 256)

-- every element of l is a byte
abbrev pub Bytes : List ℕ → Type 0
Bytes l = (i : ℕ) → get_or l i 0 < 256

-- the n elements of l from a on
unfoldable pub part : List ℕ → ℕ → ℕ → List ℕ
part l a n = take n (drop a l)

-- l with ys laid over it from a on
unfoldable pub over : List ℕ → ℕ → List ℕ → List ℕ
over l a ys = take a l ++ (ys ++ drop (length ys) (drop a l))

-- the 8 bytes at byte a as a number, and l with the 8 bytes of v at byte a
unfoldable pub word_at : List ℕ → ℕ → ℕ
word_at l a = le_of (part l a 8)

unfoldable pub put_word : List ℕ → ℕ → ℕ → List ℕ
put_word l a v = over l a (bytes_of 8 v)

-- word i of an image, at byte 8 i, and the image with v stored there
abbrev pub word : List ℕ → ℕ → ℕ
word l i = word_at l (8 * i)

abbrev pub store : List ℕ → ℕ → ℕ → List ℕ
store l i v = put_word l (8 * i) v

-- the n words from byte a on, and l with the words vs put from byte a on, one after the other
unfoldable pub words_at : List ℕ → ℕ → ℕ → List ℕ
words_at l a zero = []
words_at l a (suc n) = word_at l a ∷ words_at l (a + 8) n

unfoldable pub put_words : List ℕ → ℕ → List ℕ → List ℕ
put_words l a [] = l
put_words l a (v ∷ vs) = put_words (put_word l a v) (a + 8) vs

-- the bytes of words, one after the other
unfoldable pub flat : List ℕ → List ℕ
flat [] = []
flat (v ∷ vs) = bytes_of 8 v ++ flat vs
