-- Words read and stored: at a byte, as word i of an image, and in a part that is lent.
use mathlib.Core.Path.{◌≡◌, sym, ap, ◌∙◌}
use mathlib.Core.List.{List}
use mathlib.Core.Logic.{◌⊎◌, inl, inr}
use Prim.Native.Nat.{ℕ, ◌+◌, ◌*◌, ◌^◌, ◌≤◌, ◌<◌}
use native.Mathlib.Nat.{pow-le-pow_right, lt_of_lt_of_le, zero-lt-suc}
use native.Mathlib.Omega.{arith}
use lib.ListN.{length, drop, length-take}
use lib.Dec.{ltb}
use borrow.Author.Tests.{ltb-true, ltb-false}
use Rattle.bounded.proofs.Tests.{case_on}
use Rattle.words.specs.Words.{le_of, bytes_of, part, over, word_at, put_word, word, store, Bytes}
use Rattle.words.proofs.Bytes.{length-bytes, le_bytes, le-lt, bytes_le, bytes-bytes_of}
use Rattle.words.proofs.Parts.{length_part, part-part, bytes-part, bytes-over, length_over, part-over, drop-over-past, part-over-other, over-same, over-again, over-comm, over-part}

-- ---- at a byte

pub bytes_word : (l : List ℕ) (a : ℕ) → Bytes l → a + 8 ≤ length l → bytes_of 8 (word_at l a) ≡ part l a 8
unfolding word_at
bytes_word l a h k =
    let e : length (part l a 8) ≡ 8 = length_part l a 8 k in
    rw e at (bytes_le (part l a 8) (bytes-part l a 8 h))

put-fits : (l : List ℕ) (a v : ℕ) → a + 8 ≤ length l → a + length (bytes_of 8 v) ≤ length l
put-fits l a v h = rw (length-bytes 8 v) h

pub length-put : (l : List ℕ) (a v : ℕ) → a + 8 ≤ length l → length (put_word l a v) ≡ length l
unfolding put_word
length-put l a v h = length_over l a (bytes_of 8 v) (put-fits l a v h)

part-put : (l : List ℕ) (a v : ℕ) → a + 8 ≤ length l → part (put_word l a v) a 8 ≡ bytes_of 8 v
unfolding put_word
part-put l a v h = rw (length-bytes 8 v) at (part-over l a (bytes_of 8 v) (put-fits l a v h))

part-put-other : (l : List ℕ) (a v b n : ℕ) → a + 8 ≤ length l → (a + 8 ≤ b) ⊎ (b + n ≤ a) → part (put_word l a v) b n ≡ part l b n
unfolding put_word
part-put-other l a v b n h d = part-over-other l a (bytes_of 8 v) (put-fits l a v h) b n (rw (length-bytes 8 v) d)

-- ---- word i of an image

-- different words lie apart
sides : (i j : ℕ) → (i ≡ j → ⊥) → (8 * i + 8 ≤ 8 * j) ⊎ (8 * j + 8 ≤ 8 * i)
sides i j ne =
    case_on (ltb i j)
    (λ t. let l : i < j = ltb-true i j t in inl (omega arith))
    (λ t. let l : j ≤ i = ltb-false i j t in inr (omega arith))

pub word_lt : (l : List ℕ) (i : ℕ) → Bytes l → word l i < 2 ^ 64
unfolding word_at part
word_lt l i h =
    let e : length (part l (8 * i) 8) ≤ 8 = simp length-take (omega arith) in
    lt_of_lt_of_le (le-lt (part l (8 * i) 8) (bytes-part l (8 * i) 8 h)) (pow-le-pow_right (zero-lt-suc 255) e)

pub word-store : (l : List ℕ) (i v : ℕ) → 8 * i + 8 ≤ length l → v < 2 ^ 64 → word (store l i v) i ≡ v
unfolding word_at
word-store l i v h k = ap le_of (part-put l (8 * i) v h) ∙ le_bytes 8 v k

pub word-store-other : (l : List ℕ) (i v j : ℕ) → 8 * i + 8 ≤ length l → (i ≡ j → ⊥) → word (store l i v) j ≡ word l j
unfolding word_at
word-store-other l i v j h ne = ap le_of (part-put-other l (8 * i) v (8 * j) 8 h (sides i j ne))

pub length-store : (l : List ℕ) (i v : ℕ) → 8 * i + 8 ≤ length l → length (store l i v) ≡ length l
length-store l i v h = length-put l (8 * i) v h

pub bytes-store : (l : List ℕ) (i v : ℕ) → Bytes l → Bytes (store l i v)
unfolding put_word
bytes-store l i v h = bytes-over l (8 * i) (bytes_of 8 v) h (bytes-bytes_of 8 v)

-- the word that is there, stored again
pub store_same : (l : List ℕ) (i : ℕ) → Bytes l → 8 * i + 8 ≤ length l → store l i (word l i) ≡ l
unfolding put_word
store_same l i b h = ap (over l (8 * i)) (bytes_word l (8 * i) b h) ∙ over-same l (8 * i) 8 h

pub store-store : (l : List ℕ) (i v w : ℕ) → 8 * i + 8 ≤ length l → store (store l i v) i w ≡ store l i w
unfolding put_word
store-store l i v w h =
    over-again l (8 * i) (bytes_of 8 v) (bytes_of 8 w) (length-bytes 8 v ∙ sym (length-bytes 8 w)) (put-fits l (8 * i) w h)

pub store-comm : (l : List ℕ) (i v j w : ℕ) → 8 * i + 8 ≤ length l → 8 * j + 8 ≤ length l → (i ≡ j → ⊥)
    → store (store l i v) j w ≡ store (store l j w) i v
unfolding put_word
store-comm l i v j w h k ne =
    over-comm l (8 * i) (bytes_of 8 v) (8 * j) (bytes_of 8 w) (put-fits l (8 * i) v h) (put-fits l (8 * j) w k)
    (rw (length-bytes 8 v, length-bytes 8 w) (sides i j ne))

pub drop-store : (l : List ℕ) (i v n : ℕ) → 8 * i + 8 ≤ length l → 8 * i + 8 ≤ n → drop n (store l i v) ≡ drop n l
unfolding put_word
drop-store l i v n h k = drop-over-past l (8 * i) (bytes_of 8 v) (put-fits l (8 * i) v h) n (rw (length-bytes 8 v) k)

-- ---- in a part

pub word-part : (l : List ℕ) (a n o : ℕ) → o + 8 ≤ n → a + n ≤ length l → word_at (part l a n) o ≡ word_at l (a + o)
unfolding word_at
word-part l a n o h k = ap le_of (part-part l a n o 8 h k)

put-part : (l : List ℕ) (a n o v : ℕ) → o + 8 ≤ n → a + n ≤ length l → over l a (put_word (part l a n) o v) ≡ put_word l (a + o) v
unfolding put_word
put-part l a n o v h k = over-part l a n o (bytes_of 8 v) k (rw (length-bytes 8 v) h)
