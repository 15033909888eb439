-- Words in a row: the words of a list of bytes, the bytes of words, and words put one after the other.
use mathlib.Core.Path.{◌≡◌, refl, sym, ap, ap₂, ◌∙◌}
use mathlib.Core.List.{List, [], ◌∷◌, ◌++◌}
use Prim.Native.Nat.{ℕ, zero, suc, ◌+◌, ◌*◌, ◌^◌, ◌≤◌, ◌<◌}
use native.Mathlib.Numerals.{add-one}
use native.Mathlib.Omega.{arith}
use lib.ListN.{length, take, drop, get_or, length-append, replicate, length-replicate, replicate-append-replicate}
use lib.Seq.{take-add, take_at, drop-drop, drop-append-add}
use Rattle.bounded.specs.Tab.{tab}
use Rattle.words.specs.Words.{le_of, bytes_of, part, over, word_at, put_word, Bytes, flat, words_at, put_words}
use Rattle.words.proofs.Bytes.{length-bytes, le_bytes}
use Rattle.words.proofs.Parts.{over-nil, over-over}
use Rattle.words.proofs.WordLaws.{bytes_word, length-put}

-- ---- bytes to words and back

pub length-flat : (vs : List ℕ) → length (flat vs) ≡ 8 * length vs
unfolding flat
length-flat [] = refl
length-flat (v ∷ vs) = omega (arith, length-append (bytes_of 8 v) (flat vs), length-bytes 8 v, length-flat vs)

pub length-words : (l : List ℕ) (n a : ℕ) → length (words_at l a n) ≡ n
unfolding words_at
length-words l zero a = refl
length-words l (suc n) a = ap suc (length-words l n (a + 8))

-- the bytes of the words that a list of bytes has are those bytes
pub flat-words : (l : List ℕ) → Bytes l → (n a : ℕ) → a + 8 * n ≤ length l → flat (words_at l a n) ≡ part l a (8 * n)
unfolding words_at flat part
flat-words l b zero a h = refl
flat-words l b (suc n) a h =
    let e : 8 * suc n ≡ 8 + 8 * n = omega arith in
    ap₂ (λ (t u : List ℕ). t ++ u) (bytes_word l a b (omega arith)) (flat-words l b n (a + 8) (omega arith))
    ∙ ap (λ (t : List ℕ). take 8 (drop a l) ++ take (8 * n) t) (sym (drop-drop 8 a l))
    ∙ sym (take-add 8 (8 * n) (drop a l))
    ∙ ap (λ (k : ℕ). take k (drop a l)) (sym e)

-- words past what stands before them
words-past : (xs l : List ℕ) (n a : ℕ) → words_at (xs ++ l) (length xs + a) n ≡ words_at l a n
unfolding words_at word_at part
words-past xs l zero a = refl
words-past xs l (suc n) a =
    let e : length xs + a + 8 ≡ length xs + (a + 8) = omega arith in
    ap₂ (λ (v : ℕ) (t : List ℕ). v ∷ t)
    (ap (λ (t : List ℕ). le_of (take 8 t)) (drop-append-add xs l a))
    (ap (λ (k : ℕ). words_at (xs ++ l) k n) e ∙ words-past xs l n (a + 8))

word_first : (v : ℕ) (l : List ℕ) → v < 2 ^ 64 → word_at (bytes_of 8 v ++ l) 0 ≡ v
unfolding word_at part
word_first v l h = ap le_of (take_at (bytes_of 8 v) l 8 (length-bytes 8 v)) ∙ le_bytes 8 v h

-- the words of the bytes that words have are those words
pub words-flat : (vs : List ℕ) → ((i : ℕ) → get_or vs i 0 < 2 ^ 64) → words_at (flat vs) 0 (length vs) ≡ vs
unfolding words_at flat
words-flat [] h = refl
words-flat (v ∷ vs) h =
    let e : 0 + 8 ≡ length (bytes_of 8 v) + 0 = omega (arith, length-bytes 8 v) in
    ap₂ (λ (w : ℕ) (t : List ℕ). w ∷ t)
    (word_first v (flat vs) (h 0))
    (ap (λ (k : ℕ). words_at (bytes_of 8 v ++ flat vs) k (length vs)) e
    ∙ words-past (bytes_of 8 v) (flat vs) (length vs) 0
    ∙ words-flat vs (λ i. h (suc i)))

-- one word more, and by place
words_more : (l : List ℕ) (n a : ℕ) → words_at l a (suc n) ≡ words_at l a n ++ (word_at l (a + 8 * n) ∷ [])
unfolding words_at
words_more l zero a =
    let e : a ≡ a + 8 * 0 = omega arith in
    ap (λ (k : ℕ). word_at l k ∷ []) e
words_more l (suc n) a =
    let e : a + 8 + 8 * n ≡ a + 8 * suc n = omega arith in
    ap (λ (t : List ℕ). word_at l a ∷ t) (words_more l n (a + 8) ∙ ap (λ (k : ℕ). words_at l (a + 8) n ++ (word_at l k ∷ [])) e)

pub words-tab : (l : List ℕ) (a n : ℕ) → words_at l a n ≡ tab n (λ k. word_at l (a + 8 * k))
unfolding tab words_at
words-tab l a zero = refl
words-tab l a (suc n) = words_more l n a ∙ ap (λ (t : List ℕ). t ++ (word_at l (a + 8 * n) ∷ [])) (words-tab l a n)

-- ---- words put one after the other

put-over : (l : List ℕ) (a v : ℕ) (ys : List ℕ) → a + 8 ≤ length l → over (put_word l a v) (a + 8) ys ≡ over l a (bytes_of 8 v ++ ys)
unfolding put_word bytes_of
put-over l a v ys h = over-over l a (bytes_of 8 v) ys h

-- they lay their bytes over the list
words-over : (vs l : List ℕ) (a : ℕ) → a + 8 * length vs ≤ length l → put_words l a vs ≡ over l a (flat vs)
unfolding put_words flat
words-over [] l a h = sym (over-nil l a)
words-over (v ∷ vs) l a h =
    let k : a + 8 ≤ length l = omega arith in
    words-over vs (put_word l a v) (a + 8) (omega (arith, length-put l a v k)) ∙ put-over l a v (flat vs) k

-- one word more
puts-more : (vs l : List ℕ) (a v : ℕ) → put_words l a (vs ++ (v ∷ [])) ≡ put_word (put_words l a vs) (a + 8 * length vs) v
unfolding put_words
puts-more [] l a v =
    let e : a ≡ a + 8 * 0 = omega arith in
    ap (λ (k : ℕ). put_word l k v) e
puts-more (w ∷ vs) l a v =
    let e : a + 8 + 8 * length vs ≡ a + 8 * length (w ∷ vs) = omega arith in
    puts-more vs (put_word l a w) (a + 8) v ∙ ap (λ (k : ℕ). put_word (put_words (put_word l a w) (a + 8) vs) k v) e

-- a loop that puts one word n times, and one that copies words: a turn, and what the copy comes to
pub puts-replicate : (l : List ℕ) (a v i : ℕ) → put_word (put_words l a (replicate i v)) (a + 8 * i) v ≡ put_words l a (replicate (i + 1) v)
puts-replicate l a v i =
    ap (λ (k : ℕ). put_word (put_words l a (replicate i v)) (a + 8 * k) v) (sym (length-replicate i v))
    ∙ sym (puts-more (replicate i v) l a v)
    ∙ ap (put_words l a) (replicate-append-replicate i 1 v)

pub puts-words : (d : List ℕ) (to : ℕ) (l : List ℕ) (from i : ℕ)
    → put_word (put_words d to (words_at l from i)) (to + 8 * i) (word_at l (from + 8 * i)) ≡ put_words d to (words_at l from (i + 1))
puts-words d to l from i =
    ap (λ (k : ℕ). put_word (put_words d to (words_at l from i)) (to + 8 * k) (word_at l (from + 8 * i))) (sym (length-words l i from))
    ∙ sym (puts-more (words_at l from i) d to (word_at l (from + 8 * i)))
    ∙ ap (put_words d to) (sym (words_more l i from) ∙ ap (words_at l from) (sym (add-one i)))

pub puts-copied : (d : List ℕ) (to : ℕ) (l : List ℕ) (from n : ℕ) → Bytes l → to + 8 * n ≤ length d → from + 8 * n ≤ length l
    → put_words d to (words_at l from n) ≡ over d to (part l from (8 * n))
puts-copied d to l from n b h k =
    words-over (words_at l from n) d to (omega (arith, length-words l n from)) ∙ ap (over d to) (flat-words l b n from k)
