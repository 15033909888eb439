-- Words put one after the other: one word more of a list by its places, and the bytes they come to.
use mathlib.Core.Path.{◌≡◌, refl, sym, ap, ◌∙◌}
use mathlib.Core.List.{List, [], ◌∷◌, ◌++◌}
use Prim.Native.Nat.{ℕ, ◌+◌, ◌*◌, ◌≤◌}
use native.Mathlib.Numerals.{add-one}
use native.Mathlib.Omega.{arith}
use lib.ListN.{length}
use Rattle.bounded.specs.Tab.{tab}
use Rattle.bounded.proofs.Tab.{length-tab}
use Rattle.words.specs.Words.{bytes_of, over, put_word, flat, put_words}
use Rattle.words.proofs.Parts.{over-nil, over-over}
use Rattle.words.proofs.WordLaws.{length-put}

pub puts-append : (xs ys l : List ℕ) (a : ℕ) → put_words l a (xs ++ ys) ≡ put_words (put_words l a xs) (a + 8 * length xs) ys
unfolding put_words
puts-append [] ys l a =
    let e : a ≡ a + 8 * 0 = omega arith in
    ap (λ (k : ℕ). put_words l k ys) e
puts-append (v ∷ xs) ys l a =
    let e : a + 8 + 8 * length xs ≡ a + 8 * length (v ∷ xs) = omega arith in
    puts-append xs ys (put_word l a v) (a + 8) ∙ ap (λ (k : ℕ). put_words (put_words (put_word l a v) (a + 8) xs) k ys) e

-- a loop that puts f 0, f 1, ..: its start and a turn
pub puts_none : (l : List ℕ) (a : ℕ) (f : ℕ → ℕ) → l ≡ put_words l a (tab 0 f)
unfolding tab put_words
puts_none l a f = refl

pub puts-turn : (l m : List ℕ) (a : ℕ) (f : ℕ → ℕ) (i v : ℕ) → m ≡ put_words l a (tab i f) → v ≡ f i → put_word m (a + 8 * i) v ≡ put_words l a (tab (i + 1) f)
unfolding tab put_words
puts-turn l m a f i v e h =
    rw (e, h, add-one)
    (sym (puts-append (tab i f) (f i ∷ []) l a ∙ ap (λ (k : ℕ). put_word (put_words l a (tab i f)) (a + 8 * k) (f i)) (length-tab i f)))

put-over : (l : List ℕ) (a v : ℕ) (ys : List ℕ) → a + 8 ≤ length l → over (put_word l a v) (a + 8) ys ≡ over l a (bytes_of 8 v ++ ys)
unfolding put_word bytes_of
put-over l a v ys h = over-over l a (bytes_of 8 v) ys h

pub words-over : (vs l : List ℕ) (a : ℕ) → a + 8 * length vs ≤ length l → put_words l a vs ≡ over l a (flat vs)
unfolding put_words flat
words-over [] l a h = sym (over-nil l a)
words-over (v ∷ vs) l a h =
    let k : a + 8 ≤ length l = omega arith in
    words-over vs (put_word l a v) (a + 8) (omega (arith, length-put l a v k)) ∙ put-over l a v (flat vs) k
