-- Where the words of an image lie: legal sizes, the regions one after the other, and which words are the same.
-- What is linear in the sizes `omega` finds by itself; of a record it needs `place-lt`.
use mathlib.Core.Path.{◌≡◌}
use mathlib.Core.List.{List, [], ◌∷◌}
use mathlib.Core.Bool.{Bool, true}
use Prim.Native.Nat.{ℕ, ◌+◌, ◌%◌, ◌≤◌, ◌<◌}
use native.Mathlib.Nat.{mod-lt}
use native.Mathlib.Omega.{arith}
use lib.Dec.{leb}
use borrow.Author.Tests.{leb-true, le-leb}
use Rattle.bounded.proofs.Tests.{every_held, held-every}
use Rattle.layout.specs.declared.Sizes.{Sizes}
use Rattle.layout.specs.Layout.{sizes_ok, Legal, frames, page_word, slot_word, place_of, record_word, padding_word, frame_word, line_word, entry_word, image_words, image_length}

-- ---- legal sizes

-- the tests of `sizes_ok`, one by one
abbrev tests : Sizes → List Bool
tests z = leb 1 z.pages ∷ leb z.pages 1024 ∷ leb 1 z.slots ∷ leb z.slots 16 ∷ leb z.slots z.places ∷ leb z.places 256 ∷ leb z.entries 64 ∷ []

pub legal : (z : Sizes) → sizes_ok z ≡ true → Legal z
legal z e =
    let h = every_held (tests z) e in
    omega (arith, leb-true)

pub legal-ok : (z : Sizes) → Legal z → sizes_ok z ≡ true
legal-ok z h = held-every (tests z) (omega (arith, le-leb))

pub place-lt : (z : Sizes) → Legal z → (q : ℕ) → place_of z q < z.places
place-lt z h q = mod-lt q (omega arith)

-- ---- the regions, one after the other

pub page-end : (z : Sizes) (p : ℕ) → p < z.pages → page_word p < slot_word z 0
page-end z p h = omega arith

pub record-end : (z : Sizes) → Legal z → (q : ℕ) → record_word z q + 4 ≤ padding_word z
record-end z h q = omega (arith, place-lt z h q)

pub frame-start : (z : Sizes) → (padding_word z ≤ frame_word z) × (frame_word z < padding_word z + 8) × (frame_word z % 8 ≡ 0)
frame-start z = omega arith

-- the frames end where the entries start
pub line-end : (z : Sizes) (f l : ℕ) → f < frames z → l < 64 → line_word z f l + 8 ≤ entry_word z 0
line-end z f l h k = omega arith

pub entry-end : (z : Sizes) (e : ℕ) → e < z.entries → entry_word z e + 9 ≤ image_words z
entry-end z e h = omega arith

pub image-length : (z : Sizes) → Legal z → image_length z ≤ 4281280
image-length z h = omega arith

-- ---- the same word is the same word of the same thing

pub slot_apart : (z : Sizes) (s k t n : ℕ) → k < 3 → n < 3 → slot_word z s + k ≡ slot_word z t + n → (s ≡ t) × (k ≡ n)
slot_apart z s k t n a b e =
    let p : s ≡ t = omega arith in
    (p, omega arith)

pub record_apart : (z : Sizes) (q k r n : ℕ) → k < 4 → n < 4 → record_word z q + k ≡ record_word z r + n → (place_of z q ≡ place_of z r) × (k ≡ n)
record_apart z q k r n a b e =
    let p : place_of z q ≡ place_of z r = omega arith in
    (p, omega arith)

pub line-apart : (z : Sizes) (f l k g m n : ℕ) → l < 64 → m < 64 → k < 8 → n < 8 → line_word z f l + k ≡ line_word z g m + n → (f ≡ g) × (l ≡ m) × (k ≡ n)
line-apart z f l k g m n a b c d e =
    let p : f ≡ g = omega arith in
    let q : l ≡ m = omega arith in
    (p, q, omega arith)

pub entry-apart : (z : Sizes) (e k d n : ℕ) → k < 9 → n < 9 → entry_word z e + k ≡ entry_word z d + n → (e ≡ d) × (k ≡ n)
entry-apart z e k d n a b h =
    let p : e ≡ d = omega arith in
    (p, omega arith)
