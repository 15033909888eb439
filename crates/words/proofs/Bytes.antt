-- Numbers and their bytes, and lists whose every element is a byte.
use mathlib.Core.Path.{◌≡◌, refl, ap}
use mathlib.Core.List.{List, [], ◌∷◌, ◌++◌}
use Prim.Native.Nat.{ℕ, zero, suc, ◌+◌, ◌*◌, ◌/◌, ◌%◌, ◌^◌, ◌<◌}
use native.Mathlib.Nat.{pow-suc, div-lt_iff_lt-mul, zero-lt-suc}
use native.Mathlib.Omega.{arith}
use lib.ListN.{length, take, drop, get_or}
use lib.Seq.{get_or-drop}
use Rattle.std.proofs.Common.{w64}
use Rattle.std.specs.Int.{from_le_bytes, to_le_bytes}
use Rattle.words.specs.Words.{le_of, bytes_of, Bytes}

-- a list of 8 elements, one by one
pub eight : (l : List ℕ) → length l ≡ 8 → l ≡ get_or l 0 0 ∷ get_or l 1 0 ∷ get_or l 2 0 ∷ get_or l 3 0 ∷ get_or l 4 0 ∷ get_or l 5 0 ∷ get_or l 6 0 ∷ get_or l 7 0 ∷ []
eight (a ∷ b ∷ c ∷ d ∷ e ∷ f ∷ g ∷ h ∷ []) p = refl
eight [] p = absurd (omega arith)
eight (a ∷ []) p = absurd (omega arith)
eight (a ∷ b ∷ []) p = absurd (omega arith)
eight (a ∷ b ∷ c ∷ []) p = absurd (omega arith)
eight (a ∷ b ∷ c ∷ d ∷ []) p = absurd (omega arith)
eight (a ∷ b ∷ c ∷ d ∷ e ∷ []) p = absurd (omega arith)
eight (a ∷ b ∷ c ∷ d ∷ e ∷ f ∷ []) p = absurd (omega arith)
eight (a ∷ b ∷ c ∷ d ∷ e ∷ f ∷ g ∷ []) p = absurd (omega arith)
eight (a ∷ b ∷ c ∷ d ∷ e ∷ f ∷ g ∷ h ∷ i ∷ l) p = absurd (omega arith)

pub length-bytes : (n v : ℕ) → length (bytes_of n v) ≡ n
unfolding bytes_of
length-bytes zero v = refl
length-bytes (suc n) v = ap suc (length-bytes n (v / 256))

-- a number that fits n bytes is the number that its n bytes make
pub le_bytes : (n v : ℕ) → v < 256 ^ n → le_of (bytes_of n v) ≡ v
unfolding bytes_of le_of
le_bytes zero v h = omega arith
le_bytes (suc n) v h =
    let ih : le_of (bytes_of n (v / 256)) ≡ v / 256 = le_bytes n (v / 256) ((div-lt_iff_lt-mul (zero-lt-suc 255)).1 (rw pow-suc at h)) in
    omega arith

-- the number that n bytes make fits n bytes, and its bytes are those
pub le-lt : (l : List ℕ) → Bytes l → le_of l < 256 ^ length l
unfolding le_of
le-lt [] h = omega arith
le-lt (b ∷ l) h =
    let ih : le_of l < 256 ^ length l = le-lt l (λ i. h (suc i)) in
    rw pow-suc (omega (arith, h 0))

pub bytes_le : (l : List ℕ) → Bytes l → bytes_of (length l) (le_of l) ≡ l
unfolding bytes_of le_of
bytes_le [] h = refl
bytes_le (b ∷ l) h =
    let low : (b + 256 * le_of l) % 256 ≡ b = omega (arith, h 0) in
    let high : (b + 256 * le_of l) / 256 ≡ le_of l = omega (arith, h 0) in
    rw (low, high, bytes_le l (λ i. h (suc i)))

-- ---- lists of bytes

pub bytes-bytes_of : (n v : ℕ) → Bytes (bytes_of n v)
unfolding bytes_of
bytes-bytes_of zero v i = omega arith
bytes-bytes_of (suc n) v zero = omega arith
bytes-bytes_of (suc n) v (suc i) = bytes-bytes_of n (v / 256) i

pub bytes-append : (l m : List ℕ) → Bytes l → Bytes m → Bytes (l ++ m)
bytes-append [] m h k i = k i
bytes-append (b ∷ l) m h k zero = h 0
bytes-append (b ∷ l) m h k (suc i) = bytes-append l m (λ j. h (suc j)) k i

pub bytes_take : (n : ℕ) (l : List ℕ) → Bytes l → Bytes (take n l)
bytes_take zero l h i = omega arith
bytes_take (suc n) [] h i = omega arith
bytes_take (suc n) (b ∷ l) h zero = h 0
bytes_take (suc n) (b ∷ l) h (suc i) = bytes_take n l (λ j. h (suc j)) i

pub bytes_drop : (n : ℕ) (l : List ℕ) → Bytes l → Bytes (drop n l)
bytes_drop n l h i = rw get_or-drop (h (n + i))

-- ---- the library's words for the same

pub from-eight : (l : List ℕ) → length l ≡ 8 → from_le_bytes w64 l ≡ le_of l
unfolding le_of
from-eight l h = omega (arith, ap le_of (eight l h))

pub to-eight : (v : ℕ) → to_le_bytes w64 v ≡ bytes_of 8 v
unfolding bytes_of
to-eight v =
    let e2 : v / 256 / 256 ≡ v / 65536 = omega arith in
    let e3 : v / 65536 / 256 ≡ v / 16777216 = omega arith in
    let e4 : v / 16777216 / 256 ≡ v / 4294967296 = omega arith in
    let e5 : v / 4294967296 / 256 ≡ v / 1099511627776 = omega arith in
    let e6 : v / 1099511627776 / 256 ≡ v / 281474976710656 = omega arith in
    let e7 : v / 281474976710656 / 256 ≡ v / 72057594037927936 = omega arith in
    rw (e2, e3, e4, e5, e6, e7)
