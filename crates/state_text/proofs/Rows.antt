-- A row of held lines, as a loop copies it from the words, and its first n.
use Prim.Native.Nat.{ℕ, ◌*◌, ◌<◌, ◌≤◌}
use mathlib.Core.List.{List}
use mathlib.Core.Path.{◌≡◌, sym, ◌∙◌}
use native.Mathlib.Omega.{arith}
use lib.ListN.{length, take, drop, replicate, length-drop, length-replicate}
use lib.Seq.{length-take-le, ext_get_or, get_or-drop, take-take}
use Rattle.bounded.specs.Tab.{filled}
use Rattle.bounded.proofs.Tab.{length-filled, get_or-filled}
use Rattle.words.specs.Words.{part}
use Rattle.state.specs.Held.{held_at}
use Rattle.state_words.specs.Decoded as words
use Rattle.state_words.specs.Decoded.{decoded}
use Rattle.state_words.proofs.DecodedLaws.{get_d_take}
use Rattle.state_text.specs.Numbers.{held_numbers}

-- the held lines are 64 words
length-held : (c : List ℕ) → length c ≡ 1280 → length (decoded c).writers.held ≡ 64
unfolding decoded words.part words.start words.size
length-held c n = length-take-le 64 (drop 120 c) (omega (arith, length-drop 120 c))

pub row_copied : (c : List ℕ) (w : ℕ) → length c ≡ 1280 → w < 4
    → filled 16 (held_at (decoded c).writers.held w) (replicate 16 0) ≡ part (decoded c).writers.held (16 * w) 16
unfolding part
row_copied c w n l =
    let held = (decoded c).writers.held in
    let rest = drop (16 * w) held in
    let long : 16 ≤ length rest = omega (arith, length-held c n, length-drop (16 * w) held) in
    let same : length (filled 16 (held_at held w) (replicate 16 0)) ≡ 16 = length-filled 16 (held_at held w) (replicate 16 0) ∙ length-replicate {A = ℕ} 16 0 in
    ext_get_or 0 (filled 16 (held_at held w) (replicate 16 0)) (take 16 rest) (same ∙ sym (length-take-le 16 rest long))
    (λ i h.
    let low : i < 16 = omega (arith, same, h) in
    get_or-filled 16 (held_at held w) (replicate 16 0) i 0 low (omega (arith, length-replicate {A = ℕ} 16 0)) ∙ sym (get_d_take 16 rest i low ∙ get_or-drop (16 * w) held i 0))

pub row-part : (held row : List ℕ) (w n : ℕ) → n ≤ 16 → row ≡ part held (16 * w) 16 → take n row ≡ held_numbers held n w
unfolding part
row-part held row w n l e = rw e (take-take n 16 (drop (16 * w) held) l)
