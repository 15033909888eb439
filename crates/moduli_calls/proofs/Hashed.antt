-- The bytes of 24 moduli, as a loop lays them over zeros.
use Prim.Native.Nat.{ℕ, ◌+◌, ◌*◌, ◌≤◌, ◌<◌}
use mathlib.Core.List.{List, ◌++◌, append-nil}
use mathlib.Core.Path.{◌≡◌, refl, ap, ◌∙◌}
use native.Mathlib.Numerals.{add-one}
use native.Mathlib.Omega.{arith}
use lib.ListN.{length, get_or, replicate, drop_of_length-le}
use Rattle.bounded.proofs.Below.{ends}
use Rattle.words.specs.Words.{over, bytes_of, put_word}
use Rattle.words.proofs.Bytes.{length-bytes}
use Rattle.words.proofs.Parts.{length_over}
use Rattle.number_text.specs.Text.{Put, each}
use Rattle.number_text.proofs.Puts.{put-none, put_then}
use Rattle.moduli_calls.specs.Calls.{moduli_bytes}

-- laid over all of a list
over-all : (l xs : List ℕ) → length l ≤ length xs → over l 0 xs ≡ xs
unfolding over
over-all l xs h = ap (λ (t : List ℕ). xs ++ t) (drop_of_length-le l h) ∙ append-nil xs

-- bytes are those of the first i moduli, then zeros
abbrev pub Laid : List ℕ → ℕ → List ℕ → Type 0
Laid moduli i bytes = Put (replicate 192 0) 0 (each i (λ m. bytes_of 8 (get_or moduli m 0))) bytes (8 * i)

pub laid_none : (moduli : List ℕ) → Laid moduli 0 (replicate 192 0)
unfolding each
laid_none moduli = put-none (replicate 192 0) 0

module _ (moduli : List ℕ) (i : ℕ) (bytes : List ℕ) (p : Laid moduli i bytes) where
  pub laid-turn : i < 24 → Laid moduli (i + 1) (put_word bytes (8 * i) (get_or moduli i 0))
  unfolding each put_word
  laid-turn h =
      let v = get_or moduli i 0 in
      let place : 8 * (i + 1) ≡ 8 * i + length (bytes_of 8 v) = omega (arith, length-bytes 8 v) in
      rw (add-one i) (put_then p (record { laid = refl; place = rw (add-one i) at place }) (omega arith))

  pub laid-length : i ≤ 24 → length bytes ≡ 192
  laid-length h = ap length p.laid ∙ length_over (replicate 192 0) 0 (each i (λ m. bytes_of 8 (get_or moduli m 0))) (omega (arith, p.place))

  pub laid_end : i ≤ 24 → 24 ≤ i → bytes ≡ moduli_bytes moduli
  laid_end h k =
      let e = ends (λ (j : ℕ). each j (λ m. bytes_of 8 (get_or moduli m 0))) 24 i h k in
      p.laid ∙ over-all (replicate 192 0) (each i (λ m. bytes_of 8 (get_or moduli m 0))) (omega (arith, p.place)) ∙ e
