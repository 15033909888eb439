-- A list that is being set from its last place on.
use Prim.Native.Nat.{ℕ, zero, suc, ◌+◌, ◌-◌, ◌/◌, ◌%◌, ◌<◌, ◌≤◌}
use mathlib.Core.List.{List, [], ◌∷◌, ◌++◌, append_assoc, append-nil}
use mathlib.Core.Path.{◌≡◌, sym, ◌∙◌}
use native.Mathlib.Omega.{arith}
use lib.ListN.{length, take, drop, set, drop_of_length-le}
use lib.Seq.{set_split, drop_at, length-take-le}
use Rattle.sequences.specs.Sequences.{sequence}

-- its places from k on are set, and those before are the digits of what is left
abbrev pub Left : ℕ → ℕ → List ℕ → List ℕ → Type 0
Left k rest l whole = sequence k rest ++ drop k l ≡ whole

pub left-all : (i : ℕ) (l : List ℕ) → Left (length l) i l (sequence (length l) i)
left-all i l = rw (drop_of_length-le l {i = length l} (omega arith)) (append-nil (sequence (length l) i))

pub left-turn : (k rest : ℕ) (l whole : List ℕ) → 0 < k → k ≤ length l → Left k rest l whole → Left (k - 1) (rest / 12) (set l (k - 1) (rest % 12 + 1)) whole
unfolding sequence
left-turn zero rest l whole h f e = absurd (omega arith)
left-turn (suc k) rest l whole h f e =
    let z : suc k - 1 ≡ k = omega arith in
    let d = rest % 12 + 1 in
    let back : drop k (set l k d) ≡ d ∷ drop (suc k) l =
    rw (set_split l k d) (drop_at (take k l) (d ∷ drop (suc k) l) k (length-take-le k l (omega arith))) in
    rw (z, back) (sym (append_assoc (sequence k (rest / 12)) (d ∷ []) (drop (suc k) l)) ∙ e)

pub left-none : (k rest : ℕ) (l whole : List ℕ) → k ≤ 0 → Left k rest l whole → l ≡ whole
unfolding sequence
left-none zero rest l whole h e = e
left-none (suc k) rest l whole h e = absurd (omega arith)
