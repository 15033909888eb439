-- Bytes fed to a program: piece after piece, a line at once, and what no newline ends.
use mathlib.Core.Path.{◌≡◌, refl, ◌∙◌}
use mathlib.Core.List.{List, [], ◌∷◌, ◌++◌, append_assoc, append-nil}
use Prim.Native.Nat.{ℕ, suc, ◌+◌, ◌-◌, ◌<◌, ◌≤◌}
use native.Mathlib.Omega.{arith}
use lib.Dec.{eqb}
use lib.ListN.{length, take, drop, length-drop}
use lib.Seq.{drop-drop}
use Rattle.bounded.proofs.Tests.{case_on}
use Rattle.cutting.specs.Finding.{index_of, index_after}
use Rattle.words.specs.Words.{part}
use Rattle.cutting.specs.Pieces.{line_end}
use Rattle.cutting.specs.Feeding.{Fed, fed_byte, fed}

module _ {W : Type 0} (act : W → List ℕ → W) where
  -- however the bytes are cut into pieces
  pub fed-append : (f : Fed W) (a b : List ℕ) → fed act f (a ++ b) ≡ fed act (fed act f a) b
  unfolding fed
  fed-append f [] b = refl
  fed-append f (x ∷ a) b = fed-append (fed_byte act f x) a b

  -- ---- up to the first newline

  to-newline : (f : Fed W) (l : List ℕ) → index_of 10 l < length l
      → fed act f l ≡ fed act (record { done = act f.done (f.begun ++ take (index_of 10 l) l); begun = [] }) (drop (suc (index_of 10 l)) l)
  unfolding fed fed_byte index_of index_after
  to-newline f [] h = absurd (omega arith)
  to-newline f (b ∷ l) h =
      case_on (eqb b 10)
      (λ t. rw (t, append-nil))
      (λ t.
      let k : suc (index_of 10 l) < suc (length l) = rw t at h in
      rw t (to-newline (record { done = f.done; begun = f.begun ++ (b ∷ []) }) l (omega arith) ∙ rw append_assoc))

  to_end : (f : Fed W) (l : List ℕ)
      → fed act f l ≡ fed act (record { done = f.done; begun = f.begun ++ take (index_of 10 l) l }) (drop (index_of 10 l) l)
  unfolding fed fed_byte index_of index_after
  to_end f [] = rw append-nil
  to_end f (b ∷ l) =
      case_on (eqb b 10)
      (λ t. rw (t, append-nil, t))
      (λ t. rw t (to_end (record { done = f.done; begun = f.begun ++ (b ∷ []) }) l ∙ rw append_assoc))

  no-newline : (f : Fed W) (l : List ℕ) → index_of 10 l ≡ length l → fed act f l ≡ record { done = f.done; begun = f.begun ++ l }
  unfolding fed fed_byte index_of index_after
  no-newline f [] h = rw append-nil
  no-newline f (b ∷ l) h =
      case_on (eqb b 10)
      (λ t. let z : ◌≡◌ {A = ℕ} 0 (suc (length l)) = rw t at h in absurd (omega arith))
      (λ t.
      let k : suc (index_of 10 l) ≡ suc (length l) = rw t at h in
      rw t (no-newline (record { done = f.done; begun = f.begun ++ (b ∷ []) }) l (omega arith) ∙ rw append_assoc))

  -- ---- at a place of a piece

  module _ (f : Fed W) (piece : List ℕ) (from : ℕ) (inside : from ≤ length piece) where
    found : line_end piece from ≡ from + index_of 10 (drop from piece)
    unfolding line_end
    found = omega arith

    -- a whole line, and then the bytes after its newline
    pub fed-line : line_end piece from < length piece
        → fed act f (drop from piece)
        ≡ fed act (record { done = act f.done (f.begun ++ part piece from (line_end piece from - from)); begun = [] }) (drop (line_end piece from + 1) piece)
    unfolding part
    fed-line h =
        let k : index_of 10 (drop from piece) < length (drop from piece) = simp length-drop (omega (arith, found)) in
        let n : line_end piece from - from ≡ index_of 10 (drop from piece) = omega (arith, found) in
        let e : line_end piece from + 1 ≡ from + suc (index_of 10 (drop from piece)) = omega (arith, found) in
        to-newline f (drop from piece) k ∙ rw (n, e, drop-drop)

    -- no newline is left
    pub fed-rest : line_end piece from ≡ length piece → fed act f (drop from piece) ≡ record { done = f.done; begun = f.begun ++ drop from piece }
    fed-rest h = no-newline f (drop from piece) (simp length-drop (omega (arith, found)))

    -- up to the line's end, which no newline is before
    pub fed-to : fed act f (drop from piece) ≡ fed act (record { done = f.done; begun = f.begun ++ part piece from (line_end piece from - from) }) (drop (line_end piece from) piece)
    unfolding part
    fed-to =
        let n : line_end piece from - from ≡ index_of 10 (drop from piece) = omega (arith, found) in
        rw n (to_end f (drop from piece) ∙ rw (drop-drop, ← found))
