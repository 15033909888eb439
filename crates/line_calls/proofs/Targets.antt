-- The target of a read or a recall: it is at first zero, and a taken call's has 64 bytes.
use Prim.Native.Nat.{ℕ, zero, suc, ◌≤◌}
use mathlib.Core.Bool.{◌||◌}
use mathlib.Core.List.{List, ◌∷◌}
use mathlib.Core.Path.{◌≡◌, refl, ap}
use native.Mathlib.Nat.{not-suc-le-zero, le_of_suc-le-suc}
use native.Mathlib.Omega.{arith}
use lib.Dec.{ltb, leb}
use lib.ListN.{length, take, replicate}
use borrow.Author.Tests.{ltb-false}
use Rattle.bounded.proofs.Rows.{none-apply}
use Rattle.bounded.proofs.Tests.{or_right}
use Rattle.words.specs.Words.{word}
use Rattle.mount.specs.Mount.{sizes_from}
use Rattle.state.specs.State.{State}
use Rattle.refinement.specs.Calls.{read_rows, read_row}
use Rattle.refinement.specs.Recall.{recall_rows, recall_row}

pub take-zeros : (t n : ℕ) → t ≤ n → take {A = ℕ} t (replicate n 0) ≡ replicate t 0
take-zeros zero n h = refl
take-zeros (suc t) zero h = absurd (not-suc-le-zero h)
take-zeros (suc t) (suc n) h = ap (λ (l : List ℕ). 0 ∷ l) (take-zeros t n (le_of_suc-le-suc h))

pub read-long : (st : State) (img : List ℕ) (w p l : ℕ) (target : List ℕ) → read_row st img w p l target ≡ 0 → 64 ≤ length target
unfolding read_row
read-long st img w p l target e =
    let h = none-apply (read_rows st img w p l target) (omega arith) e in
    ltb-false (length target) 64 (or_right (ltb 3 w || leb st.sizes.pages p || ltb 63 l) (ltb (length target) 64) h.1.1.1.0)

pub recall-long : (img : List ℕ) (p l : ℕ) (target : List ℕ) → recall_row img p l target ≡ 0 → 64 ≤ length target
unfolding recall_row
recall-long img p l target e =
    let h = none-apply (recall_rows img p l target) (omega arith) e in
    ltb-false (length target) 64
    (or_right (leb (sizes_from (word img)).pages p || ltb 63 l) (ltb (length target) 64) h.1.1.1.1.1.1.1.0)
