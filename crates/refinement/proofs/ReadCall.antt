-- A taken read gives the reference machine's 64 bytes, and changes nothing.
use Prim.Native.Nat.{ℕ, zero, suc, ◌<◌}
use mathlib.Core.Bool.{false, ◌||◌}
use mathlib.Core.List.{List}
use mathlib.Core.Path.{◌≡◌, refl, sym, ap, ◌∙◌, subst}
use native.Mathlib.Omega.{arith}
use lib.Dec.{ltb, leb}
use lib.ListN.{length}
use borrow.Author.Tests.{ltb-false, leb-false}
use Rattle.bounded.proofs.Rows.{none-apply}
use Rattle.bounded.proofs.Tests.{or_left, or_right}
use Rattle.words.specs.Words.{over}
use Rattle.state.specs.State.{State}
use Rattle.refinement.specs.Stores.{World}
use Rattle.refinement.specs.Calls.{read_rows, read_row, read_bytes}
use Rattle.refinement.specs.Run.{Call, read, exec}
use Rattle.refinement.specs.Reference.{Reference, taken, turn, read_line}
use Rattle.refinement.proofs.Invariant.{Never, Related, not_wide}
use Rattle.refinement.proofs.Sound.{Sound, is-quiet}
use Rattle.refinement.proofs.Seen.{seen-line}
use Rattle.refinement.proofs.WriterCalls.{seen-narrow}

-- a call that changes nothing in the reference machine where it is taken
pub turn-kept : (c : Call) (row n : ℕ) (b : Reference) → taken c n b ≡ b → turn c row n b ≡ b
turn-kept c zero n b e = e
turn-kept c (suc k) n b e = refl

-- the arguments that row 11 lets pass
pub read-args : (st : State) (w p l : ℕ) (target : List ℕ) → ltb 3 w || leb st.sizes.pages p || ltb 63 l || ltb (length target) 64 ≡ false
    → (w < 4) × (p < st.sizes.pages) × (l < 64)
read-args st w p l target e =
    let f = or_left (ltb 3 w || leb st.sizes.pages p || ltb 63 l) (ltb (length target) 64) e in
    let g = or_left (ltb 3 w || leb st.sizes.pages p) (ltb 63 l) f in (
      omega (arith, ltb-false 3 w (or_left (ltb 3 w) (leb st.sizes.pages p) g)),
      leb-false st.sizes.pages p (or_right (ltb 3 w) (leb st.sizes.pages p) g),
      omega (arith, ltb-false 63 l (or_right (ltb 3 w || leb st.sizes.pages p) (ltb 63 l) f)),
    )

read_right : {past : List ℕ} (st : State) (img : List ℕ) (b : Reference) (w p l : ℕ) (target : List ℕ) → Related past (record { st = st; image = img }) b
    → read_row st img w p l target ≡ 0 → read_bytes st img w p l target ≡ over target 0 (read_line b w p l)
unfolding read_row read_bytes
read_right st img b w p l target h e =
    let rows = none-apply (read_rows st img w p l target) (omega arith) e in
    let q = is-quiet st img b h rows.1.1.0 in
    let a = read-args st w p l target rows.1.1.1.0 in
    rw e (ap (over target 0) (seen-narrow st img w (not_wide st b w q.narrow a.0) p l ∙ seen-line st img b Never q.durable q.writers w p l a.0 a.1 a.2 (λ n. n)))

pub read-sound : {past : List ℕ} (w p l : ℕ) (target : List ℕ) (v : World) (b : Reference) → Related past v b → Sound past (read w p l target) v b
unfolding exec
read-sound {past = past} w p l target v b h =
    record {
      right = read_right v.st v.image b w p l target h;
      sizes = refl;
      related = subst (Related past v) (sym (turn-kept (read w p l target) (read_row v.st v.image w p l target) 0 b refl)) h;
    }
