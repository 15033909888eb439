-- A turn of each loop, and the state after the last store.
use Prim.Native.Nat.{ℕ, ◌+◌, ◌*◌, ◌<◌}
use mathlib.Core.Bool.{false}
use mathlib.Core.List.{List}
use mathlib.Core.Path.{◌≡◌, refl, ap, ap₂, ◌∙◌}
use native.Mathlib.Omega.{arith}
use lib.ListN.{length, get_or, set}
use Rattle.bounded.specs.Below.{up_to}
use Rattle.bounded.proofs.Below.{up_turn}
use Rattle.layout.specs.declared.Sizes.{Sizes}
use Rattle.layout.specs.Layout.{Legal}
use Rattle.masks.specs.Lines.{exclusive_or}
use Rattle.journal.specs.Records.{position}
use Rattle.replay.specs.Table.{with_last}
use Rattle.state.specs.State.{State}
use Rattle.state.specs.Held.{held_at, held_slots, let_go}
use Rattle.refinement.specs.Commit.{bitmaps_after, lasts_after, commit_done}
use Rattle.refinement.specs.Settled.{no_pending}
use Rattle.refinement.proofs.CommitPlaces.{held-slot-low}
use Rattle.op_commit.proofs.CommitMade.{bitmaps-turn, lasts-turn, commit-done}
use Rattle.state_words.specs.Decoded.{with_table, with_writers, with_bitmap, with_held, with_opened, with_prepared, with_head, with_nothing}
use Rattle.op_commit.specs.After.{with_bitmaps, with_lasts}

-- a slot that a writer holds lines of, or 0, is one of sixteen
pub slot-low : (z : Sizes) (held : List ℕ) (w j s : ℕ) → Legal z → s ≡ get_or (held_slots z held w) j 0 → s < 16
slot-low z held w j s l e = omega (arith, held-slot-low z held w j s l e, l)

-- from is the state at entry, now the one at the loop's head, next the one after the turn
module _ (from now next : State) (z : Sizes) (w j s : ℕ) where
  pub bitmap-turn : (m v : ℕ) (before : List ℕ) → now ≡ with_bitmaps from (bitmaps_after z from.table.bitmap from.writers.held w j) → before ≡ from.table.bitmap
      → s ≡ get_or (held_slots z now.writers.held w) j 0 → m ≡ held_at now.writers.held w s → v ≡ exclusive_or (get_or before s 0) m
      → next ≡ with_table now (with_bitmap now.table s v) → next ≡ with_bitmaps from (bitmaps_after z from.table.bitmap from.writers.held w (j + 1))
  bitmap-turn m v before i b e f g n =
      let held : now.writers.held ≡ from.writers.held = ap (λ (u : State). u.writers.held) i in
      n ∙ ap (λ (u : State). with_table u (with_bitmap u.table s v)) i
      ∙ ap (with_bitmaps from) (bitmaps-turn z from.table.bitmap from.writers.held w j s v _ refl (rw held at e) (rw (b, rw held at f) at g))

  pub last_turn : (head q : ℕ) → now ≡ with_lasts from (lasts_after z head from.table.last from.writers.held w j)
      → s ≡ get_or (held_slots z now.writers.held w) j 0 → q ≡ position z head j
      → next ≡ with_table now (with_last now.table s q) → next ≡ with_lasts from (lasts_after z head from.table.last from.writers.held w (j + 1))
  last_turn head q i e g n =
      let held : now.writers.held ≡ from.writers.held = ap (λ (u : State). u.writers.held) i in
      n ∙ ap (λ (u : State). with_table u (with_last u.table s q)) i ∙ ap (with_lasts from) (lasts-turn z head from.table.last from.writers.held w j s q _ refl (rw held at e) g)

pub go-turn : (from now next : State) (w s : ℕ) → now ≡ with_writers from (with_held from.writers (up_to s (λ k h. set h (16 * w + k) 0) from.writers.held))
    → next ≡ with_writers now (with_held now.writers (set now.writers.held (16 * w + s) 0))
    → next ≡ with_writers from (with_held from.writers (up_to (s + 1) (λ k h. set h (16 * w + k) 0) from.writers.held))
go-turn from now next w s i n =
    n ∙ ap (λ (u : State). with_writers u (with_held u.writers (set u.writers.held (16 * w + s) 0))) i
    ∙ ap (λ (h : List ℕ). with_writers from (with_held from.writers h)) (up_turn (λ k h. set h (16 * w + k) 0) from.writers.held _ s refl)

-- the seven changes one after the other; z, head and n are what the code read
pub done-in : (st s1 s2 s3 s4 s5 s6 s7 : State) (z : Sizes) (w n head q : ℕ) → z ≡ st.sizes → head ≡ st.head → n ≡ length (held_slots z st.writers.held w)
    → s1 ≡ with_bitmaps st (bitmaps_after z st.table.bitmap st.writers.held w n)
    → s2 ≡ with_lasts s1 (lasts_after z head s1.table.last s1.writers.held w n)
    → s3 ≡ with_writers s2 (with_held s2.writers (let_go z s2.writers.held w))
    → s4 ≡ with_writers s3 (with_opened s3.writers (set s3.writers.opened w false))
    → s5 ≡ with_writers s4 (with_prepared s4.writers 4) → q ≡ position z head n → s6 ≡ with_head s5 q → s7 ≡ with_nothing s6 → s7 ≡ commit_done st w
done-in st s1 s2 s3 s4 s5 s6 s7 z w n head q ez eh en e1 e2 e3 e4 e5 eq e6 e7 =
    e7 ∙ ap with_nothing (e6
    ∙ ap (λ (u : State). with_head u q) (e5
    ∙ ap (λ (u : State). with_writers u (with_prepared u.writers 4)) (e4
    ∙ ap (λ (u : State). with_writers u (with_opened u.writers (set u.writers.opened w false))) (e3
    ∙ ap (λ (u : State). with_writers u (with_held u.writers (let_go z u.writers.held w))) (e2
    ∙ ap (λ (u : State). with_lasts u (lasts_after z head u.table.last u.writers.held w n)) e1)))))
    ∙ commit-done st w n q (bitmaps_after z st.table.bitmap st.writers.held w n) (lasts_after z head st.table.last st.writers.held w n) (let_go z st.writers.held w) (set st.writers.opened w false) no_pending
    (en ∙ ap (λ (y : Sizes). length (held_slots y st.writers.held w)) ez)
    (eq ∙ ap₂ (λ (y : Sizes) (h : ℕ). position y h n) ez eh)
    (ap (λ (y : Sizes). bitmaps_after y st.table.bitmap st.writers.held w n) ez)
    (ap₂ (λ (y : Sizes) (h : ℕ). lasts_after y h st.table.last st.writers.held w n) ez eh)
    (ap (λ (y : Sizes). let_go y st.writers.held w) ez) refl refl
