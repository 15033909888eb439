-- Which store of an event is which of its transaction: the first eight are those of the first write, the next eight, where it moves credit, those of the
-- second, the rest those of the commit.
use Prim.Native.Nat.{ℕ, ◌+◌, ◌-◌, ◌<◌, ◌≤◌}
use mathlib.Core.Bool.{Bool, true, false, ◌&&◌, cond}
use mathlib.Core.Path.{◌≡◌, refl, sym, ap, ◌∙◌}
use native.Mathlib.Omega.{arith}
use lib.Dec.{ltb}
use borrow.Author.Tests.{lt-ltb, le-ltb}
use Rattle.bounded.proofs.Tests.{case_on, row_keeps, row-yes}
use Rattle.meters.specs.Meters.{moves_credit, first_meter, own_meter}
use Rattle.state.specs.State.{State}
use Rattle.refinement.specs.Write.{write_at, write_value}
use Rattle.refinement.specs.Commit.{commit_at, commit_value}
use Rattle.refinement.specs.Event.{first_asked, second_asked, lines_done, line_stores, event_at, event_value}

-- which of three
pick_second : (p c q : Bool) (x y z : ℕ) → p ≡ false → c ≡ true → q ≡ true → cond p x (cond (c && q) y z) ≡ y
pick_second p c q x y z e f g = rw (e, f, g)

pick-third : (p d : Bool) (x y z : ℕ) → p ≡ false → d ≡ false → cond p x (cond d y z) ≡ z
pick-third p d x y z e f = rw (e, f)

pub lines-eight : (k : ℕ) → 8 ≤ line_stores k
lines-eight k = row_keeps (λ (x : ℕ). 8 ≤ x) (moves_credit k) 16 8 (omega arith) (omega arith)

no_more : (k j : ℕ) → moves_credit k && ltb (line_stores k + j) 16 ≡ false
no_more k j =
    case_on (moves_credit k)
    (λ t. let e : line_stores k ≡ 16 = sym (row-yes (moves_credit k) 16 8 t) in ap (λ (x : Bool). moves_credit k && x) (le-ltb (line_stores k + j) 16 (omega arith)) ∙ rw t)
    (λ t. ap (λ (x : Bool). x && ltb (line_stores k + j) 16) t)

module _ (st : State) (k m : ℕ) where
  pub at_first : (j : ℕ) → j < 8 → event_at st k m j ≡ write_at (first_asked st k m) 0 (first_meter k m) j
  unfolding event_at
  at_first j l = sym (row-yes (ltb j 8) _ _ (lt-ltb j 8 l))

  pub value-first : (j : ℕ) → j < 8 → event_value st k m j ≡ write_value (first_asked st k m) j
  unfolding event_value
  value-first j l = sym (row-yes (ltb j 8) _ _ (lt-ltb j 8 l))

  module _ (t : moves_credit k ≡ true) where
    pub at_second : (j : ℕ) → j < 8 → event_at st k m (8 + j) ≡ write_at (second_asked st k m) 0 (own_meter k m) j
    unfolding event_at
    at_second j l =
        let e : 8 + j - 8 ≡ j = omega arith in
        pick_second (ltb (8 + j) 8) (moves_credit k) (ltb (8 + j) 16) _ _ _ (le-ltb (8 + j) 8 (omega arith)) t (lt-ltb (8 + j) 16 (omega arith))
        ∙ ap (write_at (second_asked st k m) 0 (own_meter k m)) e

    pub value-second : (j : ℕ) → j < 8 → event_value st k m (8 + j) ≡ write_value (second_asked st k m) j
    unfolding event_value
    value-second j l =
        let e : 8 + j - 8 ≡ j = omega arith in
        pick_second (ltb (8 + j) 8) (moves_credit k) (ltb (8 + j) 16) _ _ _ (le-ltb (8 + j) 8 (omega arith)) t (lt-ltb (8 + j) 16 (omega arith))
        ∙ ap (write_value (second_asked st k m)) e

  pub at-commit : (j : ℕ) → event_at st k m (line_stores k + j) ≡ commit_at (lines_done st k m) 1 j
  unfolding event_at
  at-commit j =
      let e : line_stores k + j - line_stores k ≡ j = omega arith in
      pick-third (ltb (line_stores k + j) 8) (moves_credit k && ltb (line_stores k + j) 16) _ _ _ (le-ltb (line_stores k + j) 8 (omega (arith, lines-eight k))) (no_more k j)
      ∙ ap (commit_at (lines_done st k m) 1) e

  pub value-commit : (j : ℕ) → event_value st k m (line_stores k + j) ≡ commit_value (lines_done st k m) 1 j
  unfolding event_value
  value-commit j =
      let e : line_stores k + j - line_stores k ≡ j = omega arith in
      pick-third (ltb (line_stores k + j) 8) (moves_credit k && ltb (line_stores k + j) 16) _ _ _ (le-ltb (line_stores k + j) 8 (omega (arith, lines-eight k))) (no_more k j)
      ∙ ap (commit_value (lines_done st k m) 1) e
