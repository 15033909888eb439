-- A slot of which no writer holds a line keeps the rules of held lines.
use Prim.Native.Nat.{ℕ}
use mathlib.Core.Bool.{Bool, true, false, not}
use mathlib.Core.List.{List}
use mathlib.Core.Path.{◌≡◌, sym}
use borrow.Author.Tests.{not-false}
use lib.Dec.{eqb}
use Rattle.bounded.specs.Below.{all_below}
use Rattle.bounded.proofs.Below.{all_made, none-at}
use Rattle.state.specs.Held.{held_at, holder_ok, some_hold}

pub unheld-ok : (opened : List Bool) (held : List ℕ) (free : Bool) (s : ℕ) → some_hold held s ≡ false → true ≡ all_below 4 (holder_ok opened held free s)
unfolding some_hold
unheld-ok opened held free s e =
    sym (all_made (holder_ok opened held free s) 4 (λ w l. rw (not-false (eqb (held_at held w s) 0) (none-at (λ v. not (eqb (held_at held v s) 0)) 4 w l e))))
