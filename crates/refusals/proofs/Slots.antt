-- The slot of a page, and the first writer that holds a line of it.
use mathlib.Core.Path.{◌≡◌}
use mathlib.Core.Bool.{true, false}
use mathlib.Core.List.{List}
use Prim.Native.Nat.{ℕ, ◌<◌, ◌≤◌}
use borrow.Author.Tests.{lt-ltb, le-ltb, le-leb, lt-leb}
use Rattle.bounded.specs.Below.{first_below}
use Rattle.layout.specs.declared.Sizes.{Sizes}
use Rattle.layout.specs.Layout.{sizes_ok}
use Rattle.state.specs.State.{State}
use Rattle.state.specs.Slots.{slot_of_page}
use Rattle.refusals.specs.Met.{holds_line, holds_slot, slot_met, line_holder, page_holder}

module _ (z : Sizes) (page : List ℕ) (p : ℕ) where
  pub sizes-bad : sizes_ok z ≡ false → 16 ≡ slot_met z page p
  unfolding slot_met
  sizes-bad e = rw e

  module _ (s : ℕ) (o : sizes_ok z ≡ true) (e : s ≡ slot_of_page z page p) where
    pub no_slot : z.slots ≤ s → 16 ≡ slot_met z page p
    unfolding slot_met
    no_slot h = rw (o, ← e, le-ltb s z.slots h)

    pub has-slot : s < z.slots → s ≡ slot_met z page p
    unfolding slot_met
    has-slot h = rw (o, ← e, lt-ltb s z.slots h)

module _ (st : State) (p s : ℕ) (e : s ≡ slot_met st.sizes st.table.page p) where
  pub line-no-slot : (w l : ℕ) → 16 ≤ s → 4 ≡ line_holder st w p l
  unfolding line_holder
  line-no-slot w l h = rw (← e, le-ltb s 16 h)

  pub line-high : (w l : ℕ) → s < 16 → 63 < l → 4 ≡ line_holder st w p l
  unfolding line_holder
  line-high w l h g = rw (← e, lt-ltb s 16 h, lt-leb l 63 g)

  pub line_first : (w l : ℕ) → s < 16 → l ≤ 63 → first_below 4 (holds_line st.writers.held w s l) ≡ line_holder st w p l
  unfolding line_holder
  line_first w l h g = rw (← e, lt-ltb s 16 h, le-leb l 63 g)

  pub page-no-slot : 16 ≤ s → 4 ≡ page_holder st p
  unfolding page_holder
  page-no-slot h = rw (← e, le-ltb s 16 h)

  pub page-first : s < 16 → first_below 4 (holds_slot st.writers.held s) ≡ page_holder st p
  unfolding page_holder
  page-first h = rw (← e, lt-ltb s 16 h)
