-- The line that a writer sees, by whether it has an entry. e is the entry that the code found.
use Prim.Native.Nat.{ℕ, ◌<◌}
use mathlib.Core.List.{List}
use mathlib.Core.Path.{◌≡◌}
use native.Mathlib.Omega.{arith}
use borrow.Author.Tests.{lt-ltb}
use Rattle.bounded.proofs.Tests.{case_on}
use Rattle.state.specs.State.{State}
use Rattle.state.specs.Wide.{is_wide, entry_for}
use Rattle.refinement.specs.Wide.{entry_bytes}
use Rattle.refinement.specs.Calls.{seen_line}
use Rattle.entry_lines.specs.Own.{own_entry}

module _ (st : State) (img : List ℕ) (w p l e : ℕ) (h : e ≡ own_entry st.wide w p l) where
  pub own-seen : e < st.wide.count → entry_bytes img st.sizes e ≡ seen_line st img w p l
  own-seen m =
      case_on (is_wide st.wide w)
      (λ t.
      let q : e ≡ entry_for st.wide p l = rw t at h in
      rw (t, ← q, lt-ltb e st.wide.count m))
      (λ t.
      let q : e ≡ st.wide.count = rw t at h in
      absurd (omega (arith, q, m)))
