-- Where there is no writer, none is closed.
use Prim.Native.Nat.{ℕ, ◌+◌, ◌*◌, ◌<◌, ◌≤◌}
use mathlib.Core.Bool.{Bool, false}
use mathlib.Core.List.{List}
use mathlib.Core.Path.{◌≡◌, refl, sym, ap, ◌∙◌}
use native.Mathlib.Omega.{arith}
use lib.ListN.{length, set, get_or-eq_default}
use lib.Seq.{set-get_or}
use Rattle.bounded.proofs.Below.{up-keeps}
use Rattle.layout.specs.declared.Sizes.{Sizes}
use Rattle.state.specs.Held.{let_go}

pub open-past : (opened : List Bool) (w : ℕ) → length opened ≤ w → opened ≡ set opened w false
open-past opened w h = sym (rw (get_or-eq_default opened false h) at (set-get_or opened w false))

held_same : (held : List ℕ) (i : ℕ) → length held ≤ i → held ≡ set held i 0
held_same held i h = sym (rw (get_or-eq_default held 0 h) at (set-get_or held i 0))

pub held-past : (z : Sizes) (held : List ℕ) (w : ℕ) → length held ≡ 64 → 3 < w → held ≡ let_go z held w
held-past z held w e l =
    up-keeps (λ (h : List ℕ). held ≡ h) (λ s h. set h (16 * w + s) 0) z.slots held
    (λ s h m k. k ∙ held_same h (16 * w + s) (let q : length h ≡ 64 = sym (ap length k) ∙ e in omega arith)) refl
