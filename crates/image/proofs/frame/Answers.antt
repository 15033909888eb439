use mathlib.Core.Path.{◌≡◌, ap₂}
use Prim.Native.Nat.{ℕ, ◌+◌, ◌-◌, ◌*◌}
use native.Mathlib.Omega.{arith}
use lib.ListN.{take, drop}
use Rattle.words.specs.Words.{part}
use Rattle.image.proofs.frame.Goals as goal

-- The part that is returned starts at the frame's first word and has 4,096 bytes.
pub returns : goal.returns
unfolding part
returns c =
    let at = 8 * c.line_word-at.result in
    let e : at + 4096 - at ≡ 4096 = omega arith in
    ap₂ (λ (n w : ℕ). take n (drop (8 * w) c.args.image.now)) e c.line_word-at.ensures
