use Rattle.call_mount.proofs.MapFilled.{part-back}
use Rattle.bounded.specs.Tab.{tab}
use lib.ListN.{length-take, length-drop}
use native.Mathlib.Omega.{arith}
use mathlib.Core.Path.{refl, ap, ◌∙◌}
use Prim.Native.Nat.{ℕ}
use Rattle.call_mount.proofs.filling.own_in.Goals as goal

pub returns : goal.returns
returns c = part-back c.args.words.now _ _ c.args.z.pages _ refl (c.put_numbers.ensures ∙ ap (λ (n : ℕ). tab n (λ p. p)) (simp (length-take, length-drop) (omega (arith, c.requires.0.pages-high, c.requires.1))))
