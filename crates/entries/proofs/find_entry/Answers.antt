use mathlib.Core.Path.{ap, ◌∙◌}
use native.Mathlib.Omega.{arith}
use Rattle.std.specs.Option.{unwrap_or}
use Rattle.std.specs.declared.option.Option.{Option}
use Prim.Native.Nat.{ℕ}
use Rattle.layout.proofs.Slices.{found-first}
use Rattle.entries.proofs.find_entry.Goals as goal

pub returns : goal.returns
returns c =
    c.unwrap_or.ensures ∙ ap (λ (o : Option ℕ). unwrap_or o c.args.n) c.entry_with.ensures ∙ found-first _ c.args.keys.now c.args.n (omega arith)
