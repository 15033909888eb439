-- Two images that a mount makes the same slots of; and one store in both of them, which leaves them so.
use Prim.Native.Nat.{ℕ}
use mathlib.Core.List.{List}
use mathlib.Core.Path.{◌≡◌, refl, sym, ap, ◌∙◌}
use Rattle.words.specs.Words.{word}
use Rattle.replay.specs.declared.Table.{Table}
use Rattle.mount.specs.Mount.{table_after}

-- the slots that a mount finds
abbrev pub slots_of : List ℕ → Table
slots_of img = table_after (word img)

pub record Alike (x y : List ℕ) : Type 0 where
  pub table : slots_of x ≡ slots_of y

-- image y comes of image x: the slots change by `next`
pub record Leaves (x y : List ℕ) (next : Table → Table) : Type 0 where
  pub table : slots_of y ≡ next (slots_of x)

pub alike-after : {x y x' y' : List ℕ} {next : Table → Table} → Leaves x x' next → Leaves y y' next → Alike x y → Alike x' y'
alike-after {next = next} m n a = record { table = m.table ∙ ap next a.table ∙ sym n.table }

-- nothing is changed
abbrev pub Stays : List ℕ → List ℕ → Type 0
Stays x y = Leaves x y (λ t. t)

pub stays : (x : List ℕ) → Stays x x
stays x = record { table = refl }
