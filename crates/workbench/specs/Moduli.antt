-- The moduli that probe's events are lent (PROBE.md): a table of 24, and how many of its first ones an event is lent.
use Rattle.std.specs.Prelude.{ℕ, min, List, take}
use Rattle.meters.specs.Meters.{fixed_moduli}
use Rattle.workbench.specs.declared.moduli.Moduli.{Moduli}

-- all of 24 moduli lent; at first they are L2's
abbrev pub all_lent : List ℕ → Moduli
all_lent moduli = record { all = moduli; lent = 24 }

abbrev pub first_moduli : Moduli
first_moduli = all_lent fixed_moduli

-- those that an event is lent
abbrev pub lent_moduli : Moduli → List ℕ
lent_moduli table = take (min table.lent 24) table.all
