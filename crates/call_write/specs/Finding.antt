-- What a write finds, of a state whose sizes and places were read first: the rows from 11 on of a narrow writer and of the wide one.
use Rattle.std.specs.Prelude.{ℕ, Result}
use Rattle.rows.specs.declared.Refusal.{Refusal}
use Rattle.layout.specs.declared.Sizes.{Sizes}
use Rattle.state.specs.State.{State}
use Rattle.state.specs.declared.Places.{Places}
use Rattle.call_write.specs.declared.found.Found.{Found}
use Rattle.call_write.specs.Found.{FramesFound, EntryFound}
use Rattle.op_rows.specs.declared.Span.{Span}
use Rattle.op_rows.specs.Seen.{seen}

abbrev pub FramesIn : Sizes → Places → State → ℕ → Span → Result Found Refusal → Type 0
FramesIn z at st w a r = FramesFound (seen z at st) w a.page a.line a.offset a.length r

abbrev pub EntryIn : Sizes → Places → State → Span → Result Found Refusal → Type 0
EntryIn z at st a r = EntryFound (seen z at st) a.page a.line a.offset a.length r
