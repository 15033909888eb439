-- The rows of documents 01 and 02 that turn a call back, and their numbers.
use Rattle.std.specs.Prelude.{ℕ, ◌<◌, ◌≡◌, ◌⊎◌, Result, Ok, Err, MatchResult}
use Rattle.rows.specs.declared.Refusal.{Refusal}
use Rattle.rows.specs.declared.UnknownRow.{UnknownRow}
use Rattle.rows.specs.declared.Refusal.TheVariants.{ImageTooShort, UnknownLayout, SizesOutOfRange, BufferTooShort, BadPositions, BadRecord, BadSlots, BadState}
use Rattle.rows.specs.declared.Refusal.TheVariants.{OperationPending, NothingPending, BadArgument, WriterOpen, WriterNotOpen, LineHeld, NoFreeSlot, PageWithoutSlot}
use Rattle.rows.specs.declared.Refusal.TheVariants.{PageHeld, JournalFull, UnknownEvent, AmountOutOfRange, NoSlotToFree, TransactionPrepared, WriterNotPrepared, BadTableLine}
use Rattle.rows.specs.declared.Refusal.TheVariants.{ModulusOutOfRange, MeterNotBelow, NoWideRounds, OtherOpen, EntriesUsed}

-- a row's number. No row has 16, whose row document 02's L5 takes from the table
abbrev pub number : Refusal → ℕ
number ImageTooShort = 1
number UnknownLayout = 2
number SizesOutOfRange = 3
number BufferTooShort = 4
number BadPositions = 5
number BadRecord = 6
number BadSlots = 7
number BadState = 8
number OperationPending = 9
number NothingPending = 10
number BadArgument = 11
number WriterOpen = 12
number WriterNotOpen = 13
number LineHeld = 14
number NoFreeSlot = 15
number PageWithoutSlot = 17
number PageHeld = 18
number JournalFull = 19
number UnknownEvent = 20
number AmountOutOfRange = 21
number NoSlotToFree = 22
number TransactionPrepared = 23
number WriterNotPrepared = 24
number BadTableLine = 25
number ModulusOutOfRange = 26
number MeterNotBelow = 27
number NoWideRounds = 28
number OtherOpen = 29
number EntriesUsed = 30

-- the row with a number, or an error with a number that no row has
abbrev pub Numbers : ℕ → Result Refusal UnknownRow → Type 0
Numbers n r = MatchResult r (λ row. number row ≡ n) (λ e. (e.0 ≡ n) × ((n ≡ 0) ⊎ (n ≡ 16) ⊎ (30 < n)))

-- the number of the row that turned a call back, 0 where none did
abbrev pub row_of : Result Unit Refusal → ℕ
row_of (Ok u) = 0
row_of (Err r) = number r
