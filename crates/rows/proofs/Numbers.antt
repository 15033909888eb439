-- No row has the number 0.
use Prim.Native.Nat.{◌<◌}
use mathlib.Core.Path.{◌≡◌}
use native.Mathlib.Omega.{arith}
use Rattle.rows.specs.Numbers.{number}
use Rattle.rows.specs.declared.Refusal.{Refusal}
use Rattle.rows.specs.declared.Refusal.TheVariants.{ImageTooShort, UnknownLayout, SizesOutOfRange, BufferTooShort, BadPositions, BadRecord, BadSlots, BadState}
use Rattle.rows.specs.declared.Refusal.TheVariants.{OperationPending, NothingPending, BadArgument, WriterOpen, WriterNotOpen, LineHeld, NoFreeSlot, PageWithoutSlot}
use Rattle.rows.specs.declared.Refusal.TheVariants.{PageHeld, JournalFull, UnknownEvent, AmountOutOfRange, NoSlotToFree, TransactionPrepared, WriterNotPrepared, BadTableLine}
use Rattle.rows.specs.declared.Refusal.TheVariants.{ModulusOutOfRange, MeterNotBelow, NoWideRounds, OtherOpen, EntriesUsed}

number-above : (r : Refusal) → 0 < number r
number-above ImageTooShort = omega arith
number-above UnknownLayout = omega arith
number-above SizesOutOfRange = omega arith
number-above BufferTooShort = omega arith
number-above BadPositions = omega arith
number-above BadRecord = omega arith
number-above BadSlots = omega arith
number-above BadState = omega arith
number-above OperationPending = omega arith
number-above NothingPending = omega arith
number-above BadArgument = omega arith
number-above WriterOpen = omega arith
number-above WriterNotOpen = omega arith
number-above LineHeld = omega arith
number-above NoFreeSlot = omega arith
number-above PageWithoutSlot = omega arith
number-above PageHeld = omega arith
number-above JournalFull = omega arith
number-above UnknownEvent = omega arith
number-above AmountOutOfRange = omega arith
number-above NoSlotToFree = omega arith
number-above TransactionPrepared = omega arith
number-above WriterNotPrepared = omega arith
number-above BadTableLine = omega arith
number-above ModulusOutOfRange = omega arith
number-above MeterNotBelow = omega arith
number-above NoWideRounds = omega arith
number-above OtherOpen = omega arith
number-above EntriesUsed = omega arith

pub number-some : (r : Refusal) → number r ≡ 0 → ⊥
number-some r e = omega (arith, number-above r, e)
