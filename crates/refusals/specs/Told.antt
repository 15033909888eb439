-- From a refusal to the service screen and back (document 02, L1): on any state and any bytes the reason of a refused call is composed, and what stands
-- in the target reads back as that reason.
use Rattle.std.specs.Prelude.{ℕ, ◌^◌, ◌<◌, ◌≤◌, Bool, true, false, ◌||◌, List, ◌≡◌, length, take, Ok, Some}
use Rattle.layout.specs.declared.Sizes.{Sizes}
use Rattle.meters.specs.Meters.{first_meter, own_meter}
use Rattle.state.specs.State.{State}
use Rattle.operations.specs.Operations.{slot_for}
use Rattle.refinement.specs.Stores.{World}
use Rattle.refinement.specs.Mount.{format_call}
use Rattle.refinement.specs.Run.{Call, mount, checkpoint, free, step, begin, begin_wide, abort, commit, prepare, confirm, withdraw, consolidate, run, write}
use Rattle.refinement.specs.Run.{read, recall, event, load, exec}
use Rattle.wording.specs.Calls as named
use Rattle.reasons.specs.declared.Reason.{Reason}
use Rattle.reasons.specs.Sentence.{composed, composed_in}
use Rattle.reason_reading.specs.Reading.{read_back}
use Rattle.refusals.specs.Met.{holds_line, holds_slot, reason_met, Lowest}

-- the calls as the service screen numbers them
abbrev pub call_number : Call → ℕ
call_number mount = named.mount
call_number checkpoint = named.checkpoint
call_number free = named.free_slot
call_number step = named.step
call_number (begin w) = named.begin
call_number (begin_wide w) = named.begin_wide
call_number (abort w) = named.abort
call_number (commit w) = named.commit
call_number (prepare w) = named.prepare
call_number (confirm w) = named.confirm
call_number (withdraw w) = named.withdraw
call_number (consolidate p) = named.consolidate
call_number (run k) = named.run
call_number (write w p l o n bytes) = named.write
call_number (read w p l target) = named.read
call_number (recall p l target) = named.recall
call_number (event ms k m a) = named.event
call_number (load text) = named.load

-- what a host passes on of a call: its writer, page and line, of an event its kind and meter; the others may be anything
pub record Passed : Type 0 where
  pub writer : ℕ
  pub page : ℕ
  pub line : ℕ
  pub kind : ℕ
  pub meter : ℕ

abbrev pub PassedOf : Call → Passed → Type 0
PassedOf mount a = Unit
PassedOf checkpoint a = Unit
PassedOf free a = Unit
PassedOf step a = Unit
PassedOf (begin w) a = a.writer ≡ w
PassedOf (begin_wide w) a = a.writer ≡ w
PassedOf (abort w) a = a.writer ≡ w
PassedOf (commit w) a = a.writer ≡ w
PassedOf (prepare w) a = a.writer ≡ w
PassedOf (confirm w) a = a.writer ≡ w
PassedOf (withdraw w) a = a.writer ≡ w
PassedOf (consolidate p) a = a.page ≡ p
PassedOf (run k) a = Unit
PassedOf (write w p l o n bytes) a = (a.writer ≡ w) × (a.page ≡ p) × (a.line ≡ l)
PassedOf (read w p l target) a = (a.writer ≡ w) × (a.page ≡ p) × (a.line ≡ l)
PassedOf (recall p l target) a = (a.page ≡ p) × (a.line ≡ l)
PassedOf (event ms k m b) a = (a.kind ≡ k) × (a.meter ≡ m)
PassedOf (load text) a = Unit

-- each is a word
pub record Words (a : Passed) : Type 0 where
  pub writer : a.writer < 2 ^ 64
  pub page : a.page < 2 ^ 64
  pub line : a.line < 2 ^ 64

-- the reason that a host gets (`reason_met`) of call c turned back with n
abbrev pub reason_of : State → ℕ → ℕ → Passed → Reason
reason_of st c n a = reason_met st c n a.writer a.page a.line a.kind a.meter

-- whether writer u stands in the way of a call that 14 or 18 turns back
abbrev pub in_the_way : State → Call → ℕ → Bool
in_the_way st (write w p l o n bytes) u = holds_line st.writers.held w (slot_for st p) l u
in_the_way st (consolidate p) u = holds_slot st.writers.held (slot_for st p) u
in_the_way st (event ms k m a) u =
    holds_line st.writers.held 1 (slot_for st 0) (first_meter k m) u || holds_line st.writers.held 1 (slot_for st 0) (own_meter k m) u
in_the_way st mount u = false
in_the_way st checkpoint u = false
in_the_way st free u = false
in_the_way st step u = false
in_the_way st (begin w) u = false
in_the_way st (begin_wide w) u = false
in_the_way st (abort w) u = false
in_the_way st (commit w) u = false
in_the_way st (prepare w) u = false
in_the_way st (confirm w) u = false
in_the_way st (withdraw w) u = false
in_the_way st (run k) u = false
in_the_way st (read w p l target) u = false
in_the_way st (recall p l target) u = false
in_the_way st (load text) u = false

-- a reason is composed into a target, and what is put there reads back as the reason
pub record Told (r : Reason) (target : List ℕ) : Type 0 where
  pub count : ℕ
  pub taken : composed r (length target) ≡ Ok count
  pub back : read_back (take count (composed_in r target)) ≡ Some r

-- whatever call is refused, on any state and any bytes: its reason is told in any target of 200 bytes, and where it says a writer, that is the lowest
-- that stands in the way
abbrev pub RefusalsTold : Type 0
RefusalsTold =
    (c : Call) (v : World) → ((exec c v).number ≡ 0 → ⊥) → (a : Passed) → PassedOf c a → Words a
    → (let r = reason_of v.st (call_number c) (exec c v).number a in
    ((target : List ℕ) → 200 ≤ length target → Told r target) × (named.meets_writer r.number ≡ true → Lowest (in_the_way v.st c) r.holder))

-- and a format, which has no state
abbrev pub FormatsTold : Type 0
FormatsTold =
    (z : Sizes) (buffer : List ℕ) → ((format_call z buffer).number ≡ 0 → ⊥) → (st : State) (a : Passed) → Words a
    → (target : List ℕ) → 200 ≤ length target → Told (reason_of st named.format (format_call z buffer).number a) target
