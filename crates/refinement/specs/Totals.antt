-- The meters over a list of calls (document 02, L2 and L10): the events that were completed, in their order, and their totals. On every list where nothing
-- but events writes to page 0, and every event is lent the moduli last loaded, credit is cash in minus cash out minus bet plus won, and meters 1 to 23 are
-- their stored numbers when the moduli were loaded and their totals since, by remainder; both are told of what a mount finds.
use Rattle.std.specs.Prelude.{ℕ, zero, suc, ◌+◌, ◌%◌, ◌<◌, ◌≤◌, Bool, true, false, cond, List, [], ◌∷◌, ◌++◌, ◌≡◌, leb, eqb, length}
use Rattle.words.specs.Words.{Bytes, word_at}
use Rattle.layout.specs.declared.Sizes.{Sizes}
use Rattle.layout.specs.Layout.{sizes_ok, image_length}
use Rattle.meters.specs.Meters.{modulus_of, fixed_modulus, fixed_moduli, own_meter}
use Rattle.refinement.specs.Stores.{World}
use Rattle.refinement.specs.Run.{Call, Result, mount, checkpoint, free, step, begin, begin_wide, abort, commit, prepare, confirm, withdraw}
use Rattle.refinement.specs.Run.{consolidate, run, write, read, recall, event, load, exec, formatted_world, after}
use Rattle.refinement.specs.Reference.{Reference, Work, idle, under, copying, writing, committing, moving, nothing, blank, turn}
use Rattle.refinement.specs.Statement.{AllLent}
use Rattle.refinement.specs.Beside.{line_of}

-- a completed event
pub record Move : Type 0 where
  pub kind : ℕ
  pub meter : ℕ
  pub amount : ℕ

-- k stores of what is under way complete an event where no more are left of it
abbrev pub finishes : ℕ → Work → List Move
finishes k idle = []
finishes k (under (moving ms e m a) left) = cond (leb left k) (record { kind = e; meter = m; amount = a } ∷ []) []
finishes k (under (writing w p l o n bytes) left) = []
finishes k (under (committing w) left) = []
finishes k (copying w left) = []
finishes k (under nothing left) = []

-- the event that a call with this answer completes, if it does: a taken step makes one store, a taken run at most k
abbrev pub completes : Call → ℕ → Reference → List Move
completes step zero b = finishes 1 b.work
completes (run k) zero b = finishes k b.work
completes step (suc n) b = []
completes (run k) (suc n) b = []
completes mount n b = []
completes checkpoint n b = []
completes free n b = []
completes (begin w) n b = []
completes (begin_wide w) n b = []
completes (abort w) n b = []
completes (commit w) n b = []
completes (prepare w) n b = []
completes (confirm w) n b = []
completes (withdraw w) n b = []
completes (consolidate p) n b = []
completes (write w p l o i bytes) n b = []
completes (read w p l target) n b = []
completes (recall p l target) n b = []
completes (event ms e m a) n b = []
completes (load text) n b = []

-- the events that a list of calls completes, in their order; the reference machine says what is under way
unfoldable pub history : List Call → World → Reference → List Move
history [] v b = []
history (c ∷ cs) v b = let d = exec c v in completes c d.number b ++ history cs d.world (turn c d.number d.stores b)

-- what meter m gained over them
unfoldable pub total : ℕ → List Move → ℕ
total m [] = 0
total m (e ∷ es) = cond (eqb (own_meter e.kind e.meter) m) e.amount 0 + total m es

-- nothing but events writes to page 0: no write to it is taken
abbrev pub Spares : Call → ℕ → Type 0
Spares (write w p l o i bytes) n = n ≡ 0 → p ≡ 0 → ⊥
Spares mount n = Unit
Spares checkpoint n = Unit
Spares free n = Unit
Spares step n = Unit
Spares (begin w) n = Unit
Spares (begin_wide w) n = Unit
Spares (abort w) n = Unit
Spares (commit w) n = Unit
Spares (prepare w) n = Unit
Spares (confirm w) n = Unit
Spares (withdraw w) n = Unit
Spares (consolidate p) n = Unit
Spares (run k) n = Unit
Spares (read w p l target) n = Unit
Spares (recall p l target) n = Unit
Spares (event ms e m a) n = Unit
Spares (load text) n = Unit

unfoldable pub AllSpare : List Call → World → Type 0
AllSpare [] v = Unit
AllSpare (c ∷ cs) v = Spares c (exec c v).number × AllSpare cs (exec c v).world

-- ---- moduli

-- whether a call with this number is a load that is taken
abbrev pub loads : Call → ℕ → Bool
loads (load text) n = eqb n 0
loads mount n = false
loads checkpoint n = false
loads free n = false
loads step n = false
loads (begin w) n = false
loads (begin_wide w) n = false
loads (abort w) n = false
loads (commit w) n = false
loads (prepare w) n = false
loads (confirm w) n = false
loads (withdraw w) n = false
loads (consolidate p) n = false
loads (run k) n = false
loads (write w p l o i bytes) n = false
loads (read w p l target) n = false
loads (recall p l target) n = false
loads (event ms e m a) n = false

-- the number of meter m that a mount finds
abbrev pub found : World → ℕ → ℕ
found v m = word_at (line_of v.image (exec mount v).world.st 0 m) 0

-- the moduli last loaded, each meter's number then, the events completed since then, and all events completed
pub record Account : Type 0 where
  pub moduli : List ℕ
  pub start : ℕ → ℕ
  pub since : List Move
  pub all : List Move

-- after a format: the fixed moduli, each meter at 0, and no event
abbrev pub opened : Account
opened = record { moduli = fixed_moduli; start = λ m. 0; since = []; all = [] }

abbrev pub gained : Account → List Move → Account
gained h es = record { moduli = h.moduli; start = h.start; since = h.since ++ es; all = h.all ++ es }

-- with the moduli of a taken load, v being the world at loading
abbrev pub loaded : Account → List ℕ → World → Account
loaded h ms v = record { moduli = ms; start = found v; since = []; all = h.all }

-- after a call with result d in the world v
abbrev pub next : Call → Result → World → Reference → Account → Account
next c d v b h = cond (loads c d.number) (loaded h d.target v) (gained h (completes c d.number b))

-- after a list of calls
unfoldable pub account : List Call → World → Reference → Account → Account
account [] v b h = h
account (c ∷ cs) v b h = let d = exec c v in account cs d.world (turn c d.number d.stores b) (next c d v b h)

-- every event that is taken is lent the moduli last loaded
abbrev pub Lends : Call → ℕ → List ℕ → Type 0
Lends (event ts e m a) n ms = n ≡ 0 → ts ≡ ms
Lends mount n ms = Unit
Lends checkpoint n ms = Unit
Lends free n ms = Unit
Lends step n ms = Unit
Lends (begin w) n ms = Unit
Lends (begin_wide w) n ms = Unit
Lends (abort w) n ms = Unit
Lends (commit w) n ms = Unit
Lends (prepare w) n ms = Unit
Lends (confirm w) n ms = Unit
Lends (withdraw w) n ms = Unit
Lends (consolidate p) n ms = Unit
Lends (run k) n ms = Unit
Lends (write w p l o i bytes) n ms = Unit
Lends (read w p l target) n ms = Unit
Lends (recall p l target) n ms = Unit
Lends (load text) n ms = Unit

unfoldable pub AllLend : List Call → World → List ℕ → Type 0
AllLend [] v ms = Unit
AllLend (c ∷ cs) v ms =
    let d = exec c v in Lends c d.number ms × AllLend cs d.world (cond (loads c d.number) d.target ms)

-- ---- the statement

-- credit and the meters that roll, by meter
pub record AddUp (meter : ℕ → ℕ) (h : Account) : Type 0 where
  pub credit : meter 0 + total 2 h.all + total 3 h.all ≡ total 1 h.all + total 4 h.all
  pub in-range : meter 0 < modulus_of h.moduli 0
  pub rolls : (m : ℕ) → 1 ≤ m → m ≤ 23 → meter m ≡ (h.start m + total m h.since) % modulus_of h.moduli m

-- after any such list, of the meters that a mount finds
abbrev pub MetersAddUp : Type 0
MetersAddUp =
    (z : Sizes) → sizes_ok z ≡ true → (buffer : List ℕ) → Bytes buffer → image_length z ≤ length buffer
    → (calls : List Call) → AllLent calls → AllSpare calls (formatted_world z buffer) → AllLend calls (formatted_world z buffer) fixed_moduli
    → AddUp (found (after calls (formatted_world z buffer))) (account calls (formatted_world z buffer) blank opened)

-- ---- where no load is taken: the sentence of L2, over the fixed moduli

unfoldable pub NoLoad : List Call → World → Type 0
NoLoad [] v = Unit
NoLoad (c ∷ cs) v = (loads c (exec c v).number ≡ false) × NoLoad cs (exec c v).world

pub record FixedAddUp (meter : ℕ → ℕ) (h : List Move) : Type 0 where
  pub credit : meter 0 + total 2 h + total 3 h ≡ total 1 h + total 4 h
  pub in-range : meter 0 < 100000000
  pub rolls : (m : ℕ) → 1 ≤ m → m ≤ 23 → meter m ≡ total m h % fixed_modulus m

abbrev pub FixedMetersAddUp : Type 0
FixedMetersAddUp =
    (z : Sizes) → sizes_ok z ≡ true → (buffer : List ℕ) → Bytes buffer → image_length z ≤ length buffer
    → (calls : List Call) → AllLent calls → AllSpare calls (formatted_world z buffer) → AllLend calls (formatted_world z buffer) fixed_moduli
    → NoLoad calls (formatted_world z buffer)
    → FixedAddUp (found (after calls (formatted_world z buffer))) (history calls (formatted_world z buffer) blank)
