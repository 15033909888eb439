-- The reference machine, which document 01 calls "the book": pages, for each writer one set of unfinished writes ("a sheet"), and any
-- operation under way with its stores left. It is fed each call's arguments and, from its answer, whether it was taken and how
-- many stores it needs.
use Rattle.std.specs.Prelude.{ℕ, zero, suc, ◌+◌, ◌-◌, min, ◌&&◌, cond, List, ltb, leb, eqb, get_or}
use Rattle.bounded.specs.Tab.{tab}
use Rattle.refinement.specs.Run.{Call, mount, checkpoint, free, step, begin, begin_wide, abort, commit, prepare, confirm, withdraw, consolidate, run}
use Rattle.refinement.specs.Run.{write, read, recall, event, load}
use Rattle.words.specs.Words.{bytes_of, word_at}
use Rattle.state.specs.Held.{no_writer}
use Rattle.meters.specs.Meters.{moves_credit, first_meter, own_meter, rolled, first_number}

-- a byte of a set of unfinished writes, if there is one
pub data Cell : Type 0 where
  none : Cell
  byte : ℕ → Cell

abbrev pub laid_over : Cell → ℕ → ℕ
laid_over none x = x
laid_over (byte y) x = y

-- what an operation under way does when it is completed
pub data Task : Type 0 where
  -- writer, page, line, offset, length, data
  writing : ℕ → ℕ → ℕ → ℕ → ℕ → List ℕ → Task
  committing : ℕ → Task
  -- an event: the moduli, kind, meter, amount
  moving : List ℕ → ℕ → ℕ → ℕ → Task
  nothing : Task

pub data Work : Type 0 where
  idle : Work
  -- with its stores left
  under : Task → ℕ → Work
  -- a wide commit by a writer, before its first store, with which it does what a commit does (document 02, L14)
  copying : ℕ → ℕ → Work

-- bytes by page, line and offset; unfinished writes by writer, page, line and offset
pub record Reference : Type 0 where
  pub pages : ℕ → ℕ → ℕ → ℕ
  pub writes : ℕ → ℕ → ℕ → ℕ → Cell
  pub work : Work
  -- the writer of a wide transaction, above 3 where there is none
  pub wide : ℕ

-- pages at first zero, no unfinished writes
abbrev pub blank : Reference
blank = record { pages = λ p l i. 0; writes = λ w p l i. none; work = idle; wide = no_writer }

-- the 64 bytes of a line as a writer reads it, and as a recall shows it
abbrev pub read_line : Reference → ℕ → ℕ → ℕ → List ℕ
read_line b w p l = tab 64 (λ i. laid_over (b.writes w p l i) (b.pages p l i))

abbrev pub recall_line : Reference → ℕ → ℕ → List ℕ
recall_line b p l = tab 64 (b.pages p l)

abbrev pub with_work : Work → Reference → Reference
with_work k b = record { pages = b.pages; writes = b.writes; work = k; wide = b.wide }

-- writer w's unfinished writes emptied; a wide transaction of its is at an end
abbrev pub emptied : ℕ → Reference → Reference
emptied w b =
    record { pages = b.pages; writes = λ v p l i. cond (eqb v w) none (b.writes v p l i); work = b.work; wide = cond (eqb b.wide w) no_writer b.wide }

-- the data's first n bytes put on the writer's set from offset o, over older ones
abbrev pub written : ℕ → ℕ → ℕ → ℕ → ℕ → List ℕ → Reference → Reference
written w p l o n bytes b =
    record {
      pages = b.pages;
      writes =
          λ v q m i.
          cond (eqb v w && eqb q p && eqb m l && leb o i && ltb i (o + n)) (byte (get_or bytes (i - o) 0)) (b.writes v q m i);
      work = b.work;
      wide = b.wide;
    }

-- writer w's set laid on the pages
abbrev pub laid : ℕ → Reference → Reference
laid w b = record { pages = λ p l i. laid_over (b.writes w p l i) (b.pages p l i); writes = b.writes; work = b.work; wide = b.wide }

-- the number of meter m: the first 8 bytes of line m of page 0
abbrev pub meter_on : Reference → ℕ → ℕ
meter_on b m = word_at (recall_line b 0 m) 0

-- the pages with number v there
abbrev pub with_meter : ℕ → ℕ → Reference → Reference
with_meter m v b =
    record {
      pages = λ p l i. cond (eqb p 0 && eqb l m && ltb i 8) (get_or (bytes_of 8 v) i 0) (b.pages p l i);
      writes = b.writes;
      work = b.work;
      wide = b.wide;
    }

-- an event moves its meters on the pages
abbrev pub first_moved : List ℕ → ℕ → ℕ → ℕ → Reference → Reference
first_moved ms k m a b = with_meter (first_meter k m) (first_number ms k m (meter_on b (first_meter k m)) a) b

abbrev pub moved : List ℕ → ℕ → ℕ → ℕ → Reference → Reference
moved ms k m a b =
    cond (moves_credit k) (with_meter (own_meter k m) (rolled ms (own_meter k m) (meter_on b (own_meter k m)) a) (first_moved ms k m a b)) (first_moved ms k m a b)

abbrev pub does : Task → Reference → Reference
does (writing w p l o n bytes) b = written w p l o n bytes b
does (committing w) b = emptied w (laid w b)
does (moving ms k m a) b = moved ms k m a b
does nothing b = b

-- an operation that needs no stores is completed when taken
abbrev pub starts : Task → ℕ → Reference → Reference
starts t zero b = does t b
starts t (suc k) b = with_work (under t (suc k)) b

-- a commit by the wide writer
abbrev pub starts_copy : ℕ → ℕ → Reference → Reference
starts_copy w zero b = does (committing w) b
starts_copy w (suc k) b = with_work (copying w (suc k)) b

-- k stores made, or as many as are left; the operation is completed when none is left
abbrev pub continues : Task → ℕ → Reference → Reference
continues t zero b = does t (with_work idle b)
continues t (suc k) b = with_work (under t (suc k)) b

-- k stores of a wide commit with so many left: it is done with the first, and the others do nothing
abbrev pub copies : ℕ → ℕ → ℕ → Reference → Reference
copies w left zero b = b
copies w left (suc k) b = continues nothing (left - suc k) (does (committing w) b)

abbrev pub advances : ℕ → Work → Reference → Reference
advances k idle b = b
advances k (under t left) b = continues t (left - min k left) b
advances k (copying w left) b = copies w left (min k left) b

-- a taken call that needs n stores
abbrev pub taken : Call → ℕ → Reference → Reference
taken mount n b = record { pages = b.pages; writes = λ w p l i. none; work = idle; wide = no_writer }
taken checkpoint n b = starts nothing n b
taken free n b = starts nothing n b
taken step n b = advances 1 b.work b
taken (begin w) n b = b
taken (begin_wide w) n b = record { pages = b.pages; writes = b.writes; work = b.work; wide = w }
taken (abort w) n b = emptied w b
taken (commit w) n b = cond (eqb b.wide w) (starts_copy w n b) (starts (committing w) n b)
taken (prepare w) n b = starts nothing n b
taken (confirm w) n b = starts (committing w) n b
taken (withdraw w) n b = b
taken (consolidate p) n b = starts nothing n b
taken (run k) n b = advances k b.work b
taken (write w p l o m bytes) n b = starts (writing w p l o m bytes) n b
taken (read w p l target) n b = b
taken (recall p l target) n b = b
taken (event ms k m a) n b = starts (moving ms k m a) n b
taken (load text) n b = b

-- a refused call changes nothing
abbrev pub turn : Call → ℕ → ℕ → Reference → Reference
turn c zero n b = taken c n b
turn c (suc k) n b = b
