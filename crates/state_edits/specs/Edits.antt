-- T,f,i,v of PROBE.md: number f of the state, at place i, becomes v.
use Rattle.std.specs.Prelude.{ℕ, ◌^◌, Bool, ◌&&◌, ◌||◌, cond, List, ltb, leb, eqb, set, None}
use Rattle.layout.specs.declared.Sizes.{Sizes}
use Rattle.replay.specs.declared.Table.{Table}
use Rattle.state.specs.State.{State, Wide}
use Rattle.state_words.specs.Decoded.{with_table, with_writers, with_opened, with_held, with_wide, with_map}
use Rattle.text.specs.declared.Line.{Line}
use Rattle.workbench.specs.Turns.{Turn, arg, shown, edited, formed}

-- v where field k is the one that is set, else what was there
abbrev pub newest : {A : Type 0} → ℕ → ℕ → A → A → A
newest f k v old = cond (eqb f k) v old

-- P, S, J, L as numbers 0 to 3 of the sizes
abbrev pub with_size_at : Sizes → ℕ → ℕ → Sizes
with_size_at z k v =
    record { pages = newest k 0 v z.pages; slots = newest k 1 v z.slots; places = newest k 2 v z.places; entries = newest k 3 v z.entries }

abbrev pub with_sizes : State → Sizes → State
with_sizes st z =
    record {
      sizes = z;
      head = st.head;
      tail = st.tail;
      next = st.next;
      table = st.table;
      map = st.map;
      writers = st.writers;
      wide = st.wide;
      pending = st.pending;
    }

-- the fields that have one number: 0 P, 1 S, 2 J, 3 head, 4 tail, 5 next slot, 14 the prepared writer, 15 the wide writer, 16 the entries that the wide
-- transaction uses, 18 L
abbrev pub is_single : ℕ → Bool
is_single f = leb f 5 || (leb 14 f && leb f 16) || eqb f 18

abbrev pub with_single : State → ℕ → ℕ → State
with_single st f v =
    record {
      sizes = record {
        pages = newest f 0 v st.sizes.pages;
        slots = newest f 1 v st.sizes.slots;
        places = newest f 2 v st.sizes.places;
        entries = newest f 18 v st.sizes.entries;
      };
      head = newest f 3 v st.head;
      tail = newest f 4 v st.tail;
      next = newest f 5 v st.next;
      table = st.table;
      map = st.map;
      writers = record { opened = st.writers.opened; held = st.writers.held; prepared = newest f 14 v st.writers.prepared };
      wide = record { writer = newest f 15 v st.wide.writer; count = newest f 16 v st.wide.count; keys = st.wide.keys };
      pending = st.pending;
    }

-- 6 page, 7 original, 8 spare, 9 bitmap, 10 last position of slot i
abbrev pub placed : ℕ → ℕ → ℕ → ℕ → List ℕ → List ℕ
placed f k i v l = newest f k (set l i v) l

abbrev pub with_slot_number : Table → ℕ → ℕ → ℕ → Table
with_slot_number t f i v =
    record {
      page = placed f 6 i v t.page;
      original = placed f 7 i v t.original;
      spare = placed f 8 i v t.spare;
      bitmap = placed f 9 i v t.bitmap;
      last = placed f 10 i v t.last;
    }

abbrev pub single_turn : State → ℕ → ℕ → ℕ → Turn
single_turn st f i v = formed (eqb i 0) st (edited (with_single st f v))

-- an original and a spare have 32 bits
abbrev pub slot_turn : State → ℕ → ℕ → ℕ → Turn
slot_turn st f i v =
    formed (leb i 15 && (ltb f 7 || ltb 8 f || ltb v (2 ^ 32))) st (edited (with_table st (with_slot_number st.table f i v)))

-- 11 writer i open, 12 held lines at i = 16 × writer + slot
abbrev pub open_turn : State → ℕ → ℕ → Turn
open_turn st i v =
    formed (leb i 3 && leb v 1) st (edited (with_writers st (with_opened st.writers (set st.writers.opened i (eqb v 1)))))

abbrev pub held_turn : State → ℕ → ℕ → Turn
held_turn st i v = formed (leb i 63) st (edited (with_writers st (with_held st.writers (set st.writers.held i v))))

-- 13 the map's entry of page i, of 16 bits; 17 key i of the wide transaction
abbrev pub entry_turn : State → ℕ → ℕ → Turn
entry_turn st i v = formed (leb i 1023 && leb v 65535) st (edited (with_map st (set st.map i v)))

abbrev pub with_keys : Wide → List ℕ → Wide
with_keys d keys = record { writer = d.writer; count = d.count; keys = keys }

abbrev pub key_turn : State → ℕ → ℕ → Turn
key_turn st i v = formed (leb i 63) st (edited (with_wide st (with_keys st.wide (set st.wide.keys i v))))

-- the fields that have a place
abbrev pub placed_turn : State → ℕ → ℕ → ℕ → Turn
placed_turn st f i v =
    cond (leb 6 f && leb f 10) (slot_turn st f i v)
    (cond (eqb f 11) (open_turn st i v)
    (cond (eqb f 12) (held_turn st i v)
    (cond (eqb f 13) (entry_turn st i v)
    (cond (eqb f 17) (key_turn st i v) (shown st None)))))

abbrev pub field_turn : State → ℕ → ℕ → ℕ → Turn
field_turn st f i v = cond (is_single f) (single_turn st f i v) (placed_turn st f i v)

abbrev pub number_turn : State → Line → Turn
number_turn st line = formed (eqb line.count 3) st (field_turn st (arg line 0) (arg line 1) (arg line 2))
