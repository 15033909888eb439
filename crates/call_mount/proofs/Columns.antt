-- Columns of the words filled one place after the other: a table, and the keys of entries.
use Prim.Native.Nat.{ℕ, ◌+◌, ◌<◌, ◌≤◌}
use mathlib.Core.List.{List}
use mathlib.Core.Path.{◌≡◌, refl, sym, ap, ◌∙◌}
use native.Mathlib.Omega.{arith}
use lib.ListN.{length, get_or, set, take, drop, length-drop}
use lib.Seq.{ext_get_or, length-take-le}
use Rattle.bounded.specs.Tab.{filled}
use Rattle.bounded.proofs.Tab.{filled_none, filled-turn, length-filled, get_or-filled}
use Rattle.journal.specs.declared.Slot.{Slot}
use Rattle.replay.specs.declared.Table.{Table}
use Rattle.replay.specs.Table.{slot_in, with_slot, with_last}
use Rattle.state.specs.State.{State}
use Rattle.state.specs.Wide.{wide_of}
use Rattle.state_words.specs.Decoded.{start, size, part, decoded, with_table, with_wide}

-- m with its first n places those of l; with all of them it is l
abbrev pub column : List ℕ → ℕ → List ℕ → List ℕ
column l n m = filled n (λ i. get_or l i 0) m

pub column-all : (l m : List ℕ) (n : ℕ) → length l ≡ n → length m ≡ n → column l n m ≡ l
column-all l m n a b =
    let f : ℕ → ℕ = λ i. get_or l i 0 in
    let k : length (filled n f m) ≡ n = length-filled n f m ∙ b in
    ext_get_or 0 (filled n f m) l (k ∙ sym a) (λ i h. get_or-filled n f m i 0 (omega (arith, h, k)) (omega (arith, b)))

column-turn : (l m : List ℕ) (s : ℕ) → set (column l s m) s (get_or l s 0) ≡ column l (s + 1) m
column-turn l m s = filled-turn (λ i. get_or l i 0) m _ s _ refl refl

-- ---- a table

abbrev pub table_to : Table → ℕ → Table → Table
table_to t n u =
    record {
      page = column t.page n u.page;
      original = column t.original n u.original;
      spare = column t.spare n u.spare;
      bitmap = column t.bitmap n u.bitmap;
      last = column t.last n u.last;
    }

pub table_none : (st : State) (t : Table) → st ≡ with_table st (table_to t 0 st.table)
table_none st t =
    rw (
      ← filled_none (λ i. get_or t.page i 0) st.table.page,
      ← filled_none (λ i. get_or t.original i 0) st.table.original,
      ← filled_none (λ i. get_or t.spare i 0) st.table.spare,
      ← filled_none (λ i. get_or t.bitmap i 0) st.table.bitmap,
      ← filled_none (λ i. get_or t.last i 0) st.table.last,
    )

pub table-turn : (from now mid next : State) (t : Table) (s : ℕ) (v : Slot) → now ≡ with_table from (table_to t s from.table) → v ≡ slot_in t s
    → mid ≡ with_table now (with_slot now.table s v) → next ≡ with_table mid (with_last mid.table s (get_or t.last s 0)) → next ≡ with_table from (table_to t (s + 1) from.table)
table-turn from now mid next t s v i e m n =
    let u = from.table in
    n
    ∙ ap (λ (x : State). with_table x (with_last x.table s (get_or t.last s 0))) (m ∙ ap (λ (x : Slot). with_table now (with_slot now.table s x)) e ∙ ap (λ (x : State). with_table x (with_slot x.table s (slot_in t s))) i)
    ∙ rw (
      column-turn t.page u.page s,
      column-turn t.original u.original s,
      column-turn t.spare u.spare s,
      column-turn t.bitmap u.bitmap s,
      column-turn t.last u.last s,
    )

-- the columns of the words are as long as those of a table
pub columns-long : (c : List ℕ) (k : ℕ) → length c ≡ 1280 → start k + size k ≤ 1280 → length (part c k) ≡ size k
unfolding part
columns-long c k n l =
    let long : size k ≤ length (drop (start k) c) = omega (arith, length-drop (start k) c) in
    length-take-le (size k) (drop (start k) c) long

pub table-all : (c : List ℕ) (t : Table) → length c ≡ 1280 → length t.page ≡ 16 → length t.original ≡ 16 → length t.spare ≡ 16 → length t.bitmap ≡ 16 → length t.last ≡ 16
    → table_to t 16 (decoded c).table ≡ t
unfolding decoded start size
table-all c t n a b d e f =
    rw (
      column-all t.page (part c 11) 16 a (columns-long c 11 n (omega arith)),
      column-all t.original (part c 12) 16 b (columns-long c 12 n (omega arith)),
      column-all t.spare (part c 13) 16 d (columns-long c 13 n (omega arith)),
      column-all t.bitmap (part c 14) 16 e (columns-long c 14 n (omega arith)),
      column-all t.last (part c 15) 16 f (columns-long c 15 n (omega arith)),
    )

-- ---- the keys of entries

abbrev pub keys_to : State → List ℕ → State
keys_to st keys = with_wide st (wide_of st.wide.writer st.wide.count keys)

pub keys_none : (st : State) (keys : List ℕ) → st ≡ keys_to st (column keys 0 st.wide.keys)
keys_none st keys = rw (← filled_none (λ i. get_or keys i 0) st.wide.keys)

pub keys-turn : (from now next : State) (keys : List ℕ) (e : ℕ) → now ≡ keys_to from (column keys e from.wide.keys) → next ≡ keys_to now (set now.wide.keys e (get_or keys e 0))
    → next ≡ keys_to from (column keys (e + 1) from.wide.keys)
keys-turn from now next keys e i n = n ∙ ap (λ (u : State). keys_to u (set u.wide.keys e (get_or keys e 0))) i ∙ ap (keys_to from) (column-turn keys from.wide.keys e)

pub keys-all : (c keys : List ℕ) → length c ≡ 1280 → length keys ≡ 64 → column keys 64 (decoded c).wide.keys ≡ keys
unfolding decoded start size
keys-all c keys n l = column-all keys (part c 17) 64 l (columns-long c 17 n (omega arith))
