use mathlib.Core.Path.{◌≡◌, sym, ap₂, ◌∙◌}
use mathlib.Core.Bool.{◌&&◌, ◌||◌}
use mathlib.Core.List.{List}
use Prim.Native.Nat.{ℕ, ◌≤◌}
use lib.Dec.{eqb}
use lib.ListN.{length}
use borrow.Author.Rules.{rules}
use borrow.Author.Tests.{le-ltb, lt-ltb}
use Rattle.bounded.specs.Rows.{Past}
use Rattle.bounded.proofs.Tests.{held, and_left}
use Rattle.layout.specs.Layout.{Legal, sizes_ok, layout_of, image_length, layout_word, head_word, tail_word}
use Rattle.entries.specs.Entries.{entries_ok}
use Rattle.words.specs.Words.{word}
use Rattle.layout.proofs.LayoutLaws.{legal}
use Rattle.mount.specs.Mount.{Mounted, judged, sizes_from, live_from, count_from, keys_after, table_after, mount_rows}
use Rattle.journal.specs.Records.{positions_ok, records_ok, live_record}
use Rattle.replay.specs.Table.{table_ok}
use Rattle.replay.specs.Map.{page_frames}
use Rattle.journal.proofs.Ring.{Positions, positions}
use Rattle.mount.proofs.Rows.{Header, positions-read, records-read, entries-read, table-read, found-read, mount-past, mount-refused, mount-taken}
use Rattle.mount.proofs.judge.Lts
use Rattle.mount.proofs.judge.Tie
use Rattle.mount.proofs.judge.Reads
use mathlib.Core.Path.{ap}
use mathlib.Core.Bool.{not}
use Rattle.mount.proofs.judge.Goals as goal

abbrev At-Else-image-lt64 : Type 0
At-Else-image-lt64 = Lts.Else1 Tie.the-claims Reads.Pre Reads.Post

abbrev At-Else-not-form : Type 0
At-Else-not-form = Lts.Else2 Tie.the-claims Reads.Pre Reads.Post

abbrev At-Else-not-sizes_ok-form : Type 0
At-Else-not-sizes_ok-form = Lts.Else3 Tie.the-claims Reads.Pre Reads.Post

abbrev At-Else-image-image_length : Type 0
At-Else-image-image_length = Lts.Else4 Tie.the-claims Reads.Pre Reads.Post

abbrev At-Else-not-positions_ok : Type 0
At-Else-not-positions_ok = Lts.Else5 Tie.the-claims Reads.Pre Reads.Post

abbrev At-Else-not-records_ok-entries_ok : Type 0
At-Else-not-records_ok-entries_ok = Lts.Else6 Tie.the-claims Reads.Pre Reads.Post

abbrev At-Else-not-table_ok : Type 0
At-Else-not-table_ok = Lts.Else7 Tie.the-claims Reads.Pre Reads.Post

abbrev At-After-read_word-form : Type 0
At-After-read_word-form = Lts.After-read_word Tie.the-claims Reads.Pre Reads.Post

abbrev At-After-layout_of : Type 0
At-After-layout_of = Lts.After-layout_of Tie.the-claims Reads.Pre Reads.Post

abbrev At-After-image_length : Type 0
At-After-image_length = Lts.After-image_length Tie.the-claims Reads.Pre Reads.Post

abbrev At-After-read_word-tail : Type 0
At-After-read_word-tail = Lts.After-read_word3 Tie.the-claims Reads.Pre Reads.Post

abbrev At-After-positions_ok : Type 0
At-After-positions_ok = Lts.After-positions_ok Tie.the-claims Reads.Pre Reads.Post

abbrev At-After-entries_ok : Type 0
At-After-entries_ok = Lts.After-entries_ok Tie.the-claims Reads.Pre Reads.Post

abbrev At-After-replayed-table : Type 0
At-After-replayed-table = Lts.After-replayed Tie.the-claims Reads.Pre Reads.Post

abbrev At-After-table_ok : Type 0
At-After-table_ok = Lts.After-table_ok Tie.the-claims Reads.Pre Reads.Post

-- Each `if` is a row of the table: past it that row does not apply, and where it is taken no row before it does.
-- the first k rows do not apply
abbrev Passed : List ℕ → ℕ → Type 0
Passed img k = Past (mount_rows (length img) (word img)) k

-- the image, past each row
abbrev img1 : At-Else-image-lt64 → List ℕ
img1 c = c.before.before.args.image.now

abbrev img2 : At-Else-not-form → List ℕ
img2 c = img1 c.before.before

abbrev img3 : At-Else-not-sizes_ok-form → List ℕ
img3 c = img2 c.before.before.before.before

abbrev img4 : At-Else-image-image_length → List ℕ
img4 c = img3 c.before.before

abbrev img5 : At-Else-not-positions_ok → List ℕ
img5 c = img4 c.before.before.before.before

abbrev img6 : At-Else-not-records_ok-entries_ok → List ℕ
img6 c = img5 c.before.before.before.before.before.before.before

abbrev img7 : At-Else-not-table_ok → List ℕ
img7 c = img6 c.before.before.before

-- ---- what the calls return is what the rows ask
form-test : (c : At-After-read_word-form) → let r = word (img1 c.before) in (eqb c.read_word-form.result 1 || eqb c.read_word-form.result 2) ≡ (eqb (r layout_word) 1 || eqb (r layout_word) 2)
form-test c = ap (λ (n : ℕ). eqb n 1 || eqb n 2) c.read_word-form.ensures

sizes-test : (c : At-After-layout_of)
    → let r = word (img2 c.before.before.before) in
    (c.before.sizes_ok.result && eqb c.before.before.before.before.read_word-form.result c.layout_of.result) ≡ (sizes_ok (sizes_from r) && eqb (r layout_word) (layout_of (sizes_from r)))
sizes-test c =
    rw (c.before.sizes_ok.ensures, c.layout_of.ensures, c.before.before.sizes_from-z.ensures, c.before.before.before.before.read_word-form.ensures)

length-test : (c : At-After-image_length) → c.image_length.result ≡ image_length (sizes_from (word (img3 c.before)))
length-test c = c.image_length.ensures ∙ ap image_length c.before.before.before.before.sizes_from-z.ensures

header : (c : At-After-read_word-tail)
    → Header (word (img4 c.before.before)) c.before.before.before.before.before.before.before.sizes_from-z.result c.before.read_word-head.result c.read_word-tail.result
header c = record { sizes-is = c.before.before.before.before.before.before.before.sizes_from-z.ensures; head-is = c.before.read_word-head.ensures; tail-is = c.read_word-tail.ensures }

positions-test : (c : At-After-positions_ok)
    → let r = word (img4 c.before.before.before) in c.positions_ok.result ≡ positions_ok (sizes_from r) (r head_word) (r tail_word)
positions-test c = c.positions_ok.ensures ∙ positions-read (header c.before)

records-test : (c : At-After-entries_ok)
    → let r = word (img5 c.before.before.before.before.before.before) in
    (c.before.before.records_ok.result && c.entries_ok.result)
    ≡ (records_ok (sizes_from r) (r tail_word) (live_from r) (live_record r (sizes_from r) (r tail_word)) && entries_ok (sizes_from r) (keys_after r) (count_from r))
records-test c =
    let h = header c.before.before.before.before.before.before.before.before in
    ap₂ (λ x y. x && y)
    (c.before.before.records_ok.ensures ∙ records-read h _ c.before.before.before.before.before.live_count-n.ensures)
    (c.entries_ok.ensures ∙ entries-read h _ _ c.before.before.before.before.wide_word-count.ensures c.before.before.before.read_keys-keys.ensures)

table_is : (c : At-After-replayed-table) → c.replayed-table.result ≡ table_after (word (img6 c.before))
table_is c = c.replayed-table.ensures ∙ table-read (header c.before.before.before.before.before.before.before.before.before.before) _ c.before.before.before.before.before.before.before.live_count-n.ensures

table-test : (c : At-After-table_ok) → let r = word (img6 c.before.before) in c.table_ok.result ≡ table_ok (page_frames r) (sizes_from r) (table_after r)
table-test c =
    let r = word (img6 c.before.before) in
    c.table_ok.ensures ∙ ap₂ (table_ok (page_frames r)) (header c.before.before.before.before.before.before.before.before.before.before.before).sizes-is (table_is c.before)

-- ---- past each row
past1 : (c : At-Else-image-lt64) → Passed (img1 c) 1
past1 c = mount-past (img1 c) 0 tt (le-ltb _ _ c.if-image-lt64.false)

past2 : (c : At-Else-not-form) → Passed (img2 c) 2
past2 c = mount-past (img2 c) 1 (past1 c.before.before) (ap not (sym (form-test c.before)) ∙ (ap not c.if-not-form.false))

past3 : (c : At-Else-not-sizes_ok-form) → Passed (img3 c) 3
past3 c = mount-past (img3 c) 2 (past2 c.before.before.before.before) (ap not (sym (sizes-test c.before)) ∙ (ap not c.if-not-sizes_ok-form.false))

past4 : (c : At-Else-image-image_length) → Passed (img4 c) 4
past4 c = mount-past (img4 c) 3 (past3 c.before.before) (le-ltb _ _ (rw (length-test c.before) at c.if-image-image_length.false))

past5 : (c : At-Else-not-positions_ok) → Passed (img5 c) 5
past5 c = mount-past (img5 c) 4 (past4 c.before.before.before.before) (ap not (sym (positions-test c.before)) ∙ (ap not c.if-not-positions_ok.false))

past6 : (c : At-Else-not-records_ok-entries_ok) → Passed (img6 c) 6
past6 c = mount-past (img6 c) 5 (past5 c.before.before.before.before.before.before.before) (ap not (sym (records-test c.before)) ∙ (ap not c.if-not-records_ok-entries_ok.false))

past7 : (c : At-Else-not-table_ok) → Passed (img7 c) 7
past7 c = mount-past (img7 c) 6 (past6 c.before.before.before) (ap not (sym (table-test c.before)) ∙ (ap not c.if-not-table_ok.false))

-- ---- what the calls ask
lawful : (c : At-Else-not-sizes_ok-form) → Legal c.before.before.before.sizes_from-z.result
lawful c = legal _ (sym c.before.before.sizes_ok.ensures ∙ and_left _ _ (c.if-not-sizes_ok-form.false))

-- the image is long enough
long : (c : At-Else-image-image_length) → image_length c.before.before.before.before.before.sizes_from-z.result ≤ length (img4 c)
long c = rw c.before.image_length.ensures at c.if-image-image_length.false

placed : (c : At-Else-not-positions_ok)
    → Positions c.before.before.before.before.before.before.before.before.before.sizes_from-z.result c.before.before.before.read_word-head.result c.before.before.read_word-tail.result
placed c = positions _ _ _ (held _ _ c.before.positions_ok.ensures (ap not c.if-not-positions_ok.false))

pub returns-then-image-lt64 : goal.returns-then-image-lt64
returns-then-image-lt64 c = mount-refused _ 0 (search rules) tt (lt-ltb _ _ c.if-image-lt64.true)

pub returns-then-not-form : goal.returns-then-not-form
returns-then-not-form c =
    mount-refused _ 1 (search rules) (past1 c.before.before.before) (ap not (sym (form-test c.before.before)) ∙ (ap not c.if-not-form.true))

pub returns-then-not-sizes_ok-form : goal.returns-then-not-sizes_ok-form
returns-then-not-sizes_ok-form c = mount-refused _ 2 (search rules) (past2 c.before.before.before.before.before) (ap not (sym (sizes-test c.before.before)) ∙ (ap not c.if-not-sizes_ok-form.true))

pub image_length-requires : goal.image_length-requires
image_length-requires c = lawful c.before

pub returns-then-image-image_length : goal.returns-then-image-image_length
returns-then-image-image_length c = mount-refused _ 3 (search rules) (past3 c.before.before.before) (lt-ltb _ _ (rw (length-test c.before.before) at c.if-image-image_length.true))

pub positions_ok-requires : goal.positions_ok-requires
positions_ok-requires c = lawful c.before.before.before.before.before

pub returns-then-not-positions_ok : goal.returns-then-not-positions_ok
returns-then-not-positions_ok c = mount-refused _ 4 (search rules) (past4 c.before.before.before.before.before) (ap not (sym (positions-test c.before.before)) ∙ (ap not c.if-not-positions_ok.true))

pub live_count-n-requires : goal.live_count-n-requires
live_count-n-requires c = (lawful c.before.before.before.before.before.before.before, (placed c.before).head-low, (placed c.before).tail-low)

pub read_keys-keys-requires : goal.read_keys-keys-requires
read_keys-keys-requires c = let h = c.before.before.before.before.before.before.before in (lawful h.before.before, long h)

pub records_ok-requires : goal.records_ok-requires
records_ok-requires c =
    let h = c.before.before.before.before.before.before.before.before in
    let p = placed c.before.before.before.before in
    (lawful h.before.before, long h, p.tail-low, rw c.live_count-n.ensures p.live-high)

pub entries_ok-requires : goal.entries_ok-requires
entries_ok-requires c = lawful c.before.before.before.before.before.before.before.before.before.before.before.before

pub returns-then-not-records_ok-entries_ok : goal.returns-then-not-records_ok-entries_ok
returns-then-not-records_ok-entries_ok c = mount-refused _ 5 (search rules) (past5 c.before.before.before.before.before.before.before.before) (ap not (sym (records-test c.before.before)) ∙ (ap not c.if-not-records_ok-entries_ok.true))

pub replayed-table-requires : goal.replayed-table-requires
replayed-table-requires c =
    let h = c.before.before.before.before.before.before.before.before in
    let p = placed h in (
      lawful h.before.before.before.before.before.before,
      long h.before.before.before.before,
      p.tail-low,
      rw c.live_count-n.ensures p.live-high,
      sym c.records_ok.ensures ∙ and_left _ _ (c.if-not-records_ok-entries_ok.false),
    )

pub table_ok-requires : goal.table_ok-requires
table_ok-requires c =
    let h = c.before.before.before.before.before.before.before.before.before.before.before.before.before in
    (lawful h.before.before, long h)

pub returns-then-not-table_ok : goal.returns-then-not-table_ok
returns-then-not-table_ok c = mount-refused _ 6 (search rules) (past6 c.before.before.before.before) (ap not (sym (table-test c.before.before)) ∙ (ap not c.if-not-table_ok.true))

pub returns : goal.returns
returns d =
    let c = d.before in
    let b = c.before.before.before.before.before.before.before in
    let m = mount-taken (img7 c) (past7 c) in (
      sym (ap (λ (x : Mounted). x.row) m),
      found-read (header b.before.before.before.before.before) _ _ _ (table_is c.before.before) b.before.wide_word-count.ensures b.read_keys-keys.ensures ∙ ap judged m,
    )
