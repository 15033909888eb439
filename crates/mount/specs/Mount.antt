-- Mount's judgement on any bytes (document 01, rows 1 to 7), and what a taken mount finds.
use Rattle.std.specs.Prelude.{ℕ, ◌≡◌, ◌&&◌, ◌||◌, not, cond, List, [], ◌∷◌, ltb, eqb, length, Result, MatchResult}
use Rattle.bounded.specs.Rows.{Row, refusal}
use Rattle.rows.specs.declared.Refusal.{Refusal}
use Rattle.rows.specs.Numbers.{number}
use Rattle.layout.specs.declared.Sizes.{Sizes}
use Rattle.layout.specs.Layout.{sizes_ok, layout_of, image_length, pages_word, slots_word, places_word, layout_word, head_word, tail_word, count_word, entries_word}
use Rattle.words.specs.Words.{word}
use Rattle.entries.specs.Entries.{no_keys, keys_from, entries_ok}
use Rattle.replay.specs.declared.Table.{Table}
use Rattle.mount.specs.declared.Judged.{Judged}
use Rattle.journal.specs.Records.{live_count, positions_ok, live_record, records_ok}
use Rattle.replay.specs.Table.{empty_table, table_from, replay, home_of, table_ok}
use Rattle.replay.specs.Map.{page_frames, map_from}

-- the header, read through r; its last two words under layout 2 alone (document 02, L14)
abbrev pub wide_word : (ℕ → ℕ) → ℕ → ℕ
wide_word r a = cond (eqb (r layout_word) 2) (r a) 0

abbrev pub sizes_from : (ℕ → ℕ) → Sizes
sizes_from r = record { pages = r pages_word; slots = r slots_word; places = r places_word; entries = wide_word r entries_word }

-- how many entries are committed and not yet copied, and their keys
abbrev pub count_from : (ℕ → ℕ) → ℕ
count_from r = wide_word r count_word

abbrev pub keys_after : (ℕ → ℕ) → List ℕ
keys_after r = keys_from r (sizes_from r) (count_from r)

abbrev pub live_from : (ℕ → ℕ) → ℕ
live_from r = live_count (sizes_from r) (r head_word) (r tail_word)

-- the slots after replay, read through r
abbrev pub table_after : (ℕ → ℕ) → Table
table_after r = replay (sizes_from r) (r tail_word) (live_from r) (live_record r (sizes_from r) (r tail_word)) (table_from r (sizes_from r))

-- the map after replay: each page's home
abbrev pub map_after : (ℕ → ℕ) → List ℕ
map_after r = map_from (sizes_from r).pages (home_of (page_frames r) (sizes_from r) (table_after r))

-- the table of refusals, of an image of n bytes read through r. 3: L is 0 under layout 2, so that the layout is not that of the sizes, too; 6: an
-- entry that is counted is wrong, too
abbrev pub mount_rows : ℕ → (ℕ → ℕ) → List Row
mount_rows n r =
    (ltb n 64, 1)
    ∷ (not (eqb (r layout_word) 1 || eqb (r layout_word) 2), 2)
    ∷ (not (sizes_ok (sizes_from r) && eqb (r layout_word) (layout_of (sizes_from r))), 3)
    ∷ (ltb n (image_length (sizes_from r)), 4)
    ∷ (not (positions_ok (sizes_from r) (r head_word) (r tail_word)), 5)
    ∷ (
      not (records_ok (sizes_from r) (r tail_word) (live_from r) (live_record r (sizes_from r) (r tail_word)) && entries_ok
          (sizes_from r) (keys_after r) (count_from r)),
      6,
    )
    ∷ (not (table_ok (page_frames r) (sizes_from r) (table_after r)), 7)
    ∷ []

-- what is found: the number of a row, with nothing; or 0, with the header, the slots, the map and the keys of the entries that are counted
pub record Mounted : Type 0 where
  pub row : ℕ
  pub sizes : Sizes
  pub head : ℕ
  pub tail : ℕ
  pub table : Table
  pub map : List ℕ
  pub count : ℕ
  pub keys : List ℕ

abbrev pub no_sizes : Sizes
no_sizes = record { pages = 0; slots = 0; places = 0; entries = 0 }

abbrev pub turned_back : ℕ → Mounted
turned_back n = record { row = n; sizes = no_sizes; head = 0; tail = 0; table = empty_table; map = map_from 0 (λ p. 0); count = 0; keys = no_keys }

abbrev pub found : (ℕ → ℕ) → Mounted
found r =
    record {
      row = 0;
      sizes = sizes_from r;
      head = r head_word;
      tail = r tail_word;
      table = table_after r;
      map = map_after r;
      count = count_from r;
      keys = keys_after r;
    }

unfoldable pub mount_read : ℕ → (ℕ → ℕ) → Mounted
mount_read n r = let row = refusal (mount_rows n r) in cond (eqb row 0) (found r) (turned_back row)

unfoldable pub mount_of : List ℕ → Mounted
mount_of img = mount_read (length img) (word img)

-- what is found without the map, which is put where the state is (`put_homes` of names)
abbrev pub judged : Mounted → Judged
judged m = record { sizes = m.sizes; head = m.head; tail = m.tail; table = m.table; count = m.count; keys = m.keys }

-- what the code answers: what is found under row 0, or the row that turns the image back
abbrev pub Judges : Result Judged Refusal → Mounted → Type 0
Judges r m = MatchResult r (λ j. (m.row ≡ 0) × (j ≡ judged m)) (λ e. number e ≡ m.row)
