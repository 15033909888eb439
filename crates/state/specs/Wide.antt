-- A wide transaction (document 02, L14): its writer, the entries that it uses, and their keys.
use Rattle.std.specs.Prelude.{ℕ, ◌+◌, Bool, ◌&&◌, ◌||◌, not, cond, List, ltb, leb, eqb, set}
use Rattle.bounded.specs.Below.{all_below, some_below}
use Rattle.layout.specs.declared.Sizes.{Sizes}
use Rattle.entries.specs.Entries.{no_keys, key_of, entry_of, entries_ok}
use Rattle.state.specs.State.{Wide}
use Rattle.state.specs.Held.{is_open, no_writer, some_hold}

-- of its parts; begun by writer w; and none
abbrev pub wide_of : ℕ → ℕ → List ℕ → Wide
wide_of w n keys = record { writer = w; count = n; keys = keys }

abbrev pub begun_wide : ℕ → Wide
begun_wide w = wide_of w 0 no_keys

abbrev pub no_wide : Wide
no_wide = begun_wide no_writer

-- whether there is one; whether it is writer w's; and what is left of it without writer w
abbrev pub some_wide : ℕ → Bool
some_wide wide = ltb wide 4

abbrev pub is_wide : Wide → ℕ → Bool
is_wide d w = eqb d.writer w

abbrev pub dropped : Wide → ℕ → Wide
dropped d w = cond (is_wide d w) no_wide d

-- the entry of line l of page p, the next one where it has none; whether it has one; and that entry used for the line
abbrev pub entry_for : Wide → ℕ → ℕ → ℕ
entry_for d p l = entry_of d.keys d.count (key_of p l)

abbrev pub has_entry : Wide → ℕ → ℕ → Bool
has_entry d p l = ltb (entry_for d p l) d.count

abbrev pub with_entry : Wide → ℕ → ℕ → Wide
with_entry d p l =
    record { writer = d.writer; count = cond (has_entry d p l) d.count (d.count + 1); keys = set d.keys (entry_for d p l) (key_of p l) }

-- 29: a writer is open
unfoldable pub some_open : List Bool → Bool
some_open opened = some_below 4 (is_open opened)

-- 30: a new line with all L entries used
abbrev pub no_entry_left : Sizes → Wide → ℕ → ℕ → Bool
no_entry_left z d p l = not (has_entry d p l) && leb z.entries d.count

-- row 8: the entries are right; a wide writer is open and every other closed, it is not prepared, and no line is held
abbrev pub alone_open : List Bool → ℕ → Bool
alone_open opened w = all_below 4 (λ v. (is_open opened v && eqb v w) || (not (is_open opened v) && not (eqb v w)))

abbrev pub none_held : Sizes → List ℕ → Bool
none_held z held = all_below z.slots (λ s. not (some_hold held s))

unfoldable pub wide_ok : Sizes → List Bool → List ℕ → ℕ → Wide → Bool
wide_ok z opened held prepared d =
    entries_ok z d.keys d.count
    && (not (some_wide d.writer) || (alone_open opened d.writer && (not (eqb prepared d.writer) && none_held z held)))
