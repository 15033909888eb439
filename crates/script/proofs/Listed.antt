-- Document 01's listing of program powerhit: its format by law, its other lines by computing.
use Prim.Native.Nat.{ℕ, suc, ◌≤◌}
use mathlib.Core.List.{List, [], ◌∷◌}
use mathlib.Core.Path.{◌≡◌, refl, ap, ◌∙◌}
use native.Mathlib.Omega.{arith}
use lib.ListN.{length, replicate, length-replicate}
use Rattle.layout.specs.declared.Sizes.{Sizes}
use Rattle.bounded.specs.Below.{all_below, some_below, first_below, one, count_below, those, up_to}
use Rattle.bounded.specs.Count.{count_of, each_once}
use Rattle.bounded.specs.Tab.{tab, filled}
use Rattle.words.specs.Words.{le_of, bytes_of, part, over, word_at, put_word, words_at, flat}
use Rattle.fresh.specs.Fresh.{fresh_words, formatted, fresh_table}
use Rattle.mount.specs.Mount.{mount_read, mount_of}
use Rattle.journal.specs.Records.{live_record, records_ok}
use Rattle.replay.specs.Table.{table_from, replay, frame_names}
use Rattle.masks.specs.Lines.{in_mask, with_line, exclusive_or, disjoint, others, lines_in, count_lines, lines_not_in}
use Rattle.state.specs.Held.{held_ok, others_hold, some_hold, held_slots}
use Rattle.operations.specs.Operations.{copy_count, recorded_slots, needs}
use Rattle.replay.specs.Map.{map_from}
use Rattle.state.specs.Slots.{free_after}
use Rattle.entries.specs.Entries.{entries_ok}
use Rattle.state.specs.Wide.{wide_ok}
use Rattle.validity.specs.Validity.{slots_ok, lasts_ok, prepared_ok, pending_ok, state_ok}
use Rattle.refinement.specs.Commit.{closed_writer, commit_record_of, commit_at_of, commit_value_of}
use Rattle.refinement.specs.Frames.{seen_frame}
use Rattle.refinement.specs.Stores.{stepped, stepped_by}
use Rattle.refinement.specs.Write.{write_slot}
use Rattle.refinement.specs.Calls.{begin_of, changes_nothing, write_of, commit_of, read_row, read_bytes, run_of, run_bytes}
use Rattle.refinement.specs.Mount.{fresh_state, mount_call}
use Rattle.refinement.specs.Run.{exec}
use Rattle.decimals.specs.Decimal.{digits_of}
use Rattle.text.specs.Fields.{with_byte, fields, all_digits, value_from, all_numbers, values, line_of, parsed}
use Rattle.forms.specs.Forms.{form_of}
use Rattle.script.specs.Listing.{text, printed, input, output}
use Rattle.printing.specs.Output.{output_line}
use Rattle.script.specs.Performed.{started, line_turn}
use Rattle.printing.specs.declared.Output.TheVariants.{Answered}
use Rattle.std.specs.Prelude.{None}
use Rattle.executing.specs.Called.{Machine, Turn, turn, ready, finished}
use Rattle.script.specs.Turns.{shown, turn_of}
use Rattle.script.proofs.FormatLine.{format-fresh}

-- its format, of 1,561 stores, which are not computed
abbrev sizes : Sizes
sizes = record { pages = 2; slots = 1; places = 2; entries = 0 }

abbrev memory : List ℕ
memory = replicate 12480 0

fits : (n : ℕ) → n ≤ length (replicate {A = ℕ} n 0)
fits n = omega (arith, length-replicate {A = ℕ} n 0)

abbrev fresh_turn : Turn
fresh_turn = turn (ready (fresh_state sizes) None) (Answered 70 0 1561) (formatted sizes memory)

first-line : line_turn started memory (text "F,2,1,2") ≡ fresh_turn
unfolding with_byte fields all_digits value_from all_numbers values line_of parsed form_of text turn_of tab filled
first-line = format-fresh sizes refl memory (fits 12480) started refl

-- a line whose turn is known
prints : (n : ℕ) (m : Machine) (img line : List ℕ) (lines : List (List ℕ)) (t : Turn) → line_turn m img line ≡ t
    → printed n m img (line ∷ lines) ≡ output_line n t.output ∷ printed (suc n) t.machine t.image lines
unfolding printed
prints n m img line lines t e = ap (λ (u : Turn). output_line n u.output ∷ printed (suc n) u.machine u.image lines) e

abbrev rest : List (List ℕ) → List (List ℕ)
rest [] = []
rest (line ∷ lines) = lines

other-lines : output_line 1 fresh_turn.output ∷ printed 2 fresh_turn.machine fresh_turn.image (rest input) ≡ output
unfolding map_from all_below some_below first_below one count_below those up_to count_of each_once tab filled le_of bytes_of part over word_at put_word words_at flat fresh_words formatted fresh_table mount_read mount_of live_record records_ok table_from replay frame_names in_mask with_line exclusive_or disjoint others lines_in count_lines lines_not_in held_ok others_hold some_hold held_slots copy_count recorded_slots needs free_after slots_ok lasts_ok prepared_ok wide_ok entries_ok pending_ok state_ok commit_record_of commit_at_of commit_value_of closed_writer seen_frame stepped stepped_by write_slot begin_of changes_nothing write_of commit_of read_row read_bytes run_of run_bytes mount_call exec digits_of with_byte fields all_digits value_from all_numbers values line_of parsed form_of text printed output_line finished shown turn_of
other-lines = refl

pub listing : printed 1 started memory input ≡ output
listing = prints 1 started memory (text "F,2,1,2") (rest input) fresh_turn first-line ∙ other-lines
