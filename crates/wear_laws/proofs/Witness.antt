-- The witness: its format by law, its other lines by computing; what is told and cut is got from the theorems.
use Prim.Native.Nat.{ℕ, ◌+◌, ◌≤◌}
use mathlib.Core.List.{List, [], ◌∷◌, ◌++◌}
use mathlib.Core.Bool.{false}
use mathlib.Core.Path.{◌≡◌, refl, sym, ap, ap₂, ◌∙◌}
use native.Mathlib.Omega.{arith}
use lib.ListN.{length, get_or, replicate, length-replicate}
use Rattle.layout.specs.declared.Sizes.{Sizes}
use Rattle.bounded.specs.Below.{all_below, some_below, first_below, one, count_below, those, up_to}
use Rattle.bounded.specs.Count.{count_of, each_once}
use Rattle.bounded.specs.Tab.{tab, filled}
use Rattle.words.specs.Words.{le_of, bytes_of, part, over, word_at, put_word, words_at, flat}
use Rattle.image.specs.Lines.{merge_changes}
use Rattle.fresh.specs.Fresh.{fresh_words, formatted, fresh_table, format_at}
use Rattle.mount.specs.Mount.{mount_read, mount_of}
use Rattle.journal.specs.Records.{live_record, records_ok}
use Rattle.replay.specs.Table.{table_from, replay, frame_names}
use Rattle.masks.specs.Lines.{in_mask, with_line, exclusive_or, disjoint, others as other_lines, lines_in, count_lines, lines_not_in}
use Rattle.entries.specs.Entries.{entries_ok}
use Rattle.state.specs.Wide.{wide_ok}
use Rattle.state.specs.Held.{held_ok, others_hold, some_hold, held_slots}
use Rattle.replay.specs.Map.{map_from}
use Rattle.state.specs.Slots.{free_after}
use Rattle.operations.specs.Operations.{copy_count, recorded_slots, needs}
use Rattle.validity.specs.Validity.{slots_ok, lasts_ok, prepared_ok, pending_ok, state_ok}
use Rattle.refinement.specs.Commit.{closed_writer}
use Rattle.refinement.specs.Frames.{seen_frame}
use Rattle.refinement.specs.Stores.{World, stepped, stepped_by}
use Rattle.refinement.specs.Write.{write_slot}
use Rattle.refinement.specs.Calls.{world_of, begin_of, changes_nothing, write_of, run_of, run_bytes}
use Rattle.refinement.specs.Mount.{fresh_state, mount_call, format_of}
use Rattle.refinement.specs.Run.{exec}
use Rattle.refinement.proofs.FormatAsked.{formatting}
use Rattle.call_mount.specs.Replacing.{replacing}
use Rattle.cutting.specs.Feeding.{Fed, fed_byte, fed, ended}
use Rattle.cutting.proofs.Feeding.{fed-append}
use Rattle.text.specs.Fields.{with_byte, fields, all_digits, value_from, all_numbers, values, line_of, parsed}
use Rattle.forms.specs.Forms.{form_of}
use Rattle.printing.specs.declared.Output.TheVariants.{Answered}
use Rattle.std.specs.Prelude.{None}
use Rattle.executing.specs.Called.{Turn, turn, ready, finished}
use Rattle.script.specs.Listing.{text}
use Rattle.script.specs.Performed.{started}
use Rattle.script.specs.Turns.{turn_of}
use Rattle.script.proofs.FormatLine.{format-fresh}
use Rattle.wear.specs.Wear.{part_of, ends_copy, wear_of, worn_by, stores_in, line_wear}
use Rattle.wear.proofs.Made.{format-asks}
use Rattle.wear_lines.specs.Lines.{Work, opening, first, turned, act}
use Rattle.wear_laws.specs.Inputs.{unfed, worked, lines_of, inputs_of}
use Rattle.wear_laws.specs.Listings.{all_told}
use Rattle.wear_laws.specs.Copies.{cut_to, summed, sum_below, any_frame}
use Rattle.wear_laws.specs.Witness.{size, format_line, others, input, numbers, CopyCut}
use Rattle.wear_laws.proofs.Reading.{fed-whole}
use Rattle.wear_laws.proofs.Told.{stores-told}
use Rattle.wear_laws.proofs.Frames.{stores-of-copies}

abbrev sizes : Sizes
sizes = record { pages = 1; slots = 1; places = 1; entries = 0 }

abbrev memory : List ℕ
memory = replicate 8320 0

-- ---- its format

fits : (n : ℕ) → n ≤ length (replicate {A = ℕ} n 0)
fits n = omega (arith, length-replicate {A = ℕ} n 0)

abbrev fresh_turn : Turn
fresh_turn = turn (ready (fresh_state sizes) None) (Answered 70 0 1041) (formatted sizes memory)

first-turn : turn_of started memory (parsed 9 format_line) ≡ fresh_turn
unfolding with_byte fields all_digits value_from all_numbers values line_of parsed form_of text turn_of tab filled
first-turn = format-fresh sizes refl memory (fits 8320) started refl

taken : (format_of sizes memory).number ≡ 0
unfolding format_of
taken = refl

-- what the numbers are after it, by the world in which it is pending and by its turn
abbrev with_turn : World → Turn → Work
with_turn v t =
    record {
      machine = t.machine;
      image = t.image;
      worn = tab 22 (λ k. get_or (replicate 22 0) k 0 + worn_by v false (stores_in t.output) k);
    }

acts : act (first size) format_line
    ≡ with_turn (world_of (replacing started.st (format_of sizes memory)).state memory) (turn_of started memory (parsed 9 format_line))
unfolding act opening turned line_wear with_byte fields all_digits value_from all_numbers values line_of parsed form_of text
acts = refl

abbrev format_numbers : List ℕ
format_numbers = 64 ∷ 64 ∷ 0 ∷ 0 ∷ 0 ∷ 0 ∷ 0 ∷ 0 ∷ 0 ∷ 0 ∷ 0 ∷ 0 ∷ 0 ∷ 0 ∷ 0 ∷ 1024 ∷ 9 ∷ 4 ∷ 4 ∷ 0 ∷ 1041 ∷ 0 ∷ []

abbrev after_format : Work
after_format = record { machine = ready (fresh_state sizes) None; image = formatted sizes memory; worn = format_numbers }

format-numbers : with_turn (world_of (formatting sizes) memory) fresh_turn ≡ after_format
unfolding tab worn_by count_below one wear_of part_of ends_copy format_at
format-numbers = refl

first-act : act (first size) format_line ≡ after_format
first-act = acts ∙ ap₂ with_turn (format-asks started.st sizes memory taken) first-turn ∙ format-numbers

-- ---- its other lines

other-lines : (ended act (fed act (unfed after_format) others)).worn ≡ numbers
unfolding map_from all_below some_below first_below one count_below those up_to count_of each_once tab filled le_of bytes_of part over word_at put_word words_at flat fresh_words formatted fresh_table mount_read mount_of live_record records_ok table_from replay frame_names in_mask with_line exclusive_or disjoint other_lines lines_in count_lines lines_not_in entries_ok wide_ok held_ok others_hold some_hold held_slots copy_count recorded_slots needs free_after slots_ok lasts_ok prepared_ok pending_ok state_ok closed_writer seen_frame stepped stepped_by write_slot begin_of changes_nothing write_of run_of run_bytes mount_call exec merge_changes with_byte fields all_digits value_from all_numbers values line_of parsed form_of text finished turn_of part_of ends_copy wear_of worn_by line_wear opening turned act fed fed_byte ended
other-lines = refl

-- ---- all of it

first-fed : fed act (unfed (first size)) (format_line ++ (10 ∷ [])) ≡ unfed after_format
unfolding text
first-fed = fed-whole act (first size) format_line refl ∙ ap (λ (w : Work). unfed w) first-act

parted : input ≡ (format_line ++ (10 ∷ [])) ++ others
unfolding text
parted = refl

worn : (worked size input).worn ≡ numbers
worn =
    ap (λ (x : List ℕ). (worked size x).worn) parted
    ∙ ap (λ (f : Fed Work). (ended act f).worn) (fed-append act (unfed (first size)) (format_line ++ (10 ∷ [])) others)
    ∙ ap (λ (f : Fed Work). (ended act (fed act f others)).worn) first-fed
    ∙ other-lines

lines : lines_of input ≡ 7
unfolding text fed fed_byte ended
lines = refl

told : all_told size (inputs_of input) ≡ 1052
told =
    sym (stores-told size input).parts
    ∙ ap (λ (l : List ℕ). get_or l 15 0 + get_or l 16 0 + get_or l 17 0 + get_or l 18 0 + get_or l 19 0) worn

copies : sum_below 15 (λ k. get_or numbers k 0) ≡ 129
unfolding sum_below
copies = refl

cut : summed (cut_to any_frame) size input ≡ 3
cut =
    let all = (stores-of-copies size input).frames in
    let stored = ap (λ (l : List ℕ). get_or l 15 0) worn in
    let whole = ap (λ (l : List ℕ). sum_below 15 (λ k. get_or l k 0)) worn ∙ copies in
    omega (arith, all, stored, whole)

pub copy-cut : CopyCut
copy-cut = record { worn = worn; few = omega (arith, lines); told = told; cut = cut }
