-- The witness: that the settings are taken and the round is done is computed; what is shown then is got from the theorem.
use Prim.Native.Nat.{ℕ, ◌<◌}
use mathlib.Core.Bool.{true}
use mathlib.Core.Path.{◌≡◌, refl, ◌∙◌}
use native.Mathlib.Omega.{arith}
use Rattle.bounded.specs.Below.{all_below, some_below, first_below, one, count_below, those, up_to}
use Rattle.bounded.specs.Count.{count_of, each_once}
use Rattle.bounded.specs.Tab.{tab, filled}
use Rattle.words.specs.Words.{le_of, bytes_of, part, over, word_at, put_word, words_at, flat}
use Rattle.fresh.specs.Fresh.{fresh_words, fresh_table}
use Rattle.image.specs.Lines.{merge_changes}
use Rattle.replay.specs.Table.{replay, frame_names}
use Rattle.masks.specs.Lines.{in_mask, with_line, exclusive_or, disjoint, others}
use Rattle.entries.specs.Entries.{entries_ok}
use Rattle.state.specs.Wide.{wide_ok}
use Rattle.state.specs.Held.{held_ok, others_hold, some_hold, held_slots}
use Rattle.operations.specs.Operations.{recorded_slots, needs}
use Rattle.replay.specs.Map.{map_from}
use Rattle.state.specs.Slots.{free_after}
use Rattle.validity.specs.Validity.{slots_ok, lasts_ok, prepared_ok, pending_ok, state_ok}
use Rattle.refinement.specs.Commit.{closed_writer, commit_record_of, commit_at_of, commit_value_of}
use Rattle.refinement.specs.Frames.{seen_frame}
use Rattle.refinement.specs.Stores.{stepped, stepped_by}
use Rattle.refinement.specs.Write.{write_slot}
use Rattle.refinement.specs.Calls.{begin_of, changes_nothing, write_of, commit_of, run_of, run_bytes}
use Rattle.refinement.specs.Mount.{format_call}
use Rattle.refinement.specs.Run.{exec}
use Rattle.fresh.specs.Fresh as Fresh
use Rattle.words.specs.Words.{Bytes}
use Rattle.replay.proofs.Tables.{one_value}
use Rattle.text.specs.Fields.{with_byte, fields, all_digits, value_from, all_numbers, values, line_of, parsed}
use Rattle.trials.specs.Trials.{formatted, stores_for, plus, made, with_room, put, put_all, committed, as_done, as_abandoned, played}
use Rattle.trial_lines.specs.Lines.{first, numbers_of, sizes_of, with_setting, with_round, acted, act}
use Rattle.trial_laws.specs.Pages.{after, is_listed, left_by, zeros, Given}
use Rattle.trial_laws.specs.Witness.{one_setting, other_setting, one_round, buffer, line, RoundShown}
use Rattle.trial_laws.proofs.Theorem.{shown-by-rounds, equal-bytes}

record Computed : Type 0 where
  taken : (act (first buffer) one_setting).set ≡ true
  done : (after one_round (act (first buffer) one_setting)).tried.abandoned ≡ 0
  taken-other : (act (first buffer) other_setting).set ≡ true
  done-other : (after one_round (act (first buffer) other_setting)).tried.abandoned ≡ 0

computed : Computed
unfolding map_from count_of each_once frame_names all_below some_below first_below one count_below those up_to tab filled le_of bytes_of part over word_at put_word words_at flat fresh_words fresh_table replay entries_ok in_mask with_line exclusive_or disjoint others wide_ok held_ok others_hold some_hold held_slots recorded_slots needs free_after slots_ok lasts_ok prepared_ok pending_ok state_ok commit_record_of commit_at_of commit_value_of closed_writer seen_frame stepped stepped_by write_slot begin_of changes_nothing write_of commit_of run_of run_bytes format_call exec merge_changes Fresh.formatted with_byte fields all_digits value_from all_numbers values line_of parsed formatted made with_room put put_all committed as_done as_abandoned played stores_for plus first with_setting with_round acted after buffer
computed = record { taken = refl; done = refl; taken-other = refl; done-other = refl }

bytes : Bytes buffer
unfolding buffer
bytes i = omega (arith, one_value 8384 i 0)

-- what a round on page 0 leaves there
left : tab 64 (left_by 1 one_round zeros 0 0) ≡ line
unfolding tab left_by is_listed with_byte fields all_digits value_from all_numbers values line_of parsed
left = refl

one-page : 0 < (sizes_of (numbers_of one_setting)).pages
unfolding with_byte fields all_digits value_from all_numbers values line_of parsed
one-page = omega arith

other-page : 0 < (sizes_of (numbers_of other_setting)).pages
unfolding with_byte fields all_digits value_from all_numbers values line_of parsed
other-page = omega arith

pub round-shown : RoundShown
round-shown =
    let c = computed in
    let g : Given buffer one_setting one_round = record { bytes = bytes; taken = c.taken; few = omega arith; done = c.done } in
    let h : Given buffer other_setting one_round = record { bytes = bytes; taken = c.taken-other; few = omega arith; done = c.done-other } in
    let s = shown-by-rounds buffer one_setting one_round g 0 0 one-page (omega arith) ∙ left in
    let same = equal-bytes buffer buffer other_setting one_setting one_round h g 0 0 other-page one-page (omega arith) in
    record { given = g; given-other = h; shown = s; same = same ∙ s }
