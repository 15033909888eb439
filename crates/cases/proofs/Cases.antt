-- T1 to T12 of document 01 hold, by computing.
use mathlib.Core.Path.{◌≡◌, refl}
use Rattle.bounded.specs.Below.{all_below, some_below, first_below, one, count_below, those, up_to}
use Rattle.bounded.specs.Count.{count_of, each_once}
use Rattle.bounded.specs.Tab.{tab, filled}
use Rattle.words.specs.Words.{le_of, bytes_of, part, over, word_at, put_word, words_at, flat}
use Rattle.fresh.specs.Fresh.{fresh_words, formatted, fresh_table}
use Rattle.journal.specs.Records.{live_record, records_ok}
use Rattle.replay.specs.Table.{table_from, replay, frame_names}
use Rattle.mount.specs.Mount.{mount_read, mount_of}
use Rattle.masks.specs.Lines.{in_mask, with_line, exclusive_or, disjoint, others, lines_in, count_lines, lines_not_in}
use Rattle.entries.specs.Entries.{keys_from, entries_ok}
use Rattle.state.specs.Wide.{wide_ok}
use Rattle.state.specs.Held.{held_ok, others_hold, some_hold, held_slots}
use Rattle.operations.specs.Operations.{copy_count, recorded_slots, needs}
use Rattle.replay.specs.Map.{map_from}
use Rattle.state.specs.Slots.{free_after}
use Rattle.validity.specs.Validity.{slots_ok, lasts_ok, prepared_ok, pending_ok, state_ok}
use Rattle.refinement.specs.Checkpoint.{checkpoint_at_of, checkpoint_value_of}
use Rattle.refinement.specs.Commit.{closed_writer, commit_record_of, commit_at_of, commit_value_of}
use Rattle.refinement.specs.Consolidate.{freeing_record, consolidate_at, consolidate_value}
use Rattle.refinement.specs.Frames.{seen_frame}
use Rattle.refinement.specs.Stores.{stepped, stepped_by}
use Rattle.refinement.specs.Write.{write_slot}
use Rattle.refinement.specs.Calls.{begin_of, abort_of, changes_nothing, write_of, commit_of, consolidate_of, checkpoint_of, read_row, read_bytes, run_of, run_bytes, step_of, step_bytes}
use Rattle.refinement.specs.Mount.{format_call, mount_call}
use Rattle.refinement.specs.Run.{exec, after}
use Rattle.cases.specs.Cases.{words, seen, fresh, formats, mounts, finds, gives, copies, case, cases, computed_all, stated_all}

pub every-case : computed_all cases ≡ stated_all cases
unfolding map_from all_below some_below first_below one count_below those up_to count_of each_once tab filled le_of bytes_of part over word_at put_word words_at flat fresh_words formatted fresh_table live_record records_ok table_from replay frame_names keys_from entries_ok mount_read mount_of in_mask with_line exclusive_or disjoint others lines_in count_lines lines_not_in wide_ok held_ok others_hold some_hold held_slots copy_count recorded_slots needs free_after slots_ok lasts_ok prepared_ok pending_ok state_ok checkpoint_at_of checkpoint_value_of commit_record_of commit_at_of commit_value_of closed_writer freeing_record consolidate_at consolidate_value seen_frame stepped stepped_by write_slot begin_of abort_of changes_nothing write_of commit_of consolidate_of checkpoint_of read_row read_bytes run_of run_bytes step_of step_bytes format_call mount_call exec after words seen fresh formats mounts finds gives copies case cases computed_all stated_all
every-case = refl
