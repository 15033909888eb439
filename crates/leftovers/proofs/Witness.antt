-- The witness: the place is left over, since page 0's committed line is in frame 0; so any word may stand there.
use Prim.Native.Nat.{ℕ, zero, suc, ◌+◌, ◌<◌}
use mathlib.Core.Path.{◌≡◌, refl, sym, ap}
use native.Mathlib.Omega.{arith}
use Rattle.layout.specs.declared.Sizes.{Sizes}
use Rattle.layout.specs.Layout.{frames, line_word}
use Rattle.bounded.specs.Below.{all_below, some_below, first_below, one, count_below, those, up_to}
use Rattle.bounded.specs.Count.{count_of, each_once}
use Rattle.bounded.specs.Tab.{tab, filled}
use Rattle.words.specs.Words.{word, le_of, bytes_of, part, over, word_at, put_word, words_at, flat}
use Rattle.fresh.specs.Fresh.{fresh_words, formatted, fresh_table}
use Rattle.image.specs.Lines.{merge_changes}
use Rattle.journal.specs.Records.{live_record, records_ok}
use Rattle.replay.specs.Table.{table_from, replay, frame_names}
use Rattle.replay.specs.Map.{map_from}
use Rattle.state.specs.State.{own_frame}
use Rattle.mount.specs.Mount.{mount_read, mount_of}
use Rattle.masks.specs.Lines.{in_mask, with_line, exclusive_or, disjoint, others}
use Rattle.entries.specs.Entries.{keys_from, entries_ok}
use Rattle.state.specs.Wide.{wide_ok}
use Rattle.state.specs.Held.{held_ok, others_hold, some_hold, held_slots}
use Rattle.operations.specs.Operations.{recorded_slots, needs}
use Rattle.state.specs.Slots.{free_after}
use Rattle.validity.specs.Validity.{slots_ok, lasts_ok, prepared_ok, pending_ok, state_ok}
use Rattle.refinement.specs.Frames.{seen_frame}
use Rattle.refinement.specs.Stores.{stepped, stepped_by}
use Rattle.refinement.specs.Write.{write_slot}
use Rattle.refinement.specs.Calls.{begin_of, changes_nothing, write_of, run_of, run_bytes}
use Rattle.refinement.specs.Mount.{format_call, mount_call}
use Rattle.refinement.specs.Run.{exec, after}
use Rattle.refinement.specs.Witness.{sizes, buffer, fresh}
use Rattle.refinement.specs.Recall.{frame_of}
use Rattle.refinement.specs.Statement.{AllLent}
use Rattle.refinement.specs.Witness.{sizes}
use Rattle.refinement.proofs.Witness.{low, bytes, fits}
use Rattle.leftovers.specs.Leftovers.{Leftover, other-copy, Replaced, Scribbled}
use Rattle.leftovers.specs.Witness.{dropped, mounted, place, other, LeftoverReplaced}
use Rattle.leftovers.proofs.EveryWord.{any_word}
use Rattle.leftovers.proofs.Theorem.{leftovers-never-show}

lent : AllLent dropped
lent = (tt, (low, (tt, tt)))

record Computed : Type 0 where
  was : word mounted.image place ≡ 165
  is : word other place ≡ 7
  sizes-are : mounted.st.sizes ≡ sizes
  home : frame_of (own_frame mounted.st) mounted.st.sizes mounted.st.table 0 0 ≡ 0

computed : Computed
unfolding map_from all_below some_below first_below one count_below those up_to count_of each_once tab filled le_of bytes_of part over word_at put_word words_at flat fresh_words formatted fresh_table live_record records_ok table_from replay frame_names keys_from entries_ok mount_read mount_of in_mask with_line exclusive_or disjoint others wide_ok held_ok others_hold some_hold held_slots recorded_slots needs free_after slots_ok lasts_ok prepared_ok pending_ok state_ok seen_frame stepped stepped_by write_slot begin_of changes_nothing write_of run_of run_bytes format_call mount_call exec after buffer fresh merge_changes mounted
computed = record { was = refl; is = refl; sizes-are = refl; home = refl }

-- no page but 0, whose committed line is in frame 0
apart : (p : ℕ) → p < mounted.st.sizes.pages → frame_of (own_frame mounted.st) mounted.st.sizes mounted.st.table p 0 ≡ 1 → ⊥
apart zero l e = omega (arith, computed.home)
apart (suc p) l e = omega (arith, ap (λ (z : Sizes). z.pages) computed.sizes-are)

leftover : Leftover mounted place
leftover =
    let e = computed.sizes-are in
    other-copy 1 0 0 (omega (arith, ap frames e)) (omega arith) (omega arith) apart (ap (λ (z : Sizes). line_word z 1 0 + 0) (sym e))

scribbled : Scribbled mounted
unfolding mounted fresh
scribbled = any_word sizes refl buffer bytes fits dropped lent

pub leftover-replaced : LeftoverReplaced
unfolding mounted fresh
leftover-replaced =
    let R : Replaced mounted other = scribbled.more mounted.image scribbled.none place 7 leftover in
    let same = leftovers-never-show sizes refl buffer bytes fits dropped lent other R in
    record { was = computed.was; leftover = leftover; replaced = R; is = computed.is; unseen = same }
