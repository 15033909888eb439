-- The witnesses: what their lists come to is computed; what a read, a recall and the meters show is got from the theorems.
use Prim.Native.Nat.{ℕ, ◌+◌}
use mathlib.Core.Bool.{cond}
use mathlib.Core.List.{List, [], ◌∷◌}
use mathlib.Core.Path.{◌≡◌, refl, sym, ap, subst, ◌∙◌}
use native.Mathlib.Omega.{arith}
use lib.Dec.{eqb}
use lib.ListN.{replicate}
use Rattle.bounded.specs.Below.{all_below, some_below, first_below, one, count_below, those, up_to}
use Rattle.bounded.specs.Count.{count_of, each_once}
use Rattle.bounded.specs.Tab.{tab, filled}
use Rattle.words.specs.Words.{le_of, bytes_of, part, over, word_at, put_word, words_at, flat}
use Rattle.meters.specs.Meters.{moduli_ok, modulus_of, fixed_modulus, fixed_moduli, credit_bad, amount_bad}
use Rattle.moduli_text.specs.Text.{place_of, plain_decimal, value_of, line_start, lines_row, text_row, moduli_in}
use Rattle.fresh.specs.Fresh.{fresh_words, formatted, fresh_table}
use Rattle.image.specs.Lines.{merge_changes}
use Rattle.journal.specs.Records.{live_record, records_ok}
use Rattle.replay.specs.Table.{table_from, replay, frame_names}
use Rattle.mount.specs.Mount.{mount_read, mount_of}
use Rattle.masks.specs.Lines.{in_mask, with_line, exclusive_or, disjoint, others}
use Rattle.entries.specs.Entries.{keys_from, entries_ok}
use Rattle.state.specs.Wide.{wide_ok}
use Rattle.state.specs.Held.{held_ok, others_hold, some_hold, held_slots}
use Rattle.operations.specs.Operations.{recorded_slots, needs}
use Rattle.replay.specs.Map.{map_from}
use Rattle.state.specs.Slots.{free_after}
use Rattle.validity.specs.Validity.{slots_ok, lasts_ok, prepared_ok, pending_ok, state_ok}
use Rattle.refinement.specs.Commit.{closed_writer, commit_record_of, commit_at_of, commit_value_of}
use Rattle.refinement.specs.Frames.{seen_frame}
use Rattle.refinement.specs.Stores.{World, stepped, stepped_by}
use Rattle.refinement.specs.Write.{write_slot}
use Rattle.refinement.specs.Event.{line_done, event_at, event_value, event_done}
use Rattle.refinement.specs.Calls.{begin_of, changes_nothing, write_of, commit_of, read_row, read_bytes, run_of, run_bytes, event_of, load_of}
use Rattle.refinement.specs.Mount.{format_call, mount_call}
use Rattle.refinement.specs.Recall.{recall_row, recall_bytes}
use Rattle.refinement.specs.Run.{Call, Result, load, exec, after}
use Rattle.refinement.specs.Statement.{AllLent}
use Rattle.refinement.specs.Reference.{blank, turn}
use Rattle.refinement.specs.Totals.{Move, loaded, next, AllSpare, AllLend, NoLoad, account, history, total, opened}
use Rattle.refinement.specs.Before.{exec_before, write_before, played, AllBytes}
use Rattle.refinement.specs.Witness.{sizes, buffer, fresh, put}
use Rattle.refinement.proofs.Witness.{low, bytes, fits}
use Rattle.witnesses.specs.Witness.{cut_and_whole, seen, sights, CommitCut, cash_in, paid, digits, hundreds, loaded_cash_in, MetersMove, FixedMetersMove, once, twice, WriteIdle}
use Rattle.refinement.proofs.MetersAddUp.{meters-add-up, fixed-meters-add-up}
use Rattle.refinement.proofs.AsBefore.{as_before}

abbrev hundred : List ℕ
hundred = replicate 24 100

-- what is computed: what is seen of the cut commit and the whole one; that the load is taken and gives its moduli; the events completed; the stores of a
-- write that changes nothing
record Computed : Type 0 where
  shown : seen cut_and_whole fresh ≡ sights
  taken : ◌≡◌ {A = Result} (exec (load (hundreds 0 24)) fresh) (record { number = 0; stores = 0; world = fresh; target = hundred })
  paid-loaded : (account (cash_in hundred) fresh blank (loaded opened hundred fresh)).all ≡ paid
  paid-fixed : history (cash_in fixed_moduli) fresh blank ≡ paid
  now : (exec put (played exec once fresh)).stores ≡ 0
  before : (exec_before put (played exec_before once fresh)).stores ≡ 8

computed : Computed
unfolding map_from all_below some_below first_below one count_below those up_to count_of each_once tab filled le_of bytes_of part over word_at put_word words_at flat fresh_words formatted fresh_table live_record records_ok table_from replay frame_names keys_from entries_ok mount_read mount_of in_mask with_line exclusive_or disjoint others wide_ok held_ok others_hold some_hold held_slots recorded_slots needs free_after slots_ok lasts_ok prepared_ok pending_ok state_ok commit_record_of commit_at_of commit_value_of closed_writer seen_frame stepped stepped_by write_slot begin_of changes_nothing write_of commit_of read_row read_bytes run_of run_bytes format_call mount_call recall_row recall_bytes exec after buffer fresh moduli_ok modulus_of fixed_modulus fixed_moduli credit_bad amount_bad place_of plain_decimal value_of line_start lines_row text_row moduli_in load_of event_of line_done event_at event_value event_done digits hundreds account history merge_changes seen exec_before write_before played
computed = record { shown = refl; taken = refl; paid-loaded = refl; paid-fixed = refl; now = refl; before = refl }

-- ---- demand 3

pub commit-cut : CommitCut
commit-cut = record { lent = (tt, (low, (tt, (tt, (tt, (tt, (tt, (tt, (low, (tt, (tt, (tt, (tt, tt))))))))))))); shown = computed.shown }

-- ---- the meters

lends-loaded : AllLend loaded_cash_in fresh fixed_moduli
unfolding AllLend
lends-loaded =
    subst (λ (d : Result). Unit {0} × AllLend (cash_in hundred) d.world (cond (eqb d.number 0) d.target fixed_moduli)) (sym computed.taken)
    (tt, ((λ e. refl), (tt, tt)))

paid-in : (account loaded_cash_in fresh blank opened).all ≡ paid
unfolding account
paid-in =
    let c : Call = load (hundreds 0 24) in
    ap (λ (d : Result). (account (cash_in hundred) d.world (turn c d.number d.stores blank) (next c d fresh blank opened)).all) computed.taken
    ∙ computed.paid-loaded

-- credit is what was paid in
credit : (x : ℕ) (es : List Move) → es ≡ paid → x + total 2 es + total 3 es ≡ total 1 es + total 4 es → x ≡ 60
unfolding total
credit x es e h = let c : x + 0 + 0 ≡ 60 = rw e at h in omega arith

pub meters-move : MetersMove
unfolding fresh AllSpare
meters-move =
    let some : AllLent loaded_cash_in = (tt, (tt, (tt, tt))) in
    let spares : AllSpare loaded_cash_in fresh = (tt, (tt, (tt, tt))) in
    record {
      lent = some;
      spared = spares;
      lends = lends-loaded;
      completed = paid-in;
      credit = credit _ _ paid-in (meters-add-up sizes refl buffer bytes fits loaded_cash_in some spares lends-loaded).credit;
    }

pub fixed-meters-move : FixedMetersMove
unfolding fresh AllSpare AllLend NoLoad
fixed-meters-move =
    let calls : List Call = cash_in fixed_moduli in
    let some : AllLent calls = (tt, (tt, tt)) in
    let spares : AllSpare calls fresh = (tt, (tt, tt)) in
    let lends : AllLend calls fresh fixed_moduli = ((λ e. refl), (tt, tt)) in
    let none : NoLoad calls fresh = (refl, (refl, tt)) in
    record {
      lent = some;
      spared = spares;
      lends = lends;
      unloaded = none;
      completed = computed.paid-fixed;
      credit = credit _ _ computed.paid-fixed (fixed-meters-add-up sizes refl buffer bytes fits calls some spares lends none).credit;
    }

-- ---- L3

pub write-idle : WriteIdle
unfolding fresh AllBytes
write-idle =
    let all : AllBytes twice = (tt, (low, (low, (tt, tt)))) in
    record { bytes = all; now = computed.now; before = computed.before; same = (as_before sizes refl buffer bytes fits twice all).world }
