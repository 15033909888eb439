-- The example, by computing.
use Prim.Native.Nat.{ℕ, zero, suc, ◌+◌, ◌-◌, ◌<◌}
use mathlib.Core.Bool.{true, false, not}
use mathlib.Core.List.{List, [], ◌∷◌, ◌++◌, map}
use mathlib.Core.Logic.{inl, inr}
use mathlib.Core.Path.{◌≡◌, refl, sym, ap, ◌∙◌, subst}
use native.Mathlib.Omega.{arith}
use lib.Dec.{ltb}
use lib.ListN.{length, take, drop, get_or}
use lib.Seq.{get_or-take, get_or-drop}
use borrow.Author.Tests.{ltb-true, ltb-false, not-true}
use Rattle.bounded.proofs.Below.{all-at}
use Rattle.bounded.proofs.Tests.{case_on}
use Rattle.bounded.specs.Below.{all_below, some_below, first_below, one, count_below, those, up_to}
use Rattle.bounded.specs.Count.{count_of, each_once}
use Rattle.bounded.specs.Tab.{tab, filled}
use Rattle.layout.specs.Layout.{head_word}
use Rattle.words.specs.Words.{le_of, bytes_of, part, over, word_at, put_word, words_at, flat, store, Bytes}
use Rattle.fresh.specs.Fresh.{fresh_words, formatted, fresh_table}
use Rattle.journal.specs.Records.{live_record, records_ok}
use Rattle.replay.specs.Table.{table_from, replay, frame_names}
use Rattle.mount.specs.Mount.{mount_read, mount_of}
use Rattle.masks.specs.Lines.{in_mask, with_line, exclusive_or, disjoint, others, lines_in, count_lines, lines_not_in}
use Rattle.entries.specs.Entries.{keys_from, entries_ok}
use Rattle.state.specs.Wide.{wide_ok}
use Rattle.state.specs.Held.{held_ok, others_hold, some_hold, held_slots}
use Rattle.operations.specs.Operations.{copy_count, recorded_slots, needs}
use Rattle.replay.specs.Map.{map_from}
use Rattle.state.specs.Slots.{free_after}
use Rattle.validity.specs.Validity.{slots_ok, lasts_ok, prepared_ok, pending_ok, state_ok}
use Rattle.refinement.specs.Commit.{closed_writer, commit_record_of, commit_at_of, commit_value_of}
use Rattle.refinement.specs.Frames.{seen_frame}
use Rattle.refinement.specs.Stores.{World, stepped, stepped_by}
use Rattle.refinement.specs.Write.{write_slot}
use Rattle.refinement.specs.Calls.{begin_of, changes_nothing, write_of, commit_of, run_of, run_bytes}
use Rattle.refinement.specs.Mount.{format_call, mount_call}
use Rattle.refinement.specs.Run.{commit, run, exec, after}
use Rattle.cases.specs.Cases.{fresh, to_commit, words, mounts}
use Rattle.any_order.specs.AnyOrder.{decides, since_next, since_stores, StoodAt, call, fence, acted_by}
use Rattle.torn_case.specs.Witness.{acts, start, last_alone, shown, Witness}
use Rattle.any_order.proofs.Mixed.{part-byte}

-- the image at the fence, the one with all four stores, and the world before the run that makes them
abbrev fenced : List ℕ
fenced = (after to_commit fresh).image

abbrev newest : List ℕ
newest = (acted_by acts start).world.image

abbrev before : World
before = (acted_by (map call to_commit ++ (fence ∷ call (commit 0) ∷ [])) start).world

-- what is computed
record Computed : Type 0 where
  in_order : shown newest ≡ 0 ∷ 0 ∷ 8589934592 ∷ 1 ∷ 0 ∷ []
  alone : shown last_alone ≡ 0 ∷ 0 ∷ 0 ∷ 1 ∷ 0 ∷ []
  unfenced : shown (store last_alone head_word 1) ≡ 0 ∷ 0 ∷ 0 ∷ 1 ∷ 6 ∷ []
  -- none of the four stores decides
  other : all_below 4 (λ j. not (decides (stepped_by j before).st)) ≡ true
  since : (acted_by acts start).since ≡ since_stores 4 before (fenced ∷ [])
  made : newest ≡ (stepped (stepped_by 3 before)).image
  -- bytes 128 to 135 are those of the newest image, all others those at the fence
  as_long : length last_alone ≡ length newest
  low : take 128 last_alone ≡ take 128 fenced
  word : part last_alone 128 8 ≡ part newest 128 8
  high : drop 136 last_alone ≡ drop 136 fenced

computed : Computed
unfolding map_from all_below some_below first_below one count_below those up_to count_of each_once tab filled le_of bytes_of part over word_at put_word words_at flat fresh_words formatted fresh_table live_record records_ok table_from replay frame_names keys_from entries_ok mount_read mount_of in_mask with_line exclusive_or disjoint others lines_in count_lines lines_not_in wide_ok held_ok others_hold some_hold held_slots copy_count recorded_slots needs free_after slots_ok lasts_ok prepared_ok pending_ok state_ok commit_record_of commit_at_of commit_value_of closed_writer seen_frame stepped stepped_by write_slot begin_of changes_nothing write_of commit_of run_of run_bytes format_call mount_call exec after fresh words mounts last_alone shown acted_by since_next since_stores
computed =
    record { in_order = refl; alone = refl; unfenced = refl; other = refl; since = refl; made = refl; as_long = refl; low = refl; word = refl; high = refl }

none-decides : (j : ℕ) → j < 4 → decides (stepped_by j before).st ≡ false
none-decides j l = not-true (decides (stepped_by j before).st) (all-at (λ (i : ℕ). not (decides (stepped_by i before).st)) 4 j l computed.other)

-- ---- a byte that stood at the fence still may be in the memory where no store decides

older : (n : ℕ) (v : World) (since : List (List ℕ)) (i x : ℕ) → ((j : ℕ) → j < n → decides (stepped_by j v).st ≡ false) → StoodAt since i x → StoodAt (since_stores n v since) i x
unfolding since_stores since_next
older zero v since i x off s = s
older (suc n) v since i x off s = rw (off n (omega arith)) (inr (older n v since i x (λ j l. off j (omega arith)) s))

old-stood : (i : ℕ) → StoodAt (acted_by acts start).since i (get_or fenced i 0)
old-stood i =
    subst (λ (l : List (List ℕ)). StoodAt l i (get_or fenced i 0)) (sym computed.since) (older 4 before (fenced ∷ []) i (get_or fenced i 0) none-decides (inl refl))

new-stood : (i : ℕ) → StoodAt (acted_by acts start).since i (get_or newest i 0)
unfolding since_stores since_next
new-stood i =
    subst (λ (l : List (List ℕ)). StoodAt l i (get_or newest i 0)) (sym computed.since)
    (rw (none-decides 3 (omega arith)) (inl (ap (λ (l : List ℕ). get_or l i 0) computed.made)))

byte-stood : (i : ℕ) → StoodAt (acted_by acts start).since i (get_or last_alone i 0)
byte-stood i =
    case_on (ltb i 128)
    (λ t.
    let l = ltb-true i 128 t in
    from (get_or fenced i 0) (sym (get_or-take 128 last_alone i 0 l) ∙ ap (λ (m : List ℕ). get_or m i 0) computed.low ∙ get_or-take 128 fenced i 0 l) (old-stood i))
    (λ t.
    let h = ltb-false i 128 t in
    case_on (ltb i 136)
    (λ u.
    let k : i - 128 < 8 = omega (arith, ltb-true i 136 u) in
    let e : 128 + (i - 128) ≡ i = omega (arith, h) in
    let same : get_or last_alone (128 + (i - 128)) 0 ≡ get_or newest (128 + (i - 128)) 0 =
    sym (part-byte last_alone 128 8 (i - 128) k) ∙ ap (λ (m : List ℕ). get_or m (i - 128) 0) computed.word ∙ part-byte newest 128 8 (i - 128) k in
    from (get_or newest i 0) (subst (λ (j : ℕ). get_or last_alone j 0 ≡ get_or newest j 0) e same) (new-stood i))
    (λ u.
    let e : 136 + (i - 136) ≡ i = omega (arith, ltb-false i 136 u) in
    let same : get_or last_alone (136 + (i - 136)) 0 ≡ get_or fenced (136 + (i - 136)) 0 =
    sym (get_or-drop 136 last_alone (i - 136) 0) ∙ ap (λ (m : List ℕ). get_or m (i - 136) 0) computed.high ∙ get_or-drop 136 fenced (i - 136) 0 in
    from (get_or fenced i 0) (subst (λ (j : ℕ). get_or last_alone j 0 ≡ get_or fenced j 0) e same) (old-stood i)))
  where
    from : (x : ℕ) → get_or last_alone i 0 ≡ x → StoodAt (acted_by acts start).since i x → StoodAt (acted_by acts start).since i (get_or last_alone i 0)
    from x e s = subst (StoodAt (acted_by acts start).since i) (sym e) s

data-bytes : Bytes (165 ∷ [])
data-bytes zero = omega arith
data-bytes (suc i) = omega arith

pub witness : Witness
witness =
    record {
      may = (tt, (data-bytes, (tt, (tt, (tt, (tt, tt))))));
      torn = record { as_long = computed.as_long; bytes = byte-stood };
      in_order = computed.in_order;
      alone = computed.alone;
      unfenced = computed.unfenced;
    }
