-- A write by the wide writer asked for: the finished line is the reference machine's with the data laid over it. Where the line has an entry and no byte
-- changes, nothing does. No other writer is open.
use Prim.Native.Nat.{ℕ, ◌-◌, ◌<◌, ◌≤◌}
use mathlib.Core.Bool.{Bool, true, false, not, cond, ◌&&◌}
use mathlib.Core.List.{List}
use mathlib.Core.Path.{◌≡◌, refl, sym, ap, ap₂, ◌∙◌, subst}
use native.Mathlib.Omega.{arith}
use lib.Dec.{eqb}
use lib.ListN.{length}
use borrow.Author.Tests.{ltb-true, ltb-false, eqb-true, eqb-false, eq-eqb, not-true}
use Rattle.bounded.specs.Rows.{refusal}
use Rattle.bounded.proofs.Tab.{length-tab}
use Rattle.bounded.proofs.Tests.{case_on, and_left, and_right}
use Rattle.words.specs.Words.{Bytes}
use Rattle.words.proofs.Parts.{bytes-part}
use Rattle.image.specs.Lines.{merged, merge_changes, line_words}
use Rattle.image.proofs.LineLaws.{bytes-merged, merge-same}
use Rattle.entries.specs.Entries.{key_page, key_line}
use Rattle.state.specs.State.{State}
use Rattle.state.specs.declared.Op.{Op}
use Rattle.state.specs.declared.Op.TheVariants.{Write, Log, Copy}
use Rattle.state.specs.Wide.{is_wide, entry_for, has_entry}
use Rattle.operations.specs.Operations.{is_idle, needs, op_rows}
use Rattle.operations.proofs.Taken.{ArgsGood, write-taken, log-taken}
use Rattle.refinement.specs.Frames.{holds}
use Rattle.refinement.specs.Stores.{World, completed}
use Rattle.refinement.specs.Calls.{world_of, with_pending, seen_line, finished_line, write_call_rows, changes_nothing, write_op, write_of}
use Rattle.refinement.specs.Run.{write, exec}
use Rattle.refinement.specs.Reference.{Reference, writing, under, with_work, starts, written, read_line}
use Rattle.refinement.proofs.CallAsked.{pending-valid}
use Rattle.refinement.proofs.WriterCalls.{write-narrow, write-op-row, write-first}
use Rattle.refinement.proofs.WriteHeld.{writes_kept, line_same}
use Rattle.refinement.proofs.AskWrite.{merged-read}
use Rattle.refinement.proofs.Copying.{key_at}
use Rattle.refinement.proofs.Logging.{settled, writes, same-pages, Logging, only-open}
use Rattle.refinement.proofs.LoggingStanding.{unlogged, logging-seen, logging-standing}
use Rattle.refinement.proofs.Cases.{logging, Kept, Then, Invariant}
use Rattle.refinement.proofs.Next.{answered-still}

module _ {past : List ℕ} (st : State) (img : List ℕ) (b : Reference) (G : Logging past st img b) (p l o n : ℕ) (bytes : List ℕ) (lent : Bytes bytes) (given : n ≤ length bytes)
    (idles : not (is_idle st.pending.op) ≡ false) (row : refusal (op_rows st (Log p l o n)) ≡ 0) where
  abbrev w : ℕ
  w = st.wide.writer

  args : ArgsGood st.sizes w p l o n
  args = (log-taken st p l o n row).args

  -- the line as the writer sees it, and the finished one
  abbrev old : List ℕ
  old = seen_line st img w p l

  abbrev new : List ℕ
  new = read_line (written w p l o n bytes b) w p l

  old-is : old ≡ read_line b w p l
  old-is = logging-seen st img b G idles w p l args.writer-low args.page-low args.line_low

  merged-is : merged old o n bytes ≡ new
  merged-is = ap (λ (x : List ℕ). merged x o n bytes) old-is ∙ merged-read b w p l o n bytes args.fits given

  old-bytes : Bytes old
  old-bytes = case_on (is_wide st.wide w && has_entry st.wide p l) (λ t. rw t (bytes-part img _ 64 G.durable.bytes)) (λ t. rw t (bytes-part img _ 64 G.durable.bytes))

  abbrev asks : State
  asks = with_pending st (Log p l o n) (finished_line st img w p l o n bytes)

  pending : Logging past asks img (with_work (under (writing w p l o n bytes) 9) b)
  unfolding needs
  pending =
      record {
        valid = pending-valid st (finished_line st img w p l o n bytes) (Log p l o n) G.valid refl row (omega arith);
        low = G.low;
        book = G.book;
        four = G.four;
        sixty-four = G.sixty-four;
        durable = same-pages (completed st Copy) img b (with_work (under (writing w p l o n bytes) 9) b) (λ p l h k. refl) G.durable;
        alone = G.alone;
        entries = record { keys = G.entries.keys; line = λ e le out. G.entries.line e le (unlogged st img b G idles e); no_writes = G.entries.no_writes };
        stage =
            writes p l o n refl
            (record { given = bytes; work = refl; finished = ap line_words merged-is; is-bytes = subst Bytes merged-is (bytes-merged old o n bytes old-bytes lent); landed = λ j h. absurd (omega arith) });
      }

  -- nothing changes
  module _ (none : changes_nothing st img w p l o n bytes ≡ true) where
    has : has_entry st.wide p l ≡ true
    unfolding changes_nothing
    has = rw (eq-eqb w w refl) at (and_left (cond (is_wide st.wide w) (has_entry st.wide p l) (holds st w p l)) (not (merge_changes old o n bytes)) none)

    same : merge_changes old o n bytes ≡ false
    unfolding changes_nothing
    same = not-true (merge_changes old o n bytes) (and_right (cond (is_wide st.wide w) (has_entry st.wide p l) (holds st w p l)) (not (merge_changes old o n bytes)) none)

    old-length : length old ≡ 64
    old-length = ap length old-is ∙ length-tab 64 _

    new_is : read_line b w p l ≡ new
    new_is = sym (sym merged-is ∙ merge-same old o n bytes old-length args.fits given same ∙ old-is)

    abbrev c : Reference
    c = written w p l o n bytes b

    line-is : (q i : ℕ) → read_line b w q i ≡ read_line c w q i
    line-is q i =
        case_on (eqb q p)
        (λ t.
        case_on (eqb i l)
        (λ u. subst (λ (x : ℕ). read_line b w x i ≡ read_line c w x i) (sym (eqb-true q p t)) (subst (λ (x : ℕ). read_line b w p x ≡ read_line c w p x) (sym (eqb-true i l u)) new_is))
        (λ u. line_same b w p l o n bytes w q i (λ s. eqb-false i l u s.2)))
        (λ t. line_same b w p l o n bytes w q i (λ s. eqb-false q p t s.1))

    unchanged : Logging past st img c
    unchanged =
        record {
          valid = G.valid;
          low = G.low;
          book = G.book;
          four = G.four;
          sixty-four = G.sixty-four;
          durable = same-pages (completed st Copy) img b c (λ p l h k. refl) G.durable;
          alone = λ v q i j lv out lq li lj. writes_kept b w p l o n bytes v q i j (λ s. out s.0) ∙ G.alone v q i j lv out lq li lj;
          entries =
              record {
                keys = G.entries.keys;
                line = λ e le out. G.entries.line e le (unlogged st img b G idles e) ∙ line-is (key_page (key_at st e)) (key_line (key_at st e));
                no_writes = λ q i j lq li lj bare.
                    writes_kept b w p l o n bytes w q i j
                    (λ s.
                    let m : entry_for st.wide p l < st.wide.count = ltb-true (entry_for st.wide p l) st.wide.count has in
                    let k : entry_for st.wide p l ≡ st.wide.count = ap₂ (λ (x y : ℕ). entry_for st.wide x y) (sym s.1) (sym s.2) ∙ bare in
                    omega arith)
                    ∙ G.entries.no_writes q i j lq li lj bare;
              };
          stage = settled ((logging-standing (world_of st img) b G).none-pending idles) ((logging-standing (world_of st img) b G).work-idle idles);
        }

pub log-write : {past : List ℕ} (w p l o n : ℕ) (bytes : List ℕ) → Bytes bytes → (v : World) (b : Reference) → Logging past v.st v.image b → Kept past (write w p l o n bytes) v b
unfolding exec write_of
log-write {past = past} w p l o n bytes lent v b G =
    let st = v.st in
    let img = v.image in
    let x : ℕ = st.wide.writer in
    let stores : ℕ → ℕ = λ y. cond (changes_nothing st img y p l o n bytes) 0 (cond (is_wide st.wide y) 9 8) in
    let after : ℕ → State = λ y. cond (changes_nothing st img y p l o n bytes) st (with_pending st (write_op st y p l o n) (finished_line st img y p l o n bytes)) in
    let r =
    answered-still (Invariant _) (write w p l o n bytes) v b (refusal (write_call_rows st img w p l o n bytes)) (stores w) (after w) (logging G)
    (λ e.
    let first = write-first st img w p l o n bytes e in
    let i = first.1.1.0 in
    let given : n ≤ length bytes = ltb-false (length bytes) n first.1.1.1.0 in
    let row = write-op-row st img w p l o n bytes e in
    let own : x ≡ w =
    case_on (is_wide st.wide w)
    (λ t. eqb-true x w t)
    (λ t.
    let T = write-taken st w p l o n (subst (λ (q : Op). refusal (op_rows st q) ≡ 0) (write-narrow st img w t p l o n) row) in
    only-open st G.valid G.low w T.args.writer-low T.opened) in
    let t : is_wide st.wide x ≡ true = eq-eqb x x refl in
    let is : write_op st x p l o n ≡ Log p l o n = ap (λ (y : Bool). cond y (Log p l o n) (Write x p l o n)) t in
    let log-row : refusal (op_rows st (Log p l o n)) ≡ 0 =
    subst (λ (q : Op). refusal (op_rows st q) ≡ 0) is (subst (λ (y : ℕ). refusal (op_rows st (write_op st y p l o n)) ≡ 0) (sym own) row) in
    let a : Then past v (world_of (after x) img) (starts (writing x p l o n bytes) (stores x) b) =
    case_on (changes_nothing st img x p l o n bytes)
    (λ u. rw u (record { sizes = refl; related = logging (unchanged st img b G p l o n bytes lent given i log-row u) }))
    (λ u.
    rw u
    (subst (λ (q : Op). Then past v (world_of (with_pending st q (finished_line st img x p l o n bytes)) img) (starts (writing x p l o n bytes) (cond (is_wide st.wide x) 9 8) b)) (sym is)
    (subst (λ (k : ℕ). Then past v (world_of (with_pending st (Log p l o n) (finished_line st img x p l o n bytes)) img) (starts (writing x p l o n bytes) k b)) (sym (ap (λ (y : Bool). cond y 9 8) t))
    (record { sizes = refl; related = logging (pending st img b G p l o n bytes lent given i log-row) })))) in
    subst (λ (y : ℕ). Then past v (world_of (after y) img) (starts (writing y p l o n bytes) (stores y) b)) own a) in
    record { right = tt; sizes = r.sizes; related = r.related }
