use Rattle.std.proofs.Common.{rules, ◌≡◌, true, sym, refl, ◌∙◌, arith}
use Rattle.bounded.specs.Rows.{refusal}
use Rattle.bounded.proofs.Rows.{row_at}
use Rattle.validity.specs.Validity.{state_ok}
use Rattle.refinement.specs.Stores.{World}
use Rattle.refinement.specs.Calls.{world_of, with_writers, begin_rows, begin_of}
use Rattle.refinement.specs.Run.{begin, exec}
use Rattle.refinement.proofs.Begun.{opening}
use Rattle.std.specs.Prelude.{Err}
use Rattle.rows.specs.declared.Refusal.TheVariants.{BadState}
use Rattle.answers.proofs.Answered.{row-refused}
use Rattle.state_words.specs.Decoded.{decoded}
use Rattle.call_round.specs.declared.Round.{Round}
use Rattle.call_round.specs.Kept.{FineAt}
use Rattle.call_round.specs.Round.{unplayed}
use Rattle.call_round.proofs.Finishing.{finishes-at-once, no_stores}
use Rattle.call_round.proofs.Keeping.{kept}
use Rattle.call_round.proofs.Playing.{call-made, begun-call, not-begun, round-taken, round-refused}
use Rattle.call_round.proofs.play.Lts
use Rattle.call_round.proofs.play.Tie
use Rattle.call_round.proofs.play.Reads
use mathlib.Core.Path.{ap}
use mathlib.Core.Bool.{not}
use Rattle.call_round.proofs.play.Goals as goal

abbrev At-Start : Type 0
At-Start = Lts.Start Tie.the-claims Reads.Pre Reads.Post Tie.handed_clauses

abbrev At-After-state_ok : Type 0
At-After-state_ok = Lts.After-state_ok Tie.the-claims Reads.Pre Reads.Post Tie.handed_clauses

abbrev At-Else-not-state_ok : Type 0
At-Else-not-state_ok = Lts.Else1 Tie.the-claims Reads.Pre Reads.Post Tie.handed_clauses

abbrev At-After-begin_made-begun : Type 0
At-After-begin_made-begun = Lts.After-begin_made Tie.the-claims Reads.Pre Reads.Post Tie.handed_clauses

abbrev At-After-put_all-written : Type 0
At-After-put_all-written = Lts.After-put_all Tie.the-claims Reads.Pre Reads.Post Tie.handed_clauses

abbrev At-Else-begun-ne0 : Type 0
At-Else-begun-ne0 = Lts.Else2 Tie.the-claims Reads.Pre Reads.Post Tie.handed_clauses

-- the world at first
abbrev first : At-Start → World
first s = world_of (decoded s.args.words.now) s.args.image.now

abbrev tested : At-After-state_ok → At-Start
tested t = t.before.before.before.before.before.before

ok : (c : At-Else-not-state_ok) → state_ok (first c.before.before.before.before.before.before.before).st ≡ true
ok c = search rules

abbrev started : At-After-begin_made-begun → At-Else-not-state_ok
started b = b.before.before.before.before

pub returns-then-not-state_ok : goal.returns-then-not-state_ok
unfolding exec begin_of
returns-then-not-state_ok c =
    let a = c.args in
    let st = decoded a.words.now in
    let w = begin a.writer in
    let rs = begin_rows st a.writer in
    let e = row_at rs 0 (omega arith) tt (sym (ap not c.state_ok.ensures) ∙ (ap not c.if-not-state_ok.true)) in
    let refused = row-refused rs st (with_writers st (opening st a.writer)) 0 BadState e in
    let none : Round = record { number = 0; call = 0; stores = 0 } in
    let eight : Round = record { number = 8; call = 0; stores = 0 } in
    let f = finishes-at-once _ a.image.now (no_stores (refusal rs)) w a.words.now refl (Err BadState) a.words.now refused in
    not-begun a.room a.writer a.writes.now a.«data».now (first c.before.before.before.before.before.before.before.before) _
    (call-made w none eight a.words.now a.image.now (Err BadState) a.words.now a.image.now f refl) (λ q. omega arith)

pub begin_made-begun-requires : goal.begin_made-begun-requires
begin_made-begun-requires c = (c.places_in-at.ensures, ok c.before.before.before.before)

-- row 8 accepts what begin left
begun : (b : At-After-begin_made-begun) → FineAt b.begin_made-begun.new.words b.before.before.before.before.before.before.before.before.before.before.before.args.image.now
begun b =
    kept (begin b.before.before.before.before.before.before.before.before.before.before.before.args.writer) (unplayed (first b.before.before.before.before.before.before.before.before.before.before.before)) b.begin_made-begun.result _ _ (b.begin_made-begun.ensures b.before.before.before.before.before.before.before.before.before.before.before.args.image.now)
    (record {
      good = record { is-valid = ok b.before.before.before.before; sized = b.before.before.words_sized.ensures };
      bytes = λ i. (b.before.before.before.before.before.before.before.before.before.before.slice_known-1.given i).fits;
    })

pub returns-then-begun-ne0 : goal.returns-then-begun-ne0
returns-then-begun-ne0 c =
    let a = c.args in
    not-begun a.room a.writer a.writes.now a.«data».now (first c.before.before.before.before.before.before.before.before.before.before.before.before.before.before) _ (c.begin_made-begun.ensures a.image.now) c.if-begun-ne0.true

pub put_all-written-requires : goal.put_all-written-requires
put_all-written-requires c =
    (begun c.before.before.before.before.before, begun-call (begin c.args.writer) (first c.before.before.before.before.before.before.before.before.before.before.before.before.before.before.before.before) _ (c.begin_made-begun.ensures c.args.image.now))

abbrev opened : At-After-put_all-written → At-Else-begun-ne0
opened p = p.before.before.before

pub commit_written-last-requires : goal.commit_written-last-requires
commit_written-last-requires c =
    let h = c.put_all-written.ensures in
    (h.kept, omega (arith, h.few, c.well_formed.1.1.1.0.0))

pub returns-then-last-eq0 : goal.returns-then-last-eq0
returns-then-last-eq0 c =
    let a = c.args in
    round-taken a.room a.writer a.writes.now a.«data».now (first c.before.before.before.before.before.before.before.before.before.before.before.before.before.before.before.before.before.before.before.before.before.before.before.before.before.before) _ (c.begin_made-begun.ensures a.image.now) c.if-begun-ne0.false _ _
    c.put_all-written.ensures.played c.commit_written-last.ensures.played c.if-last-eq0.true

pub returns : goal.returns
returns c =
    let a = c.args in
    round-refused a.room a.writer a.writes.now a.«data».now (first c.before.before.before.before.before.before.before.before.before.before.before.before.before.before.before.before.before.before.before.before.before.before.before.before.before.before.before.before) _ (c.begin_made-begun.ensures a.image.now) c.if-begun-ne0.false _ _
    c.put_all-written.ensures.played c.commit_written-last.ensures.played c.if-last-eq0.false _ (c.abort_made.ensures _)
