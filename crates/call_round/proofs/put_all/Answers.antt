use Rattle.std.proofs.Common.{ℕ, ◌≡◌, ◌+◌, ◌*◌, get_or, refl, ap, ◌∙◌, arith}
use Rattle.call_round.specs.Round.{Played}
use Rattle.call_round.proofs.Playing.{put-call, rest-is, passed_over, all_more, all-stop, all_end}
use Rattle.call_round.proofs.put_all.Goals as goal

times : (k : ℕ) → 4 * (k + 1) ≡ 4 * k + 4
times k = omega arith

pub loop-k-init : goal.loop-k-init
loop-k-init c = (omega arith, refl, omega (arith, c.requires.1), c.requires.0, refl)

pub span_at-a-requires : goal.span_at-a-requires
span_at-a-requires c = omega (arith, c.loop-k-test.true)

pub overflow_add-t : goal.overflow_add-t
overflow_add-t c =
    omega (arith, c.loop-k.invariant.2, c.well_formed.1.1.1.1.0.0)

pub slice_bounds-put-count : goal.slice_bounds-put-count
slice_bounds-put-count c = omega (arith, c.loop-k.invariant.0)

pub slice_bounds-put-start : goal.slice_bounds-put-start
slice_bounds-put-start c = omega (arith, c.loop-k.invariant.0)

pub put-t-requires : goal.put-t-requires
put-t-requires c = c.loop-k.invariant.3

pub shape_of-image-then-t-ne0 : goal.shape_of-image-then-t-ne0
shape_of-image-then-t-ne0 c = c.put-t.auto.image ∙ c.loop-k.invariant.1

pub returns-then-t-ne0 : goal.returns-then-t-ne0
returns-then-t-ne0 c =
    let e : c.put-t.result.call ≡ c.loop-k.t.call + 1 = ap (λ (x : Played). x.call) c.put-t.ensures.played ∙ put-call _ _ _ in
    let a = c.args in record {
      played = all-stop a.room a.writer a.writes.now a.«data».now (4 * c.loop-k.k) c.loop-k.at _ _ c.loop-k.invariant.4 _ (omega (arith, c.loop-k-test.true))
          (rw (c.span_at-a.ensures, rest-is a.«data».now c.loop-k.at) at c.put-t.ensures.played) c.if-t-ne0.true;
      kept = c.put-t.ensures.kept;
      few = omega (arith, c.loop-k.invariant.2, e, c.loop-k-test.true);
    }

pub overflow_sub-data : goal.overflow_sub-data
overflow_sub-data c = omega (arith, c.loop-k.invariant.0)

pub overflow_add-at : goal.overflow_add-at
overflow_add-at c =
    omega (arith, c.smaller-at.ensures, c.loop-k.invariant.0, c.well_formed.1.1.1.1.1.0.0)

pub loop-k-preserved : goal.loop-k-preserved
loop-k-preserved c =
    let e : c.put-t.result.call ≡ c.loop-k.t.call + 1 = ap (λ (x : Played). x.call) c.put-t.ensures.played ∙ put-call _ _ _ in
    let l = c.loop-k in
    let a = c.args in
    let more = all_more a.room a.writer a.writes.now a.«data».now (4 * l.k) l.at _ _ l.invariant.4 _ (omega (arith, c.loop-k-test.true))
    (rw (c.span_at-a.ensures, rest-is a.«data».now c.loop-k.at) at c.put-t.ensures.played) c.if-t-ne0.false in
    let m = rw c.span_at-a.ensures at c.smaller-at.ensures in (
      omega (arith, c.smaller-at.ensures, l.invariant.0),
      c.put-t.auto.image ∙ l.invariant.1,
      omega (arith, e, l.invariant.2),
      c.put-t.ensures.kept,
      rw (times l.k, passed_over a.«data».now l.at (get_or a.writes.now (4 * l.k + 3) 0) _ l.invariant.0 m) more,
    )

pub returns : goal.returns
returns c =
    let l = c.loop-k in
    let a = c.args in record {
      played = all_end a.room a.writer a.writes.now a.«data».now (4 * l.k) l.at _ _ l.invariant.4 (omega (arith, c.loop-k-test.false));
      kept = l.invariant.3;
      few = omega (arith, l.invariant.2);
    }

pub shape_of-image : goal.shape_of-image
shape_of-image c = c.loop-k.invariant.1
