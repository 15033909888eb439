use native.Mathlib.Omega.{arith}
use Rattle.number_text.proofs.Puts.{put_then}
use Rattle.trial_lines.specs.Lines.{response}
use Rattle.trial_lines.proofs.output.put_response.Goals as goal

pub returns-then-s : goal.returns-then-s
unfolding response
returns-then-s c = record { text = λ words img. rw c.if-s.true (c.put_counts.ensures.text words img) }

pub returns : goal.returns
unfolding response
returns c =
    let one = c.put_byte-next in
    let two = c.put_byte in
    record {
      text = λ words img.
          rw c.if-s.false
          (put_then (record { laid = one.ensures.target_after; place = one.ensures.value }) (record { laid = two.ensures.target_after; place = two.ensures.value }) (omega arith));
    }
