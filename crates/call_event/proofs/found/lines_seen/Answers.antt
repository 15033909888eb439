use Prim.Native.Nat.{ℕ, ◌<◌}
use mathlib.Core.Path.{◌≡◌, ap, ap₂, ◌∙◌}
use native.Mathlib.Omega.{arith}
use Rattle.layout.specs.Layout.{frames}
use Rattle.words.specs.Words.{word_at}
use Rattle.image.specs.Lines.{line_bytes}
use Rattle.lines.proofs.LineLaws.{first_word}
use Rattle.meters.specs.Meters.{first_meter, own_meter}
use Rattle.meters.proofs.MeterLaws.{first-low, own_range}
use Rattle.state.specs.State.{State}
use Rattle.state_words.specs.Decoded.{decoded}
use Rattle.call_event.specs.Seen.{line_from}
use Rattle.call_event.proofs.found.lines_seen.Lts
use Rattle.call_event.proofs.found.lines_seen.Tie
use Rattle.call_event.proofs.found.lines_seen.Reads
use Rattle.call_event.proofs.found.lines_seen.Goals as goal

abbrev At-Start : Type 0
At-Start = Lts.Start Tie.the-claims Reads.Pre Reads.Post

abbrev At-After-seen_frame-own : Type 0
At-After-seen_frame-own = Lts.After-seen_frame2 Tie.the-claims Reads.Pre Reads.Post

abbrev st : At-Start → State
st s = decoded s.args.words.now

first-line : (s : At-Start) (l : ℕ) → l ≡ first_meter s.args.kind s.args.meter → l < 64
first-line s l e = omega (arith, e, first-low s.args.kind s.args.meter s.requires.1)

own_line : (s : At-Start) (l : ℕ) → l ≡ own_meter s.args.kind s.args.meter → l < 64
own_line s l e = omega (arith, e, (own_range s.args.kind s.args.meter s.requires.1).1)

pub seen_frame-first-requires : goal.seen_frame-first-requires
seen_frame-first-requires c = (c.requires.0, omega arith, omega arith, first-line c.before.before.before.before _ c.first_meter-l.ensures)

pub seen_frame-own-requires : goal.seen_frame-own-requires
seen_frame-own-requires c = (c.requires.0, omega arith, omega arith, own_line c.before.before.before.before.before _ c.own_meter-o.ensures)

first_frame : (c : At-After-seen_frame-own) → c.before.seen_frame-first.result < frames c.before.before.before.before.before.args.z
first_frame c = rw c.before.seen_frame-first.ensures (c.before.before.before.before.before.requires.2 c.before.before.before.first_meter-l.result)

pub read_line_word-stored-requires : goal.read_line_word-stored-requires
read_line_word-stored-requires c = (c.requires.0, first_frame c.before, first-line c.before.before.before.before.before.before _ c.first_meter-l.ensures, omega arith, c.requires.3)

pub returns : goal.returns
returns c =
    let l = c.first_meter-l in
    let z = c.args.z in
    let img = c.args.image.now in
    let from : ℕ → ℕ = line_from z (st c.before.before.before.before.before.before.before) c.args.s in
    let one : c.seen_frame-first.result ≡ from (first_meter c.args.kind c.args.meter) = c.seen_frame-first.ensures ∙ ap from l.ensures in
    let two : c.seen_frame-own.result ≡ from (own_meter c.args.kind c.args.meter) = c.seen_frame-own.ensures ∙ ap from c.own_meter-o.ensures in
    let number : c.read_line_word-stored.result ≡ word_at (line_bytes img z (from (first_meter c.args.kind c.args.meter)) (first_meter c.args.kind c.args.meter)) 0 =
    c.read_line_word-stored.ensures
    ∙ first_word img z c.seen_frame-first.result l.result (first_frame c.before.before) (first-line c.before.before.before.before.before.before.before l.result l.ensures) c.requires.3
    ∙ ap₂ (λ (f i : ℕ). word_at (line_bytes img z f i) 0) one l.ensures in
    rw (one, two, number)
