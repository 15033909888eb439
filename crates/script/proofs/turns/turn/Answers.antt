use mathlib.Core.Path.{refl, ap}
use Rattle.forms.specs.declared.Form.TheVariants.{Cuts, Other}
use Rattle.forms.proofs.Formed.{write-data}
use Rattle.executing.specs.declared.Turned.{Turned}
use Rattle.executing.specs.Called.{machine_at, turn_at}
use Rattle.script.proofs.Turning.{by_form, by-format, by_call, by_read}
use Rattle.script.proofs.turns.turn.Goals as goal

pub ask-answer-requires : goal.ask-answer-requires
ask-answer-requires c = write-data c.args.m.formatted c.args.line c.form_of.result _ c.form_of.ensures c.in-Asks.is

pub returns-in-Formats : goal.returns-in-Formats
returns-in-Formats c =
    let s = c.args in
    by-format (machine_at s.m s.words.now) s.image.now s.line c.form_of.result c.form_of.ensures c.sizes_in.result _ c.in-Formats.is
    c.sizes_in.ensures c.format_turn.ensures

pub returns-in-Asks : goal.returns-in-Asks
returns-in-Asks c =
    let s = c.args in
    by_call (machine_at s.m s.words.now) s.image.now s.line c.form_of.result c.form_of.ensures _ _ _ c.in-Asks.is
    c.ask-answer.ensures c.finish.ensures

pub returns-in-Reads : goal.returns-in-Reads
returns-in-Reads c =
    let s = c.args in
    by_read (machine_at s.m s.words.now) s.image.now s.line c.form_of.result c.form_of.ensures c.read_shown-output.result c.in-Reads.is
    c.read_shown-output.ensures

pub returns-in-Cuts : goal.returns-in-Cuts
returns-in-Cuts c =
    let s = c.args in
    by_form (machine_at s.m s.words.now) s.image.now s.line c.form_of.result c.form_of.ensures Cuts _ c.in-Cuts.is
    (ap (λ (r : Turned). turn_at r s.words.now s.image.now) c.answered.ensures)

pub returns-in-Other : goal.returns-in-Other
returns-in-Other c =
    let s = c.args in
    by_form (machine_at s.m s.words.now) s.image.now s.line c.form_of.result c.form_of.ensures Other _ c.in-Other.is refl
