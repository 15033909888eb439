use Rattle.std.proofs.Common.{false, refl, ap}
use Rattle.refinement.specs.Calls.{world_of}
use Rattle.forms.specs.declared.Form.TheVariants.{Formats, Asks, Reads, Cuts, Other}
use Rattle.forms.proofs.Formed.{write-data}
use Rattle.executing.specs.declared.Turned.{Turned}
use Rattle.executing.specs.Called.{machine_at, turn_at}
use Rattle.script.specs.Turns.{turn_by}
use Rattle.wear.specs.Wear.{stores_in}
use Rattle.wear.proofs.Performed.{performs-none, none-shown, asks-formatted, performs-by}
use Rattle.wear.proofs.turning.turn.Goals as goal

pub ask_line-requires : goal.ask_line-requires
ask_line-requires c =
    let a = c.args in
    record {
      numbers_value = write-data a.m.formatted a.line c.form_of.result _ c.form_of.ensures c.in-Asks.is;
      counts_len = c.requires.counts_len;
      narrow = c.requires.narrow_machine (asks-formatted a.m.formatted a.line c.form_of.result _ c.form_of.ensures c.in-Asks.is);
    }

pub returns-in-Formats : goal.returns-in-Formats
returns-in-Formats c =
    performs-by (machine_at c.args.m c.args.words.now) c.args.image.now c.args.line c.form_of.result Formats c.args.counts.now _ _ _ c.form_of.ensures c.in-Formats.is c.format_line.ensures

pub returns-in-Asks : goal.returns-in-Asks
returns-in-Asks c =
    performs-by (machine_at c.args.m c.args.words.now) c.args.image.now c.args.line c.form_of.result (Asks _) c.args.counts.now _ _ _ c.form_of.ensures c.in-Asks.is c.ask_line.ensures

pub returns-in-Reads : goal.returns-in-Reads
returns-in-Reads c =
    let m = machine_at c.args.m c.args.words.now in
    let img = c.args.image.now in
    let t = turn_by Reads m img c.args.line in
    performs-by (machine_at c.args.m c.args.words.now) c.args.image.now c.args.line c.form_of.result Reads c.args.counts.now _ _ _ c.form_of.ensures c.in-Reads.is
    (performs-none t t (world_of m.st img) false c.args.counts.now refl (none-shown m.st img c.args.line.numbers))

pub returns-in-Cuts : goal.returns-in-Cuts
returns-in-Cuts c =
    let m = machine_at c.args.m c.args.words.now in
    let img = c.args.image.now in
    let r = c.answered-t.result in
    performs-by (machine_at c.args.m c.args.words.now) c.args.image.now c.args.line c.form_of.result Cuts c.args.counts.now _ _ _ c.form_of.ensures c.in-Cuts.is
    (performs-none (turn_by Cuts m img c.args.line) (turn_at r c.args.words.now img) (world_of m.st img) false c.args.counts.now
    (ap (λ (x : Turned). turn_at x c.args.words.now img) c.answered-t.ensures) (ap (λ (x : Turned). stores_in x.output) c.answered-t.ensures))

pub returns-in-Other : goal.returns-in-Other
returns-in-Other c =
    let m = machine_at c.args.m c.args.words.now in
    let img = c.args.image.now in
    let t = turn_by Other m img c.args.line in
    performs-by (machine_at c.args.m c.args.words.now) c.args.image.now c.args.line c.form_of.result Other c.args.counts.now _ _ _ c.form_of.ensures c.in-Other.is (performs-none t t (world_of m.st img) false c.args.counts.now refl refl)
