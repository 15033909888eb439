use Rattle.wear_by_frame.proofs.Going.{sound-first, shows_first}
use Rattle.wear_by_frame.proofs.begin.Goals as goal

pub returns : goal.returns
returns c =
    let opened = c.open_input-mode in
    record {
      sound = sound-first opened.result _ _ c.args.image.now _ opened.ensures.machine opened.ensures.image;
      shows = λ line. shows_first opened.result _ _ c.args.image.now _ opened.ensures.machine opened.ensures.image line;
    }
