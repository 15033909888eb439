use mathlib.Core.Path.{refl}
use Rattle.state.specs.declared.Op.TheVariants.{Checkpoint}
use Rattle.refinement.specs.Calls.{checkpoint_of}
use Rattle.state_words.specs.Decoded.{decoded}
use Rattle.call_asking.proofs.Allowing.{as-defined}
use Rattle.call_checkpoint.proofs.checkpoint.Goals as goal

pub ask_for-requires : goal.ask_for-requires
ask_for-requires c = (refl, λ wide fresh. refl)

pub returns : goal.returns
unfolding checkpoint_of
returns c =
    let st = decoded c.args.words.now in
    record {
      started = as-defined st c.args.image.now Checkpoint c.args.until (checkpoint_of st c.args.image.now) refl c.ask_for.result _ _ c.ask_for.ensures.started;
      words = c.ask_for.ensures.words;
    }
