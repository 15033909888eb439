use mathlib.Core.Path.{refl}
use Rattle.state.specs.declared.Op.TheVariants.{Consolidate}
use Rattle.refinement.specs.Calls.{consolidate_of}
use Rattle.state_words.specs.Decoded.{decoded}
use Rattle.call_asking.proofs.Allowing.{as-defined}
use Rattle.call_consolidate.proofs.consolidate.Goals as goal

pub ask_for-requires : goal.ask_for-requires
ask_for-requires c = (refl, λ wide fresh. refl)

pub returns : goal.returns
unfolding consolidate_of
returns c =
    let st = decoded c.args.words.now in
    record {
      started = as-defined st c.args.image.now (Consolidate c.args.page) c.args.until (consolidate_of st c.args.image.now c.args.page) refl c.ask_for.result _ _ c.ask_for.ensures.started;
      words = c.ask_for.ensures.words;
    }
