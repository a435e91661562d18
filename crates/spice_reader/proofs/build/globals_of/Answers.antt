use Rattle.std.proofs.Common.{arith}
use Rattle.std.proofs.lemmas.Result.{IfOk-weaker}
use Rattle.spice_reader.proofs.BuildLaws.{globals_are, globals_on}
use Rattle.spice_reader.proofs.build.globals_of.Goals as goal

pub loop-card-preserved : goal.loop-card-preserved
loop-card-preserved c =
    globals_on c.loop-card.card-index c.args.cards.now _ _ _ _ (omega arith) c.card-item.is c.in_ok-add_globals.ensures c.loop-card.invariant

pub returns : goal.returns
returns c =
    IfOk-weaker c.to_texts.result _ _ (λ texts e. globals_are c.loop-card.card-index c.args.cards.now c.loop-card.names texts (omega arith) c.loop-card.invariant e) c.to_texts.ensures
