use Rattle.std.proofs.Common.{[], refl, sym, ◌∙◌, arith}
use Rattle.blif_reader.specs.Built.{with_signals}
use Rattle.blif_reader.specs.Models.{signals_on}
use Rattle.blif_reader.proofs.BuildLaws.{all_signals, signals_turn}
use Rattle.blif_reader.proofs.signals.list_signals.Goals as goal

pub loop-card-init : goal.loop-card-init
loop-card-init c = ([], (c.new-seen.ensures, c.new-numbers.ensures), all_signals _)

pub loop-card-preserved : goal.loop-card-preserved
loop-card-preserved c =
    let so_far = c.loop-card.invariant in (
      with_signals so_far.0 (signals_on c.args.word.now c.card-item.result),
      c.in_ok-add_card.ensures so_far.0 so_far.1,
      signals_turn c.loop-card.card-index c.args.word.now c.args.body.now _ _ _ _ (omega arith) (sym c.card-item.is) refl ∙ so_far.2,
    )
