use Rattle.flat_sizes.proofs.CardLaws.{three_more}
use Rattle.flat_sizes.proofs.last_mentions.own_of_device.Goals as goal

pub returns : goal.returns
returns c = three_more _ _ _ _ _ _ _ c.own_drain-drain.ensures.value c.own_gate-gate.ensures.value c.own_source-source.ensures.value
