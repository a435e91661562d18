use Rattle.flat_sizes.proofs.CountLaws.{nets_summed}
use Rattle.flat_sizes.proofs.counts.all_nets.Goals as goal

pub returns : goal.returns
returns c =
    nets_summed c.args.design.now c.args.rules.now c.args.cell _ _ _ _ _ _ _ _ c.port_count-ports.ensures c.global_count-globals.ensures c.requires.own c.requires.inner
    c.saturating_add.ensures c.saturating_add-2.ensures c.saturating_add-3.ensures c.saturating_add-4.ensures
