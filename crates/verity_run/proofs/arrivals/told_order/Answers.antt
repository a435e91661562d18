use Rattle.cell_room.specs.Compared.{comparison}
use Rattle.verity_run.proofs.ArrivalLaws.{no_rising, told_line}
use Rattle.verity_run.proofs.arrivals.told_order.Goals as goal

pub arrival_told-requires-clause-made : goal.arrival_told-requires-clause-made
arrival_told-requires-clause-made c =
    let ready = c.requires.ready in (
      c.args.ready.now.inputs.blif,
      c.requires.made.0,
      record { netlist = ready.fit.design_is; names = ready.fit.blif_is; models = ready.fit.models; valid = ready.fit.rules_are; there = c.requires.number; ordered = ready.ordered },
      c.requires.made.1,
    )

pub returns-in-Ok-clause-ok : goal.returns-in-Ok-clause-ok
returns-in-Ok-clause-ok c =
    let i = c.args.ready.now.inputs in
    told_line (comparison i.design i.rules c.args.number c.args.made.now) i.blif c.args.budget c.args.place c.args.names.now _ _ _ _ (c.in-Ok.ensures.ok i.blif) c.one_line.ensures.0 c.one_line.ensures.1

pub returns-in-Err-clause-err : goal.returns-in-Err-clause-err
returns-in-Err-clause-err c =
    let i = c.args.ready.now.inputs in no_rising (comparison i.design i.rules c.args.number c.args.made.now) c.args.names.now c.in-Err.fault c.at_refusal.result c.in-Err.ensures.err c.at_refusal.ensures
