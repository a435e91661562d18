use Rattle.blif_checks.specs.Parts.{part_of}
use Rattle.blif_checks.proofs.JudgeLaws.{notes_are_of, part_is}
use Rattle.blif_checks.proofs.judge.noted_of.Goals as goal

pub returns : goal.returns
returns c =
    notes_are_of c.args.blif.now (part_of c.args.part c.args.model.now) c.in_ok-names.names c.in_ok-notes.notes.items c.in_ok-drivers.drivers c.in_ok-uses.uses c.as_slice.result.now c.as_slice-2.result.now c.len.result (part_is c.args.part c.args.model.now c.requires.model)
    c.in_ok-names.ensures c.in_ok-drivers.ensures c.in_ok-uses.ensures c.as_slice.ensures c.as_slice-2.ensures c.len.ensures c.in_ok-notes.ensures.count c.in_ok-notes.ensures.notes
