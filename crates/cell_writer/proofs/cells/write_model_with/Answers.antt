use Rattle.cell_writer.proofs.CellLaws.{is_writing, model_is, stands_if}
use Rattle.cell_writer.proofs.cells.write_model_with.Goals as goal

pub write_planned-requires-clause-writing : goal.write_planned-requires-clause-writing
write_planned-requires-clause-writing c =
    let m = c.requires.equal.0 in (
      m,
      is_writing _ c.in-Some.number m m c.requires.inputs c.requires.prepared.index_is.rules_are c.in-Ok.ensures
          (model_is c.args.blif.now c.in-Some.number c.in-Some-get.model.now c.in-Some-get.ensures) (c.in-Some.ensures c.args.blif.now c.requires.prepared.names_are) c.requires.equal.1
          c.requires.equal.2 c.requires.equal.1,
    )

pub returns-clause-gives : goal.returns-clause-gives
returns-clause-gives c n supported =
    let m = c.requires.equal.0 in
    c.write_planned.ensures n
    (is_writing _ c.in-Some.number m n c.requires.inputs c.requires.prepared.index_is.rules_are c.in-Ok.ensures
    (model_is c.args.blif.now c.in-Some.number c.in-Some-get.model.now c.in-Some-get.ensures) (c.in-Some.ensures c.args.blif.now c.requires.prepared.names_are) c.requires.equal.1 c.requires.equal.2 supported)

pub returns-clause-stands : goal.returns-clause-stands
returns-clause-stands c =
    let m = c.requires.equal.0 in
    stands_if c.args.design.now c.args.blif.now c.args.rules.now c.args.cell m c.args.budget c.write_planned.result c.requires.inputs c.requires.equal.1 c.requires.equal.2
    (c.write_planned.ensures m
    (is_writing _ c.in-Some.number m m c.requires.inputs c.requires.prepared.index_is.rules_are c.in-Ok.ensures
    (model_is c.args.blif.now c.in-Some.number c.in-Some-get.model.now c.in-Some-get.ensures) (c.in-Some.ensures c.args.blif.now c.requires.prepared.names_are) c.requires.equal.1 c.requires.equal.2
    c.requires.equal.1))
