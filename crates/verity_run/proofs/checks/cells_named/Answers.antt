use Rattle.verity_run.proofs.CellLaws.{named_below, named_none}
use Rattle.verity_run.proofs.checks.cells_named.Goals as goal

pub returns-in-Some-clause-ok : goal.returns-in-Some-clause-ok
returns-in-Some-clause-ok c =
    named_below c.args.design.now c.args.index.now c.args.word.now c.as_bytes.result.now c.in_ok-name.name c.as_bytes-2.result.now c.in-Some.top.now c.args.order.now c.in_ok-cells-in-Some.cells
    c.requires.numbered c.requires.order c.as_bytes.ensures.value c.in_ok-name.ensures c.as_bytes-2.ensures c.in-Some.ensures c.in_ok-cells-in-Some.ensures

pub returns-clause-err : goal.returns-clause-err
returns-clause-err c =
    named_none c.args.design.now c.args.index.now c.args.word.now c.as_bytes.result.now c.in_ok-name.name c.as_bytes-2.result.now c.as_bytes-in-None.result.now c.no_name.result c.told.result
    c.requires.numbered c.as_bytes.ensures.value c.in_ok-name.ensures c.as_bytes-2.ensures c.as_bytes-in-None.ensures c.in-None.ensures c.no_name.ensures c.told.ensures
