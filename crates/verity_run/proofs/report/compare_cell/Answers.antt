use Rattle.std.proofs.Common.{List, subst, sym}
use Rattle.verity_run.specs.Known.{IsKnown}
use Rattle.verity_run.proofs.KnownLaws.{more_is_known}
use Rattle.vrt_model.specs.declared.whole.CellFacts.{CellFacts}
use Rattle.whole_cells.specs.Kept.{AreKept}
use Rattle.verity_run.proofs.report.compare_cell.Goals as goal

pub returns-clause-known : goal.returns-clause-known
returns-clause-known c =
    let i = c.args.ready.now.inputs in
    subst (IsKnown i.design i.blif i.rules) (sym c.note.ensures.facts)
    (more_is_known i.design i.blif i.rules c.as_slice.result.now c.args.known.now.facts.items c.args.number c.in_ok-compared.compared.verdict c.in_ok-compared.compared.facts c.requires.known c.in_ok-compared.ensures.facts)

pub returns-clause-kept : goal.returns-clause-kept
returns-clause-kept c =
    let i = c.args.ready.now.inputs in
    c.note.ensures.kept i.design i.blif i.rules
    (subst (λ (facts : List CellFacts). AreKept i.design i.blif i.rules facts c.compare_prepared.new.kept) c.as_slice.ensures.value c.in_ok-compared.ensures.kept)
