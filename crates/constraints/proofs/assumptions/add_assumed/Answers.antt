use Rattle.std.proofs.Common.{◌≡◌, true, sym, ◌∙◌}
use Rattle.constraints.proofs.StepLaws.{assumed_more, assumed_refused}
use Rattle.constraints.specs.Handles.{handle_in}
use Rattle.constraints.specs.Obliged.{is_asked}
use Rattle.constraints.proofs.assumptions.add_assumed.Goals as goal

pub returns-in-Err : goal.returns-in-Err
returns-in-Err c =
    let asked : is_asked c.args.cell.now c.args.phase c.args.rule.now ≡ true = sym c.is_asked.ensures ∙ c.if-not-is_asked.false in
    assumed_refused c.args.store.now c.diagram.new.store (handle_in c.args.store.now.words c.args.ports)
    c.args.cell.now c.args.phase c.args.rule.now c.args.all asked c.in-Err.spent c.in-Err.ensures

pub returns : goal.returns
returns c =
    let asked : is_asked c.args.cell.now c.args.phase c.args.rule.now ≡ true = sym c.is_asked.ensures ∙ c.if-not-is_asked.false in
    assumed_more c.args.store.now c.diagram.new.store (handle_in c.args.store.now.words c.args.ports)
    c.args.cell.now c.args.phase c.args.rule.now c.args.all asked c.and.new.store c.in-Ok.one c.and.result c.requires.all c.in-Ok.ensures c.and.ensures.makes
