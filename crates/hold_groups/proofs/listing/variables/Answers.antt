use Rattle.std.proofs.Common.{List, arith, subst}
use Rattle.vrt_model.specs.Elements.{element_names}
use Rattle.vrt_model.specs.declared.groups.Group.{Group}
use Rattle.hold_groups.proofs.SourceLaws.{listed, too_many}
use Rattle.hold_groups.specs.Given.{AreFilled}
use Rattle.hold_groups.proofs.listing.variables.Goals as goal

pub returns-in-Ok : goal.returns-in-Ok
returns-in-Ok c =
    let circuit = c.args.circuit.now in
    let flat = c.args.flat.now in
    let filled : AreFilled circuit (element_names flat) c.args.groups.now c.args.phase c.fill.new.vars c.in-Ok.count =
    subst (λ (gs : List Group). AreFilled circuit (element_names flat) gs c.args.phase c.fill.new.vars c.in-Ok.count) c.as_slice-groups.ensures c.in-Ok.ensures in
    too_many circuit flat c.args.groups.now c.args.phase c.in-Ok.count c.fill.new.vars filled c.if-count-gt-MOST_VARIABLES.true

pub returns-in-Ok-2 : goal.returns-in-Ok-2
returns-in-Ok-2 c =
    let circuit = c.args.circuit.now in
    let flat = c.args.flat.now in
    let count = c.in-Ok.count in
    let filled : AreFilled circuit (element_names flat) c.args.groups.now c.args.phase c.fill.new.vars count =
    subst (λ (gs : List Group). AreFilled circuit (element_names flat) gs c.args.phase c.fill.new.vars count) c.as_slice-groups.ensures c.in-Ok.ensures in
    listed circuit flat c.args.groups.now c.args.phase count c.fill.new.vars filled (omega (arith, c.if-count-gt-MOST_VARIABLES.false))
