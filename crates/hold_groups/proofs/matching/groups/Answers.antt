use Rattle.std.proofs.Common.{List, ℕ, Some, None, ap, ap₂, sym, ◌∙◌, ◌≡◌}
use Rattle.vrt_model.specs.Comparison.{cell_at}
use Rattle.vrt_model.specs.Unsupported.{unmatched}
use Rattle.vrt_model.specs.declared.groups.Group.{Group}
use Rattle.hold_groups.proofs.GivenGroups.{given_groups, given_unmatched}
use Rattle.hold_groups.specs.Steps.{unmatched_in}
use Rattle.hold_groups.proofs.matching.groups.Goals as goal

pub returns-in-Ok-None : goal.returns-in-Ok-None
returns-in-Ok-None c =
    let circuit = c.args.circuit.now in
    let flat = c.args.flat.now in
    let rules = c.args.rules.now in
    let name : List ℕ = (cell_at c.args.design.now c.args.cell).name in
    let list = c.fill.new.elements.list in
    let groups = c.fill.new.groups in
    let given = given_groups circuit flat c.requires groups c.in-Ok.ensures.groups in
    let found : None ≡ unmatched_in list rules name groups = sym c.in-Ok-None.field-0-is ∙ c.in-Ok-None.ensures ∙ ap₂ (λ (cell : List ℕ) (gs : List Group). unmatched_in list rules cell gs) c.cell_name-name.ensures c.as_slice.ensures in
    (given.0, given.1, ap (unmatched rules name flat) given.0 ∙ given_unmatched circuit flat rules name list groups None c.in-Ok.ensures.list c.in-Ok.ensures.groups found)

pub returns-in-Ok-Some : goal.returns-in-Ok-Some
returns-in-Ok-Some c =
    let circuit = c.args.circuit.now in
    let flat = c.args.flat.now in
    let rules = c.args.rules.now in
    let name : List ℕ = (cell_at c.args.design.now c.args.cell).name in
    let list = c.fill.new.elements.list in
    let groups = c.fill.new.groups in
    let found : Some c.in-Ok-Some.name ≡ unmatched_in list rules name groups =
    sym c.in-Ok-Some.field-0-is ∙ c.in-Ok-Some.ensures ∙ ap₂ (λ (cell : List ℕ) (gs : List Group). unmatched_in list rules cell gs) c.cell_name-name.ensures c.as_slice.ensures in
    given_unmatched circuit flat rules name list groups (Some c.in-Ok-Some.name) c.in-Ok.ensures.list c.in-Ok.ensures.groups found
