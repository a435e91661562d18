use Rattle.std.proofs.Common.{◌≡◌, List, sym, subst}
use Rattle.vrt_model.specs.Checked.{IsChecked}
use Rattle.vrt_model.specs.Cut.{Cut}
use Rattle.vrt_model.specs.declared.circuit.Circuit.{Circuit}
use Rattle.vrt_model.specs.declared.whole.CellFacts.{CellFacts}
use Rattle.net_places.specs.Whole.{whole_of}
use Rattle.placed_cells.proofs.NamedLaws.{hold_nets_are_there}
use Rattle.substitute.proofs.WholeLaws.{cell_ground, found_of_cell}
use Rattle.substitute.specs.Whole.{IsCellGround, WholeGives}
use Rattle.substitute.proofs.checked.whole.Goals as goal

pub unrolled_circuit-requires-clause-names : goal.unrolled_circuit-requires-clause-names
unrolled_circuit-requires-clause-names c = hold_nets_are_there c.args.design.now c.args.rules.now c.requires.files.ordered

pub checked_of-requires-clause-ground : goal.checked_of-requires-clause-ground
checked_of-requires-clause-ground c =
    let design = c.args.design.now in
    let roles = c.args.pairing.now.ports in (
      roles,
      subst (λ (fs : List CellFacts). IsCellGround (whole_of design c.args.rules.now c.args.cell roles) c.args.blif.now fs c.in_ok-flat.flat) (sym c.as_slice.ensures)
          (cell_ground design c.args.blif.now c.args.rules.now c.args.cell c.args.pairing.now c.args.facts.now c.in_ok-flat.flat c.requires.files c.requires.there c.requires.told c.in_ok-flat.ensures),
    )

pub returns-in-Some : goal.returns-in-Some
returns-in-Some c =
    let design = c.args.design.now in
    let t = whole_of design c.args.rules.now c.args.cell c.args.pairing.now.ports in
    let ground = cell_ground design c.args.blif.now c.args.rules.now c.args.cell c.args.pairing.now c.args.facts.now c.in_ok-flat.flat c.requires.files c.requires.there c.requires.told c.in_ok-flat.ensures in
    let gives =
    subst (WholeGives t c.args.blif.now c.args.facts.now c.in_ok-flat.flat) c.in-Some.is
    (found_of_cell t c.args.blif.now _ c.args.facts.now c.in_ok-flat.flat c.in_ok-found.found c.as_slice.ensures ground (c.in_ok-found.ensures c.args.pairing.now.ports)) in
    subst (λ (circuit : Circuit). (cut : Cut) × (cut.top ≡ t) × IsChecked cut c.args.blif.now c.args.facts.now circuit) (sym c.into_circuit.ensures) gives.0

pub returns : goal.returns
returns c =
    let design = c.args.design.now in
    let t = whole_of design c.args.rules.now c.args.cell c.args.pairing.now.ports in
    let ground = cell_ground design c.args.blif.now c.args.rules.now c.args.cell c.args.pairing.now c.args.facts.now c.in_ok-flat.flat c.requires.files c.requires.there c.requires.told c.in_ok-flat.ensures in
    subst (WholeGives t c.args.blif.now c.args.facts.now c.in_ok-flat.flat) c.in-None.is
    (found_of_cell t c.args.blif.now _ c.args.facts.now c.in_ok-flat.flat c.in_ok-found.found c.as_slice.ensures ground (c.in_ok-found.ensures c.args.pairing.now.ports))
