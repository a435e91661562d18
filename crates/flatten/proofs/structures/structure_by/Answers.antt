use Rattle.std.proofs.Common.{◌∙◌, ◌+◌, ◌*◌, ℕ, List, ap, length, refl, sym}
use Rattle.flatten.proofs.CellTests.{cell_structured}
use Rattle.flatten.proofs.FewNames.{few_names}
use Rattle.flatten.specs.NetTables.{names_table}
use Rattle.rule_index.specs.Tables.{supply_in}
use Rattle.vrt_model.specs.Unsupported.{carried}
use Rattle.flatten.proofs.structures.structure_by.Goals as goal

pub returns-then-not-is_too_large : goal.returns-then-not-is_too_large
returns-then-not-is_too_large c = λ rules indexed.
    let names = names_table (supply_in c.args.index.now.supplies) c.args.design.now.globals c.cell_of-cell.result.now in
    cell_structured c.args.design.now rules c.args.cell c.requires.netlist c.requires.there c.requires.leaf c.cell_of-cell.result.now c.cell_of-cell.ensures
    c.args.index.now.supplies c.args.index.now.models names c.as_slice-cards.result.now c.test_kinds.result
    (record { supplies_are = indexed.rules_are.supplies_are; models_are = indexed.models_are; names_are = refl; cards_are = c.as_slice-cards.ensures })
    (c.test_kinds.ensures (length names + 2) (few_names (supply_in c.args.index.now.supplies) c.args.design.now.globals c.cell_of-cell.result.now
    c.most_nets.result (c.most_nets.ensures ∙ ap (λ (globals : List (List ℕ)). carried (length c.cell_of-cell.result.now.devices * 3 + length c.cell_of-cell.result.now.ports + length globals + 2)) c.as_slice-globals.ensures)
    (sym c.if-not-is_too_large.ensures)))

pub returns : goal.returns
returns c = λ rules indexed.
    cell_structured c.args.design.now rules c.args.cell c.requires.netlist c.requires.there c.requires.leaf c.cell_of-cell.result.now c.cell_of-cell.ensures
    c.args.index.now.supplies c.args.index.now.models c.name_nets.new.names c.as_slice-cards.result.now c.test.result
    (record { supplies_are = indexed.rules_are.supplies_are; models_are = indexed.models_are; names_are = c.in_ok-name_nets.ensures; cards_are = c.as_slice-cards.ensures }) c.test.ensures
