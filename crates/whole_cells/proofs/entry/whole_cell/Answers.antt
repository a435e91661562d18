use Rattle.std.proofs.Common.{◌≡◌, ◌&&◌, Option, true, sym, ◌∙◌}
use Rattle.std.proofs.lemmas.Result.{IfOk-weaker}
use Rattle.whole_circuits.specs.declared.whole_cell.WholeCell.{WholeCell}
use Rattle.vrt_model.specs.Checked.{has_fact}
use Rattle.vrt_model.specs.PairedPorts.{paired_model}
use Rattle.vrt_model.specs.Unsupported.{top_before}
use Rattle.vrt_model.specs.declared.whole.CellFacts.{CellFacts}
use Rattle.whole_cells.proofs.EntryLaws.{networked_entry, none_listed, some_model, unknown_entry, unpaired_entry}
use Rattle.whole_cells.specs.Entries.{IsEntry}
use Rattle.whole_cells.proofs.entry.whole_cell.Goals as goal

pub returns-then-not-is_known : goal.returns-then-not-is_known
returns-then-not-is_known c = unknown_entry c.args.design.now c.args.blif.now c.args.rules.now c.args.facts.now c.args.cell (sym c.if-not-is_known.ensures)

pub cell_with-requires-clause-paired : goal.cell_with-requires-clause-paired
cell_with-requires-clause-paired c =
    some_model (paired_model c.args.design.now c.args.blif.now c.args.rules.now c.args.cell) c.in-Some.model
    (sym c.in-Some.is ∙ c.model_of_with.ensures c.args.blif.now c.requires.prepared.names_are)

pub returns-else-not-cared : goal.returns-else-not-cared
returns-else-not-cared c =
    let a = c.args in
    IfOk-weaker c.cell_with.result
    (λ (entry : Option WholeCell). has_fact (λ (f : CellFacts). f.equal && f.stateless) a.facts.now a.cell ≡ true → IsEntry (top_before a.design.now a.rules.now a.cell) a.blif.now a.facts.now a.cell entry)
    (λ (entry : Option WholeCell). IsEntry (top_before a.design.now a.rules.now a.cell) a.blif.now a.facts.now a.cell entry)
    (λ entry is. is (sym c.if-not-is_known.ensures)) c.cell_with.ensures

pub returns-then-not-cared : goal.returns-then-not-cared
returns-then-not-cared c =
    networked_entry c.args.design.now c.args.blif.now c.args.rules.now c.args.facts.now c.args.cell c.in-Some.model
    (some_model (paired_model c.args.design.now c.args.blif.now c.args.rules.now c.args.cell) c.in-Some.model (sym c.in-Some.is ∙ c.model_of_with.ensures c.args.blif.now c.requires.prepared.names_are))
    (sym c.if-not-is_known.ensures) (sym c.has_no_network-cared.ensures ∙ c.if-not-cared.true)

pub cell_with-requires-clause-cared : goal.cell_with-requires-clause-cared
cell_with-requires-clause-cared c = none_listed _ (sym c.has_no_network-cared.ensures ∙ c.if-not-cared.false)

pub returns-in-None : goal.returns-in-None
returns-in-None c =
    unpaired_entry c.args.design.now c.args.blif.now c.args.rules.now c.args.facts.now c.args.cell (sym c.in-None.is ∙ c.model_of_with.ensures c.args.blif.now c.requires.prepared.names_are)
