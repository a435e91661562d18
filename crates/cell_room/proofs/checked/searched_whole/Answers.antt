-- The checked circuit has the variables of the flat one, and it is looked through as this one is.
use Rattle.std.proofs.Common.{List, length, subst, sym, ◌≡◌}
use Rattle.std.specs.Prelude.{Option}
use Rattle.blif_eval.specs.Plans.{entry_of}
use Rattle.cell_room.proofs.CheckedLaws.{acyclic_over, few_outputs, over_is, ready_with, table_with, vars_over}
use Rattle.cell_room.proofs.SizeLaws.{all_few, few_pins, pins_few, words_of}
use Rattle.cell_room.specs.Checked.{over}
use Rattle.cell_room.specs.Works.{ArePlans, AreVars}
use Rattle.checked_cells.proofs.WholeLaws.{checked_circuits_are_wired, checked_models_are_acyclic}
use Rattle.phase_terms.specs.Ready.{IsReady, comparison_in}
use Rattle.phase_terms.specs.Stores.{counts_of}
use Rattle.rule_index.specs.Tables.{AreRuleTables}
use Rattle.substitute.specs.BareParts.{HasPartsIn}
use Rattle.vrt_model.specs.Comparison.{Comparison}
use Rattle.vrt_model.specs.Unsupported.{AcyclicBefore}
use Rattle.whole_steps.specs.Logic.{nothing_known}
use Rattle.whole_steps.specs.Tables.{IsWholeTable}
use Rattle.whole_steps.specs.declared.table.OutputPlace.{OutputPlace}
use Rattle.cell_room.proofs.checked.searched_whole.Goals as goal

pub output_drivers-requires : goal.output_drivers-requires
output_drivers-requires c =
    let k = comparison_in c.args.phases.compared in
    let is = c.requires.checked in
    let blif = c.args.phases.blif.now in
    let facts = c.args.phases.facts.now in
    let circuit = c.args.checked.circuit in
    let h = c.requires.phases.checkable.by_facts circuit c.requires.phases.planned is in
    record { circuit = (checked_circuits_are_wired k is.0 blif facts circuit h).ranges }

pub orders_of-requires-clause-ranges : goal.orders_of-requires-clause-ranges
orders_of-requires-clause-ranges c =
    let k = comparison_in c.args.phases.compared in
    let is = c.requires.checked in
    let blif = c.args.phases.blif.now in
    let facts = c.args.phases.facts.now in
    let circuit = c.args.checked.circuit in
    let h = c.requires.phases.checkable.by_facts circuit c.requires.phases.planned is in
    (checked_circuits_are_wired k is.0 blif facts circuit h).ranges

pub orders_of-requires-clause-acyclic : goal.orders_of-requires-clause-acyclic
orders_of-requires-clause-acyclic c =
    let k = comparison_in c.args.phases.compared in
    let is = c.requires.checked in
    let blif = c.args.phases.blif.now in
    let facts = c.args.phases.facts.now in
    let circuit = c.args.checked.circuit in
    let h = c.requires.phases.checkable.by_facts circuit c.requires.phases.planned is in
    λ w among. checked_models_are_acyclic k is.0 blif facts circuit w h among (entry_of (nothing_known w.model)) (entry_of (nothing_known w.model) (length w.model.signals))

pub over-compared-requires : goal.over-compared-requires
over-compared-requires c =
    let k = comparison_in c.args.phases.compared in
    let is = c.requires.checked in
    let blif = c.args.phases.blif.now in
    let facts = c.args.phases.facts.now in
    let circuit = c.args.checked.circuit in
    let h = c.requires.phases.checkable.by_facts circuit c.requires.phases.planned is in
    let made = table_with k is.0 blif facts circuit c.in_ok-drivers.drivers.items c.in_ok-orders.orders h c.in_ok-drivers.ensures c.in_ok-orders.ensures in
    let drivers = subst (λ (t : List (Option OutputPlace)). IsWholeTable circuit t c.in_ok-orders.orders) (sym c.as_slice.ensures.value) made in
    record { wholes = subst (IsWholeTable circuit c.as_slice.result.now) (sym c.as_slice-2.ensures) drivers }

pub most_variables-requires : goal.most_variables-requires
most_variables-requires c = all_few (comparison_in c.args.phases.compared) c.args.phases.vars.now c.requires.phases.vars

pub counts_with-requires-clause-circuit : goal.counts_with-requires-clause-circuit
counts_with-requires-clause-circuit c =
    let k = comparison_in c.args.phases.compared in
    let is = c.requires.checked in
    let blif = c.args.phases.blif.now in
    let facts = c.args.phases.facts.now in
    let circuit = c.args.checked.circuit in
    let h = c.requires.phases.checkable.by_facts circuit c.requires.phases.planned is in
    (subst IsReady (sym c.over-compared.ensures.is) (ready_with k is.0 blif facts circuit c.requires.phases.ready h)).circuit

pub counts_with-requires-clause-model : goal.counts_with-requires-clause-model
counts_with-requires-clause-model c =
    let k = comparison_in c.args.phases.compared in
    let is = c.requires.checked in
    let blif = c.args.phases.blif.now in
    let facts = c.args.phases.facts.now in
    let circuit = c.args.checked.circuit in
    let h = c.requires.phases.checkable.by_facts circuit c.requires.phases.planned is in
    (subst IsReady (sym c.over-compared.ensures.is) (ready_with k is.0 blif facts circuit c.requires.phases.ready h)).model

pub plans_with-requires-clause-ready : goal.plans_with-requires-clause-ready
plans_with-requires-clause-ready c =
    let k = comparison_in c.args.phases.compared in
    let is = c.requires.checked in
    let blif = c.args.phases.blif.now in
    let facts = c.args.phases.facts.now in
    let circuit = c.args.checked.circuit in
    let h = c.requires.phases.checkable.by_facts circuit c.requires.phases.planned is in
    subst IsReady (sym c.over-compared.ensures.is) (ready_with k is.0 blif facts circuit c.requires.phases.ready h)

pub plans_with-requires-clause-tables : goal.plans_with-requires-clause-tables
plans_with-requires-clause-tables c = subst (λ (x : Comparison). AreRuleTables x.rules c.args.index.now) (sym c.over-compared.ensures.is) c.requires.tables

pub plans_with-requires-clause-acyclic : goal.plans_with-requires-clause-acyclic
plans_with-requires-clause-acyclic c =
    let k = comparison_in c.args.phases.compared in
    let is = c.requires.checked in
    let blif = c.args.phases.blif.now in
    let facts = c.args.phases.facts.now in
    let circuit = c.args.checked.circuit in
    let h = c.requires.phases.checkable.by_facts circuit c.requires.phases.planned is in
    subst (λ (x : Comparison). AcyclicBefore x (length x.rules.phases)) (sym c.over-compared.ensures.is) (acyclic_over k is.0 blif facts circuit h c.requires.phases.planned)

pub plans_with-requires-clause-parts : goal.plans_with-requires-clause-parts
plans_with-requires-clause-parts c =
    subst (λ (x : Comparison). HasPartsIn x.circuit x.rules.phases c.args.checked.parts) (sym c.over-compared.ensures.is) c.requires.parts

pub returns-clause-searched : goal.returns-clause-searched
returns-clause-searched c =
    let k = comparison_in c.args.phases.compared in
    let is = c.requires.checked in
    let blif = c.args.phases.blif.now in
    let facts = c.args.phases.facts.now in
    let circuit = c.args.checked.circuit in
    let h = c.requires.phases.checkable.by_facts circuit c.requires.phases.planned is in
    let x = over k circuit in
    let vars = c.args.phases.vars.now in
    let ready = ready_with k is.0 blif facts circuit c.requires.phases.ready h in
    let all_vars = subst (λ (y : Comparison). AreVars y (length k.rules.phases) vars) (over_is k is.0 blif facts circuit h) (vars_over k is.0 blif facts circuit (length k.rules.phases) vars h c.requires.phases.vars) in
    let counts_are = subst (λ (y : Comparison). c.in_ok-counts.counts ≡ counts_of y c.most_variables.result) c.over-compared.ensures.is c.in_ok-counts.ensures.is in
    let most = c.most_outputs-most.ensures in
    let pins = c.in_ok-counts.ensures.few in
    record {
      ready = ready;
      wholes = table_with k is.0 blif facts circuit c.in_ok-drivers.drivers.items c.in_ok-orders.orders h c.in_ok-drivers.ensures c.in_ok-orders.ensures;
      vars = all_vars;
      plans = subst (λ (y : Comparison). ArePlans y (length y.rules.phases) c.in_ok-plans.plans) c.over-compared.ensures.is c.in_ok-plans.ensures;
      words = words_of x vars all_vars ready c.most_variables.result c.in_ok-counts.counts c.most_variables.ensures.few c.most_variables.ensures.within counts_are (few_pins k.circuit c.most_outputs-most.result c.in_ok-counts.counts.pins most pins);
      few = few_outputs k is.0 blif facts circuit c.most_outputs-most.result h most (pins_few x c.in_ok-counts.counts c.most_variables.result c.most_outputs-most.result counts_are pins);
    }
