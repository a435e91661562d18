-- What the functions of a cell give of what is written of it.
use Rattle.std.proofs.Common.{◌≡◌, ℕ, List, [], Result, Ok, Err, ap, ap₂, length, map, subst, sym, ◌∙◌}
use Rattle.std.specs.Prelude.{filter, filter_map, not}
use Rattle.std.proofs.lemmas.List.{length-map}
use Rattle.cell_writer.proofs.FunctionLaws.{logic_by, logic_of_cell}
use Rattle.cell_writer.proofs.BudgetLaws.{bare_counts_are, may_pass}
use Rattle.cell_writer.proofs.VariableLaws.{names_by_roles}
use Rattle.paired_ports.proofs.PortLists.{net_for_each}
use Rattle.cell_writer.proofs.WritingLaws.{are_plans, comparison_same, is_combinational, is_formed, is_read, is_ready, is_supported, no_elements, same_sources, steps}
use Rattle.cell_writer.specs.Names.{input_name}
use Rattle.diagram_lists.specs.Listed.{function_from, functions_of}
use Rattle.cell_writer.specs.Made.{IsLogicBy, LogicGives}
use Rattle.cell_writer.specs.Refused.{MayBeWritten}
use Rattle.cell_writer.specs.Writing.{IsWriting, clocks_of, written_of}
use Rattle.cell_writer.specs.Written.{MayPass, WriteGives}
use Rattle.cell_writer.specs.declared.refusal.WriteRefusal.{WriteRefusal}
use Rattle.cell_writer.specs.declared.refusal.WriteRefusal.TheVariants.{Hold, Clock, Name, Budget, Large, Long, NoMemory}
use Rattle.cell_writer.specs.declared.writing.Writing.{Writing}
use Rattle.output_functions.specs.Phases.{AreJoined, FunctionsGive}
use Rattle.output_functions.specs.declared.phase.Stop.TheVariants.{Spent as IsSpent}
use Rattle.phase_terms.specs.declared.plan.PhasePlan.{PhasePlan}
use Rattle.output_functions.specs.declared.functions.Functions.{Functions}
use Rattle.output_joins.specs.Joins.{handle_in}
use Rattle.phase_terms.specs.Stores.{counts_of}
use Rattle.phase_terms.specs.declared.words.WordCounts.{WordCounts}
use Rattle.vrt_model.specs.Assignment.{Tied}
use Rattle.vrt_model.specs.Comparison.{Comparison, cell_at, port_nets, tied_inputs}
use Rattle.vrt_model.specs.Elements.{element_names, signal_name}
use Rattle.vrt_model.specs.Held.{sources_of}
use Rattle.vrt_model.specs.Levels.{source_level}
use Rattle.vrt_model.specs.FlatBlif.{flat_model_of, model_at, signal_at, top_model, unrolled_of}
use Rattle.vrt_model.specs.Lists.{At, has_name}
use Rattle.vrt_model.specs.declared.blif.Blif.{Blif}
use Rattle.vrt_model.specs.declared.circuit.Circuit.{Circuit}
use Rattle.vrt_model.specs.declared.flat_model.FlatModel.{FlatModel}
use Rattle.vrt_model.specs.declared.groups.Source.{Source}
use Rattle.vrt_model.specs.declared.groups.Vars.{Vars}
use Rattle.vrt_model.specs.declared.blif.BlifModel.{BlifModel}
use Rattle.written_logic.proofs.Combinational.{sources_are}
use Rattle.written_logic.proofs.InputNets.{source_of}
use Rattle.written_logic.specs.Logics.{IsLogicOf, input_names}
use Rattle.written_models.specs.Written.{Logic}

-- a flat model has an output for each of the model's
outputs_count : (blif : Blif) (m : ℕ) → length (flat_model_of blif m).outputs ≡ length (model_at blif m).outputs
unfolding flat_model_of unrolled_of
outputs_count blif m = length-map (model_at blif m).outputs (signal_at blif (top_model m))

-- what is said of the text is said of the cell
pub written_by : (k : Comparison) (blif : Blif) (b : BlifModel) (budget : ℕ) (l : Logic) (result : Result (List ℕ) WriteRefusal) → MayBeWritten k b → IsLogicOf k b l → LogicGives l result
    → WriteGives k blif b budget result
written_by k blif b budget l (Ok text) may logic gives = (may, (l, record { logic = logic; signals = gives.0; bytes = gives.1; is = gives.2 }))
written_by k blif b budget l (Err (Hold net)) may logic gives = absurd gives
written_by k blif b budget l (Err (Clock port)) may logic gives = absurd gives
written_by k blif b budget l (Err (Name name)) may logic gives = absurd gives
written_by k blif b budget l (Err (Budget nodes)) may logic gives = absurd gives
written_by k blif b budget l (Err (Large count)) may logic gives = (may, (l, logic, gives.0, gives.1))
written_by k blif b budget l (Err (Long bytes)) may logic gives = (may, (l, logic, gives.0, gives.1, gives.2))
written_by k blif b budget l (Err NoMemory) may logic gives = tt

module _ (m : ℕ) (w : Writing) (is : IsWriting m w) (may : MayBeWritten (written_of w m) (model_at w.blif.now m)) where
  abbrev q : Comparison
  q = written_of w m

  -- the words of a phase
  pub counts_written : (k : Comparison) (counts : WordCounts) (circuit : Circuit) (model : FlatModel) (variables : ℕ) → k ≡ steps m w is → circuit ≡ w.planned.now.flattened.circuit
      → model ≡ w.planned.now.flattened.model
      → counts ≡ (let made : WordCounts = record { nets = length circuit.nets; source = source_level circuit; pins = 0; models = 0; signals = length model.signals; elements = 0; variables = variables } in made)
      → counts ≡ counts_of k counts.variables
  counts_written k counts circuit model variables same circuit_is model_is made =
      let none : element_names (steps m w is).model ≡ [] = subst (λ (x : Comparison). element_names x.model ≡ []) (sym (comparison_same m w is)) (no_elements m w is may) in
      let first = made ∙ ap₂ (λ (c : Circuit) (f : FlatModel). let counts : WordCounts = record { nets = length c.nets; source = source_level c; pins = 0; models = 0; signals = length f.signals; elements = 0; variables = variables } in counts) circuit_is model_is
      ∙ bare_counts_are (steps m w is) variables is.planned.flattened.flat.wholes none in
      first ∙ ap₂ (λ (x : Comparison) (v : ℕ). counts_of x v) (sym same) (sym (ap (λ (c : WordCounts). c.variables) made))

  -- the names of the variables
  pub variables_named : filter_map (input_name w.planned.now.flattened.model.signals) w.planned.now.flattened.pairing.ports ≡ input_names (written_of w m)
  variables_named =
      let names = (cell_at w.design.now w.cell).ports in
      sym (names_by_roles w.planned.now.flattened.model.signals 0 names (port_nets w.rules.now names) w.planned.now.flattened.pairing.ports (net_for_each w.rules.now 2 names) is.planned.flattened.roles.each)
      ∙ ap input_names (comparison_same m w is)

  -- so many variables
  pub variables_count : (vars : Vars) → At w.planned.now.vars 0 vars → (variables : List (List ℕ))
      → variables ≡ filter_map (input_name w.planned.now.flattened.model.signals) w.planned.now.flattened.pairing.ports → length variables ≡ length vars.sources
  variables_count vars at variables are =
      let sources = same_sources m w is may vars at 0 ∙ ap (λ (x : Comparison). sources_of x 0) (comparison_same m w is)
      ∙ sources_are w.design.now w.blif.now w.rules.now w.cell m (is_formed m w is) (is_combinational m w is may) (no_elements m w is may) 0 in
      ap (λ (ns : List (List ℕ)). length ns) (are ∙ variables_named) ∙ length-map (tied_inputs q) (λ (t : Tied). signal_name q.model t.signal)
      ∙ sym (ap (λ (ss : List Source). length ss) sources ∙ length-map (tied_inputs q) source_of)

  -- what is written of joined functions
  pub write_gives : (f : Functions) (clocks variables : List (List ℕ)) (outputs : List ℕ) (budget : ℕ) (k : Comparison) (result : Result (List ℕ) WriteRefusal) → k ≡ steps m w is
      → AreJoined k (length k.rules.phases) f.handles.items f.store → clocks ≡ clocks_of w
      → variables ≡ filter_map (input_name w.planned.now.flattened.model.signals) w.planned.now.flattened.pairing.ports → outputs ≡ w.planned.now.flattened.model.outputs
      → ((l : Logic) → IsLogicBy f outputs w.model.now clocks variables l → LogicGives l result)
      → WriteGives (written_of w m) w.blif.now (model_at w.blif.now m) budget result
  write_gives f clocks variables outputs budget k result same joined clocks_are variables_are outputs_are gives =
      let there : AreJoined (written_of w m) (length w.rules.now.phases) f.handles.items f.store =
      subst (λ (x : Comparison). AreJoined x (length x.rules.phases) f.handles.items f.store) (same ∙ comparison_same m w is) joined in
      let l : Logic = logic_by w.design.now w.blif.now w.rules.now w.cell m f.handles.items f.store (is_read m w is) (is_supported m w is) may there in
      let outs : outputs ≡ q.model.outputs = outputs_are ∙ ap (λ (x : Comparison). x.model.outputs) (comparison_same m w is) in
      let count : length l.functions ≡ length l.outputs =
      length-map (map (handle_in f.handles.items) q.model.outputs) (function_from f.store 0) ∙ length-map q.model.outputs (handle_in f.handles.items) ∙ outputs_count w.blif.now m in
      written_by (written_of w m) w.blif.now (model_at w.blif.now m) budget l result may
      (logic_of_cell w.design.now w.blif.now w.rules.now w.cell m f.handles.items f.store (is_read m w is) (is_supported m w is) may there count)
      (gives l (record {
        name = ap (λ (b : BlifModel). b.name) (sym is.model);
        inputs = ap (λ (b : BlifModel). b.inputs) (sym is.model);
        clocks_are = ap (λ (b : BlifModel). filter (λ name. not (has_name b.inputs name)) b.clocks) (sym is.model) ∙ sym clocks_are;
        outputs_are = ap (λ (b : BlifModel). b.outputs) (sym is.model);
        variables_are = sym (variables_are ∙ variables_named);
        functions = ap (λ (ss : List ℕ). functions_of f.store (map (handle_in f.handles.items) ss)) (sym outs);
      }))

  -- the budget is used up
  pub write_spent : (k : Comparison) (plans : List PhasePlan) (budget variables : ℕ) → k ≡ steps m w is → plans ≡ w.planned.now.plans → FunctionsGive k plans budget variables (Err IsSpent)
      → MayPass (written_of w m) w.blif.now budget
  write_spent k plans budget variables same plans_are gives =
      let there : FunctionsGive (steps m w is) w.planned.now.plans budget variables (Err IsSpent) =
      subst (λ (ps : List PhasePlan). FunctionsGive (steps m w is) ps budget variables (Err IsSpent)) plans_are
      (subst (λ (x : Comparison). FunctionsGive x plans budget variables (Err IsSpent)) same gives) in
      subst (λ (x : Comparison). MayPass x w.blif.now budget) (comparison_same m w is)
      (may_pass (steps m w is) w.blif.now w.planned.now.plans budget (is_ready m w is) (are_plans m w is) is.planned.flattened.flat.wholes there)
