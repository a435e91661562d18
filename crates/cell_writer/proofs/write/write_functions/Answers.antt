use Rattle.std.proofs.Common.{◌≡◌, ◌≤◌, List, Err, ap, length, refl, subst, sym, ◌∙◌}
use Rattle.cell_writer.proofs.WriteLaws.{counts_written, variables_count, write_gives, write_spent}
use Rattle.cell_writer.proofs.WritingLaws.{is_equal, is_ready, own_outputs, same_sources, are_plans, steps}
use Rattle.output_functions.specs.Phases.{ArePhasePlans, FunctionsGive, HasOwnOutputs}
use Rattle.output_functions.specs.declared.phase.Stop.{Stop}
use Rattle.phase_terms.specs.Ready.{IsReady, comparison_in}
use Rattle.phase_terms.specs.declared.words.WordCounts.{WordCounts}
use Rattle.phase_terms.specs.declared.plan.PhasePlan.{PhasePlan}
use Rattle.rule_index.specs.Tables.{AreRuleTables}
use Rattle.vrt_model.specs.Comparison.{Comparison}
use Rattle.vrt_model.specs.Equal.{IsEqual}
use Rattle.vrt_model.specs.Held.{sources_of}
use Rattle.vrt_model.specs.Lists.{At}
use Rattle.vrt_model.specs.declared.flat_model.FlatModel.{FlatModel}
use Rattle.vrt_model.specs.declared.groups.Vars.{Vars}
use Rattle.cell_writer.proofs.write.write_functions.Goals as goal

pub output_functions-requires-clause-tables : goal.output_functions-requires-clause-tables
output_functions-requires-clause-tables c = subst (λ (k : Comparison). AreRuleTables k.rules c.args.w.index.now) (sym c.compared_of.ensures.is) c.requires.writing.1.tables

pub output_functions-requires-clause-few : goal.output_functions-requires-clause-few
output_functions-requires-clause-few c = subst (λ (k : Comparison). length k.rules.phases ≤ 16) (sym c.compared_of.ensures.is) c.requires.writing.1.inputs.valid.phase_limit

pub output_functions-requires-clause-ready : goal.output_functions-requires-clause-ready
output_functions-requires-clause-ready c = subst IsReady (sym c.compared_of.ensures.is) (is_ready c.requires.writing.0 c.args.w c.requires.writing.1)

pub output_functions-requires-clause-equal : goal.output_functions-requires-clause-equal
output_functions-requires-clause-equal c = subst IsEqual (sym c.compared_of.ensures.is) (is_equal c.requires.writing.0 c.args.w c.requires.writing.1)

pub output_functions-requires-clause-own : goal.output_functions-requires-clause-own
output_functions-requires-clause-own c = subst HasOwnOutputs (sym c.compared_of.ensures.is) (own_outputs c.requires.writing.0 c.args.w c.requires.writing.1)

pub output_functions-requires-clause-plans : goal.output_functions-requires-clause-plans
output_functions-requires-clause-plans c =
    subst (λ (k : Comparison). ArePhasePlans k c.as_slice-plans.result.now) (sym c.compared_of.ensures.is)
    (subst (λ (ps : List PhasePlan). ArePhasePlans (steps c.requires.writing.0 c.args.w c.requires.writing.1) ps) (sym c.as_slice-plans.ensures) (are_plans c.requires.writing.0 c.args.w c.requires.writing.1))

pub output_functions-requires-clause-vars : goal.output_functions-requires-clause-vars
output_functions-requires-clause-vars c phase =
    let m = c.requires.writing.0 in
    let is = c.requires.writing.1 in
    subst (λ (k : Comparison). c.first_vars-vars.result.now.sources ≡ sources_of k phase) (sym c.compared_of.ensures.is)
    (same_sources m c.args.w is (c.requires.free m is) c.first_vars-vars.result.now
    (subst (λ (vs : List Vars). At vs 0 c.first_vars-vars.result.now) c.as_slice.ensures c.first_vars-vars.ensures) phase)

pub output_functions-requires-clause-counts : goal.output_functions-requires-clause-counts
output_functions-requires-clause-counts c =
    let m = c.requires.writing.0 in
    let is = c.requires.writing.1 in
    counts_written m c.args.w is (c.requires.free m is) _ c.bare_counts-counts.result c.circuit.result.now c.model.result.now _ c.compared_of.ensures.is c.circuit.ensures c.model.ensures
    c.bare_counts-counts.ensures

pub functions_text-requires-clause-variables : goal.functions_text-requires-clause-variables
functions_text-requires-clause-variables c =
    let m = c.requires.writing.0 in
    let is = c.requires.writing.1 in
    let vars = c.first_vars-vars.result.now in
    let at = subst (λ (vs : List Vars). At vs 0 vars) c.as_slice.ensures c.first_vars-vars.ensures in
    variables_count m c.args.w is (c.requires.free m is) vars at c.args.variables.now c.requires.variables
    ∙ sym (c.in-Ok.ensures.1 ∙ ap (λ (counts : WordCounts). counts.variables) c.bare_counts-counts.ensures)

pub returns-in-Ok : goal.returns-in-Ok
returns-in-Ok c m is =
    write_gives m c.args.w is (c.requires.free m is) c.in-Ok.functions c.args.clocks.now c.args.variables.now c.as_slice-in-Ok.result.now c.args.budget _ c.functions_text.result
    c.compared_of.ensures.is c.in-Ok.ensures.0 c.requires.clocks c.requires.variables (c.as_slice-in-Ok.ensures ∙ ap (λ (f : FlatModel). f.outputs) c.model-in-Ok.ensures) c.functions_text.ensures

pub returns-in-Err-Spent : goal.returns-in-Err-Spent
returns-in-Err-Spent c m is =
    let k = comparison_in c.compared_of.result in
    let plans = c.as_slice-plans.result.now in
    let variables = c.bare_counts-counts.result.variables in (
      c.requires.free m is,
      refl,
      write_spent m c.args.w is (c.requires.free m is) k plans c.args.budget variables c.compared_of.ensures.is c.as_slice-plans.ensures
          (subst (λ (s : Stop). FunctionsGive k plans c.args.budget variables (Err s)) c.in-Err-Spent.field-0-is c.in-Err-Spent.ensures),
    )
