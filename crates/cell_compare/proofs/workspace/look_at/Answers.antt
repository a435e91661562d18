-- The variables and the plan are those of the phase.
use Rattle.std.proofs.Common.{◌≡◌, ◌<◌, List, arith, ap, length, sym, subst}
use Rattle.cell_room.specs.Works.{ArePhaseVars, IsAcyclicPlan}
use Rattle.phase_terms.specs.Ready.{IsReady}
use Rattle.phase_terms.specs.Stores.{counts_of}
use Rattle.phase_terms.specs.declared.plan.PhasePlan.{PhasePlan}
use Rattle.vrt_model.proofs.Lists.{item_at}
use Rattle.vrt_model.specs.Comparison.{Comparison}
use Rattle.vrt_model.specs.declared.groups.Vars.{Vars}
use Rattle.cell_compare.proofs.workspace.look_at.Goals as goal

pub returns-clause-look : goal.returns-clause-look
returns-clause-look c =
    let made = c.args.made.now in
    let is = c.requires.made.1 in
    let phase = c.args.phase in
    let same = sym c.compared.ensures.is in
    let vars_len = ap (λ (vs : List Vars). length vs) c.as_slice.ensures in
    let plans_len = ap (λ (ps : List PhasePlan). length ps) c.as_slice-2.ensures in
    let vars_at = item_at made.vars c.as_slice.result.now phase c.index-as_slice-phase.result c.as_slice.ensures (omega (arith, vars_len, is.vars.count, c.requires.phase)) c.index-as_slice-phase.is in
    let plan_at = item_at made.plans c.as_slice-2.result.now phase c.index-as_slice-phase-2.result c.as_slice-2.ensures (omega (arith, plans_len, is.plans.count, c.requires.phase)) c.index-as_slice-phase-2.is in
    record {
      budget = c.requires.budget;
      ready = subst IsReady same is.ready;
      wholes = c.compared.ensures.wholes;
      there = subst (λ (k : Comparison). phase < length k.rules.phases) same c.requires.phase;
      vars = subst (λ (k : Comparison). ArePhaseVars k phase c.index-as_slice-phase.result) same (is.vars.each phase c.index-as_slice-phase.result vars_at);
      within = is.words.within phase c.index-as_slice-phase.result vars_at;
      plan = subst (λ (k : Comparison). IsAcyclicPlan k phase c.index-as_slice-phase-2.result) same (is.plans.each phase c.index-as_slice-phase-2.result plan_at);
      counts = subst (λ (k : Comparison). made.counts ≡ counts_of k made.counts.variables) same is.words.counts_are;
      few = is.words.few;
      start = c.requires.start;
    }
