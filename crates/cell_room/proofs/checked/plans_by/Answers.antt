-- One phase more has a plan, by the last of the parts that are left.
use Rattle.std.proofs.Common.{◌≡◌, ◌+◌, [], true, List, arith, ap, subst, sym}
use Rattle.std.specs.Prelude.{Option, unwrap_or}
use Rattle.cell_room.proofs.WorkLaws.{plans_more}
use Rattle.cell_room.specs.Works.{ArePlans}
use Rattle.channel_parts.specs.PartLists.{IsPartList}
use Rattle.phase_terms.specs.Ready.{comparison_in}
use Rattle.phase_terms.specs.declared.plan.PhasePlan.{PhasePlan}
use Rattle.substitute.proofs.BareLaws.{bare_first, bare_rest}
use Rattle.substitute.specs.BareParts.{AreBareFrom}
use Rattle.vrt_model.proofs.Lists.{at_there}
use Rattle.vrt_model.specs.Comparison.{phase_at}
use Rattle.vrt_model.specs.declared.rules.Phase.{Phase}
use Rattle.cell_room.proofs.checked.plans_by.Goals as goal

pub plan_by-requires-clause-parts : goal.plan_by-requires-clause-parts
plan_by-requires-clause-parts c =
    let circuit = c.args.compared.circuit.now in
    let rules = c.args.compared.rules.now in
    let phase = c.loop-phase.phase in
    let test = c.loop-phase-test.true in
    let count = c.len-phase-end.ensures in
    let there = at_there rules.phases phase (omega (arith, test, count)) in
    let left = subst (AreBareFrom circuit rules.phases phase) (c.in-Some.ensures).items c.loop-phase.invariant.left in
    let is : phase_at rules phase ≡ there.0 = ap (λ (o : Option Phase). unwrap_or o (record { line = 0; name = []; bits = [] })) there.1 in
    subst (λ (x : Phase). IsPartList circuit x true c.in-Some.own) (sym is)
    (bare_first circuit rules.phases phase there.0 c.pop.new.self.items c.in-Some.own left there.1)

pub plan_by-requires-clause-acyclic : goal.plan_by-requires-clause-acyclic
plan_by-requires-clause-acyclic c =
    let test = c.loop-phase-test.true in
    let count = c.len-phase-end.ensures in (c.requires.acyclic c.loop-phase.phase (omega (arith, test, count))).1

pub loop-phase-preserved : goal.loop-phase-preserved
loop-phase-preserved c =
    let k = comparison_in c.args.compared in
    let circuit = c.args.compared.circuit.now in
    let phases = c.args.compared.rules.now.phases in
    let left = subst (AreBareFrom circuit phases c.loop-phase.phase) (c.in-Some.ensures).items c.loop-phase.invariant.left in
    record {
      plans =
          subst (λ (plans : List PhasePlan). ArePlans k (c.loop-phase.phase + 1) plans) (sym c.in_ok-append.ensures)
          (plans_more k c.loop-phase.phase c.loop-phase.plans c.in_ok-plan.plan c.loop-phase.invariant.plans c.in_ok-plan.ensures);
      left = bare_rest circuit phases c.loop-phase.phase c.pop.new.self.items c.in-Some.own left;
    }
