-- What is flattened may be planned, and what stands in the way of its phases is told.
use Rattle.std.proofs.Common.{Ok, sym, subst, ap}
use Rattle.cell_room.proofs.ReadyLaws.{ready}
use Rattle.cell_room.specs.Steps.{Stops}
use Rattle.cell_room.specs.Works.{IsToldWhy, WorksTell}
use Rattle.phase_terms.specs.Ready.{IsReady, comparison_in}
use Rattle.rule_index.specs.Tables.{AreRuleTables}
use Rattle.vrt_model.specs.Comparison.{Comparison}
use Rattle.vrt_model.specs.declared.rules.Rules.{Rules}
use Rattle.cell_room.proofs.planned.plan_placed.Goals as goal

pub flat_comparison-compared-requires : goal.flat_comparison-compared-requires
flat_comparison-compared-requires c = record { flat = c.requires.placed.3.1.flat }

pub work_out-requires-clause-ready : goal.work_out-requires-clause-ready
work_out-requires-clause-ready c =
    subst IsReady (sym c.flat_comparison-compared.ensures.comparison)
    (let p = c.requires.placed in ready c.args.design.now p.0 c.args.rules.now c.args.cell p.1 c.args.placed.flattened p.2 p.3.1)

pub work_out-requires-clause-tables : goal.work_out-requires-clause-tables
work_out-requires-clause-tables c =
    subst (λ (r : Rules). AreRuleTables r c.args.index.now) (sym (ap (λ (k : Comparison). k.rules) c.flat_comparison-compared.ensures.comparison)) c.requires.tables

pub returns-in-Ok : goal.returns-in-Ok
returns-in-Ok c blif m inputs is =
    let w = c.work_out in
    let made = subst (λ (k : Comparison). WorksTell k w.new.vars w.new.plans (Ok tt)) c.flat_comparison-compared.ensures.comparison c.in-Ok.ensures in
    rw (c.planned_of.ensures) (record { places = is.0; flattened = is.1; planned = made.2; vars = made.0; plans = made.1 })

pub returns-in-Err-Because : goal.returns-in-Err-Because
returns-in-Err-Because c blif m inputs is =
    let here = subst (Stops (IsToldWhy (comparison_in c.flat_comparison-compared.result))) c.in-Err-Because.field-0-is c.in-Err-Because.ensures in
    let told = subst (λ (x : Comparison). IsToldWhy x c.in-Err-Because.why) c.flat_comparison-compared.ensures.comparison here in
    rw (c.flattened_of.ensures) (is.1, told)
