-- The ports that are alone in one phase more, by the known nets of its plan.
use Rattle.std.proofs.Common.{Bool, List, Option, length, map, true, ap, arith, sym, subst, refl, ◌∙◌}
use Rattle.std.proofs.lemmas.List.{length-replicate}
use Rattle.known_nets.specs.KnownTables.{IsKnownTable, known_at}
use Rattle.lone_outputs.specs.Lone.{AreKept, AreLone}
use Rattle.phase_terms.specs.declared.plan.PhasePlan.{PhasePlan}
use Rattle.port_drives.proofs.LoneLaws.{all_alone, all_phases, more_alone}
use Rattle.vrt_model.proofs.Lists.{item_at}
use Rattle.vrt_model.specs.declared.ids.Net.{Net}
use Rattle.vrt_model.specs.declared.rules.Phase.{Phase}
use Rattle.port_drives.proofs.lone.lone_ports.Goals as goal

pub loop-plan-init : goal.loop-plan-init
loop-plan-init c = record {
  len = ap (λ (xs : List Bool). length xs) c.in_ok-all.ensures ∙ length-replicate (length c.args.outputs.now) true;
  are = all_alone c.args.circuit.now c.args.plans.now c.args.outputs.now c.in_ok-all.all.items c.in_ok-all.ensures;
}

pub keep_lone-requires : goal.keep_lone-requires
keep_lone-requires c = c.loop-plan.invariant.len ∙ sym (ap (λ (xs : List Bool). length xs) c.as_slice.ensures ∙ c.in_ok-lone.ensures.len)

pub loop-plan-preserved : goal.loop-plan-preserved
loop-plan-preserved c =
    let circuit = c.args.circuit.now in
    let plans = c.args.plans.now in
    let nets = c.args.outputs.now in
    let i = c.loop-plan.plan-index in
    let inv = c.loop-plan.invariant in
    let plan : PhasePlan = c.plan-item.result in
    let bits = c.in_ok-lone.lone in
    let here : (at : Phase) → IsKnownTable circuit at (known_at plan.parts.known) → AreLone circuit at (map (λ (n : Net). n.0) nets) bits =
    λ at table. c.in_ok-lone.ensures.alone at (subst (λ (known : List (Option Bool)). IsKnownTable circuit at (known_at known)) (sym c.as_slice-known.ensures) table) in
    let kept = subst (λ (more : List Bool). AreKept more c.loop-plan.all.items c.keep_lone.new.all.items) c.as_slice.ensures c.keep_lone.ensures in
    record {
      len = kept.len ∙ inv.len;
      are = more_alone circuit plans nets i plan bits c.loop-plan.all.items c.keep_lone.new.all.items (item_at plans plans i plan refl c.loop-plan-test.true c.plan-item.is) here kept inv.are;
    }

pub returns : goal.returns
returns c = all_phases c.args.circuit.now c.args.plans.now c.args.outputs.now c.loop-plan.plan-index c.loop-plan.all.items c.loop-plan.invariant.are (omega (arith, c.loop-plan-test.false, c.loop-plan.auto.plan-index-end))
