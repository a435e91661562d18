use Rattle.std.proofs.Common.{◌≡◌, ℕ, length, arith, ap, subst, ◌∙◌}
use Rattle.vrt_model.proofs.Lists.{item_at}
use Rattle.known_nets.proofs.IncidenceLaws.{more_gates}
use Rattle.known_nets.specs.Incidence.{HasGates}
use Rattle.known_nets.specs.Placed.{Adds, IsArc}
use Rattle.vrt_model.specs.Lists.{At}
use Rattle.known_nets.proofs.incidence.devices_by_gate.Goals as goal

pub loop-at-preserved : goal.loop-at-preserved
loop-at-preserved c =
    let circuit = c.args.circuit.now in
    let at = c.loop-at.at in
    let d = c.device-item.result in
    let there : At circuit.devices at d = item_at circuit.devices c.as_slice-device-items.result.now at d c.as_slice-device-items.ensures c.loop-at-test.true c.device-item.is in
    let new = c.lead.new.graph.items in
    let added : Adds (IsArc at d.gate.0) c.loop-at.gates.items new = c.in_ok-lead.ensures in
    record {
      len = added.count ∙ c.loop-at.invariant.len;
      gates = more_gates circuit at d c.loop-at.gates.items new there added c.loop-at.invariant.gates;
    }

pub returns-clause-gates : goal.returns-clause-gates
returns-clause-gates c =
    let circuit = c.args.circuit.now in
    let same : length c.as_slice-device-items.result.now ≡ length circuit.devices = ap length c.as_slice-device-items.ensures in
    let all : c.loop-at.at ≡ length circuit.devices = omega (arith, c.loop-at-test.false, c.loop-at.auto.at-end, same) in
    subst (λ (n : ℕ). HasGates circuit n c.loop-at.gates.items) all c.loop-at.invariant.gates
