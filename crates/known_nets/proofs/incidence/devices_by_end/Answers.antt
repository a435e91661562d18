use Rattle.std.proofs.Common.{◌≡◌, ℕ, length, arith, ap, subst, ◌∙◌}
use Rattle.vrt_model.proofs.Lists.{item_at}
use Rattle.known_nets.proofs.IncidenceLaws.{more_ends}
use Rattle.known_nets.specs.Incidence.{HasEnds}
use Rattle.known_nets.specs.Placed.{Adds, IsArc}
use Rattle.vrt_model.specs.Lists.{At}
use Rattle.known_nets.proofs.incidence.devices_by_end.Goals as goal

pub loop-at-preserved : goal.loop-at-preserved
loop-at-preserved c =
    let circuit = c.args.circuit.now in
    let at = c.loop-at.at in
    let d = c.device-item.result in
    let there : At circuit.devices at d = item_at circuit.devices c.as_slice-device-items.result.now at d c.as_slice-device-items.ensures c.loop-at-test.true c.device-item.is in
    let mid = c.lead.new.graph.items in
    let new = c.lead-in-loop-at.new.graph.items in
    let left : Adds (IsArc at d.left.0) c.loop-at.ends.items mid = c.in_ok-lead.ensures in
    let right : Adds (IsArc at d.right.0) mid new = c.in_ok-lead-2.ensures in
    record {
      len = right.count ∙ left.count ∙ c.loop-at.invariant.len;
      ends = more_ends circuit at d c.loop-at.ends.items mid new there left right c.loop-at.invariant.ends;
    }

pub returns-clause-ends : goal.returns-clause-ends
returns-clause-ends c =
    let circuit = c.args.circuit.now in
    let same : length c.as_slice-device-items.result.now ≡ length circuit.devices = ap length c.as_slice-device-items.ensures in
    let all : c.loop-at.at ≡ length circuit.devices = omega (arith, c.loop-at-test.false, c.loop-at.auto.at-end, same) in
    subst (λ (n : ℕ). HasEnds circuit n c.loop-at.ends.items) all c.loop-at.invariant.ends
