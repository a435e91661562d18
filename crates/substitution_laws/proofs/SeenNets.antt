-- Observed nets are nets of the circuit.
use Rattle.std.proofs.Common.{◌≡◌, ℕ, ◌<◌, true, length, arith, subst, inl, inr}
use Rattle.placed_cells.proofs.FlatNetLaws.{net_count}
use Rattle.placed_cells.proofs.SplitLaws.{port_below}
use Rattle.replaced_instances.proofs.StepHides.{port_net_among}
use Rattle.vrt_model.proofs.Members.{all_among}
use Rattle.vrt_model.specs.Circuits.{IsDevice, IsDrive, IsHold, IsNet, IsWhole}
use Rattle.vrt_model.specs.Comparison.{CellPort, Comparison, is_observed, port_nets, ports_from, ports_of}
use Rattle.vrt_model.specs.FlatCircuit.{flat_nets}
use Rattle.vrt_model.specs.Lists.{Among}
use Rattle.vrt_model.specs.Networks.{HasRanges}
use Rattle.vrt_model.specs.Unrolled.{Top, top_cell}
use Rattle.vrt_model.specs.declared.circuit.FlatInstance.{FlatInstance}
use Rattle.vrt_model.specs.declared.ids.Net.{Net}
use Rattle.vrt_model.specs.declared.whole.WholePin.{WholePin}
use Rattle.whole_solutions.proofs.ObservedCases.{observed_for}

-- the nets of ports are flat nets
pub port_range : (t : Top) (port : CellPort) → Among (ports_from 0 (top_cell t).ports (port_nets t.rules (top_cell t).ports) t.roles) port → port.net < length (flat_nets t)
port_range t port on =
    let names = (top_cell t).ports in
    let low = port_below t.rules 2 names port.net (omega arith) (port_net_among 0 names (port_nets t.rules names) t.roles port on) in
    let count = net_count t in
    omega (arith, low, count)

-- the nets at which ports, and those of instances, stand
pub record HasPortsWithin (k : Comparison) : Type 0 where
  pub ports : (port : CellPort) → Among (ports_of k) port → port.net < length k.circuit.nets
  pub instances : (i : FlatInstance) (m : Net) → Among k.circuit.instances i → Among i.ports m → m.0 < length k.circuit.nets

pub seen_within : (k : Comparison) (phase n : ℕ) → HasRanges k.circuit → HasPortsWithin k → is_observed k phase n ≡ true → n < length k.circuit.nets
seen_within k phase n ranges within seen =
    elim (observed_for k phase n seen) [
      | inl gate ↦ is gate.0.gate.0 gate.2 (all_among (IsDevice k.circuit) k.circuit.devices gate.0 ranges.devices gate.1).gate
      | inr other ↦ elim other [
        | inl hold ↦ is hold.0.net.0 hold.2 (all_among (IsHold k.circuit) k.circuit.holds hold.0 ranges.holds hold.1).net
        | inr more ↦ elim more [
          | inl port ↦ is port.0.net port.2 (within.ports port.0 port.1)
          | inr last ↦ elim last [
            | inl tied ↦ is tied.1.0 tied.4 (within.instances tied.0 tied.1 tied.2 tied.3)
            | inr pin ↦
                let whole = all_among (IsWhole k.circuit) k.circuit.wholes pin.0 ranges.wholes pin.2 in
                let own = all_among (λ (x : WholePin). IsNet k.circuit x.net × (x.signal < length pin.0.model.signals) × IsDrive k.circuit x.drive) pin.0.inputs pin.1 whole.inputs pin.3 in
                is pin.1.net.0 pin.5 own.0
          ]
        ]
      ]
    ]
  where
    is : (m : ℕ) → m ≡ n → m < length k.circuit.nets → n < length k.circuit.nets
    is m e = subst (λ (x : ℕ). x < length k.circuit.nets) e
