-- Observed output ports and observed nets.
use Rattle.std.proofs.Common.{◌≡◌, ℕ, ◌&&◌, ◌||◌, Bool, true, Some, eqb, ap, refl}
use Rattle.std.specs.Prelude.{is_some}
use Rattle.std.specs.List.{list_any}
use Rattle.std.proofs.lemmas.Bool.{and_from, eq-eqb, or_left, or_right}
use Rattle.vrt_model.proofs.Members.{among_any}
use Rattle.vrt_model.specs.CellRules.{is_constrained, is_observed_port}
use Rattle.vrt_model.specs.Comparison.{CellPort, Comparison, cell_at, is_observed, output_signal, ports_of}
use Rattle.vrt_model.specs.Lists.{At}
use Rattle.vrt_model.specs.declared.circuit.Device.{Device}
use Rattle.vrt_model.specs.declared.circuit.FlatInstance.{FlatInstance}
use Rattle.vrt_model.specs.declared.circuit.Hold.{Hold}
use Rattle.vrt_model.specs.declared.ids.Net.{Net}
use Rattle.vrt_model.specs.declared.whole.Whole.{Whole}
use Rattle.vrt_model.specs.declared.whole.WholePin.{WholePin}

-- an output port that is observed has an observed net
pub output_observed : (k : Comparison) (phase at : ℕ) (port : CellPort) (signal : ℕ) → At (ports_of k) at port → output_signal port.role ≡ Some signal
    → is_observed_port k.rules (cell_at k.design k.cell).name port.name phase ≡ true → is_observed k phase port.net ≡ true
unfolding is_observed
output_observed k phase at port signal there out seen =
    let n = port.net in
    let test : CellPort → Bool = λ p. eqb p.net n && is_some (output_signal p.role) && is_observed_port k.rules (cell_at k.design k.cell).name p.name phase in
    let passes : test port ≡ true =
    and_from (eqb port.net n && is_some (output_signal port.role)) (is_observed_port k.rules (cell_at k.design k.cell).name port.name phase)
    (and_from (eqb port.net n) (is_some (output_signal port.role)) (eq-eqb port.net n refl) (ap is_some out)) seen in
    let gates = list_any (λ (d : Device). eqb d.gate.0 n) k.circuit.devices in
    let holds = list_any (λ (h : Hold). eqb h.net.0 n) k.circuit.holds in
    let outputs = list_any test (ports_of k) in
    let instances = list_any (λ (i : FlatInstance). is_constrained k.rules (cell_at k.design i.cell).name && list_any (λ (m : Net). eqb m.0 n) i.ports) k.circuit.instances in
    let wholes = list_any (λ (w : Whole). list_any (λ (p : WholePin). p.observed && eqb p.net.0 n) w.inputs) k.circuit.wholes in
    or_left (((gates || holds) || outputs) || instances) wholes
    (or_left ((gates || holds) || outputs) instances (or_right (gates || holds) outputs (among_any test (ports_of k) port (at, there) passes)))
