-- The gates of all devices are observed, and nets of the circuit alone are.
use Rattle.std.proofs.Common.{◌≡◌, ℕ, ◌<◌, ◌&&◌, ◌||◌, Bool, true, length, refl, subst, inl, inr}
use Rattle.std.specs.Prelude.{◌==◌, All, is_some}
use Rattle.std.specs.List.{list_any}
use Rattle.std.proofs.lemmas.Bool.{and_parts, eq-eqb, eqb-true, or_cases, or_left}
use Rattle.circuit_faults.specs.KeptFaults.{AreKeptObserved}
use Rattle.phase_ports.proofs.PortLaws.{net_is}
use Rattle.phase_terms.specs.Ready.{IsReady}
use Rattle.vrt_model.proofs.Filtered.{device_among}
use Rattle.vrt_model.proofs.Members.{all_among, among_any, any_among}
use Rattle.vrt_model.specs.CellRules.{is_constrained, is_observed_port}
use Rattle.vrt_model.specs.Circuits.{IsDevice, IsDrive, IsHold, IsNet, IsWhole}
use Rattle.vrt_model.specs.Comparison.{CellPort, Comparison, cell_at, is_observed, output_signal, port_nets, ports_of}
use Rattle.vrt_model.specs.Lists.{Among}
use Rattle.vrt_model.specs.declared.circuit.Device.{Device}
use Rattle.vrt_model.specs.declared.circuit.FlatInstance.{FlatInstance}
use Rattle.vrt_model.specs.declared.circuit.Hold.{Hold}
use Rattle.vrt_model.specs.declared.ids.Net.{Net}
use Rattle.vrt_model.specs.declared.whole.Whole.{Whole}
use Rattle.vrt_model.specs.declared.whole.WholePin.{WholePin}

module _ (k : Comparison) (phase : ℕ) (n : ℕ) where
  -- the kinds of observed nets
  abbrev at_gate : Device → Bool
  at_gate d = d.gate.0 == n

  abbrev at_hold : Hold → Bool
  at_hold h = h.net.0 == n

  abbrev at_output : CellPort → Bool
  at_output p = p.net == n && is_some (output_signal p.role) && is_observed_port k.rules (cell_at k.design k.cell).name p.name phase

  abbrev at_port : Net → Bool
  at_port m = m.0 == n

  abbrev at_instance : FlatInstance → Bool
  at_instance i = is_constrained k.rules (cell_at k.design i.cell).name && list_any at_port i.ports

  abbrev at_whole : Whole → Bool
  at_whole w = list_any (λ (p : WholePin). p.observed && p.net.0 == n) w.inputs

  abbrev gates : Bool
  gates = list_any at_gate k.circuit.devices

  abbrev holds : Bool
  holds = list_any at_hold k.circuit.holds

  abbrev outputs : Bool
  outputs = list_any at_output (ports_of k)

  abbrev instances : Bool
  instances = list_any at_instance k.circuit.instances

  abbrev wholes : Bool
  wholes = list_any at_whole k.circuit.wholes

  by_gate : gates ≡ true → is_observed k phase n ≡ true
  unfolding is_observed
  by_gate e = or_left (((gates || holds) || outputs) || instances) wholes (or_left ((gates || holds) || outputs) instances (or_left (gates || holds) outputs (or_left gates holds e)))

  module _ (ready : IsReady k) where
    below : (m : ℕ) → (m == n) ≡ true → m < length k.circuit.nets → n < length k.circuit.nets
    below m e lt = subst (λ (x : ℕ). x < length k.circuit.nets) (eqb-true m n e) lt

    gate_below : gates ≡ true → n < length k.circuit.nets
    gate_below e =
        let d = any_among at_gate k.circuit.devices e in below d.0.gate.0 d.2 (all_among (IsDevice k.circuit) k.circuit.devices d.0 ready.circuit.devices d.1).gate

    hold_below : holds ≡ true → n < length k.circuit.nets
    hold_below e =
        let h = any_among at_hold k.circuit.holds e in below h.0.net.0 h.2 (all_among (IsHold k.circuit) k.circuit.holds h.0 ready.circuit.holds h.1).net

    output_below : outputs ≡ true → n < length k.circuit.nets
    output_below e =
        let p = any_among at_output (ports_of k) e in
        let names = (cell_at k.design k.cell).ports in
        let test = and_parts (p.0.net == n && is_some (output_signal p.0.role)) (is_observed_port k.rules (cell_at k.design k.cell).name p.0.name phase) p.2 in
        let here = and_parts (p.0.net == n) (is_some (output_signal p.0.role)) test.0 in
        below p.0.net here.0
        (all_among (λ net. net < length k.circuit.nets) (port_nets k.rules names) p.0.net ready.ports
        (p.1.0, net_is 0 names (port_nets k.rules names) k.pairing.ports p.1.0 p.0 p.1.1))

    instance_below : instances ≡ true → n < length k.circuit.nets
    instance_below e =
        let i = any_among at_instance k.circuit.instances e in
        let test = and_parts (is_constrained k.rules (cell_at k.design i.0.cell).name) (list_any at_port i.0.ports) i.2 in
        let m = any_among at_port i.0.ports test.1 in
        below m.0.0 m.2
        (all_among (IsNet k.circuit) i.0.ports m.0 (all_among (λ (x : FlatInstance). All (IsNet k.circuit) x.ports) k.circuit.instances i.0 ready.circuit.instances i.1) m.1)

    pin_below : (w : Whole) (p : WholePin) → Among k.circuit.wholes w → Among w.inputs p → IsNet k.circuit p.net
    pin_below w p m i =
        (all_among (λ (x : WholePin). IsNet k.circuit x.net × (x.signal < length w.model.signals) × IsDrive k.circuit x.drive) w.inputs p
        (all_among (IsWhole k.circuit) k.circuit.wholes w ready.circuit.wholes m).inputs i).0

    whole_below : wholes ≡ true → n < length k.circuit.nets
    whole_below e =
        let w = any_among at_whole k.circuit.wholes e in
        let p = any_among (λ (x : WholePin). x.observed && x.net.0 == n) w.0.inputs w.2 in
        below p.0.net.0 (and_parts p.0.observed (p.0.net.0 == n) p.2).1 (pin_below w.0 p.0 w.1 p.1)

    seen_below : is_observed k phase n ≡ true → n < length k.circuit.nets
    unfolding is_observed
    seen_below e =
        elim (or_cases (((gates || holds) || outputs) || instances) wholes e) [
          | inr w ↦ whole_below w
          | inl a ↦ elim (or_cases ((gates || holds) || outputs) instances a) [
            | inr i ↦ instance_below i
            | inl b ↦ elim (or_cases (gates || holds) outputs b) [
              | inr o ↦ output_below o
              | inl c ↦ elim (or_cases gates holds c) [ inl g ↦ gate_below g | inr h ↦ hold_below h ]
            ]
          ]
        ]

gate_seen : (k : Comparison) (phase : ℕ) (d : Device) → Among k.circuit.devices d → is_observed k phase d.gate.0 ≡ true
gate_seen k phase d m =
    by_gate k phase d.gate.0 (among_any (at_gate k phase d.gate.0) k.circuit.devices d m (eq-eqb d.gate.0 d.gate.0 refl))

-- the gates are observed, those of keepers too, and nets of the circuit alone are
pub observed_nets : (k : Comparison) (phase : ℕ) → IsReady k → AreKeptObserved k.circuit (is_observed k phase)
observed_nets k phase ready = (
  record {
    gates = λ d m. gate_seen k phase d (device_among true k.circuit d m).0;
    nets = λ n e. seen_below k phase n ready e;
  },
  λ d m. gate_seen k phase d m,
)
