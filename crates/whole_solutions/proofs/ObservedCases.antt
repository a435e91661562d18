-- The five causes for which a net is observed.
use Rattle.std.proofs.Common.{◌≡◌, ◌⊎◌, ℕ, ◌&&◌, ◌||◌, Bool, true, eqb, inl, inr}
use Rattle.std.specs.Prelude.{is_some}
use Rattle.std.specs.List.{list_any}
use Rattle.std.proofs.lemmas.Bool.{and_from, and_parts, eq-eqb, eqb-true, or_cases, or_left, or_right}
use Rattle.vrt_model.proofs.Members.{among_any, any_among}
use Rattle.vrt_model.specs.CellRules.{is_constrained, is_observed_port}
use Rattle.vrt_model.specs.Comparison.{CellPort, Comparison, cell_at, is_observed, output_signal, ports_of}
use Rattle.vrt_model.specs.Lists.{Among}
use Rattle.vrt_model.specs.declared.circuit.Device.{Device}
use Rattle.vrt_model.specs.declared.circuit.FlatInstance.{FlatInstance}
use Rattle.vrt_model.specs.declared.circuit.Hold.{Hold}
use Rattle.vrt_model.specs.declared.ids.Net.{Net}
use Rattle.vrt_model.specs.declared.whole.Whole.{Whole}
use Rattle.vrt_model.specs.declared.whole.WholePin.{WholePin}

-- the net is the gate of a device
abbrev pub IsGate : Comparison → ℕ → Type 0
IsGate k n = (d : Device) × Among k.circuit.devices d × (d.gate.0 ≡ n)

-- a hold is there
abbrev pub IsAtHold : Comparison → ℕ → Type 0
IsAtHold k n = (h : Hold) × Among k.circuit.holds h × (h.net.0 ≡ n)

-- an output port that is observed in the phase is there
abbrev pub IsAtOutput : Comparison → ℕ → ℕ → Type 0
IsAtOutput k phase n =
    (p : CellPort) × Among (ports_of k) p × (p.net ≡ n) × (is_some (output_signal p.role) ≡ true)
    × (is_observed_port k.rules (cell_at k.design k.cell).name p.name phase ≡ true)

-- a port of an instance of a cell with constraints is there
abbrev pub IsAtInstance : Comparison → ℕ → Type 0
IsAtInstance k n =
    (i : FlatInstance) × (m : Net) × Among k.circuit.instances i × Among i.ports m × (m.0 ≡ n) × (is_constrained k.rules (cell_at k.design i.cell).name ≡ true)

-- an input of a whole instance that is observed inside is there
abbrev pub IsAtWhole : Comparison → ℕ → Type 0
IsAtWhole k n =
    (w : Whole) × (p : WholePin) × Among k.circuit.wholes w × Among w.inputs p × (p.observed ≡ true) × (p.net.0 ≡ n)

-- one of these
abbrev pub IsObservedFor : Comparison → ℕ → ℕ → Type 0
IsObservedFor k phase n = IsGate k n ⊎ (IsAtHold k n ⊎ (IsAtOutput k phase n ⊎ (IsAtInstance k n ⊎ IsAtWhole k n)))

module _ (k : Comparison) (phase n : ℕ) where
  abbrev at_gate : Device → Bool
  at_gate d = eqb d.gate.0 n

  abbrev at_hold : Hold → Bool
  at_hold h = eqb h.net.0 n

  abbrev at_output : CellPort → Bool
  at_output p = eqb p.net n && is_some (output_signal p.role) && is_observed_port k.rules (cell_at k.design k.cell).name p.name phase

  abbrev at_port : Net → Bool
  at_port m = eqb m.0 n

  abbrev at_instance : FlatInstance → Bool
  at_instance i = is_constrained k.rules (cell_at k.design i.cell).name && list_any at_port i.ports

  abbrev at_pin : WholePin → Bool
  at_pin p = p.observed && eqb p.net.0 n

  abbrev at_whole : Whole → Bool
  at_whole w = list_any at_pin w.inputs

  abbrev gates : Bool
  gates = list_any at_gate k.circuit.devices

  abbrev holds : Bool
  holds = list_any at_hold k.circuit.holds

  abbrev outputs : Bool
  outputs = list_any at_output (ports_of k)

  abbrev instances : Bool
  instances = list_any at_instance k.circuit.instances

  abbrev wholes : Bool
  wholes = list_any at_whole k.circuit.wholes

  gate_of : gates ≡ true → IsGate k n
  gate_of e = let d = any_among at_gate k.circuit.devices e in (d.0, d.1, eqb-true d.0.gate.0 n d.2)

  hold_of : holds ≡ true → IsAtHold k n
  hold_of e = let h = any_among at_hold k.circuit.holds e in (h.0, h.1, eqb-true h.0.net.0 n h.2)

  output_of : outputs ≡ true → IsAtOutput k phase n
  output_of e =
      let p = any_among at_output (ports_of k) e in
      let seen : Bool = is_observed_port k.rules (cell_at k.design k.cell).name p.0.name phase in
      let both = and_parts (eqb p.0.net n && is_some (output_signal p.0.role)) seen p.2 in
      let here = and_parts (eqb p.0.net n) (is_some (output_signal p.0.role)) both.0 in
      (p.0, p.1, eqb-true p.0.net n here.0, here.1, both.1)

  instance_of : instances ≡ true → IsAtInstance k n
  instance_of e =
      let i = any_among at_instance k.circuit.instances e in
      let both = and_parts (is_constrained k.rules (cell_at k.design i.0.cell).name) (list_any at_port i.0.ports) i.2 in
      let m = any_among at_port i.0.ports both.1 in
      (i.0, m.0, i.1, m.1, eqb-true m.0.0 n m.2, both.0)

  whole_of : wholes ≡ true → IsAtWhole k n
  whole_of e =
      let w = any_among at_whole k.circuit.wholes e in
      let p = any_among at_pin w.0.inputs w.2 in
      let both = and_parts p.0.observed (eqb p.0.net.0 n) p.2 in
      (w.0, p.0, w.1, p.1, both.0, eqb-true p.0.net.0 n both.1)

  pub observed_for : is_observed k phase n ≡ true → IsObservedFor k phase n
  unfolding is_observed
  observed_for e =
      elim (or_cases (((gates || holds) || outputs) || instances) wholes e) [
        | inr w ↦ inr (inr (inr (inr (whole_of w))))
        | inl e4 ↦ elim (or_cases ((gates || holds) || outputs) instances e4) [
          | inr i ↦ inr (inr (inr (inl (instance_of i))))
          | inl e3 ↦ elim (or_cases (gates || holds) outputs e3) [
            | inr o ↦ inr (inr (inl (output_of o)))
            | inl e2 ↦ elim (or_cases gates holds e2) [ inl g ↦ inl (gate_of g) | inr h ↦ inr (inl (hold_of h)) ]
          ]
        ]
      ]

  -- the tests in a row
  by_instances : (((gates || holds) || outputs) || instances) ≡ true → is_observed k phase n ≡ true
  unfolding is_observed
  by_instances e = or_left (((gates || holds) || outputs) || instances) wholes e

  by_outputs : ((gates || holds) || outputs) ≡ true → is_observed k phase n ≡ true
  by_outputs e = by_instances (or_left ((gates || holds) || outputs) instances e)

  by_wholes : wholes ≡ true → is_observed k phase n ≡ true
  unfolding is_observed
  by_wholes e = or_right (((gates || holds) || outputs) || instances) wholes e

  pub gate_observed : IsGate k n → is_observed k phase n ≡ true
  gate_observed (d, a, e) = by_outputs (or_left (gates || holds) outputs (or_left gates holds (among_any at_gate k.circuit.devices d a (eq-eqb d.gate.0 n e))))

  pub hold_observed : IsAtHold k n → is_observed k phase n ≡ true
  hold_observed (h, a, e) = by_outputs (or_left (gates || holds) outputs (or_right gates holds (among_any at_hold k.circuit.holds h a (eq-eqb h.net.0 n e))))

  pub port_observed : IsAtOutput k phase n → is_observed k phase n ≡ true
  port_observed (p, a, e, out, seen) =
      by_outputs (or_right (gates || holds) outputs (among_any at_output (ports_of k) p a
      (and_from (eqb p.net n && is_some (output_signal p.role)) (is_observed_port k.rules (cell_at k.design k.cell).name p.name phase)
      (and_from (eqb p.net n) (is_some (output_signal p.role)) (eq-eqb p.net n e) out) seen)))

  pub instance_observed : IsAtInstance k n → is_observed k phase n ≡ true
  instance_observed (i, m, a, b, e, t) =
      by_instances (or_right ((gates || holds) || outputs) instances (among_any at_instance k.circuit.instances i a
      (and_from (is_constrained k.rules (cell_at k.design i.cell).name) (list_any at_port i.ports) t (among_any at_port i.ports m b (eq-eqb m.0 n e)))))

  pub pin_observed : IsAtWhole k n → is_observed k phase n ≡ true
  pin_observed (w, p, a, b, seen, e) =
      by_wholes (among_any at_whole k.circuit.wholes w a (among_any at_pin w.inputs p b (and_from p.observed (eqb p.net.0 n) seen (eq-eqb p.net.0 n e))))
