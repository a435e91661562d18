-- The premises of a step down hold where an instance is left whole over the same nets.
use Rattle.std.proofs.Common.{◌≡◌, ℕ, Bool, true, subst, sym, refl, ◌∙◌, inl, inr}
use Rattle.firm_faults.specs.StepParts.{IsReplacedOver, ReplacedInstancesStepDown}
use Rattle.vrt_model.proofs.Filtered.{device_among}
use Rattle.vrt_model.specs.Checked.{with_circuit}
use Rattle.vrt_model.specs.Comparison.{Comparison, is_observed}
use Rattle.vrt_model.specs.declared.circuit.Circuit.{Circuit}
use Rattle.whole_solutions.proofs.ObservedCases.{gate_observed, observed_for}
use Rattle.whole_solutions.proofs.ObservedLaws.{whole_observes_no_more}

-- each net that is observed with the cell whole remains
observed_remain : (k q : Comparison) (phase : ℕ) (whole_circuit : Circuit) (at place fresh : ℕ → ℕ) (remaining compared exposed : ℕ → Bool) (drive : ℕ → ℕ)
    → IsReplacedOver k q phase whole_circuit at place fresh remaining compared exposed drive → (n : ℕ) → is_observed (with_circuit k whole_circuit) phase n ≡ true → remaining n ≡ true
observed_remain k q phase whole_circuit at place fresh remaining compared exposed drive p n seen =
    elim (observed_for (with_circuit k whole_circuit) phase n seen) [
      | inl gate ↦ (let back = p.whole.devices_back gate.0 gate.1 in remains back.0.gate.0 (sym back.2.image.gate ∙ gate.2) back.2.gate)
      | inr other ↦ elim other [
        | inl hold ↦ (let back = p.whole.holds_back hold.1.0 hold.0 hold.1.1 in remains back.0.net.0 (sym back.2.net ∙ hold.2) back.2.stays)
        | inr more ↦ elim more [
          | inl port ↦ remains port.0.net port.2 (p.hides.ports port.0 port.1)
          | inr last ↦ elim last [
            | inl tied ↦ remains tied.1.0 tied.4 (p.hides.instance_ports tied.0 tied.1 tied.2 tied.3)
            | inr pin ↦ remains pin.1.net.0 pin.5 (p.hides.pins pin.0 pin.1 pin.2 pin.3)
          ]
        ]
      ]
    ]
  where
    remains : (m : ℕ) → m ≡ n → remaining m ≡ true → remaining n ≡ true
    remains m e = subst (λ (y : ℕ). remaining y ≡ true) e

pub replaced_instances_step_down : ReplacedInstancesStepDown
replaced_instances_step_down k q phase setting whole_circuit at place fresh remaining compared exposed drive x i p wholes one = record {
  ranges = p.ranges;
  whole_ranges = p.whole_ranges;
  pins_plain = p.pins_plain;
  nets = p.nets;
  placed = p.placed;
  whole = p.whole;
  wholes = wholes;
  hidden = p.hides.hidden;
  outputs = λ m plain rem. (p.hides.outputs m plain rem, one.outputs m plain rem);
  unknown = p.unknown;
  alone = p.alone;
  seen = λ n seen. (
    observed_remain k q phase whole_circuit at place fresh remaining compared exposed drive p n seen,
    whole_observes_no_more k q phase whole_circuit at place fresh remaining compared exposed drive p.design p.rules p.output_ports p.placed p.whole p.instances n seen,
  );
  gates = λ d m. gate_observed k phase d.gate.0 (d, (device_among true k.circuit d m).0, refl);
  instances = p.instances.instances_back;
  instance = one.instance;
  links = one.links;
  output_links = one.output_links;
  clocks = one.clocks;
  inner = one.inner;
}
