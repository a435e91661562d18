-- The circuit that is put together is the flat circuit of the cell.
use Rattle.std.proofs.Common.{◌≡◌, ◌∷◌, ◌∙◌, ℕ, List, [], ap, length, sym, subst}
use Rattle.flat_sizes.proofs.PlaceLaws.{devices_counted, instances_counted, nets_counted}
use Rattle.flatten.proofs.FormLaws.{formed, is_flat}
use Rattle.flatten.specs.Circuits.{IsFlatCircuit}
use Rattle.flatten.specs.Structures.{IsStructured}
use Rattle.net_places.specs.Whole.{whole_of}
use Rattle.vrt_model.specs.Circuits.{IsCircuit, IsFlat}
use Rattle.vrt_model.specs.FlatCircuit.{flat_circuit_of, flat_devices, flat_holds, flat_instances, flat_nets}
use Rattle.vrt_model.specs.Unrolled.{Top}
use Rattle.vrt_model.specs.Inputs.{AreRules}
use Rattle.vrt_model.specs.Levels.{source_of}
use Rattle.vrt_model.specs.Unsupported.{Limit, circuit_limits, too_large, top_before}
use Rattle.vrt_model.specs.declared.circuit.Circuit.{Circuit}
use Rattle.vrt_model.specs.declared.circuit.Device.{Device}
use Rattle.vrt_model.specs.declared.circuit.FlatInstance.{FlatInstance}
use Rattle.vrt_model.specs.declared.circuit.FlatNet.{FlatNet}
use Rattle.vrt_model.specs.declared.circuit.Hold.{Hold}
use Rattle.vrt_model.specs.declared.design.Design.{Design}
use Rattle.vrt_model.specs.declared.pairing.Pairing.{Pairing}
use Rattle.vrt_model.specs.declared.pairing.PortRole.{PortRole}
use Rattle.vrt_model.specs.declared.rules.Rules.{Rules}
use Rattle.vrt_model.specs.declared.whole.Whole.{Whole}

same_circuit : (nets nets' : List FlatNet) (devices devices' : List Device) (holds holds' : List Hold) (instances instances' : List FlatInstance) (wholes wholes' : List Whole) (source source' : ℕ)
    → nets ≡ nets' → devices ≡ devices' → holds ≡ holds' → instances ≡ instances' → wholes ≡ wholes' → source ≡ source'
    → (let one : Circuit = record { nets = nets; devices = devices; holds = holds; instances = instances; wholes = wholes; source = source } in one)
    ≡ (let one : Circuit = record { nets = nets'; devices = devices'; holds = holds'; instances = instances'; wholes = wholes'; source = source' } in one)
same_circuit nets nets' devices devices' holds holds' instances instances' wholes wholes' source source' n d h i w s = cc

pub assembled : (t : Top) (nets : List FlatNet) (devices : List Device) (holds : List Hold) (instances : List FlatInstance) (wholes : List Whole) (source : ℕ)
    → nets ≡ flat_nets t → devices ≡ flat_devices t → holds ≡ flat_holds t → instances ≡ flat_instances t → wholes ≡ [] → source ≡ source_of t.rules
    → (let one : Circuit = record { nets = nets; devices = devices; holds = holds; instances = instances; wholes = wholes; source = source } in one) ≡ flat_circuit_of t
unfolding flat_circuit_of
assembled t nets devices holds instances wholes source n d h i w s = same_circuit _ _ _ _ _ _ _ _ _ _ _ _ n d h i w s

-- ---- the roles of ports count for no number

abbrev limits : ℕ → ℕ → ℕ → List Limit
limits nets devices instances =
    record { count = nets; limit = 20000 } ∷ record { count = devices; limit = 40000 } ∷ record { count = instances; limit = 40000 } ∷ []

module _ (design : Design) (rules : Rules) (cell : ℕ) (roles : List PortRole) where
  abbrev with_roles : Top
  with_roles = whole_of design rules cell roles

  abbrev before : Top
  before = top_before design rules cell

  pub same_nets : length (flat_nets with_roles) ≡ length (flat_nets before)
  same_nets = nets_counted with_roles ∙ sym (nets_counted before)

  same_limits : too_large (circuit_limits with_roles) ≡ too_large (circuit_limits before)
  same_limits =
      ap (λ (n : ℕ). too_large (limits n (length (flat_devices with_roles)) (length (flat_instances with_roles)))) same_nets
      ∙ ap (λ (n : ℕ). too_large (limits (length (flat_nets before)) n (length (flat_instances with_roles)))) (devices_counted with_roles ∙ sym (devices_counted before))
      ∙ ap (λ (n : ℕ). too_large (limits (length (flat_nets before)) (length (flat_devices before)) n)) (instances_counted with_roles ∙ sym (instances_counted before))

-- where nothing stands in the way
pub made : (design : Design) (rules : Rules) (cell : ℕ) (pairing : Pairing) (circuit : Circuit) → AreRules rules → IsStructured (top_before design rules cell)
    → circuit ≡ flat_circuit_of (whole_of design rules cell pairing.ports) → IsFlatCircuit design rules cell pairing circuit
made design rules cell pairing circuit ruled structured is =
    let t = whole_of design rules cell pairing.ports in
    let small = same_limits design rules cell pairing.ports ∙ structured.small in
    record { is = is; formed = subst IsCircuit (sym is) (formed t ruled small); flat = subst IsFlat (sym is) (is_flat t ruled small); structured = structured }
