-- A fault in a circuit of a chain, and the same place of the flat circuit.
use Rattle.std.proofs.Common.{◌≡◌, ℕ, List, [], Option, sym, refl, ◌∙◌, ap}
use Rattle.std.specs.Prelude.{option_map, slice_get, unwrap_or}
use Rattle.checked_chain.proofs.InstanceLaws.{instances_move}
use Rattle.checked_chain.proofs.SettingLaws.{holds_of_chain, net_name_same, variables_are_same}
use Rattle.checked_chain.specs.Findings.{DescriptionsMove}
use Rattle.checked_chain.specs.Holds.{IsOfChain}
use Rattle.vrt_model.specs.Checked.{with_circuit}
use Rattle.vrt_model.specs.CheckedParts.{checked_instances}
use Rattle.vrt_model.specs.CheckedVerdicts.{IsSamePlace}
use Rattle.vrt_model.specs.Comparison.{Comparison}
use Rattle.vrt_model.specs.Cut.{Cut}
use Rattle.vrt_model.specs.Faults.{place_name}
use Rattle.vrt_model.specs.FlatCircuit.{flat_circuit_of, flat_instances}
use Rattle.vrt_model.specs.Held.{variable_names}
use Rattle.vrt_model.specs.Unrolled.{Top}
use Rattle.vrt_model.specs.declared.blif.Blif.{Blif}
use Rattle.vrt_model.specs.declared.circuit.Circuit.{Circuit}
use Rattle.vrt_model.specs.declared.circuit.FlatInstance.{FlatInstance}
use Rattle.vrt_model.specs.declared.verdict.FaultKind.{FaultKind}
use Rattle.vrt_model.specs.declared.verdict.FaultKind.TheVariants.{Fight, FightKept, Float, Unsettled, Constraint, Differs, Next, Apart, Enter}
use Rattle.vrt_model.specs.declared.whole.CellFacts.{CellFacts}

instances_of_flat : (t : Top) → (flat_circuit_of t).instances ≡ flat_instances t
unfolding flat_circuit_of
instances_of_flat t = refl

module _ (k : Comparison) (blif : Blif) (facts : List CellFacts) (cut : Cut) (c : Circuit) (is : IsOfChain k blif facts cut c) where
  instance_there : (at there : ℕ) → IsSamePlace cut Constraint at there → slice_get c.instances there ≡ slice_get k.circuit.instances at
  instance_there at there e =
      ap (λ (xs : List FlatInstance). slice_get xs there) is.circuit.instances
      ∙ ap (slice_get (checked_instances cut)) (sym e.1)
      ∙ instances_move cut at e.0
      ∙ ap (λ (xs : List FlatInstance). slice_get xs at) (sym (instances_of_flat cut.top))
      ∙ ap (λ (d : Circuit). slice_get d.instances at) (sym is.flat)

  net_there : (at there : ℕ) → at ≡ there → place_name (with_circuit k c) Fight there ≡ place_name k Fight at
  net_there at there e = net_name_same c k.circuit (holds_of_chain k blif facts cut c is) there ∙ ap (place_name k Fight) (sym e)

  place_there : (kind : FaultKind) (at there : ℕ) → IsSamePlace cut kind at there → place_name (with_circuit k c) kind there ≡ place_name k kind at
  place_there Fight at there e = net_there at there e
  place_there FightKept at there e = net_there at there e
  place_there Float at there e = net_there at there e
  place_there Unsettled at there e = net_there at there e
  place_there Next at there e = net_there at there e
  place_there Apart at there e = net_there at there e
  place_there Enter at there e = net_there at there e
  place_there Differs at there e = ap (place_name k Differs) (sym e)
  place_there Constraint at there e = ap (λ (o : Option FlatInstance). unwrap_or (option_map (λ (i : FlatInstance). i.path) o) []) (instance_there at there e)

pub descriptions_move : DescriptionsMove
descriptions_move k blif facts cut c is fault flat f same values d = record {
  kind = d.kind ∙ sym same.kind;
  phase = d.phase ∙ sym same.phase;
  place = d.place ∙ place_there k blif facts cut c is f.kind flat.at f.at same.place ∙ ap (λ (kind : FaultKind). place_name k kind flat.at) (sym same.kind);
  values = values;
  names = d.names ∙ variables_are_same k blif facts cut c is f.phase ∙ ap (variable_names k) (sym same.phase);
  bits = d.bits ∙ sym same.bits;
}
