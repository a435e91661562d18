-- What the definitions compute where an instance is left whole.
use Rattle.std.specs.Prelude.{◌≡◌, ℕ, zero, suc, Bool, true, false, List, [], ◌∷◌, map, codes, refl}
use Rattle.model_laws.specs.Cells.{buf_cell, instance, inv_cell, inv_model}
use Rattle.vrt_model.proofs.Cells.{base, cover, design_of, gnd, model_of, n_device, p_device, vdd}
use Rattle.vrt_model.specs.Checked.{circuit_with, is_cell_allowed, top_of}
use Rattle.vrt_model.specs.CheckedParts.{checked_devices, checked_instances}
use Rattle.vrt_model.specs.Comparison.{Comparison, is_observed}
use Rattle.vrt_model.specs.Cut.{Cut, NumberedPlace, whole_places}
use Rattle.vrt_model.specs.FlatBlif.{all_models, flat_model_of, network_names, signals_of, unrolled_of}
use Rattle.vrt_model.specs.FlatCircuit.{flat_circuit_of}
use Rattle.vrt_model.specs.Groups.{groups_of}
use Rattle.vrt_model.specs.PairedPorts.{pairing_of}
use Rattle.vrt_model.specs.Unrolled.{Top, all_places, global_nets, net_at, own_nets}
use Rattle.vrt_model.specs.Unsupported.{comparison_of}
use Rattle.vrt_model.specs.WholeInstances.{OutputAt, all_outputs, input_pins, meets_gates_only}
use Rattle.vrt_model.specs.declared.blif.Blif.{Blif}
use Rattle.vrt_model.specs.declared.circuit.Device.{Device}
use Rattle.vrt_model.specs.declared.circuit.FlatInstance.{FlatInstance}
use Rattle.vrt_model.specs.declared.circuit.FlatNet.{FlatNet}
use Rattle.vrt_model.specs.declared.design.Design.{Design}
use Rattle.vrt_model.specs.declared.whole.CellFacts.{CellFacts}
use Rattle.vrt_model.specs.declared.whole.Drive.TheVariants.{Soft, Level}

-- a buffer in front of a device
abbrev design : Design
design = design_of (inv_cell ∷ buf_cell ∷ record {
  line = 10;
  name = codes "ord";
  ports = codes "a" ∷ codes "b" ∷ codes "y" ∷ codes "z" ∷ [];
  devices =
      p_device (codes "m1") (codes "y") (codes "p") vdd ∷ p_device (codes "m2") (codes "k") (codes "b") vdd ∷ n_device (codes "m3") (codes "k") (codes "b") gnd
      ∷ p_device (codes "m4") (codes "z") (codes "k") vdd ∷ [];
  instances = instance (codes "x1") (codes "a" ∷ codes "p" ∷ []) (codes "buf") ∷ [];
} ∷ [])

abbrev blif : Blif
blif = record {
  models =
      inv_model
      ∷ model_of (codes "buf") (codes "a" ∷ []) (codes "y" ∷ []) (cover (codes "a" ∷ []) (codes "y") true (codes "1" ∷ []) ∷ []) [] []
      ∷ model_of (codes "ord") (codes "a" ∷ codes "b" ∷ []) (codes "y" ∷ codes "z" ∷ []) [] [] [] ∷ [];
}

abbrev facts : List CellFacts
facts =
    record { equal = true; stateless = true; drives = Level 6 ∷ [] } ∷ record { equal = true; stateless = true; drives = Level 6 ∷ [] }
    ∷ record { equal = false; stateless = false; drives = [] } ∷ []

abbrev ord : Comparison
ord = comparison_of design blif base 2 2

abbrev top : Top
top = top_of ord

-- the first instance is left whole
abbrev choice : ℕ → Bool
choice zero = true
choice (suc n) = false

abbrev cut : Cut
cut = record { top = top; choice = choice }

flat_net_names : map (λ (n : FlatNet). n.name) ord.circuit.nets
    ≡ codes "gnd" ∷ codes "vdd" ∷ codes "a" ∷ codes "b" ∷ codes "y" ∷ codes "z" ∷ codes "p" ∷ codes "k" ∷ codes "x1/m" ∷ []
unfolding flat_circuit_of all_places net_at own_nets global_nets flat_model_of unrolled_of network_names all_models signals_of pairing_of
flat_net_names = refl

-- the net inside the buffer stays in the list
checked_net_names : map (λ (n : FlatNet). n.name) (circuit_with cut blif facts).nets
    ≡ codes "gnd" ∷ codes "vdd" ∷ codes "a" ∷ codes "b" ∷ codes "y" ∷ codes "z" ∷ codes "p" ∷ codes "k" ∷ codes "x1/m" ∷ []
unfolding circuit_with flat_circuit_of all_places net_at own_nets global_nets flat_model_of unrolled_of network_names all_models signals_of pairing_of
checked_net_names = refl

checked_device_names : map (λ (d : Device). d.name) (checked_devices cut) ≡ codes "m1" ∷ codes "m2" ∷ codes "m3" ∷ codes "m4" ∷ []
unfolding flat_circuit_of all_places net_at own_nets global_nets flat_model_of unrolled_of network_names all_models signals_of pairing_of
checked_device_names = refl

checked_paths : map (λ (i : FlatInstance). i.path) (checked_instances cut) ≡ codes "x1" ∷ []
unfolding flat_circuit_of all_places net_at own_nets global_nets flat_model_of unrolled_of network_names all_models signals_of pairing_of
checked_paths = refl

-- the buffer's cell allows it, its input is observed inside, and its output meets gates alone
buffer_allowed : is_cell_allowed top facts (comparison_of design blif base 1 1) ≡ true
unfolding flat_circuit_of all_places net_at own_nets global_nets flat_model_of unrolled_of network_names all_models signals_of pairing_of groups_of
buffer_allowed = refl

buffer_outputs : map (λ (o : OutputAt). o.pin) (all_outputs cut blif facts) ≡ record { net = record { 0 = 6 }; signal = 1; drive = Level 6; observed = false } ∷ []
unfolding flat_circuit_of all_places net_at own_nets global_nets flat_model_of unrolled_of network_names all_models signals_of pairing_of groups_of
buffer_outputs = refl

buffer_meets_gates : map (meets_gates_only (checked_devices cut) (all_outputs cut blif facts)) (all_outputs cut blif facts) ≡ true ∷ []
unfolding flat_circuit_of all_places net_at own_nets global_nets flat_model_of unrolled_of network_names all_models signals_of pairing_of groups_of
buffer_meets_gates = refl

buffer_inputs : map (λ (p : NumberedPlace). input_pins (comparison_of design blif base 1 1) p.at) (whole_places cut)
    ≡ (record { net = record { 0 = 2 }; signal = 0; drive = Soft; observed = true } ∷ []) ∷ []
unfolding flat_circuit_of all_places net_at own_nets global_nets flat_model_of unrolled_of network_names all_models signals_of pairing_of groups_of is_observed
buffer_inputs = refl
