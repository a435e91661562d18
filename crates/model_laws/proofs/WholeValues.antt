-- Values: numbers and drives where some instances are left whole.
use Rattle.std.specs.Prelude.{◌≡◌, ℕ, zero, suc, Bool, true, false, List, [], ◌∷◌, map, codes, refl}
use Rattle.model_laws.specs.Cells.{instance}
use Rattle.vrt_model.proofs.Cells.{base, cover, design_of, gnd, model_of, n_device, p_device, vdd}
use Rattle.vrt_model.specs.Checked.{top_of}
use Rattle.vrt_model.specs.CheckedParts.{checked_devices, checked_instances}
use Rattle.vrt_model.specs.Cut.{Cut, NumberedPlace, whole_places}
use Rattle.vrt_model.specs.FlatBlif.{all_models, flat_model_of, network_names, signals_of, unrolled_of}
use Rattle.vrt_model.specs.FlatCircuit.{flat_circuit_of, flat_nets}
use Rattle.vrt_model.specs.Groups.{groups_of}
use Rattle.vrt_model.specs.PairedPorts.{pairing_of}
use Rattle.vrt_model.specs.Unrolled.{Top, all_places, global_nets, net_at, own_nets}
use Rattle.vrt_model.specs.Unsupported.{comparison_of}
use Rattle.vrt_model.specs.WholeInstances.{OutputAt, all_outputs, is_output_allowed, settled_drive}
use Rattle.vrt_model.specs.declared.blif.Blif.{Blif}
use Rattle.vrt_model.specs.declared.circuit.Device.{Device}
use Rattle.vrt_model.specs.declared.circuit.FlatInstance.{FlatInstance}
use Rattle.vrt_model.specs.declared.circuit.FlatNet.{FlatNet}
use Rattle.vrt_model.specs.declared.design.Cell.{Cell}
use Rattle.vrt_model.specs.declared.design.Design.{Design}
use Rattle.vrt_model.specs.declared.whole.CellFacts.{CellFacts}
use Rattle.vrt_model.specs.declared.whole.Drive.TheVariants.{Soft, Level}

-- an inverter with an own net
abbrev w : Cell
w = record { line = 2; name = codes "w"; ports = codes "a" ∷ codes "vdd" ∷ codes "y" ∷ []; devices = p_device (codes "m1") (codes "y") (codes "a") (codes "n") ∷ p_device (codes "m2") (codes "n") gnd vdd ∷ n_device (codes "m3") (codes "y") (codes "a") gnd ∷ []; instances = [] }

abbrev two : Cell
two = record { line = 8; name = codes "two"; ports = codes "a" ∷ codes "y" ∷ []; devices = []; instances = instance (codes "xi0") (codes "a" ∷ vdd ∷ codes "m" ∷ []) (codes "w") ∷ instance (codes "xi1") (codes "m" ∷ vdd ∷ codes "y" ∷ []) (codes "w") ∷ [] }

abbrev top_cell : Cell
top_cell = record {
  line = 14;
  name = codes "top";
  ports = codes "a" ∷ codes "y" ∷ [];
  devices = n_device (codes "m1") (codes "q") (codes "a") (codes "y") ∷ [];
  instances = instance (codes "x1") (codes "a" ∷ codes "p" ∷ []) (codes "two") ∷ instance (codes "x2") (codes "p" ∷ codes "q" ∷ []) (codes "two") ∷ instance (codes "x3") (codes "a" ∷ codes "q" ∷ []) (codes "two") ∷ [];
}

abbrev design : Design
design = design_of (w ∷ two ∷ top_cell ∷ [])

abbrev blif : Blif
blif = record {
  models =
      model_of (codes "w") (codes "a" ∷ []) (codes "y" ∷ []) (cover (codes "a" ∷ []) (codes "y") true (codes "0" ∷ []) ∷ []) [] []
      ∷ model_of (codes "two") (codes "a" ∷ []) (codes "y" ∷ []) (cover (codes "a" ∷ []) (codes "y") true (codes "1" ∷ []) ∷ []) [] []
      ∷ model_of (codes "top") (codes "a" ∷ []) (codes "y" ∷ []) [] [] [] ∷ [];
}

abbrev facts : List CellFacts
facts = record { equal = true; stateless = true; drives = Level 6 ∷ [] } ∷ record { equal = true; stateless = true; drives = Level 6 ∷ [] } ∷ record { equal = false; stateless = false; drives = [] } ∷ []

abbrev top : Top
top = top_of (comparison_of design blif base 2 2)

-- instances: 0 x1, 1 x1/xi0, 2 x1/xi1, 3 x2, 4 x2/xi0, 5 x2/xi1, 6 x3, 7 x3/xi0, 8 x3/xi1; x1 whole, x2 inlined with xi1 whole, x3 whole
abbrev choice : ℕ → Bool
choice zero = true
choice (suc zero) = false
choice (suc (suc zero)) = false
choice (suc (suc (suc zero))) = false
choice (suc (suc (suc (suc zero)))) = false
choice (suc (suc (suc (suc (suc zero))))) = true
choice (suc (suc (suc (suc (suc (suc zero)))))) = true
choice (suc (suc (suc (suc (suc (suc (suc n))))))) = false

abbrev cut : Cut
cut = record { top = top; choice = choice }

nets : map (λ (n : FlatNet). n.name) (flat_nets top) ≡ codes "gnd" ∷ codes "vdd" ∷ codes "a" ∷ codes "y" ∷ codes "q" ∷ codes "p" ∷ codes "x1/m" ∷ codes "x1/xi0/n" ∷ codes "x1/xi1/n" ∷ codes "x2/m" ∷ codes "x2/xi0/n" ∷ codes "x2/xi1/n" ∷ codes "x3/m" ∷ codes "x3/xi0/n" ∷ codes "x3/xi1/n" ∷ []
unfolding flat_circuit_of all_places net_at own_nets global_nets flat_model_of unrolled_of network_names all_models signals_of pairing_of
nets = refl

devices : map (λ (d : Device). d.left.0 ∷ d.gate.0 ∷ d.right.0 ∷ []) (checked_devices cut) ≡ (4 ∷ 2 ∷ 3 ∷ []) ∷ (9 ∷ 5 ∷ 10 ∷ []) ∷ (10 ∷ 0 ∷ 1 ∷ []) ∷ (9 ∷ 5 ∷ 0 ∷ []) ∷ []
unfolding flat_circuit_of all_places net_at own_nets global_nets flat_model_of unrolled_of network_names all_models signals_of pairing_of
devices = refl

instances : map (λ (i : FlatInstance). i.path) (checked_instances cut) ≡ codes "x1" ∷ codes "x2" ∷ codes "x2/xi0" ∷ codes "x2/xi1" ∷ codes "x3" ∷ []
unfolding flat_circuit_of all_places net_at own_nets global_nets flat_model_of unrolled_of network_names all_models signals_of pairing_of
instances = refl

wholes : map (λ (p : NumberedPlace). p.number) (whole_places cut) ≡ 1 ∷ 6 ∷ 7 ∷ []
unfolding flat_circuit_of all_places net_at own_nets global_nets flat_model_of unrolled_of network_names all_models signals_of pairing_of
wholes = refl

outs : map (λ (o : OutputAt). settled_drive (checked_devices cut) (all_outputs cut blif facts) o) (all_outputs cut blif facts)
    ≡ record { net = record { 0 = 5 }; signal = 1; drive = Soft; observed = false } ∷ record { net = record { 0 = 4 }; signal = 1; drive = Level 6; observed = false } ∷ record { net = record { 0 = 4 }; signal = 1; drive = Level 6; observed = false } ∷ []
unfolding flat_circuit_of all_places net_at own_nets global_nets flat_model_of unrolled_of network_names all_models signals_of pairing_of groups_of
outs = refl

allowed : map (is_output_allowed (checked_devices cut) (all_outputs cut blif facts)) (all_outputs cut blif facts) ≡ true ∷ true ∷ true ∷ []
unfolding flat_circuit_of all_places net_at own_nets global_nets flat_model_of unrolled_of network_names all_models signals_of pairing_of groups_of
allowed = refl
