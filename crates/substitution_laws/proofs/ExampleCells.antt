-- A buffer of two inverters, the first of which is an instance that is left whole: its netlist, its models, what is told of the inverter,
-- and the circuits, worked out.
use Rattle.std.proofs.Common.{◌≡◌, ℕ, true, false, List, [], ◌∷◌, refl}
use Rattle.std.specs.Prelude.{codes}
use Rattle.vrt_model.proofs.Cells.{base, cover, design_of, gnd, model_of, n_device, p_device, vdd}
use Rattle.vrt_model.specs.Checked.{circuit_with}
use Rattle.vrt_model.specs.Comparison.{Comparison, is_observed}
use Rattle.vrt_model.specs.Cut.{Cut}
use Rattle.vrt_model.specs.FlatBlif.{all_models, flat_model_of, signals_of, network_names, unrolled_of}
use Rattle.vrt_model.specs.FlatCircuit.{flat_circuit_of}
use Rattle.vrt_model.specs.Groups.{groups_of}
use Rattle.vrt_model.specs.PairedPorts.{pairing_of}
use Rattle.vrt_model.specs.Unrolled.{all_places, global_nets, net_at, own_nets}
use Rattle.vrt_model.specs.Unsupported.{comparison_of}
use Rattle.vrt_model.specs.declared.blif.Blif.{Blif}
use Rattle.vrt_model.specs.declared.circuit.Circuit.{Circuit}
use Rattle.vrt_model.specs.declared.circuit.Device.{Device}
use Rattle.vrt_model.specs.declared.circuit.FlatInstance.{FlatInstance}
use Rattle.vrt_model.specs.declared.circuit.FlatNet.{FlatNet}
use Rattle.vrt_model.specs.declared.circuit.NetKind.{NetKind}
use Rattle.vrt_model.specs.declared.circuit.NetKind.TheVariants.{Input as InputNet, Plain, Supply}
use Rattle.vrt_model.specs.declared.design.Design.{Design}
use Rattle.vrt_model.specs.declared.design.Kind.{Kind}
use Rattle.vrt_model.specs.declared.design.Kind.TheVariants.{N, P}
use Rattle.vrt_model.specs.declared.flat_model.FlatModel.{FlatModel}
use Rattle.vrt_model.specs.declared.pairing.PortRole.{PortRole}
use Rattle.vrt_model.specs.declared.pairing.PortRole.TheVariants.{Input, Output}
use Rattle.vrt_model.specs.declared.whole.CellFacts.{CellFacts}
use Rattle.vrt_model.specs.declared.whole.Drive.TheVariants.{Soft}
use Rattle.vrt_model.specs.declared.whole.Link.{Link}
use Rattle.vrt_model.specs.declared.whole.Whole.{Whole}

-- ---- the texts

abbrev pub design : Design
design =
    design_of (record {
      line = 1;
      name = codes "i";
      ports = codes "a" ∷ codes "y" ∷ [];
      devices = p_device (codes "p") (codes "y") (codes "a") vdd ∷ n_device (codes "n") (codes "y") (codes "a") gnd ∷ [];
      instances = [];
    } ∷ record {
      line = 2;
      name = codes "b";
      ports = codes "a" ∷ codes "y" ∷ [];
      devices = p_device (codes "p") (codes "y") (codes "m") vdd ∷ n_device (codes "n") (codes "y") (codes "m") gnd ∷ [];
      instances = record { line = 3; name = codes "x"; nets = codes "a" ∷ codes "m" ∷ []; cell = codes "i" } ∷ [];
    } ∷ [])

abbrev pub blif : Blif
blif = record {
  models =
      model_of (codes "i") (codes "a" ∷ []) (codes "y" ∷ []) (cover (codes "a" ∷ []) (codes "y") true (codes "0" ∷ []) ∷ []) [] []
      ∷ model_of (codes "b") (codes "a" ∷ []) (codes "y" ∷ []) (cover (codes "a" ∷ []) (codes "y") true (codes "1" ∷ []) ∷ []) [] [] ∷ [];
}

abbrev pub roles : List PortRole
roles = Input 0 ∷ Output 1 ∷ []

abbrev pub cut : Cut
cut = record { top = record { design = design; rules = base; cell = 1; roles = roles }; choice = λ i. true }

abbrev pub facts : List CellFacts
facts = record { equal = true; stateless = true; drives = Soft ∷ [] } ∷ []

-- ---- the circuits

abbrev pub net : List ℕ → NetKind → FlatNet
net name kind = record { name = name; kind = kind }

abbrev pub device : List ℕ → Kind → ℕ → ℕ → ℕ → Device
device name kind left gate right =
    record { name = name; kind = kind; gate = record { 0 = gate }; left = record { 0 = left }; right = record { 0 = right }; level = 6; keeper = false }

abbrev port_nets : List FlatNet → List FlatNet
port_nets rest = net gnd (Supply false) ∷ net vdd (Supply true) ∷ net (codes "a") InputNet ∷ net (codes "y") Plain ∷ rest

abbrev pub inverter : Circuit
inverter = record { nets = port_nets []; devices = device (codes "p") P 3 2 1 ∷ device (codes "n") N 3 2 0 ∷ []; holds = []; instances = []; wholes = []; source = 8 }

abbrev pub instance : FlatInstance
instance = record { path = codes "x"; cell = 0; ports = record { 0 = 2 } ∷ record { 0 = 4 } ∷ [] }

abbrev pub flat : Circuit
flat = record {
  nets = port_nets (net (codes "m") Plain ∷ []);
  devices = device (codes "p") P 3 4 1 ∷ device (codes "n") N 3 4 0 ∷ device (codes "x/p") P 4 2 1 ∷ device (codes "x/n") N 4 2 0 ∷ [];
  holds = [];
  instances = instance ∷ [];
  wholes = [];
  source = 8;
}

-- a model of one input and one output, by the row at which it gives 1
abbrev pub model : List ℕ → FlatModel
model row = record {
  signals = codes "a" ∷ codes "y" ∷ [];
  inputs = 0 ∷ [];
  clocks = [];
  outputs = 1 ∷ [];
  covers = record { inputs = 0 ∷ []; output = 1; on = true; rows = row ∷ [] } ∷ [];
  latches = [];
  dontcares = [];
}

abbrev pub own : List Link → Whole
own links = record {
  path = codes "x";
  cell = 0;
  model = model (codes "0");
  clocked = [];
  inputs = record { net = record { 0 = 2 }; signal = 0; drive = Soft; observed = true } ∷ [];
  outputs = record { net = record { 0 = 4 }; signal = 1; drive = Soft; observed = false } ∷ [];
  links = links;
}

abbrev pub checked : List Link → Circuit
checked links = record {
  nets = port_nets (net (codes "m") Plain ∷ []);
  devices = device (codes "p") P 3 4 1 ∷ device (codes "n") N 3 4 0 ∷ [];
  holds = [];
  instances = instance ∷ [];
  wholes = own links ∷ [];
  source = 8;
}

-- ---- the comparisons

abbrev pub of_inverter : Comparison
of_inverter = record { design = design; rules = base; cell = 0; pairing = record { model = 0; ports = roles; clocked = [] }; circuit = inverter; model = model (codes "0"); groups = [] }

abbrev pub of_buffer : Comparison
of_buffer = record { design = design; rules = base; cell = 1; pairing = record { model = 1; ports = roles; clocked = [] }; circuit = flat; model = model (codes "1"); groups = [] }

pub inverter_is : comparison_of design blif base 0 0 ≡ of_inverter
unfolding flat_circuit_of all_places net_at own_nets global_nets flat_model_of unrolled_of network_names all_models signals_of pairing_of groups_of
inverter_is = refl

pub buffer_is : comparison_of design blif base 1 1 ≡ of_buffer
unfolding flat_circuit_of all_places net_at own_nets global_nets flat_model_of unrolled_of network_names all_models signals_of pairing_of groups_of
buffer_is = refl

pub flat_is : flat_circuit_of cut.top ≡ flat
unfolding flat_circuit_of all_places net_at own_nets global_nets
flat_is = refl

pub checked_is : circuit_with cut blif facts ≡ checked []
unfolding circuit_with is_observed flat_circuit_of all_places net_at own_nets global_nets flat_model_of unrolled_of network_names all_models signals_of pairing_of groups_of
checked_is = refl
