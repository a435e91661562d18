-- The pins of an instance, by the ports of its cell without their names and by the nets at them.
use Rattle.std.specs.Prelude.{◌≡◌, ℕ, ◌+◌, Bool, false, cond, is_some, List, [], ◌∷◌, length, map, Option, option_map, slice_get, unwrap_or}
use Rattle.std.specs.List.{cons_option}
use Rattle.phase_ports.specs.Ports.{unnamed}
use Rattle.phase_ports.specs.declared.port_list.Port.{Port}
use Rattle.vrt_model.specs.Comparison.{Comparison, input_signal, is_observed, output_signal, ports_of}
use Rattle.vrt_model.specs.FlatCircuit.{net_id}
use Rattle.vrt_model.specs.Lists.{mark_at}
use Rattle.vrt_model.specs.Unrolled.{Place}
use Rattle.vrt_model.specs.WholeInstances.{drive_in}
use Rattle.vrt_model.specs.declared.ids.Net.{Net}
use Rattle.vrt_model.specs.declared.whole.CellFacts.{CellFacts}
use Rattle.vrt_model.specs.declared.whole.Drive.{Drive}
use Rattle.vrt_model.specs.declared.whole.Drive.TheVariants.{Soft}
use Rattle.vrt_model.specs.declared.whole.WholePin.{WholePin}

-- these are the ports of the cell without their names, and the nets to which the instance at a place ties them
pub record IsAtPorts (k : Comparison) (at : Place) (ports : List Port) (nets : List Net) : Type 0 where
  pub ports_are : ports ≡ map unnamed (ports_of k)
  pub nets_are : nets ≡ map net_id at.ports
  pub each : length at.ports ≡ length (ports_of k)

-- the marks are at the nets of the cell that are observed in its first phase
abbrev pub AreObserved : Comparison → List Bool → Type 0
AreObserved k marks = (n : ℕ) → mark_at marks n ≡ is_observed k 0 n

-- the drive at a place, soft past the end
abbrev pub drive_at : List Drive → ℕ → Drive
drive_at drives j = unwrap_or (slice_get drives j) Soft

-- the facts tell these drives of the outputs of a cell
abbrev pub AreDrivesOf : List CellFacts → ℕ → List Drive → Type 0
AreDrivesOf facts cell drives = (j : ℕ) → drive_in facts cell j ≡ drive_at drives j

-- ---- inputs

-- the pin of an input port
abbrev pub input_pin : List Bool → Port → Net → Option WholePin
input_pin observed port net =
    option_map (λ (s : ℕ). let pin : WholePin = record { net = net; signal = s; drive = Soft; observed = mark_at observed port.net } in pin) (input_signal port.role)

-- the pins of ports, each with its net
abbrev pub pins_by : List Bool → List Port → List Net → List WholePin
pins_by observed [] nets = []
pins_by observed (port ∷ ports) [] = []
pins_by observed (port ∷ ports) (net ∷ nets) = cons_option (input_pin observed port net) (pins_by observed ports nets)

-- ---- outputs

-- the pin of an output port, where so many outputs stand before it
abbrev pub driven_pin : List Drive → ℕ → Port → Net → Option WholePin
driven_pin drives before port net =
    option_map (λ (s : ℕ). let pin : WholePin = record { net = net; signal = s; drive = drive_at drives before; observed = false } in pin) (output_signal port.role)

-- how many stand before the next port
abbrev pub next_output : ℕ → Port → ℕ
next_output before port = cond (is_some (output_signal port.role)) (before + 1) before

-- the pins of ports, each with its net
abbrev pub driven_by : List Drive → ℕ → List Port → List Net → List WholePin
driven_by drives before [] nets = []
driven_by drives before (port ∷ ports) [] = []
driven_by drives before (port ∷ ports) (net ∷ nets) =
    cons_option (driven_pin drives before port net) (driven_by drives (next_output before port) ports nets)
