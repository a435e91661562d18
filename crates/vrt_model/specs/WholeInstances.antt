-- An instance that is left whole: its pins, their drives and links, and when an output may be so.
use Rattle.std.specs.Prelude.{◌≡◌, ◌≢◌, ℕ, suc, ◌<◌, ◌⊎◌, Bool, true, false, not, cond, ◌&&◌, ◌||◌, List, [], ◌∷◌, map, filter, filter_map, flat_map, length, Option, Some, None, option_map, option_and_then, unwrap_or, slice_get, is_some, nat_le, ◌==◌}
use Rattle.std.specs.List.{list_any, list_all, enumerate_from}
use Rattle.vrt_model.specs.CellRules.{assumed, clock_of_port}
use Rattle.vrt_model.specs.CheckedParts.{checked_devices}
use Rattle.vrt_model.specs.Comparison.{Comparison, CellPort, cell_at, input_signal, is_observed, output_signal, phase_at, ports_of}
use Rattle.vrt_model.specs.Cut.{Cut, NumberedPlace, whole_places}
use Rattle.vrt_model.specs.Expressions.{names_in}
use Rattle.vrt_model.specs.FlatCircuit.{net_id}
use Rattle.vrt_model.specs.Known.{HasArc, IsTogether, IsWalk}
use Rattle.vrt_model.specs.Lists.{At, Among, has_name, is_empty}
use Rattle.vrt_model.specs.PairedPorts.{Model, paired_model}
use Rattle.vrt_model.specs.Reading.{bare}
use Rattle.vrt_model.specs.Unrolled.{Place, Top, path_text}
use Rattle.vrt_model.specs.Unsupported.{comparison_of}
use Rattle.vrt_model.specs.declared.blif.Blif.{Blif}
use Rattle.vrt_model.specs.declared.circuit.Device.{Device}
use Rattle.vrt_model.specs.declared.flat_model.Cover.{Cover}
use Rattle.vrt_model.specs.declared.flat_model.FlatModel.{FlatModel}
use Rattle.vrt_model.specs.declared.ids.Net.{Net}
use Rattle.vrt_model.specs.declared.rules.Expr.{Expr}
use Rattle.vrt_model.specs.declared.whole.CellFacts.{CellFacts}
use Rattle.vrt_model.specs.declared.whole.Drive.{Drive}
use Rattle.vrt_model.specs.declared.whole.Drive.TheVariants.{Soft, Level}
use Rattle.vrt_model.specs.declared.whole.Link.{Link}
use Rattle.vrt_model.specs.declared.whole.Whole.{Whole}
use Rattle.vrt_model.specs.declared.whole.WholePin.{WholePin}

-- a port of an instance: the port of its cell, and its net in the checked circuit
pub record Pin : Type 0 where
  pub port : CellPort
  pub net : Net

-- ports, each with its net
abbrev pub pins_from : List CellPort → List ℕ → List Pin
pins_from [] nets = []
pins_from (port ∷ ports) [] = []
pins_from (port ∷ ports) (n ∷ nets) = (let pin : Pin = record { port = port; net = net_id n } in pin) ∷ pins_from ports nets

-- the ports of the instance at a place
abbrev pub pins_of : Comparison → Place → List Pin
pins_of k at = pins_from (ports_of k) at.ports

-- the input pins; whether a net is observed depends on the phase by its output ports alone, and the net of an input
-- port is that of no output port, so that the first phase stands for all
abbrev pub input_pins : Comparison → Place → List WholePin
input_pins k at =
    filter_map (λ (p : Pin). option_map (λ (s : ℕ). let pin : WholePin = record { net = p.net; signal = s; drive = Soft; observed = is_observed k 0 p.port.net } in pin) (input_signal p.port.role)) (pins_of k at)

-- the drive of the j-th output of a cell in the facts
abbrev pub drive_in : List CellFacts → ℕ → ℕ → Drive
drive_in facts cell j = unwrap_or (option_and_then (λ (f : CellFacts). slice_get f.drives j) (slice_get facts cell)) Soft

-- the output pins, with their drives in the facts
abbrev pub driven_pins_from : List CellFacts → ℕ → ℕ → List Pin → List WholePin
driven_pins_from facts cell j [] = []
driven_pins_from facts cell j (p ∷ pins) =
    elim (output_signal p.port.role) [
      | None ↦ driven_pins_from facts cell j pins
      | Some s ↦ record { net = p.net; signal = s; drive = drive_in facts cell j; observed = false } ∷ driven_pins_from facts cell (suc j) pins
    ]

-- the output pins of the instance at a place
abbrev pub driven_pins : List CellFacts → Comparison → Place → List WholePin
driven_pins facts k at = driven_pins_from facts at.cell 0 (pins_of k at)

-- an output pin at a place, by the place of its instance and its own place in it
pub record OutputAt : Type 0 where
  pub instance : ℕ
  pub output : ℕ
  pub pin : WholePin

-- all output pins of the whole instances
abbrev pub outputs_of_place : Top → Blif → List CellFacts → NumberedPlace → List OutputAt
outputs_of_place t blif facts p =
    elim (paired_model t.design blif t.rules p.at.cell) [
      | Model m ↦
          map (λ (q : ℕ × WholePin). let one : OutputAt = record { instance = p.number; output = q.0; pin = q.1 } in one)
          (enumerate_from 0 (driven_pins facts (comparison_of t.design blif t.rules p.at.cell m) p.at))
      | _ ↦ []
    ]

abbrev pub all_outputs : Cut → Blif → List CellFacts → List OutputAt
all_outputs cut blif facts = flat_map (outputs_of_place cut.top blif facts) (whole_places cut)

-- the devices whose channels meet a net
abbrev pub channels_at : List Device → ℕ → List Device
channels_at devices n = filter (λ (d : Device). (d.left.0 == n) || (d.right.0 == n)) devices

-- the other whole outputs at the net of one
abbrev pub others_at : List OutputAt → OutputAt → List OutputAt
others_at outputs one =
    filter (λ (o : OutputAt). (o.pin.net.0 == one.pin.net.0) && not ((o.instance == one.instance) && (o.output == one.output))) outputs

-- an output is allowed where it meets gates alone
abbrev pub meets_gates_only : List Device → List OutputAt → OutputAt → Bool
meets_gates_only devices outputs one = is_empty (channels_at devices one.pin.net.0) && is_empty (others_at outputs one)

-- a drive is this level
abbrev pub has_level : ℕ → Drive → Bool
has_level level Soft = false
has_level level (Level other) = other == level

-- or where its drive is a level, and all that it meets besides gates are devices of at most that level and whole
-- outputs of that very drive
abbrev pub fits_drive : List Device → List OutputAt → OutputAt → Drive → Bool
fits_drive devices outputs one Soft = false
fits_drive devices outputs one (Level level) =
    list_all (λ (d : Device). nat_le d.level level) (channels_at devices one.pin.net.0)
    && list_all (λ (o : OutputAt). has_level level o.pin.drive) (others_at outputs one)

-- one of the two
abbrev pub is_output_allowed : List Device → List OutputAt → OutputAt → Bool
is_output_allowed devices outputs one = meets_gates_only devices outputs one || fits_drive devices outputs one one.pin.drive

-- a chain of arcs, of at least one
abbrev pub IsChain : (ℕ → ℕ → Type 0) → ℕ → ℕ → Type 0
IsChain Arc from to = (n : ℕ) × (nets : List ℕ) × Arc from n × IsWalk Arc n nets to

-- the structure of a model: from each input of a cover to its output
abbrev pub CoverArc : FlatModel → ℕ → ℕ → Type 0
CoverArc flat from to = (cover : Cover) × Among flat.covers cover × Among cover.inputs from × (to ≡ cover.output)

-- an input is linked to an output by a chain of arcs inside or by the structure of the model
abbrev pub LinksInput : Comparison → ℕ → CellPort → CellPort → ℕ → ℕ → Type 0
LinksInput k phase from to s out =
    (input_signal from.role ≡ Some s) × (output_signal to.role ≡ Some out)
    × (IsChain (HasArc k.circuit (phase_at k.rules phase)) from.net to.net ⊎ IsChain (CoverArc k.model) s out)

-- an output is linked to another by a chain from a net of its part inside
abbrev pub LinksOutput : Comparison → ℕ → CellPort → CellPort → ℕ → ℕ → Type 0
LinksOutput k phase from to s out =
    (output_signal from.role ≡ Some s) × (output_signal to.role ≡ Some out) × (from.place ≢ to.place)
    × ((m : ℕ) × IsTogether k.circuit (phase_at k.rules phase) bare from.net m × IsChain (HasArc k.circuit (phase_at k.rules phase)) m to.net)

-- an `assume` rule of the cell names the port, or it has a clock
abbrev pub is_named_port : Comparison → ℕ → CellPort → Bool
is_named_port k phase port =
    list_any (λ (e : Expr). has_name (names_in e) port.name) (assumed k.rules (cell_at k.design k.cell).name phase)
    || is_some (clock_of_port k.rules (cell_at k.design k.cell).name port.name)

-- how a port of a whole instance is linked to an output in a phase: by one of these; and a port that the cell's
-- `assume` rules for the phase name, or that has a `clockport` rule, to each output
abbrev pub Links : Comparison → ℕ → CellPort → CellPort → Type 0
Links k phase from to =
    ((s : ℕ) × (out : ℕ) × (LinksInput k phase from to s out ⊎ LinksOutput k phase from to s out))
    ⊎ ((is_named_port k phase from ≡ true) × ((out : ℕ) × (output_signal to.role ≡ Some out)))

-- in a phase a port of the instance at a place is linked to an output of it
abbrev pub IsLinkOf : Comparison → Place → ℕ → Pin → Pin → Type 0
IsLinkOf k at phase from to = Among (pins_of k at) from × Among (pins_of k at) to × Links k phase from.port to.port

-- the links of a whole instance are exactly these, and those from named ports are marked
pub record HasLinks (k : Comparison) (pins : List Pin) (outputs : List WholePin) (links : List Link) : Type 0 where
  pub sound :
      (link : Link) → Among links link
      → (phase : ℕ) × (from : Pin) × (to : Pin) × (pin : WholePin) × (phase < length k.rules.phases) × (link.phase ≡ (phase_at k.rules phase).name)
      × Among pins from × Among pins to × Links k phase from.port to.port × (link.from ≡ from.net) × At outputs link.output pin
      × (output_signal to.port.role ≡ Some pin.signal) × (link.named ≡ true → is_named_port k phase from.port ≡ true)
  pub full :
      (phase : ℕ) (from to : Pin) (pin : WholePin) (at : ℕ) → phase < length k.rules.phases → Among pins from → Among pins to → Links k phase from.port to.port
      → At outputs at pin → output_signal to.port.role ≡ Some pin.signal
      → (link : Link) × Among links link × (link.phase ≡ (phase_at k.rules phase).name) × (link.from ≡ from.net) × (link.output ≡ at)
      × (is_named_port k phase from.port ≡ true → link.named ≡ true)

-- an output pin is soft where it meets gates alone
abbrev pub settled_drive : List Device → List OutputAt → OutputAt → WholePin
settled_drive devices outputs one = let pin = one.pin in record pin { drive = cond (meets_gates_only devices outputs one) Soft pin.drive }

-- the instance at a place as a whole one, with its cell's model, without links
abbrev pub whole_at : Cut → Blif → List CellFacts → NumberedPlace → Option Whole
whole_at cut blif facts p =
    elim (paired_model cut.top.design blif cut.top.rules p.at.cell) [
      | Model m ↦
          let k = comparison_of cut.top.design blif cut.top.rules p.at.cell m in
          Some (record {
            path = path_text p.at.path;
            cell = p.at.cell;
            model = k.model;
            clocked = k.pairing.clocked;
            inputs = input_pins k p.at;
            outputs = map (settled_drive (checked_devices cut) (all_outputs cut blif facts)) (outputs_of_place cut.top blif facts p);
            links = [];
          })
      | _ ↦ None
    ]

-- a whole instance as it is at a place, with its links
pub record IsWholeAt (cut : Cut) (blif : Blif) (facts : List CellFacts) (p : NumberedPlace) (w : Whole) : Type 0 where
  pub whole : whole_at cut blif facts p ≡ Some (record w { links = [] })
  pub links :
      (m : ℕ) → paired_model cut.top.design blif cut.top.rules p.at.cell ≡ Model m
      → HasLinks (comparison_of cut.top.design blif cut.top.rules p.at.cell m) (pins_of (comparison_of cut.top.design blif cut.top.rules p.at.cell m) p.at) w.outputs w.links
