-- What is needed to show that a fault of a small cell stands at a valuation, where all gates of the cell are nets with
-- given values. The faults themselves are those of the files whose names end in `Shown`: of kinds that no row of the programs
-- can show yet. No contract cites them.
use Rattle.std.proofs.Common.{◌≡◌, ℕ, ◌<◌, Bool, true, false, List, [], ◌∷◌, Option, Some, length, refl}
use Rattle.vrt_model.proofs.Cells.{gnd, vdd}
use Rattle.vrt_model.proofs.FirstFinding.{found}
use Rattle.vrt_model.proofs.GatesGiven.{HasGivenGates, always_responds, base_reading, shown, shown_is_solution, solution_shows, state_from}
use Rattle.vrt_model.specs.Assignment.{Assignment}
use Rattle.vrt_model.specs.Circuits.{IsDevice}
use Rattle.vrt_model.specs.Comparison.{Comparison, is_observed, phase_at}
use Rattle.vrt_model.specs.Constraints.{Meets, given_bit}
use Rattle.vrt_model.specs.Faults.{Assigns, Responds, Solves, Stands}
use Rattle.vrt_model.specs.Held.{setting_of}
use Rattle.vrt_model.specs.Levels.{IsDeviceLevel}
use Rattle.vrt_model.specs.Lists.{bit_at}
use Rattle.vrt_model.specs.Path.{Network}
use Rattle.vrt_model.specs.Places.{IsFinding}
use Rattle.vrt_model.specs.Response.{IsResponse, Response, Shows}
use Rattle.vrt_model.specs.State.{IsState, State, network_of}
use Rattle.vrt_model.specs.declared.circuit.Circuit.{Circuit}
use Rattle.vrt_model.specs.declared.circuit.Device.{Device}
use Rattle.vrt_model.specs.declared.circuit.FlatNet.{FlatNet}
use Rattle.vrt_model.specs.declared.circuit.Hold.{Hold}
use Rattle.vrt_model.specs.declared.circuit.NetKind.{NetKind}
use Rattle.vrt_model.specs.declared.circuit.NetKind.TheVariants.{Supply}
use Rattle.vrt_model.specs.declared.design.Kind.{Kind}
use Rattle.vrt_model.specs.declared.verdict.FaultKind.{FaultKind}

-- ---- a comparison at a valuation, by what its nets show in one state

module _ (k : Comparison) (in_range : 0 < length k.rules.phases) (gates : HasGivenGates k.circuit) (bits : List Bool) (meets : Meets k 0 bits)
    (g : Assignment) (assigns : Assigns k 0 (setting_of k 0 bits) g) where
  -- the state in which the nets without a given value have 0
  abbrev pub state : State
  state = record { reading = given_bit k.circuit (phase_at k.rules 0) (setting_of k 0 bits).inputs; driven = λ at. false }

  state_is : IsState k.circuit (phase_at k.rules 0) (setting_of k 0 bits).inputs state
  state_is =
      state_from k.circuit (phase_at k.rules 0) gates (setting_of k 0 bits) (given_bit k.circuit (phase_at k.rules 0) (setting_of k 0 bits).inputs)
      (base_reading k.circuit (phase_at k.rules 0) (setting_of k 0 bits).inputs)

  abbrev pub view : Bool → Network
  view bare = network_of k.circuit bare (setting_of k 0 bits).held state

  abbrev pub solution : ℕ → Option Bool
  solution = shown k.circuit (phase_at k.rules 0) gates (setting_of k 0 bits) (is_observed k 0)

  solved : Solves k 0 (setting_of k 0 bits) solution
  solved = shown_is_solution k.circuit (phase_at k.rules 0) gates (setting_of k 0 bits) (is_observed k 0)

  pub always : (bare : Bool) (n : ℕ) (r : Response) → IsResponse (view bare) n r → Responds k 0 (setting_of k 0 bits) solution bare n r
  always bare n r h =
      (always_responds k.circuit (phase_at k.rules 0) gates (setting_of k 0 bits) (is_observed k 0) solution solved state state_is bare n r).1 h

  pub has : (n : ℕ) (v : Bool) → is_observed k 0 n ≡ true → IsResponse (view true) n (Shows v) → solution n ≡ Some v
  has n v seen h =
      (solution_shows k.circuit (phase_at k.rules 0) gates (setting_of k 0 bits) (is_observed k 0) solution solved state state_is n v seen).1 h

  pub finding : (kind : FaultKind) (at : ℕ) → Stands k 0 (setting_of k 0 bits) solution g kind at → IsFinding k (found 0 kind at bits)
  finding kind at stands = record { phase = in_range; meets = meets; stands = (solution, g, solved, assigns, stands) }

  -- a net that shows one bit does not show the other
  pub one_bit : (bare : Bool) (n : ℕ) (u v : Bool) → IsResponse (view bare) n (Shows u) → IsResponse (view bare) n (Shows v) → u ≡ v
  one_bit bare n true true p q = refl
  one_bit bare n false false p q = refl
  one_bit bare n true false p q = absurd (q.1 p.0)
  one_bit bare n false true p q = absurd (p.1 q.0)

-- ---- how the cells are written

abbrev pub net : List ℕ → NetKind → FlatNet
net name kind = record { name = name; kind = kind }

abbrev pub supplies : List FlatNet → List FlatNet
supplies nets = net gnd (Supply false) ∷ net vdd (Supply true) ∷ nets

abbrev pub device : List ℕ → Kind → ℕ → ℕ → ℕ → Device
device name kind left gate right =
    record { name = name; kind = kind; gate = record { 0 = gate }; left = record { 0 = left }; right = record { 0 = right }; level = 6; keeper = false }

abbrev pub circuit_of : List FlatNet → List Device → List Hold → Circuit
circuit_of nets devices holds = record { nets = nets; devices = devices; holds = holds; instances = []; wholes = []; source = 8 }

abbrev pub bits_of : List Bool → List Bool → Assignment
bits_of signals elements = record { signal = bit_at signals; next = bit_at elements }

-- a device whose numbers are in range
module _ (c : Circuit) (d : Device) where
  pub fits : d.gate.0 < length c.nets → d.left.0 < length c.nets → d.right.0 < length c.nets → IsDeviceLevel c d.level → IsDevice c d
  fits gate left right level = record { gate = gate; left = left; right = right; level = level }
