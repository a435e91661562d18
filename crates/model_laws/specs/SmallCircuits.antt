-- Small circuits whose strengths and responses are worked out by hand.
use Rattle.std.specs.Prelude.{ℕ, Bool, true, false, List, [], ◌∷◌}
use Rattle.vrt_model.specs.Lists.{bit_at}
use Rattle.vrt_model.specs.Path.{Network}
use Rattle.vrt_model.specs.State.{network_of}
use Rattle.vrt_model.specs.declared.circuit.Circuit.{Circuit}
use Rattle.vrt_model.specs.declared.circuit.Device.{Device}
use Rattle.vrt_model.specs.declared.circuit.FlatNet.{FlatNet}
use Rattle.vrt_model.specs.declared.circuit.Hold.{Hold}
use Rattle.vrt_model.specs.declared.circuit.HoldEnd.TheVariants.{Own}
use Rattle.vrt_model.specs.declared.circuit.NetKind.{NetKind}
use Rattle.vrt_model.specs.declared.circuit.NetKind.TheVariants.{Supply, Input, Plain}
use Rattle.vrt_model.specs.declared.design.Kind.{Kind}
use Rattle.vrt_model.specs.declared.design.Kind.TheVariants.{N, P}
use Rattle.vrt_model.specs.declared.whole.Drive.{Drive}
use Rattle.vrt_model.specs.declared.whole.WholePin.{WholePin}

-- ---- how the circuits are written: net 0 is supply 0, net 1 is supply 1

abbrev pub net : NetKind → FlatNet
net kind = record { name = []; kind = kind }

abbrev pub device : Kind → ℕ → ℕ → ℕ → ℕ → Device
device kind level left gate right =
    record { name = []; kind = kind; gate = record { 0 = gate }; left = record { 0 = left }; right = record { 0 = right }; level = level; keeper = false }

abbrev pub keeper : Kind → ℕ → ℕ → ℕ → ℕ → Device
keeper kind level left gate right = record (device kind level left gate right) { keeper = true }

abbrev pub hold : ℕ → ℕ → Hold
hold n size = record { net = record { 0 = n }; size = size; end = Own (record { 0 = n }); inverted = false; enters = [] }

abbrev pub output : ℕ → Drive → WholePin
output n drive = record { net = record { 0 = n }; signal = 0; drive = drive; observed = false }

-- a network of nets after the two supplies, without whole instances, at a reading of these nets and the holds' bits
abbrev pub network : List NetKind → List Device → List Hold → List Bool → List Bool → Network
network kinds devices holds bits held = record {
  nets = net (Supply false) ∷ net (Supply true) ∷ nets kinds;
  holds = holds;
  outputs = [];
  devices = devices;
  source = 8;
  reading = bit_at (false ∷ true ∷ bits);
  given = bit_at (false ∷ true ∷ bits);
  held = bit_at held;
  driven = λ place. false;
}
  where
    nets : List NetKind → List FlatNet
    nets [] = []
    nets (kind ∷ kinds) = net kind ∷ nets kinds

-- ---- a weak load is blocked: nets a, y, m; the load of level 4 pulls m up, a device of level 6 pulls it down where a
-- is 1, and a device of level 4 joins m to y

abbrev pub load : List Device
load = device P 4 4 0 1 ∷ device N 6 4 2 0 ∷ device N 4 4 1 3 ∷ []

abbrev pub load_at : Bool → Network
load_at a = network (Input ∷ Plain ∷ Plain ∷ []) load [] (a ∷ false ∷ false ∷ []) []

-- ---- a bridge passes signals in both directions: nets a, b, c, d, e, y, l, r; a and b join vdd to l and r, c joins l
-- and r, d and e join l and r to y

abbrev pub bridge : List Device
bridge = device N 6 1 2 8 ∷ device N 6 1 3 9 ∷ device N 6 8 4 9 ∷ device N 6 8 5 7 ∷ device N 6 9 6 7 ∷ []

abbrev pub bridge_at : Bool → Bool → Bool → Bool → Bool → Network
bridge_at a b c d e =
    network (Input ∷ Input ∷ Input ∷ Input ∷ Input ∷ Plain ∷ Plain ∷ Plain ∷ []) bridge [] (a ∷ b ∷ c ∷ d ∷ e ∷ false ∷ false ∷ false ∷ []) []

-- ---- two devices of one level fight, and the stronger of two wins: net y

abbrev pub opposed : ℕ → ℕ → Network
opposed up down = network (Plain ∷ []) (device N up 1 1 2 ∷ device N down 0 1 2 ∷ []) [] (false ∷ []) []

-- ---- the level of a path is the least on it, not that of its last device: nets m, y; vdd, level 4, m, level 7, y; and
-- a device of level 5 from gnd to y

abbrev pub least : Network
least = network (Plain ∷ Plain ∷ []) (device N 4 1 1 2 ∷ device N 7 2 1 3 ∷ device N 5 0 1 3 ∷ []) [] (false ∷ false ∷ []) []

-- ---- a charge against a drive: net y keeps 1 at size 2, and an n-device of level 4 with gate a pulls it down

abbrev pub charge_at : Bool → Network
charge_at a = network (Input ∷ Plain ∷ []) (device N 4 0 2 3 ∷ []) (hold 3 2 ∷ []) (a ∷ false ∷ []) (true ∷ [])

-- ---- charges are shared: nets x, y keep 1 and 0, and a device joins them

abbrev pub shared : ℕ → ℕ → Network
shared one other = network (Plain ∷ Plain ∷ []) (device N 6 2 1 3 ∷ []) (hold 2 one ∷ hold 3 other ∷ []) (false ∷ false ∷ []) (true ∷ false ∷ [])

-- ---- an input shows its bit by the empty path, whatever drives it, and blocks what would pass through it: nets a, y;
-- vdd, level 6, a, level 6, y

abbrev pub through_input : Network
through_input = network (Input ∷ Plain ∷ []) (device N 6 1 1 2 ∷ device N 6 2 1 3 ∷ []) [] (false ∷ false ∷ []) []

-- ---- a ring of three nets x, y, z, driven from both supplies at one level: they fight at each

abbrev pub ring : Network
ring =
    network (Plain ∷ Plain ∷ Plain ∷ []) (device N 6 2 1 3 ∷ device N 6 3 1 4 ∷ device N 6 4 1 2 ∷ device N 6 0 1 2 ∷ device P 6 4 0 1 ∷ []) []
    (false ∷ false ∷ false ∷ []) []

-- ---- a keeper is in the kept circuit alone: net d keeps 1 at size 1, and a keeper of level 4 pulls it down

abbrev pub dynamic : Circuit
dynamic = record {
  nets = net (Supply false) ∷ net (Supply true) ∷ net Plain ∷ [];
  devices = keeper N 4 2 1 0 ∷ [];
  holds = hold 2 1 ∷ [];
  instances = [];
  wholes = [];
  source = 8;
}

abbrev pub dynamic_as : Bool → Network
dynamic_as bare = network_of dynamic bare (λ place. true) (record { reading = bit_at (false ∷ true ∷ true ∷ []); driven = λ place. false })

-- ---- an output of a whole instance that gives 1: at the source level where it is soft, else at its own; a device of
-- level 6 pulls its net y down

abbrev pub whole_output : Drive → Network
whole_output drive = record (network (Plain ∷ []) (device N 6 0 1 2 ∷ []) [] (false ∷ []) []) { outputs = output 2 drive ∷ []; driven = λ place. true }
