-- Where the handle of a port stands: at the place of its name, at the net that is tied to it, or by the kind of its net.
use Rattle.std.specs.Prelude.{◌≡◌, ℕ, ◌+◌, ◌<◌, All, Bool, cond, bytes_eq, List, [], ◌∷◌, Option, Some, None, length, option_and_then, option_map, slice_get, slice_index, unwrap_or}
use Rattle.node_pool.specs.declared.region.Span.{Span}
use Rattle.bdd_core.specs.Store.{Diagrams, IsSpan}
use Rattle.bdd_core.specs.Words.{IsFilled}
use Rattle.vrt_model.specs.CellRules.{supply_of}
use Rattle.vrt_model.specs.Comparison.{port_nets}
use Rattle.vrt_model.specs.Lists.{bit_at, differ, place_of}
use Rattle.vrt_model.specs.declared.circuit.Circuit.{Circuit}
use Rattle.vrt_model.specs.declared.circuit.FlatNet.{FlatNet}
use Rattle.vrt_model.specs.declared.circuit.NetKind.{NetKind}
use Rattle.vrt_model.specs.declared.circuit.NetKind.TheVariants.{Supply, Clock, Input, Plain}
use Rattle.vrt_model.specs.declared.ids.Net.{Net}
use Rattle.vrt_model.specs.declared.rules.ClockRef.{ClockRef}
use Rattle.vrt_model.specs.declared.rules.Rules.{Rules}
use Rattle.constraints.specs.declared.ports.Ports.{Ports}
use Rattle.constraints.specs.declared.ports.Ports.TheVariants.{Listed, Tied, Given}

-- ---- words

-- the word at a place, and that of the constant 0 where there is none
abbrev pub word_of : List ℕ → Span → Option ℕ → ℕ
word_of words values None = 0
word_of words values (Some k) = slice_index words (values.start + k)

-- ---- ports by their places, and by nets that are tied to them

abbrev pub handle_listed : List ℕ → List (List ℕ) → Span → List ℕ → ℕ
handle_listed words names values name = word_of words values (place_of names name)

-- the net at a place
abbrev pub net_at : List Net → ℕ → Option ℕ
net_at nets at = option_map (λ (net : Net). net.0) (slice_get nets at)

abbrev pub handle_tied : List ℕ → List (List ℕ) → List Net → Span → List ℕ → ℕ
handle_tied words names nets values name = word_of words values (option_and_then (net_at nets) (place_of names name))

-- ---- ports of the checked cell

-- the bit of a carried clock among the bits of a phase
abbrev pub clock_in : List Bool → ClockRef → Bool
clock_in bits clock = differ clock.inverted (bit_at bits clock.clock)

-- the net of a port by its name, and net 0 where there is none
abbrev pub port_net : Rules → List (List ℕ) → List ℕ → ℕ
port_net rules names name = unwrap_or (option_and_then (λ (at : ℕ). slice_get (port_nets rules names) at) (place_of names name)) 0

-- the same port by port, where a port that is no supply has this net
abbrev pub net_by : Option Bool → ℕ → ℕ
net_by None next = next
net_by (Some value) next = cond value 1 0

abbrev pub net_behind : Option Bool → ℕ → ℕ
net_behind None next = next + 1
net_behind (Some value) next = next

abbrev pub port_net_from : Rules → ℕ → List (List ℕ) → List ℕ → ℕ
port_net_from rules next [] name = 0
port_net_from rules next (port ∷ ports) name =
    cond (bytes_eq name port) (net_by (supply_of rules port) next) (port_net_from rules (net_behind (supply_of rules port) next) ports name)

-- the handle of a net with a given value: a constant, or that of an input; a plain net has the constant 0
abbrev pub handle_by_kind : List ℕ → List Bool → Span → ℕ → NetKind → ℕ
handle_by_kind words bits values net (Supply value) = cond value 1 0
handle_by_kind words bits values net (Clock clock) = cond (clock_in bits clock) 1 0
handle_by_kind words bits values net Input = slice_index words (values.start + net)
handle_by_kind words bits values net Plain = 0

abbrev pub handle_of_net : List ℕ → Circuit → List Bool → Span → ℕ → ℕ
handle_of_net words c bits values net = unwrap_or (option_map (λ (n : FlatNet). handle_by_kind words bits values net n.kind) (slice_get c.nets net)) 0

abbrev pub handle_given : List ℕ → Circuit → Rules → List (List ℕ) → List Bool → Span → List ℕ → ℕ
handle_given words c rules names bits values name = handle_of_net words c bits values (port_net rules names name)

-- ---- all of them

-- the handle of a port
abbrev pub handle_in : List ℕ → Ports → List ℕ → ℕ
handle_in words (Listed names values) = handle_listed words names.now values
handle_in words (Tied names nets values) = handle_tied words names.now nets.now values
handle_in words (Given given) = handle_given words given.circuit.now given.rules.now given.names.now given.bits.now given.values

-- live handles stand in a span
abbrev pub IsReady : Diagrams → Span → Type 0
IsReady d values = IsSpan d values × IsFilled d values

-- each port has a live handle in a span
abbrev pub HasHandles : Diagrams → Ports → Type 0
HasHandles d (Listed names values) = IsReady d values × (values.len ≡ length names.now)
HasHandles d (Tied names nets values) = IsReady d values × All (λ (net : Net). net.0 < values.len) nets.now
HasHandles d (Given given) = IsReady d given.values × (given.values.len ≡ length given.circuit.now.nets)
