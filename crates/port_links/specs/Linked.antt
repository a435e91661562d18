-- The links of the ports of a cell to its outputs in a phase, without the names of the ports: named ports are marked by their
-- places.
use Rattle.std.specs.Prelude.{◌≡◌, ◌≢◌, ℕ, ◌⊎◌, ◌&&◌, ◌||◌, ◌↔◌, Bool, true, false, cond, not, List, Option, Some, None, length, nat_lt, ◌==◌}
use Rattle.phase_ports.specs.declared.port_list.Port.{Port}
use Rattle.port_links.specs.PhaseArcs.{AreChainMarks, IsPartChain, part_of}
use Rattle.port_links.specs.declared.links.PortLink.{PortLink}
use Rattle.port_links.specs.declared.links.Target.{Target}
use Rattle.vrt_model.specs.Comparison.{input_signal, output_signal}
use Rattle.vrt_model.specs.Known.{HasArc, is_plain_at}
use Rattle.vrt_model.specs.Lists.{Among, mark_at}
use Rattle.vrt_model.specs.WholeInstances.{CoverArc, IsChain}
use Rattle.vrt_model.specs.declared.circuit.Circuit.{Circuit}
use Rattle.vrt_model.specs.declared.flat_model.FlatModel.{FlatModel}
use Rattle.vrt_model.specs.declared.pairing.PortRole.{PortRole}
use Rattle.vrt_model.specs.declared.pairing.PortRole.TheVariants.{Supply, Clock, Input, Output}
use Rattle.vrt_model.specs.declared.rules.Phase.{Phase}

-- an input is linked to an output by a chain of arcs or by the structure of the model, and an output to another by a chain
-- from a net of its part
abbrev pub IsLinkedInside : Circuit → Phase → FlatModel → Port → Port → Type 0
IsLinkedInside c phase model from to =
    (s : ℕ) × (out : ℕ)
    × (((input_signal from.role ≡ Some s) × (output_signal to.role ≡ Some out) × (IsChain (HasArc c phase) from.net to.net ⊎ IsChain (CoverArc model) s out))
    ⊎ ((output_signal from.role ≡ Some s) × (output_signal to.role ≡ Some out) × (from.place ≢ to.place) × IsPartChain c phase from.net to.net))

-- or the port is named, and so linked to each output
abbrev pub IsLinked : Circuit → Phase → FlatModel → List Bool → Port → Port → Type 0
IsLinked c phase model named from to =
    IsLinkedInside c phase model from to ⊎ ((mark_at named from.place ≡ true) × ((out : ℕ) × (output_signal to.role ≡ Some out)))

-- the link by the places of the two ports
abbrev pub link_of : List Bool → Port → Port → PortLink
link_of named from to = record { from = from.place; to = to.place; named = mark_at named from.place }

-- the links are exactly those of the ports
pub record AreLinks (c : Circuit) (phase : Phase) (model : FlatModel) (named : List Bool) (ports : List Port) (links : List PortLink) : Type 0 where
  pub sound : (link : PortLink) → Among links link → (from : Port) × (to : Port) × Among ports from × Among ports to × IsLinked c phase model named from to × (link ≡ link_of named from to)
  pub full : (from to : Port) → Among ports from → Among ports to → IsLinked c phase model named from to → Among links (link_of named from to)

-- ---- one output

-- marks at what leads to a net and a signal
pub record IsTarget (c : Circuit) (phase : Phase) (model : FlatModel) (least : List ℕ) (net signal : ℕ) (target : Target) : Type 0 where
  pub nets : AreChainMarks c phase least net target.nets.items
  pub signals : (s : ℕ) → (mark_at target.signals.items s ≡ true) ↔ IsChain (CoverArc model) s signal

-- the tests of an input and of an output by these marks
abbrev pub is_input_linked : Circuit → Target → ℕ → ℕ → Bool
is_input_linked c target net signal = (nat_lt net (length c.nets) && mark_at target.nets.items net) || mark_at target.signals.items signal

abbrev pub is_output_linked : Circuit → List ℕ → Target → Port → Port → Bool
is_output_linked c least target from to = not (from.place == to.place) && (is_plain_at c from.net && mark_at target.nets.items (part_of least from.net))

-- the test of a port of a role
abbrev pub is_role_linked : Circuit → List ℕ → Target → Port → Port → PortRole → Bool
is_role_linked c least target from to (Supply value) = false
is_role_linked c least target from to (Clock clock) = false
is_role_linked c least target from to (Input signal) = is_input_linked c target from.net signal
is_role_linked c least target from to (Output signal) = is_output_linked c least target from to

abbrev pub is_linked : Circuit → List ℕ → Target → List Bool → Port → Port → Bool
is_linked c least target named from to = is_role_linked c least target from to from.role || mark_at named from.place

-- the link of a port, if it is linked
abbrev pub link_from : Circuit → List ℕ → Target → List Bool → Port → Port → Option PortLink
link_from c least target named to from = cond (is_linked c least target named from to) (Some (link_of named from to)) None

-- ---- several outputs

-- the link of a port of the cell to one of some outputs
abbrev pub IsLinkTo : Circuit → Phase → FlatModel → List Bool → List Port → List Port → PortLink → Type 0
IsLinkTo c phase model named ports outputs link =
    (from : Port) × (to : Port) × Among ports from × Among outputs to × IsLinked c phase model named from to × (link ≡ link_of named from to)

-- links more
pub record AddsLinks (IsMore : PortLink → Type 0) (old new : List PortLink) : Type 0 where
  pub only : (link : PortLink) → Among new link → Among old link ⊎ IsMore link
  pub stays : (link : PortLink) → Among old link → Among new link
  pub joined : (link : PortLink) → IsMore link → Among new link
