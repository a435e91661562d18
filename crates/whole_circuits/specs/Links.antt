-- The links of an instance, by those of the ports of its cell in each phase.
use Rattle.std.specs.Prelude.{◌≡◌, ℕ, ◌==◌, cond, List, [], ◌∷◌, ◌++◌, filter_map, flat_map, length, Option, Some, None, option_and_then, option_map, slice_get}
use Rattle.std.specs.List.{enumerate_from}
use Rattle.phase_ports.specs.declared.port_list.Port.{Port}
use Rattle.port_links.specs.PortLinks.{HasPortLinks}
use Rattle.port_links.specs.declared.links.PortLink.{PortLink}
use Rattle.whole_circuits.specs.declared.links.Over.{Over}
use Rattle.vrt_model.specs.Comparison.{Comparison, output_signal}
use Rattle.vrt_model.specs.Lists.{At}
use Rattle.vrt_model.specs.declared.ids.Net.{Net}
use Rattle.vrt_model.specs.declared.rules.Phase.{Phase}
use Rattle.vrt_model.specs.declared.whole.Link.{Link}
use Rattle.vrt_model.specs.declared.whole.WholePin.{WholePin}

-- the signal of the port at a place, if it is an output
abbrev pub signal_at : List Port → ℕ → Option ℕ
signal_at ports place = option_and_then (λ (p : Port). output_signal p.role) (slice_get ports place)

-- over a link of two ports links lead from the net at the one to the outputs with the signal of the other
abbrev pub over_of : List Port → List Net → PortLink → Option Over
over_of ports nets l =
    option_and_then (λ (s : ℕ). option_map (λ (net : Net). let over : Over = record { from = net; signal = s; named = l.named } in over) (slice_get nets l.from)) (signal_at ports l.to)

-- the link to an output pin at a place, if it has the signal
abbrev pub link_to : List ℕ → Over → ℕ × WholePin → Option Link
link_to name over q = cond (q.1.signal == over.signal) (Some (record { phase = name; from = over.from; output = q.0; named = over.named })) None

-- the links over a link of two ports
abbrev pub links_from : List ℕ → List WholePin → Option Over → List Link
links_from name outputs None = []
links_from name outputs (Some over) = filter_map (link_to name over) (enumerate_from 0 outputs)

abbrev pub links_over : List ℕ → List Port → List Net → List WholePin → PortLink → List Link
links_over name ports nets outputs l = links_from name outputs (over_of ports nets l)

-- those of each phase, with the links of the ports in it
abbrev pub links_by : List Port → List Net → List WholePin → List Phase → List (List PortLink) → List Link
links_by ports nets outputs [] own = []
links_by ports nets outputs (phase ∷ phases) [] = []
links_by ports nets outputs (phase ∷ phases) (links ∷ own) =
    flat_map (links_over phase.name ports nets outputs) links ++ links_by ports nets outputs phases own

-- the links of the ports of a cell, for each of its phases
pub record ArePhaseLinks (k : Comparison) (own : List (List PortLink)) : Type 0 where
  pub each : length own ≡ length k.rules.phases
  pub are : (phase : ℕ) (links : List PortLink) → At own phase links → HasPortLinks k phase links
