-- The nets of output ports are those of the cell's ports that have the signal of an output.
use Rattle.std.proofs.Common.{◌≡◌, ℕ, ◌<◌, cond, List, [], ◌∷◌, Option, Some, None, length, map, ap, refl, sym, subst, ◌∙◌}
use Rattle.std.specs.List.{cons_option}
use Rattle.std.specs.Prelude.{filter, filter_map, is_some, option_map}
use Rattle.phase_ports.proofs.PortLaws.{net_is, ports_shown}
use Rattle.phase_ports.specs.Ports.{ports_by, unnamed}
use Rattle.phase_ports.specs.declared.port_list.Port.{Port}
use Rattle.port_drives.specs.Ports.{AreOutputNetsOf, OutputNetsAreWithin, output_net}
pub use Rattle.vrt_model.proofs.Lists.{pushed}
use Rattle.vrt_model.proofs.Lists.{at_map, map_at}
use Rattle.vrt_model.proofs.Members.{all_among, all_by, among_filter}
use Rattle.vrt_model.specs.Comparison.{CellPort, cell_at, output_signal, port_nets, ports_of}
use Rattle.vrt_model.specs.Facts.{output_ports}
use Rattle.vrt_model.specs.Lists.{At}
use Rattle.vrt_model.specs.declared.ids.Net.{Net}
use Rattle.vrt_model.specs.declared.pairing.Pairing.{Pairing}

-- the numbers of the nets of those ports that are outputs
shown : (ports : List CellPort) → map (λ (n : Net). n.0) (filter_map output_net (map unnamed ports)) ≡ map (λ (p : CellPort). p.net) (filter (λ (p : CellPort). is_some (output_signal p.role)) ports)
shown [] = refl
shown (port ∷ ports) = by_signal (shown ports) (output_signal port.role)
  where
    by_signal : map (λ (n : Net). n.0) (filter_map output_net (map unnamed ports)) ≡ map (λ (p : CellPort). p.net) (filter (λ (p : CellPort). is_some (output_signal p.role)) ports) → (o : Option ℕ)
        → map (λ (n : Net). n.0) (cons_option (option_map (λ (signal : ℕ). let net : Net = record { 0 = port.net } in net) o) (filter_map output_net (map unnamed ports)))
        ≡ map (λ (p : CellPort). p.net) (cond (is_some o) (port ∷ filter (λ (p : CellPort). is_some (output_signal p.role)) ports) (filter (λ (p : CellPort). is_some (output_signal p.role)) ports))
    by_signal rest None = rest
    by_signal rest (Some signal) = ap (λ (ns : List ℕ). port.net ∷ ns) rest

pub nets_are : (pairing : Pairing) (nets : List Net) → nets ≡ filter_map output_net (ports_by 0 2 pairing.ports) → AreOutputNetsOf pairing nets
nets_are pairing nets is k same roles =
    ap (λ (xs : List Net). map (λ (n : Net). n.0) xs)
    (is ∙ ap (λ (ports : List Port). filter_map output_net ports)
    (ap (λ (q : Pairing). ports_by 0 2 q.ports) (sym same) ∙ ports_shown k.rules (cell_at k.design k.cell) k.pairing roles))
    ∙ shown (ports_of k)

pub nets_within : OutputNetsAreWithin
nets_within k nets are all =
    all_by (λ (n : Net). n.0 < length k.circuit.nets) nets
    (λ net m.
    let names = (cell_at k.design k.cell).ports in
    let numbers = port_nets k.rules names in
    let there = subst (λ (ns : List ℕ). At ns m.0 net.0) are (map_at (λ (n : Net). n.0) nets m.0 net m.1) in
    let port = at_map (λ (p : CellPort). p.net) (output_ports k) m.0 net.0 there in
    let own = among_filter (λ (p : CellPort). is_some (output_signal p.role)) (ports_of k) port.0 (m.0, port.1) in
    subst (λ (n : ℕ). n < length k.circuit.nets) port.2
    (all_among (λ (n : ℕ). n < length k.circuit.nets) numbers port.0.net all (own.0, net_is 0 names numbers k.pairing.ports own.0 port.0 own.1)))
