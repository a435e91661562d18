-- The tests of the ports without their names are those of the cell.
use Rattle.std.proofs.Common.{◌≡◌, ℕ, suc, ◌&&◌, ◌||◌, Bool, List, [], ◌∷◌, map, Option, Some, arith, ap, ap₂, refl, sym, ◌∙◌}
use Rattle.std.specs.Prelude.{is_none, slice_get}
use Rattle.std.specs.List.{list_all}
use Rattle.phase_ports.proofs.PortLaws.{name_is, place_is}
use Rattle.phase_ports.specs.Ports.{unnamed}
use Rattle.phase_ports.specs.declared.port_list.Port.{Port}
use Rattle.vrt_model.specs.CellRules.{is_observed_port}
use Rattle.vrt_model.specs.Checked.{observes_outputs}
use Rattle.vrt_model.specs.Comparison.{CellPort, Comparison, cell_at, output_signal, port_nets, ports_of}
use Rattle.vrt_model.specs.Lists.{At}
use Rattle.vrt_model.specs.Variables.{places}
use Rattle.vrt_model.specs.declared.design.Cell.{Cell}
use Rattle.vrt_model.specs.declared.rules.Rules.{Rules}
use Rattle.whole_cells.specs.Seen.{is_seen_named, is_seen_port}

-- tests of a mapped list that are the same item by item
all_same : {X Y : Type 0} (f : X → Y) (test : Y → Bool) (other : X → Bool) (xs : List X)
    → ((i : ℕ) (x : X) → At xs i x → test (f x) ≡ other x) → list_all test (map f xs) ≡ list_all other xs
all_same f test other [] same = refl
all_same f test other (x ∷ xs) same = ap₂ (λ (a b : Bool). a && b) (same 0 x refl) (all_same f test other xs (λ i y e. same (suc i) y e))

pub outputs_seen : (k : Comparison) (rules : Rules) (cell : Cell) (ports : List Port) → k.rules ≡ rules → cell_at k.design k.cell ≡ cell → ports ≡ map unnamed (ports_of k)
    → list_all (is_seen_port rules cell) ports ≡ observes_outputs k
outputs_seen k rules cell ports rules_are cell_is ports_are =
    ap (list_all (is_seen_port rules cell)) ports_are
    ∙ sym (ap₂ (λ (r : Rules) (c : Cell). list_all (is_seen_port r c) (map unnamed (ports_of k))) rules_are cell_is)
    ∙ all_same unnamed (is_seen_port k.rules own) seen (ports_of k) port_same
  where
    own : Cell
    own = cell_at k.design k.cell

    seen : CellPort → Bool
    seen p = is_none (output_signal p.role) || list_all (λ phase. is_observed_port k.rules own.name p.name phase) (places 0 k.rules.phases)

    port_same : (i : ℕ) (p : CellPort) → At (ports_of k) i p → is_seen_port k.rules own (unnamed p) ≡ seen p
    port_same i p here =
        let at = place_is 0 own.ports (port_nets k.rules own.ports) k.pairing.ports i p here in
        let place : p.place ≡ i = omega (arith, at) in
        let name = name_is 0 own.ports (port_nets k.rules own.ports) k.pairing.ports i p here in
        let named : slice_get own.ports p.place ≡ Some p.name = ap (slice_get own.ports) place ∙ name in
        ap (λ (o : Option (List ℕ)). is_none (output_signal p.role) || is_seen_named k.rules own.name o) named
