-- The ports of a cell are at nets of the unrolled cell.
use Rattle.std.proofs.Common.{◌≡◌, ℕ, zero, suc, ◌+◌, ◌<◌, ◌≤◌, Bool, true, false, cond, List, [], ◌∷◌, ◌++◌, length, drop, Option, Some, None, arith, ap}
use Rattle.std.specs.Prelude.{slice_get}
use Rattle.std.proofs.lemmas.List.{length-append}
use Rattle.std.proofs.lemmas.Option.{none-some, same_Some}
use Rattle.phase_ports.specs.Comparisons.{ArePortsWithin}
use Rattle.vrt_model.proofs.Members.{all_by}
use Rattle.vrt_model.specs.CellRules.{supply_of}
use Rattle.vrt_model.specs.Comparison.{port_nets, port_nets_from}
use Rattle.vrt_model.specs.FlatCircuit.{flat_nets, kind_by, port_nets_of, supply_flat}
use Rattle.vrt_model.specs.Lists.{At}
use Rattle.vrt_model.specs.Unrolled.{Top, top_cell}
use Rattle.vrt_model.specs.declared.circuit.Circuit.{Circuit}
use Rattle.vrt_model.specs.declared.circuit.FlatNet.{FlatNet}
use Rattle.vrt_model.specs.declared.pairing.PortRole.{PortRole}
use Rattle.vrt_model.specs.declared.rules.Rules.{Rules}

-- the nets of ports are below a number that is above both supplies and all ports that are none
module _ (rules : Rules) (count : ℕ) (two : 1 < count) where
  -- the nets of ports of which the first has this supply, and the flat nets of those that are none
  abbrev numbers_by : Option Bool → ℕ → List (List ℕ) → List ℕ
  numbers_by o next names =
      elim o [
        | None ↦ next ∷ port_nets_from rules (suc next) names
        | Some value ↦ cond value 1 0 ∷ port_nets_from rules next names
      ]

  abbrev flats_by : Option Bool → List ℕ → List (List ℕ) → List PortRole → List FlatNet
  flats_by o name names roles =
      elim o [
        | None ↦ record { name = name; kind = kind_by (slice_get roles 0) } ∷ port_nets_of rules names (drop 1 roles)
        | Some value ↦ port_nets_of rules names (drop 1 roles)
      ]

  supply_below : (value : Bool) → cond value 1 0 < count
  supply_below true = two
  supply_below false = omega (arith, two)

  number_below : (names : List (List ℕ)) (roles : List PortRole) (next i net : ℕ) → next + length (port_nets_of rules names roles) ≤ count
      → At (port_nets_from rules next names) i net → net < count
  number_below [] roles next i net le e = absurd (none-some net e)
  number_below (x ∷ xs) roles next i net le e =
      by_test (supply_of rules x) i le e (λ m j h g. number_below xs (drop 1 roles) m j net h g)
    where
      by_test : (o : Option Bool) (j : ℕ) → next + length (flats_by o x xs roles) ≤ count → At (numbers_by o next xs) j net
          → ((m l : ℕ) → m + length (port_nets_of rules xs (drop 1 roles)) ≤ count → At (port_nets_from rules m xs) l net → net < count) → net < count
      by_test None zero le e more =
          let first : next ≡ net = same_Some next net e in
          omega (arith, first, le)
      by_test None (suc j) le e more = more (suc next) j (omega (arith, le)) e
      by_test (Some value) zero le e more =
          let first : cond value 1 0 ≡ net = same_Some (cond value 1 0) net e in
          let below : cond value 1 0 < count = supply_below value in
          omega (arith, first, below)
      by_test (Some value) (suc j) le e more = more next j le e

-- the nets of the ports stand behind the two supplies, and others behind them
nets_of_ports : (low high : FlatNet) (ports globals own nets : List FlatNet) → nets ≡ low ∷ high ∷ (ports ++ globals ++ own) → 2 + length ports ≤ length nets
nets_of_ports low high ports globals own nets e =
    let all : length nets ≡ suc (suc (length (ports ++ globals ++ own))) = ap (λ (xs : List FlatNet). length xs) e in
    let outer : length (ports ++ globals ++ own) ≡ length (ports ++ globals) + length own = length-append (ports ++ globals) own in
    let inner : length (ports ++ globals) ≡ length ports + length globals = length-append ports globals in
    omega (arith, all, outer, inner)

pub ports_below : (top : Top) (circuit : Circuit) → circuit.nets ≡ flat_nets top → ArePortsWithin top.rules (top_cell top) circuit
ports_below top circuit e =
    let names = (top_cell top).ports in
    let many : 2 + length (port_nets_of top.rules names top.roles) ≤ length circuit.nets =
    nets_of_ports (supply_flat top.rules false) (supply_flat top.rules true) (port_nets_of top.rules names top.roles) _ _ circuit.nets e in
    all_by (λ net. net < length circuit.nets) (port_nets top.rules names)
    (λ net m. number_below top.rules (length circuit.nets) (omega (arith, many)) names top.roles 2 m.0 net many m.1)
