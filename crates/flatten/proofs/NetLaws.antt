-- The nets that are gathered are those of the flat circuit.
use Rattle.std.proofs.Common.{◌≡◌, ◌++◌, ◌∷◌, [], ℕ, List, Bool, false, true, Option, Some, None, refl, ap, ap₂, sym, ◌∙◌, append_assoc}
use Rattle.std.specs.Prelude.{drop, flat_map, map, slice_get}
use Rattle.flatten.proofs.CellFlat.{supplies_are}
use Rattle.flatten.specs.NetTables.{Supplies, port_nets_in}
use Rattle.rule_index.specs.Firsts.{value_in}
use Rattle.rule_index.specs.Tables.{declared_supply, supply_in}
use Rattle.name_tables.specs.declared.firsts.FirstValues.{FirstValues}
use Rattle.vrt_model.specs.CellRules.{supply_of}
use Rattle.vrt_model.specs.FlatCircuit.{flat_nets, kind_by, own_flat_nets, plain_net, port_nets_of, supply_flat}
use Rattle.vrt_model.specs.Unrolled.{Top, all_places, globals_of, top_cell}
use Rattle.vrt_model.specs.declared.circuit.FlatNet.{FlatNet}
use Rattle.vrt_model.specs.declared.pairing.PortRole.{PortRole}
use Rattle.vrt_model.specs.declared.rules.Rules.{Rules}

-- the ports that are no supplies
port_nets_are : (rules : Rules) (names : List (List ℕ)) (roles : List PortRole) → port_nets_in (supply_of rules) names roles ≡ port_nets_of rules names roles
port_nets_are rules [] roles = refl
port_nets_are rules (x ∷ xs) roles = by_test (supply_of rules x) (port_nets_are rules xs (drop 1 roles)) where
  by_test : (o : Option Bool) → port_nets_in (supply_of rules) xs (drop 1 roles) ≡ port_nets_of rules xs (drop 1 roles)
      → (elim o [ None ↦ (let net : FlatNet = record { name = x; kind = kind_by (slice_get roles 0) } in net) ∷ [] | Some value ↦ [] ]) ++ port_nets_in (supply_of rules) xs (drop 1 roles)
      ≡ elim o [ None ↦ (let net : FlatNet = record { name = x; kind = kind_by (slice_get roles 0) } in net) ∷ port_nets_of rules xs (drop 1 roles) | Some value ↦ port_nets_of rules xs (drop 1 roles) ]
  by_test None e = ap (λ (nets : List FlatNet). (let net : FlatNet = record { name = x; kind = kind_by (slice_get roles 0) } in net) ∷ nets) e
  by_test (Some value) e = e

-- two nets, and three lists of nets behind them
joined : (a b : FlatNet) (p q r old one two three all : List FlatNet) → old ≡ [] → one ≡ old ++ a ∷ [] → two ≡ one ++ b ∷ [] → three ≡ two ++ p → all ≡ three ++ (q ++ r)
    → all ≡ a ∷ b ∷ (p ++ q ++ r)
joined a b p q r old one two three all none first second third last =
    last
    ∙ ap (λ (xs : List FlatNet). xs ++ (q ++ r))
    (third ∙ ap (λ (xs : List FlatNet). xs ++ p) (second ∙ ap (λ (xs : List FlatNet). xs ++ b ∷ []) (first ∙ ap (λ (xs : List FlatNet). xs ++ a ∷ []) none)))
    ∙ ap (λ (xs : List FlatNet). a ∷ b ∷ xs) (sym (append_assoc p q r))

-- the supplies, the other ports, and the nets behind these
pub nets_are : (t : Top) (supplies : FirstValues Bool) (ports : List (List ℕ)) (roles : List PortRole) (old one two three all : List FlatNet)
    → ((name : List ℕ) → value_in supplies name ≡ declared_supply t.rules.supplies name) → ports ≡ (top_cell t).ports → roles ≡ t.roles
    → old ≡ [] → one ≡ old ++ supply_flat t.rules false ∷ [] → two ≡ one ++ supply_flat t.rules true ∷ [] → three ≡ two ++ port_nets_in (supply_in supplies) ports roles
    → all ≡ three ++ (map plain_net (globals_of t) ++ flat_map (own_flat_nets t) (all_places t)) → all ≡ flat_nets t
nets_are t supplies ports roles old one two three all are p r none first second third last =
    joined (supply_flat t.rules false) (supply_flat t.rules true) (port_nets_of t.rules (top_cell t).ports t.roles) (map plain_net (globals_of t)) (flat_map (own_flat_nets t) (all_places t))
    old one two three all none first second
    (third
    ∙ ap (λ (s : Supplies). two ++ port_nets_in s ports roles) (supplies_are t.rules supplies are)
    ∙ ap (λ (xs : List FlatNet). two ++ xs) (ap₂ (port_nets_in (supply_of t.rules)) p r ∙ port_nets_are t.rules (top_cell t).ports t.roles))
    last
