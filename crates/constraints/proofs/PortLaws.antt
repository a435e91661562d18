-- The net of a port by its name is found port by port.
use Rattle.std.proofs.Common.{◌≡◌, ℕ, suc, ◌+◌, ◌≤◌, Bool, true, false, cond, List, [], ◌∷◌, Option, Some, None, arith, ap, refl, sym, ◌∙◌}
use Rattle.std.specs.Prelude.{bytes_eq, option_and_then, option_map, slice_get, unwrap_or}
use Rattle.std.specs.List.{position_from}
use Rattle.std.proofs.lemmas.Iterator.Adapters.{position_from-zero}
use Rattle.vrt_model.specs.CellRules.{supply_of}
use Rattle.vrt_model.specs.Comparison.{port_nets, port_nets_from}
use Rattle.vrt_model.specs.declared.rules.Rules.{Rules}
use Rattle.constraints.specs.Handles.{net_behind, net_by, port_net, port_net_from}

shifted : {X : Type 0} (p : X → Bool) (k : ℕ) (xs : List X) → position_from p (k + 1) xs ≡ option_map suc (position_from p k xs)
shifted p k [] = refl
shifted p k (x ∷ xs) = by_test (p x) (shifted p (k + 1) xs)
  where
    by_test : (b : Bool) → position_from p (k + 1 + 1) xs ≡ option_map suc (position_from p (k + 1) xs)
        → cond b (Some (k + 1)) (position_from p (k + 1 + 1) xs) ≡ option_map suc (cond b (Some k) (position_from p (k + 1) xs))
    by_test true rest = ap Some (omega arith)
    by_test false rest = rest

module _ (rules : Rules) (name : List ℕ) where
  abbrev picked : List ℕ → Option ℕ → ℕ
  picked nets o = unwrap_or (option_and_then (λ (at : ℕ). slice_get nets at) o) 0

  picked_behind : (net : ℕ) (nets : List ℕ) (o : Option ℕ) → picked (net ∷ nets) (option_map suc o) ≡ picked nets o
  picked_behind net nets None = refl
  picked_behind net nets (Some at) = refl

  one_more : (net : ℕ) (nets : List ℕ) (port : List ℕ) (ports : List (List ℕ)) → picked (net ∷ nets) (position_from (bytes_eq name) 0 (port ∷ ports)) ≡ cond (bytes_eq name port) net (picked nets (position_from (bytes_eq name) 0 ports))
  one_more net nets port ports = by_test (bytes_eq name port)
    where
      by_test : (b : Bool) → picked (net ∷ nets) (cond b (Some 0) (position_from (bytes_eq name) (0 + 1) ports)) ≡ cond b net (picked nets (position_from (bytes_eq name) 0 ports))
      by_test true = refl
      by_test false = ap (picked (net ∷ nets)) (shifted (bytes_eq name) 0 ports) ∙ picked_behind net nets (position_from (bytes_eq name) 0 ports)

  from_ports : (next : ℕ) (ports : List (List ℕ)) → picked (port_nets_from rules next ports) (position_from (bytes_eq name) 0 ports) ≡ port_net_from rules next ports name
  from_ports next [] = refl
  from_ports next (port ∷ ports) = by_supply (supply_of rules port) (λ n. from_ports n ports)
    where
      by_supply : (o : Option Bool) → ((n : ℕ) → picked (port_nets_from rules n ports) (position_from (bytes_eq name) 0 ports) ≡ port_net_from rules n ports name)
          → picked (elim o [ None ↦ next ∷ port_nets_from rules (suc next) ports | Some value ↦ cond value 1 0 ∷ port_nets_from rules next ports ]) (position_from (bytes_eq name) 0 (port ∷ ports))
          ≡ cond (bytes_eq name port) (net_by o next) (port_net_from rules (net_behind o next) ports name)
      by_supply None rest =
          one_more next (port_nets_from rules (suc next) ports) port ports
          ∙ ap (λ (n : ℕ). cond (bytes_eq name port) next n) (rest (suc next) ∙ ap (λ (n : ℕ). port_net_from rules n ports name) (omega arith))
      by_supply (Some value) rest = one_more (cond value 1 0) (port_nets_from rules next ports) port ports ∙ ap (λ (n : ℕ). cond (bytes_eq name port) (cond value 1 0) n) (rest next)

  pub port_by_port : (ports : List (List ℕ)) → port_net_from rules 2 ports name ≡ port_net rules ports name
  port_by_port ports = sym (from_ports 2 ports) ∙ ap (picked (port_nets rules ports)) (sym (position_from-zero (bytes_eq name) ports))

  -- one port more
  module _ (names rest behind : List (List ℕ)) (port : List ℕ) (next : ℕ) (supply : Option Bool) (is : rest ≡ port ∷ behind) (by_supply : supply ≡ supply_of rules port)
      (from : port_net_from rules next rest name ≡ port_net_from rules 2 names name) where
    turn : cond (bytes_eq name port) (net_by supply next) (port_net_from rules (net_behind supply next) behind name) ≡ port_net_from rules 2 names name
    turn =
        ap (λ (o : Option Bool). cond (bytes_eq name port) (net_by o next) (port_net_from rules (net_behind o next) behind name)) by_supply
        ∙ ap (λ (ps : List (List ℕ)). port_net_from rules next ps name) (sym is)
        ∙ from

    pub port_found : (net : ℕ) → bytes_eq name port ≡ true → net ≡ net_by supply next → net ≡ port_net_from rules 2 names name
    port_found net same e =
        e ∙ sym (ap (λ (b : Bool). cond b (net_by supply next) (port_net_from rules (net_behind supply next) behind name)) same) ∙ turn

    pub port_passed : (later : ℕ) → bytes_eq name port ≡ false → later ≡ net_behind supply next → port_net_from rules later behind name ≡ port_net_from rules 2 names name
    port_passed later other e =
        ap (λ (k : ℕ). port_net_from rules k behind name) e
        ∙ sym (ap (λ (b : Bool). cond b (net_by supply next) (port_net_from rules (net_behind supply next) behind name)) other)
        ∙ turn

  -- there is no port of the name
  pub port_missing : (names rest : List (List ℕ)) (next : ℕ) → rest ≡ [] → port_net_from rules next rest name ≡ port_net_from rules 2 names name → 0 ≡ port_net_from rules 2 names name
  port_missing names rest next none from = sym (ap (λ (ps : List (List ℕ)). port_net_from rules next ps name) none) ∙ from

pub behind_low : (supply : Option Bool) (next left : ℕ) → net_behind supply next + left ≤ next + suc left
behind_low None next left = omega arith
behind_low (Some b) next left = omega arith
