-- The nets of the ports of a comparison, found by the roles of the ports.
use Rattle.std.proofs.Common.{◌≡◌, ◌≢◌, ℕ, zero, suc, ◌+◌, ◌-◌, ◌<◌, ◌∷◌, [], All, Bool, List, length, map, Option, arith, ap, refl, sym, subst, ◌∙◌}
use Rattle.std.specs.Prelude.{slice_get, unwrap_or}
use Rattle.std.proofs.lemmas.List.Elements.{All-head, All-map, All-tail}
use Rattle.std.proofs.lemmas.Option.{slice_get-map}
use Rattle.std.proofs.lemmas.Simd.{map-map}
use Rattle.phase_ports.proofs.PortLaws.{net_is, ports_shown}
use Rattle.phase_ports.specs.Ports.{net_by, next_by, ports_by, supply_bit, unnamed}
use Rattle.phase_ports.specs.declared.port_list.Port.{Port}
use Rattle.phase_terms.specs.Ready.{IsReady}
use Rattle.phase_told.specs.Nets.{net_at, nets_by}
use Rattle.phase_told.specs.Sites.{site_of}
use Rattle.vrt_model.proofs.Members.{all_among, all_by}
use Rattle.vrt_model.specs.Comparison.{CellPort, Comparison, cell_at, port_nets, ports_of}
use Rattle.vrt_model.specs.Limits.{most_nets}
use Rattle.vrt_model.specs.Lists.{Among}
use Rattle.vrt_model.specs.declared.pairing.PortRole.{PortRole}
use Rattle.vrt_model.specs.declared.verdict.FaultKind.TheVariants.{Differs}

-- ---- along the ports

-- the first of those that are left, which has this supply
module _ (next : ℕ) (supply : Option Bool) (role : PortRole) (behind rest : List PortRole) (is : rest ≡ role ∷ behind) (same : supply ≡ supply_bit role) where
  pub net_here : net_by supply next ≡ net_at next rest 0
  net_here = ap (λ (o : Option Bool). net_by o next) same ∙ ap (λ (roles : List PortRole). net_at next roles 0) (sym is)

  -- one behind it
  pub net_later : (more left : ℕ) → more ≡ next_by supply next → left ≢ 0 → net_at more behind (left - 1) ≡ net_at next rest left
  net_later more left e some =
      ap (λ (m : ℕ). net_at m behind (left - 1)) (e ∙ ap (λ (o : Option Bool). next_by o next) same)
      ∙ back left some
      ∙ ap (λ (roles : List PortRole). net_at next roles left) (sym is)
    where
      back : (n : ℕ) → n ≢ 0 → net_at (next_by (supply_bit role) next) behind (n - 1) ≡ net_at next (role ∷ behind) n
      back zero some = absurd (some refl)
      back (suc n) some =
          let one : suc n - 1 ≡ n = omega arith in
          ap (λ (m : ℕ). net_at (next_by (supply_bit role) next) behind m) one

  module _ (low : All (λ net. net < most_nets) (nets_by next rest)) where
    all_low : All (λ net. net < most_nets) (nets_by next (role ∷ behind))
    all_low = subst (λ (roles : List PortRole). All (λ net. net < most_nets) (nets_by next roles)) is low

    pub here_low : net_by supply next < most_nets
    here_low = subst (λ (o : Option Bool). net_by o next < most_nets) (sym same) (All-head (λ net. net < most_nets) (net_by (supply_bit role) next) (nets_by (next_by (supply_bit role) next) behind) all_low)

    pub later_low : (more : ℕ) → more ≡ next_by supply next → All (λ net. net < most_nets) (nets_by more behind)
    later_low more e =
        subst (λ (m : ℕ). All (λ net. net < most_nets) (nets_by m behind)) (sym (e ∙ ap (λ (o : Option Bool). next_by o next) same))
        (All-tail (λ net. net < most_nets) (net_by (supply_bit role) next) (nets_by (next_by (supply_bit role) next) behind) all_low)

-- ---- those of a comparison

-- they are those of the ports by their roles, whatever the places are
shown_nets : (place next : ℕ) (roles : List PortRole) → nets_by next roles ≡ map (λ (p : Port). p.net) (ports_by place next roles)
shown_nets place next [] = refl
shown_nets place next (role ∷ roles) =
    ap (λ (xs : List ℕ). net_by (supply_bit role) next ∷ xs) (shown_nets (place + 1) (next_by (supply_bit role) next) roles)

module _ (k : Comparison) (ready : IsReady k) where
  nets_are : nets_by 2 k.pairing.ports ≡ map (λ (p : CellPort). p.net) (ports_of k)
  nets_are =
      shown_nets 0 2 k.pairing.ports
      ∙ ap (λ (ports : List Port). map (λ (p : Port). p.net) ports) (ports_shown k.rules (cell_at k.design k.cell) k.pairing ready.roles)
      ∙ map-map (λ (p : Port). p.net) unnamed (ports_of k)

  -- they are nets of the circuit
  pub nets_low : All (λ net. net < most_nets) (nets_by 2 k.pairing.ports)
  nets_low = subst (λ (nets : List ℕ). All (λ net. net < most_nets) nets) (sym nets_are) (All-map (λ net. net < most_nets) (λ (p : CellPort). p.net) (ports_of k) (all_by (λ (p : CellPort). p.net < most_nets) (ports_of k) low))
    where
      low : (p : CellPort) → Among (ports_of k) p → p.net < most_nets
      low p m =
          let names : List (List ℕ) = (cell_at k.design k.cell).ports in
          let below : p.net < length k.circuit.nets = all_among (λ net. net < length k.circuit.nets) (port_nets k.rules names) p.net ready.ports (m.0, net_is 0 names (port_nets k.rules names) k.pairing.ports m.0 p m.1) in
          omega (arith, below, ready.circuit.net_limit)

  -- the one at a place is where a fault of that port stands
  pub net_is_site : (place : ℕ) → net_at 2 k.pairing.ports place ≡ site_of k Differs place
  net_is_site place =
      ap (λ (nets : List ℕ). unwrap_or (slice_get nets place) 0) nets_are
      ∙ ap (λ (net : Option ℕ). unwrap_or net 0) (slice_get-map (λ (p : CellPort). p.net) (ports_of k) place)
