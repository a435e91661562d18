-- A cell without holds and clock ports: no net of its circuit carries a clock, it has no state, and its variables are its input ports.
use Rattle.std.proofs.Common.{◌≡◌, ℕ, zero, suc, Bool, true, false, cond, List, [], ◌∷◌, ◌++◌, Option, Some, None, length, map, append-nil, ap, ap₂, refl, sym, subst, ◌∙◌, inl, inr}
use Rattle.std.specs.Prelude.{filter_map, find, flat_map, not, option_map}
use Rattle.std.specs.List.{enumerate_from}
use Rattle.std.proofs.lemmas.Option.{none-some, same_Some}
use Rattle.formed_cells.specs.Formed.{IsFormed}
use Rattle.replaced_instances.proofs.OutputPorts.{port_of_flat}
use Rattle.same_phases.proofs.SettingLaws.{no_groups}
use Rattle.same_phases.specs.Phases.{IsUnclocked}
use Rattle.vrt_model.proofs.Members.{among_either, among_flat_map, among_map}
use Rattle.vrt_model.proofs.Tests.{neither}
use Rattle.vrt_model.specs.Assignment.{Tied}
use Rattle.vrt_model.specs.Comparison.{Comparison, cell_at, ports_of, tied_inputs}
use Rattle.vrt_model.specs.Elements.{element_names}
use Rattle.vrt_model.specs.FlatCircuit.{flat_circuit_of, flat_nets, kind_by_role, own_flat_nets, plain_net, port_nets_of, supply_flat}
use Rattle.vrt_model.specs.Held.{IsValuation, bit_of, is_input_of, setting_of, sources_of}
use Rattle.vrt_model.specs.Lists.{Among, At, path_name}
use Rattle.vrt_model.specs.Unrolled.{Top, all_places, globals_of, own_nets, path_text}
use Rattle.vrt_model.specs.Unsupported.{comparison_of, element_without_group, is_reached, line_without_element, unmatched}
use Rattle.vrt_model.specs.Variables.{is_free, places, variables_of}
use Rattle.vrt_model.specs.declared.blif.Blif.{Blif}
use Rattle.vrt_model.specs.declared.circuit.FlatNet.{FlatNet}
use Rattle.vrt_model.specs.declared.circuit.NetKind.{NetKind}
use Rattle.vrt_model.specs.declared.circuit.NetKind.TheVariants.{Supply as SupplyNet, Clock as ClockNet, Input as InputNet, Plain}
use Rattle.vrt_model.specs.declared.design.Design.{Design}
use Rattle.vrt_model.specs.declared.groups.Group.{Group as HoldGroup}
use Rattle.vrt_model.specs.declared.groups.Source.{Source}
use Rattle.vrt_model.specs.declared.groups.Source.TheVariants.{Element, Group}
use Rattle.vrt_model.specs.declared.pairing.PortRole.{PortRole}
use Rattle.vrt_model.specs.declared.pairing.PortRole.TheVariants.{Supply, Clock, Input, Output}
use Rattle.vrt_model.specs.declared.rules.ClockRef.{ClockRef}
use Rattle.vrt_model.specs.declared.rules.Rules.{Rules}
use Rattle.written_logic.proofs.InputNets.{AllPlain, AreTied, bits_back, input_at, nets_are_tied, source_of, sources_front}
use Rattle.written_logic.specs.Logics.{IsCombinational}

-- ---- nets

-- the clock that a net carries
abbrev clock_in : NetKind → Option ClockRef
clock_in (SupplyNet value) = None
clock_in (ClockNet clock) = Some clock
clock_in InputNet = None
clock_in Plain = None

clock_role : (role : PortRole) (clock : ClockRef) → kind_by_role role ≡ ClockNet clock → role ≡ Clock clock
clock_role (Supply value) clock e = absurd (none-some clock (ap clock_in e))
clock_role (Clock other) clock e = ap (λ (c : ClockRef). Clock c) (same_Some other clock (ap clock_in e))
clock_role (Input signal) clock e = absurd (none-some clock (ap clock_in e))
clock_role (Output signal) clock e = absurd (none-some clock (ap clock_in e))

-- the global nets and those inside are plain
globals_plain : (t : Top) → AllPlain (map plain_net (globals_of t))
globals_plain t i net at = (let from = among_map plain_net (globals_of t) net (i, at) in ap (λ (n : FlatNet). n.kind) (sym from.2))

inner_plain : (t : Top) → AllPlain (flat_map (own_flat_nets t) (all_places t))
inner_plain t i net at =
    let place = among_flat_map (own_flat_nets t) (all_places t) net (i, at) in
    let from =
    among_map (λ (name : List ℕ). plain_net (path_name (path_text place.0.path) name)) (own_nets t.design t.rules (cell_at t.design place.0.cell)) net place.2 in
    ap (λ (n : FlatNet). n.kind) (sym from.2)

-- ---- elements

-- without groups each element is without one
no_element : (names : List (List ℕ)) → option_map (λ (p : ℕ × List ℕ). p.1) (find (λ (p : ℕ × List ℕ). not (is_reached [] p.0)) (enumerate_from 0 names)) ≡ None → names ≡ []
no_element [] e = refl
no_element (x ∷ xs) e = absurd (none-some x (sym e))

module _ (design : Design) (blif : Blif) (rules : Rules) (cell m : ℕ) (formed : IsFormed (comparison_of design blif rules cell m))
    (free : IsCombinational (comparison_of design blif rules cell m)) where
  abbrev k : Comparison
  k = comparison_of design blif rules cell m

  abbrev t : Top
  t = record { design = design; rules = rules; cell = cell; roles = k.pairing.ports }

  abbrev names : List (List ℕ)
  names = (cell_at design cell).ports

  nets_are : (comparison_of design blif rules cell m).circuit.nets ≡ flat_nets t
  unfolding flat_circuit_of
  nets_are = refl

  none_whole : (comparison_of design blif rules cell m).circuit.wholes ≡ []
  unfolding flat_circuit_of
  none_whole = refl

  -- ---- clocks

  port_carries : (net : FlatNet) (clock : ClockRef) → Among (port_nets_of rules names k.pairing.ports) net → net.kind ≡ ClockNet clock → ⊥
  port_carries net clock there is =
      let port = port_of_flat rules names k.pairing.ports 0 2 there.0 net formed.roles.each there.1 in
      free.clocks port.0 clock port.1 (clock_role port.0.role clock (sym port.3 ∙ is))

  plain_carries : (net : FlatNet) (clock : ClockRef) → net.kind ≡ Plain → net.kind ≡ ClockNet clock → ⊥
  plain_carries net clock plain is = none-some clock (ap clock_in (sym plain ∙ is))

  carries : (net : FlatNet) (clock : ClockRef) (i : ℕ) → At (flat_nets t) i net → net.kind ≡ ClockNet clock → ⊥
  carries net clock zero e is = none-some clock (ap (λ (n : FlatNet). clock_in n.kind) (same_Some (supply_flat rules false) net e) ∙ ap clock_in is)
  carries net clock (suc zero) e is = none-some clock (ap (λ (n : FlatNet). clock_in n.kind) (same_Some (supply_flat rules true) net e) ∙ ap clock_in is)
  carries net clock (suc (suc i)) e is =
      let ports = port_nets_of rules names k.pairing.ports in
      let globals = map plain_net (globals_of t) in
      let inner = flat_map (own_flat_nets t) (all_places t) in
      elim (among_either (ports ++ globals) inner net (i, e)) [
        | inl front ↦ elim (among_either ports globals net front) [
          | inl port ↦ port_carries net clock port is
          | inr global ↦ plain_carries net clock (globals_plain t global.0 net global.1) is
        ]
        | inr inside ↦ plain_carries net clock (inner_plain t inside.0 net inside.1) is
      ]

  pub unclocked : IsUnclocked (comparison_of design blif rules cell m).circuit
  unclocked = record {
    ranges = record { devices = formed.circuit.devices; holds = formed.circuit.holds; wholes = formed.circuit.wholes };
    wholes = none_whole;
    clocks = λ net clock there is. (let among : Among (flat_nets t) net = subst (λ (ns : List FlatNet). Among ns net) nets_are there in carries net clock among.0 among.1 is);
  }

  -- ---- state

  pub no_group : (comparison_of design blif rules cell m).groups ≡ []
  no_group = no_groups k.circuit k.model free.holds

  pub elements_are : unmatched rules (cell_at design cell).name (comparison_of design blif rules cell m).model (comparison_of design blif rules cell m).groups ≡ None
      → element_names (comparison_of design blif rules cell m).model ≡ []
  elements_are matched =
      let first : element_without_group k.model k.groups ≡ None = (neither (element_without_group k.model k.groups) (line_without_element rules (cell_at design cell).name k.model) matched).0 in
      no_element (element_names k.model) (subst (λ (gs : List HoldGroup). element_without_group k.model gs ≡ None) no_group first)

  -- ---- variables

  tied : AreTied 2 (port_nets_of rules names k.pairing.ports) (ports_of (comparison_of design blif rules cell m))
  tied =
      nets_are_tied rules names k.pairing.ports 0 2 formed.roles.each (λ i name role value a b. formed.roles.supplies i name role value a b)

  input_sources : filter_map input_at (enumerate_from 0 (flat_nets t)) ≡ map source_of (tied_inputs (comparison_of design blif rules cell m))
  input_sources =
      let ports = port_nets_of rules names k.pairing.ports in
      let globals = map plain_net (globals_of t) in
      sources_front 2 (ports ++ globals) (flat_map (own_flat_nets t) (all_places t)) (inner_plain t) ∙ sources_front 2 ports globals (globals_plain t) ∙ tied.sources

  pub sources_are : element_names (comparison_of design blif rules cell m).model ≡ [] → (phase : ℕ)
      → sources_of (comparison_of design blif rules cell m) phase ≡ map source_of (tied_inputs (comparison_of design blif rules cell m))
  unfolding variables_of
  sources_are none phase =
      let inputs : List Source = filter_map input_at (enumerate_from 0 k.circuit.nets) in
      ap₂ (λ (es : List (List ℕ)) (gs : List HoldGroup).
      (inputs ++ map (λ (e : ℕ). Element e) (places 0 es))
      ++ filter_map (λ (p : ℕ × HoldGroup). cond (is_free k.circuit phase p.1) (Some (Group p.0)) None) (enumerate_from 0 gs)) none no_group
      ∙ append-nil (inputs ++ []) ∙ append-nil inputs
      ∙ ap (λ (ns : List FlatNet). filter_map input_at (enumerate_from 0 ns)) nets_are ∙ input_sources

  -- the bits of a valuation are those of the input ports
  pub valuations_are : element_names (comparison_of design blif rules cell m).model ≡ [] → (phase : ℕ) (bits : List Bool) → IsValuation (comparison_of design blif rules cell m) phase bits
      → map (λ (t : Tied). (setting_of (comparison_of design blif rules cell m) phase bits).inputs t.net) (tied_inputs (comparison_of design blif rules cell m)) ≡ bits
  unfolding setting_of
  valuations_are none phase bits len =
      let ties : List Tied = tied_inputs k in
      let sources = sources_are none phase in
      ap (λ (ss : List Source). map (λ (t : Tied). bit_of (is_input_of t.net) ss bits) ties) sources
      ∙ bits_back 2 ties bits tied.rises (len ∙ ap (λ (ss : List Source). length ss) sources)
