-- What a valuation gives in two circuits with the same nets, the same groups, and holds that are the same but for their ends.
use Rattle.std.proofs.Common.{◌≡◌, ℕ, suc, ◌+◌, ◌&&◌, Bool, cond, List, [], ◌∷◌, ◌++◌, length, map, Option, Some, None, arith, subst, sym, refl, ◌∙◌, ap, ap₂}
use Rattle.std.specs.Prelude.{filter_map, find, is_none, option_map, slice_get, unwrap_or, ◌==◌}
use Rattle.std.specs.List.{enumerate_from, list_all}
use Rattle.std.proofs.lemmas.List.{length-map}
use Rattle.std.proofs.lemmas.Option.{slice_get-map}
use mathlib.Core.Path.{fun_ext}
use Rattle.checked_chain.proofs.GroupLaws.{groups_are_same, map_of_mapped}
use Rattle.checked_chain.specs.Holds.{ChainKeepsHolds, ConstraintsAreSame, HaveSameHolds, IsOfChain, SettingsAreSame, VariablesAreSame, without_end}
use Rattle.vrt_model.specs.Checked.{with_circuit}
use Rattle.vrt_model.specs.CheckedParts.{moved_end}
use Rattle.vrt_model.specs.Comparison.{Comparison, net_name}
use Rattle.vrt_model.specs.Constraints.{Meets, is_entered, meets, meets_assumes, meets_enters}
use Rattle.vrt_model.specs.Cut.{Cut}
use Rattle.vrt_model.specs.Elements.{element_names}
use Rattle.vrt_model.specs.FlatCircuit.{flat_circuit_of, flat_holds}
use Rattle.vrt_model.specs.Groups.{groups_of}
use Rattle.vrt_model.specs.Held.{bit_of, group_bit_at, held_by, held_in, is_element, is_input_of, member_of, setting_of, sources_of, variable_names}
use Rattle.vrt_model.specs.Lists.{differ}
use Rattle.vrt_model.specs.State.{Setting}
use Rattle.vrt_model.specs.Variables.{enter_of, entered_bit, hold_at, is_input, least_net, places, variable_name, variables_of}
use Rattle.vrt_model.specs.declared.blif.Blif.{Blif}
use Rattle.vrt_model.specs.declared.circuit.Circuit.{Circuit}
use Rattle.vrt_model.specs.declared.circuit.Enter.{Enter}
use Rattle.vrt_model.specs.declared.circuit.FlatNet.{FlatNet}
use Rattle.vrt_model.specs.declared.circuit.Hold.{Hold}
use Rattle.vrt_model.specs.declared.flat_model.FlatModel.{FlatModel}
use Rattle.vrt_model.specs.declared.groups.Group.{Group as HoldGroup}
use Rattle.vrt_model.specs.declared.groups.Member.{Member}
use Rattle.vrt_model.specs.declared.groups.Source.{Source}
use Rattle.vrt_model.specs.declared.groups.Source.TheVariants.{Input, Element, Group}
use Rattle.vrt_model.specs.declared.ids.Net.{Net}
use Rattle.vrt_model.specs.declared.whole.CellFacts.{CellFacts}

pub chain_keeps_holds : ChainKeepsHolds
unfolding flat_circuit_of
chain_keeps_holds cut blif facts c h = record {
  nets = h.nets;
  holds = ap (map without_end) h.holds ∙ map_of_mapped (λ (g : Hold). record g { end = moved_end cut g.end }) without_end without_end (flat_holds cut.top) (λ x m. refl);
}

-- ---- holds by their places

module _ (c d : Circuit) (same : HaveSameHolds c d) where
  -- what does not depend on the end of a hold
  hold_same : {X : Type 0} (f : Hold → X) → ((h : Hold) → f (without_end h) ≡ f h) → (i : ℕ) → option_map f (hold_at c i) ≡ option_map f (hold_at d i)
  hold_same {X} f free i =
      sym (through (hold_at c i)) ∙ ap (option_map f) (sym (slice_get-map without_end c.holds i))
      ∙ ap (λ (hs : List Hold). option_map f (slice_get hs i)) same.holds ∙ ap (option_map f) (slice_get-map without_end d.holds i) ∙ through (hold_at d i)
    where
      through : (o : Option Hold) → option_map f (option_map without_end o) ≡ option_map f o
      through None = refl
      through (Some h) = ap (λ (x : X). Some x) (free h)

  pub enter_same : (phase : ℕ) → enter_of c phase ≡ enter_of d phase
  enter_same phase =
      fun_ext (λ i. ap (λ (o : Option (List Enter)). option_map (λ (e : Enter). e.value) (find (λ (e : Enter). e.phase == phase) (unwrap_or o []))) (hold_same (λ (h : Hold). h.enters) (λ h. refl) i))

  entered_same : (phase : ℕ) (group : HoldGroup) → entered_bit c phase group ≡ entered_bit d phase group
  entered_same phase group =
      ap (λ (f : ℕ → Option Bool). slice_get (filter_map (λ (m : Member). option_map (λ (v : Bool). differ m.inverted v) (f m.hold)) group.members) 0) (enter_same phase)

  -- ---- variables

  abbrev variables_by : List FlatNet → (HoldGroup → Option Bool) → FlatModel → List HoldGroup → List Source
  variables_by nets entered model groups =
      filter_map (λ (p : ℕ × FlatNet). cond (is_input p.1.kind) (let net : Net = record { 0 = p.0 } in Some (Input net)) None) (enumerate_from 0 nets)
      ++ map (λ (e : ℕ). Element e) (places 0 (element_names model))
      ++ filter_map (λ (p : ℕ × HoldGroup). cond (is_none p.1.element && is_none (entered p.1)) (Some (Group p.0)) None) (enumerate_from 0 groups)

  pub variables_same : (model : FlatModel) (groups : List HoldGroup) (phase : ℕ) → variables_of c model groups phase ≡ variables_of d model groups phase
  unfolding variables_of
  variables_same model groups phase =
      ap₂ (λ (nets : List FlatNet) (entered : HoldGroup → Option Bool). variables_by nets entered model groups) same.nets (fun_ext (entered_same phase))

  -- ---- held bits

  pub held_same : (phase : ℕ) (sources : List Source) (bits : List Bool) (number : ℕ) (groups : List HoldGroup) (hold : ℕ)
      → held_in c phase sources bits number groups hold ≡ held_in d phase sources bits number groups hold
  held_same phase sources bits number [] hold = refl
  held_same phase sources bits number (group ∷ groups) hold =
      ap₂ (λ (a b : Bool). held_by (member_of hold group) a b) (ap (group_bit_at sources bits number group.element) (entered_same phase group)) (held_same phase sources bits (suc number) groups hold)

  -- ---- names

  least_same : (group : HoldGroup) → least_net c group ≡ least_net d group
  least_same group = ap (λ (o : Option ℕ). unwrap_or o 0) (hold_same (λ (h : Hold). h.net.0) (λ h. refl) (unwrap_or (option_map (λ (m : Member). m.hold) (slice_get group.members 0)) 0))

  pub net_name_same : (n : ℕ) → net_name c n ≡ net_name d n
  net_name_same n = ap (λ (nets : List FlatNet). unwrap_or (option_map (λ (net : FlatNet). net.name) (slice_get nets n)) []) same.nets

  pub name_same : (model : FlatModel) (groups : List HoldGroup) (s : Source) → variable_name c model groups s ≡ variable_name d model groups s
  name_same model groups (Input net) = net_name_same net.0
  name_same model groups (Element e) = refl
  name_same model groups (Group g) =
      ap (λ (f : HoldGroup → List ℕ). unwrap_or (option_map f (slice_get groups g)) []) (fun_ext (λ group. net_name_same (least_net c group) ∙ ap (net_name d) (least_same group)))

  -- ---- constraints

  all_by_number : {X : Type 0} (test : ℕ → Bool) (n : ℕ) (xs ys : List X) → length xs ≡ length ys
      → list_all (λ (p : ℕ × X). test p.0) (enumerate_from n xs) ≡ list_all (λ (p : ℕ × X). test p.0) (enumerate_from n ys)
  all_by_number test n [] [] e = refl
  all_by_number test n [] (y ∷ ys) e = absurd (omega (arith, e))
  all_by_number test n (x ∷ xs) [] e = absurd (omega (arith, e))
  all_by_number test n (x ∷ xs) (y ∷ ys) e = ap (λ (b : Bool). test n && b) (all_by_number test (n + 1) xs ys (omega (arith, e)))

  as_many : length c.holds ≡ length d.holds
  as_many = sym (length-map c.holds without_end) ∙ ap (λ (hs : List Hold). length hs) same.holds ∙ length-map d.holds without_end

  pub meets_same : (k : Comparison) (phase : ℕ) (setting : Setting)
      → (meets_assumes k.design k.rules k.cell c phase setting.inputs && meets_enters c phase setting.held) ≡ (meets_assumes k.design k.rules k.cell d phase setting.inputs && meets_enters d phase setting.held)
  meets_same k phase setting =
      ap₂ (λ (a b : Bool). a && b) (assumes_by same.nets)
      (all_by_number (λ i. is_entered (enter_of c phase i) (setting.held i)) 0 c.holds d.holds as_many
      ∙ ap (λ (f : ℕ → Option Bool). list_all (λ (p : ℕ × Hold). is_entered (f p.0) (setting.held p.0)) (enumerate_from 0 d.holds)) (enter_same phase))
    where
      assumes_by : c.nets ≡ d.nets → meets_assumes k.design k.rules k.cell c phase setting.inputs ≡ meets_assumes k.design k.rules k.cell d phase setting.inputs
      assumes_by e = ap (λ (nets : List FlatNet). meets_assumes k.design k.rules k.cell (record c { nets = nets }) phase setting.inputs) e

-- ---- a comparison with a circuit of the chain

module _ (k : Comparison) (c : Circuit) (same : HaveSameHolds c k.circuit) (groups : groups_of c k.model ≡ k.groups) where
  sources_same : (phase : ℕ) → sources_of (with_circuit k c) phase ≡ sources_of k phase
  sources_same phase =
      variables_same c k.circuit same k.model (groups_of c k.model) phase ∙ ap (λ (gs : List HoldGroup). variables_of k.circuit k.model gs phase) groups

  setting_same : (phase : ℕ) (bits : List Bool) → setting_of (with_circuit k c) phase bits ≡ setting_of k phase bits
  unfolding setting_of
  setting_same phase bits =
      ap₂ (λ (sources : List Source) (held : ℕ → Bool). let one : Setting = record { inputs = λ n. bit_of (is_input_of n) sources bits; held = held; elements = λ e. bit_of (is_element e) sources bits } in one)
      (sources_same phase)
      (fun_ext (λ hold.
      held_same c k.circuit same phase (sources_of (with_circuit k c) phase) bits 0 (groups_of c k.model) hold
      ∙ ap₂ (λ (sources : List Source) (gs : List HoldGroup). held_in k.circuit phase sources bits 0 gs hold) (sources_same phase) groups))

  names_same : (phase : ℕ) → variable_names (with_circuit k c) phase ≡ variable_names k phase
  names_same phase =
      ap₂ (λ (name : Source → List ℕ) (sources : List Source). map name sources)
      (fun_ext (name_same c k.circuit same k.model (groups_of c k.model)) ∙ ap (λ (gs : List HoldGroup). variable_name k.circuit k.model gs) groups) (sources_same phase)

  tests_same : (phase : ℕ) (bits : List Bool) → meets (with_circuit k c) phase (setting_of (with_circuit k c) phase bits) ≡ meets k phase (setting_of k phase bits)
  tests_same phase bits = meets_same c k.circuit same k phase (setting_of (with_circuit k c) phase bits) ∙ ap (meets k phase) (setting_same phase bits)

  met : (phase : ℕ) (bits : List Bool) → Meets (with_circuit k c) phase bits → Meets k phase bits
  met phase bits h = record {
    valuation = h.valuation ∙ ap (λ (sources : List Source). length sources) (sources_same phase);
    constraints = sym (tests_same phase bits) ∙ h.constraints;
  }

  met_there : (phase : ℕ) (bits : List Bool) → Meets k phase bits → Meets (with_circuit k c) phase bits
  met_there phase bits h = record {
    valuation = h.valuation ∙ ap (λ (sources : List Source). length sources) (sym (sources_same phase));
    constraints = tests_same phase bits ∙ h.constraints;
  }

module _ (k : Comparison) (blif : Blif) (facts : List CellFacts) (cut : Cut) (c : Circuit) (is : IsOfChain k blif facts cut c) where
  pub holds_of_chain : HaveSameHolds c k.circuit
  holds_of_chain = subst (λ (d : Circuit). HaveSameHolds c d) (sym is.flat) (chain_keeps_holds cut blif facts c is.circuit)

  pub groups_of_chain : groups_of c k.model ≡ k.groups
  groups_of_chain =
      groups_are_same cut blif facts c k.model is.ends is.circuit ∙ ap (λ (d : Circuit). groups_of d k.model) (sym is.flat) ∙ sym is.groups

pub settings_are_same : SettingsAreSame
settings_are_same k blif facts cut c is phase bits =
    let same = holds_of_chain k blif facts cut c is in
    let groups = groups_of_chain k blif facts cut c is in
    (sources_same k c same groups phase, setting_same k c same groups phase bits)

pub variables_are_same : VariablesAreSame
variables_are_same k blif facts cut c is phase = names_same k c (holds_of_chain k blif facts cut c is) (groups_of_chain k blif facts cut c is) phase

pub constraints_are_same : ConstraintsAreSame
constraints_are_same k blif facts cut c is phase bits =
    let same = holds_of_chain k blif facts cut c is in
    let groups = groups_of_chain k blif facts cut c is in
    (met k c same groups phase bits, met_there k c same groups phase bits)
