-- What the order of the faults of the checked circuit rests on.
use Rattle.std.proofs.Common.{◌≡◌, ◌↔◌, ℕ, zero, suc, ◌<◌, ◌||◌, Bool, true, false, cond, List, [], ◌∷◌, map, length, refl, ap, sym, ◌∙◌, subst, arith, inl, inr}
use Rattle.std.specs.Prelude.{is_some}
use Rattle.std.specs.List.{list_any}
use Rattle.std.proofs.lemmas.Bool.{or_cases}
use Rattle.std.proofs.lemmas.Option.{none-some, same_Some}
use Rattle.firm_faults.specs.FirmGround.{AreNamedNetsLinked, IsOrderedAt}
use Rattle.firm_faults.specs.Settled.{nets_named_at}
use Rattle.placed_cells.specs.Above.{net_above}
use Rattle.replaced_cells.proofs.BrokenLaws.{assumes_constrain, clocks_constrain}
use Rattle.replaced_instances.proofs.OutputPorts.{pin_at}
use Rattle.replaced_instances.proofs.StepPorts.{pins_shifted}
use Rattle.replaced_instances.specs.Steps.{IsStep, compared_at}
use Rattle.substitution_laws.proofs.ChainLaws.{ports_within}
use Rattle.substitution_laws.proofs.ToldLaws.{chain_wired, ends_before}
use Rattle.substitution_laws.proofs.ChosenLaws.{chosen_instances_are_steps}
use Rattle.substitution_laws.proofs.EndsLaws.{chosen_ends_are_shown}
use Rattle.substitution_laws.proofs.SeenNets.{seen_within}
use Rattle.substitution_laws.proofs.OriginalLaws.{place_of_original}
use Rattle.substitution_laws.proofs.WholeCells.{ports_at, whole_chosen, wholes_are_determined}
use Rattle.substitution_laws.proofs.WholeRanges.{circuits_have_ranges}
use Rattle.substitution_laws.specs.Chosen.{IsChoiceByFacts}
use Rattle.substitution_laws.specs.Agreement.{IsCheckedByFacts}
use Rattle.substitution_laws.specs.FirstFaults.{ChainCircuitsAreOrdered}
use Rattle.substitution_laws.specs.StepDowns.{whole_instances}
use Rattle.told_circuits.proofs.ToldLaws.{known_nets_have_test}
use Rattle.paired_ports.proofs.PortLists.{net_for_each}
use Rattle.vrt_model.proofs.Filtered.{device_among}
use Rattle.vrt_model.proofs.Lists.{at_map, map_among, map_at, one_at}
use Rattle.vrt_model.proofs.Members.{any_among}
use Rattle.vrt_model.proofs.Tests.{some_of}
use Rattle.vrt_model.specs.CellRules.{assumed, clock_of_port, is_constrained}
use Rattle.vrt_model.specs.Checked.{IsCircuitWith, before, top_of, with_circuit}
use Rattle.vrt_model.specs.Comparison.{CellPort, Comparison, cell_at, is_observed, phase_at, port_nets, ports_from, ports_of}
use Rattle.vrt_model.specs.Cut.{Cut, NumberedPlace}
use Rattle.vrt_model.specs.Expressions.{names_in}
use Rattle.vrt_model.specs.FlatCircuit.{flat_instance, net_id}
use Rattle.vrt_model.specs.Known.{IsKnown}
use Rattle.vrt_model.specs.Lists.{Among, At, has_name}
use Rattle.vrt_model.specs.Places.{named_nets_from}
use Rattle.vrt_model.specs.State.{Setting}
use Rattle.vrt_model.specs.Unrolled.{Top}
use Rattle.vrt_model.specs.Unsupported.{IsSupported}
use Rattle.vrt_model.specs.WholeInstances.{Pin, pins_of}
use Rattle.vrt_model.specs.declared.blif.Blif.{Blif}
use Rattle.vrt_model.specs.declared.circuit.Circuit.{Circuit}
use Rattle.vrt_model.specs.declared.circuit.FlatInstance.{FlatInstance}
use Rattle.vrt_model.specs.declared.ids.Net.{Net}
use Rattle.vrt_model.specs.declared.pairing.PortRole.{PortRole}
use Rattle.vrt_model.specs.declared.rules.Expr.{Expr}
use Rattle.vrt_model.specs.declared.whole.CellFacts.{CellFacts}
use Rattle.whole_ranks.proofs.KnownLaws.{known_nets_are_solved}
use Rattle.whole_ranks.proofs.PlaceLaws.{output_pin}
use Rattle.channel_parts.specs.OneSolution.{AreDetermined}
use Rattle.whole_solutions.proofs.ObservedCases.{gate_observed, instance_observed}

-- ---- named ports

-- a listed net is that of a named port
named_from : (named : List ℕ → Bool) (names : List (List ℕ)) (nets : List Net) (n : ℕ) → Among (named_nets_from named names nets) n
    → (j : ℕ) × (name : List ℕ) × (net : Net) × At names j name × At nets j net × (named name ≡ true) × (net.0 ≡ n)
named_from named [] nets n on = absurd (none-some n on.1)
named_from named (y ∷ names) [] n on = absurd (none-some n on.1)
named_from named (y ∷ names) (m ∷ nets) n on = by_test (named y) refl on (λ there. named_from named names nets n there)
  where
    later : (j : ℕ) × (name : List ℕ) × (net : Net) × At names j name × At nets j net × (named name ≡ true) × (net.0 ≡ n)
        → (j : ℕ) × (name : List ℕ) × (net : Net) × At (y ∷ names) j name × At (m ∷ nets) j net × (named name ≡ true) × (net.0 ≡ n)
    later (j, name, net, e, f, is, same) = (suc j, name, net, e, f, is, same)

    by_test : (b : Bool) → named y ≡ b → Among (cond b (m.0 ∷ named_nets_from named names nets) (named_nets_from named names nets)) n
        → (Among (named_nets_from named names nets) n → (j : ℕ) × (name : List ℕ) × (net : Net) × At names j name × At nets j net × (named name ≡ true) × (net.0 ≡ n))
        → (j : ℕ) × (name : List ℕ) × (net : Net) × At (y ∷ names) j name × At (m ∷ nets) j net × (named name ≡ true) × (net.0 ≡ n)
    by_test true is (zero, here) rest = (0, y, m, refl, refl, is, same_Some m.0 n here)
    by_test true is (suc i, there) rest = later (rest (i, there))
    by_test false is there rest = later (rest there)

-- the port of a name
port_named : (first : ℕ) (names : List (List ℕ)) (nets : List ℕ) (roles : List PortRole) (j : ℕ) (name : List ℕ) → length nets ≡ length names → length roles ≡ length names → At names j name
    → (port : CellPort) × At (ports_from first names nets roles) j port × (port.name ≡ name)
port_named first [] nets roles j name a b e = absurd (none-some name e)
port_named first (x ∷ names) [] roles j name a b e = absurd (omega (arith, a))
port_named first (x ∷ names) (n ∷ nets) [] j name a b e = absurd (omega (arith, b))
port_named first (x ∷ names) (n ∷ nets) (r ∷ roles) zero name a b e = (record { place = first; name = x; net = n; role = r }, refl, same_Some x name e)
port_named first (x ∷ names) (n ∷ nets) (r ∷ roles) (suc j) name a b e = port_named (suc first) names nets roles j name (omega (arith, a)) (omega (arith, b)) e

-- the net of an instance's port is where that of its cell is
net_at_port : (cut : Cut) (blif : Blif) (facts : List CellFacts) (h : IsChoiceByFacts cut blif facts) (i : ℕ) (p : NumberedPlace) (m : ℕ) (step : IsStep cut blif facts i p m)
    → IsSupported cut.top.design blif cut.top.rules p.at.cell m → (j : ℕ) (port : CellPort) (net : Net) → At (ports_of (compared_at cut.top blif p m)) j port → At (flat_instance p.at).ports j net
    → net.0 ≡ net_above cut.top p.at port.net
net_at_port cut blif facts h i p m step supported j port net e f =
    let q = compared_at cut.top blif p m in
    let above : CellPort → ℕ = λ x. net_above cut.top p.at x.net in
    let tied = at_map net_id p.at.ports j net f in
    let same = one_at (map above (ports_of q)) j tied.0 (above port) (subst (λ (ns : List ℕ). At ns j tied.0) (ports_at cut blif facts h i p m step supported) tied.1) (map_at above (ports_of q) j port e) in
    ap (λ (x : Net). x.0) (sym tied.2) ∙ same

-- ---- a circuit of the chain

module _ (k : Comparison) (cut : Cut) (blif : Blif) (facts : List CellFacts) (c : Circuit) (h : IsCheckedByFacts k cut blif facts c) (n : ℕ) (d : Circuit) (circuit : IsCircuitWith (before cut n) blif facts d) (phase : ℕ) (lt : phase < length cut.top.rules.phases) where
  abbrev t : Top
  t = cut.top

  -- the nets that the constraints of an instance name, by the netlist and its rules
  abbrev test_of : Top → FlatInstance → List ℕ → Bool
  test_of u y name = list_any (λ (e : Expr). has_name (names_in e) name) (assumed u.rules (cell_at u.design y.cell).name phase) || is_some (clock_of_port u.rules (cell_at u.design y.cell).name name)

  abbrev named_by : Top → FlatInstance → List ℕ
  named_by u y = named_nets_from (test_of u y) (cell_at u.design y.cell).ports y.ports

  -- a link that is marked leads from each to each output
  linked : AreNamedNetsLinked (with_circuit k d) (whole_instances (before cut n)) phase
  linked w y net j pin on there is named here =
      let from = place_of_original (before cut n) blif facts d w y circuit is in
      let p = from.0 in
      let chosen = whole_chosen cut n p from.1 in
      let step = chosen_instances_are_steps cut blif facts chosen.0 p h.choice chosen.1.place chosen.1.chosen in
      let q = compared_at t blif p step.0 in
      let at : ℕ → ℕ = λ x. net_above t p.at x in
      let cell = cell_at t.design p.at.cell in
      let listed : Among (named_by t (flat_instance p.at)) net =
      subst (λ (z : FlatInstance). Among (named_by t z) net) (sym from.3) (subst (λ (u : Top). Among (named_by u y) net) (sym h.top) named) in
      let found = named_from (test_of t (flat_instance p.at)) cell.ports (flat_instance p.at).ports net listed in
      let port = port_named 0 cell.ports (port_nets t.rules cell.ports) q.pairing.ports found.0 found.1 (net_for_each t.rules 2 cell.ports) step.1.roles.each found.3 in
      let above : found.2.0 ≡ at port.0.net = net_at_port cut blif facts h.choice chosen.0 p step.0 step.1 step.2 found.0 port.0 found.2 port.1 found.4 in
      let pins : (x : CellPort) → Among (ports_of q) x → Among (pins_of q p.at) (pin_at at x) =
      λ x m. subst (λ (ps : List Pin). Among ps (pin_at at x)) (sym (pins_shifted cut blif facts chosen.0 p step.0 step.1)) (map_among (pin_at at) (ports_of q) x m) in
      let to = output_pin (before cut n) blif facts p step.0 w step.1.paired from.2 pin (j, here) in
      let test : test_of t (flat_instance p.at) port.0.name ≡ true = ap (test_of t (flat_instance p.at)) port.2 ∙ found.5 in
      let link = (from.2.links step.0 step.1.paired).full phase (pin_at at port.0) to.0 pin j lt (pins port.0 (found.0, port.1)) to.1 (inr (test, (pin.signal, to.2))) here to.2 in
      let now = ap (λ (u : Top). (phase_at u.rules phase).name) h.top in
      (link.0, link.1, link.2 ∙ now, ap (λ (z : Net). z.0) link.3 ∙ (sym above ∙ found.6), link.4, link.5 test)

  -- and each is observed
  seen : (y : FlatInstance) (n : ℕ) → Among d.instances y → Among (nets_named_at (with_circuit k d) phase y) n → is_observed (with_circuit k d) phase n ≡ true
  seen y n on named =
      let name = (cell_at k.design y.cell).name in
      let found = named_from (test_of (top_of k) y) (cell_at k.design y.cell).ports y.ports n named in
      let constrained : is_constrained k.rules name ≡ true =
      elim (or_cases (list_any (λ (e : Expr). has_name (names_in e) found.1) (assumed k.rules name phase)) (is_some (clock_of_port k.rules name found.1)) found.5) [
        | inl assumes ↦ (let e = any_among (λ (e : Expr). has_name (names_in e) found.1) (assumed k.rules name phase) assumes in assumes_constrain k.rules name phase e.0 e.1)
        | inr clocks ↦ (let clock = some_of (clock_of_port k.rules name found.1) clocks in clocks_constrain k.rules name found.1 clock.0 clock.1)
      ] in
      instance_observed (with_circuit k d) phase n (y, found.2, on, (found.0, found.4), found.6, constrained)

  pub known : (test : ℕ → Bool) × ((net : ℕ) → (test net ≡ true) ↔ ((v : Bool) × IsKnown d (phase_at t.rules phase) net v))
  known = known_nets_have_test d (phase_at t.rules phase) (chain_wired k cut blif facts c h n phase d circuit lt)

  module _ (setting : Setting) where
    pub is_ordered : IsOrderedAt (with_circuit k d) (whole_instances (before cut n)) phase setting known.0
    is_ordered =
        let ranges = circuits_have_ranges cut blif facts n d h.choice h.formed (ends_before cut n (chosen_ends_are_shown cut blif facts h.choice)) circuit in
        let determined = subst (λ (u : Top). AreDetermined d (phase_at u.rules phase) (is_observed (with_circuit k d) phase)) h.top (wholes_are_determined k cut blif facts phase n d h.top h.choice lt circuit) in
        record {
          ranked = λ rank ranking. record {
            ranges = ranges;
            wholes = determined;
            gates = λ e on. gate_observed (with_circuit k d) phase e.gate.0 (e, (device_among true d e on).0, refl);
            nets = λ net s. seen_within (with_circuit k d) phase net ranges (ports_within k cut blif facts c h n d circuit) s;
            tested = subst (λ (u : Top). (net : ℕ) → (known.0 net ≡ true) ↔ ((v : Bool) × IsKnown d (phase_at u.rules phase) net v)) h.top known.1;
            ranking = ranking;
          };
          known_bits = λ a solves net v s is.
              known_nets_are_solved d (phase_at k.rules phase) (is_observed (with_circuit k d) phase) setting a ranges (λ w pin on there. (determined w on).plain pin there)
              (λ e on. gate_observed (with_circuit k d) phase e.gate.0 (e, (device_among true d e on).0, refl)) solves net v is s;
          linked = linked;
          seen = seen;
        }

pub chain_circuits_are_ordered : ChainCircuitsAreOrdered
chain_circuits_are_ordered k cut blif facts c n d phase setting h circuit lt = (
  (known k cut blif facts c h n d circuit phase lt).0,
  is_ordered k cut blif facts c h n d circuit phase lt setting,
)
