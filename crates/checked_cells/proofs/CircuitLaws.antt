-- A checked circuit has the nets, as many holds and the groups of the flat one, some of its instances, and is well formed.
use Rattle.std.proofs.Common.{◌≡◌, ℕ, suc, ◌<◌, ◌≤◌, not, cond, Bool, true, false, List, [], ◌∷◌, drop, length, ap, sym, subst, ◌∙◌, arith}
use Rattle.std.specs.Prelude.{All, filter}
use Rattle.std.proofs.lemmas.List.{length-map}
use Rattle.checked_cells.proofs.WholeLaws.{ranges}
use Rattle.checked_cells.specs.Circuits.{CheckedCircuitsAreFormed, CheckedCircuitsShare, SharesCircuit}
use Rattle.checked_chain.proofs.GroupLaws.{groups_are_same}
use Rattle.checked_chain.specs.Holds.{IsOfChain}
use Rattle.substitution_laws.proofs.BudgetLaws.{fewer_devices}
use Rattle.substitution_laws.proofs.DriveRanges.{flat_source}
use Rattle.substitution_laws.proofs.EndsLaws.{chosen_ends_are_shown}
use Rattle.substitution_laws.specs.Agreement.{IsCheckedByFacts}
use Rattle.vrt_model.proofs.Filtered.{filter_among}
use Rattle.vrt_model.proofs.Lists.{at_map, map_among}
use Rattle.vrt_model.proofs.Members.{all_among, all_by, among_map}
use Rattle.vrt_model.specs.CheckedParts.{moved_end}
use Rattle.vrt_model.specs.Circuits.{IsCircuit, IsNet}
use Rattle.vrt_model.specs.Comparison.{Comparison}
use Rattle.vrt_model.specs.Cut.{Cut, is_inside_whole}
use Rattle.vrt_model.specs.FlatCircuit.{flat_circuit_of, flat_holds, flat_instance, flat_instances}
use Rattle.vrt_model.specs.Groups.{groups_of}
use Rattle.vrt_model.specs.Levels.{IsSourceLevel}
use Rattle.vrt_model.specs.Lists.{Among, At}
use Rattle.vrt_model.specs.Unrolled.{Place, Top, all_places}
use Rattle.vrt_model.specs.declared.blif.Blif.{Blif}
use Rattle.vrt_model.specs.declared.circuit.Circuit.{Circuit}
use Rattle.vrt_model.specs.declared.circuit.FlatInstance.{FlatInstance}
use Rattle.vrt_model.specs.declared.circuit.FlatNet.{FlatNet}
use Rattle.vrt_model.specs.declared.circuit.Hold.{Hold}
use Rattle.vrt_model.specs.declared.ids.Net.{Net}
use Rattle.vrt_model.specs.declared.whole.CellFacts.{CellFacts}

-- ---- counts

-- what passes a test is not more than all
fewer_pass : {X : Type 0} (test : X → Bool) (xs : List X) → length (filter test xs) ≤ length xs
fewer_pass test [] = omega arith
fewer_pass {X} test (x ∷ xs) = by_test (test x) (fewer_pass test xs)
  where
    by_test : (b : Bool) → length (filter test xs) ≤ length xs → length (cond b (x ∷ filter test xs) (filter test xs)) ≤ suc (length xs)
    by_test true rest = omega (arith, rest)
    by_test false rest = omega (arith, rest)

module _ (k : Comparison) (cut : Cut) (blif : Blif) (facts : List CellFacts) (c : Circuit) (h : IsCheckedByFacts k cut blif facts c) where
  abbrev t : Top
  t = cut.top

  -- ---- what the two share

  same_nets : c.nets ≡ (flat_circuit_of t).nets
  unfolding flat_circuit_of
  same_nets = h.circuit.nets

  abbrev moved : Hold → Hold
  moved x = record x { end = moved_end cut x.end }

  hold_count : length c.holds ≡ length (flat_circuit_of t).holds
  unfolding flat_circuit_of
  hold_count = ap (λ (hs : List Hold). length hs) h.circuit.holds ∙ length-map (flat_holds t) moved

  instance_flat : (i : FlatInstance) → Among c.instances i → Among (flat_circuit_of t).instances i
  unfolding flat_circuit_of
  instance_flat i on =
      let test : Place → Bool = λ r. not (is_inside_whole cut r) in
      let from = among_map flat_instance (filter test (drop 1 (all_places t))) i (subst (λ (xs : List FlatInstance). Among xs i) h.circuit.instances on) in
      subst (λ (x : FlatInstance). Among (flat_instances t) x) from.2 (map_among flat_instance (drop 1 (all_places t)) from.0 (filter_among test (drop 1 (all_places t)) from.0 from.1).0)

  pub shares : SharesCircuit k c
  shares = record {
    nets = same_nets ∙ ap (λ (x : Circuit). x.nets) (sym h.flat);
    holds = hold_count ∙ ap (λ (x : Circuit). length x.holds) (sym h.flat);
    groups =
        groups_are_same cut blif facts c k.model (chosen_ends_are_shown cut blif facts h.choice) h.circuit
        ∙ ap (λ (x : Circuit). groups_of x k.model) (sym h.flat) ∙ sym h.groups;
    instances = λ i on. subst (λ (x : Circuit). Among x.instances i) (sym h.flat) (instance_flat i on);
  }

  -- ---- it is well formed

  pub chain : IsOfChain k blif facts cut c
  chain = record { top = h.top; flat = h.flat; groups = h.groups; circuit = h.circuit; ends = chosen_ends_are_shown cut blif facts h.choice }

  fewer_instances : length c.instances ≤ length (flat_circuit_of t).instances
  unfolding flat_circuit_of
  fewer_instances =
      let test : Place → Bool = λ r. not (is_inside_whole cut r) in
      let here = ap (λ (xs : List FlatInstance). length xs) h.circuit.instances ∙ length-map (filter test (drop 1 (all_places t))) flat_instance in
      let there = length-map (drop 1 (all_places t)) flat_instance in
      let less = fewer_pass test (drop 1 (all_places t)) in
      omega (arith, less, here, there)

  in_range : (net : Net) → IsNet (flat_circuit_of t) net → IsNet c net
  in_range net lt = subst (λ (nets : List FlatNet). net.0 < length nets) (sym same_nets) lt

  one_hold_each : (i j : ℕ) (g x : Hold) → At c.holds i g → At c.holds j x → g.net ≡ x.net → i ≡ j
  unfolding flat_circuit_of
  one_hold_each i j g x e f same =
      let one = at_map moved (flat_holds t) i g (subst (λ (hs : List Hold). At hs i g) h.circuit.holds e) in
      let two = at_map moved (flat_holds t) j x (subst (λ (hs : List Hold). At hs j x) h.circuit.holds f) in
      h.formed.one_hold i j one.0 two.0 one.1 two.1 (ap (λ (y : Hold). y.net) one.2 ∙ same ∙ ap (λ (y : Hold). y.net) (sym two.2))

  pub formed : IsCircuit c
  formed =
      let good = ranges k cut blif facts c h in
      let nets = ap (λ (ns : List FlatNet). length ns) same_nets in
      let net_limit = h.formed.net_limit in
      let device_limit = h.formed.device_limit in
      let instance_limit = h.formed.instance_limit in
      let devices = fewer_devices k blif facts cut c chain in
      let flat = ap (λ (x : Circuit). length x.devices) h.flat in
      let instances = fewer_instances in
      record {
        net_limit = omega (arith, nets, net_limit);
        device_limit = omega (arith, devices, flat, device_limit);
        instance_limit = omega (arith, instances, instance_limit);
        devices = good.devices;
        holds = good.holds;
        instances =
            all_by (λ (i : FlatInstance). All (IsNet c) i.ports) c.instances
            (λ i on. all_by (IsNet c) i.ports
            (λ net there. in_range net
            (all_among (IsNet (flat_circuit_of t)) i.ports net (all_among (λ (x : FlatInstance). All (IsNet (flat_circuit_of t)) x.ports) (flat_circuit_of t).instances i h.formed.instances (instance_flat i on)) there)));
        wholes = good.wholes;
        one_hold = one_hold_each;
        source = subst IsSourceLevel (flat_source t ∙ sym h.circuit.source) h.formed.source;
      }

pub checked_circuits_share : CheckedCircuitsShare
checked_circuits_share k cut blif facts c h = shares k cut blif facts c h

pub checked_circuits_are_formed : CheckedCircuitsAreFormed
checked_circuits_are_formed k cut blif facts c h = formed k cut blif facts c h
