-- Which nets an instance that comes to be whole hides, and that all others stay.
use Rattle.std.proofs.Common.{◌≡◌, ◌+◌, ◌<◌, ◌&&◌, ◌||◌, ◌∷◌, [], ℕ, zero, suc, not, List, Bool, true, false, length, Option, Some, None, refl, ap, sym, ◌∙◌, subst, arith, inl, inr}
use Rattle.std.specs.Prelude.{drop, filter, is_none, is_some, nat_le, nat_lt, option_map, ◌==◌}
use Rattle.std.specs.List.{enumerate_from, list_all, list_any}
use Rattle.std.proofs.lemmas.Bool.{and_from, cases_lt, eq-eqb, false≢true, leb-true, ltb-true, or_cases, or_left, or_right}
use Rattle.std.proofs.lemmas.Option.{none-some, same_Some}
use Rattle.checked_chain.proofs.ChoiceLaws.{numbered}
use Rattle.checked_chain.proofs.WholeLaws.{unlinked, whole_beside}
use Rattle.placed_cells.proofs.DepthLaws.{ordered_is_within_depth}
use Rattle.placed_cells.proofs.CutLaws.{pin_among}
use Rattle.placed_cells.proofs.InstanceLaws.{net_inside}
use Rattle.placed_cells.proofs.AboveLaws.{net_high}
use Rattle.placed_cells.proofs.ListLaws.{in_enumerated, zip_right}
use Rattle.placed_cells.proofs.SplitLaws.{port_below}
use Rattle.placed_cells.specs.Above.{net_above, place_alone}
use Rattle.placed_cells.specs.Rows.{size_inside}
use Rattle.placed_cells.specs.Splits.{IsOutsideOf, IsSplit}
use Rattle.replaced_instances.proofs.StepLeft.{number_there, outside_is}
use Rattle.replaced_instances.proofs.StepOutputs.{none_behind, one_more_place}
use Rattle.replaced_instances.proofs.StepPlaces.{behind_inside, last_whole, which}
use Rattle.replaced_instances.proofs.StepPorts.{none, observes, plain_port, tied}
use Rattle.replaced_instances.specs.Steps.{IsStep, compared_at, is_outside_at}
use Rattle.vrt_model.proofs.Filtered.{filter_among}
use Rattle.vrt_model.proofs.Lists.{among_filter_map, at_there, map_among}
use Rattle.vrt_model.proofs.Members.{among_any, among_either, among_later, among_map, at_all}
use Rattle.vrt_model.specs.CellRules.{is_constrained, is_observed_port}
use Rattle.vrt_model.specs.Checked.{IsCircuitWith, before, top_of}
use Rattle.vrt_model.specs.CheckedParts.{checked_devices, checked_instances}
use Rattle.vrt_model.specs.Comparison.{Comparison, CellPort, cell_at, input_signal, is_observed, output_signal, port_nets, ports_from, ports_of}
use Rattle.vrt_model.specs.Cut.{Cut, NumberedPlace, is_inside, is_inside_whole, is_whole, numbered_places, whole_places}
use Rattle.vrt_model.specs.FlatCircuit.{flat_instance, net_id}
use Rattle.vrt_model.specs.Known.{IsPlain}
use Rattle.vrt_model.specs.Lists.{Among, At}
use Rattle.vrt_model.specs.PairedPorts.{Paired, Model, Skipped, Missing, paired_model}
use Rattle.vrt_model.specs.Unrolled.{Place, Top, all_places, places_in}
use Rattle.vrt_model.specs.Variables.{places}
use Rattle.vrt_model.specs.WholeInstances.{IsWholeAt, Pin, all_outputs, input_pins, pins_of, whole_at}
use Rattle.vrt_model.specs.declared.blif.Blif.{Blif}
use Rattle.vrt_model.specs.declared.circuit.Circuit.{Circuit}
use Rattle.vrt_model.specs.declared.circuit.Device.{Device}
use Rattle.vrt_model.specs.declared.circuit.FlatInstance.{FlatInstance}
use Rattle.vrt_model.specs.declared.circuit.Hold.{Hold}
use Rattle.vrt_model.specs.declared.ids.Net.{Net}
use Rattle.vrt_model.specs.declared.pairing.PortRole.{PortRole}
use Rattle.vrt_model.specs.declared.whole.CellFacts.{CellFacts}
use Rattle.vrt_model.specs.declared.whole.Drive.TheVariants.{Soft}
use Rattle.vrt_model.specs.declared.whole.Whole.{Whole}
use Rattle.vrt_model.specs.declared.whole.WholePin.{WholePin}
use Rattle.whole_solutions.specs.Observed.{HidesItsNets}

-- ---- ports and pins

pub port_net_among : (first : ℕ) (names : List (List ℕ)) (nets : List ℕ) (roles : List PortRole) (port : CellPort) → Among (ports_from first names nets roles) port → Among nets port.net
port_net_among first [] nets roles port m = absurd (none-some port m.1)
port_net_among first (x ∷ xs) [] roles port m = absurd (none-some port m.1)
port_net_among first (x ∷ xs) (n ∷ ns) [] port m = absurd (none-some port m.1)
port_net_among first (x ∷ xs) (n ∷ ns) (r ∷ rs) port (zero, e) = (0, ap (λ (q : CellPort). Some q.net) (same_Some _ port e))
port_net_among first (x ∷ xs) (n ∷ ns) (r ∷ rs) port (suc i, e) = among_later n ns port.net (port_net_among (suc first) xs ns rs port (i, e))

-- an input pin is that of a port
pub input_pin : (k : Comparison) (at : Place) (pin : WholePin) → Among (input_pins k at) pin → (q : Pin) × Among (pins_of k at) q × (q.net ≡ pin.net) × (is_observed k 0 q.port.net ≡ pin.observed) × (is_some (input_signal q.port.role) ≡ true)
input_pin k at pin m =
    let from = among_filter_map (λ (p : Pin). option_map (λ (s : ℕ). let one : WholePin = record { net = p.net; signal = s; drive = Soft; observed = is_observed k 0 p.port.net } in one) (input_signal p.port.role)) (pins_of k at) pin m in
    let is = by_role from.0 (input_signal from.0.port.role) from.2 in
    (from.0, from.1, is.0, is.1, is.2)
  where
    by_role : (p : Pin) (o : Option ℕ) → option_map (λ (s : ℕ). let one : WholePin = record { net = p.net; signal = s; drive = Soft; observed = is_observed k 0 p.port.net } in one) o ≡ Some pin
        → (p.net ≡ pin.net) × (is_observed k 0 p.port.net ≡ pin.observed) × (is_some o ≡ true)
    by_role p None e = absurd (none-some pin e)
    by_role p (Some s) e = let same = same_Some _ pin e in (ap (λ (x : WholePin). x.net) same, ap (λ (x : WholePin). x.observed) same, refl)

-- the inputs of a whole instance are those of its place
pub inputs_at : (cut : Cut) (blif : Blif) (facts : List CellFacts) (q : NumberedPlace) (w : Whole) → whole_at cut blif facts q ≡ Some (unlinked w)
    → (j : ℕ) × (paired_model cut.top.design blif cut.top.rules q.at.cell ≡ Model j) × (w.inputs ≡ input_pins (compared_at cut.top blif q j) q.at)
inputs_at cut blif facts q w e = by_pair (paired_model cut.top.design blif cut.top.rules q.at.cell) refl e
  where
    by_pair : (x : Paired) → paired_model cut.top.design blif cut.top.rules q.at.cell ≡ x → whole_beside cut.top blif facts q (checked_devices cut) (all_outputs cut blif facts) x ≡ Some (unlinked w)
        → (j : ℕ) × (paired_model cut.top.design blif cut.top.rules q.at.cell ≡ Model j) × (w.inputs ≡ input_pins (compared_at cut.top blif q j) q.at)
    by_pair (Model j) same f = (j, same, sym (ap (λ (o : Option Whole). elim o [ None ↦ [] | Some x ↦ x.inputs ]) f))
    by_pair Skipped same f = absurd (none-some (unlinked w) f)
    by_pair Missing same f = absurd (none-some (unlinked w) f)

-- so each input pin is at a port of its place
pub input_among : (cut : Cut) (blif : Blif) (facts : List CellFacts) (q : NumberedPlace) (w : Whole) (pin : WholePin) → whole_at cut blif facts q ≡ Some (unlinked w) → Among w.inputs pin → Among q.at.ports pin.net.0
input_among cut blif facts q w pin e m =
    let inputs = inputs_at cut blif facts q w e in
    let k = compared_at cut.top blif q inputs.0 in
    let from = input_pin k q.at pin (subst (λ (pins : List WholePin). Among pins pin) inputs.2 m) in
    subst (λ (n : Net). Among q.at.ports n.0) from.2 (pin_among (ports_of k) q.at.ports from.0 from.1)

-- ---- places

pub listed : (t : Top) (j : ℕ) (r : Place) → At (all_places t) j r → Among (numbered_places t) (record { number = j; at = r })
listed t j r e =
    let number : 0 + j ≡ j = omega arith in
    subst (λ (n : ℕ). Among (numbered_places t) (record { number = n; at = r })) number
    (map_among numbered (enumerate_from 0 (all_places t)) (0 + j, r) (in_enumerated 0 (all_places t) j r e))

pub behind_first : {X : Type 0} (xs : List X) (j : ℕ) (x : X) → At (drop 1 xs) j x → At xs (suc j) x
behind_first [] j x e = absurd (none-some x e)
behind_first (y ∷ ys) j x e = e

module _ (cut : Cut) (blif : Blif) (facts : List CellFacts) (i : ℕ) (p : NumberedPlace) (m : ℕ) (step : IsStep cut blif facts i p m)
    (depth : ℕ) (front back : List Place) (split : IsSplit cut.top (suc i) p.at depth front back) where
  abbrev t : Top
  t = cut.top

  abbrev q : Comparison
  q = compared_at cut.top blif p m

  abbrev at : ℕ → ℕ
  at n = net_above cut.top p.at n

  abbrev base : ℕ
  base = (place_alone cut.top p.at).base

  abbrev later : Cut
  later = before cut (suc i)

  abbrev Outside : ℕ → Type 0
  Outside n = IsOutsideOf cut.top depth p.at n

  -- a place that is no part of the instance, or the instance itself, is tied to nets outside
  pub tied_outside : (o : NumberedPlace) (n : ℕ) → Among (numbered_places t) o → (is_inside o.at p.at ≡ true → ⊥) → Among o.at.ports n → Outside n
  tied_outside o n on apart port =
      elim (which cut blif facts i p step.place step.chosen depth front back split step.netlist.design o on) [
        | inl out ↦ split.tied o.at n out port
        | inr inside ↦ by_place inside.0 inside.1
      ]
    where
      first_is : (d : ℕ) → At (places_in t d p.at) 0 o.at → p.at ≡ o.at
      first_is zero e = same_Some p.at o.at e
      first_is (suc d) e = same_Some p.at o.at e

      by_place : (j : ℕ) → At (places_in t depth p.at) j o.at → Outside n
      by_place zero e = split.ports n (subst (λ (r : Place). Among r.ports n) (sym (first_is depth e)) port)
      by_place (suc j) e = absurd (apart (behind_inside t p.at depth j o.at e))

  -- so is each instance that is shown there
  pub instance_outside : (x : FlatInstance) (n : Net) → Among (checked_instances later) x → Among x.ports n → Outside n.0
  instance_outside x n on port =
      let from = among_map flat_instance (filter (λ (r : Place). not (is_inside_whole later r)) (drop 1 (all_places t))) x on in
      let kept = filter_among (λ (r : Place). not (is_inside_whole later r)) (drop 1 (all_places t)) from.0 from.1 in
      let o : NumberedPlace = record { number = suc kept.0.0; at = from.0 } in
      let tie = among_map net_id from.0.ports n (subst (λ (y : FlatInstance). Among y.ports n) (sym from.2) port) in
      tied_outside o n.0 (listed t (suc kept.0.0) from.0 (behind_first (all_places t) kept.0.0 from.0 kept.0.1))
      (λ inside.
      false≢true (sym (ap not (among_any (λ (w : NumberedPlace). is_whole later.choice w.number && is_inside from.0 w.at) (numbered_places t) p (suc i, step.place)
      (and_from (is_whole later.choice p.number) (is_inside from.0 p.at) (last_whole cut blif facts i p step.place step.chosen depth front back split step.netlist.design) inside))) ∙ kept.1))
      (subst (λ (a : ℕ). Among from.0.ports a) (ap (λ (y : Net). y.0) tie.2) tie.1)

  -- and each whole instance
  pub whole_outside : (o : NumberedPlace) (n : ℕ) → Among (whole_places later) o → Among o.at.ports n → Outside n
  whole_outside o n on port =
      elim (among_either (whole_places (before cut i)) (p ∷ []) o (subst (λ (ps : List NumberedPlace). Among ps o) (one_more_place cut i p step.place step.chosen) on)) [
        | inl early ↦
            let kept = filter_among (λ (x : NumberedPlace). is_whole (before cut i).choice x.number) (numbered_places t) o early in
            elim (which cut blif facts i p step.place step.chosen depth front back split step.netlist.design o kept.0) [
              | inl out ↦ split.tied o.at n out port
              | inr inside ↦
                  let number = inside.2 in
                  absurd (false≢true (sym (none_behind cut i p step.place step.chosen i o.number (omega (arith, number))) ∙ kept.1))
            ]
        | inr last ↦ split.ports n (subst (λ (x : NumberedPlace). Among x.at.ports n) (sym (only o last)) port)
      ]
    where
      only : (o : NumberedPlace) → Among (p ∷ []) o → p ≡ o
      only o (zero, e) = same_Some p o e
      only o (suc j, e) = absurd (none-some o e)

  -- ---- observed outputs

  phase_there : (phase : ℕ) → phase < length q.rules.phases → Among (places 0 q.rules.phases) phase
  phase_there phase lt =
      let found = at_there q.rules.phases phase lt in
      let number : 0 + phase ≡ phase = omega arith in
      (phase, subst (λ (n : ℕ). At (places 0 q.rules.phases) phase n) number (number_there 0 q.rules.phases phase found.0 found.1))

  pub port_observed : (phase : ℕ) (port : CellPort) → phase < length q.rules.phases → Among (ports_of q) port → is_some (output_signal port.role) ≡ true
      → is_observed_port q.rules (cell_at q.design q.cell).name port.name phase ≡ true
  port_observed phase port lt on out =
      let watched : ℕ → Bool = λ n. is_observed_port q.rules (cell_at q.design q.cell).name port.name n in
      elim (or_cases (is_none (output_signal port.role)) (list_all watched (places 0 q.rules.phases))
      (at_all (λ (x : CellPort). is_none (output_signal x.role) || list_all (λ n. is_observed_port q.rules (cell_at q.design q.cell).name x.name n) (places 0 q.rules.phases)) (ports_of q) on.0 port
      (observes cut blif facts i p m step) on.1)) [
        | inl no_output ↦ absurd (not_both (output_signal port.role) out no_output)
        | inr all ↦ (let there = phase_there phase lt in at_all watched (places 0 q.rules.phases) there.0 phase all there.1)
      ]
    where
      not_both : {X : Type 0} (o : Option X) → is_some o ≡ true → is_none o ≡ true → ⊥
      not_both None a b = false≢true a
      not_both (Some x) a b = false≢true b

  pub output_observed : (phase : ℕ) (port : CellPort) → phase < length q.rules.phases → Among (ports_of q) port → is_some (output_signal port.role) ≡ true → is_observed q phase port.net ≡ true
  unfolding is_observed
  output_observed phase port lt on out =
      let n = port.net in
      let devices = list_any (λ (d : Device). d.gate.0 == n) q.circuit.devices in
      let holds = list_any (λ (h : Hold). h.net.0 == n) q.circuit.holds in
      let test : CellPort → Bool = λ x. x.net == n && is_some (output_signal x.role) && is_observed_port q.rules (cell_at q.design q.cell).name x.name phase in
      let ports = list_any test (ports_of q) in
      let instances = list_any (λ (x : FlatInstance). is_constrained q.rules (cell_at q.design x.cell).name && list_any (λ (a : Net). a.0 == n) x.ports) q.circuit.instances in
      let wholes = list_any (λ (w : Whole). list_any (λ (a : WholePin). a.observed && a.net.0 == n) w.inputs) q.circuit.wholes in
      let here : ports ≡ true =
      among_any test (ports_of q) port on
      (and_from (port.net == n && is_some (output_signal port.role)) (is_observed_port q.rules (cell_at q.design q.cell).name port.name phase)
      (and_from (port.net == n) (is_some (output_signal port.role)) (eq-eqb port.net n refl) out) (port_observed phase port lt on out)) in
      or_left (devices || holds || ports || instances) wholes (or_left (devices || holds || ports) instances (or_right (devices || holds) ports here))

  -- a net of the cell that remains is below its own ones
  remaining_low : (j : ℕ) → is_outside_at t depth p.at (at j) ≡ true → j < base + size_inside t depth p.at.cell → j < base
  remaining_low j stays less =
      elim (cases_lt j base) [
        | inl low ↦ low
        | inr high ↦
            let far = net_high t p.at j high in
            elim (or_cases (nat_lt (at j) p.at.base) (nat_le (p.at.base + size_inside t depth p.at.cell) (at j)) stays) [
              | inl less_than ↦ absurd (let lt = ltb-true (at j) p.at.base less_than in omega (arith, lt, far))
              | inr more ↦ absurd (let le = leb-true (p.at.base + size_inside t depth p.at.cell) (at j) more in omega (arith, le, far, less, high))
            ]
      ]

  pub remaining_port : (j : ℕ) → IsPlain q.circuit j → is_outside_at t depth p.at (at j) ≡ true → j < base
  remaining_port j plain stays =
      remaining_low j stays
      (net_inside t q.pairing.ports (suc i) p.at depth front back split (tied cut blif facts i p m step) (none cut blif facts i p m step)
      (split.within (ordered_is_within_depth t t.cell step.netlist.ordered step.netlist.there)) j plain)

  output_seen : (phase j : ℕ) → phase < length q.rules.phases → IsPlain q.circuit j → is_outside_at t depth p.at (at j) ≡ true → is_observed q phase j ≡ true
  output_seen phase j lt plain stays =
      let port = plain_port cut blif facts i p m step j (remaining_port j plain stays) plain in
      let out = filter_among (λ (x : CellPort). is_some (output_signal x.role)) (ports_of q) port.0 port.1 in
      subst (λ (n : ℕ). is_observed q phase n ≡ true) port.2 (output_observed phase port.0 lt out.0 out.1)

  pub hides : (k : Comparison) (whole_circuit : Circuit) (phase : ℕ) (compared : ℕ → Bool) → ((n : ℕ) → compared n ≡ false → (j : ℕ) × (n ≡ at j) × IsPlain q.circuit j)
      → t ≡ top_of k → phase < length t.rules.phases → IsCircuitWith later blif facts whole_circuit
      → HidesItsNets k q phase whole_circuit at (is_outside_at t depth p.at) compared
  hides k whole_circuit phase compared hidden same lt after = record {
    hidden = hidden;
    outputs = λ j plain stays. output_seen phase j lt plain stays;
    ports = λ port on.
        let net = port_net_among 0 (cell_at k.design k.cell).ports (port_nets k.rules (cell_at k.design k.cell).ports) k.pairing.ports port on in
        let low = port_below t.rules 2 (cell_at t.design t.cell).ports port.net (omega arith)
        (subst (λ (x : Top). Among (port_nets x.rules (cell_at x.design x.cell).ports) port.net) (sym same) net) in
        let first = split.first in
        outside_is t depth p.at port.net (inl (omega (arith, low, first)));
    instance_ports = λ x n on port.
        outside_is t depth p.at n.0 (instance_outside x n (subst (λ (xs : List FlatInstance). Among xs x) after.instances on) port);
    pins = λ w pin on there.
        let from = zip_right (IsWholeAt later blif facts) (whole_places later) whole_circuit.wholes w after.wholes on in
        outside_is t depth p.at pin.net.0 (whole_outside from.0 pin.net.0 from.1 (input_among later blif facts from.0 w pin from.2.whole there));
  }
