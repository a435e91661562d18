-- The instances and whole instances of a circuit, before and after one further instance is whole.
use Rattle.std.proofs.Common.{◌≡◌, ◌⊎◌, ◌+◌, ◌-◌, ◌++◌, ◌<◌, ◌&&◌, ◌||◌, ◌∷◌, [], ℕ, zero, suc, not, List, Bool, true, false, map, length, Option, Some, None, refl, ap, sym, ◌∙◌, subst, arith, inl, inr}
use Rattle.std.specs.Prelude.{bytes_eq, drop, filter, find, is_some, nat_lt, option_map, ◌==◌}
use Rattle.std.specs.List.{AllZip, list_any}
use Rattle.std.proofs.lemmas.Bool.{and_from, and_parts, cases_Bool, cases_lt, false≢true, ltb-true, not-true, or_cases, or_left, or_parts, or_right}
use Rattle.std.proofs.lemmas.Option.{none-some, same_Some, slice_get_within}
use Rattle.std.proofs.lemmas.Simd.{map-map}
use Rattle.cell_inside.specs.Regions.{IsGivenNet}
use Rattle.cell_inside.specs.Shifted.{IsShiftedWithNets, top_alone}
use Rattle.checked_chain.proofs.ChoiceLaws.{numbered_at}
use Rattle.checked_chain.proofs.DriveLaws.{places_more, whole_more, whole_or_last}
use Rattle.checked_chain.proofs.OrderLaws.{nothing_is_left_out_inside}
use Rattle.placed_cells.proofs.AboveLaws.{instances_are_shifted}
use Rattle.placed_cells.proofs.DepthLaws.{ordered_is_within_depth}
use Rattle.placed_cells.proofs.FlatNetLaws.{net_count, plain_behind}
use Rattle.placed_cells.proofs.InstanceLaws.{shifted}
use Rattle.placed_cells.proofs.ListLaws.{zip_left, zip_right}
use Rattle.placed_cells.specs.Above.{net_above, place_alone}
use Rattle.placed_cells.specs.Splits.{IsSplit}
use Rattle.replaced_instances.proofs.OutputPorts.{is_net_role, pin_at}
use Rattle.replaced_instances.proofs.StepHides.{behind_first, input_pin, inputs_at, listed, port_net_among, port_observed}
use Rattle.replaced_instances.proofs.StepOutputs.{one_more_place}
use Rattle.replaced_instances.proofs.StepPlaces.{behind_inside, inside_leads, which}
use Rattle.replaced_instances.proofs.StepPorts.{free, none, pins_shifted, place_there, port_listed, port_or_supply, tied}
use Rattle.replaced_instances.specs.Shown.{StepHasLeftInstances}
use Rattle.replaced_instances.specs.Steps.{IsStep, compared_at}
use Rattle.vrt_model.proofs.Filtered.{among_kept, filter_among}
use Rattle.vrt_model.proofs.Lists.{among_filter_map, at_back, at_front, filter_map_among, map_among, map_at, one_at}
use Rattle.vrt_model.proofs.Members.{among_any, among_either, among_later, among_map, among_right, any_among, find_among}
use Rattle.vrt_model.specs.CellRules.{clock_of_port, is_constrained, is_observed_port, supply_of}
use Rattle.vrt_model.specs.Checked.{IsCircuitWith, before, top_of, with_circuit}
use Rattle.vrt_model.specs.CheckedParts.{checked_instances}
use Rattle.vrt_model.specs.Comparison.{Comparison, CellPort, cell_at, input_signal, is_observed, output_signal, port_nets, ports_from, ports_of}
use Rattle.vrt_model.specs.Cut.{Cut, NumberedPlace, is_inside, is_inside_whole, is_whole, numbered_places, whole_places}
use Rattle.vrt_model.specs.FlatCircuit.{flat_circuit_of, flat_instance, flat_nets, kind_by_role, net_id, same_path}
use Rattle.vrt_model.specs.Lists.{Among, At}
use Rattle.vrt_model.specs.PairedPorts.{Paired, Model, Skipped, Missing, paired_model, pairing_of, role_of, signal_of_port}
use Rattle.vrt_model.specs.Reading.{is_given}
use Rattle.vrt_model.specs.Unrolled.{Place, Top, all_places, places_in}
use Rattle.vrt_model.specs.WholeInstances.{IsWholeAt, Pin, input_pins, pins_of}
use Rattle.vrt_model.specs.declared.blif.Blif.{Blif}
use Rattle.vrt_model.specs.declared.circuit.Circuit.{Circuit}
use Rattle.vrt_model.specs.declared.circuit.Device.{Device}
use Rattle.vrt_model.specs.declared.circuit.FlatInstance.{FlatInstance}
use Rattle.vrt_model.specs.declared.circuit.FlatNet.{FlatNet}
use Rattle.vrt_model.specs.declared.circuit.Hold.{Hold}
use Rattle.vrt_model.specs.declared.circuit.NetKind.{NetKind}
use Rattle.vrt_model.specs.declared.circuit.NetKind.TheVariants.{Supply as SupplyNet, Clock as ClockNet, Input as InputNet, Plain}
use Rattle.vrt_model.specs.declared.ids.Net.{Net}
use Rattle.vrt_model.specs.declared.pairing.PortRole.{PortRole}
use Rattle.vrt_model.specs.declared.pairing.PortRole.TheVariants.{Supply, Clock, Input, Output}
use Rattle.vrt_model.specs.declared.rules.AssumeRule.{AssumeRule}
use Rattle.vrt_model.specs.declared.rules.ClockRef.{ClockRef}
use Rattle.vrt_model.specs.declared.rules.ClockportRule.{ClockportRule}
use Rattle.vrt_model.specs.declared.whole.CellFacts.{CellFacts}
use Rattle.vrt_model.specs.declared.whole.Drive.TheVariants.{Soft}
use Rattle.vrt_model.specs.declared.whole.Whole.{Whole}
use Rattle.vrt_model.specs.declared.whole.WholePin.{WholePin}
use Rattle.whole_solutions.proofs.PairedPortLaws.{clock_role, of_clock}
use Rattle.whole_solutions.specs.Observed.{HasLeftInstances, IsInstanceImage}

-- ---- lists that fit

pub zip_at_right : {X Y : Type 0} (R : X → Y → Type 0) (xs : List X) (ys : List Y) (j : ℕ) (y : Y) → AllZip R xs ys → At ys j y → (x : X) × At xs j x × R x y
zip_at_right R xs [] j y h e = absurd (none-some y e)
zip_at_right R [] (z ∷ ys) j y h e = absurd h
zip_at_right {X} {Y} R (x ∷ xs) (z ∷ ys) zero y h e = (x, refl, subst (λ (w : Y). R x w) (same_Some z y e) h.0)
zip_at_right R (x ∷ xs) (z ∷ ys) (suc j) y h e = zip_at_right R xs ys j y h.1 e

pub zip_at_left : {X Y : Type 0} (R : X → Y → Type 0) (xs : List X) (ys : List Y) (j : ℕ) (x : X) → AllZip R xs ys → At xs j x → (y : Y) × At ys j y × R x y
zip_at_left R [] ys j x h e = absurd (none-some x e)
zip_at_left R (z ∷ xs) [] j x h e = absurd h
zip_at_left {X} {Y} R (z ∷ xs) (y ∷ ys) zero x h e = (y, refl, subst (λ (w : X). R w y) (same_Some z x e) h.0)
zip_at_left R (z ∷ xs) (y ∷ ys) (suc j) x h e = zip_at_left R xs ys j x h.1 e

pub front_of : {X : Type 0} (xs : List X) (j : ℕ) (x : X) → At xs (suc j) x → At (drop 1 xs) j x
front_of [] j x e = absurd (none-some x e)
front_of (y ∷ ys) j x e = e

-- ---- roles

is_input_kind : NetKind → Bool
is_input_kind (SupplyNet value) = false
is_input_kind (ClockNet clock) = false
is_input_kind InputNet = true
is_input_kind Plain = false

is_clock_kind : NetKind → Bool
is_clock_kind (SupplyNet value) = false
is_clock_kind (ClockNet clock) = true
is_clock_kind InputNet = false
is_clock_kind Plain = false

port_role_among : (first : ℕ) (names : List (List ℕ)) (nets : List ℕ) (roles : List PortRole) (port : CellPort) → Among (ports_from first names nets roles) port → Among roles port.role
port_role_among first [] nets roles port m = absurd (none-some port m.1)
port_role_among first (x ∷ xs) [] roles port m = absurd (none-some port m.1)
port_role_among first (x ∷ xs) (n ∷ ns) [] port m = absurd (none-some port m.1)
port_role_among first (x ∷ xs) (n ∷ ns) (r ∷ rs) port (zero, e) = (0, ap (λ (q : CellPort). Some q.role) (same_Some _ port e))
port_role_among first (x ∷ xs) (n ∷ ns) (r ∷ rs) port (suc i, e) = among_later r rs port.role (port_role_among (suc first) xs ns rs port (i, e))

pub input_role : (role : PortRole) → kind_by_role role ≡ InputNet → (s : ℕ) × (input_signal role ≡ Some s)
unfolding is_input_kind
input_role (Supply value) e = absurd (false≢true (ap is_input_kind e))
input_role (Clock clock) e = absurd (false≢true (ap is_input_kind e))
input_role (Input s) e = (s, refl)
input_role (Output s) e = absurd (false≢true (ap is_input_kind e))

pub input_given : (role : PortRole) → is_some (input_signal role) ≡ true → (is_net_role role ≡ true) × (is_given (kind_by_role role) ≡ true)
input_given (Supply value) e = absurd (false≢true e)
input_given (Clock clock) e = absurd (false≢true e)
input_given (Input s) e = (refl, refl)
input_given (Output s) e = absurd (false≢true e)

module _ (cut : Cut) (blif : Blif) (facts : List CellFacts) (i : ℕ) (p : NumberedPlace) (m : ℕ) (step : IsStep cut blif facts i p m)
    (depth : ℕ) (front back : List Place) (split : IsSplit cut.top (suc i) p.at depth front back) where
  abbrev pub t : Top
  t = cut.top

  abbrev pub q : Comparison
  q = compared_at cut.top blif p m

  abbrev pub own : Top
  own = top_alone cut.top p.at.cell q.pairing.ports

  abbrev pub at : ℕ → ℕ
  at n = net_above cut.top p.at n

  abbrev earlier : Cut
  earlier = before cut i

  abbrev later : Cut
  later = before cut (suc i)

  abbrev pub FitsPlace : Place → Place → Type 0
  FitsPlace s r = IsShiftedWithNets t own at p.at.path s r

  pub fitting : AllZip FitsPlace (all_places own) (places_in t depth p.at)
  fitting =
      shifted t q.pairing.ports (suc i) p.at depth front back split (tied cut blif facts i p m step) (none cut blif facts i p m step)
      (split.within (ordered_is_within_depth t t.cell step.netlist.ordered step.netlist.there))

  -- ---- instances inside

  -- what comes to be inside a whole instance is inside this one
  inside_now : (r : Place) → is_inside_whole earlier r ≡ false → is_inside_whole later r ≡ true → is_inside r p.at ≡ true
  inside_now r old e =
      let w = any_among (λ (o : NumberedPlace). is_whole later.choice o.number && is_inside r o.at) (numbered_places t) e in
      let both = and_parts (is_whole later.choice w.0.number) (is_inside r w.0.at) w.2 in
      elim (whole_or_last cut blif facts i p step.place step.chosen w.0.number both.0) [
        | inl was ↦
            absurd (false≢true (sym old
            ∙ among_any (λ (o : NumberedPlace). is_whole earlier.choice o.number && is_inside r o.at) (numbered_places t) w.0 w.1 (and_from (is_whole earlier.choice w.0.number) (is_inside r w.0.at) was both.1)))
        | inr last ↦
            let there = subst (λ (n : ℕ). At (numbered_places t) n w.0) (sym (numbered_at t w.1.0 w.0 w.1.1).0 ∙ last) w.1.1 in
            subst (λ (o : NumberedPlace). is_inside r o.at ≡ true) (one_at (numbered_places t) (suc i) w.0 p there step.place) both.1
      ]

  inside_more : (r : Place) → is_inside_whole earlier r ≡ true → is_inside_whole later r ≡ true
  inside_more r e =
      let w = any_among (λ (o : NumberedPlace). is_whole earlier.choice o.number && is_inside r o.at) (numbered_places t) e in
      let both = and_parts (is_whole earlier.choice w.0.number) (is_inside r w.0.at) w.2 in
      among_any (λ (o : NumberedPlace). is_whole later.choice o.number && is_inside r o.at) (numbered_places t) w.0 w.1
      (and_from (is_whole later.choice w.0.number) (is_inside r w.0.at) (whole_more cut blif facts i p step.place step.chosen w.0.number both.0) both.1)

  not_in_itself : (r : Place) → p.at ≡ r → is_inside r p.at ≡ true → ⊥
  not_in_itself r same e =
      let lt = ltb-true (length p.at.path) (length r.path) (and_parts (nat_lt (length p.at.path) (length r.path)) (same_path (drop (length r.path - length p.at.path) r.path) p.at.path) e).0 in
      let count = ap (λ (x : Place). length x.path) same in
      omega (arith, lt, count)

  -- a place inside has a number there
  pub place_inside : (j : ℕ) (r : Place) → At (all_places t) (suc j) r → is_inside r p.at ≡ true → (l : ℕ) × At (places_in t depth p.at) (suc l) r
  place_inside j r here e =
      elim (which cut blif facts i p step.place step.chosen depth front back split step.netlist.design (record { number = suc j; at = r }) (listed t (suc j) r here)) [
        | inl out ↦ absurd (false≢true (sym (split.past step.netlist.design r out) ∙ inside_leads r p.at e))
        | inr inside ↦ by_number inside.0 inside.1
      ]
    where
      first_is : (d : ℕ) → At (places_in t d p.at) 0 r → p.at ≡ r
      first_is zero f = same_Some p.at r f
      first_is (suc d) f = same_Some p.at r f

      by_number : (l : ℕ) → At (places_in t depth p.at) l r → (n : ℕ) × At (places_in t depth p.at) (suc n) r
      by_number zero f = absurd (not_in_itself r (first_is depth f) e)
      by_number (suc n) f = (n, f)

  image : (s r : Place) → FitsPlace s r → IsInstanceImage at (flat_instance s) (flat_instance r)
  image s r fits = record {
    cell = fits.place.cell;
    ports = ap (λ (nets : List ℕ). map net_id nets) fits.place.ports ∙ map-map net_id at s.ports ∙ sym (map-map (λ (n : Net). net_id (at n.0)) net_id s.ports);
  }

  abbrev is_shown : Cut → Place → Bool
  is_shown x r = not (is_inside_whole x r)

  -- each instance stays, or is that of an instance of the cell
  pub stays_or_inside : (x : FlatInstance) → Among (checked_instances earlier) x
      → ((j : FlatInstance) × Among q.circuit.instances j × IsInstanceImage at j x) ⊎ Among (checked_instances later) x
  unfolding flat_circuit_of
  stays_or_inside x on =
      let from = among_map flat_instance (filter (is_shown earlier) (drop 1 (all_places t))) x on in
      let kept = filter_among (is_shown earlier) (drop 1 (all_places t)) from.0 from.1 in
      elim (cases_Bool (is_inside_whole later from.0)) [
        | inr out ↦
            inr (subst (λ (y : FlatInstance). Among (checked_instances later) y) from.2
            (map_among flat_instance (filter (is_shown later) (drop 1 (all_places t))) from.0 (among_kept (is_shown later) (drop 1 (all_places t)) from.0 kept.0 (ap not out))))
        | inl inside ↦
            let r = place_inside kept.0.0 from.0 (behind_first (all_places t) kept.0.0 from.0 kept.0.1) (inside_now from.0 (not-true (is_inside_whole earlier from.0) kept.1) inside) in
            let s = zip_at_right FitsPlace (all_places own) (places_in t depth p.at) (suc r.0) from.0 fitting r.1 in
            inl (
              flat_instance s.0,
              map_among flat_instance (drop 1 (all_places own)) s.0 (r.0, front_of (all_places own) r.0 s.0 s.1),
              subst (λ (y : FlatInstance). IsInstanceImage at (flat_instance s.0) y) from.2 (image s.0 from.0 s.2),
            )
      ]

  pub stayed : (x : FlatInstance) → Among (checked_instances later) x → Among (checked_instances earlier) x
  stayed x on =
      let from = among_map flat_instance (filter (is_shown later) (drop 1 (all_places t))) x on in
      let kept = filter_among (is_shown later) (drop 1 (all_places t)) from.0 from.1 in
      let shown : is_inside_whole earlier from.0 ≡ false =
      elim (cases_Bool (is_inside_whole earlier from.0)) [
        | inr out ↦ out
        | inl inside ↦ absurd (false≢true (sym (ap not (inside_more from.0 inside)) ∙ kept.1))
      ] in
      subst (λ (y : FlatInstance). Among (checked_instances earlier) y) from.2
      (map_among flat_instance (filter (is_shown earlier) (drop 1 (all_places t))) from.0 (among_kept (is_shown earlier) (drop 1 (all_places t)) from.0 kept.0 (ap not shown)))

  -- and each instance of the cell has its own
  pub inside_there : (j : FlatInstance) → Among q.circuit.instances j → (x : FlatInstance) × Among (checked_instances earlier) x × IsInstanceImage at j x
  unfolding flat_circuit_of
  inside_there j on =
      let from = among_map flat_instance (drop 1 (all_places own)) j on in
      let s = from.0 in
      let l = from.1.0 in
      let r = zip_at_left FitsPlace (all_places own) (places_in t depth p.at) (suc l) s fitting (behind_first (all_places own) l s from.1.1) in
      let there = at_back front (places_in t depth p.at ++ back) (suc l) r.0 (at_front (places_in t depth p.at) back (suc l) r.0 r.1) in
      let number : length front + suc l ≡ suc (suc i + l) = let count = split.number_is in omega (arith, count) in
      let here : At (all_places t) (suc (suc i + l)) r.0 = subst (λ (ps : List Place). At ps (suc (suc i + l)) r.0) (sym split.whole)
      (subst (λ (n : ℕ). At (front ++ (places_in t depth p.at ++ back)) n r.0) number there) in
      let inside = behind_inside t p.at depth l r.0 r.1 in
      let left_out = (nothing_is_left_out_inside cut i p step.netlist.design step.place (free cut blif facts i p m step)).1 (record { number = suc (suc i + l); at = r.0 }) (listed t (suc (suc i + l)) r.0 here) inside in
      let shown = (or_parts (is_whole earlier.choice (suc (suc i + l))) (is_inside_whole earlier r.0) left_out).1 in (
        flat_instance r.0,
        map_among flat_instance (filter (is_shown earlier) (drop 1 (all_places t))) r.0 (among_kept (is_shown earlier) (drop 1 (all_places t)) r.0 (suc i + l, front_of (all_places t) (suc i + l) r.0 here) (ap not shown)),
        subst (λ (y : FlatInstance). IsInstanceImage at y (flat_instance r.0)) from.2 (image s r.0 r.2),
      )

  -- ---- whole instances

  pub one_model : (o : NumberedPlace) (a b : ℕ) → paired_model t.design blif t.rules o.at.cell ≡ Model a → paired_model t.design blif t.rules o.at.cell ≡ Model b → a ≡ b
  one_model o a b e f = ap (λ (x : Paired). elim x [ Model j ↦ j | Skipped ↦ 0 | Missing ↦ 0 ]) (sym e ∙ f)

  same_inputs : (o : NumberedPlace) (v w : Whole) → IsWholeAt later blif facts o v → IsWholeAt earlier blif facts o w → v.inputs ≡ w.inputs
  same_inputs o v w a b =
      let one = inputs_at later blif facts o v a.whole in
      let other = inputs_at earlier blif facts o w b.whole in
      one.2 ∙ ap (λ (n : ℕ). input_pins (compared_at t blif o n) o.at) (one_model o one.0 other.0 one.1 other.1) ∙ sym other.2

  -- the inputs of the instance itself
  pub own_inputs : (v : Whole) → IsWholeAt later blif facts p v → v.inputs ≡ input_pins q p.at
  own_inputs v told =
      let one = inputs_at later blif facts p v told.whole in
      one.2 ∙ ap (λ (n : ℕ). input_pins (compared_at t blif p n) p.at) (one_model p one.0 m one.1 step.paired)

  -- the instance as a whole one
  pub own_whole : (whole_circuit : Circuit) → IsCircuitWith later blif facts whole_circuit → (v : Whole) × Among whole_circuit.wholes v × IsWholeAt later blif facts p v
  own_whole whole_circuit after =
      zip_left (IsWholeAt later blif facts) (whole_places later) whole_circuit.wholes p after.wholes
      (subst (λ (ps : List NumberedPlace). Among ps p) (sym (one_more_place cut i p step.place step.chosen)) (among_right (whole_places earlier) (p ∷ []) p (0, refl)))

  module _ (c whole_circuit : Circuit) (circuit : IsCircuitWith earlier blif facts c) (after : IsCircuitWith later blif facts whole_circuit) where
    pub whole_stays : (w : Whole) → Among c.wholes w → (v : Whole) × Among whole_circuit.wholes v × (v.inputs ≡ w.inputs)
    whole_stays w on =
        let from = zip_right (IsWholeAt earlier blif facts) (whole_places earlier) c.wholes w circuit.wholes on in
        let v = zip_left (IsWholeAt later blif facts) (whole_places later) whole_circuit.wholes from.0 after.wholes (places_more cut blif facts i p step.place step.chosen from.0 from.1) in
        (v.0, v.1, same_inputs from.0 v.0 w v.2 from.2)

    -- an input pin is an old one, or one of the instance
    old_or_own : (v : Whole) (pin : WholePin) → Among whole_circuit.wholes v → Among v.inputs pin → ((w : Whole) × Among c.wholes w × Among w.inputs pin) ⊎ Among (input_pins q p.at) pin
    old_or_own v pin on there =
        let from = zip_right (IsWholeAt later blif facts) (whole_places later) whole_circuit.wholes v after.wholes on in
        elim (among_either (whole_places earlier) (p ∷ []) from.0 (subst (λ (ps : List NumberedPlace). Among ps from.0) (one_more_place cut i p step.place step.chosen) from.1)) [
          | inl was ↦
              let w = zip_left (IsWholeAt earlier blif facts) (whole_places earlier) c.wholes from.0 circuit.wholes was in
              inl (w.0, w.1, subst (λ (pins : List WholePin). Among pins pin) (same_inputs from.0 v w.0 from.2 w.2) there)
          | inr last ↦
              let same = only from.0 last in
              inr (subst (λ (pins : List WholePin). Among pins pin) (own_inputs v (subst (λ (o : NumberedPlace). IsWholeAt later blif facts o v) same from.2)) there)
        ]
      where
        only : (o : NumberedPlace) → Among (p ∷ []) o → o ≡ p
        only o (zero, e) = sym (same_Some p o e)
        only o (suc j, e) = absurd (none-some o e)

  -- ---- what is observed in the cell

  -- its nets are observed in each phase where they are in one
  pub observed_again : (a b n : ℕ) → a < length q.rules.phases → b < length q.rules.phases → is_observed q a n ≡ true → is_observed q b n ≡ true
  unfolding is_observed
  observed_again a b n low lt e =
      elim (or_cases (devices || holds || ports a || instances) wholes e) [
        | inr w ↦ or_right (devices || holds || ports b || instances) wholes w
        | inl four ↦ or_left (devices || holds || ports b || instances) wholes (elim (or_cases (devices || holds || ports a) instances four) [
          | inr x ↦ or_right (devices || holds || ports b) instances x
          | inl three ↦ or_left (devices || holds || ports b) instances (elim (or_cases (devices || holds) (ports a) three) [
            | inl two ↦ or_left (devices || holds) (ports b) two
            | inr port ↦ or_right (devices || holds) (ports b) (moved port)
          ])
        ])
      ]
    where
      devices : Bool
      devices = list_any (λ (d : Device). d.gate.0 == n) q.circuit.devices

      holds : Bool
      holds = list_any (λ (h : Hold). h.net.0 == n) q.circuit.holds

      test : ℕ → CellPort → Bool
      test phase x = x.net == n && is_some (output_signal x.role) && is_observed_port q.rules (cell_at q.design q.cell).name x.name phase

      ports : ℕ → Bool
      ports phase = list_any (test phase) (ports_of q)

      instances : Bool
      instances = list_any (λ (x : FlatInstance). is_constrained q.rules (cell_at q.design x.cell).name && list_any (λ (y : Net). y.0 == n) x.ports) q.circuit.instances

      wholes : Bool
      wholes = list_any (λ (w : Whole). list_any (λ (y : WholePin). y.observed && y.net.0 == n) w.inputs) q.circuit.wholes

      moved : ports a ≡ true → ports b ≡ true
      moved h =
          let found = any_among (test a) (ports_of q) h in
          let both = and_parts (found.0.net == n && is_some (output_signal found.0.role)) (is_observed_port q.rules (cell_at q.design q.cell).name found.0.name a) found.2 in
          let out = (and_parts (found.0.net == n) (is_some (output_signal found.0.role)) both.0).1 in
          among_any (test b) (ports_of q) found.0 found.1
          (and_from (found.0.net == n && is_some (output_signal found.0.role)) (is_observed_port q.rules (cell_at q.design q.cell).name found.0.name b) both.0
          (port_observed cut blif facts i p m step depth front back split b found.0 lt found.1 out))

  -- ---- ports with given values

  -- an observed input pin of the instance is that of an observed input
  pin_given : (phase : ℕ) (pin : WholePin) → phase < length q.rules.phases → Among (input_pins q p.at) pin → pin.observed ≡ true
      → (n : ℕ) × (pin.net.0 ≡ at n) × IsGivenNet q.circuit n × (is_observed q phase n ≡ true)
  pin_given phase pin lt on seen =
      let x = input_pin q p.at pin on in
      let port = among_map (pin_at at) (ports_of q) x.0 (subst (λ (pins : List Pin). Among pins x.0) (pins_shifted cut blif facts i p m step) x.1) in
      let input : is_some (input_signal port.0.role) ≡ true = ap (λ (y : Pin). is_some (input_signal y.port.role)) port.2 ∙ x.4 in
      let given = input_given port.0.role input in
      let net = port_listed cut blif facts i p m step port.0 port.1 given.0 in
      let watched : is_observed q 0 port.0.net ≡ true = ap (λ (y : Pin). is_observed q 0 y.port.net) port.2 ∙ x.3 ∙ seen in (
        port.0.net,
        ap (λ (y : Net). y.0) (sym x.2) ∙ ap (λ (y : Pin). y.net.0) (sym port.2),
        (net.1, net.2, ap is_given net.3 ∙ given.1),
        observed_again 0 phase port.0.net (omega (arith, lt)) lt watched,
      )

  -- a net that is neither plain nor a supply is a port's
  pub port_of_net : (n : ℕ) (net : FlatNet) → At q.circuit.nets n net → (net.kind ≡ Plain → ⊥) → ((value : Bool) → net.kind ≡ SupplyNet value → ⊥)
      → (port : CellPort) × Among (ports_of q) port × (port.net ≡ n) × (kind_by_role port.role ≡ net.kind)
  unfolding flat_circuit_of
  port_of_net n net here not_plain not_supply =
      elim (cases_lt n (place_alone t p.at).base) [
        | inl low ↦ elim (port_or_supply cut blif facts i p m step n low) [
          | inl s ↦ absurd (not_supply s.0 (ap (λ (x : FlatNet). x.kind) (one_at q.circuit.nets n net s.1.0 here s.1.1) ∙ s.1.2))
          | inr x ↦ (x.0, x.1, x.2, sym x.5 ∙ ap (λ (y : FlatNet). y.kind) (one_at q.circuit.nets n x.3 net x.4 here))
        ]
        | inr high ↦
            let less = slice_get_within (flat_nets own) n net here in
            let count = net_count own in
            let plain = plain_behind own n high (omega (arith, less, count)) in
            absurd (not_plain (ap (λ (x : FlatNet). x.kind) (one_at q.circuit.nets n net plain.0 here plain.1) ∙ plain.2))
      ]

  -- an observed input has an observed pin
  pub pin_of_input : (phase n : ℕ) (net : FlatNet) → phase < length q.rules.phases → At q.circuit.nets n net → net.kind ≡ InputNet → is_observed q phase n ≡ true
      → (pin : WholePin) × Among (input_pins q p.at) pin × (pin.observed ≡ true) × (pin.net.0 ≡ at n)
  unfolding is_input_kind
  pin_of_input phase n net lt here kind seen =
      let port = port_of_net n net here (λ plain. false≢true (ap is_input_kind (sym plain ∙ kind))) (λ value supply. false≢true (ap is_input_kind (sym supply ∙ kind))) in
      let role = input_role port.0.role (port.3 ∙ kind) in
      let pin : WholePin = record { net = net_id (at port.0.net); signal = role.0; drive = Soft; observed = is_observed q 0 port.0.net } in
      let make : Pin → Option WholePin =
      λ x. option_map (λ (s : ℕ). let one : WholePin = record { net = x.net; signal = s; drive = Soft; observed = is_observed q 0 x.port.net } in one) (input_signal x.port.role) in
      let made : make (pin_at at port.0) ≡ Some pin =
      ap (option_map (λ (s : ℕ). let one : WholePin = record { net = net_id (at port.0.net); signal = s; drive = Soft; observed = is_observed q 0 port.0.net } in one)) role.1 in
      let there = subst (λ (pins : List Pin). At pins port.1.0 (pin_at at port.0)) (sym (pins_shifted cut blif facts i p m step)) (map_at (pin_at at) (ports_of q) port.1.0 port.0 port.1.1) in (
        pin,
        filter_map_among make (pins_of q p.at) port.1.0 (pin_at at port.0) pin there made,
        observed_again phase 0 port.0.net lt (omega (arith, lt)) (subst (λ (x : ℕ). is_observed q phase x ≡ true) (sym port.2) seen),
        ap at port.2,
      )

  input_there : (whole_circuit : Circuit) (after : IsCircuitWith later blif facts whole_circuit) (phase n : ℕ) (net : FlatNet) → phase < length q.rules.phases
      → At q.circuit.nets n net → net.kind ≡ InputNet → is_observed q phase n ≡ true
      → (v : Whole) × (pin : WholePin) × Among whole_circuit.wholes v × Among v.inputs pin × (pin.observed ≡ true) × (pin.net.0 ≡ at n)
  input_there whole_circuit after phase n net lt here kind seen =
      let pin = pin_of_input phase n net lt here kind seen in
      let v = own_whole whole_circuit after in
      (v.0, pin.0, v.1, subst (λ (pins : List WholePin). Among pins pin.0) (sym (own_inputs v.0 v.2)) pin.1, pin.2, pin.3)

  -- ---- clocks

  clocked : (port : CellPort) (clock : ClockRef) → Among (ports_of q) port → port.role ≡ Clock clock → is_constrained t.rules (cell_at t.design p.at.cell).name ≡ true
  unfolding pairing_of
  clocked port clock on role =
      let name = (cell_at t.design p.at.cell).name in
      let named = (cell_at t.design p.at.cell).ports in
      let among = subst (λ (r : PortRole). Among q.pairing.ports r) role (port_role_among 0 named (port_nets t.rules named) q.pairing.ports port on) in
      let from = among_filter_map (role_of q.model t.rules name) named (Clock clock) among in
      let rule = of_clock q.model (supply_of t.rules from.0) (clock_of_port t.rules name from.0) (signal_of_port q.model t.rules name from.0) clock from.2 in
      by_rule from.0 (find (λ (r : ClockportRule). bytes_eq r.cell name && bytes_eq r.port from.0) t.rules.clockports) refl rule
    where
      by_rule : (x : List ℕ) (o : Option ClockportRule) → find (λ (r : ClockportRule). bytes_eq r.cell (cell_at t.design p.at.cell).name && bytes_eq r.port x) t.rules.clockports ≡ o
          → option_map (λ (r : ClockportRule). r.clock) o ≡ Some clock → is_constrained t.rules (cell_at t.design p.at.cell).name ≡ true
      by_rule x None same e = absurd (none-some clock e)
      by_rule x (Some r) same e =
          let name = (cell_at t.design p.at.cell).name in
          let found = find_among (λ (y : ClockportRule). bytes_eq y.cell name && bytes_eq y.port x) t.rules.clockports r same in
          or_right (list_any (λ (y : AssumeRule). bytes_eq y.cell name) t.rules.assumes) (list_any (λ (y : ClockportRule). bytes_eq y.cell name) t.rules.clockports)
          (among_any (λ (y : ClockportRule). bytes_eq y.cell name) t.rules.clockports r found.0 (and_parts (bytes_eq r.cell name) (bytes_eq r.port x) found.1).0)

  pub own_shown : is_inside_whole later p.at ≡ false
  own_shown =
      elim (cases_Bool (is_inside_whole later p.at)) [
        | inr out ↦ out
        | inl inside ↦ absurd (not_in_itself p.at refl (inside_now p.at (free cut blif facts i p m step) inside))
      ]

  clock_there : (n : ℕ) (net : FlatNet) (clock : ClockRef) → At q.circuit.nets n net → net.kind ≡ ClockNet clock
      → (x : FlatInstance) × (a : Net) × Among (checked_instances later) x × Among x.ports a × (a.0 ≡ at n) × (is_constrained t.rules (cell_at t.design x.cell).name ≡ true)
  unfolding is_clock_kind
  clock_there n net clock here kind =
      let port = port_of_net n net here (λ plain. false≢true (ap is_clock_kind (sym plain ∙ kind))) (λ value supply. false≢true (ap is_clock_kind (sym supply ∙ kind))) in
      let role = same_Some port.0.role (Clock clock) (clock_role (Some port.0.role) clock (port.3 ∙ kind)) in
      let named = (cell_at t.design p.at.cell).ports in
      let net_on = port_net_among 0 named (port_nets t.rules named) q.pairing.ports port.0 port.1 in
      let above = subst (λ (nets : List ℕ). Among nets (at port.0.net)) (sym (instances_are_shifted t q.pairing.ports p.at (tied cut blif facts i p m step)).0.ports) (map_among at (port_nets t.rules named) port.0.net net_on) in (
        flat_instance p.at,
        net_id (at port.0.net),
        map_among flat_instance (filter (is_shown later) (drop 1 (all_places t))) p.at
            (among_kept (is_shown later) (drop 1 (all_places t)) p.at (i, front_of (all_places t) i p.at (place_there cut blif facts i p m step)) (ap not own_shown)),
        map_among net_id p.at.ports (at port.0.net) above,
        ap at port.2,
        clocked port.0 clock port.1 role,
      )

  pub has_left : (k : Comparison) (c whole_circuit : Circuit) (phase : ℕ) → t ≡ top_of k → phase < length t.rules.phases → IsCircuitWith earlier blif facts c → IsCircuitWith later blif facts whole_circuit
      → HasLeftInstances (with_circuit k c) q phase whole_circuit at
  has_left k c whole_circuit phase same lt circuit after = record {
    instances = λ x on.
        elim (stays_or_inside x (subst (λ (xs : List FlatInstance). Among xs x) circuit.instances on)) [
          | inl inside ↦ inl inside
          | inr stays ↦ inr (subst (λ (xs : List FlatInstance). Among xs x) (sym after.instances) stays)
        ];
    inside = λ j on. let x = inside_there j on in (x.0, subst (λ (xs : List FlatInstance). Among xs x.0) (sym circuit.instances) x.1, x.2);
    instances_back = λ x on. subst (λ (xs : List FlatInstance). Among xs x) (sym circuit.instances) (stayed x (subst (λ (xs : List FlatInstance). Among xs x) after.instances on));
    wholes = λ w on. whole_stays c whole_circuit circuit after w on;
    wholes_back = λ v pin on there seen.
        elim (old_or_own c whole_circuit circuit after v pin on there) [
          | inl old ↦ inl old
          | inr own_pin ↦ inr (pin_given phase pin lt own_pin seen)
        ];
    inputs = λ n net here kind seen. input_there whole_circuit after phase n net lt here kind seen;
    clocks = λ n net clock here kind.
        let x = clock_there n net clock here kind in
        (x.0, x.1, subst (λ (xs : List FlatInstance). Among xs x.0) (sym after.instances) x.2, x.3, x.4, subst (λ (u : Top). is_constrained u.rules (cell_at u.design x.0.cell).name ≡ true) same x.5);
  }

pub step_has_left_instances : StepHasLeftInstances
step_has_left_instances k cut blif facts i p m depth front back c whole_circuit phase same lt step split circuit after =
    has_left cut blif facts i p m step depth front back split k c whole_circuit phase same lt circuit after
