-- Output pins before and after one more instance is whole.
use Rattle.std.proofs.Common.{◌≡◌, ◌⊎◌, ℕ, suc, ◌+◌, ◌<◌, Bool, true, false, List, [], ◌∷◌, ◌++◌, map, length, Some, cond, refl, ap, sym, ◌∙◌, subst, arith, append-nil, inl, inr}
use Rattle.std.specs.Prelude.{flat_map, is_some}
use Rattle.std.specs.List.{AllZip}
use Rattle.std.proofs.lemmas.Grind.{flat_map-append}
use Rattle.std.proofs.lemmas.List.{length-map}
use Rattle.std.proofs.lemmas.Option.{none-some, slice_get_within}
use Rattle.std.proofs.lemmas.Slice.Zip.{AllZip-long}
use Rattle.cell_inside.specs.Placed.{IsPlaced}
use Rattle.firm_faults.specs.StepDown.{HasOneMoreWhole, IsSameWhole}
use Rattle.placed_cells.proofs.ListLaws.{zip_left}
use Rattle.placed_cells.specs.Above.{net_above}
use Rattle.replaced_cells.specs.OneMoreWhole.{HasCellPins, HasSameSignal}
use Rattle.replaced_instances.proofs.ChosenSteps.{chosen_step_is_placed, exposed_true, exposure}
use Rattle.replaced_instances.proofs.Exposures.{AreExposed}
use Rattle.replaced_instances.proofs.OutputPorts.{count_below_port}
use Rattle.replaced_instances.proofs.PinOutputs.{output_pin, pin_output, settled}
use Rattle.replaced_instances.proofs.StepHides.{remaining_port}
use Rattle.replaced_instances.proofs.StepInstances.{zip_at_left}
use Rattle.replaced_instances.proofs.StepOutputs.{one_more_place, outputs_behind}
use Rattle.replaced_instances.proofs.StepPorts.{output_plain, plain_output, port_of_output, rising, signal_of_output}
use Rattle.replaced_instances.specs.Steps.{IsStep, compared_at, drive_at, exposed_at, fresh_place, is_outside_at, output_place}
use Rattle.substitution_laws.proofs.WholeCells.{whole_chosen, wholes_are_determined, wholes_stand_for_cells}
use Rattle.substitution_laws.proofs.ChosenLaws.{chosen_instances_are_steps}
use Rattle.substitution_laws.specs.Pins.{IsChainStep, StepHasCellPins, StepHasOneMoreWhole}
use Rattle.vrt_model.proofs.Filtered.{filter_among}
use Rattle.vrt_model.proofs.Lists.{at_back, at_either, at_front, at_last, at_map, map_at, one_at}
use Rattle.vrt_model.proofs.Members.{among_later, among_left, among_right}
use Rattle.vrt_model.specs.Checked.{before, top_of, with_circuit}
use Rattle.vrt_model.specs.CheckedParts.{checked_devices}
use Rattle.vrt_model.specs.Comparison.{CellPort, Comparison, is_observed, output_signal, phase_at, ports_of}
use Rattle.vrt_model.specs.Cut.{Cut, NumberedPlace, whole_places}
use Rattle.vrt_model.specs.Determined.{IsLinkedTo}
use Rattle.vrt_model.specs.Facts.{output_ports}
use Rattle.vrt_model.specs.Known.{IsPlain}
use Rattle.vrt_model.specs.Lists.{Among, At}
use Rattle.vrt_model.specs.PairedPorts.{Model, paired_model}
use Rattle.vrt_model.specs.State.{OutputPin, output_pins}
use Rattle.vrt_model.specs.Unrolled.{Place, Top}
use Rattle.vrt_model.specs.WholeInstances.{IsWholeAt, OutputAt, all_outputs, outputs_of_place, settled_drive}
use Rattle.vrt_model.specs.declared.blif.Blif.{Blif}
use Rattle.vrt_model.specs.declared.circuit.Circuit.{Circuit}
use Rattle.vrt_model.specs.declared.rules.Phase.{Phase}
use Rattle.vrt_model.specs.declared.whole.CellFacts.{CellFacts}
use Rattle.vrt_model.specs.declared.whole.Drive.TheVariants.{Soft}
use Rattle.vrt_model.specs.declared.whole.Whole.{Whole}
use Rattle.vrt_model.specs.declared.whole.WholePin.{WholePin}
use Rattle.whole_ranks.proofs.PlaceLaws.{made_is}
use Rattle.whole_ranks.specs.WholeCells.{IsOutputAt, StandsFor}

-- ---- one whole instance in two circuits

module _ (phase : Phase) where
  -- each output of the first is one of the second
  abbrev pub HasSamePins : Whole → Whole → Type 0
  HasSamePins w v = (at : ℕ) (pin : WholePin) → At w.outputs at pin → (x : WholePin) × At v.outputs at x × (x.net ≡ pin.net) × (x.signal ≡ pin.signal)

  pub record IsWholeAgain (w v : Whole) : Type 0 where
    pub same : IsSameWhole phase w v
    pub count : length v.outputs ≡ length w.outputs
    pub pins : HasSamePins w v

  -- and each output pin of it
  pub record IsPinAgain (out pin : OutputPin) : Type 0 where
    pub whole : IsSameWhole phase out.whole pin.whole
    pub net : pin.pin.net ≡ out.pin.net
    pub signal : pin.pin.signal ≡ out.pin.signal

  module _ (cut : Cut) (blif : Blif) (facts : List CellFacts) (a b : ℕ) (p : NumberedPlace) (m : ℕ) (w v : Whole) (paired : paired_model cut.top.design blif cut.top.rules p.at.cell ≡ Model m)
      (one : IsWholeAt (before cut a) blif facts p w) (other : IsWholeAt (before cut b) blif facts p v) where
    abbrev outs : List OutputAt
    outs = outputs_of_place cut.top blif facts p

    abbrev first : OutputAt → WholePin
    first o = settled_drive (checked_devices (before cut a)) (all_outputs (before cut a) blif facts) o

    abbrev second : OutputAt → WholePin
    second o = settled_drive (checked_devices (before cut b)) (all_outputs (before cut b) blif facts) o

    outputs_of_first : map first outs ≡ w.outputs
    outputs_of_first = ap (λ (x : Whole). x.outputs) (made_is (before cut a) blif facts p m w paired one)

    outputs_of_second : map second outs ≡ v.outputs
    outputs_of_second = ap (λ (x : Whole). x.outputs) (made_is (before cut b) blif facts p m v paired other)

    pins_again : HasSamePins w v
    pins_again at pin here =
        let o = at_map first outs at pin (subst (λ (pins : List WholePin). At pins at pin) (sym outputs_of_first) here) in (
          second o.0,
          subst (λ (pins : List WholePin). At pins at (second o.0)) outputs_of_second (map_at second outs at o.0 o.1),
          ap (λ (x : WholePin). x.net) o.2,
          ap (λ (x : WholePin). x.signal) o.2,
        )

    links_again : (input : WholePin) (at : ℕ) → IsLinkedTo phase w input at → IsLinkedTo phase v input at
    links_again input at (link, on, named, from, to) =
        let s = (one.links m paired).sound link on in
        let x = pins_again link.output s.3 s.10 in
        let f = (other.links m paired).full s.0 s.1 s.2 x.0 link.output s.4 s.6 s.7 s.8 x.1 (s.11 ∙ ap (λ (n : ℕ). Some n) (sym x.3)) in
        (f.0, f.1, f.2 ∙ (sym s.5 ∙ named), f.3 ∙ (sym s.9 ∙ from), f.4 ∙ to)

    pub whole_again : IsWholeAgain w v
    whole_again =
        let e = made_is (before cut a) blif facts p m w paired one in
        let f = made_is (before cut b) blif facts p m v paired other in
        record {
          same = record {
            model = ap (λ (x : Whole). x.model) (sym f) ∙ ap (λ (x : Whole). x.model) e;
            clocked = ap (λ (x : Whole). x.clocked) (sym f) ∙ ap (λ (x : Whole). x.clocked) e;
            inputs = ap (λ (x : Whole). x.inputs) (sym f) ∙ ap (λ (x : Whole). x.inputs) e;
            outputs = λ at pin here. let x = pins_again at pin here in (x.0, x.1, x.2);
            links = links_again;
          };
          count = ap (λ (pins : List WholePin). length pins) (sym outputs_of_second) ∙ length-map outs second ∙ sym (length-map outs first) ∙ ap (λ (pins : List WholePin). length pins) outputs_of_first;
          pins = pins_again;
        }

  -- ---- lists of them

  abbrev pub pin_in : Whole → WholePin → OutputPin
  pin_in w pin = record { whole = w; pin = pin }

  abbrev pub pins_in : Whole → List OutputPin
  pins_in w = map (pin_in w) w.outputs

  pub pins_in_row : (ws vs : List Whole) → AllZip IsWholeAgain ws vs → (j : ℕ) (out : OutputPin) → At (flat_map pins_in ws) j out
      → (pin : OutputPin) × At (flat_map pins_in vs) j pin × IsPinAgain out pin
  pins_in_row [] vs h j out e = absurd (none-some out e)
  pins_in_row (w ∷ ws) [] h j out e = absurd h
  pins_in_row (w ∷ ws) (v ∷ vs) h j out e =
      elim (at_either (pins_in w) (flat_map pins_in ws) j out e) [
        | inl here ↦
            let from = at_map (pin_in w) w.outputs j out here in
            let x = h.0.pins j from.0 from.1 in (
              pin_in v x.0,
              at_front (pins_in v) (flat_map pins_in vs) j (pin_in v x.0) (map_at (pin_in v) v.outputs j x.0 x.1),
              subst (λ (y : OutputPin). IsPinAgain y (pin_in v x.0)) from.2 (record { whole = h.0.same; net = x.2; signal = x.3 }),
            )
        | inr behind ↦
            let more = pins_in_row ws vs h.1 behind.0 out behind.2 in
            let place = behind.1 in
            let count = length-map v.outputs (pin_in v) in
            let before = length-map w.outputs (pin_in w) in
            let same = h.0.count in
            let number : length (pins_in v) + behind.0 ≡ j = omega (arith, place, count, before, same) in (
              more.0,
              subst (λ (n : ℕ). At (pins_in v ++ flat_map pins_in vs) n more.0) number (at_back (pins_in v) (flat_map pins_in vs) behind.0 more.0 more.1),
              more.2,
            )
      ]

-- what stands beside a list with one item more
pub zip_split : {X Y : Type 0} (R : X → Y → Type 0) (xs : List X) (x : X) (ys : List Y) → AllZip R (xs ++ x ∷ []) ys
    → (front : List Y) × (y : Y) × (ys ≡ front ++ y ∷ []) × AllZip R xs front × R x y
zip_split R [] x [] h = absurd h
zip_split R [] x (y ∷ []) h = ([], y, refl, tt, h.0)
zip_split R [] x (y ∷ z ∷ ys) h = absurd h.1
zip_split R (w ∷ xs) x [] h = absurd h
zip_split {X} {Y} R (w ∷ xs) x (y ∷ ys) h =
    let more = zip_split R xs x ys h.1 in
    (y ∷ more.0, more.1, ap (λ (zs : List Y). y ∷ zs) more.2, (h.0, more.3), more.4)

-- two lists beside one
zip_both : {X Y Z : Type 0} (R : X → Y → Type 0) (S : X → Z → Type 0) (T : Y → Z → Type 0) (xs : List X) (ys : List Y) (zs : List Z)
    → ((x : X) (y : Y) (z : Z) → Among xs x → R x y → S x z → T y z) → AllZip R xs ys → AllZip S xs zs → AllZip T ys zs
zip_both R S T [] [] [] t h g = tt
zip_both R S T [] [] (z ∷ zs) t h g = absurd g
zip_both R S T [] (y ∷ ys) zs t h g = absurd h
zip_both R S T (x ∷ xs) [] zs t h g = absurd h
zip_both R S T (x ∷ xs) (y ∷ ys) [] t h g = absurd g
zip_both R S T (x ∷ xs) (y ∷ ys) (z ∷ zs) t h g =
    (t x y z (0, refl) h.0 g.0, zip_both R S T xs ys zs (λ a b c m. t a b c (among_later x xs a m)) h.1 g.1)

-- ---- a step

module _ (cut : Cut) (blif : Blif) (facts : List CellFacts) (i : ℕ) (p : NumberedPlace) (m depth : ℕ) (front back : List Place) (c whole_circuit : Circuit)
    (step : IsChainStep cut blif facts i p m depth front back c whole_circuit) (phase : ℕ) where
  abbrev t : Top
  t = cut.top

  abbrev q : Comparison
  q = compared_at cut.top blif p m

  abbrev at : ℕ → ℕ
  at n = net_above cut.top p.at n

  abbrev now : Phase
  now = phase_at cut.top.rules phase

  -- the whole instances after the step are those before it, and the instance
  pub split_wholes : (front : List Whole) × (x : Whole) × (whole_circuit.wholes ≡ front ++ x ∷ []) × AllZip (IsWholeAt (before cut (suc i)) blif facts) (whole_places (before cut i)) front
      × IsWholeAt (before cut (suc i)) blif facts p x
  split_wholes =
      zip_split (IsWholeAt (before cut (suc i)) blif facts) (whole_places (before cut i)) p whole_circuit.wholes
      (subst (λ (ps : List NumberedPlace). AllZip (IsWholeAt (before cut (suc i)) blif facts) ps whole_circuit.wholes) (one_more_place cut i p step.chosen.place step.chosen.chosen) step.whole.wholes)

  abbrev olds : List Whole
  olds = split_wholes.0

  abbrev pub x : Whole
  x = split_wholes.1

  pub x_is : IsWholeAt (before cut (suc i)) blif facts p x
  x_is = split_wholes.4

  pub x_there : Among whole_circuit.wholes x
  x_there = subst (λ (ws : List Whole). Among ws x) (sym split_wholes.2) (among_right olds (x ∷ []) x (0, refl))

  -- the cell of a whole instance pairs with a model
  modelled : (a : ℕ) (o : NumberedPlace) → Among (whole_places (before cut a)) o → (j : ℕ) × (paired_model t.design blif t.rules o.at.cell ≡ Model j)
  modelled a o on =
      let is = whole_chosen cut a o on in
      let there = chosen_instances_are_steps cut blif facts is.0 o step.choice is.1.place is.1.chosen in
      (there.0, there.1.paired)

  again : (o : NumberedPlace) (w v : Whole) → Among (whole_places (before cut i)) o → IsWholeAt (before cut i) blif facts o w → IsWholeAt (before cut (suc i)) blif facts o v → IsWholeAgain now w v
  again o w v on one other = let j = modelled i o on in whole_again now cut blif facts i (suc i) o j.0 w v j.1 one other

  back_again : (o : NumberedPlace) (v w : Whole) → Among (whole_places (before cut i)) o → IsWholeAt (before cut (suc i)) blif facts o v → IsWholeAt (before cut i) blif facts o w → IsWholeAgain now v w
  back_again o v w on one other = let j = modelled i o on in whole_again now cut blif facts (suc i) i o j.0 v w j.1 one other

  forth : AllZip (IsWholeAgain now) c.wholes olds
  forth = zip_both (IsWholeAt (before cut i) blif facts) (IsWholeAt (before cut (suc i)) blif facts) (IsWholeAgain now) (whole_places (before cut i)) c.wholes olds again step.circuit.wholes split_wholes.3

  back_forth : AllZip (IsWholeAgain now) olds c.wholes
  back_forth =
      zip_both (IsWholeAt (before cut (suc i)) blif facts) (IsWholeAt (before cut i) blif facts) (IsWholeAgain now) (whole_places (before cut i)) olds c.wholes back_again split_wholes.3 step.circuit.wholes

  -- each whole instance stays at its place in the list, and the further one is the last
  pub whole_stays : (j : ℕ) (w : Whole) → At c.wholes j w → (v : Whole) × At whole_circuit.wholes j v × IsSameWhole now w v
  whole_stays j w e =
      let later = zip_at_left (IsWholeAgain now) c.wholes olds j w forth e in
      (later.0, subst (λ (ws : List Whole). At ws j later.0) (sym split_wholes.2) (at_front olds (x ∷ []) j later.0 later.1), later.2.same)

  pub x_last : At whole_circuit.wholes (length (whole_places (before cut i))) x
  x_last =
      let count = AllZip-long (IsWholeAt (before cut (suc i)) blif facts) (whole_places (before cut i)) olds split_wholes.3 in
      subst (λ (ws : List Whole). At ws (length (whole_places (before cut i))) x) (sym split_wholes.2) (subst (λ (n : ℕ). At (olds ++ x ∷ []) n x) count (at_last olds x))

  pins_are : output_pins whole_circuit ≡ flat_map (pins_in now) olds ++ pins_in now x
  pins_are =
      ap (flat_map (pins_in now)) split_wholes.2
      ∙ flat_map-append (pins_in now) olds (x ∷ [])
      ∙ ap (λ (pins : List OutputPin). flat_map (pins_in now) olds ++ pins) (append-nil (pins_in now x))

  -- each pin stays at its place
  pub pin_stays : (j : ℕ) (out : OutputPin) → At (output_pins c) j out → (pin : OutputPin) × At (output_pins whole_circuit) j pin × IsPinAgain now out pin
  pin_stays j out e =
      let there = pins_in_row now c.wholes olds forth j out e in
      (there.0, subst (λ (pins : List OutputPin). At pins j there.0) (sym pins_are) (at_front (flat_map (pins_in now) olds) (pins_in now x) j there.0 there.1), there.2)

  -- a pin is the instance's, or an old one
  pub pin_is : (j : ℕ) (pin : OutputPin) → At (output_pins whole_circuit) j pin
      → ((pin.whole ≡ x) × Among x.outputs pin.pin) ⊎ ((out : OutputPin) × At (output_pins c) j out × IsPinAgain now pin out)
  pin_is j pin e =
      elim (at_either (flat_map (pins_in now) olds) (pins_in now x) j pin (subst (λ (pins : List OutputPin). At pins j pin) pins_are e)) [
        | inl old ↦ inr (pins_in_row now olds c.wholes back_forth j pin old)
        | inr own ↦ (let from = at_map (pin_in now x) x.outputs own.0 pin own.2 in inl (ap (λ (y : OutputPin). y.whole) (sym from.2), (own.0, from.1 ∙ ap (λ (y : OutputPin). Some y.pin) from.2)))
      ]

  -- ---- the pins at nets of the cell

  abbrev earlier : List OutputAt
  earlier = all_outputs (before cut i) blif facts

  abbrev its_outputs : List OutputAt
  its_outputs = outputs_of_place cut.top blif facts p

  abbrev fresh : ℕ → ℕ
  fresh n = fresh_place (before cut i) blif facts (compared_at cut.top blif p m) n

  abbrev exposed : ℕ → Bool
  exposed n = exposed_at cut blif facts i p (compared_at cut.top blif p m) n

  abbrev drive : ℕ → ℕ
  drive n = drive_at facts p (compared_at cut.top blif p m) n

  pub any_step : IsStep cut blif facts i p m
  any_step = step.chosen

  pub some_phase : 0 < length cut.top.rules.phases
  some_phase = step.choice.read.valid.some_phase

  pub placed : IsPlaced q.circuit c at exposed drive
  placed = chosen_step_is_placed cut blif facts i p m c any_step some_phase step.circuit

  pub exposure_is : AreExposed cut blif facts i p m exposed drive
  exposure_is = exposure cut blif facts i p m any_step some_phase depth front back step.split c step.circuit

  -- one behind the pins that were there is the instance's
  pub pin_behind : (l : ℕ) (pin : OutputPin) → At (output_pins whole_circuit) (length earlier + l) pin → (pin.whole ≡ x) × Among x.outputs pin.pin
  pin_behind l pin e =
      elim (pin_is (length earlier + l) pin e) [
        | inl own ↦ own
        | inr old ↦
            let o = pin_output (before cut i) blif facts c step.circuit (length earlier + l) old.0 old.1 in
            let low = slice_get_within earlier (length earlier + l) o.0 o.1 in
            absurd (omega (arith, low))
      ]

  -- the place of an output among the outputs, by the net of its port
  pub place_of_port : (j : ℕ) (port : CellPort) → At (output_ports q) j port → output_place q port.net ≡ j
  place_of_port j port e = count_below_port 2 (output_ports q) j port (rising cut blif facts i p m step.chosen) e

  -- the output whose pin stands at the place for a net of the cell
  output_at_fresh : (n : ℕ) (pin : OutputPin) → At (output_pins whole_circuit) (fresh n) pin → (o : OutputAt) × At its_outputs (output_place q n) o × (settled (before cut (suc i)) blif facts o ≡ pin.pin)
  output_at_fresh n pin e =
      let o = pin_output (before cut (suc i)) blif facts whole_circuit step.whole (fresh n) pin e in
      elim (at_either earlier its_outputs (fresh n) o.0 (subst (λ (os : List OutputAt). At os (fresh n) o.0) (outputs_behind cut i p step.chosen.place step.chosen.chosen blif facts) o.1)) [
        | inl old ↦ (let low = slice_get_within earlier (fresh n) o.0 old in absurd (omega (arith, low)))
        | inr new ↦
            let sum = new.1 in
            let place : new.0 ≡ output_place q n = omega (arith, sum) in
            (o.0, subst (λ (j : ℕ). At its_outputs j o.0) place new.2, o.2)
      ]

  -- is that of the port at this net
  pub port_of : (n : ℕ) (pin : OutputPin) → At (output_pins whole_circuit) (fresh n) pin → IsPlain q.circuit n → pin.pin.net.0 ≡ at n
      → (j : ℕ) × (port : CellPort) × IsOutputAt q j port pin.pin.signal × (port.net ≡ n)
  port_of n pin e plain net =
      let o = output_at_fresh n pin e in
      let port = port_of_output cut blif facts i p m step.chosen (output_place q n) o.0 o.1 in
      let out = filter_among (λ (y : CellPort). is_some (output_signal y.role)) (ports_of q) port.0 (output_place q n, port.1) in
      let signal = signal_of_output cut blif facts i p m step.chosen (output_place q n) o.0 port.0 o.1 port.1 ∙ ap (λ (y : WholePin). Some y.signal) o.2 in
      let above : at port.0.net ≡ at n = sym port.2 ∙ ap (λ (y : WholePin). y.net.0) o.2 ∙ net in
      let low = output_plain cut blif facts i p m step.chosen port.0 (output_place q n, port.1) in (
        out.0.0,
        port.0,
        (out.0.1, signal),
        elim (placed.apart port.0.net n low.1 plain above) [
          | inl one ↦ one
          | inr both ↦
              let other = exposed_true cut blif facts i p m any_step n both.1 in
              let place : other.1.0 ≡ output_place q n = sym (place_of_port other.1.0 other.0 other.1.1) ∙ ap (output_place q) other.2 in
              let same = one_at (output_ports q) (output_place q n) port.0 other.0 port.1 (subst (λ (j : ℕ). At (output_ports q) j other.0) place other.1.1) in
              ap (λ (y : CellPort). y.net) same ∙ other.2
        ],
      )

  -- where a net of the cell remains, the instance has a pin there, which is soft where it is not exposed
  pub pin_there : (n : ℕ) → IsPlain q.circuit n → is_outside_at t depth p.at (at n) ≡ true
      → (pin : OutputPin) × At (output_pins whole_circuit) (fresh n) pin × (pin.whole ≡ x) × (pin.pin.net.0 ≡ at n) × (exposed n ≡ false → pin.pin.drive ≡ Soft)
  pin_there n plain stays =
      let low = remaining_port cut blif facts i p m step.chosen depth front back step.split n plain stays in
      let found = plain_output cut blif facts i p m step.chosen n low plain in
      let o = found.1 in
      let place : o.output ≡ output_place q n = sym (place_of_port o.output found.0 found.2) ∙ ap (output_place q) found.4 in
      let number : length earlier + o.output ≡ fresh n = ap (λ (j : ℕ). length earlier + j) place in
      let here : At (all_outputs (before cut (suc i)) blif facts) (length earlier + o.output) o =
      subst (λ (os : List OutputAt). At os (length earlier + o.output) o) (sym (outputs_behind cut i p step.chosen.place step.chosen.chosen blif facts)) (at_back earlier its_outputs o.output o found.3) in
      let pin = output_pin (before cut (suc i)) blif facts whole_circuit step.whole (length earlier + o.output) o here in (
        pin.0,
        subst (λ (j : ℕ). At (output_pins whole_circuit) j pin.0) number pin.1,
        (pin_behind o.output pin.0 pin.1).0,
        ap (λ (y : WholePin). y.net.0) pin.2 ∙ found.5,
        λ hidden. ap (λ (y : WholePin). y.drive) pin.2
            ∙ ap (λ (b : Bool). cond b Soft o.pin.drive) (exposure_is.others o found.0 found.3 found.2 (ap exposed found.4 ∙ hidden)),
      )

  module _ (k : Comparison) (same : cut.top ≡ top_of k) (lt : phase < length cut.top.rules.phases) where
    pub has_cell_pins : HasCellPins (with_circuit k c) q phase whole_circuit at (λ j. j) (fresh_place (before cut i) blif facts q) (is_outside_at t depth p.at)
    has_cell_pins = record {
      stay = λ j out pin e f.
          let there = pin_stays j out e in
          let one = one_at (output_pins whole_circuit) j there.0 pin there.1 f in
          subst (HasSameSignal out) one (record { model = there.2.whole.model; clocked = there.2.whole.clocked; inputs = there.2.whole.inputs; signal = there.2.signal });
      own = λ n pin plain there net.
          let own = pin_behind (output_place q n) pin there in (
            subst (λ (w : Whole). StandsFor q phase whole_circuit (is_observed (with_circuit k whole_circuit) phase) at w) (sym own.0)
                (wholes_stand_for_cells k cut blif facts i p m phase (suc i) whole_circuit x same step.choice step.chosen step.supported lt step.whole x_there x_is),
            port_of n pin there plain net,
          );
      there = λ n plain stays. let pin = pin_there n plain stays in (pin.0, (fresh_place (before cut i) blif facts q n, pin.1), pin.3);
    }

    pub has_one_more : HasOneMoreWhole now c whole_circuit (λ j. j) x
    has_one_more = record {
      own = x_there;
      wholes = λ w on.
          let v = zip_left (IsWholeAgain now) c.wholes olds w forth on in
          (v.0, subst (λ (ws : List Whole). Among ws v.0) (sym split_wholes.2) (among_left olds (x ∷ []) v.0 v.1), v.2.same);
      pins = λ j out e. let pin = pin_stays j out e in (pin.0, pin.1, pin.2.whole, pin.2.net, pin.2.signal);
      pins_back = λ j pin e. elim (pin_is j pin e) [ inl own ↦ inl own.0 | inr old ↦ inr (j, old.0, old.1, sym old.2.net) ];
      assigned = λ w reading on. (wholes_are_determined k cut blif facts phase (suc i) whole_circuit same step.choice lt step.whole w on).assigned reading;
    }

pub step_has_cell_pins : StepHasCellPins
step_has_cell_pins k cut blif facts i p m depth front back c whole_circuit phase same lt step = has_cell_pins cut blif facts i p m depth front back c whole_circuit step phase k same lt

pub step_has_one_more_whole : StepHasOneMoreWhole
step_has_one_more_whole k cut blif facts i p m depth front back c whole_circuit phase same lt step = (
  x cut blif facts i p m depth front back c whole_circuit step phase,
  x_is cut blif facts i p m depth front back c whole_circuit step phase,
  has_one_more cut blif facts i p m depth front back c whole_circuit step phase k same lt,
)
