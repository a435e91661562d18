-- What ends at nets: the outputs of whole instances differ, so that one is alone exactly where nothing else is counted.
use Rattle.std.proofs.Common.{◌≡◌, ℕ, zero, suc, ◌+◌, ◌<◌, ◌≤◌, ◌==◌, ◌&&◌, Bool, true, false, not, cond, List, [], ◌∷◌, length, Option, Some, None, length-append, map, arith, ap, ap₂, refl, subst, sym, ◌∙◌}
use Rattle.std.specs.Prelude.{All, drop, filter, flat_map}
use Rattle.std.specs.List.{enumerate_from}
use Rattle.std.proofs.lemmas.Bool.{and_from, and_parts, eq-eqb, eqb-true, false_from_ne_true, false≢true}
use Rattle.std.proofs.lemmas.List.Elements.{filter-append}
use Rattle.std.proofs.lemmas.List.Filters.{length-filter_both}
use Rattle.checked_chain.proofs.ChoiceLaws.{numbered, numbered_at}
use Rattle.whole_circuits.proofs.FlatLaws.{flat_parts}
use Rattle.whole_circuits.proofs.LevelLaws.{bears_is, none_borne, none_there}
use Rattle.whole_circuits.specs.Ends.{HasEnds, is_alone, outputs_at, settled_by}
use Rattle.whole_circuits.specs.Outputs.{output_at, own_outputs}
use Rattle.whole_circuits.specs.declared.ends.NetEnds.{NetEnds}
use Rattle.vrt_model.proofs.Filtered.{among_kept, filter_among}
use Rattle.vrt_model.proofs.Lists.{filter_swap, filter_twice, map_among}
use Rattle.vrt_model.proofs.Members.{all_among, among_flat_map, among_later, among_map, at_none, flat_map_among}
use Rattle.vrt_model.proofs.Tests.{same_tests}
use Rattle.vrt_model.specs.CheckedParts.{checked_devices}
use Rattle.vrt_model.specs.Circuits.{IsCircuit, IsDevice, IsNet}
use Rattle.vrt_model.specs.Comparison.{CellPort, cell_at, output_signal, ports_of}
use Rattle.vrt_model.specs.Cut.{Cut, NumberedPlace, is_left_out, is_whole, numbered_places, shown, whole_places}
use Rattle.vrt_model.specs.FlatCircuit.{flat_circuit_of, flat_device, flat_devices, flat_instance, net_id}
use Rattle.vrt_model.specs.Levels.{IsDeviceLevel}
use Rattle.vrt_model.specs.Lists.{Among, At, is_empty}
use Rattle.vrt_model.specs.PairedPorts.{Missing, Model, Paired, Skipped, paired_model}
use Rattle.vrt_model.specs.Unrolled.{Place, Top, all_places}
use Rattle.vrt_model.specs.Unsupported.{comparison_of}
use Rattle.vrt_model.specs.WholeInstances.{OutputAt, Pin, all_outputs, channels_at, drive_in, driven_pins, driven_pins_from, meets_gates_only, others_at, outputs_of_place, pins_from, pins_of, settled_drive}
use Rattle.vrt_model.specs.declared.blif.Blif.{Blif}
use Rattle.vrt_model.specs.declared.circuit.Circuit.{Circuit}
use Rattle.vrt_model.specs.declared.circuit.Device.{Device}
use Rattle.vrt_model.specs.declared.circuit.FlatInstance.{FlatInstance}
use Rattle.vrt_model.specs.declared.ids.Net.{Net}
use Rattle.vrt_model.specs.declared.whole.CellFacts.{CellFacts}
use Rattle.vrt_model.specs.declared.whole.Drive.TheVariants.{Soft}
use Rattle.vrt_model.specs.declared.whole.WholePin.{WholePin}

-- the outputs of the instance at a place, by the pairing of its cell
abbrev outputs_by : Top → Blif → List CellFacts → NumberedPlace → Paired → List OutputAt
outputs_by t blif facts p paired =
    elim paired [ Model m ↦ own_outputs p.number (driven_pins facts (comparison_of t.design blif t.rules p.at.cell m) p.at) | _ ↦ [] ]

-- the pins of some ports, by whether the first is an output
abbrev driven_with : List CellFacts → ℕ → ℕ → Pin → List Pin → Option ℕ → List WholePin
driven_with facts cell j p pins o =
    elim o [
      | None ↦ driven_pins_from facts cell j pins
      | Some s ↦ record { net = p.net; signal = s; drive = drive_in facts cell j; observed = false } ∷ driven_pins_from facts cell (suc j) pins
    ]

-- ---- an output stands once among all

-- the output of an instance of a number at a place
abbrev is_output : ℕ → ℕ → OutputAt → Bool
is_output number j o = (o.instance == number) && (o.output == j)

off : (a b : ℕ) → (a ≡ b → ⊥) → (a == b) ≡ false
off a b ne = false_from_ne_true (a == b) (λ e. ne (eqb-true a b e))

module _ (number j : ℕ) where
  abbrev itself : OutputAt → Bool
  itself = is_output number j

  abbrev count : List OutputAt → ℕ
  count os = length (filter itself os)

  -- of the pins of one instance
  none_further : (instance n : ℕ) (pins : List WholePin) → j < n → count (map (output_at instance) (enumerate_from n pins)) ≡ 0
  none_further instance n [] lt = refl
  none_further instance n (p ∷ pins) lt = by_test (none_further instance (n + 1) pins (omega (arith, lt))) (is_output number j (output_at instance (n, p))) refl
    where
      by_test : count (map (output_at instance) (enumerate_from (n + 1) pins)) ≡ 0 → (b : Bool) → is_output number j (output_at instance (n, p)) ≡ b
          → length (cond b (output_at instance (n, p) ∷ filter itself (map (output_at instance) (enumerate_from (n + 1) pins))) (filter itself (map (output_at instance) (enumerate_from (n + 1) pins)))) ≡ 0
      by_test rest true e = absurd (let same = eqb-true n j (and_parts (instance == number) (n == j) e).1 in let no : ⊥ = omega (arith, same, lt) in no)
      by_test rest false e = rest

  once_from : (instance n : ℕ) (pins : List WholePin) → count (map (output_at instance) (enumerate_from n pins)) ≤ 1
  once_from instance n [] = omega arith
  once_from instance n (p ∷ pins) = by_test (once_from instance (n + 1) pins) (is_output number j (output_at instance (n, p))) refl
    where
      by_test : count (map (output_at instance) (enumerate_from (n + 1) pins)) ≤ 1 → (b : Bool) → is_output number j (output_at instance (n, p)) ≡ b
          → length (cond b (output_at instance (n, p) ∷ filter itself (map (output_at instance) (enumerate_from (n + 1) pins))) (filter itself (map (output_at instance) (enumerate_from (n + 1) pins)))) ≤ 1
      by_test later true e =
          let same = eqb-true n j (and_parts (instance == number) (n == j) e).1 in
          let rest = none_further instance (n + 1) pins (omega (arith, same)) in
          omega (arith, rest)
      by_test later false e = later

  -- of those of an instance of another number there is none
  none_of_other : (instance : ℕ) → (instance ≡ number → ⊥) → (qs : List (ℕ × WholePin)) → count (map (output_at instance) qs) ≡ 0
  none_of_other instance ne [] = refl
  none_of_other instance ne (q ∷ qs) =
      ap (λ (b : Bool). length (cond (b && (q.0 == j)) (output_at instance q ∷ filter itself (map (output_at instance) qs)) (filter itself (map (output_at instance) qs)))) (off instance number ne)
      ∙ none_of_other instance ne qs

  module _ (t : Top) (blif : Blif) (facts : List CellFacts) (choice : ℕ → Bool) where
    at_place : (p : NumberedPlace) → count (outputs_of_place t blif facts p) ≤ 1
    at_place p = by_pairing (paired_model t.design blif t.rules p.at.cell)
      where
        by_pairing : (paired : Paired) → count (outputs_by t blif facts p paired) ≤ 1
        by_pairing (Model m) = once_from p.number 0 (driven_pins facts (comparison_of t.design blif t.rules p.at.cell m) p.at)
        by_pairing Skipped = omega arith
        by_pairing Missing = omega arith

    at_other : (p : NumberedPlace) → (p.number ≡ number → ⊥) → count (outputs_of_place t blif facts p) ≡ 0
    at_other p ne = by_pairing (paired_model t.design blif t.rules p.at.cell)
      where
        by_pairing : (paired : Paired) → count (outputs_by t blif facts p paired) ≡ 0
        by_pairing (Model m) = none_of_other p.number ne (enumerate_from 0 (driven_pins facts (comparison_of t.design blif t.rules p.at.cell m) p.at))
        by_pairing Skipped = refl
        by_pairing Missing = refl

    -- of all places from a number on
    abbrev from : ℕ → List Place → List NumberedPlace
    from n places = filter (λ (p : NumberedPlace). is_whole choice p.number) (map numbered (enumerate_from n places))

    abbrev all_from_number : ℕ → List Place → List OutputAt
    all_from_number n places = flat_map (outputs_of_place t blif facts) (from n places)

    count_both : (p : NumberedPlace) (ps : List NumberedPlace)
        → count (flat_map (outputs_of_place t blif facts) (p ∷ ps)) ≡ count (outputs_of_place t blif facts p) + count (flat_map (outputs_of_place t blif facts) ps)
    count_both p ps =
        ap (λ (os : List OutputAt). length os) (filter-append itself (outputs_of_place t blif facts p) (flat_map (outputs_of_place t blif facts) ps))
        ∙ length-append (filter itself (outputs_of_place t blif facts p)) (filter itself (flat_map (outputs_of_place t blif facts) ps))

    none_behind : (n : ℕ) (places : List Place) → number < n → count (all_from_number n places) ≡ 0
    none_behind n [] lt = refl
    none_behind n (at ∷ places) lt = by_test (none_behind (n + 1) places (omega (arith, lt))) (is_whole choice n)
      where
        by_test : count (all_from_number (n + 1) places) ≡ 0 → (b : Bool) → count (flat_map (outputs_of_place t blif facts) (cond b (numbered (n, at) ∷ from (n + 1) places) (from (n + 1) places))) ≡ 0
        by_test rest true =
            let both = count_both (numbered (n, at)) (from (n + 1) places) in
            let here = at_other (numbered (n, at)) (λ e. let no : ⊥ = omega (arith, e, lt) in no) in
            let later = rest in
            omega (arith, both, here, later)
        by_test rest false = rest

    once : (n : ℕ) (places : List Place) → count (all_from_number n places) ≤ 1
    once n [] = omega arith
    once n (at ∷ places) = by_test (once (n + 1) places) (is_whole choice n) (n == number) refl
      where
        by_test : count (all_from_number (n + 1) places) ≤ 1 → (b same : Bool) → (n == number) ≡ same → count (flat_map (outputs_of_place t blif facts) (cond b (numbered (n, at) ∷ from (n + 1) places) (from (n + 1) places))) ≤ 1
        by_test later false same e = later
        by_test rest true true e =
            let is = eqb-true n number e in
            let both = count_both (numbered (n, at)) (from (n + 1) places) in
            let here = at_place (numbered (n, at)) in
            let later = none_behind (n + 1) places (omega (arith, is)) in
            omega (arith, both, here, later)
        by_test later true false e =
            let both = count_both (numbered (n, at)) (from (n + 1) places) in
            let here = at_other (numbered (n, at)) (λ is. false≢true (sym e ∙ eq-eqb n number is)) in
            omega (arith, both, here, later)

-- ---- one that is alone

module _ (cut : Cut) (blif : Blif) (facts : List CellFacts) (one : OutputAt) (there : Among (all_outputs cut blif facts) one) where
  abbrev outputs : List OutputAt
  outputs = all_outputs cut blif facts

  abbrev n : ℕ
  n = one.pin.net.0

  abbrev at_net : OutputAt → Bool
  at_net o = o.pin.net.0 == n

  abbrev same : OutputAt → Bool
  same = is_output one.instance one.output

  some_same : Among (filter same outputs) one
  some_same = among_kept same outputs one there (and_from (one.instance == one.instance) (one.output == one.output) (eq-eqb one.instance one.instance refl) (eq-eqb one.output one.output refl))

  -- the only one that is the same is there
  single : {X : Type 0} (xs : List X) (x : X) → Among xs x → length xs ≤ 1 → xs ≡ x ∷ []
  single [] x m le = absurd (at_none m.0 x m.1)
  single (y ∷ []) x (zero, e) le = let first : y ≡ x = cc in ap (λ z. z ∷ []) first
  single (y ∷ []) x (suc i, e) le = absurd (at_none i x e)
  single (y ∷ z ∷ xs) x m le = absurd (let no : ⊥ = omega (arith, le) in no)

  only_same : filter same outputs ≡ one ∷ []
  only_same = single (filter same outputs) one some_same (once one.instance one.output cut.top blif facts cut.choice 0 (all_places cut.top))

  same_there : length (filter same (outputs_at outputs n)) ≡ 1
  same_there =
      ap (λ (os : List OutputAt). length os) (filter_swap same at_net outputs ∙ ap (filter at_net) only_same)
      ∙ ap (λ (b : Bool). length (cond b (one ∷ []) [])) (eq-eqb n n refl)

  others_there : length (others_at outputs one) + 1 ≡ length (outputs_at outputs n)
  others_there =
      let both = length-filter_both same (λ o. not (same o)) (λ o. refl) (outputs_at outputs n) in
      let others = ap (λ (os : List OutputAt). length os) (filter_twice (λ o. not (same o)) at_net outputs) in
      let mine = same_there in
      omega (arith, both, others, mine)

  pub alone_by_count : is_empty (others_at outputs one) ≡ (length (outputs_at outputs n) == 1)
  alone_by_count =
      none_there (others_at outputs one)
      ∙ (let sum = others_there in
      same_tests (length (others_at outputs one) == 0) (length (outputs_at outputs n) == 1)
      (λ e. let none = eqb-true (length (others_at outputs one)) 0 e in eq-eqb (length (outputs_at outputs n)) 1 (omega (arith, sum, none)))
      (λ e. let only = eqb-true (length (outputs_at outputs n)) 1 e in eq-eqb (length (others_at outputs one)) 0 (omega (arith, sum, only))))

  pub alone_is : (c : Circuit) (ends : NetEnds) → HasEnds cut blif facts c ends → meets_gates_only (checked_devices cut) outputs one ≡ is_alone ends n
  alone_is c ends has =
      ap₂ (λ (a b : Bool). a && b)
      (sym (none_borne (channels_at (checked_devices cut) n))
      ∙ sym (bears_is c (checked_devices cut) (length c.nets) ends.channels.items has.levels has.are.channels Soft n within))
      (alone_by_count ∙ ap (λ (k : ℕ). k == 1) (sym (has.are.outputs_are n (subst (λ (k : ℕ). n < k) (sym has.are.each) within))))
    where
      within : n < length c.nets
      within = has.within one there

-- ---- settled pins

module _ (cut : Cut) (blif : Blif) (facts : List CellFacts) (c : Circuit) (ends : NetEnds) (has : HasEnds cut blif facts c ends) where
  pub settled_is : (o : OutputAt) → Among (all_outputs cut blif facts) o → settled_drive (checked_devices cut) (all_outputs cut blif facts) o ≡ settled_by ends o.pin
  settled_is o on =
      ap (λ (b : Bool). let pin = o.pin in let one : WholePin = record pin { drive = cond b Soft pin.drive } in one) (alone_is cut blif facts o on c ends has)

  settled_from : (number n : ℕ) (pins : List WholePin)
      → ((q : ℕ × WholePin) → Among (enumerate_from n pins) q → settled_drive (checked_devices cut) (all_outputs cut blif facts) (output_at number q) ≡ settled_by ends q.1)
      → map (settled_drive (checked_devices cut) (all_outputs cut blif facts)) (map (output_at number) (enumerate_from n pins)) ≡ map (settled_by ends) pins
  settled_from number n [] each = refl
  settled_from number n (p ∷ pins) each =
      ap₂ (λ (x : WholePin) (xs : List WholePin). x ∷ xs) (each (n, p) (0, refl))
      (settled_from number (n + 1) pins (λ q m. each q (among_later (n, p) (enumerate_from (n + 1) pins) q m)))

  pub settled_pins_are : (p : NumberedPlace) (m : ℕ) → Among (whole_places cut) p → paired_model cut.top.design blif cut.top.rules p.at.cell ≡ Model m
      → map (settled_drive (checked_devices cut) (all_outputs cut blif facts)) (outputs_of_place cut.top blif facts p)
      ≡ map (settled_by ends) (driven_pins facts (comparison_of cut.top.design blif cut.top.rules p.at.cell m) p.at)
  settled_pins_are p m on paired =
      ap (map (settled_drive (checked_devices cut) (all_outputs cut blif facts))) own_is
      ∙ settled_from p.number 0 pins
      (λ q there.
      settled_is (output_at p.number q)
      (flat_map_among (outputs_of_place cut.top blif facts) (whole_places cut) p (output_at p.number q) on
      (subst (λ (os : List OutputAt). Among os (output_at p.number q)) (sym own_is) (map_among (output_at p.number) (enumerate_from 0 pins) q there))))
    where
      pins : List WholePin
      pins = driven_pins facts (comparison_of cut.top.design blif cut.top.rules p.at.cell m) p.at

      own_is : outputs_of_place cut.top blif facts p ≡ own_outputs p.number (driven_pins facts (comparison_of cut.top.design blif cut.top.rules p.at.cell m) p.at)
      own_is = ap (outputs_by cut.top blif facts p) paired

-- ---- ranges

-- a pin is at one of the nets
pin_net : (ports : List CellPort) (nets : List ℕ) (pin : Pin) → Among (pins_from ports nets) pin → (x : ℕ) × Among nets x × (pin.net ≡ net_id x)
pin_net [] nets pin m = absurd (at_none m.0 pin m.1)
pin_net (port ∷ ports) [] pin m = absurd (at_none m.0 pin m.1)
pin_net (port ∷ ports) (x ∷ nets) pin (zero, e) =
    let first : Pin = record { port = port; net = net_id x } in
    let same : first ≡ pin = cc in
    (x, (0, refl), ap (λ (y : Pin). y.net) (sym same))
pin_net (port ∷ ports) (x ∷ nets) pin (suc i, e) =
    let more = pin_net ports nets pin (i, e) in (more.0, among_later x nets more.0 more.1, more.2)

-- an output pin is at the net of a port
driven_net : (facts : List CellFacts) (cell j : ℕ) (pins : List Pin) (q : WholePin) → Among (driven_pins_from facts cell j pins) q → (pin : Pin) × Among pins pin × (q.net ≡ pin.net)
driven_net facts cell j [] q m = absurd (at_none m.0 q m.1)
driven_net facts cell j (p ∷ pins) q m = by_signal (λ k n. driven_net facts cell k pins q n) (output_signal p.port.role) m
  where
    behind : ((pin : Pin) × Among pins pin × (q.net ≡ pin.net)) → (pin : Pin) × Among (p ∷ pins) pin × (q.net ≡ pin.net)
    behind rest = (rest.0, among_later p pins rest.0 rest.1, rest.2)

    by_signal : ((k : ℕ) → Among (driven_pins_from facts cell k pins) q → (pin : Pin) × Among pins pin × (q.net ≡ pin.net)) → (o : Option ℕ) → Among (driven_with facts cell j p pins o) q → (pin : Pin) × Among (p ∷ pins) pin × (q.net ≡ pin.net)
    by_signal later None m = behind (later j m)
    by_signal later (Some s) (zero, e) =
        let first : WholePin = record { net = p.net; signal = s; drive = drive_in facts cell j; observed = false } in
        let same : first ≡ q = cc in
        (p, (0, refl), ap (λ (x : WholePin). x.net) (sym same))
    by_signal later (Some s) (suc i, e) = behind (later (suc j) (i, e))

module _ (cut : Cut) (blif : Blif) (facts : List CellFacts) (flat : Circuit) (is : flat ≡ flat_circuit_of cut.top) (formed : IsCircuit flat) where
  device_flat : (d : Device) → Among (checked_devices cut) d → Among (flat_devices cut.top) d
  device_flat d on =
      let cards : Place → List Device = λ at. map (flat_device cut.top at) (cell_at cut.top.design at.cell).devices in
      let from = among_flat_map (λ (p : NumberedPlace). map (flat_device cut.top p.at) (cell_at cut.top.design p.at.cell).devices) (shown cut) d on in
      let kept = filter_among (λ (p : NumberedPlace). not (is_left_out cut p)) (numbered_places cut.top) from.0 from.1 in
      flat_map_among cards (all_places cut.top) from.0.at d (kept.0.0, (numbered_at cut.top kept.0.0 from.0 kept.0.1).1) from.2

  pub levels_are : (d : Device) → Among (checked_devices cut) d → IsDeviceLevel flat d.level
  levels_are d on =
      (all_among (IsDevice flat) flat.devices d formed.devices (subst (λ (ds : List Device). Among ds d) (sym (flat_parts cut.top flat is).devices) (device_flat d on))).level

  instance_within : (i : ℕ) (at : Place) (x : ℕ) → At (all_places cut.top) (suc i) at → Among at.ports x → x < length flat.nets
  instance_within i at x here on =
      all_among (IsNet flat) (map net_id at.ports) (net_id x)
      (all_among (λ (y : FlatInstance). All (IsNet flat) y.ports) flat.instances (flat_instance at) formed.instances
      (subst (λ (ys : List FlatInstance). Among ys (flat_instance at)) (sym (flat_parts cut.top flat is).instances)
      (map_among flat_instance (drop 1 (all_places cut.top)) at (i, behind (all_places cut.top) i at here))))
      (map_among net_id at.ports x on)
    where
      behind : (places : List Place) (i : ℕ) (at : Place) → At places (suc i) at → At (drop 1 places) i at
      behind [] i at e = e
      behind (p ∷ places) i at e = e

  pub outputs_within : (o : OutputAt) → Among (all_outputs cut blif facts) o → o.pin.net.0 < length flat.nets
  outputs_within o on = by_pairing (paired_model cut.top.design blif cut.top.rules from.0.at.cell) from.2
    where
      from : (p : NumberedPlace) × Among (whole_places cut) p × Among (outputs_of_place cut.top blif facts p) o
      from = among_flat_map (outputs_of_place cut.top blif facts) (whole_places cut) o on

      whole : Among (numbered_places cut.top) from.0 × (is_whole cut.choice from.0.number ≡ true)
      whole = filter_among (λ (x : NumberedPlace). is_whole cut.choice x.number) (numbered_places cut.top) from.0 from.1

      by_number : (k : ℕ) → from.0.number ≡ k → At (all_places cut.top) k from.0.at → (x : ℕ) → Among from.0.at.ports x → x < length flat.nets
      by_number zero e here x ports = absurd (false≢true (ap (is_whole cut.choice) (sym e) ∙ whole.1))
      by_number (suc i) e here x ports = instance_within i from.0.at x here ports

      by_pairing : (paired : Paired) → Among (outputs_by cut.top blif facts from.0 paired) o → o.pin.net.0 < length flat.nets
      by_pairing Skipped m = absurd (at_none m.0 o m.1)
      by_pairing Missing m = absurd (at_none m.0 o m.1)
      by_pairing (Model m) among =
          let k = comparison_of cut.top.design blif cut.top.rules from.0.at.cell m in
          let q = among_map (output_at from.0.number) (enumerate_from 0 (driven_pins facts k from.0.at)) o among in
          let listed = enumerated 0 (driven_pins facts k from.0.at) q.0 q.1 in
          let pin = driven_net facts from.0.at.cell 0 (pins_of k from.0.at) q.0.1 listed in
          let net = pin_net (ports_of k) from.0.at.ports pin.0 pin.1 in
          let at = numbered_at cut.top whole.0.0 from.0 whole.0.1 in
          let low = by_number whole.0.0 at.0 at.1 net.0 net.1 in
          subst (λ (x : Net). x.0 < length flat.nets) (sym (pin.2 ∙ net.2) ∙ ap (λ (y : OutputAt). y.pin.net) q.2) low
        where
          enumerated : (n : ℕ) (pins : List WholePin) (q : ℕ × WholePin) → Among (enumerate_from n pins) q → Among pins q.1
          enumerated n [] q m = absurd (at_none m.0 q m.1)
          enumerated n (p ∷ pins) q (zero, e) = let same : (n, p) ≡ q = cc in (0, ap (λ (y : ℕ × WholePin). Some y.1) same)
          enumerated n (p ∷ pins) q (suc i, e) = among_later p pins q.1 (enumerated (n + 1) pins q (i, e))
