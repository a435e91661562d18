-- An instance, and all in it, in a circuit in which instances before it are left whole.
use Rattle.std.proofs.Common.{◌≡◌, ◌<◌, ◌+◌, ◌-◌, ◌++◌, ◌∷◌, ◌&&◌, ◌||◌, [], ℕ, zero, suc, not, List, Bool, true, false, map, length, Option, Some, None, refl, ap, ap₂, sym, ◌∙◌, subst, arith, inl, inr, length-append}
use Rattle.std.specs.Prelude.{bytes_eq, drop, nat_le, nat_lt}
use Rattle.std.specs.List.{enumerate_from}
use Rattle.std.proofs.lemmas.Bool.{and_from, and_parts, cases_lt, false_from_ne_true, false≢true, le-leb, lt-ltb, ltb-true}
use Rattle.std.proofs.lemmas.Option.{none-some, same_Some}
use Rattle.placed_cells.proofs.ListLaws.{enumerated, in_enumerated, zip_right}
use Rattle.place_paths.proofs.PathLaws.{path_on}
use Rattle.placed_cells.proofs.PathLaws.{drop_front}
use Rattle.placed_cells.specs.Cuts.{AreBefore, CutShowsInside}
use Rattle.placed_cells.specs.Instances.{ShowsInside}
use Rattle.placed_cells.specs.Splits.{IsSplit, leads_through}
use Rattle.vrt_model.proofs.Filtered.{among_kept, filter_among}
use Rattle.vrt_model.proofs.Lists.{at_back, at_front, at_left, map_among}
use Rattle.vrt_model.proofs.Members.{among_any, among_flat_map, among_later, among_left, among_map, any_among, flat_map_among}
use Rattle.vrt_model.proofs.Tests.{bytes_eq-sym}
use Rattle.vrt_model.specs.CheckedParts.{checked_devices, moved_end}
use Rattle.vrt_model.specs.Checked.{IsCircuitWith}
use Rattle.vrt_model.specs.Comparison.{Comparison, CellPort, cell_at, output_signal, ports_of}
use Rattle.vrt_model.specs.Cut.{Cut, NumberedPlace, is_inside, is_inside_whole, is_left_out, is_whole, numbered_places, shown, whole_places}
use Rattle.vrt_model.specs.FlatCircuit.{flat_circuit_of, flat_holds, flat_device, flat_devices, same_path}
use Rattle.vrt_model.specs.Inputs.{IsDesign}
use Rattle.vrt_model.specs.Known.{IsHeld}
use Rattle.vrt_model.specs.Lists.{Among, At}
use Rattle.vrt_model.specs.PairedPorts.{Paired, Model, Skipped, Missing, paired_model}
use Rattle.vrt_model.specs.State.{OutputPin, output_pins}
use Rattle.vrt_model.specs.Unrolled.{Place, Step, Top, all_places, path_text, places_in}
use Rattle.vrt_model.specs.Unsupported.{comparison_of}
use Rattle.vrt_model.specs.WholeInstances.{IsWholeAt, OutputAt, Pin, all_outputs, drive_in, input_pins, driven_pins, driven_pins_from, outputs_of_place, pins_from, pins_of, settled_drive, whole_at}
use Rattle.vrt_model.specs.declared.blif.Blif.{Blif}
use Rattle.vrt_model.specs.declared.circuit.Circuit.{Circuit}
use Rattle.vrt_model.specs.declared.circuit.Device.{Device}
use Rattle.vrt_model.specs.declared.circuit.Hold.{Hold}
use Rattle.vrt_model.specs.declared.design.DeviceCard.{DeviceCard}
use Rattle.vrt_model.specs.declared.ids.Net.{Net}
use Rattle.vrt_model.specs.declared.whole.CellFacts.{CellFacts}
use Rattle.vrt_model.specs.declared.whole.Whole.{Whole}
use Rattle.vrt_model.specs.declared.whole.WholePin.{WholePin}

-- ---- paths

drop_none : (n : ℕ) → drop n [] ≡ (let none : List Step = [] in none)
drop_none zero = refl
drop_none (suc n) = refl

drop_drop : (m n : ℕ) (xs : List Step) → drop m (drop n xs) ≡ drop (n + m) xs
drop_drop m zero xs = let same : m ≡ 0 + m = omega arith in ap (λ (k : ℕ). drop k xs) same
drop_drop m (suc n) [] = drop_none m ∙ sym (drop_none (suc n + m))
drop_drop m (suc n) (x ∷ xs) = let same : suc (n + m) ≡ suc n + m = omega arith in drop_drop m n xs ∙ ap (λ (k : ℕ). drop k (x ∷ xs)) same

drop_front_of : (n : ℕ) (xs ys : List Step) → drop (length xs + n) (xs ++ ys) ≡ drop n ys
drop_front_of n xs ys = sym (drop_drop n (length xs) (xs ++ ys)) ∙ ap (λ (zs : List Step). drop n zs) (drop_front xs ys)

same_drop : (m : ℕ) (xs ys : List Step) → same_path xs ys ≡ true → same_path (drop m xs) (drop m ys) ≡ true
same_drop zero xs ys e = e
same_drop (suc m) [] [] e = refl
same_drop (suc m) [] (y ∷ ys) e = absurd (false≢true e)
same_drop (suc m) (x ∷ xs) [] e = absurd (false≢true e)
same_drop (suc m) (x ∷ xs) (y ∷ ys) e = same_drop m xs ys (and_parts (bytes_eq x.instance y.instance) (same_path xs ys) e).1

same_sym : (xs ys : List Step) → same_path xs ys ≡ true → same_path ys xs ≡ true
same_sym [] [] e = refl
same_sym [] (y ∷ ys) e = absurd (false≢true e)
same_sym (x ∷ xs) [] e = absurd (false≢true e)
same_sym (x ∷ xs) (y ∷ ys) e =
    let parts = and_parts (bytes_eq x.instance y.instance) (same_path xs ys) e in
    and_from (bytes_eq y.instance x.instance) (same_path ys xs) (bytes_eq-sym y.instance x.instance ∙ parts.0) (same_sym xs ys parts.1)

-- what is inside another place, with a place in it, has that other place around it too, or in it
inside_around : (r p o : Place) (steps : List Step) → r.path ≡ steps ++ p.path → leads_through o p ≡ false → is_inside r o ≡ true → is_inside p o ≡ true
inside_around r p o steps on apart e =
    elim (cases_lt (length o.path) (length p.path)) [
      | inl short ↦
          let less : length r.path - length o.path ≡ length steps + (length p.path - length o.path) = omega (arith, count, short) in
          let behind : drop (length r.path - length o.path) r.path ≡ drop (length p.path - length o.path) p.path =
          ap (λ (n : ℕ). drop n r.path) less ∙ ap (λ (s : List Step). drop (length steps + (length p.path - length o.path)) s) on ∙ drop_front_of (length p.path - length o.path) steps p.path in
          and_from (nat_lt (length o.path) (length p.path)) (same_path (drop (length p.path - length o.path) p.path) o.path) (lt-ltb (length o.path) (length p.path) short)
          (ap (λ (s : List Step). same_path s o.path) (sym behind) ∙ same)
      | inr long ↦
          let sum : (length r.path - length o.path) + (length o.path - length p.path) ≡ length steps = omega (arith, count, long, deep) in
          let behind : drop (length o.path - length p.path) (drop (length r.path - length o.path) r.path) ≡ p.path =
          drop_drop (length o.path - length p.path) (length r.path - length o.path) r.path ∙ ap (λ (n : ℕ). drop n r.path) sum ∙ ap (λ (s : List Step). drop (length steps) s) on ∙ drop_front steps p.path in
          let back : same_path (drop (length o.path - length p.path) o.path) p.path ≡ true =
          same_sym p.path (drop (length o.path - length p.path) o.path)
          (subst (λ (s : List Step). same_path s (drop (length o.path - length p.path) o.path) ≡ true) behind (same_drop (length o.path - length p.path) (drop (length r.path - length o.path) r.path) o.path same)) in
          absurd (false≢true (sym apart ∙ and_from (nat_le (length p.path) (length o.path)) (same_path (drop (length o.path - length p.path) o.path) p.path) (le-leb (length p.path) (length o.path) long) back))
    ]
  where
    count : length r.path ≡ length steps + length p.path
    count = ap (λ (s : List Step). length s) on ∙ length-append steps p.path

    deep : length o.path < length r.path
    deep = ltb-true (length o.path) (length r.path) (and_parts (nat_lt (length o.path) (length r.path)) (same_path (drop (length r.path - length o.path) r.path) o.path) e).0

    same : same_path (drop (length r.path - length o.path) r.path) o.path ≡ true
    same = (and_parts (nat_lt (length o.path) (length r.path)) (same_path (drop (length r.path - length o.path) r.path) o.path) e).1

-- ---- the pins of whole instances

pub pin_among : (ports : List CellPort) (nets : List ℕ) (pin : Pin) → Among (pins_from ports nets) pin → Among nets pin.net.0
pin_among [] nets pin m = absurd (none-some pin m.1)
pin_among (port ∷ ports) [] pin m = absurd (none-some pin m.1)
pin_among (port ∷ ports) (n ∷ nets) pin (zero, e) = (0, ap (λ (q : Pin). Some q.net.0) (same_Some _ pin e))
pin_among (port ∷ ports) (n ∷ nets) pin (suc i, e) = among_later n nets pin.net.0 (pin_among ports nets pin (i, e))

driven_among : (facts : List CellFacts) (cell j : ℕ) (pins : List Pin) (w : WholePin) → Among (driven_pins_from facts cell j pins) w → (q : Pin) × Among pins q × (q.net ≡ w.net)
driven_among facts cell j [] w m = absurd (none-some w m.1)
driven_among facts cell j (p ∷ pins) w m = by_role (output_signal p.port.role) (λ k on. driven_among facts cell k pins w on) m
  where
    later : (q : Pin) × Among pins q × (q.net ≡ w.net) → (q : Pin) × Among (p ∷ pins) q × (q.net ≡ w.net)
    later h = (h.0, among_later p pins h.0 h.1, h.2)

    by_role : (o : Option ℕ) → ((k : ℕ) → Among (driven_pins_from facts cell k pins) w → (q : Pin) × Among pins q × (q.net ≡ w.net))
        → Among {X = WholePin} (elim o [ None ↦ driven_pins_from facts cell j pins | Some s ↦ record { net = p.net; signal = s; drive = drive_in facts cell j; observed = false } ∷ driven_pins_from facts cell (suc j) pins ]) w
        → (q : Pin) × Among (p ∷ pins) q × (q.net ≡ w.net)
    by_role None rest on = later (rest j on)
    by_role (Some s) rest (zero, e) = (p, (0, refl), ap (λ (q : WholePin). q.net) (same_Some _ w e))
    by_role (Some s) rest (suc i, e) = later (rest (suc j) (i, e))

module _ (cut : Cut) (blif : Blif) (facts : List CellFacts) (n : NumberedPlace) where
  abbrev compared : ℕ → Comparison
  compared m = comparison_of cut.top.design blif cut.top.rules n.at.cell m

  -- an output is at a port of its place
  output_among : (o : OutputAt) → Among (outputs_of_place cut.top blif facts n) o → Among n.at.ports o.pin.net.0
  output_among o m = by_pair (paired_model cut.top.design blif cut.top.rules n.at.cell) m
    where
      by_pair : (x : Paired)
          → Among {X = OutputAt} (elim x [ Model k ↦ map (λ (q : ℕ × WholePin). let one : OutputAt = record { instance = n.number; output = q.0; pin = q.1 } in one) (enumerate_from 0 (driven_pins facts (compared k) n.at)) | Skipped ↦ [] | Missing ↦ [] ]) o
          → Among n.at.ports o.pin.net.0
      by_pair Skipped on = absurd (none-some o on.1)
      by_pair Missing on = absurd (none-some o on.1)
      by_pair (Model k) on =
          let pair = among_map (λ (q : ℕ × WholePin). let one : OutputAt = record { instance = n.number; output = q.0; pin = q.1 } in one) (enumerate_from 0 (driven_pins facts (compared k) n.at)) o on in
          let place = enumerated 0 (driven_pins facts (compared k) n.at) pair.0 pair.1 in
          let pin = driven_among facts n.at.cell 0 (pins_of (compared k) n.at) pair.0.1 (place.0, place.2) in
          subst (λ (a : ℕ). Among n.at.ports a) (ap (λ (a : Net). a.0) pin.2 ∙ ap (λ (a : OutputAt). a.pin.net.0) pair.2) (pin_among (ports_of (compared k)) n.at.ports pin.0 pin.1)

  abbrev settled : OutputAt → WholePin
  settled o = settled_drive (checked_devices cut) (all_outputs cut blif facts) o

  abbrev made : ℕ → Whole
  made k = record {
    path = path_text n.at.path;
    cell = n.at.cell;
    model = (compared k).model;
    clocked = (compared k).pairing.clocked;
    inputs = input_pins (compared k) n.at;
    outputs = map settled (outputs_of_place cut.top blif facts n);
    links = [];
  }

  -- so is each output pin of the whole instance there
  whole_among : (w : Whole) → whole_at cut blif facts n ≡ Some (record w { links = [] }) → (pin : WholePin) → Among w.outputs pin → Among n.at.ports pin.net.0
  whole_among w is pin m = by_pair (paired_model cut.top.design blif cut.top.rules n.at.cell) is
    where
      by_pair : (x : Paired) → elim x [ Model k ↦ Some (made k) | Skipped ↦ None | Missing ↦ None ] ≡ Some (record w { links = [] }) → Among n.at.ports pin.net.0
      by_pair Skipped e = absurd (none-some (record w { links = [] }) e)
      by_pair Missing e = absurd (none-some (record w { links = [] }) e)
      by_pair (Model k) e =
          let same = same_Some (made k) (record w { links = [] }) e in
          let on : Among (map settled (outputs_of_place cut.top blif facts n)) pin = subst (λ (pins : List WholePin). Among pins pin) (sym (ap (λ (a : Whole). a.outputs) same)) m in
          let o = among_map settled (outputs_of_place cut.top blif facts n) pin on in
          subst (λ (a : ℕ). Among n.at.ports a) (ap (λ (a : WholePin). a.net.0) o.2) (output_among o.0 o.1)

-- ---- an instance

module _ (cut : Cut) (i : ℕ) (p : Place) (depth : ℕ) (before behind : List Place) (design : IsDesign cut.top.design) (split : IsSplit cut.top (suc i) p depth before behind) (chosen : AreBefore cut.choice i)
    (free : is_inside_whole cut p ≡ false) where
  abbrev t : Top
  t = cut.top

  numbered_at : (o : NumberedPlace) → Among (numbered_places t) o → At (all_places t) o.number o.at
  numbered_at o m =
      let pair = among_map (λ (q : ℕ × Place). let one : NumberedPlace = record { number = q.0; at = q.1 } in one) (enumerate_from 0 (all_places t)) o m in
      let place = enumerated 0 (all_places t) pair.0 pair.1 in
      let number : place.0 ≡ pair.0.0 = let is = place.1 in omega (arith, is) in
      subst (λ (a : NumberedPlace). At (all_places t) a.number a.at) pair.2 (subst (λ (a : ℕ). At (all_places t) a pair.0.1) number place.2)

  at_numbered : (k : ℕ) (r : Place) → At (all_places t) k r → Among (numbered_places t) (record { number = k; at = r })
  at_numbered k r e =
      let number : 0 + k ≡ k = omega arith in
      subst (λ (a : ℕ). Among (numbered_places t) (record { number = a; at = r })) number
      (map_among (λ (q : ℕ × Place). let one : NumberedPlace = record { number = q.0; at = q.1 } in one) (enumerate_from 0 (all_places t)) (0 + k, r) (in_enumerated 0 (all_places t) k r e))

  -- a whole instance stands before the place
  whole_before : (o : NumberedPlace) → Among (numbered_places t) o → is_whole cut.choice o.number ≡ true → Among before o.at
  whole_before o m = by_number o.number (numbered_at o m)
    where
      by_number : (k : ℕ) → At (all_places t) k o.at → is_whole cut.choice k ≡ true → Among before o.at
      by_number zero e is = absurd (false≢true is)
      by_number (suc k) e is =
          let lt = chosen k is in
          let count = split.number_is in
          (suc k, at_left before (places_in t depth p ++ behind) (suc k) o.at (omega (arith, lt, count)) (subst (λ (ps : List Place). At ps (suc k) o.at) split.whole e))

  -- no place in it is in a whole instance
  not_inside : (r : Place) → Among (places_in t depth p) r → is_inside_whole cut r ≡ false
  not_inside r m =
      false_from_ne_true (is_inside_whole cut r)
      (λ e.
      let found = any_among (λ (o : NumberedPlace). is_whole cut.choice o.number && is_inside r o.at) (numbered_places t) e in
      let o = found.0 in
      let parts = and_parts (is_whole cut.choice o.number) (is_inside r o.at) found.2 in
      let on = path_on t depth p r m in
      let around = inside_around r p o.at on.0 on.1 (split.past design o.at (among_left before behind o.at (whole_before o found.1 parts.0))) parts.1 in
      false≢true (sym free
      ∙ among_any (λ (a : NumberedPlace). is_whole cut.choice a.number && is_inside p a.at) (numbered_places t) o found.1
      (and_from (is_whole cut.choice o.number) (is_inside p o.at) parts.0 around)))

  -- each is shown
  place_shown : (r : Place) (j : ℕ) → At (places_in t depth p) j r → Among (shown cut) (record { number = suc (i + j); at = r })
  place_shown r j e =
      let number : length before + j ≡ suc (i + j) = let is = split.number_is in omega (arith, is) in
      let at : At (all_places t) (suc (i + j)) r = subst (λ (ps : List Place). At ps (suc (i + j)) r) (sym split.whole)
      (subst (λ (k : ℕ). At (before ++ (places_in t depth p ++ behind)) k r) number (at_back before (places_in t depth p ++ behind) j r (at_front (places_in t depth p) behind j r e))) in
      let whole : cut.choice (i + j) ≡ false = false_from_ne_true (cut.choice (i + j)) (λ is. let lt = chosen (i + j) is in absurd (omega (arith, lt))) in
      among_kept (λ (o : NumberedPlace). not (is_left_out cut o)) (numbered_places t) (record { number = suc (i + j); at = r }) (at_numbered (suc (i + j)) r at)
      (ap₂ (λ (a b : Bool). not (a || b)) whole (not_inside r (j, e)))

  abbrev devices_at : NumberedPlace → List Device
  devices_at o = map (flat_device t o.at) (cell_at t.design o.at.cell).devices

  device_shown : (r : Place) (card : DeviceCard) → Among (places_in t depth p) r → Among (cell_at t.design r.cell).devices card → Among (checked_devices cut) (flat_device t r card)
  device_shown r card m on =
      flat_map_among devices_at (shown cut) (record { number = suc (i + m.0); at = r }) (flat_device t r card) (place_shown r m.0 m.1) (map_among (flat_device t r) (cell_at t.design r.cell).devices card on)

  device_flat : (e : Device) → Among (checked_devices cut) e → Among (flat_devices t) e
  device_flat e m =
      let found = among_flat_map devices_at (shown cut) e m in
      let o = found.0 in
      let listed = filter_among (λ (a : NumberedPlace). not (is_left_out cut a)) (numbered_places t) o found.1 in
      flat_map_among (λ (r : Place). map (flat_device t r) (cell_at t.design r.cell).devices) (all_places t) o.at e (o.number, numbered_at o listed.0) found.2

  module _ (blif : Blif) (facts : List CellFacts) (c : Circuit) (circuit : IsCircuitWith cut blif facts c) where
    pin_before : (out : OutputPin) → Among (output_pins c) out → (r : Place) × Among (before ++ behind) r × Among r.ports out.pin.net.0
    pin_before out m =
        let found = among_flat_map (λ (w : Whole). map (λ (a : WholePin). let pin : OutputPin = record { whole = w; pin = a } in pin) w.outputs) c.wholes out m in
        let w = found.0 in
        let pin = among_map (λ (a : WholePin). let one : OutputPin = record { whole = w; pin = a } in one) w.outputs out found.2 in
        let o = zip_right (IsWholeAt cut blif facts) (whole_places cut) c.wholes w circuit.wholes found.1 in
        let listed = filter_among (λ (a : NumberedPlace). is_whole cut.choice a.number) (numbered_places t) o.0 o.1 in (
          o.0.at,
          among_left before behind o.0.at (whole_before o.0 listed.0 listed.1),
          subst (λ (a : ℕ). Among o.0.at.ports a) (ap (λ (a : OutputPin). a.pin.net.0) pin.2) (whole_among cut blif facts o.0 w o.2.whole pin.0 pin.1),
        )

    hold_flat : (n : ℕ) → IsHeld c n → IsHeld (flat_circuit_of t) n
    unfolding flat_circuit_of
    hold_flat n held =
        let moved : Hold → Hold = λ h. record h { end = moved_end cut h.end } in
        let found = among_map moved (flat_holds t) held.0 (subst (λ (hs : List Hold). Among hs held.0) circuit.holds held.1) in
        (found.0, found.1, ap (λ (h : Hold). h.net.0) found.2 ∙ held.2)

    pub shows : ShowsInside t p depth before behind c
    shows = record {
      nets = circuit.nets;
      there = λ r card m on. subst (λ (ds : List Device). Among ds (flat_device t r card)) (sym circuit.devices) (device_shown r card m on);
      devices = λ e m. device_flat e (subst (λ (ds : List Device). Among ds e) circuit.devices m);
      holds = hold_flat;
      pins = pin_before;
      source = circuit.source;
    }

pub cut_shows_inside : CutShowsInside
cut_shows_inside cut blif facts c i p depth before behind design split chosen free circuit = shows cut i p depth before behind design split chosen free blif facts c circuit
