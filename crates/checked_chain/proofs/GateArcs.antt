-- What does not depend on the links of whole instances: what is known, parts, and arcs from gates.
use Rattle.std.proofs.Common.{◌≡◌, ℕ, Bool, List, [], ◌∷◌, ◌++◌, map, subst, sym, refl, ◌∙◌, ap, ap₂}
use Rattle.std.specs.Prelude.{filter_map, flat_map}
use Rattle.std.specs.List.{AllZip, cons_option}
use Rattle.std.proofs.lemmas.List.{map-append}
use Rattle.checked_chain.proofs.GroupLaws.{map_of_mapped}
use Rattle.checked_chain.proofs.WholeLaws.{unlinked}
use Rattle.vrt_model.proofs.Lists.{map_among}
use Rattle.vrt_model.proofs.Members.{among_map}
use Rattle.vrt_model.specs.Checked.{IsCircuitWith, circuit_with}
use Rattle.vrt_model.specs.Cut.{Cut, NumberedPlace, whole_places}
use Rattle.vrt_model.specs.Known.{HasGateArc, IsChannel, IsDriven, IsKnown, IsTogether, fixed, itself, onward, settled}
use Rattle.vrt_model.specs.Levels.{source_level}
use Rattle.vrt_model.specs.Lists.{Among}
use Rattle.vrt_model.specs.Path.{Network}
use Rattle.vrt_model.specs.Reading.{bare, devices_of}
use Rattle.vrt_model.specs.Response.{IsResponse, Shows}
use Rattle.vrt_model.specs.State.{OutputPin, State, network_of}
use Rattle.vrt_model.specs.WholeInstances.{IsWholeAt, whole_at}
use Rattle.vrt_model.specs.declared.blif.Blif.{Blif}
use Rattle.vrt_model.specs.declared.circuit.Circuit.{Circuit}
use Rattle.vrt_model.specs.declared.circuit.Device.{Device}
use Rattle.vrt_model.specs.declared.rules.Phase.{Phase}
use Rattle.vrt_model.specs.declared.whole.CellFacts.{CellFacts}
use Rattle.vrt_model.specs.declared.whole.Whole.{Whole}
use Rattle.vrt_model.specs.declared.whole.WholePin.{WholePin}

-- a circuit without its links
abbrev pub without : Circuit → Circuit
without c = record c { wholes = map unlinked c.wholes }

-- ---- output pins

abbrev pin_of : Whole → WholePin → OutputPin
pin_of w p = record { whole = w; pin = p }

abbrev just_pin : OutputPin → WholePin
just_pin out = out.pin

pins_of_whole : (w x : Whole) → w.outputs ≡ x.outputs → map just_pin (map (pin_of w) w.outputs) ≡ map just_pin (map (pin_of x) x.outputs)
pins_of_whole w x e =
    map_of_mapped (pin_of w) just_pin (λ (p : WholePin). p) w.outputs (λ p m. refl) ∙ ap (map (λ (p : WholePin). p)) e
    ∙ sym (map_of_mapped (pin_of x) just_pin (λ (p : WholePin). p) x.outputs (λ p m. refl))

abbrev pins_in : List Whole → List OutputPin
pins_in ws = flat_map (λ (w : Whole). map (λ (p : WholePin). let pin : OutputPin = record { whole = w; pin = p } in pin) w.outputs) ws

pins_same : (ws : List Whole) → map just_pin (pins_in ws) ≡ map just_pin (pins_in (map unlinked ws))
pins_same [] = refl
pins_same (w ∷ ws) =
    map-append just_pin (map (pin_of w) w.outputs) (pins_in ws)
    ∙ ap₂ (λ (xs ys : List WholePin). xs ++ ys) (pins_of_whole w (unlinked w) refl) (pins_same ws)
    ∙ sym (map-append just_pin (map (pin_of (unlinked w)) w.outputs) (pins_in (map unlinked ws)))

-- ---- known nets and parts

module _ (c : Circuit) (phase : Phase) where
  driven_there : (n : ℕ) → IsDriven c n → IsDriven (without c) n
  driven_there n h = (unlinked h.0, h.1, map_among unlinked c.wholes h.0 h.2, h.3, h.4)

  driven_back : (n : ℕ) → IsDriven (without c) n → IsDriven c n
  driven_back n h =
      let w = among_map unlinked c.wholes h.0 h.2 in
      (w.0, h.1, w.1, subst (λ (x : Whole). Among x.outputs h.1) (sym w.2) h.3, h.4)

  network_same : (held : ℕ → Bool) (s : State) → network_of c bare held s ≡ network_of (without c) bare held s
  network_same held s =
      ap (λ (pins : List WholePin). let w : Network = record {
        nets = c.nets;
        holds = c.holds;
        outputs = pins;
        devices = devices_of bare c;
        source = source_level c;
        reading = s.reading;
        given = s.reading;
        held = held;
        driven = s.driven;
      } in w) (pins_same c.wholes)

  pub known_there : {n : ℕ} {v : Bool} → IsKnown c phase n v → IsKnown (without c) phase n v
  known_there (fixed f) = fixed f
  known_there {n} {v} (settled inside r held driven shut ins own gates shows) =
      settled inside r held driven
      (record { plain = λ m i. let p = shut.plain m i in (p.0, p.1, λ e. p.2 (driven_back m e)); joined = shut.joined })
      ins own (λ m l d i a j. known_there (gates m l d i a j))
      (subst (λ (w : Network). IsResponse w n (Shows v)) (network_same held (record { reading = r; driven = driven })) shows)

  pub known_back : {n : ℕ} {v : Bool} → IsKnown (without c) phase n v → IsKnown c phase n v
  known_back (fixed f) = fixed f
  known_back {n} {v} (settled inside r held driven shut ins own gates shows) =
      settled inside r held driven
      (record { plain = λ m i. let p = shut.plain m i in (p.0, p.1, λ e. p.2 (driven_there m e)); joined = shut.joined })
      ins own (λ m l d i a j. known_back (gates m l d i a j))
      (subst (λ (w : Network). IsResponse w n (Shows v)) (sym (network_same held (record { reading = r; driven = driven }))) shows)

  channel_there : (which : Bool) (d : Device) → IsChannel c phase which d → IsChannel (without c) phase which d
  channel_there which d h = (h.0, λ v known. h.1 v (known_back known))

  pub together_there : {which : Bool} {n m : ℕ} → IsTogether c phase which n m → IsTogether (without c) phase which n m
  together_there (itself p) = itself p
  together_there {which} (onward d t channel joins p) = onward d (together_there t) (channel_there which d channel) joins p

  pub gate_there : (from to : ℕ) → HasGateArc c phase from to → HasGateArc (without c) phase from to
  gate_there from to h =
      (h.0, (h.1.0, h.1.1, together_there h.1.2, channel_there bare h.0 h.1.3, h.1.4), h.2, λ v known. h.3 v (known_back known))

-- ---- the circuit with a choice

wholes_made : (cut : Cut) (blif : Blif) (facts : List CellFacts) (ps : List NumberedPlace) (ws : List Whole) → AllZip (IsWholeAt cut blif facts) ps ws
    → map unlinked ws ≡ filter_map (whole_at cut blif facts) ps
wholes_made cut blif facts [] [] h = refl
wholes_made cut blif facts [] (w ∷ ws) h = absurd h
wholes_made cut blif facts (p ∷ ps) [] h = absurd h
wholes_made cut blif facts (p ∷ ps) (w ∷ ws) h =
    ap (λ (xs : List Whole). unlinked w ∷ xs) (wholes_made cut blif facts ps ws h.1)
    ∙ ap (λ o. cons_option o (filter_map (whole_at cut blif facts) ps)) (sym h.0.whole)

pub without_is : (cut : Cut) (blif : Blif) (facts : List CellFacts) (c : Circuit) → IsCircuitWith cut blif facts c → without c ≡ circuit_with cut blif facts
unfolding circuit_with
without_is cut blif facts c h =
    let nets = h.nets in
    let devices = h.devices in
    let holds = h.holds in
    let instances = h.instances in
    let wholes = wholes_made cut blif facts (whole_places cut) c.wholes h.wholes in
    let source = h.source in
    λ i. record { nets = nets i; devices = devices i; holds = holds i; instances = instances i; wholes = wholes i; source = source i }
