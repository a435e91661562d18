-- A region with the cell whole goes down: its nets that remain are settled with the cell in the circuit, and respond as they did.
use Rattle.std.proofs.Common.{◌≡◌, ◌⊎◌, ◌↔◌, ℕ, ◌<◌, ◌&&◌, ◌||◌, Bool, true, false, List, [], ◌∷◌, Some, length, arith, ap, subst, sym, refl, ◌∙◌, inl, inr}
use Rattle.std.proofs.lemmas.Bool.{cases_Bool, false≢true, or_cases, or_left}
use Rattle.cell_inside.proofs.AssuredLaws.{response_by}
use Rattle.cell_inside.proofs.Copies.{touched}
use Rattle.cell_inside.proofs.Images.{image_in}
use Rattle.cell_inside.proofs.OutputPins.{pin_found}
use Rattle.cell_inside.proofs.RegionLaws.{region_is_local}
use Rattle.cell_inside.specs.Inside.{Touches}
use Rattle.cell_inside.specs.Placed.{IsSupply}
use Rattle.cell_inside.specs.Regions.{IsGivenNet, IsRegion}
use Rattle.cell_inside.specs.Replaced.{IsJoined}
use Rattle.constraints.proofs.NamedLaws.{breaks_same}
use Rattle.firm_faults.proofs.CellParts.{part_back, part_further, part_kept}
use Rattle.firm_faults.proofs.InnerRegions.{image, in_image, of_image, pin_among}
use Rattle.firm_faults.proofs.InnerSettled.{HasReadyEnds, chain_apart, gates_ready, inner_ready, part_joined}
use Rattle.firm_faults.proofs.JointRegions.{in_parts, joined_part, joint_is_region, local_part, of_parts, parts, pin_region, plain_in, same_net}
use Rattle.firm_faults.proofs.LocalParts.{IsLocalPart, cell_alone, cell_part, in_end, inner_joint, joined_from, joint_region, own_or_left, region_joint}
use Rattle.firm_faults.proofs.LocalResponses.{inner_alike, inner_reaches, region_alike}
use Rattle.firm_faults.proofs.ShutRegions.{gate_of, gates_at}
use Rattle.firm_faults.proofs.ShownBits.{only_shown_bit, reached_is_driven, shown_bit_reaches}
use Rattle.firm_faults.proofs.StepBits.{HasStepBits}
use Rattle.firm_faults.proofs.StepStates.{compared_exposed, given_below, given_outside, state_below, whole_state}
use Rattle.firm_faults.specs.Settled.{IsBacked, IsBrokenAt, IsInstanceOfWhole, IsLinkedOutput, IsSettled, ShowsOwnBit, given, nets_named_at, within}
use Rattle.firm_faults.specs.StepDown.{HasOneMoreOriginal, IsCellRanked, IsInnerSolution, IsPinOf, IsStepDown}
use Rattle.known_nets.proofs.WiredLaws.{pin_of_whole}
use Rattle.vrt_model.proofs.Decidable.{some_response}
use Rattle.vrt_model.proofs.Filtered.{among_devices, device_among}
use Rattle.vrt_model.proofs.GatesGiven.{plain_any}
use Rattle.vrt_model.proofs.Laws.{one_response, turned}
use Rattle.vrt_model.proofs.Members.{all_among}
use Rattle.vrt_model.proofs.Networks.{network_finite}
use Rattle.vrt_model.proofs.Scales.{least_above}
use Rattle.vrt_model.specs.Checked.{with_circuit}
use Rattle.vrt_model.specs.Circuits.{IsDevice}
use Rattle.vrt_model.specs.Comparison.{Comparison, is_observed, phase_at}
use Rattle.vrt_model.specs.Known.{HasArc, IsPlain, IsTogether}
use Rattle.vrt_model.specs.Levels.{source_level}
use Rattle.vrt_model.specs.Lists.{Among, At}
use Rattle.vrt_model.specs.Path.{Hop, IsPath, Joins, Network, Root, end_of}
use Rattle.vrt_model.specs.Reading.{HasGivenBit, IsReading, conducts, devices_of, is_given}
use Rattle.vrt_model.specs.Response.{Fight as FightResponse, Float as FloatResponse, IsResponse, IsStrength, Reaches, Response, Shows}
use Rattle.vrt_model.specs.State.{IsState, OutputPin, Setting, State, network_of, output_pins}
use Rattle.vrt_model.specs.WholeInstances.{IsChain}
use Rattle.vrt_model.specs.declared.circuit.Circuit.{Circuit}
use Rattle.vrt_model.specs.declared.circuit.Device.{Device}
use Rattle.vrt_model.specs.declared.circuit.FlatInstance.{FlatInstance}
use Rattle.vrt_model.specs.declared.circuit.FlatNet.{FlatNet}
use Rattle.vrt_model.specs.declared.circuit.NetKind.TheVariants.{Clock, Input}
use Rattle.vrt_model.specs.declared.ids.Net.{Net}
use Rattle.vrt_model.specs.declared.rules.ClockRef.{ClockRef}
use Rattle.vrt_model.specs.declared.rules.Phase.{Phase}
use Rattle.vrt_model.specs.declared.whole.Whole.{Whole}
use Rattle.vrt_model.specs.declared.whole.WholePin.{WholePin}
use Rattle.whole_solutions.proofs.GivenShow.{given_shows}
use Rattle.whole_solutions.proofs.SettledSets.{supply_bit}

module _ (k : Comparison) (phase : ℕ) (setting : Setting) (cell whole_circuit : Circuit) (at place fresh : ℕ → ℕ) (remaining compared cell_observed exposed known : ℕ → Bool)
    (together : ℕ → ℕ → Bool) (drive rank : ℕ → ℕ) (x : Whole) (i : FlatInstance) (originals whole_originals : List FlatInstance)
    (p : IsStepDown k phase setting cell whole_circuit at place fresh remaining compared cell_observed exposed drive x i)
    (more : HasOneMoreOriginal (phase_at k.rules phase) k.circuit whole_circuit originals whole_originals x i)
    (own : IsCellRanked cell (phase_at k.rules phase) cell_observed known together rank)
    (r : State) (is : IsState whole_circuit (phase_at k.rules phase) setting.inputs r) (sr bits : ℕ → Bool)
    (q : HasStepBits k phase cell whole_circuit at fresh cell_observed exposed drive x i r sr bits) where
  abbrev here : Phase
  here = phase_at k.rules phase

  -- the comparison with the cell whole
  abbrev above : Comparison
  above = with_circuit k whole_circuit

  abbrev view : Network
  view = network_of whole_circuit true setting.held r

  abbrev HasSolution : Type 0
  HasSolution = IsInnerSolution cell whole_circuit here cell_observed exposed at fresh drive x r bits

  outside : (n m : ℕ) → IsGivenNet k.circuit n → IsPlain cell m → n ≡ at m → ⊥
  outside n m g plain e = given_outside k phase setting cell whole_circuit at place fresh remaining compared cell_observed exposed drive x i p n m g plain e

  given_down : (n : ℕ) → IsGivenNet whole_circuit n → IsGivenNet k.circuit n
  given_down n g = given_below k phase setting cell whole_circuit at place fresh remaining compared cell_observed exposed drive x i p n g

  exposed_compared : (n m : ℕ) → compared n ≡ true → IsPlain cell m → n ≡ at m → exposed m ≡ true
  exposed_compared n m c plain e = compared_exposed k phase setting cell whole_circuit at place fresh remaining compared cell_observed exposed drive x i p n m c plain e

  -- a hidden net of the cell is not exposed
  pub hidden_own : (n m : ℕ) → compared n ≡ false → n ≡ at m → exposed m ≡ true → ⊥
  hidden_own n m f e ex = false≢true (sym f ∙ subst (λ (y : ℕ). compared y ≡ true) (sym e) (p.whole.exposed_compared m ex))

  remains : (m : ℕ) → exposed m ≡ true → remaining (at m) ≡ true
  remains m e = p.whole.compared_remaining (at m) (p.whole.exposed_compared m e)

  exposed_seen : (m : ℕ) → exposed m ≡ true → cell_observed m ≡ true
  exposed_seen m e = (p.outputs m (p.placed.exposed_plain m e) (remains m e)).0

  -- an exposed net is one with no other net that is not
  own_apart : (l m : ℕ) → exposed l ≡ true → IsPlain cell m → (exposed m ≡ true → ⊥) → at l ≡ at m → ⊥
  own_apart l m e plain none same =
      elim (p.placed.apart l m (p.placed.exposed_plain l e) plain same) [ inl one ↦ none (subst (λ (y : ℕ). exposed y ≡ true) one e) | inr both ↦ none both.1 ]

  -- ---- what is at the hidden nets of the cell, with it whole

  -- what reaches one is what the instance drives
  pub reaching_pin : (m : ℕ) (u : Bool) → IsPlain cell m → (exposed m ≡ true → ⊥) → Reaches view (at m) u → r.driven (fresh m) ≡ u
  reaching_pin m u plain none reaches = by_hops reaches.0 reaches.1 reaches.2 reaches.4 reaches.5
    where
      by_hops : (root : Root) (hops : List Hop) → IsPath view root hops → end_of root hops ≡ at m → root.value ≡ u → r.driven (fresh m) ≡ u
      by_hops root (hop ∷ hops) path e v =
          let back = p.whole.devices_back hop.device (device_among true whole_circuit hop.device path.1.0).0 in
          let there = touched hop.device (end_of root hops) hop.to path.2 in
          let below : Touches back.0 (at m) =
          elim there [ inl a ↦ inl (sym back.2.image.left ∙ a ∙ e) | inr a ↦ inr (sym back.2.image.right ∙ a ∙ e) ] in
          absurd (none (exposed_compared (at m) m (back.2.channels (at m) below) plain refl))
      by_hops root [] path e v =
          elim path [
            | inl g ↦ absurd (outside root.net m (given_down root.net (g.0, g.1, g.2)) plain e)
            | inr other ↦ elim other [
              | inl h ↦
                  let back = p.whole.holds_back h.0 h.1 h.2 in
                  absurd (p.placed.unheld m plain (back.0, (h.0, back.1), sym back.2.net ∙ sym h.3 ∙ e))
              | inr o ↦
                  let out = pin_found whole_circuit o.0 o.1 o.2 in
                  let net : out.0.pin.net.0 ≡ at m = ap (λ (y : WholePin). y.net.0) out.2 ∙ sym o.3 ∙ e in
                  elim (p.whole.pins_back o.0 out.0 out.1) [
                    | inl old ↦ absurd (none (p.placed.pins old.1 m (old.0, old.2) plain (sym old.4.net ∙ net)).0)
                    | inr new ↦ elim (p.placed.apart new.0 m new.2.plain plain (sym new.2.net ∙ net)) [
                      | inl one ↦ ap (λ (y : ℕ). r.driven (fresh y)) (sym one) ∙ ap r.driven new.1 ∙ sym o.5 ∙ v
                      | inr both ↦ absurd (none both.1)
                    ]
                  ]
            ]
          ]

  -- ---- the states

  pub reads : IsReading whole_circuit here setting.inputs sr
  reads n net e =
      elim (cases_Bool (is_given net.kind)) [
        | inl g ↦ subst (HasGivenBit here setting.inputs net.kind n) (sym (q.outside n (λ m plain f. outside n m (given_down n (net, e, g)) plain f))) (is.reading n net e)
        | inr f ↦ plain_any here setting.inputs net.kind n (sr n) f
      ]

  abbrev changed : (driven : ℕ → Bool) × IsState whole_circuit here setting.inputs (record { reading = sr; driven = driven })
  changed = whole_state k phase setting cell whole_circuit at place fresh remaining compared cell_observed exposed drive x i p sr reads

  -- the state with the cell whole that has these bits, and that with the cell in the circuit
  abbrev t : State
  t = record { reading = sr; driven = changed.0 }

  abbrev pub s : State
  s = record { reading = sr; driven = λ j. changed.0 (place j) }

  pub s_is : IsState k.circuit here setting.inputs s
  s_is = state_below k phase setting cell whole_circuit at place fresh remaining compared cell_observed exposed drive x i p sr changed.0 changed.1

  abbrev pub below : Network
  below = network_of k.circuit true setting.held s

  abbrev whole_there : Network
  whole_there = network_of whole_circuit true setting.held t

  given_shown : (n : ℕ) → IsGivenNet k.circuit n → IsResponse below n (Shows (sr n))
  given_shown n g = given_shows k.circuit p.ranges p.placed.pins_plain true setting.held s n g

  -- ---- what goes down of a net

  -- a net of the cell is settled below, and shows the bit that it has there and in the cell
  abbrev pub IsReadyInside : ℕ → Type 0
  IsReadyInside g = IsSettled k originals phase setting s (at g) × IsResponse below (at g) (Shows (sr (at g))) × (sr (at g) ≡ bits g)

  -- the net is settled below, shows its own bit there if it did, and responds as it did; and where an exposed output at it does not fight, the
  -- gates in the output's part are ready
  pub record IsDown (n : ℕ) : Type 0 where
    pub firm : IsSettled k originals phase setting s n
    pub own_bit : ShowsOwnBit above phase setting r n → (sr n ≡ r.reading n) × ShowsOwnBit k phase setting s n
    pub responds : compared n ≡ true → (a : Response) → IsResponse view n a → IsResponse below n a
    pub inner :
        (l g : ℕ) → exposed l ≡ true → at l ≡ n → (IsResponse view n FightResponse → ⊥) → together l g ≡ true → cell_observed g ≡ true → IsReadyInside g

  pub given_goes : (n : ℕ) → IsGivenNet whole_circuit n → IsDown n
  given_goes n g =
      let same : sr n ≡ r.reading n = q.outside n (λ m plain e. outside n m (given_down n g) plain e) in
      record {
        firm = given (given_down n g);
        own_bit = λ shows. (same, ((p.seen n shows.0).1, given_shown n (given_down n g)));
        responds = λ c a h.
            let one = one_response view n (Shows (r.reading n)) a (given_shows whole_circuit p.whole_ranges p.pins_plain true setting.held r n g) h in
            subst (IsResponse below n) (ap Shows same ∙ one) (given_shown n (given_down n g));
        inner = λ l o e there calm t seen. absurd (outside n l (given_down n g) (p.placed.exposed_plain l e) (sym there));
      }

  -- ---- a region

  module _ (region base : ℕ → Bool) (reg : IsRegion whole_circuit here setting region base r.reading) (backed : IsBacked above whole_originals phase r region base)
      (shows : (m : ℕ) → base m ≡ true → ShowsOwnBit above phase setting r m) (downs : (m : ℕ) → base m ≡ true → IsDown m)
      (calm : (m : ℕ) → IsLinkedOutput whole_circuit here region m → IsResponse view m FightResponse → ⊥) (linked_downs : (m : ℕ) → IsLinkedOutput whole_circuit here region m → IsDown m) where
    same_base : (m : ℕ) → base m ≡ true → sr m ≡ r.reading m
    same_base m b = ((downs m b).own_bit (shows m b)).0

    same_near : (m : ℕ) → (base m ≡ true) ⊎ IsGivenNet whole_circuit m → sr m ≡ r.reading m
    same_near m (inl b) = same_base m b
    same_near m (inr g) = q.outside m (λ o plain e. outside m o (given_down m g) plain e)

    near_down : (m : ℕ) → (base m ≡ true) ⊎ IsGivenNet whole_circuit m → IsSettled k originals phase setting s m × IsResponse below m (Shows (sr m))
    near_down m (inl b) = ((downs m b).firm, ((downs m b).own_bit (shows m b)).1.1)
    near_down m (inr g) = (given (given_down m g), given_shown m (given_down m g))

    -- ---- an output of the instance

    -- the pin of a net of the cell that remains
    abbrev pin_at : (m : ℕ) → IsPlain cell m → remaining (at m) ≡ true → OutputPin
    pin_at m plain rem = (p.outputs m plain rem).1.0

    among_outputs : (m : ℕ) (plain : IsPlain cell m) (rem : remaining (at m) ≡ true) → Among x.outputs (pin_at m plain rem).pin
    among_outputs m plain rem =
        let pin = (p.outputs m plain rem).1 in
        subst (λ (w : Whole). Among w.outputs pin.0.pin) pin.2 (pin_of_whole whole_circuit pin.0 (fresh m, pin.1)).1

    pin_there : (m : ℕ) (plain : IsPlain cell m) (rem : remaining (at m) ≡ true) → IsPinOf whole_circuit fresh x m (among_outputs m plain rem).0 (pin_at m plain rem).pin
    pin_there m plain rem =
        let pin = (p.outputs m plain rem).1 in
        ((among_outputs m plain rem).1, subst (λ (w : Whole). At (output_pins whole_circuit) (fresh m) (record { whole = w; pin = pin.0.pin })) pin.2 pin.1)

    pin_region_is : (m : ℕ) (plain : IsPlain cell m) (rem : remaining (at m) ≡ true) → region (at m) ≡ true → region (pin_at m plain rem).pin.net.0 ≡ true
    pin_region_is m plain rem ins = subst (λ (y : ℕ). region y ≡ true) (sym (p.outputs m plain rem).1.3) ins

    pub unbroken : (m : ℕ) → IsPlain cell m → remaining (at m) ≡ true → region (at m) ≡ true → ¬ IsBrokenAt k phase r.reading i
    unbroken m plain rem ins = backed.unbroken x (pin_at m plain rem).pin i p.wholes.own (among_outputs m plain rem) (pin_region_is m plain rem ins) p.instance more.own

    pub solution : (m : ℕ) → IsPlain cell m → remaining (at m) ≡ true → region (at m) ≡ true → HasSolution
    solution m plain rem ins = elim q.solved [ inl broken ↦ absurd (unbroken m plain rem ins broken) | inr sol ↦ sol ]

    near_ready : (n : ℕ) → HasSolution → IsGivenNet cell n → (base (at n) ≡ true) ⊎ IsGivenNet whole_circuit (at n) → IsReadyInside n
    near_ready n sol g near = let goes = near_down (at n) near in (goes.0, goes.1, same_near (at n) near ∙ sym (sol.given n g))

    -- what rests on the ends of the cell, below an output of it
    module _ (m : ℕ) (plain : IsPlain cell m) (rem : remaining (at m) ≡ true) (ins : region (at m) ≡ true) where
      abbrev sol : HasSolution
      sol = solution m plain rem ins

      clock_ready : (n : ℕ) (one : FlatNet) (clock : ClockRef) → At cell.nets n one → one.kind ≡ Clock clock → IsReadyInside n
      clock_ready n one clock f kind =
          near_ready n sol (one, f, ap is_given kind)
          (backed.named x (pin_at m plain rem).pin i (at n) p.wholes.own (among_outputs m plain rem) (pin_region_is m plain rem ins) p.instance more.own (p.clocks n one clock f kind))

      input_ready : (n : ℕ) (one : FlatNet) → At cell.nets n one → one.kind ≡ Input → IsChain (HasArc cell here) n m → IsReadyInside n
      input_ready n one f kind chain =
          let j = (among_outputs m plain rem).0 in
          let pin : WholePin = (pin_at m plain rem).pin in
          let link = p.links j m n pin one (pin_there m plain rem) plain (p.outputs m plain rem).1.3 f kind chain in
          near_ready n sol (one, f, ap is_given kind)
          (subst (λ (y : ℕ). (base y ≡ true) ⊎ IsGivenNet whole_circuit y) link.2
          (backed.linked x j pin link.0 p.wholes.own (among_outputs m plain rem).1 (pin_region_is m plain rem ins) link.1 link.3 link.4))

      output_linked : (y g : ℕ) → exposed y ≡ true → IsTogether cell here true y g → IsChain (HasArc cell here) g m → IsLinkedOutput whole_circuit here region (at y)
      output_linked y g e part chain =
          let j = (among_outputs m plain rem).0 in
          let pin : WholePin = (pin_at m plain rem).pin in
          let link =
          p.output_links j m y g pin (pin_there m plain rem) plain (p.outputs m plain rem).1.3 e
          (λ one. chain_apart k phase setting cell whole_circuit at fresh exposed drive originals p.placed s s_is p.ranges p.gates cell_observed known together rank own p.unknown exposed_seen x r bits sol q.inside
          clock_ready m g plain chain (subst (λ (z : ℕ). IsTogether cell here true z g) one part))
          part chain in
          (x, j, pin, link.0, p.wholes.own, (among_outputs m plain rem).1, pin_region_is m plain rem ins, link.1, link.3, link.2)

      ends : HasReadyEnds k phase setting cell whole_circuit at fresh exposed drive originals p.placed s s_is p.ranges p.gates cell_observed known together rank own p.unknown exposed_seen x r bits sol q.inside m
      ends = record {
        inputs = input_ready;
        outputs = λ y g e part seen chain.
            let linked = output_linked y g e part chain in
            (linked_downs (at y) linked).inner y g e refl (calm (at y) linked) ((own.parts y g).1 part) seen;
      }

      pub gates_of_part : (n l : ℕ) (d : Device) → together m n ≡ true → Among (devices_of true cell) d → Joins d n l → IsReadyInside d.gate.0
      gates_of_part n l d part a j =
          gates_ready k phase setting cell whole_circuit at fresh exposed drive originals p.placed s s_is p.ranges p.gates cell_observed known together rank own p.unknown exposed_seen x r bits sol q.inside
          clock_ready m n l d ends part a j

      pub output_ready : (exposed m ≡ true → ⊥) → IsReadyInside m
      output_ready none =
          inner_ready k phase setting cell whole_circuit at fresh exposed drive originals p.placed s s_is p.ranges p.gates cell_observed known together rank own p.unknown exposed_seen x r bits sol q.inside
          clock_ready m plain
          (λ y part e. own_apart y m e plain none (p.alone y m e plain rem (part_kept cell here y m (part_back cell here true m y ((own.parts m y).0 part)))))
          ends (p.outputs m plain rem).0

      pub part_leads : (n o : ℕ) (d : Device) → together m n ≡ true → Among (devices_of true cell) d → Joins d n o → conducts bits d ≡ true → (together m o ≡ true) ⊎ ((value : Bool) × IsSupply cell o value)
      part_leads n o d part a j on =
          part_joined k phase setting cell whole_circuit at fresh exposed drive originals p.placed s s_is p.ranges p.gates cell_observed known together rank own p.unknown exposed_seen x r bits sol q.inside
          clock_ready m n o d part a j on

    -- ---- the region below

    abbrev inside : ℕ → Bool
    inside = parts k phase setting cell whole_circuit at place fresh remaining compared cell_observed exposed known together drive rank x i p own r region base reg

    abbrev joint : ℕ → Bool
    joint n = (region n && compared n) || image cell at inside n

    abbrev joint_base : ℕ → Bool
    joint_base n = base n || gates_at k.circuit (image cell at inside) n

    -- each net of these parts is in that of an exposed output in the region
    part_of : (m : ℕ) → inside m ≡ true → (l : ℕ) × (exposed l ≡ true) × (region (at l) ≡ true) × (together l m ≡ true)
    part_of m ins = of_parts k phase setting cell whole_circuit at place fresh remaining compared cell_observed exposed known together drive rank x i p own r region base reg m ins

    in_part : (l m : ℕ) → exposed l ≡ true → region (at l) ≡ true → together l m ≡ true → inside m ≡ true
    in_part l m e ins part = in_parts k phase setting cell whole_circuit at place fresh remaining compared cell_observed exposed known together drive rank x i p own r region base reg l m e ins part

    inside_plain : (m : ℕ) → inside m ≡ true → IsPlain cell m
    inside_plain m ins = plain_in k phase setting cell whole_circuit at place fresh remaining compared cell_observed exposed known together drive rank x i p own r region base reg m ins

    one_place : (l m : ℕ) → exposed l ≡ true → exposed m ≡ true → together l m ≡ true → at l ≡ at m
    one_place l m e f part = same_net k phase setting cell whole_circuit at place fresh remaining compared cell_observed exposed known together drive rank x i p own r region base reg l m e f part

    joined : (n m o : ℕ) (d : Device) → exposed n ≡ true → region (at n) ≡ true → together n m ≡ true → Among (devices_of true cell) d → Joins d m o → conducts bits d ≡ true
        → (together n o ≡ true) ⊎ ((value : Bool) × IsSupply cell o value)
    joined n m o d e ins part a j on = part_leads n (p.placed.exposed_plain n e) (remains n e) ins m o d part a j on

    inner_gate : (n m : ℕ) (d : Device) → inside n ≡ true → Among (devices_of true cell) d → Joins d n m → IsReadyInside d.gate.0
    inner_gate n m d ins a j = let of = part_of n ins in gates_of_part of.0 (p.placed.exposed_plain of.0 of.1) (remains of.0 of.1) of.2 n m d of.3 a j

    inner_bit : (n m : ℕ) (d : Device) → inside n ≡ true → Among (devices_of true cell) d → Joins d n m → bits d.gate.0 ≡ sr (at d.gate.0)
    inner_bit n m d ins a j = sym (inner_gate n m d ins a j).2

    joint_region_is : IsRegion k.circuit here setting joint joint_base sr
    joint_region_is =
        joint_is_region k phase setting cell whole_circuit at place fresh remaining compared cell_observed exposed known together drive rank x i p own r region base reg bits joined sr reads same_base inner_bit

    local : IsLocalPart cell k.circuit whole_circuit at remaining exposed s t region inside bits
    local =
        local_part k phase setting cell whole_circuit at place fresh remaining compared cell_observed exposed known together drive rank x i p own r region base reg bits joined s t refl changed.1
        (λ m b. same_base m b) inner_bit

    -- ---- its base

    abbrev IsFirmBelow : ℕ → Type 0
    IsFirmBelow m = ShowsOwnBit k phase setting s m × IsSettled k originals phase setting s m

    near_firm : (m : ℕ) → is_observed k phase m ≡ true → (base m ≡ true) ⊎ IsGivenNet whole_circuit m → IsFirmBelow m
    near_firm m seen near = let goes = near_down m near in ((seen, goes.1), goes.0)

    base_firm : (m : ℕ) → joint_base m ≡ true → IsFirmBelow m
    base_firm m b =
        elim (or_cases (base m) (gates_at k.circuit (image cell at inside) m) b) [
          | inl old ↦ (((downs m old).own_bit (shows m old)).1, (downs m old).firm)
          | inr gate ↦
              let found = gate_of k.circuit (image cell at inside) m gate in
              let e : Device = found.0 in
              let from = of_image cell at inside found.3.0 found.3.2 in
              let seen = p.gates e found.1 in
              subst IsFirmBelow found.2
              (elim (own_or_left cell k.circuit whole_circuit at place fresh remaining compared exposed drive p.placed p.whole s t region inside bits local e found.3.0 (device_among true k.circuit e found.1).0
              (touched e found.3.1 found.3.0 (turned e found.3.0 found.3.1 found.3.3))
              (inner_joint cell k.circuit whole_circuit at place fresh remaining compared exposed drive p.placed p.whole s t region inside bits local from.0 found.3.0 from.1 from.2)) [
                | inl mine ↦
                    let d : Device = mine.0 in
                    let end = in_end inside d mine.3 in
                    let ready = inner_gate end.0 end.1 d end.2 (among_devices true cell d mine.1 (sym (image_in true at d e mine.2) ∙ (device_among true k.circuit e found.1).1)) end.3 in
                    let net : at d.gate.0 ≡ e.gate.0 = sym mine.2.gate in
                    ((seen, subst (λ (y : ℕ). IsResponse below y (Shows (sr y))) net ready.1), subst (IsSettled k originals phase setting s) net ready.0)
                | inr stays ↦
                    let f : Device = stays.0 in
                    let img = stays.2.image in
                    let there = among_devices true whole_circuit f stays.1 (image_in true (λ y. y) e f img ∙ (device_among true k.circuit e found.1).1) in
                    let touch = touched e found.3.1 found.3.0 (turned e found.3.0 found.3.1 found.3.3) in
                    let ins =
                    joint_region cell k.circuit whole_circuit at place fresh remaining compared exposed drive p.placed p.whole s t region inside bits local found.3.0
                    (inner_joint cell k.circuit whole_circuit at place fresh remaining compared exposed drive p.placed p.whole s t region inside bits local from.0 found.3.0 from.1 from.2)
                    (stays.2.channels found.3.0 touch) in
                    let joins : Joins f found.3.1 found.3.0 =
                    elim (turned e found.3.0 found.3.1 found.3.3) [ inl j ↦ inl (img.left ∙ j.0, img.right ∙ j.1) | inr j ↦ inr (img.left ∙ j.0, img.right ∙ j.1) ] in
                    near_firm e.gate.0 seen (subst (λ (y : ℕ). (base y ≡ true) ⊎ IsGivenNet whole_circuit y) img.gate (reg.gates found.3.0 found.3.1 f ins there joins))
              ])
        ]

    -- ---- whole instances at it

    wired : (w : Whole) (pin : WholePin) → Among k.circuit.wholes w → Among w.outputs pin → joint pin.net.0 ≡ true → region pin.net.0 ≡ true
    wired w pin m e ins =
        let there = pin_among k.circuit w pin m e in
        pin_region k phase setting cell whole_circuit at place fresh remaining compared cell_observed exposed known together drive rank x i p own r region base reg bits joined sr reads same_base inner_bit
        there.0 (record { whole = w; pin = pin }) there.1 ins

    joint_backed : IsBacked k originals phase s joint joint_base
    joint_backed = record {
      linked = λ w j pin input m e ins mi link seen.
          let v = p.wholes.wholes w m in
          let to = v.2.outputs j pin e in
          near_joint input.net.0 (backed.linked v.0 j to.0 input v.1 to.1 (subst (λ (y : Net). region y.0 ≡ true) (sym to.2) (wired w pin m (j, e) ins))
          (subst (λ (ys : List WholePin). Among ys input) (sym v.2.inputs) mi) (v.2.links input j link) seen);
      named = λ w pin y n m e ins my of there. near_joint n (named_near w pin y n m e ins my of there);
      unbroken = λ w pin y m e ins my of broken.
          let v = more.stay w y of in
          let to = v.2.outputs e.0 pin e.1 in
          backed.unbroken v.0 to.0 y (v.1.0, v.1.1) (e.0, to.1) (subst (λ (z : Net). region z.0 ≡ true) (sym to.2) (wired w pin m e ins)) v.3 v.1
          (breaks_same k.design k.rules phase y (λ n. Some (sr n)) (λ n. Some (r.reading n)) (λ n there. ap (λ (b : Bool). Some b) (same_near n (named_near w pin y n m e ins my of there))) broken);
    }
      where
        near_joint : (n : ℕ) → (base n ≡ true) ⊎ IsGivenNet whole_circuit n → (joint_base n ≡ true) ⊎ IsGivenNet k.circuit n
        near_joint n (inl b) = inl (or_left (base n) (gates_at k.circuit (image cell at inside) n) b)
        near_joint n (inr g) = inr (given_down n g)

        named_near : (w : Whole) (pin : WholePin) (y : FlatInstance) (n : ℕ) → Among k.circuit.wholes w → Among w.outputs pin → joint pin.net.0 ≡ true
            → Among k.circuit.instances y → IsInstanceOfWhole k.circuit originals w y → Among (nets_named_at k phase y) n → (base n ≡ true) ⊎ IsGivenNet whole_circuit n
        named_near w pin y n m e ins my of there =
            let v = more.stay w y of in
            let to = v.2.outputs e.0 pin e.1 in
            backed.named v.0 to.0 y n (v.1.0, v.1.1) (e.0, to.1) (subst (λ (z : Net). region z.0 ≡ true) (sym to.2) (wired w pin m e ins)) v.3 v.1 there

    -- an output that is linked to one there is so with the cell whole
    linked_up : (m : ℕ) → IsLinkedOutput k.circuit here joint m → IsLinkedOutput whole_circuit here region m
    linked_up m l =
        let v = p.wholes.wholes l.0 l.4 in
        let to = v.2.outputs l.1 l.2 l.5 in
        let from = v.2.outputs l.7.0 l.3 l.7.1 in
        let link = v.2.links l.3 l.1 l.8 in (
          v.0,
          l.1,
          to.0,
          from.0,
          v.1,
          to.1,
          subst (λ (z : Net). region z.0 ≡ true) (sym to.2) (wired l.0 l.2 l.4 (l.1, l.5) l.6),
          (l.7.0, from.1),
          (link.0, link.1, link.2, link.3 ∙ sym from.2, link.4),
          ap (λ (z : Net). z.0) from.2 ∙ l.9,
        )

    linked_compared : (m : ℕ) → IsLinkedOutput k.circuit here joint m → compared m ≡ true
    linked_compared m l =
        elim (cases_Bool (compared m)) [
          | inl c ↦ c
          | inr f ↦
              let inner = p.hidden m f in
              let there = pin_among k.circuit l.0 l.3 l.4 l.7 in
              absurd (hidden_own m inner.0 f inner.1 (p.placed.pins (record { whole = l.0; pin = l.3 }) inner.0 there inner.2 (l.9 ∙ inner.1)).0)
        ]

    linked_calm : (m : ℕ) → IsLinkedOutput k.circuit here joint m → IsResponse below m FightResponse → ⊥
    linked_calm m l fight =
        let up = linked_up m l in
        let a = some_response view (length whole_circuit.nets) (source_level whole_circuit) (network_finite whole_circuit true setting.held r p.whole_ranges) m in
        let same = one_response below m a.0 FightResponse ((linked_downs m up).responds (linked_compared m l) a.0 a.1) fight in
        calm m up (subst (IsResponse view m) same a.1)

    joint_settled : (n : ℕ) → joint n ≡ true → IsSettled k originals phase setting s n
    joint_settled n ins =
        within joint joint_base joint_region_is joint_backed ins (λ m b. (base_firm m b).0) (λ m b. (base_firm m b).1) linked_calm (λ m l. (linked_downs m (linked_up m l)).firm)

    -- ---- what it shows

    -- the pin of an exposed output drives what the cell shows there
    supplies : (n : ℕ) (value : Bool) → IsSupply cell n value → (bits n ≡ value) × (sr (at n) ≡ value)
    supplies n value supply = (q.supplies n value supply, supply_bit k.circuit here setting.inputs sr s_is.reading (at n) value (p.placed.supplies n value supply))

    outputs : (n : ℕ) → exposed n ≡ true → region (at n) ≡ true
        → (changed.0 (fresh n) ≡ bits n) × IsStrength (cell_alone cell bits) n (drive n) × (0 < drive n) × IsResponse (cell_alone cell bits) n (Shows (bits n))
    outputs n e ins =
        let plain = p.placed.exposed_plain n e in
        let rem = remains n e in
        let sol = solution n plain rem ins in
        let pin = (p.outputs n plain rem).1 in
        let shown = sol.shows n plain (exposed_seen n e) in
        let strong = sol.strengths n true e in (
          reg.pins t r changed.1 is (λ m b. same_base m b) (λ m b. refl) (fresh n) pin.0 pin.1 (pin_region_is n plain rem ins) ∙ sol.drives n pin.0 pin.1 pin.2 plain pin.3,
          strong,
          reached_is_driven cell true (record { reading = bits; driven = λ j. false }) n (drive n) (bits n) (λ d a. let low = (all_among (IsDevice cell) cell.devices d own.ranges.devices (device_among true cell d a).0).level.0 in let some = least_above cell in omega (arith, low, some)) p.placed.no_holds p.placed.no_wholes
              (shown_bit_reaches (cell_alone cell bits) n (bits n) shown) strong,
          shown,
        )

    unjoined : (m n : ℕ) → exposed m ≡ true → exposed n ≡ true → IsJoined (cell_part cell inside bits) inside m n → at m ≡ at n
    unjoined m n em en j = one_place m n em en (together_by m n em j)
      where
        together_by : (a b : ℕ) → exposed a ≡ true → IsJoined (cell_part cell inside bits) inside a b → together a b ≡ true
        together_by a b e joint_there =
            joined_part k phase setting cell whole_circuit at place fresh remaining compared cell_observed exposed known together drive rank x i p own r region base reg bits joined a b e
            (local.exposed_there a (joined_from (cell_part cell inside bits) inside a b joint_there) e) joint_there

    left_alike : (n : ℕ) (v : Bool) → region n ≡ true → compared n ≡ true → Reaches whole_there n v ↔ Reaches below n v
    left_alike n v ins c =
        region_alike cell k.circuit whole_circuit at place fresh remaining compared exposed drive p.placed p.whole s t region inside bits local setting.held own.ranges p.ranges p.whole_ranges
        (λ j out e. refl) supplies outputs unjoined n v ins c

    to_there : (n : ℕ) (a : Response) → region n ≡ true → IsResponse view n a → IsResponse whole_there n a
    to_there n a ins h = region_is_local whole_circuit here setting region base r.reading r t p.whole_ranges p.pins_plain reg is changed.1 (λ m b. refl) (λ m b. same_base m b) n a ins h

    from_there : (n : ℕ) (a : Response) → region n ≡ true → IsResponse whole_there n a → IsResponse view n a
    from_there n a ins h = region_is_local whole_circuit here setting region base r.reading t r p.whole_ranges p.pins_plain reg changed.1 is (λ m b. same_base m b) (λ m b. refl) n a ins h

    left_responds : (n : ℕ) → region n ≡ true → compared n ≡ true → (a : Response) → IsResponse view n a → IsResponse below n a
    left_responds n ins c a h = response_by whole_there below n n (λ u. left_alike n u ins c) a (to_there n a ins h)

    -- what an exposed output shows is the bit of the cell
    exposed_reached : (l : ℕ) → exposed l ≡ true → region (at l) ≡ true → Reaches below (at l) (bits l)
    exposed_reached l e ins =
        inner_reaches cell k.circuit whole_circuit at place fresh remaining compared exposed drive p.placed p.whole s t region inside bits local setting.held own.ranges p.ranges p.whole_ranges
        (λ j out f. refl) supplies outputs unjoined l (bits l) (local.exposed_inner l e ins) (shown_bit_reaches (cell_alone cell bits) l (bits l) (outputs l e ins).3)

    exposed_bit : (l : ℕ) (v : Bool) → exposed l ≡ true → region (at l) ≡ true → IsResponse view (at l) (Shows v) → bits l ≡ v
    exposed_bit l v e ins h = only_shown_bit below (at l) v (bits l) (left_responds (at l) ins (p.whole.exposed_compared l e) (Shows v) h) (exposed_reached l e ins)

    -- the bit below of one that shows a bit
    shown_bit : (l : ℕ) (v : Bool) → exposed l ≡ true → region (at l) ≡ true → IsResponse view (at l) (Shows v) → sr (at l) ≡ bits l
    shown_bit l v e ins h =
        q.shared l e (λ m f one. exposed_bit m v f (subst (λ (y : ℕ). region y ≡ true) (sym one) ins) (subst (λ (y : ℕ). IsResponse view y (Shows v)) (sym one) h) ∙ sym (exposed_bit l v e ins h))

    calm_bit : (l : ℕ) → exposed l ≡ true → region (at l) ≡ true → (IsResponse view (at l) FightResponse → ⊥) → sr (at l) ≡ bits l
    calm_bit l e ins none =
        let a = some_response view (length whole_circuit.nets) (source_level whole_circuit) (network_finite whole_circuit true setting.held r p.whole_ranges) (at l) in
        by_response a.0 a.1
      where
        no_float : (b : Bool) → Reaches below (at l) b → IsResponse below (at l) FloatResponse → ⊥
        no_float true reaches h = h.0 reaches
        no_float false reaches h = h.1 reaches

        by_response : (a : Response) → IsResponse view (at l) a → sr (at l) ≡ bits l
        by_response FightResponse h = absurd (none h)
        by_response FloatResponse h =
            absurd (no_float (bits l) (exposed_reached l e ins) (left_responds (at l) ins (p.whole.exposed_compared l e) FloatResponse h))
        by_response (Shows v) h = shown_bit l v e ins h

    -- ---- compared nets of the region

    own_bit_below : (n : ℕ) → region n ≡ true → compared n ≡ true → IsResponse view n (Shows (r.reading n)) → sr n ≡ r.reading n
    own_bit_below n ins c h =
        elim (cases_Bool (image cell at exposed n)) [
          | inl hit ↦
              let from = of_image cell at exposed n hit in
              let at_from : region (at from.0) ≡ true = subst (λ (y : ℕ). region y ≡ true) (sym from.2) ins in
              let shown : IsResponse view (at from.0) (Shows (r.reading n)) = subst (λ (y : ℕ). IsResponse view y (Shows (r.reading n))) (sym from.2) h in
              ap sr (sym from.2) ∙ shown_bit from.0 (r.reading n) from.1 at_from shown ∙ exposed_bit from.0 (r.reading n) from.1 at_from shown
          | inr f ↦ q.outside n (λ m plain e. false≢true (sym f ∙ in_image cell at exposed m n plain (exposed_compared n m c plain e) (sym e)))
        ]

    -- a net in the part of an exposed output that does not fight is ready
    inner_goes : (l g : ℕ) → exposed l ≡ true → region (at l) ≡ true → (IsResponse view (at l) FightResponse → ⊥) → together l g ≡ true → cell_observed g ≡ true → IsReadyInside g
    inner_goes l g e ins none part seen =
        let sol = solution l (p.placed.exposed_plain l e) (remains l e) ins in
        let inner = in_part l g e ins part in
        let plain = inside_plain g inner in
        let bit = bit_there (cases_Bool (exposed g)) in (
          joint_settled (at g)
              (inner_joint cell k.circuit whole_circuit at place fresh remaining compared exposed drive p.placed p.whole s t region inside bits local g (at g) inner refl),
          subst (λ (b : Bool). IsResponse below (at g) (Shows b)) (sym bit)
              (response_by (cell_alone cell bits) below g (at g)
              (λ u. inner_alike cell k.circuit whole_circuit at place fresh remaining compared exposed drive p.placed p.whole s t region inside bits local setting.held own.ranges p.ranges p.whole_ranges
              (λ j out f. refl) supplies outputs unjoined g u inner beside)
              (Shows (bits g)) (sol.shows g plain seen)),
          bit,
        )
      where
        bit_there : (exposed g ≡ true) ⊎ (exposed g ≡ false) → sr (at g) ≡ bits g
        bit_there (inl f) =
            let one = one_place l g e f part in
            calm_bit g f (subst (λ (y : ℕ). region y ≡ true) one ins) (λ h. none (subst (λ (y : ℕ). IsResponse view y FightResponse) (sym one) h))
        bit_there (inr f) = q.inside g (inside_plain g (in_part l g e ins part)) (λ h. false≢true (sym f ∙ h))

        beside : (m : ℕ) → exposed m ≡ true → IsJoined (cell_part cell inside bits) inside m g → Reaches whole_there (at m) true → Reaches whole_there (at m) false → ⊥
        beside m f j high low =
            let at_m = local.exposed_there m (joined_from (cell_part cell inside bits) inside m g j) f in
            let back =
            joined_part k phase setting cell whole_circuit at place fresh remaining compared cell_observed exposed known together drive rank x i p own r region base reg bits joined m g f at_m j in
            let both : together l m ≡ true =
            (own.parts l m).1 (part_further cell here true l g m ((own.parts l g).0 part) (part_back cell here true m g ((own.parts m g).0 back))) in
            none (subst (λ (y : ℕ). IsResponse view y FightResponse) (sym (one_place l m e f both)) (from_there (at m) FightResponse at_m (high, low)))

    pub left_goes : (n : ℕ) → region n ≡ true → compared n ≡ true → IsDown n
    left_goes n ins c = record {
      firm = joint_settled n (region_joint cell k.circuit whole_circuit at place fresh remaining compared exposed drive p.placed p.whole s t region inside bits local n ins c);
      own_bit = λ shown.
          let same = own_bit_below n ins c shown.1 in
          (same, ((p.seen n shown.0).1, subst (λ (b : Bool). IsResponse below n (Shows b)) (sym same) (left_responds n ins c (Shows (r.reading n)) shown.1)));
      responds = λ d a h. left_responds n ins c a h;
      inner = λ l g e there none part seen.
          inner_goes l g e (subst (λ (y : ℕ). region y ≡ true) (sym there) ins) (λ h. none (subst (λ (y : ℕ). IsResponse view y FightResponse) there h)) part seen;
    }

    -- ---- outputs at gates alone

    output_bit : (m : ℕ) (v : Bool) → IsPlain cell m → remaining (at m) ≡ true → region (at m) ≡ true → (exposed m ≡ true → ⊥) → Reaches view (at m) v → sr (at m) ≡ v
    output_bit m v plain rem ins none reaches =
        let sol = solution m plain rem ins in
        let pin = (p.outputs m plain rem).1 in
        q.inside m plain none ∙ sym (sol.drives m pin.0 pin.1 pin.2 plain pin.3) ∙ reaching_pin m v plain none reaches

    pub output_goes : (n m : ℕ) → n ≡ at m → IsPlain cell m → region n ≡ true → remaining n ≡ true → compared n ≡ false → IsDown n
    output_goes n m e plain ins_n rem_n hidden = subst IsDown (sym e) down
      where
        none : exposed m ≡ true → ⊥
        none ex = hidden_own n m hidden e ex

        rem : remaining (at m) ≡ true
        rem = subst (λ (y : ℕ). remaining y ≡ true) e rem_n

        ins : region (at m) ≡ true
        ins = subst (λ (y : ℕ). region y ≡ true) e ins_n

        ready : IsReadyInside m
        ready = output_ready m plain rem ins none

        same_shown : (v : Bool) → IsResponse view (at m) (Shows v) → sr (at m) ≡ v
        same_shown true h = output_bit m true plain rem ins none h.0
        same_shown false h = output_bit m false plain rem ins none h.0

        down : IsDown (at m)
        down = record {
          firm = ready.0;
          own_bit = λ shown. (same_shown (r.reading (at m)) shown.1, ((p.seen (at m) shown.0).1, ready.1));
          responds = λ c a h. absurd (false≢true (sym hidden ∙ subst (λ (y : ℕ). compared y ≡ true) (sym e) c));
          inner = λ l g ex there calm_there part seen. absurd (own_apart l m ex plain none there);
        }
