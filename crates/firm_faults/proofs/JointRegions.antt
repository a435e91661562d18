-- A region with the cell whole, and the parts of the cell's exposed outputs in it, are a region of the circuit with the cell in it.
use Rattle.std.proofs.Common.{◌≡◌, ℕ, ◌⊎◌, ◌&&◌, ◌||◌, Bool, true, length, ap, subst, sym, refl, ◌∙◌, inl, inr}
use Rattle.std.specs.List.{list_any, range_with_len}
use Rattle.std.proofs.lemmas.Bool.{and_from, and_parts, or_left, or_right}
use Rattle.std.proofs.lemmas.Option.{slice_get_within}
use Rattle.cell_inside.proofs.Copies.{copy_joins, touched}
use Rattle.cell_inside.proofs.Images.{image_in}
use Rattle.cell_inside.proofs.NetKinds.{plain_not_given, supply_given}
use Rattle.cell_inside.specs.Placed.{IsImage, IsSupply}
use Rattle.cell_inside.specs.Regions.{HasBits, IsGivenNet, IsRegion}
use Rattle.cell_inside.specs.Replaced.{IsJoined, itself, onward}
use Rattle.fault_places.proofs.CountedSites.{number_among}
use Rattle.firm_faults.proofs.CellParts.{part_kept}
use Rattle.firm_faults.proofs.InnerRegions.{image, in_image}
use Rattle.firm_faults.proofs.LocalParts.{IsLocalPart, cell_alone, cell_part, in_end, joint_bounded, joint_plain, joint_region, of_joint, own_or_left}
use Rattle.firm_faults.proofs.Restricted.{restricted_on}
use Rattle.firm_faults.proofs.ShutRegions.{gate_is, gates_at}
use Rattle.firm_faults.proofs.StepStates.{given_below, plain_below, reading_there, state_below, state_there, whole_state}
use Rattle.firm_faults.specs.StepDown.{IsCellRanked, IsStepDown}
use Rattle.vrt_model.proofs.Filtered.{among_devices, device_among}
use Rattle.vrt_model.proofs.Laws.{turned}
use Rattle.vrt_model.proofs.Members.{among_any, any_among}
use Rattle.vrt_model.proofs.Ranked.{together_plain}
use Rattle.vrt_model.specs.Comparison.{Comparison, phase_at}
use Rattle.vrt_model.specs.Known.{IsPlain}
use Rattle.vrt_model.specs.Known.IsTogether.{itself as alone}
use Rattle.vrt_model.specs.Lists.{Among, At}
use Rattle.vrt_model.specs.Path.{Joins}
use Rattle.vrt_model.specs.Reading.{IsReading, conducts, devices_of}
use Rattle.vrt_model.specs.State.{IsState, OutputPin, Setting, State, output_pins}
use Rattle.vrt_model.specs.declared.circuit.Circuit.{Circuit}
use Rattle.vrt_model.specs.declared.circuit.Device.{Device}
use Rattle.vrt_model.specs.declared.circuit.FlatInstance.{FlatInstance}
use Rattle.vrt_model.specs.declared.ids.Net.{Net}
use Rattle.vrt_model.specs.declared.rules.Phase.{Phase}
use Rattle.vrt_model.specs.declared.whole.Whole.{Whole}

module _ (k : Comparison) (phase : ℕ) (setting : Setting) (cell whole_circuit : Circuit) (at place fresh : ℕ → ℕ) (remaining compared cell_observed exposed known : ℕ → Bool)
    (together : ℕ → ℕ → Bool) (drive rank : ℕ → ℕ) (x : Whole) (i : FlatInstance)
    (p : IsStepDown k phase setting cell whole_circuit at place fresh remaining compared cell_observed exposed drive x i)
    (own : IsCellRanked cell (phase_at k.rules phase) cell_observed known together rank)
    (r : State) (region base : ℕ → Bool) (reg : IsRegion whole_circuit (phase_at k.rules phase) setting region base r.reading) where
  abbrev here : Phase
  here = phase_at k.rules phase

  -- ---- the parts of the exposed outputs in the region

  abbrev is_part_at : ℕ → ℕ → Bool
  is_part_at m l = (exposed l && region (at l)) && together l m

  abbrev pub parts : ℕ → Bool
  parts m = list_any (is_part_at m) (range_with_len 0 (length cell.nets))

  pub in_parts : (l m : ℕ) → exposed l ≡ true → region (at l) ≡ true → together l m ≡ true → parts m ≡ true
  in_parts l m e ins t =
      let plain = p.placed.exposed_plain l e in
      among_any (is_part_at m) (range_with_len 0 (length cell.nets)) l (number_among (length cell.nets) l (slice_get_within cell.nets l plain.0 plain.1))
      (and_from (exposed l && region (at l)) (together l m) (and_from (exposed l) (region (at l)) e ins) t)

  pub of_parts : (m : ℕ) → parts m ≡ true → (l : ℕ) × (exposed l ≡ true) × (region (at l) ≡ true) × (together l m ≡ true)
  of_parts m e =
      let found = any_among (is_part_at m) (range_with_len 0 (length cell.nets)) e in
      let both = and_parts (exposed found.0 && region (at found.0)) (together found.0 m) found.2 in
      let is = and_parts (exposed found.0) (region (at found.0)) both.0 in
      (found.0, is.0, is.1, both.1)

  -- another output in the part of an exposed one is at its net
  pub same_net : (l m : ℕ) → exposed l ≡ true → exposed m ≡ true → together l m ≡ true → at l ≡ at m
  same_net l m e f t =
      p.alone l m e (p.placed.exposed_plain m f) (p.whole.compared_remaining (at m) (p.whole.exposed_compared m f)) (part_kept cell here l m ((own.parts l m).0 t))

  pub plain_in : (m : ℕ) → parts m ≡ true → IsPlain cell m
  plain_in m ins = let of = of_parts m ins in together_plain cell here true of.0 m ((own.parts of.0 m).0 of.3)

  -- ---- in a state of the circuit

  -- where the gates of these parts have the bits of the cell
  module _ (bits : ℕ → Bool)
      (joined : (n m o : ℕ) (d : Device) → exposed n ≡ true → region (at n) ≡ true → together n m ≡ true → Among (devices_of true cell) d → Joins d m o → conducts bits d ≡ true
      → (together n o ≡ true) ⊎ ((value : Bool) × IsSupply cell o value)) where
    pub local_part : (s t : State) → t.reading ≡ s.reading → IsState whole_circuit here setting.inputs t → HasBits base r.reading t
        → ((n m : ℕ) (d : Device) → parts n ≡ true → Among (devices_of true cell) d → Joins d n m → bits d.gate.0 ≡ s.reading (at d.gate.0))
        → IsLocalPart cell k.circuit whole_circuit at remaining exposed s t region parts bits
    local_part s t same it has gates = record {
      reading = λ n rem. ap (λ (f : ℕ → Bool). f n) same;
      plain = λ n ins. plain_below k phase setting cell whole_circuit at place fresh remaining compared cell_observed exposed drive x i p n (reg.plain n ins);
      bounded = λ n m f ins a j on. reg.bounded n m f t ins a j it has on;
      inner_plain = plain_in;
      joined = λ n m d ins a j on.
          let of = of_parts n ins in
          elim (joined of.0 n m d of.1 of.2 of.3 a j on) [ inl t ↦ inl (in_parts of.0 m of.1 of.2 t) | inr supply ↦ inr supply ];
      exposed_there = λ n ins e. let of = of_parts n ins in subst (λ (y : ℕ). region y ≡ true) (same_net of.0 n of.1 e of.3) of.2;
      exposed_inner = λ n e ins. in_parts n n e ins ((own.parts n n).1 (alone (p.placed.exposed_plain n e)));
      gates = gates;
    }

    -- what conducting devices of these parts join is in one part
    pub joined_part : (m n : ℕ) → exposed m ≡ true → region (at m) ≡ true → IsJoined (cell_part cell parts bits) parts m n → together m n ≡ true
    joined_part m n e at_m (itself ins) = (own.parts m m).1 (alone (plain_in m ins))
    joined_part m n e at_m (onward {l = l} d before on j ins) =
        let bare_on = (restricted_on (cell_alone cell bits) (λ f. parts f.left.0 || parts f.right.0) d on).0 in
        elim (joined m l n d e at_m (joined_part m l e at_m before) bare_on.0 j bare_on.1) [
          | inl t ↦ t
          | inr supply ↦ absurd (plain_not_given cell n supply.1.0 (plain_in n ins) supply.1.1 (supply_given cell n supply.0 supply.1))
        ]

    -- ---- the region

    module _ (sr : ℕ → Bool) (reads : IsReading whole_circuit here setting.inputs sr) (same_base : (m : ℕ) → base m ≡ true → sr m ≡ r.reading m)
        (ready : (n m : ℕ) (d : Device) → parts n ≡ true → Among (devices_of true cell) d → Joins d n m → bits d.gate.0 ≡ sr (at d.gate.0)) where
      abbrev pub joint_of : ℕ → Bool
      joint_of n = (region n && compared n) || image cell at parts n

      -- the base, with the gates of the devices at these parts
      abbrev pub joint_base : ℕ → Bool
      joint_base n = base n || gates_at k.circuit (image cell at parts) n

      in_base : (m : ℕ) → base m ≡ true → joint_base m ≡ true
      in_base m b = or_left (base m) (gates_at k.circuit (image cell at parts) m) b

      -- the gate of a device at the parts is in the base
      own_gate : (n m : ℕ) (d e : Device) → parts n ≡ true → Joins d n m → Among (devices_of true k.circuit) e → IsImage at d e → joint_base e.gate.0 ≡ true
      own_gate n m d e ins j a img =
          or_right (base e.gate.0) (gates_at k.circuit (image cell at parts) e.gate.0)
          (gate_is k.circuit (image cell at parts) e (at n) (at m) (in_image cell at parts n (at n) (plain_in n ins) ins refl) a
          (turned e (at n) (at m) (copy_joins at d e n m (img.level, img.left, img.right) j)))

      -- the circuit with the cell whole in a state of these bits
      abbrev there_of : (t : State) → IsState k.circuit here setting.inputs t → State
      there_of t it =
          record {
            reading = t.reading;
            driven =
                (whole_state k phase setting cell whole_circuit at place fresh remaining compared cell_observed exposed drive x i p t.reading
                (reading_there k phase setting cell whole_circuit at place fresh remaining compared cell_observed exposed drive x i p t.reading it.reading)).0;
          }

      local_in : (t : State) (it : IsState k.circuit here setting.inputs t) → HasBits joint_base sr t → IsLocalPart cell k.circuit whole_circuit at remaining exposed t (there_of t it) region parts bits
      local_in t it has =
          local_part t (there_of t it) refl
          (whole_state k phase setting cell whole_circuit at place fresh remaining compared cell_observed exposed drive x i p t.reading
          (reading_there k phase setting cell whole_circuit at place fresh remaining compared cell_observed exposed drive x i p t.reading it.reading)).1
          (λ b e. has b (in_base b e) ∙ same_base b e)
          (λ n m d ins a j.
          let e = p.placed.there d (device_among true cell d a).0 in
          let there = among_devices true k.circuit e.0 e.1 (image_in true at d e.0 e.2 ∙ (device_among true cell d a).1) in
          ready n m d ins a j ∙ ap sr (sym e.2.gate) ∙ sym (has e.0.gate.0 (own_gate n m d e.0 ins j there e.2)) ∙ ap t.reading e.2.gate)

      abbrev s : State
      s = record {
        reading = sr;
        driven = λ j. (whole_state k phase setting cell whole_circuit at place fresh remaining compared cell_observed exposed drive x i p sr reads).0 (place j);
      }

      s_is : IsState k.circuit here setting.inputs s
      s_is =
          state_below k phase setting cell whole_circuit at place fresh remaining compared cell_observed exposed drive x i p sr
          (whole_state k phase setting cell whole_circuit at place fresh remaining compared cell_observed exposed drive x i p sr reads).0
          (whole_state k phase setting cell whole_circuit at place fresh remaining compared cell_observed exposed drive x i p sr reads).1

      local_here : IsLocalPart cell k.circuit whole_circuit at remaining exposed s (there_of s s_is) region parts bits
      local_here = local_in s s_is (λ b e. refl)

      -- a net at which a pin of the circuit is, is in the region
      pub pin_region : (q : ℕ) (out : OutputPin) → At (output_pins k.circuit) q out → joint_of out.pin.net.0 ≡ true → region out.pin.net.0 ≡ true
      pin_region q out e ins =
          elim (of_joint cell k.circuit whole_circuit at place fresh remaining compared exposed drive p.placed p.whole s (there_of s s_is) region parts bits local_here out.pin.net.0 ins) [
            | inl both ↦ both.0
            | inr inner ↦
                let met = p.placed.pins out inner.0 (q, e) (plain_in inner.0 inner.1) (sym inner.2) in
                subst (λ (y : ℕ). region y ≡ true) inner.2 (local_here.exposed_there inner.0 inner.1 met.0)
          ]

      gate_in : (n m : ℕ) (d : Device) → joint_of n ≡ true → Among (devices_of true k.circuit) d → Joins d m n → (joint_base d.gate.0 ≡ true) ⊎ IsGivenNet k.circuit d.gate.0
      gate_in n m d ins a j =
          elim (own_or_left cell k.circuit whole_circuit at place fresh remaining compared exposed drive p.placed p.whole s (there_of s s_is) region parts bits local_here d n (device_among true k.circuit d a).0
          (touched d m n j) ins) [
            | inl found ↦ (let end = in_end parts found.0 found.3 in inl (own_gate end.0 end.1 found.0 d end.2 end.3 a found.2))
            | inr stays ↦
                let f : Device = stays.0 in
                let img = stays.2.image in
                let there = among_devices true whole_circuit f stays.1 (image_in true (λ y. y) d f img ∙ (device_among true k.circuit d a).1) in
                let inside =
                joint_region cell k.circuit whole_circuit at place fresh remaining compared exposed drive p.placed p.whole s (there_of s s_is) region parts bits local_here n ins (stays.2.channels n (touched d m n j)) in
                elim (reg.gates n m f inside there (elim j [ inl q ↦ inl (img.left ∙ q.0, img.right ∙ q.1) | inr q ↦ inr (img.left ∙ q.0, img.right ∙ q.1) ])) [
                  | inl b ↦ inl (in_base d.gate.0 (subst (λ (y : ℕ). base y ≡ true) img.gate b))
                  | inr g ↦
                      inr (subst (IsGivenNet k.circuit) img.gate (given_below k phase setting cell whole_circuit at place fresh remaining compared cell_observed exposed drive x i p f.gate.0 g))
                ]
          ]

      driven_alike : (t u : State) → IsState k.circuit here setting.inputs t → IsState k.circuit here setting.inputs u → HasBits joint_base sr t → HasBits joint_base sr u
          → (q : ℕ) (out : OutputPin) → At (output_pins k.circuit) q out → joint_of out.pin.net.0 ≡ true → t.driven q ≡ u.driven q
      driven_alike t u it iu ht hu q out e ins =
          let one = state_there k phase setting cell whole_circuit at place fresh remaining compared cell_observed exposed drive x i p t it q out e in
          let two = state_there k phase setting cell whole_circuit at place fresh remaining compared cell_observed exposed drive x i p u iu q out e in
          let to = p.wholes.pins q out e in
          sym one.2
          ∙ (reg.pins (record { reading = t.reading; driven = one.0 }) (record { reading = u.reading; driven = two.0 }) one.1 two.1
          (λ b f. ht b (in_base b f) ∙ same_base b f) (λ b f. hu b (in_base b f) ∙ same_base b f)
          (place q) to.0 to.1 (subst (λ (n : Net). region n.0 ≡ true) (sym to.3) (pin_region q out e ins))
          ∙ two.2)

      pub joint_is_region : IsRegion k.circuit here setting joint_of joint_base sr
      joint_is_region = record {
        plain = λ n ins.
            joint_plain cell k.circuit whole_circuit at place fresh remaining compared exposed drive p.placed p.whole s (there_of s s_is) region parts bits local_here n ins;
        gates = gate_in;
        bounded = λ n m d t ins a j it has on.
            joint_bounded cell k.circuit whole_circuit at place fresh remaining compared exposed drive p.placed p.whole t (there_of t it) region parts bits (local_in t it has) n m d ins a j on;
        pins = driven_alike;
      }
