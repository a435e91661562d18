-- What is left of a circuit in which one further instance is whole.
use Rattle.std.proofs.Common.{◌≡◌, ◌⊎◌, ◌+◌, ◌-◌, ◌++◌, ◌<◌, ◌≤◌, ◌&&◌, ◌||◌, ◌∷◌, [], ℕ, zero, suc, cond, not, List, Bool, true, false, length, Some, refl, ap, ap₂, sym, ◌∙◌, subst, arith, inl, inr}
use Rattle.std.specs.Prelude.{nat_le, nat_lt, ◌==◌}
use Rattle.std.proofs.lemmas.Bool.{and_from, and_left, and_parts, cases_Bool, cases_lt, eq-eqb, eqb-true, false_from_ne_true, false≢true, le-leb, lt-ltb, not-false, not-true, or_left, or_right}
use Rattle.std.proofs.lemmas.Option.{none-some}
use Rattle.cell_inside.proofs.NetKinds.{is_plain_is, plain_is}
use Rattle.cell_inside.specs.Inside.{Touches}
use Rattle.cell_inside.specs.LeftWhole.{IsFreshPin, IsLeftDevice, IsLeftPin, IsLeftWhole}
use Rattle.cell_inside.specs.Placed.{IsImage, IsPlaced, IsSupply}
use Rattle.cell_inside.specs.Shifted.{IsWithinDepth, top_alone}
use Rattle.checked_chain.proofs.DriveLaws.{devices_less, is_nothing, last_there, nothing_in, other_instance, outputs_more, outputs_or_last}
use Rattle.placed_cells.proofs.AboveLaws.{net_high, port_outside}
use Rattle.placed_cells.proofs.DepthLaws.{ordered_is_within_depth}
use Rattle.placed_cells.proofs.FlatNetLaws.{plain_behind}
use Rattle.placed_cells.proofs.InstanceLaws.{device_named, inside_image, net_inside, not_outside, size_all}
use Rattle.placed_cells.specs.Above.{net_above, place_alone}
use Rattle.placed_cells.specs.Rows.{size_inside}
use Rattle.placed_cells.specs.Splits.{IsOutsideOf, IsSplit}
use Rattle.replaced_instances.proofs.Exposures.{AreCompared, AreExposed, no_channel_at, no_other_at, not_alone, other_at, touches_by}
use Rattle.replaced_instances.proofs.OutputPorts.{count_below_port}
use Rattle.replaced_instances.proofs.PinOutputs.{output_pin, pin_output, settled}
use Rattle.replaced_instances.proofs.StepOutputs.{outputs_behind}
use Rattle.replaced_instances.proofs.StepPlaced.{is_alone, other_there, placed, shows}
use Rattle.replaced_instances.proofs.StepPlaces.{IsDeviceIn, earlier_or_inside, later_outside}
use Rattle.replaced_instances.proofs.StepPorts.{none, output_of_port, output_plain, plain_output, port_of_output, rising, tied}
use Rattle.replaced_instances.specs.Steps.{IsStep, compared_at, fresh_place, is_hidden_at, is_outside_at}
use Rattle.vrt_model.proofs.Filtered.{among_kept, filter_among}
use Rattle.vrt_model.proofs.Lists.{at_back, at_either, at_front, at_map, map_at, one_at}
use Rattle.vrt_model.proofs.Members.{among_any, any_among}
use Rattle.vrt_model.proofs.Scales.{same_source}
use Rattle.vrt_model.proofs.Tests.{same_tests}
use Rattle.vrt_model.specs.Checked.{IsCircuitWith, before}
use Rattle.vrt_model.specs.CheckedParts.{checked_devices, moved_end}
use Rattle.vrt_model.specs.Comparison.{CellPort, Comparison, cell_at}
use Rattle.vrt_model.specs.Cut.{Cut, NumberedPlace}
use Rattle.vrt_model.specs.Facts.{output_ports}
use Rattle.vrt_model.specs.FlatCircuit.{flat_circuit_of, flat_holds}
use Rattle.vrt_model.specs.Known.{IsPlain, is_plain_at, is_plain_kind}
use Rattle.vrt_model.specs.Levels.{source_level}
use Rattle.vrt_model.specs.Lists.{Among, At, is_empty}
use Rattle.vrt_model.specs.Path.{level_of_drive}
use Rattle.vrt_model.specs.State.{OutputPin, output_pins}
use Rattle.vrt_model.specs.Unrolled.{Place, Top, deepest, net_at, places_in}
use Rattle.vrt_model.specs.Variables.{places}
use Rattle.vrt_model.specs.WholeInstances.{OutputAt, all_outputs, channels_at, meets_gates_only, others_at, outputs_of_place}
use Rattle.vrt_model.specs.declared.blif.Blif.{Blif}
use Rattle.vrt_model.specs.declared.circuit.Circuit.{Circuit}
use Rattle.vrt_model.specs.declared.circuit.Device.{Device}
use Rattle.vrt_model.specs.declared.circuit.FlatNet.{FlatNet}
use Rattle.vrt_model.specs.declared.circuit.Hold.{Hold}
use Rattle.vrt_model.specs.declared.whole.CellFacts.{CellFacts}
use Rattle.vrt_model.specs.declared.whole.Drive.{Drive}
use Rattle.vrt_model.specs.declared.whole.Drive.TheVariants.{Soft}
use Rattle.vrt_model.specs.declared.whole.WholePin.{WholePin}

-- ---- tests of nets

pub number_there : {X : Type 0} (n : ℕ) (xs : List X) (j : ℕ) (x : X) → At xs j x → At (places n xs) j (n + j)
number_there n [] j x e = absurd (none-some x e)
number_there n (y ∷ xs) zero x e = let same : n ≡ n + 0 = omega arith in ap (λ (k : ℕ). Some k) same
number_there n (y ∷ xs) (suc j) x e = number_there (suc n) xs j x e ∙ ap (λ (k : ℕ). Some k) (let same : suc n + j ≡ n + suc j = omega arith in same)

-- all nets are compared but those at which plain nets of the cell are that are not exposed
pub hidden_compared : (cell : Circuit) (exposed : ℕ → Bool) (at : ℕ → ℕ) → AreCompared cell at exposed (λ n. not (is_hidden_at cell exposed at n))
hidden_compared cell exposed at = record {
  hidden = λ n e.
      let found = any_among (λ j. not (exposed j) && (is_plain_at cell j && (at j == n))) (places 0 cell.nets) (not-false (is_hidden_at cell exposed at n) e) in
      let both = and_parts (not (exposed found.0)) (is_plain_at cell found.0 && (at found.0 == n)) found.2 in
      let net = and_parts (is_plain_at cell found.0) (at found.0 == n) both.1 in
      (found.0, plain_is cell found.0 net.0, eqb-true (at found.0) n net.1, not-true (exposed found.0) both.0);
  hides = λ j plain e.
      let there : At (places 0 cell.nets) j (0 + j) = number_there 0 cell.nets j plain.0 plain.1 in
      let number : 0 + j ≡ j = omega arith in
      ap not
      (among_any (λ l. not (exposed l) && (is_plain_at cell l && (at l == at j))) (places 0 cell.nets) j (j, subst (λ (l : ℕ). At (places 0 cell.nets) j l) number there)
      (and_from (not (exposed j)) (is_plain_at cell j && (at j == at j)) (ap not e) (and_from (is_plain_at cell j) (at j == at j) (is_plain_is cell j plain) (eq-eqb (at j) (at j) refl))));
}

pub outside_is : (t : Top) (depth : ℕ) (p : Place) (n : ℕ) → IsOutsideOf t depth p n → is_outside_at t depth p n ≡ true
outside_is t depth p n (inl low) = or_left (nat_lt n p.base) (nat_le (p.base + size_inside t depth p.cell) n) (lt-ltb n p.base low)
outside_is t depth p n (inr high) = or_right (nat_lt n p.base) (nat_le (p.base + size_inside t depth p.cell) n) (le-leb (p.base + size_inside t depth p.cell) n high)

not_outside_is : (t : Top) (depth : ℕ) (p : Place) (n : ℕ) → is_outside_at t depth p n ≡ false → (p.base ≤ n) × (n < p.base + size_inside t depth p.cell)
not_outside_is t depth p n e = elim (cases_lt n p.base) [
  | inl low ↦ absurd (false≢true (sym e ∙ outside_is t depth p n (inl low)))
  | inr more ↦ elim (cases_lt n (p.base + size_inside t depth p.cell)) [
    | inl less ↦ (more, less)
    | inr high ↦ absurd (false≢true (sym e ∙ outside_is t depth p n (inr high)))
  ]
]

module _ (cut : Cut) (blif : Blif) (facts : List CellFacts) (i : ℕ) (p : NumberedPlace) (m : ℕ) (step : IsStep cut blif facts i p m)
    (depth : ℕ) (front back : List Place) (split : IsSplit cut.top (suc i) p.at depth front back)
    (c : Circuit) (circuit : IsCircuitWith (before cut i) blif facts c)
    (exposed : ℕ → Bool) (drive : ℕ → ℕ) (exposure : AreExposed cut blif facts i p m exposed drive)
    (compared : ℕ → Bool) (are_compared : AreCompared (compared_at cut.top blif p m).circuit (λ n. net_above cut.top p.at n) exposed compared) where
  abbrev t : Top
  t = cut.top

  abbrev k : Comparison
  k = compared_at cut.top blif p m

  abbrev own : Top
  own = top_alone cut.top p.at.cell k.pairing.ports

  abbrev at : ℕ → ℕ
  at n = net_above cut.top p.at n

  abbrev base : ℕ
  base = (place_alone cut.top p.at).base

  abbrev outs : List OutputAt
  outs = outputs_of_place cut.top blif facts p

  abbrev earlier : List OutputAt
  earlier = all_outputs (before cut i) blif facts

  abbrev remaining : ℕ → Bool
  remaining n = is_outside_at cut.top depth p.at n

  abbrev later : List OutputAt
  later = all_outputs (before cut (suc i)) blif facts

  abbrev old_devices : List Device
  old_devices = checked_devices (before cut i)

  abbrev new_devices : List Device
  new_devices = checked_devices (before cut (suc i))

  stands : IsPlaced k.circuit c at exposed drive
  stands = placed cut blif facts i p m step depth front back split c circuit exposed drive exposure

  within : IsWithinDepth t depth p.at.cell
  within = split.within (ordered_is_within_depth t t.cell step.netlist.ordered step.netlist.there)

  -- ---- nets

  -- what does not remain is an own net of the cell, a plain one
  own_plain : (n : ℕ) → remaining n ≡ false → (j : ℕ) × IsPlain k.circuit j × (at j ≡ n) × (base ≤ j)
  own_plain n e =
      let range = not_outside_is t depth p.at n e in
      let low = range.0 in
      let high = range.1 in
      let size = size_all t k.pairing.ports (suc i) p.at depth front back split (tied cut blif facts i p m step) (none cut blif facts i p m step) within in
      let le : base ≤ base + (n - p.at.base) = omega arith in
      let lt : base + (n - p.at.base) < base + size_inside t deepest p.at.cell = omega (arith, low, high, size) in
      let far = net_high t p.at (base + (n - p.at.base)) le in
      (base + (n - p.at.base), plain_behind own (base + (n - p.at.base)) le lt, omega (arith, far, low), le)

  -- no own net is exposed
  own_hidden : (j : ℕ) → base ≤ j → exposed j ≡ false
  own_hidden j high =
      false_from_ne_true (exposed j) (λ e.
      let port = exposure.ports j e in
      let low = (output_plain cut blif facts i p m step port.0 port.1).0 in
      let same = port.2 in
      omega (arith, low, same, high))

  compared_remaining : (n : ℕ) → compared n ≡ true → remaining n ≡ true
  compared_remaining n e =
      elim (cases_Bool (remaining n)) [
        | inl yes_it ↦ yes_it
        | inr not_it ↦
            let inside = own_plain n not_it in
            absurd (false≢true (sym (subst (λ (x : ℕ). compared x ≡ false) inside.2 (are_compared.hides inside.0 inside.1 (own_hidden inside.0 inside.3))) ∙ e))
      ]

  exposed_compared : (n : ℕ) → exposed n ≡ true → compared (at n) ≡ true
  exposed_compared n e =
      elim (cases_Bool (compared (at n))) [
        | inl yes_it ↦ yes_it
        | inr not_it ↦
            let j = are_compared.hidden (at n) not_it in
            elim (stands.apart j.0 n j.1 (stands.exposed_plain n e) j.2) [
              | inl same ↦ absurd (false≢true (sym j.3 ∙ ap exposed same ∙ e))
              | inr both ↦ absurd (false≢true (sym j.3 ∙ both.0))
            ]
      ]

  -- ---- devices

  -- a device that is still there is at no plain net of the cell that is not exposed
  not_inside : (e : Device) (j : ℕ) → Among new_devices e → IsPlain k.circuit j → exposed j ≡ false → Touches e (at j) → ⊥
  not_inside e j there plain hidden touch =
      elim (cases_lt j base) [
        | inl low ↦
            let out = plain_output cut blif facts i p m step j low plain in
            no_channel_at new_devices later out.1 e (is_alone cut blif facts i p m step depth front back split c circuit exposed drive exposure j out hidden) there
            (subst (λ (x : ℕ). Touches e x) (sym out.5) touch)
        | inr high ↦ by_card high (later_outside cut blif facts i p step.place step.chosen depth front back split step.netlist.design e there)
      ]
    where
      by_card : base ≤ j → IsDeviceIn cut blif facts i p step.place step.chosen depth front back split step.netlist.design (front ++ back) e → ⊥
      by_card high on =
          let cell = cell_at t.design on.0.cell in
          let ties = tied cut blif facts i p m step in
          let no_global = none cut blif facts i p m step in
          let lt = net_inside t k.pairing.ports (suc i) p.at depth front back split ties no_global within j plain in
          let never : (name : List ℕ) → Among (on.1.drain ∷ on.1.gate ∷ on.1.source ∷ []) name → net_at t on.0 name ≡ at j → ⊥ =
          λ name is same. not_outside t k.pairing.ports (suc i) p.at depth front back split ties no_global within on.0 name j on.2 (device_named cell on.1 name on.3 is) high lt same in
          elim touch [
            | inl left ↦ never on.1.drain (0, refl) (ap (λ (x : Device). x.left.0) on.4 ∙ left)
            | inr right ↦ never on.1.source (2, refl) (ap (λ (x : Device). x.right.0) on.4 ∙ right)
          ]

  left_device : (e : Device) → Among (checked_devices (before cut (suc i))) e → IsLeftDevice (λ n. n) remaining compared e e
  left_device e there = record {
    image = record { kind = refl; gate = refl; left = refl; right = refl; level = refl; keeper = refl };
    gate =
        let on = later_outside cut blif facts i p step.place step.chosen depth front back split step.netlist.design e there in
        let cell = cell_at t.design on.0.cell in
        let gate = split.names on.0 on.1.gate on.2 (device_named cell on.1 on.1.gate on.3 (1, refl)) in
        subst (λ (x : Device). remaining x.gate.0 ≡ true) on.4 (outside_is t depth p.at (net_at t on.0 on.1.gate) gate);
    channels = λ n touch.
        elim (cases_Bool (compared n)) [
          | inl yes_it ↦ yes_it
          | inr not_it ↦ (
              let j = are_compared.hidden n not_it in
              absurd (not_inside e j.0 there j.1 j.3 (subst (λ (x : ℕ). Touches e x) (sym j.2) touch)))
        ];
  }

  cell_device : (e : Device) → IsDeviceIn cut blif facts i p step.place step.chosen depth front back split step.netlist.design (places_in t depth p.at) e
      → (d : Device) × Among k.circuit.devices d × IsImage at d e
  unfolding flat_circuit_of
  cell_device e inside =
      let d = inside_image t k.pairing.ports (suc i) p.at depth front back split (tied cut blif facts i p m step) (none cut blif facts i p m step) within inside.0 inside.1 inside.2 inside.3 in
      (d.0, d.1, subst (λ (x : Device). IsImage at d.0 x) inside.4 d.2)

  -- ---- holds

  hold_stays : (h : Hold) → Among c.holds h → remaining h.net.0 ≡ true
  hold_stays h on =
      elim (cases_Bool (remaining h.net.0)) [
        | inl stays ↦ stays
        | inr not_it ↦
            let inside = own_plain h.net.0 not_it in
            absurd (stands.unheld inside.0 inside.1 (h, on, sym inside.2))
      ]

  abbrev moved : Cut → Hold → Hold
  moved x h = record h { end = moved_end x h.end }

  -- ---- output pins

  -- where a channel of the cell is at the net of an output that was there, an output of the instance is
  output_for : (one : OutputAt) (n : ℕ) → Among earlier one → (IsPlain k.circuit n ⊎ ((value : Bool) × IsSupply k.circuit n value)) → at n ≡ one.pin.net.0
      → (o : OutputAt) × Among outs o × (o.pin.net.0 ≡ one.pin.net.0)
  output_for one n there kind same = by_kind kind
    where
      out : (pin : OutputPin) × At (output_pins c) there.0 pin × (pin.pin ≡ settled (before cut i) blif facts one)
      out = output_pin (before cut i) blif facts c circuit there.0 one there.1

      net : out.0.pin.net.0 ≡ at n
      net = ap (λ (pin : WholePin). pin.net.0) out.2 ∙ sym same

      by_kind : (IsPlain k.circuit n ⊎ ((value : Bool) × IsSupply k.circuit n value)) → (o : OutputAt) × Among outs o × (o.pin.net.0 ≡ one.pin.net.0)
      by_kind (inl plain) =
          elim (cases_lt n base) [
            | inl low ↦
                let o = plain_output cut blif facts i p m step n low plain in
                (o.1, (o.1.output, o.3), o.5 ∙ same)
            | inr high ↦ absurd (false≢true (sym (own_hidden n high) ∙ (stands.pins out.0 n (there.0, out.1) plain net).0))
          ]
      by_kind (inr supply) =
          let above = stands.supplies n supply.0 supply.1 in
          let plain = stands.pins_plain out.0 (there.0, out.1) in
          let one_net = one_at c.nets (at n) above.0 plain.0 above.1 (subst (λ (x : ℕ). At c.nets x plain.0) net plain.1) in
          absurd (false≢true (sym (ap is_plain_kind above.2) ∙ ap (λ (x : FlatNet). is_plain_kind x.kind) one_net ∙ ap is_plain_kind plain.2))

  -- so is one where a device that goes was
  output_at_device : (one : OutputAt) (e : Device) → Among earlier one → IsDeviceIn cut blif facts i p step.place step.chosen depth front back split step.netlist.design (places_in t depth p.at) e
      → Touches e one.pin.net.0 → (o : OutputAt) × Among outs o × (o.pin.net.0 ≡ one.pin.net.0)
  output_at_device one e there inside touch =
      let d = cell_device e inside in
      elim touch [
        | inl left ↦ output_for one d.0.left.0 there (stands.channels d.0 d.0.left.0 d.1 (inl refl)) (sym d.2.left ∙ left)
        | inr right ↦ output_for one d.0.right.0 there (stands.channels d.0 d.0.right.0 d.1 (inr refl)) (sym d.2.right ∙ right)
      ]

  module _ (one : OutputAt) (there : Among earlier one) where
    abbrev net : ℕ
    net = one.pin.net.0

    abbrev at_net : Device → Bool
    at_net d = (d.left.0 == one.pin.net.0) || (d.right.0 == one.pin.net.0)

    abbrev other : OutputAt → Bool
    other o = (o.pin.net.0 == one.pin.net.0) && not ((o.instance == one.instance) && (o.output == one.output))

    -- where one meets gates alone, no output of the instance is at its net: one that is exposed met a device there
    no_output : (o : OutputAt) → meets_gates_only old_devices earlier one ≡ true → Among outs o → o.pin.net.0 ≡ one.pin.net.0 → ⊥
    no_output o alone (l, e) same =
        let port = port_of_output cut blif facts i p m step l o e in
        let number = sym port.3 in
        let here = subst (λ (x : ℕ). At outs x o) number e in
        let port_here = subst (λ (x : ℕ). At (output_ports k) x port.0) number port.1 in
        elim (cases_Bool (exposed port.0.net)) [
          | inl more ↦
              let met = (exposure.outputs o port.0 here port_here more).met in
              false≢true (sym (not_alone old_devices earlier one met.0 (subst (λ (x : ℕ). Among (channels_at old_devices x) met.0) same met.1)) ∙ alone)
          | inr none_of ↦
              no_other_at new_devices later o one (exposure.others o port.0 here port_here none_of)
              (other_there cut blif facts i p m step depth front back split c circuit o one (l, e) there (sym same))
        ]

    alone_later : meets_gates_only old_devices earlier one ≡ true → meets_gates_only new_devices later one ≡ true
    alone_later e =
        let parts = and_parts (is_empty (channels_at old_devices net)) (is_empty (others_at earlier one)) e in
        and_from (is_empty (channels_at new_devices net)) (is_empty (others_at later one))
        (is_nothing (channels_at new_devices net) (λ d m.
        let h = filter_among at_net new_devices d m in
        nothing_in (channels_at old_devices net) d parts.0 (among_kept at_net old_devices d (devices_less cut blif facts i p step.place step.chosen d h.0) h.1)))
        (is_nothing (others_at later one) (λ o on.
        let h = filter_among other later o on in
        elim (outputs_or_last cut blif facts i p step.place step.chosen o h.0) [
          | inl old ↦ nothing_in (others_at earlier one) o parts.1 (among_kept other earlier o old h.1)
          | inr new ↦ no_output o e new (eqb-true o.pin.net.0 net (and_parts (o.pin.net.0 == net) (not ((o.instance == one.instance) && (o.output == one.output))) h.1).0)
        ]))

    alone_earlier : meets_gates_only new_devices later one ≡ true → meets_gates_only old_devices earlier one ≡ true
    alone_earlier e =
        let parts = and_parts (is_empty (channels_at new_devices net)) (is_empty (others_at later one)) e in
        and_from (is_empty (channels_at old_devices net)) (is_empty (others_at earlier one))
        (is_nothing (channels_at old_devices net) (λ d m.
        let h = filter_among at_net old_devices d m in
        elim (earlier_or_inside cut blif facts i p step.place step.chosen depth front back split step.netlist.design d h.0) [
          | inl kept ↦ nothing_in (channels_at new_devices net) d parts.0 (among_kept at_net new_devices d kept h.1)
          | inr inside ↦
              let o = output_at_device one d there inside (touches_by d net h.1) in
              let apart = and_left (o.0.instance == one.instance) (o.0.output == one.output) (other_instance cut blif facts i p step.place step.chosen o.0 one o.1 there) in
              no_other_at new_devices later one o.0 e (other_at new_devices later one o.0 (last_there cut blif facts i p step.place step.chosen o.0 o.1) o.2 apart)
        ]))
        (is_nothing (others_at earlier one) (λ o m.
        let h = filter_among other earlier o m in
        nothing_in (others_at later one) o parts.1 (among_kept other later o (outputs_more cut blif facts i p step.place step.chosen o h.0) h.1)))

    -- the drive of an output that was there stays
    pub drive_same : settled (before cut i) blif facts one ≡ settled (before cut (suc i)) blif facts one
    drive_same =
        ap (λ (b : Bool). let pin : WholePin = record { net = one.pin.net; signal = one.pin.signal; drive = cond b Soft one.pin.drive; observed = one.pin.observed } in pin)
        (same_tests (meets_gates_only old_devices earlier one) (meets_gates_only new_devices later one) alone_later alone_earlier)

  pin_stays : (out : OutputPin) → Among (output_pins c) out → remaining out.pin.net.0 ≡ true
  pin_stays out on =
      let r = (shows cut blif facts i p m step depth front back split c circuit).pins out on in
      outside_is t depth p.at out.pin.net.0 (split.tied r.0 out.pin.net.0 r.1 r.2)

  left_pin : (o : OutputAt) (out pin : OutputPin) → Among earlier o → Among (output_pins c) out → settled (before cut i) blif facts o ≡ out.pin → pin.pin ≡ settled (before cut (suc i)) blif facts o
      → IsLeftPin (λ n. n) remaining out pin
  left_pin o out pin there on was is =
      let same : pin.pin ≡ out.pin = is ∙ sym (drive_same o there) ∙ was in
      record { net = ap (λ (x : WholePin). x.net.0) same; drive = ap (λ (x : WholePin). x.drive) same; stays = pin_stays out on }

  module _ (whole_circuit : Circuit) (after : IsCircuitWith (before cut (suc i)) blif facts whole_circuit) where
    fresh_pin : (l : ℕ) (o : OutputAt) (port : CellPort) (pin : OutputPin) → At outs l o → At (output_ports k) l port → o.output ≡ l → o.pin.net.0 ≡ at port.net
        → pin.pin ≡ settled (before cut (suc i)) blif facts o
        → (fresh_place (before cut i) blif facts k port.net ≡ length earlier + l) × IsFreshPin (source_level whole_circuit) k.circuit at (λ n. n) remaining exposed drive port.net pin
    fresh_pin l o port pin here port_here number net is =
        let plain = output_plain cut blif facts i p m step port (l, port_here) in
        let out = port_outside t p.at (suc i) depth front back split (tied cut blif facts i p m step) (none cut blif facts i p m step) port.net plain.0 in (
          ap (λ (j : ℕ). length earlier + j) (count_below_port 2 (output_ports k) l port (rising cut blif facts i p m step) port_here),
          record {
            plain = plain.1;
            net = ap (λ (x : WholePin). x.net.0) is ∙ net;
            stays = outside_is t depth p.at (at port.net) out;
            level = λ e.
                let more = exposure.outputs o port (subst (λ (x : ℕ). At outs x o) (sym number) here) (subst (λ (x : ℕ). At (output_ports k) x port) (sym number) port_here) e in
                ap (λ (x : WholePin). level_of_drive (source_level whole_circuit) x.drive) is ∙ ap₂ (λ (b : Bool) (d : Drive). level_of_drive (source_level whole_circuit) (cond b Soft d)) more.more more.told;
          },
        )

    -- each exposed output has its pin
    fresh_there : (n : ℕ) → exposed n ≡ true
        → (pin : OutputPin) × At (output_pins whole_circuit) (fresh_place (before cut i) blif facts k n) pin × IsFreshPin (source_level whole_circuit) k.circuit at (λ n. n) remaining exposed drive n pin
    fresh_there n e =
        let port = exposure.ports n e in
        let l = port.1.0 in
        let o = output_of_port cut blif facts i p m step l port.0 port.1.1 in
        let there = subst (λ (os : List OutputAt). At os (length earlier + l) o.0) (sym (outputs_behind cut i p step.place step.chosen blif facts)) (at_back earlier outs l o.0 o.1) in
        let pin = output_pin (before cut (suc i)) blif facts whole_circuit after (length earlier + l) o.0 there in
        let fresh = fresh_pin l o.0 port.0 pin.0 o.1 port.1.1 o.3 o.2 pin.2 in
        subst (λ (x : ℕ). (pin : OutputPin) × At (output_pins whole_circuit) (fresh_place (before cut i) blif facts k x) pin × IsFreshPin (source_level whole_circuit) k.circuit at (λ n. n) remaining exposed drive x pin) port.2
        (pin.0, subst (λ (j : ℕ). At (output_pins whole_circuit) j pin.0) (sym fresh.0) pin.1, fresh.1)

    old_or_fresh : (j : ℕ) (pin : OutputPin) → At (output_pins whole_circuit) j pin
        → ((l : ℕ) × (out : OutputPin) × At (output_pins c) l out × (l ≡ j) × IsLeftPin (λ n. n) remaining out pin)
        ⊎ ((n : ℕ) × (fresh_place (before cut i) blif facts k n ≡ j) × IsFreshPin (source_level whole_circuit) k.circuit at (λ n. n) remaining exposed drive n pin)
    old_or_fresh j pin here =
        let o = pin_output (before cut (suc i)) blif facts whole_circuit after j pin here in
        elim (at_either earlier outs j o.0 (subst (λ (os : List OutputAt). At os j o.0) (outputs_behind cut i p step.place step.chosen blif facts) o.1)) [
          | inl old ↦
              let out = output_pin (before cut i) blif facts c circuit j o.0 old in
              inl (j, out.0, out.1, refl, left_pin o.0 out.0 pin (j, old) (j, out.1) (sym out.2) (sym o.2))
          | inr new ↦
              let port = port_of_output cut blif facts i p m step new.0 o.0 new.2 in
              let fresh = fresh_pin new.0 o.0 port.0 pin new.2 port.1 port.3 port.2 (sym o.2) in
              inr (port.0.net, fresh.0 ∙ sym new.1, fresh.1)
        ]

    pub left_whole : IsLeftWhole k.circuit c whole_circuit at (λ n. n) (λ j. j) (fresh_place (before cut i) blif facts k) remaining compared exposed drive
    left_whole = record {
      source = same_source c whole_circuit (circuit.source ∙ sym after.source);
      nets = λ n net stays here. (net, subst (λ (nets : List FlatNet). At nets n net) (circuit.nets ∙ sym after.nets) here, refl);
      nets_back = λ n net stays here. (net, subst (λ (nets : List FlatNet). At nets n net) (after.nets ∙ sym circuit.nets) here, refl);
      moved_apart = λ a b one other same. same;
      compared_remaining = compared_remaining;
      exposed_compared = exposed_compared;
      inside_compared = λ n plain e.
          elim (cases_Bool (exposed n)) [
            | inl yes_it ↦ yes_it
            | inr not_it ↦ absurd (false≢true (sym (are_compared.hides n plain not_it) ∙ e))
          ];
      devices = λ e on.
          elim (earlier_or_inside cut blif facts i p step.place step.chosen depth front back split step.netlist.design e (subst (λ (ds : List Device). Among ds e) circuit.devices on)) [
            | inl later ↦ inr (e, subst (λ (ds : List Device). Among ds e) (sym after.devices) later, left_device e later)
            | inr inside ↦ inl (cell_device e inside)
          ];
      devices_back = λ f on.
          let later = subst (λ (ds : List Device). Among ds f) after.devices on in
          (f, subst (λ (ds : List Device). Among ds f) (sym circuit.devices) (devices_less cut blif facts i p step.place step.chosen f later), left_device f later);
      holds = λ j h here.
          let from = at_map (moved (before cut i)) (flat_holds t) j h (subst (λ (hs : List Hold). At hs j h) circuit.holds here) in
          let there = map_at (moved (before cut (suc i))) (flat_holds t) j from.0 from.1 in (
            moved (before cut (suc i)) from.0,
            subst (λ (hs : List Hold). At hs j (moved (before cut (suc i)) from.0)) (sym after.holds) there,
            record { net = ap (λ (x : Hold). x.net.0) from.2; size = ap (λ (x : Hold). x.size) from.2; stays = hold_stays h (j, here) },
          );
      holds_back = λ j g here.
          let from = at_map (moved (before cut (suc i))) (flat_holds t) j g (subst (λ (hs : List Hold). At hs j g) after.holds here) in
          let there = subst (λ (hs : List Hold). At hs j (moved (before cut i) from.0)) (sym circuit.holds) (map_at (moved (before cut i)) (flat_holds t) j from.0 from.1) in (
            moved (before cut i) from.0,
            there,
            record { net = ap (λ (x : Hold). x.net.0) (sym from.2); size = ap (λ (x : Hold). x.size) (sym from.2); stays = hold_stays (moved (before cut i) from.0) (j, there) },
          );
      pins = λ j out here.
          let o = pin_output (before cut i) blif facts c circuit j out here in
          let there = subst (λ (os : List OutputAt). At os j o.0) (sym (outputs_behind cut i p step.place step.chosen blif facts)) (at_front earlier outs j o.0 o.1) in
          let pin = output_pin (before cut (suc i)) blif facts whole_circuit after j o.0 there in
          (pin.0, pin.1, left_pin o.0 out pin.0 (j, o.1) (j, here) o.2 pin.2);
      fresh_pins = fresh_there;
      pins_back = old_or_fresh;
    }
