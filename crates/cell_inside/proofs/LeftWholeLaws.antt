-- A whole cell stands for the cell in each state.
use Rattle.std.proofs.Common.{◌≡◌, ℕ, ◌⊎◌, Bool, true, false, length, subst, sym, refl, ◌∙◌, ap, inl, inr}
use Rattle.cell_inside.proofs.Images.{image_conducts, image_in}
use Rattle.cell_inside.proofs.NetKinds.{plain_is}
use Rattle.cell_inside.proofs.OutputPins.{pin_found, pin_there}
use Rattle.cell_inside.proofs.PlacedLaws.{placed_inside}
use Rattle.cell_inside.proofs.RootLaws.{whole_stands_for_unjoined_outputs}
use Rattle.cell_inside.specs.Inside.{IsOutside}
use Rattle.cell_inside.specs.LeftWhole.{Correspond, HasOutputs, IsLeftDevice, IsLeftWhole, LeftWholeIsSame}
use Rattle.cell_inside.specs.Placed.{IsImage, IsPlaced, alone}
use Rattle.cell_inside.specs.Replaced.{IsReplaced, drive_root, root_at}
use Rattle.vrt_model.proofs.Filtered.{among_devices, device_among}
use Rattle.vrt_model.proofs.Networks.{network_finite, network_levels}
use Rattle.vrt_model.specs.Levels.{source_level}
use Rattle.vrt_model.specs.Known.{is_plain_at}
use Rattle.vrt_model.specs.Lists.{Among, At}
use Rattle.vrt_model.specs.Path.{IsOn, IsRoot, Network, Root, level_of_drive}
use Rattle.vrt_model.specs.Reading.{conducts, conducts_at, is_given, is_in}
use Rattle.vrt_model.specs.State.{OutputPin, State, network_of, output_pins}
use Rattle.vrt_model.specs.declared.circuit.Circuit.{Circuit}
use Rattle.vrt_model.specs.declared.circuit.Device.{Device}
use Rattle.vrt_model.specs.declared.rules.Phase.{Phase}
use Rattle.vrt_model.specs.declared.whole.WholePin.{WholePin}

module _ (cell c whole_circuit : Circuit) (at moved place fresh : ℕ → ℕ) (remaining compared exposed : ℕ → Bool) (drive : ℕ → ℕ) (value : ℕ → Bool)
    (phase : Phase) (inputs held : ℕ → Bool) (bare : Bool) (s r : State)
    (p : IsPlaced cell c at exposed drive) (l : IsLeftWhole cell c whole_circuit at moved place fresh remaining compared exposed drive)
    (same : Correspond c moved place fresh remaining exposed value s r) (outputs : HasOutputs cell bare at s exposed drive value) where
  abbrev cell_network : Network
  cell_network = alone cell bare at s

  abbrev circuit_network : Network
  circuit_network = network_of c bare held s

  abbrev whole_network : Network
  whole_network = network_of whole_circuit bare held r

  -- a device that stays conducts as it did
  left_on : (e f : Device) → IsLeftDevice moved remaining compared e f → conducts r.reading f ≡ conducts s.reading e
  left_on e f i =
      ap (λ k. conducts_at k (r.reading f.gate.0)) i.image.kind
      ∙ ap (λ (g : ℕ). conducts_at e.kind (r.reading g)) i.image.gate
      ∙ ap (conducts_at e.kind) (same.reading e.gate.0 i.gate)

  left_in : (e f : Device) → IsLeftDevice moved remaining compared e f → is_in bare f ≡ is_in bare e
  left_in e f i = image_in bare moved e f i.image

  -- a device outside stays
  outside_left : (e : Device) → IsOn circuit_network e → IsOutside cell_network at e → (f : Device) × Among whole_circuit.devices f × IsLeftDevice moved remaining compared e f
  outside_left e on out =
      let here = device_among bare c e on.0 in
      elim (l.devices e here.0) [
        | inl own ↦ absurd (out own.0 (own_on own.0 own.1 own.2 here.1) (own.2.level, own.2.left, own.2.right))
        | inr other ↦ other
      ]
    where
      own_on : (d : Device) → Among cell.devices d → IsImage at d e → is_in bare e ≡ true → IsOn cell_network d
      own_on d m i in_e = (among_devices bare cell d m (sym (image_in bare at d e i) ∙ in_e), sym (image_conducts s at d e i) ∙ on.1)

  pub left_replaced : IsReplaced cell_network circuit_network whole_network at moved (is_plain_at cell) exposed compared drive value
  left_replaced = record {
    source = l.source;
    exposed_compared = l.exposed_compared;
    inside_compared = λ n ins. l.inside_compared n (plain_is cell n ins);
    moved_apart = λ k m ks ms. l.moved_apart k m (l.compared_remaining k ks) (l.compared_remaining m ms);
    ends = λ e k on out touch. (outside_left e on out).2.channels k touch;
    devices_there = λ e on out.
        let f = outside_left e on out in
        let here = device_among bare c e on.0 in
        (f.0, (among_devices bare whole_circuit f.0 f.1 (left_in e f.0 f.2 ∙ here.1), left_on e f.0 f.2 ∙ on.1), (f.2.image.level, f.2.image.left, f.2.image.right));
    devices_back = λ f on.
        let here = device_among bare whole_circuit f on.0 in
        let e = l.devices_back f here.0 in
        (e.0, (among_devices bare c e.0 e.1 (sym (left_in e.0 f e.2) ∙ here.1), sym (left_on e.0 f e.2) ∙ on.1), (e.2.image.level, e.2.image.left, e.2.image.right), e.2.channels);
    roots_there = roots_there;
    drives_there = drives_there;
    roots_back = roots_back;
    values = outputs.values;
  }
    where
      roots_there : (root : Root) → IsRoot circuit_network root → compared root.net ≡ true → IsRoot whole_network (root_at (moved root.net) root)
      roots_there root is shows =
          elim is [
            | inl g ↦
                let other = l.nets root.net g.0 (l.compared_remaining root.net shows) g.1 in
                inl (other.0, other.1, ap is_given other.2 ∙ g.2, g.3 ∙ l.source, g.4 ∙ sym (same.reading root.net (l.compared_remaining root.net shows)))
            | inr more ↦ elim more [
              | inl h ↦
                  let g = l.holds h.0 h.1 h.2 in
                  inr (inl (h.0, g.0, g.1, ap moved h.3 ∙ sym g.2.net, h.4 ∙ sym g.2.size, h.5))
              | inr o ↦
                  let out = pin_found c o.0 o.1 o.2 in
                  let pin = l.pins o.0 out.0 out.1 in
                  inr (inr (
                    place o.0,
                    pin.0.pin,
                    pin_there whole_circuit (place o.0) pin.0 pin.1,
                    ap moved o.3 ∙ ap (λ (q : WholePin). moved q.net.0) (sym out.2) ∙ sym pin.2.net,
                    o.4 ∙ ap (λ (q : WholePin). level_of_drive (source_level c) q.drive) (sym out.2) ∙ ap (level_of_drive (source_level c)) (sym pin.2.drive) ∙ ap (λ (x : ℕ). level_of_drive x pin.0.pin.drive) l.source,
                    o.5 ∙ sym (same.driven o.0 out.0 out.1),
                  ))
            ]
          ]

      drives_there : (n : ℕ) → exposed n ≡ true → IsRoot whole_network (drive_root (moved (at n)) (drive n) (value n))
      drives_there n m =
          let pin = l.fresh_pins n m in
          inr (inr (fresh n, pin.0.pin, pin_there whole_circuit (fresh n) pin.0 pin.1, sym pin.2.net, sym (pin.2.level m), sym (same.fresh_driven n m)))

      roots_back : (root : Root) (k : ℕ) → IsRoot whole_network root → compared k ≡ true → root.net ≡ moved k
          → IsRoot circuit_network (root_at k root) ⊎ ((n : ℕ) × (exposed n ≡ true) × (at n ≡ k) × (root.level ≡ drive n) × (root.value ≡ value n))
      roots_back root k is shows e =
          elim is [
            | inl g ↦
                let net = l.nets_back k g.0 (l.compared_remaining k shows) (subst (λ (m : ℕ). At whole_circuit.nets m g.0) e g.1) in
                inl (inl (net.0, net.1, ap is_given net.2 ∙ g.2, g.3 ∙ sym l.source, g.4 ∙ ap r.reading e ∙ same.reading k (l.compared_remaining k shows)))
            | inr more ↦ elim more [
              | inl h ↦
                  let g = l.holds_back h.0 h.1 h.2 in
                  let net = l.moved_apart g.0.net.0 k g.2.stays (l.compared_remaining k shows) (sym g.2.net ∙ sym h.3 ∙ e) in
                  inl (inr (inl (h.0, g.0, g.1, sym net, h.4 ∙ g.2.size, h.5)))
              | inr o ↦
                  let out = pin_found whole_circuit o.0 o.1 o.2 in
                  by_pin o.0 out.0 out.1 (ap (λ (q : WholePin). q.net.0) out.2 ∙ sym o.3 ∙ e) (o.4 ∙ ap (λ (q : WholePin). level_of_drive (source_level whole_circuit) q.drive) (sym out.2)) o.5
            ]
          ]
        where
          by_pin : (j : ℕ) (pin : OutputPin) → At (output_pins whole_circuit) j pin → pin.pin.net.0 ≡ moved k → root.level ≡ level_of_drive (source_level whole_circuit) pin.pin.drive → root.value ≡ r.driven j
              → IsRoot circuit_network (root_at k root) ⊎ ((n : ℕ) × (exposed n ≡ true) × (at n ≡ k) × (root.level ≡ drive n) × (root.value ≡ value n))
          by_pin j pin there net level bit =
              elim (l.pins_back j pin there) [
                | inl old ↦
                    let out : OutputPin = old.1 in
                    let net_is = l.moved_apart out.pin.net.0 k old.4.stays (l.compared_remaining k shows) (sym old.4.net ∙ net) in
                    inl (inr (inr (
                      old.0,
                      out.pin,
                      pin_there c old.0 out old.2,
                      sym net_is,
                      level ∙ ap (level_of_drive (source_level whole_circuit)) old.4.drive ∙ ap (λ (x : ℕ). level_of_drive x out.pin.drive) (sym l.source),
                      bit ∙ ap r.driven (sym old.3) ∙ same.driven old.0 out old.2,
                    )))
                | inr new ↦
                    let net_is = l.moved_apart (at new.0) k new.2.stays (l.compared_remaining k shows) (sym new.2.net ∙ net) in
                    let m = l.inside_compared new.0 new.2.plain (subst (λ (x : ℕ). compared x ≡ true) (sym net_is) shows) in
                    inr (new.0, m, net_is, level ∙ new.2.level m, bit ∙ ap r.driven (sym new.1) ∙ same.fresh_driven new.0 m)
              ]

pub left_whole_is_same : LeftWholeIsSame
left_whole_is_same cell c whole_circuit at moved place fresh remaining compared exposed drive value phase inputs held bare s r ranges all_ranges whole_ranges p l reading same outputs lone =
    whole_stands_for_unjoined_outputs (alone cell bare at s) (network_of c bare held s) (network_of whole_circuit bare held r) at moved (is_plain_at cell) exposed compared drive value
    (length cell.nets) (length c.nets) (length whole_circuit.nets)
    (network_levels cell bare (λ place. false) (record { reading = λ n. s.reading (at n); driven = λ place. false }) ranges)
    (network_levels c bare held s all_ranges) (network_levels whole_circuit bare held r whole_ranges)
    (network_finite cell bare (λ place. false) (record { reading = λ n. s.reading (at n); driven = λ place. false }) ranges)
    (network_finite c bare held s all_ranges) (network_finite whole_circuit bare held r whole_ranges)
    (placed_inside cell c at exposed drive phase inputs held bare s ranges all_ranges p reading outputs.drives)
    (left_replaced cell c whole_circuit at moved place fresh remaining compared exposed drive value phase inputs held bare s r p l same outputs)
    lone
