-- A cell that stands in a circuit stands in it at each reading.
use Rattle.std.proofs.Common.{◌≡◌, ℕ, ◌≤◌, ◌<◌, Bool, true, false, List, [], ◌∷◌, length, map, arith, subst, sym, refl, ◌∙◌, ap, inl, inr}
use Rattle.std.proofs.lemmas.Option.{slice_get_within}
use Rattle.cell_inside.proofs.Copies.{touched}
use Rattle.cell_inside.proofs.Images.{image_conducts, image_in}
use Rattle.cell_inside.proofs.NetKinds.{is_plain_is, plain_is, plain_not_given, supply_given}
use Rattle.cell_inside.proofs.OutsideLaws.{outside_changes_nothing}
use Rattle.cell_inside.specs.Inside.{ComesFromOutside, IsCopy, IsInside, IsOutside, IsShared, Touches}
use Rattle.cell_inside.specs.Placed.{IsImage, IsPlaced, IsSupply, PlacedCellStandsAlone, alone}
use Rattle.vrt_model.proofs.Filtered.{among_devices, device_among}
use Rattle.vrt_model.proofs.Members.{all_among, among_map, at_none}
use Rattle.vrt_model.proofs.Networks.{network_finite, network_levels}
use Rattle.vrt_model.proofs.Scales.{least_below}
use Rattle.vrt_model.specs.Levels.{source_level}
use Rattle.vrt_model.specs.Circuits.{IsHold}
use Rattle.vrt_model.specs.Known.{IsPlain, is_plain_at}
use Rattle.vrt_model.specs.Lists.{Among, At}
use Rattle.vrt_model.specs.Networks.{HasRanges}
use Rattle.vrt_model.specs.Path.{Hop, IsOn, IsPath, IsRoot, Network, Root, end_of, level_of, level_of_drive}
use Rattle.vrt_model.specs.Reading.{IsReading}
use Rattle.vrt_model.specs.Response.{IsStrength}
use Rattle.vrt_model.specs.State.{OutputPin, State, network_of, output_pins}
use Rattle.vrt_model.specs.declared.circuit.Circuit.{Circuit}
use Rattle.vrt_model.specs.declared.circuit.Device.{Device}
use Rattle.vrt_model.specs.declared.circuit.Hold.{Hold}
use Rattle.vrt_model.specs.declared.rules.Phase.{Phase}
use Rattle.vrt_model.specs.declared.whole.Whole.{Whole}
use Rattle.vrt_model.specs.declared.whole.WholePin.{WholePin}

module _ (cell c : Circuit) (at : ℕ → ℕ) (exposed : ℕ → Bool) (drive : ℕ → ℕ) (phase : Phase) (inputs held : ℕ → Bool) (bare : Bool) (s : State)
    (ranges : HasRanges cell) (all_ranges : HasRanges c) (p : IsPlaced cell c at exposed drive) (reading : IsReading c phase inputs s.reading)
    (drives : (n : ℕ) → exposed n ≡ true → IsStrength (alone cell bare at s) n (drive n) × (0 < drive n)) where
  abbrev cell_network : Network
  cell_network = alone cell bare at s

  abbrev circuit_network : Network
  circuit_network = network_of c bare held s

  no_hold : (place : ℕ) (hold : Hold) → At cell.holds place hold → ⊥
  no_hold place hold e = at_none place hold (subst (λ (hs : List Hold). At hs place hold) p.no_holds e)

  no_pin : (place : ℕ) (pin : WholePin) → At cell_network.outputs place pin → ⊥
  no_pin place pin e = at_none place pin (subst (λ (ws : List Whole). At (map (λ (out : OutputPin). out.pin) (output_pins (record cell { wholes = ws }))) place pin) p.no_wholes e)

  -- an output pin of the circuit
  pin_of : (place : ℕ) (pin : WholePin) → At circuit_network.outputs place pin → (out : OutputPin) × Among (output_pins c) out × (out.pin ≡ pin)
  pin_of place pin e = among_map (λ (out : OutputPin). out.pin) (output_pins c) pin (place, e)

  copy_of : (d e : Device) → IsImage at d e → IsCopy at d e
  copy_of d e i = (i.level, i.left, i.right)

  on_there : (d : Device) → IsOn cell_network d → (e : Device) × IsOn circuit_network e × IsCopy at d e
  on_there d on =
      let listed = device_among bare cell d on.0 in
      let e = p.there d listed.0 in
      (e.0, (among_devices bare c e.0 e.1 (image_in bare at d e.0 e.2 ∙ listed.1), image_conducts s at d e.0 e.2 ∙ on.1), copy_of d e.0 e.2)

  -- a device outside at a net of the cell
  outside_device : (e : Device) (n : ℕ) → IsOn circuit_network e → IsOutside cell_network at e → IsPlain cell n → Touches e (at n) → (exposed n ≡ true) × (e.level ≤ drive n)
  outside_device e n on out plain touch =
      let listed = device_among bare c e on.0 in
      elim (p.others e n listed.0 plain touch) [
        | inl own ↦ absurd (out own.0 (among_devices bare cell own.0 own.1 (sym (image_in bare at own.0 e own.2) ∙ listed.1), sym (image_conducts s at own.0 e own.2) ∙ on.1) (copy_of own.0 e own.2))
        | inr other ↦ other
      ]

  -- a root of the circuit at a net of the cell
  outside_root : (root : Root) (n : ℕ) → IsRoot circuit_network root → IsPlain cell n → root.net ≡ at n → (exposed n ≡ true) × (root.level ≤ drive n)
  outside_root root n r plain e =
      elim r [
        | inl g ↦ absurd (plain_not_given c root.net g.0 (subst (IsPlain c) (sym e) (p.plain n plain)) g.1 g.2)
        | inr other ↦ elim other [
          | inl h ↦ absurd (p.unheld n plain (h.1, (h.0, h.2), sym h.3 ∙ e))
          | inr o ↦
              let out = pin_of o.0 o.1 o.2 in
              let h = p.pins out.0 n out.1 plain (ap (λ (q : WholePin). q.net.0) out.2 ∙ sym o.3 ∙ e) in
              let level : root.level ≡ level_of_drive (source_level c) out.0.pin.drive = o.4 ∙ ap (λ (q : WholePin). level_of_drive (source_level c) q.drive) (sym out.2) in
              let le = h.1 in
              (h.0, omega (arith, level, le))
        ]
      ]

  -- a supply is a source of one value in both
  shared : (n : ℕ) (value : Bool) → IsSupply cell n value → IsShared cell_network circuit_network at n
  shared n value here =
      let there = p.supplies n value here in
      record {
        value = s.reading (at n);
        alone = record {
          root = record { net = n; level = source_level cell; value = s.reading (at n) };
          is = inl (here.0, here.1, supply_given cell n value here, refl, refl);
          net = refl;
          level = refl;
          value = refl;
          only = λ other r e full. elim r [
            | inl g ↦ g.4 ∙ ap (λ (m : ℕ). s.reading (at m)) e
            | inr rest ↦ elim rest [ inl h ↦ absurd (no_hold h.0 h.1 h.2) | inr o ↦ absurd (no_pin o.0 o.1 o.2) ]
          ];
        };
        above = record {
          root = record { net = at n; level = source_level c; value = s.reading (at n) };
          is = inl (there.0, there.1, supply_given c (at n) value there, refl, refl);
          net = refl;
          level = refl;
          value = refl;
          only = λ other r e full. elim r [
            | inl g ↦ g.4 ∙ ap s.reading e
            | inr rest ↦ elim rest [
              | inl h ↦ absurd (let is = h.4 in let le = (all_among (IsHold c) c.holds h.1 all_ranges.holds (h.0, h.2)).size.1 in let below = least_below c in omega (arith, is, le, full, below))
              | inr o ↦
                  let out = pin_of o.0 o.1 o.2 in
                  absurd (plain_not_given c (at n) there.0 (subst (IsPlain c) (ap (λ (q : WholePin). q.net.0) out.2 ∙ sym o.3 ∙ e) (p.pins_plain out.0 out.1)) there.1 (supply_given c (at n) value there))
            ]
          ];
        };
      }

  pub placed_inside : IsInside cell_network circuit_network at (is_plain_at cell) exposed drive
  placed_inside = record {
    source = p.source;
    no_root = λ root r ins. elim r [
      | inl g ↦ plain_not_given cell root.net g.0 (plain_is cell root.net ins) g.1 g.2
      | inr other ↦ elim other [ inl h ↦ no_hold h.0 h.1 h.2 | inr o ↦ no_pin o.0 o.1 o.2 ]
    ];
    bounded = λ d n on touch. elim (p.channels d n (device_among bare cell d on.0).0 touch) [
      | inl plain ↦ inl (is_plain_is cell n plain)
      | inr supply ↦ inr (shared n supply.0 supply.1)
    ];
    there = on_there;
    exposed_inside = λ n m. is_plain_is cell n (p.exposed_plain n m);
    devices = λ e n on out ins touch. (outside_device e n on out (plain_is cell n ins) touch).0;
    roots = λ root n r ins e. (outside_root root n r (plain_is cell n ins) e).0;
    apart = λ d m n on touch ins e. elim (p.channels d m (device_among bare cell d on.0).0 touch) [
      | inl plain ↦ p.apart m n plain (plain_is cell n ins) e
      | inr supply ↦
          let there = p.supplies m supply.0 supply.1 in
          absurd (plain_not_given c (at m) there.0 (subst (IsPlain c) (sym e) (p.plain n (plain_is cell n ins))) there.1 (supply_given c (at m) supply.0 there))
    ];
    drives = drives;
    not_above = above;
  }
    where
      above : (root : Root) (hops : List Hop) (n : ℕ) → IsPath circuit_network root hops → ComesFromOutside cell_network at hops → exposed n ≡ true → end_of root hops ≡ at n → level_of root hops ≤ drive n
      above root [] n path out m e = (outside_root root n path (p.exposed_plain n m) e).1
      above root (hop ∷ hops) n path out m e =
          let le = (outside_device hop.device n path.1 out (p.exposed_plain n m) (subst (Touches hop.device) e (touched hop.device (end_of root hops) hop.to path.2))).1 in
          omega (arith, le)

-- the law
pub placed_cell_stands_alone : PlacedCellStandsAlone
placed_cell_stands_alone cell c at exposed drive phase inputs held bare s ranges all_ranges p reading drives =
    outside_changes_nothing (alone cell bare at s) (network_of c bare held s) at (is_plain_at cell) exposed drive (length cell.nets) (length c.nets)
    (network_levels cell bare (λ place. false) (record { reading = λ n. s.reading (at n); driven = λ place. false }) ranges)
    (network_levels c bare held s all_ranges)
    (network_finite cell bare (λ place. false) (record { reading = λ n. s.reading (at n); driven = λ place. false }) ranges)
    (network_finite c bare held s all_ranges)
    (λ n m. let plain = p.exposed_plain n m in slice_get_within cell.nets n plain.0 plain.1)
    (placed_inside cell c at exposed drive phase inputs held bare s ranges all_ranges p reading drives)
