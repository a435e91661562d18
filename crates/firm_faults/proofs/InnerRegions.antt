-- A shut set of a cell is a region of the circuit around it, where its gates have their bits.
use Rattle.std.proofs.Common.{◌≡◌, ℕ, ◌&&◌, Bool, true, List, length, map, eqb, ap, subst, sym, refl, ◌∙◌, inl, inr}
use Rattle.std.specs.List.{list_any, range_with_len}
use Rattle.std.proofs.lemmas.Bool.{and_from, and_parts, eq-eqb, eqb-true}
use Rattle.std.proofs.lemmas.Option.{slice_get_within}
use Rattle.cell_inside.proofs.Copies.{touched, touched_from}
use Rattle.cell_inside.proofs.Images.{image_conducts, image_in}
use Rattle.cell_inside.proofs.NetKinds.{plain_not_given, supply_given}
use Rattle.cell_inside.specs.Inside.{Touches}
use Rattle.cell_inside.specs.Placed.{IsImage, IsPlaced}
use Rattle.cell_inside.specs.Regions.{IsGivenNet, IsRegion}
use Rattle.fault_places.proofs.CountedSites.{number_among}
use Rattle.firm_faults.proofs.ShutRegions.{gate_is, gate_of, gates_at}
use Rattle.firm_faults.specs.Settled.{IsBacked, IsSettled, ShowsOwnBit, within}
use Rattle.vrt_model.proofs.Filtered.{among_devices, device_among}
use Rattle.vrt_model.proofs.Laws.{turned}
use Rattle.vrt_model.proofs.Lists.{map_at}
use Rattle.vrt_model.proofs.Locality.{fixed_given}
use Rattle.vrt_model.proofs.Members.{among_any, any_among, flat_map_among}
use Rattle.vrt_model.specs.Comparison.{Comparison, phase_at}
use Rattle.vrt_model.specs.Known.{IsPlain, IsShut}
use Rattle.vrt_model.specs.Lists.{Among}
use Rattle.vrt_model.specs.Path.{Joins}
use Rattle.vrt_model.specs.Reading.{conducts, conducts_at, devices_of}
use Rattle.vrt_model.specs.State.{OutputPin, Setting, State, output_pins}
use Rattle.vrt_model.specs.declared.circuit.Circuit.{Circuit}
use Rattle.vrt_model.specs.declared.circuit.Device.{Device}
use Rattle.vrt_model.specs.declared.circuit.FlatInstance.{FlatInstance}
use Rattle.vrt_model.specs.declared.whole.Whole.{Whole}
use Rattle.vrt_model.specs.declared.whole.WholePin.{WholePin}

-- the nets of the circuit at which the nets of a set of the cell are
abbrev pub image : Circuit → (ℕ → ℕ) → (ℕ → Bool) → ℕ → Bool
image cell at set n = list_any (λ (m : ℕ). eqb (at m) n && set m) (range_with_len 0 (length cell.nets))

pub in_image : (cell : Circuit) (at : ℕ → ℕ) (set : ℕ → Bool) (m n : ℕ) → IsPlain cell m → set m ≡ true → at m ≡ n → image cell at set n ≡ true
in_image cell at set m n plain ins e =
    among_any (λ (l : ℕ). eqb (at l) n && set l) (range_with_len 0 (length cell.nets)) m (number_among (length cell.nets) m (slice_get_within cell.nets m plain.0 plain.1))
    (and_from (eqb (at m) n) (set m) (eq-eqb (at m) n e) ins)

pub of_image : (cell : Circuit) (at : ℕ → ℕ) (set : ℕ → Bool) (n : ℕ) → image cell at set n ≡ true → (m : ℕ) × (set m ≡ true) × (at m ≡ n)
of_image cell at set n e =
    let found = any_among (λ (l : ℕ). eqb (at l) n && set l) (range_with_len 0 (length cell.nets)) e in
    let both = and_parts (eqb (at found.0) n) (set found.0) found.2 in
    (found.0, both.1, eqb-true (at found.0) n both.0)

-- an output of a whole instance is among the output pins
pub pin_among : (c : Circuit) (w : Whole) (pin : WholePin) → Among c.wholes w → Among w.outputs pin → Among (output_pins c) (record { whole = w; pin = pin })
pin_among c w pin m e =
    flat_map_among (λ (v : Whole). map (λ (p : WholePin). let one : OutputPin = record { whole = v; pin = p } in one) v.outputs) c.wholes w (record { whole = w; pin = pin }) m
    (e.0, map_at (λ (p : WholePin). let one : OutputPin = record { whole = w; pin = p } in one) w.outputs e.0 pin e.1)

module _ (k : Comparison) (phase : ℕ) (setting : Setting) (cell : Circuit) (at : ℕ → ℕ) (exposed : ℕ → Bool) (drive : ℕ → ℕ) (placed : IsPlaced cell k.circuit at exposed drive) where
  -- a net that a device touches is another than a plain one that is not exposed, unless it is the same
  pub one_net : (m n : ℕ) (d : Device) → Among cell.devices d → Touches d m → IsPlain cell n → (exposed n ≡ true → ⊥) → at m ≡ at n → m ≡ n
  one_net m n d a t plain own e =
      elim (placed.channels d m a t) [
        | inl also ↦ elim (placed.apart m n also plain e) [ inl one ↦ one | inr both ↦ absurd (own both.1) ]
        | inr supply ↦
            let up = placed.supplies m supply.0 supply.1 in
            absurd (plain_not_given k.circuit (at m) up.0 (subst (IsPlain k.circuit) (sym e) (placed.plain n plain)) up.1 (supply_given k.circuit (at m) supply.0 up))
      ]

  -- a device at a plain net of the cell that is not exposed is one of the cell
  pub own_device : (e : Device) (m : ℕ) → Among (devices_of true k.circuit) e → IsPlain cell m → (exposed m ≡ true → ⊥) → Touches e (at m)
      → (d : Device) × Among (devices_of true cell) d × IsImage at d e
  own_device e m a plain own_net t =
      let listed = device_among true k.circuit e a in
      elim (placed.others e m listed.0 plain t) [
        | inl own ↦ (own.0, among_devices true cell own.0 own.1 (sym (image_in true at own.0 e own.2) ∙ listed.1), own.2)
        | inr other ↦ absurd (own_net other.0)
      ]

  no_pin : (w : Whole) (pin : WholePin) (m : ℕ) → Among k.circuit.wholes w → Among w.outputs pin → IsPlain cell m → (exposed m ≡ true → ⊥) → pin.net.0 ≡ at m → ⊥
  no_pin w pin m a e plain own is = own (placed.pins (record { whole = w; pin = pin }) m (pin_among k.circuit w pin a e) plain is).0

  module _ (originals : List FlatInstance) (s : State) (inside reading : ℕ → Bool) (shut : IsShut cell (phase_at k.rules phase) inside reading)
      (hidden : (m : ℕ) → inside m ≡ true → exposed m ≡ true → ⊥)
      (same : (m l : ℕ) (d : Device) → inside m ≡ true → Among (devices_of true cell) d → Joins d m l → reading d.gate.0 ≡ s.reading (at d.gate.0)) where
    abbrev region : ℕ → Bool
    region = image cell at inside

    abbrev base : ℕ → Bool
    base = gates_at k.circuit region

    abbrev IsNear : Device → ℕ → ℕ → Type 0
    IsNear e n l =
        (d : Device) × Among (devices_of true cell) d × IsImage at d e × ((m : ℕ) × (o : ℕ) × (inside m ≡ true) × Joins d m o × (at m ≡ n) × (at o ≡ l))

    plain_in : (m : ℕ) → inside m ≡ true → IsPlain cell m
    plain_in m ins = (shut.plain m ins).0

    -- a device at the region is one of the cell at the set
    near : (e : Device) (n l : ℕ) → region n ≡ true → Among (devices_of true k.circuit) e → Joins e n l → IsNear e n l
    near e n l r a j =
        let from = of_image cell at inside n r in
        let plain = plain_in from.0 from.1 in
        let own = own_device e from.0 a plain (hidden from.0 from.1) (subst (Touches e) (sym from.2) (touched_from e n l j)) in
        let d : Device = own.0 in
        let listed = (device_among true cell d own.1).0 in
        elim j [
          | inl q ↦
              let one = one_net d.left.0 from.0 d listed (inl refl) plain (hidden from.0 from.1) (sym own.2.left ∙ q.0 ∙ sym from.2) in
              (d, own.1, own.2, (d.left.0, d.right.0, subst (λ (y : ℕ). inside y ≡ true) (sym one) from.1, inl (refl, refl), sym own.2.left ∙ q.0, sym own.2.right ∙ q.1))
          | inr q ↦
              let one = one_net d.right.0 from.0 d listed (inr refl) plain (hidden from.0 from.1) (sym own.2.right ∙ q.1 ∙ sym from.2) in
              (d, own.1, own.2, (d.right.0, d.left.0, subst (λ (y : ℕ). inside y ≡ true) (sym one) from.1, inr (refl, refl), sym own.2.right ∙ q.1, sym own.2.left ∙ q.0))
        ]

    inner_region : IsRegion k.circuit (phase_at k.rules phase) setting region base s.reading
    inner_region = record {
      plain = λ n r. let from = of_image cell at inside n r in subst (IsPlain k.circuit) from.2 (placed.plain from.0 (plain_in from.0 from.1));
      gates = λ n m d r a j. inl (gate_is k.circuit region d n m r a j);
      bounded = λ n m e t r a j it has on.
          let own = near e n m r a (turned e m n j) in
          let d : Device = own.0 in
          let gate : t.reading (at d.gate.0) ≡ s.reading (at d.gate.0) =
          ap t.reading (sym own.2.gate) ∙ has e.gate.0 (gate_is k.circuit region e n m r a j) ∙ ap s.reading own.2.gate in
          let bit : t.reading (at d.gate.0) ≡ reading d.gate.0 = gate ∙ sym (same own.3.0 own.3.1 d own.3.2 own.1 own.3.3) in
          let conducting : conducts reading d ≡ true = subst (λ (v : Bool). conducts_at d.kind v ≡ true) bit (sym (image_conducts t at d e own.2) ∙ on) in
          elim (shut.joined own.3.0 own.3.1 d own.3.2 own.1 own.3.3 conducting) [
            | inl ins ↦ inl (in_image cell at inside own.3.1 m (plain_in own.3.1 ins) ins own.3.5)
            | inr f ↦ elim (placed.channels d own.3.1 (device_among true cell d own.1).0 (touched d own.3.0 own.3.1 own.3.3)) [
              | inl plain ↦ absurd (plain_not_given cell own.3.1 f.1.0 plain f.1.1 (fixed_given (phase_at k.rules phase) f.1.0.kind f.0 f.1.2))
              | inr supply ↦
                  let up = placed.supplies own.3.1 supply.0 supply.1 in
                  inr (subst (IsGivenNet k.circuit) own.3.5 (up.0, up.1, supply_given k.circuit (at own.3.1) supply.0 up))
            ]
          ];
      pins = λ t u it iu ht hu j out e r.
          let from = of_image cell at inside out.pin.net.0 r in
          absurd (hidden from.0 from.1 (placed.pins out from.0 (j, e) (plain_in from.0 from.1) (sym from.2)).0);
    }

    not_driven : (w : Whole) (pin : WholePin) → Among k.circuit.wholes w → Among w.outputs pin → region pin.net.0 ≡ true → ⊥
    not_driven w pin m e r = let from = of_image cell at inside pin.net.0 r in no_pin w pin from.0 m e (plain_in from.0 from.1) (hidden from.0 from.1) (sym from.2)

    inner_backed : IsBacked k originals phase s region base
    inner_backed = record {
      linked = λ w j pin input m e r mi link seen. absurd (not_driven w pin m (j, e) r);
      named = λ w pin i n m e r mi of there. absurd (not_driven w pin m e r);
      unbroken = λ w pin i m e r mi of broken. not_driven w pin m e r;
    }

    -- so its nets are settled, where the gates of its devices are, and show their bits
    pub inner_settled :
        ((m l : ℕ) (d : Device) → inside m ≡ true → Among (devices_of true cell) d → Joins d m l
        → ShowsOwnBit k phase setting s (at d.gate.0) × IsSettled k originals phase setting s (at d.gate.0))
        → (n : ℕ) → inside n ≡ true → IsSettled k originals phase setting s (at n)
    inner_settled gates n ins =
        within region base inner_region inner_backed (in_image cell at inside n (at n) (plain_in n ins) ins refl) (λ m b. (ready m b).0) (λ m b. (ready m b).1)
        (λ m l f. not_driven l.0 l.2 l.4 (l.1, l.5) l.6) (λ m l. absurd (not_driven l.0 l.2 l.4 (l.1, l.5) l.6))
      where
        ready : (m : ℕ) → base m ≡ true → ShowsOwnBit k phase setting s m × IsSettled k originals phase setting s m
        ready m b =
            let gate = gate_of k.circuit region m b in
            let own = near gate.0 gate.3.0 gate.3.1 gate.3.2 gate.1 gate.3.3 in
            subst (λ (y : ℕ). ShowsOwnBit k phase setting s y × IsSettled k originals phase setting s y) (sym own.2.gate ∙ gate.2) (gates own.3.0 own.3.1 own.0 own.3.2 own.1 own.3.3)
