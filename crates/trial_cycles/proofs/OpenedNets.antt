-- A cell in a circuit, and the circuit in which it is whole: what is known in the cell, and what is known with it whole, is known with it
-- opened.
use Rattle.std.proofs.Common.{◌≡◌, ◌⊎◌, ℕ, ◌&&◌, Bool, true, false, List, map, Option, ap, subst, sym, refl, ◌∙◌, inl, inr}
use Rattle.std.specs.Prelude.{unwrap_or, ◌==◌}
use Rattle.std.specs.List.{list_any}
use Rattle.std.proofs.lemmas.Bool.{and_from, and_parts, cases_Bool, eq-eqb, eqb-true}
use Rattle.cell_inside.proofs.Copies.{touched}
use Rattle.cell_inside.proofs.Images.{image_conducts, image_in}
use Rattle.cell_inside.proofs.NetKinds.{plain_not_given, supply_given}
use Rattle.cell_inside.specs.Inside.{Touches}
use Rattle.cell_inside.specs.LeftWhole.{IsLeftDevice, IsLeftWhole}
use Rattle.cell_inside.specs.Placed.{IsImage, IsPlaced, IsSupply}
use Rattle.known_nets.specs.Wired.{IsWired}
use Rattle.told_circuits.proofs.GreatestShut.{bits_of, bits_read, plain_listed, plain_nets}
use Rattle.told_circuits.proofs.ToldLaws.{known_nets_have_table}
use Rattle.vrt_model.proofs.Filtered.{among_devices, device_among}
use Rattle.vrt_model.proofs.Laws.{turned}
use Rattle.vrt_model.proofs.Lists.{map_among}
use Rattle.vrt_model.proofs.Locality.{fixed_given}
use Rattle.vrt_model.proofs.Members.{among_any, among_flat_map, among_map, any_among, flat_map_among}
use Rattle.vrt_model.specs.Known.{HasFixedBit, IsDriven, IsFixed, IsHeld, IsKnown, IsPlain, IsShut, IsTogether, fixed, settled}
use Rattle.vrt_model.specs.Lists.{Among, At}
use Rattle.vrt_model.specs.Networks.{HasRanges}
use Rattle.vrt_model.specs.Path.{Joins}
use Rattle.vrt_model.specs.Reading.{IsReading, conducts, conducts_at, devices_of}
use Rattle.vrt_model.specs.Response.{IsResponse, Shows}
use Rattle.vrt_model.specs.State.{OutputPin, State, network_of, output_pins}
use Rattle.vrt_model.specs.declared.circuit.Circuit.{Circuit}
use Rattle.vrt_model.specs.declared.circuit.Device.{Device}
use Rattle.vrt_model.specs.declared.circuit.FlatNet.{FlatNet}
use Rattle.vrt_model.specs.declared.circuit.NetKind.{NetKind}
use Rattle.vrt_model.specs.declared.rules.Phase.{Phase}
use Rattle.vrt_model.specs.declared.whole.Whole.{Whole}
use Rattle.vrt_model.specs.declared.whole.WholePin.{WholePin}
use Rattle.trial_cycles.proofs.SharedSets.{AreImages, HasImages, image_joined, image_joins, responds_there}
use Rattle.whole_solutions.proofs.SettledSets.{set_responds, supply_bit}
use Rattle.whole_solutions.specs.KnownInside.{AreExposedUnsettled}

-- The cell stands in the one circuit and is whole in the other, over the same nets. What is hidden is a plain net of the cell; where it remains, the
-- whole instance drives it. Exposed nets are in no set that is settled in the cell, and none is in one part of it with another net that remains.
pub record IsOpenedIn (cell low high : Circuit) (phase : Phase) (at place fresh : ℕ → ℕ) (remaining compared exposed : ℕ → Bool) (drive : ℕ → ℕ) : Type 0 where
  pub ranges : HasRanges cell
  pub wired : IsWired low
  pub whole_wired : IsWired high
  pub placed : IsPlaced cell low at exposed drive
  pub whole : IsLeftWhole cell low high at (λ n. n) place fresh remaining compared exposed drive
  pub nets : high.nets ≡ low.nets
  pub hidden : (n : ℕ) → compared n ≡ false → (m : ℕ) × (n ≡ at m) × IsPlain cell m
  pub driven : (m : ℕ) → IsPlain cell m → remaining (at m) ≡ true → IsDriven high (at m)
  pub unsettled : AreExposedUnsettled cell phase exposed
  pub alone : (m n : ℕ) → exposed m ≡ true → IsPlain cell n → remaining (at n) ≡ true → IsTogether cell phase true m n → m ≡ n

-- a supply has its bit
pub supply_fixed : (c : Circuit) (phase : Phase) (n : ℕ) (value : Bool) → IsSupply c n value → IsFixed c phase n value
supply_fixed c phase n value s = (s.0, s.1, subst (λ (k : NetKind). HasFixedBit phase k value) (sym s.2) refl)

-- an output pin of a driven net
pub pin_of_driven : (c : Circuit) (n : ℕ) → IsDriven c n → (out : OutputPin) × Among (output_pins c) out × (out.pin.net.0 ≡ n)
pin_of_driven c n d =
    let make : Whole → WholePin → OutputPin = λ w pin. record { whole = w; pin = pin } in
    (make d.0 d.1, flat_map_among (λ (w : Whole). map (make w) w.outputs) c.wholes d.0 (make d.0 d.1) d.2 (map_among (make d.0) d.0.outputs d.1 d.3), d.4)

-- and back
pub driven_by_pin : (c : Circuit) (n : ℕ) (out : OutputPin) → Among (output_pins c) out → out.pin.net.0 ≡ n → IsDriven c n
driven_by_pin c n out m e =
    let make : Whole → WholePin → OutputPin = λ w pin. record { whole = w; pin = pin } in
    let from = among_flat_map (λ (w : Whole). map (make w) w.outputs) c.wholes out m in
    let pin = among_map (make from.0) from.0.outputs out from.2 in
    (from.0, pin.0, from.1, pin.1, ap (λ (x : OutputPin). x.pin.net.0) pin.2 ∙ e)

module _ (cell low high : Circuit) (phase : Phase) (at place fresh : ℕ → ℕ) (remaining compared exposed : ℕ → Bool) (drive : ℕ → ℕ)
    (o : IsOpenedIn cell low high phase at place fresh remaining compared exposed drive) where
  pub plain_up : (n : ℕ) → IsPlain low n → IsPlain high n
  plain_up n p = (p.0, subst (λ (ns : List FlatNet). At ns n p.0) (sym o.nets) p.1, p.2)

  plain_down : (n : ℕ) → IsPlain high n → IsPlain low n
  plain_down n p = (p.0, subst (λ (ns : List FlatNet). At ns n p.0) o.nets p.1, p.2)

  fixed_down : (n : ℕ) (v : Bool) → IsFixed high phase n v → IsFixed low phase n v
  fixed_down n v f = (f.0, subst (λ (ns : List FlatNet). At ns n f.0) o.nets f.1, f.2)

  -- ---- devices of the cell

  -- the end of a device of the cell is plain where it is at a plain net
  pub end_plain : (d : Device) (x n : ℕ) → Among cell.devices d → Touches d x → at x ≡ n → IsPlain low n → IsPlain cell x
  end_plain d x n m t e plain =
      elim (o.placed.channels d x m t) [
        | inl p ↦ p
        | inr s ↦
            let up = o.placed.supplies x s.0 s.1 in
            absurd (plain_not_given low (at x) up.0 (subst (IsPlain low) (sym e) plain) up.1 (supply_given low (at x) s.0 up))
      ]

  -- it is apart from the other plain nets, but for exposed ones
  one_net : (d : Device) (x m : ℕ) → Among cell.devices d → Touches d x → IsPlain cell m → at x ≡ at m → (x ≡ m) ⊎ (exposed m ≡ true)
  one_net d x m a t plain e =
      elim (o.placed.apart x m (end_plain d x (at m) a t e (o.placed.plain m plain)) plain e) [
        | inl same ↦ inl same
        | inr both ↦ inr both.1
      ]

  -- a device of the circuit is one of the cell, which joins a net of it to another
  abbrev pub IsOwnJoin : Device → ℕ → ℕ → Type 0
  IsOwnJoin e n l = (d : Device) × Among (devices_of true cell) d × IsImage at d e × ((k : ℕ) × (l ≡ at k) × Joins d n k)

  -- a device at a plain net of the cell is the cell's, and joins there what it joins in the cell; or the net is exposed
  pub own_device : (e : Device) (n l : ℕ) → Among (devices_of true low) e → IsPlain cell n → Joins e (at n) l → IsOwnJoin e n l ⊎ (exposed n ≡ true)
  own_device e n l m plain j =
      let listed = device_among true low e m in
      elim (o.placed.others e n listed.0 plain (touched e l (at n) (turned e (at n) l j))) [
        | inr met ↦ inr met.0
        | inl own ↦ joined own.0 own.1 own.2 (among_devices true cell own.0 own.1 (sym (image_in true at own.0 e own.2) ∙ listed.1)) j
      ]
    where
      joined : (d : Device) → Among cell.devices d → IsImage at d e → Among (devices_of true cell) d → Joins e (at n) l → IsOwnJoin e n l ⊎ (exposed n ≡ true)
      joined d a image on (inl i) =
          elim (one_net d d.left.0 n a (inl refl) plain (sym image.left ∙ i.0)) [
            | inl same ↦ inl (d, on, image, (d.right.0, sym i.1 ∙ image.right, inl (same, refl)))
            | inr out ↦ inr out
          ]
      joined d a image on (inr i) =
          elim (one_net d d.right.0 n a (inr refl) plain (sym image.right ∙ i.1)) [
            | inl same ↦ inl (d, on, image, (d.left.0, sym i.0 ∙ image.left, inr (refl, same)))
            | inr out ↦ inr out
          ]

  -- ---- what is known in the cell

  abbrev table : ℕ → Option Bool
  table = (known_nets_have_table low phase o.wired).0

  abbrev bits : ℕ → Bool
  bits n = bits_of table n

  bit_known : (n : ℕ) (v : Bool) → IsKnown low phase n v → bits n ≡ v
  bit_known n v known = ap (λ (x : Option Bool). unwrap_or x false) (((known_nets_have_table low phase o.wired).1 n v).1 known)

  reads : IsReading low phase bits bits
  reads = bits_read low phase table (λ n v f. ((known_nets_have_table low phase o.wired).1 n v).1 (fixed f))

  -- the nets at which those of a set are
  abbrev above : (ℕ → Bool) → ℕ → Bool
  above inside k = list_any (λ (m : ℕ). inside m && (at m == k)) (plain_nets cell)

  of_above : (inside : ℕ → Bool) (k : ℕ) → above inside k ≡ true → (m : ℕ) × (inside m ≡ true) × (at m ≡ k)
  of_above inside k e =
      let found = any_among (λ (m : ℕ). inside m && (at m == k)) (plain_nets cell) e in
      let both = and_parts (inside found.0) (at found.0 == k) found.2 in
      (found.0, both.0, eqb-true (at found.0) k both.1)

  is_above : (inside : ℕ → Bool) (m k : ℕ) → IsPlain cell m → inside m ≡ true → at m ≡ k → above inside k ≡ true
  is_above inside m k plain ins e =
      among_any (λ (x : ℕ). inside x && (at x == k)) (plain_nets cell) m ((plain_listed cell m).1 plain) (and_from (inside m) (at m == k) ins (eq-eqb (at m) k e))

  module _ (inside reading : ℕ → Bool) (shut : IsShut cell phase inside reading) (own : IsReading cell phase reading reading) (apart : (n : ℕ) → inside n ≡ true → exposed n ≡ true → ⊥)
      (gates : (m l : ℕ) (d : Device) → inside m ≡ true → Among (devices_of true cell) d → Joins d m l → IsKnown low phase (at d.gate.0) (reading d.gate.0)) where
    plain_in : (m : ℕ) → inside m ≡ true → IsPlain cell m
    plain_in m ins = (shut.plain m ins).0

    gate_bit : (m l : ℕ) (d : Device) → inside m ≡ true → Among (devices_of true cell) d → Joins d m l → reading d.gate.0 ≡ bits (at d.gate.0)
    gate_bit m l d ins a j = sym (bit_known (at d.gate.0) (reading d.gate.0) (gates m l d ins a j))

    -- a device at such a net
    record IsFound (e : Device) (k l : ℕ) : Type 0 where
      net : ℕ
      far : ℕ
      device : Device
      ins : inside net ≡ true
      listed : Among (devices_of true cell) device
      image : IsImage at device e
      there : l ≡ at far
      joins : Joins device net far

    found_at : (e : Device) (k l : ℕ) → above inside k ≡ true → Among (devices_of true low) e → Joins e k l → IsFound e k l
    found_at e k l i a j =
        let m = of_above inside k i in
        elim (own_device e m.0 l a (plain_in m.0 m.1) (subst (λ (x : ℕ). Joins e x l) (sym m.2) j)) [
          | inl d ↦ record { net = m.0; far = d.3.0; device = d.0; ins = m.1; listed = d.1; image = d.2; there = d.3.1; joins = d.3.2 }
          | inr out ↦ absurd (apart m.0 m.1 out)
        ]

    conducts_in : (e : Device) (k l : ℕ) (f : IsFound e k l) → conducts bits e ≡ true → conducts reading f.device ≡ true
    conducts_in e k l f on =
        let s : State = record { reading = bits; driven = λ j. false } in
        subst (λ (b : Bool). conducts_at f.device.kind b ≡ true) (sym (gate_bit f.net f.far f.device f.ins f.listed f.joins)) (sym (image_conducts s at f.device e f.image) ∙ on)

    joined_above : (k l : ℕ) (e : Device) → above inside k ≡ true → Among (devices_of true low) e → Joins e k l → conducts bits e ≡ true
        → (above inside l ≡ true) ⊎ ((v : Bool) × IsFixed low phase l v)
    joined_above k l e i a j on =
        let f = found_at e k l i a j in
        elim (shut.joined f.net f.far f.device f.ins f.listed f.joins (conducts_in e k l f on)) [
          | inl ins ↦ inl (is_above inside f.far l (plain_in f.far ins) ins (sym f.there))
          | inr is ↦ elim (o.placed.channels f.device f.far (device_among true cell f.device f.listed).0 (touched f.device f.net f.far f.joins)) [
            | inl plain ↦ absurd (plain_not_given cell f.far is.1.0 plain is.1.1 (fixed_given phase is.1.0.kind is.0 is.1.2))
            | inr supply ↦ inr (supply.0, subst (λ (x : ℕ). IsFixed low phase x supply.0) (sym f.there) (supply_fixed low phase (at f.far) supply.0 (o.placed.supplies f.far supply.0 supply.1)))
          ]
        ]

    not_driven : (m : ℕ) → inside m ≡ true → IsDriven low (at m) → ⊥
    not_driven m ins d =
        let out = pin_of_driven low (at m) d in
        apart m ins (o.placed.pins out.0 m out.1 (plain_in m ins) out.2).0

    set_above : IsShut low phase (above inside) bits
    set_above = record {
      plain = λ k i.
          (let m = of_above inside k i in
          let plain = plain_in m.0 m.1 in (
            subst (IsPlain low) m.2 (o.placed.plain m.0 plain),
            λ h. o.placed.unheld m.0 plain (subst (IsHeld low) (sym m.2) h),
            λ d. not_driven m.0 m.1 (subst (IsDriven low) (sym m.2) d),
          ));
      joined = joined_above;
    }

    gate_above : (k l : ℕ) (e : Device) → above inside k ≡ true → Among (devices_of true low) e → Joins e k l → IsKnown low phase e.gate.0 (bits e.gate.0)
    gate_above k l e i a j =
        let f = found_at e k l i a j in
        let known : IsKnown low phase (at f.device.gate.0) (bits (at f.device.gate.0)) =
        subst (IsKnown low phase (at f.device.gate.0)) (gate_bit f.net f.far f.device f.ins f.listed f.joins) (gates f.net f.far f.device f.ins f.listed f.joins) in
        subst (λ (x : ℕ). IsKnown low phase x (bits x)) (sym f.image.gate) known

    known_set : (held driven : ℕ → Bool) (n : ℕ) (v : Bool) → inside n ≡ true
        → IsResponse (network_of cell true held (record { reading = reading; driven = driven })) n (Shows v) → IsKnown low phase (at n) v
    known_set held driven n v ins shows =
        settled (above inside) bits (λ j. false) (λ j. false) set_above (is_above inside n (at n) (plain_in n ins) ins refl) reads gate_above
        (set_responds cell low at exposed drive phase (λ j. false) (record { reading = bits; driven = λ j. false }) o.ranges o.wired.ranges o.placed
        (supply_bit low phase bits bits reads) inside reading held driven shut own apart gate_bit n (Shows v) ins shows)

  -- what is known in the cell is known with it in the circuit, where its supplies and clock ports are
  pub known_above : ((n : ℕ) (v : Bool) → IsFixed cell phase n v → IsKnown low phase (at n) v) → {n : ℕ} {v : Bool} → IsKnown cell phase n v → IsKnown low phase (at n) v
  known_above clocks {n} {v} (fixed f) = clocks n v f
  known_above clocks {n} {v} (settled inside reading held driven shut ins own gates shows) =
      known_set inside reading shut own (λ m i e. o.unsettled inside reading m (record { shut = shut; reads = own; gates = gates }) i e)
      (λ m l d i a j. known_above clocks (gates m l d i a j)) held driven n v ins shows

  -- ---- what is known with the cell whole

  -- a driven net is not known
  driven_unknown : {n : ℕ} {v : Bool} → IsPlain high n → IsDriven high n → IsKnown high phase n v → ⊥
  driven_unknown {n} {v} plain driven (fixed f) = plain_not_given high n f.0 plain f.1 (fixed_given phase f.0.kind v f.2)
  driven_unknown {n} {v} plain driven (settled inside reading held d shut ins own gates shows) = (shut.plain n ins).2 driven

  -- so none that is hidden but remains
  pub hidden_unknown : (n : ℕ) (v : Bool) → remaining n ≡ true → compared n ≡ false → IsKnown high phase n v → ⊥
  hidden_unknown n v stays gone known =
      let m = o.hidden n gone in
      driven_unknown (subst (IsPlain high) (sym m.1) (plain_up (at m.0) (o.placed.plain m.0 m.2)))
      (subst (IsDriven high) (sym m.1) (o.driven m.0 m.2 (subst (λ (x : ℕ). remaining x ≡ true) m.1 stays))) known

  -- the whole instance drives exposed nets
  exposed_driven : (n : ℕ) → exposed n ≡ true → IsDriven high (at n)
  exposed_driven n e = o.driven n (o.placed.exposed_plain n e) (o.whole.compared_remaining (at n) (o.whole.exposed_compared n e))

  -- a device of the circuit stays
  abbrev pub IsLeft : Device → Type 0
  IsLeft e = (f : Device) × Among (devices_of true high) f × IsLeftDevice (λ n. n) remaining compared e f

  -- a device of the circuit is one of the cell, which joins an exposed net of it to another
  abbrev pub IsExposedJoin : Device → ℕ → ℕ → Type 0
  IsExposedJoin e k l = (n : ℕ) × (k ≡ at n) × (exposed n ≡ true) × IsOwnJoin e n l

  -- a device at a compared net is one of the two
  pub outer_device : (e : Device) (k l : ℕ) → Among (devices_of true low) e → Joins e k l → compared k ≡ true → IsPlain low k → IsLeft e ⊎ IsExposedJoin e k l
  outer_device e k l m j c plain =
      let listed = device_among true low e m in
      elim (o.whole.devices e listed.0) [
        | inr left ↦ inl (left.0, among_devices true high left.0 left.1 (image_in true (λ n. n) e left.0 left.2.image ∙ listed.1), left.2)
        | inl own ↦ inr (joined own.0 own.1 own.2 (among_devices true cell own.0 own.1 (sym (image_in true at own.0 e own.2) ∙ listed.1)) j)
      ]
    where
      is_exposed : (d : Device) (x : ℕ) → Among cell.devices d → Touches d x → at x ≡ k → exposed x ≡ true
      is_exposed d x a touch e = o.whole.inside_compared x (end_plain d x k a touch e plain) (subst (λ (y : ℕ). compared y ≡ true) (sym e) c)

      joined : (d : Device) → Among cell.devices d → IsImage at d e → Among (devices_of true cell) d → Joins e k l → IsExposedJoin e k l
      joined d a image on (inl i) =
          let here = sym image.left ∙ i.0 in
          (d.left.0, sym here, is_exposed d d.left.0 a (inl refl) here, (d, on, image, (d.right.0, sym i.1 ∙ image.right, inl (refl, refl))))
      joined d a image on (inr i) =
          let here = sym image.right ∙ i.1 in
          (d.right.0, sym here, is_exposed d d.right.0 a (inr refl) here, (d, on, image, (d.left.0, sym i.0 ∙ image.left, inr (refl, refl))))

  -- its gate is known with the cell opened, if it is with the cell whole
  pub gate_below : (e f : Device) (v : Bool) → IsLeftDevice (λ n. n) remaining compared e f → IsKnown high phase f.gate.0 v
      → (compared f.gate.0 ≡ true → IsKnown low phase f.gate.0 v) → IsKnown low phase e.gate.0 v
  gate_below e f v left known below =
      elim (cases_Bool (compared f.gate.0)) [
        | inl c ↦ subst (λ (x : ℕ). IsKnown low phase x v) left.image.gate (below c)
        | inr gone ↦ absurd (hidden_unknown f.gate.0 v (subst (λ (x : ℕ). remaining x ≡ true) (sym left.image.gate) left.gate) gone known)
      ]

  module _ (set reading : ℕ → Bool) (shut : IsShut high phase set reading) (own : IsReading high phase reading reading)
      (gates : (m l : ℕ) (e f : Device) → set m ≡ true → Among (devices_of true high) f → Joins f m l → IsLeftDevice (λ n. n) remaining compared e f
      → IsKnown low phase e.gate.0 (reading f.gate.0)) where
    -- what of the set is compared
    abbrev kept : ℕ → Bool
    kept n = set n && compared n

    reads_below : IsReading low phase reading reading
    reads_below n net e = own n net (subst (λ (ns : List FlatNet). At ns n net) (sym o.nets) e)

    plain_kept : (n : ℕ) → kept n ≡ true → IsPlain low n
    plain_kept n i = plain_down n (shut.plain n (and_parts (set n) (compared n) i).0).0

    held_up : (n : ℕ) → IsHeld low n → IsHeld high n
    held_up n h =
        let g = o.whole.holds h.1.0 h.0 h.1.1 in
        (g.0, (h.1.0, g.1), g.2.net ∙ h.2)

    driven_up : (n : ℕ) → IsDriven low n → IsDriven high n
    driven_up n d =
        let out = pin_of_driven low n d in
        let pin = o.whole.pins out.1.0 out.0 out.1.1 in
        driven_by_pin high n pin.0 (place out.1.0, pin.1) (pin.2.net ∙ out.2)

    -- a device at one of them stays
    kept_device : (n m : ℕ) (e : Device) → kept n ≡ true → Among (devices_of true low) e → Joins e n m → IsLeft e
    kept_device n m e i a j =
        let both = and_parts (set n) (compared n) i in
        elim (outer_device e n m a j both.1 (plain_kept n i)) [
          | inl left ↦ left
          | inr out ↦ absurd ((shut.plain n both.0).2 (subst (IsDriven high) (sym out.1) (exposed_driven out.0 out.2)))
        ]

    joined_below : (n m : ℕ) (e : Device) → kept n ≡ true → Among (devices_of true low) e → Joins e n m → conducts reading e ≡ true
        → (kept m ≡ true) ⊎ ((v : Bool) × IsFixed low phase m v)
    joined_below n m e i a j on =
        let f = kept_device n m e i a j in
        let s : State = record { reading = reading; driven = λ x. false } in
        elim (shut.joined n m f.0 (and_parts (set n) (compared n) i).0 f.1 (image_joins e f.0 n m f.2.image j) (image_conducts s (λ x. x) e f.0 f.2.image ∙ on)) [
          | inl ins ↦ inl (and_from (set m) (compared m) ins (f.2.channels m (touched e n m j)))
          | inr is ↦ inr (is.0, fixed_down m is.0 is.1)
        ]

    set_below : IsShut low phase kept reading
    set_below = record {
      plain = λ n i.
          (let p = shut.plain n (and_parts (set n) (compared n) i).0 in
          (plain_kept n i, λ h. p.1 (held_up n h), λ d. p.2 (driven_up n d)));
      joined = joined_below;
    }

    gate_known : (n m : ℕ) (e : Device) → kept n ≡ true → Among (devices_of true low) e → Joins e n m → IsKnown low phase e.gate.0 (reading e.gate.0)
    gate_known n m e i a j =
        let f = kept_device n m e i a j in
        subst (λ (x : ℕ). IsKnown low phase e.gate.0 (reading x)) f.2.image.gate
        (gates n m e f.0 (and_parts (set n) (compared n) i).0 f.1 (image_joins e f.0 n m f.2.image j) f.2)

    set_kept : IsShut high phase kept reading
    set_kept = record {
      plain = λ n i. shut.plain n (and_parts (set n) (compared n) i).0;
      joined = λ n m f i a j on.
          (let both = and_parts (set n) (compared n) i in
          let e = o.whole.devices_back f (device_among true high f a).0 in
          elim (shut.joined n m f both.0 a j on) [
            | inl ins ↦ inl (and_from (set m) (compared m) ins (e.2.channels m (touched e.0 n m (image_joined e.0 f n m e.2.image j))))
            | inr is ↦ inr is
          ]);
    }

    -- they are the same in both circuits
    left_image : (e f : Device) → IsImage (λ x. x) e f → IsImage (λ x. x) f e
    left_image e f i = record { kind = sym i.kind; gate = sym i.gate; left = sym i.left; right = sym i.right; level = sym i.level; keeper = sym i.keeper }

    images : HasImages high low kept
    images n m f i a j =
        let listed = device_among true high f a in
        let e = o.whole.devices_back f listed.0 in
        (e.0, among_devices true low e.0 e.1 (sym (image_in true (λ x. x) e.0 f e.2.image) ∙ listed.1), left_image e.0 f e.2.image)

    images_alone : AreImages high low kept
    images_alone n m e i a j = let f = kept_device n m e i a j in (f.0, f.1, left_image e f.0 f.2.image)

    known_kept : (held driven : ℕ → Bool) (n : ℕ) (v : Bool) → set n ≡ true → compared n ≡ true
        → IsResponse (network_of high true held (record { reading = reading; driven = driven })) n (Shows v) → IsKnown low phase n v
    known_kept held driven n v ins c shows =
        let here = and_from (set n) (compared n) ins c in
        settled kept reading held driven set_below here reads_below gate_known
        (responds_there high low phase o.whole_wired o.wired (sym o.whole.source) kept reading set_kept set_below own reads_below (λ m u f. fixed_down m u f) images images_alone held held driven driven n (Shows v) here shows)

  -- a compared net that is known with the cell whole is known with it opened
  pub known_below : {n : ℕ} {v : Bool} → IsKnown high phase n v → compared n ≡ true → IsKnown low phase n v
  known_below {n} {v} (fixed f) c = fixed (fixed_down n v f)
  known_below {n} {v} (settled set reading held driven shut ins own gates shows) c =
      known_kept set reading shut own
      (λ m l e f i a j left. gate_below e f (reading f.gate.0) left (gates m l f i a j) (λ there. known_below (gates m l f i a j) there))
      held driven n v ins c shows

  -- so is one that remains
  pub known_stays : (n : ℕ) (v : Bool) → remaining n ≡ true → IsKnown high phase n v → IsKnown low phase n v
  known_stays n v there known =
      elim (cases_Bool (compared n)) [
        | inl c ↦ known_below known c
        | inr gone ↦ absurd (hidden_unknown n v there gone known)
      ]
