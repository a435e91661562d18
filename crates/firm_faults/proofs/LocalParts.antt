-- A region of the circuit with a cell whole, with the parts of the cell's exposed outputs in it: conducting devices of the circuit with the cell
-- in it lead out of the two to given nets alone.
use Rattle.std.proofs.Common.{◌≡◌, ◌⊎◌, ℕ, ◌&&◌, ◌||◌, Bool, true, false, ap, subst, sym, refl, ◌∙◌, inl, inr}
use Rattle.std.proofs.lemmas.Bool.{and_from, and_parts, or_cases, or_left, or_right}
use Rattle.cell_inside.proofs.Copies.{joined, touched, touched_from}
use Rattle.cell_inside.proofs.Images.{image_conducts, image_in}
use Rattle.cell_inside.proofs.NetKinds.{plain_not_given, supply_given}
use Rattle.cell_inside.specs.Inside.{Touches}
use Rattle.cell_inside.specs.LeftWhole.{IsLeftDevice, IsLeftWhole}
use Rattle.cell_inside.specs.Placed.{IsImage, IsPlaced, IsSupply}
use Rattle.cell_inside.specs.Regions.{IsGivenNet}
use Rattle.cell_inside.specs.Replaced.{IsJoined, itself, onward}
use Rattle.firm_faults.proofs.InnerRegions.{image, in_image, of_image}
use Rattle.firm_faults.proofs.Restricted.{restricted}
use Rattle.vrt_model.proofs.Filtered.{among_devices, device_among}
use Rattle.vrt_model.specs.Known.{IsPlain}
use Rattle.vrt_model.specs.Lists.{Among}
use Rattle.vrt_model.specs.Path.{Joins, Network}
use Rattle.vrt_model.specs.Reading.{conducts, conducts_at, devices_of, is_given}
use Rattle.vrt_model.specs.State.{State, network_of}
use Rattle.vrt_model.specs.declared.circuit.Circuit.{Circuit}
use Rattle.vrt_model.specs.declared.circuit.Device.{Device}

-- ---- the region and the set

-- A region of the circuit with the cell whole, in its state t, and a set of the cell's nets, which holds the cell's exposed outputs that are
-- in the region: conducting devices lead out of the two to given nets alone. The cell has its own bits; at the gates at the set the state s
-- of the circuit has them too.
pub record IsLocalPart (cell c rest : Circuit) (at : ℕ → ℕ) (remaining exposed : ℕ → Bool) (s t : State) (region inner bits : ℕ → Bool) : Type 0 where
  pub reading : (n : ℕ) → remaining n ≡ true → t.reading n ≡ s.reading n
  pub plain : (n : ℕ) → region n ≡ true → IsPlain c n
  pub bounded :
      (n m : ℕ) (f : Device) → region n ≡ true → Among (devices_of true rest) f → Joins f m n → conducts t.reading f ≡ true → (region m ≡ true) ⊎ IsGivenNet rest m
  pub inner_plain : (n : ℕ) → inner n ≡ true → IsPlain cell n
  pub joined :
      (n m : ℕ) (d : Device) → inner n ≡ true → Among (devices_of true cell) d → Joins d n m → conducts bits d ≡ true
      → (inner m ≡ true) ⊎ ((value : Bool) × IsSupply cell m value)
  pub exposed_there : (n : ℕ) → inner n ≡ true → exposed n ≡ true → region (at n) ≡ true
  pub exposed_inner : (n : ℕ) → exposed n ≡ true → region (at n) ≡ true → inner n ≡ true
  pub gates : (n m : ℕ) (d : Device) → inner n ≡ true → Among (devices_of true cell) d → Joins d n m → bits d.gate.0 ≡ s.reading (at d.gate.0)

-- the cell alone with its bits, and with the devices at a set of its nets alone
abbrev pub cell_alone : Circuit → (ℕ → Bool) → Network
cell_alone cell bits = network_of cell true (λ j. false) (record { reading = bits; driven = λ j. false })

abbrev pub cell_part : Circuit → (ℕ → Bool) → (ℕ → Bool) → Network
cell_part cell inner bits = restricted (cell_alone cell bits) (λ d. inner d.left.0 || inner d.right.0)

-- the net from which others are joined is in the set
pub joined_from : (w : Network) (inside : ℕ → Bool) (m n : ℕ) → IsJoined w inside m n → inside m ≡ true
joined_from w inside m n (itself ins) = ins
joined_from w inside m n (onward {l = l} d before on j ins) = joined_from w inside m l before

-- a device with an end in a set
pub end_in : (set : ℕ → Bool) (d : Device) (n : ℕ) → Touches d n → set n ≡ true → (set d.left.0 || set d.right.0) ≡ true
end_in set d n (inl e) ins = or_left (set d.left.0) (set d.right.0) (subst (λ (x : ℕ). set x ≡ true) (sym e) ins)
end_in set d n (inr e) ins = or_right (set d.left.0) (set d.right.0) (subst (λ (x : ℕ). set x ≡ true) (sym e) ins)

pub in_end : (set : ℕ → Bool) (d : Device) → (set d.left.0 || set d.right.0) ≡ true → (n : ℕ) × (m : ℕ) × (set n ≡ true) × Joins d n m
in_end set d e =
    elim (or_cases (set d.left.0) (set d.right.0) e) [
      | inl l ↦ (d.left.0, d.right.0, l, inl (refl, refl))
      | inr r ↦ (d.right.0, d.left.0, r, inr (refl, refl))
    ]

-- an end of a device is the one that it joins, or the other one
pub other_end : (d : Device) (n m k : ℕ) → Joins d n m → Touches d k → (k ≡ n) ⊎ (k ≡ m)
other_end d n m k (inl j) (inl t) = inl (sym t ∙ j.0)
other_end d n m k (inl j) (inr t) = inr (sym t ∙ j.1)
other_end d n m k (inr j) (inl t) = inr (sym t ∙ j.0)
other_end d n m k (inr j) (inr t) = inl (sym t ∙ j.1)

module _ (cell c rest : Circuit) (at place fresh : ℕ → ℕ) (remaining compared exposed : ℕ → Bool) (drive : ℕ → ℕ) (placed : IsPlaced cell c at exposed drive)
    (left : IsLeftWhole cell c rest at (λ n. n) place fresh remaining compared exposed drive) (s t : State) (region inner bits : ℕ → Bool)
    (p : IsLocalPart cell c rest at remaining exposed s t region inner bits) where
  -- the cell alone, with its bits
  abbrev pub cell_network : Network
  cell_network = cell_alone cell bits

  -- a device of the cell at a net of the set, and the cell with these devices alone
  abbrev pub near : Device → Bool
  near d = inner d.left.0 || inner d.right.0

  abbrev pub part : Network
  part = cell_part cell inner bits

  -- what of the region is compared, with the nets at which the set is
  abbrev pub joint : ℕ → Bool
  joint n = (region n && compared n) || image cell at inner n

  pub of_joint : (n : ℕ) → joint n ≡ true → ((region n ≡ true) × (compared n ≡ true)) ⊎ ((m : ℕ) × (inner m ≡ true) × (at m ≡ n))
  of_joint n e =
      elim (or_cases (region n && compared n) (image cell at inner n) e) [
        | inl l ↦ inl (and_parts (region n) (compared n) l)
        | inr i ↦ inr (of_image cell at inner n i)
      ]

  pub region_joint : (n : ℕ) → region n ≡ true → compared n ≡ true → joint n ≡ true
  region_joint n ins co = or_left (region n && compared n) (image cell at inner n) (and_from (region n) (compared n) ins co)

  pub inner_joint : (m n : ℕ) → inner m ≡ true → at m ≡ n → joint n ≡ true
  inner_joint m n ins e = or_right (region n && compared n) (image cell at inner n) (in_image cell at inner m n (p.inner_plain m ins) ins e)

  pub joint_plain : (n : ℕ) → joint n ≡ true → IsPlain c n
  joint_plain n e =
      elim (of_joint n e) [ inl out ↦ p.plain n out.0 | inr ins ↦ subst (IsPlain c) ins.2 (placed.plain ins.0 (p.inner_plain ins.0 ins.1)) ]

  pub joint_region : (n : ℕ) → joint n ≡ true → compared n ≡ true → region n ≡ true
  joint_region n e co =
      elim (of_joint n e) [
        | inl out ↦ out.0
        | inr ins ↦
            subst (λ (x : ℕ). region x ≡ true) ins.2
            (p.exposed_there ins.0 ins.1 (left.inside_compared ins.0 (p.inner_plain ins.0 ins.1) (subst (λ (x : ℕ). compared x ≡ true) (sym ins.2) co)))
      ]

  -- ---- devices

  no_supply : (m n : ℕ) (value : Bool) → IsSupply cell m value → at m ≡ n → IsPlain c n → ⊥
  no_supply m n value supply e plain =
      let up = placed.supplies m value supply in plain_not_given c (at m) up.0 (subst (IsPlain c) (sym e) plain) up.1 (supply_given c (at m) value up)

  -- a net that a device of the cell touches is the same as one of the set, or both are exposed
  pub merged : (m n : ℕ) (d : Device) → Among cell.devices d → Touches d m → IsPlain cell n → at m ≡ at n → (m ≡ n) ⊎ ((exposed m ≡ true) × (exposed n ≡ true) × (drive m ≡ drive n))
  merged m n d a touch plain e =
      elim (placed.channels d m a touch) [
        | inl also ↦ placed.apart m n also plain e
        | inr supply ↦ absurd (no_supply m (at n) supply.0 supply.1 e (placed.plain n plain))
      ]

  pub inner_too : (m n : ℕ) (d : Device) → Among cell.devices d → Touches d m → inner n ≡ true → at m ≡ at n → inner m ≡ true
  inner_too m n d a touch ins e =
      elim (merged m n d a touch (p.inner_plain n ins) e) [
        | inl one ↦ subst (λ (x : ℕ). inner x ≡ true) (sym one) ins
        | inr both ↦ p.exposed_inner m both.0 (subst (λ (x : ℕ). region x ≡ true) (sym e) (p.exposed_there n ins both.1))
      ]

  -- a device of the circuit at such a net is that of a device at the set, or it stays
  abbrev pub IsOwn : Device → Type 0
  IsOwn e = (d : Device) × Among cell.devices d × IsImage at d e × (near d ≡ true)

  abbrev pub IsStaying : Device → Type 0
  IsStaying e = (f : Device) × Among rest.devices f × IsLeftDevice (λ n. n) remaining compared e f

  pub near_end : (n : ℕ) → joint n ≡ true → (d : Device) → Among cell.devices d → (m : ℕ) → Touches d m → at m ≡ n → near d ≡ true
  near_end n ins d a m touch e =
      end_in inner d m touch (elim (of_joint n ins) [
        | inl out ↦ elim (placed.channels d m a touch) [
          | inl plain ↦ p.exposed_inner m (left.inside_compared m plain (subst (λ (x : ℕ). compared x ≡ true) (sym e) out.1)) (subst (λ (x : ℕ). region x ≡ true) (sym e) out.0)
          | inr supply ↦ absurd (no_supply m n supply.0 supply.1 e (p.plain n out.0))
        ]
        | inr own ↦ inner_too m own.0 d a touch own.1 (e ∙ sym own.2)
      ])

  pub own_or_left : (e : Device) (n : ℕ) → Among c.devices e → Touches e n → joint n ≡ true → IsOwn e ⊎ IsStaying e
  own_or_left e n a touch ins =
      elim (left.devices e a) [
        | inr stays ↦ inr stays
        | inl own ↦
            inl (
              own.0,
              own.1,
              own.2,
              elim touch [
                | inl q ↦ near_end n ins own.0 own.1 own.0.left.0 (inl refl) (sym own.2.left ∙ q)
                | inr q ↦ near_end n ins own.0 own.1 own.0.right.0 (inr refl) (sym own.2.right ∙ q)
              ],
            )
      ]

  -- at the set the cell has the bits of the circuit
  near_gate : (d : Device) → Among (devices_of true cell) d → near d ≡ true → bits d.gate.0 ≡ s.reading (at d.gate.0)
  near_gate d a e = let end = in_end inner d e in p.gates end.0 end.1 d end.2 a end.3

  pub own_conducts : (d e : Device) → IsImage at d e → Among (devices_of true cell) d → near d ≡ true → conducts s.reading e ≡ conducts bits d
  own_conducts d e i a n = image_conducts s at d e i ∙ ap (conducts_at d.kind) (sym (near_gate d a n))

  -- a conducting device at the set joins it to itself and to supplies
  pub ends : (d : Device) (n : ℕ) → Among (devices_of true cell) d → near d ≡ true → conducts bits d ≡ true → Touches d n → (inner n ≡ true) ⊎ ((value : Bool) × IsSupply cell n value)
  ends d n a e on touch =
      let end = in_end inner d e in
      elim (other_end d end.0 end.1 n end.3 touch) [
        | inl q ↦ inl (subst (λ (x : ℕ). inner x ≡ true) (sym q) end.2)
        | inr q ↦
            subst (λ (x : ℕ). (inner x ≡ true) ⊎ ((value : Bool) × IsSupply cell x value)) (sym q) (p.joined end.0 end.1 d end.2 a end.3 on)
      ]

  pub left_conducts : (e f : Device) → IsLeftDevice (λ n. n) remaining compared e f → conducts t.reading f ≡ conducts s.reading e
  left_conducts e f i =
      ap (λ k. conducts_at k (t.reading f.gate.0)) i.image.kind
      ∙ ap (λ (g : ℕ). conducts_at e.kind (t.reading g)) i.image.gate
      ∙ ap (conducts_at e.kind) (p.reading e.gate.0 i.gate)

  joins_there : (e f : Device) (m n : ℕ) → IsLeftDevice (λ y. y) remaining compared e f → Joins e m n → Joins f m n
  joins_there e f m n i (inl j) = inl (i.image.left ∙ j.0, i.image.right ∙ j.1)
  joins_there e f m n i (inr j) = inr (i.image.left ∙ j.0, i.image.right ∙ j.1)

  given_back : (n : ℕ) → compared n ≡ true → IsGivenNet rest n → IsGivenNet c n
  given_back n co g = let net = left.nets_back n g.0 (left.compared_remaining n co) g.1 in (net.0, net.1, ap is_given net.2 ∙ g.2)

  -- a device that stays leads to a net of the region or to a given one
  pub left_bounded : (n m : ℕ) (e f : Device) → region n ≡ true → Among (devices_of true c) e → Among rest.devices f → IsLeftDevice (λ y. y) remaining compared e f
      → Joins e m n → conducts s.reading e ≡ true → (region m ≡ true) ⊎ IsGivenNet c m
  left_bounded n m e f ins a af i j on =
      elim (p.bounded n m f ins (among_devices true rest f af (image_in true (λ x. x) e f i.image ∙ (device_among true c e a).1)) (joins_there e f m n i j) (left_conducts e f i ∙ on)) [
        | inl r ↦ inl r
        | inr g ↦ inr (given_back m (i.channels m (touched_from e m n j)) g)
      ]

  -- so conducting devices lead out of the two to given nets alone
  pub joint_bounded : (n m : ℕ) (e : Device) → joint n ≡ true → Among (devices_of true c) e → Joins e m n → conducts s.reading e ≡ true → (joint m ≡ true) ⊎ IsGivenNet c m
  joint_bounded n m e ins a j on =
      elim (own_or_left e n (device_among true c e a).0 (touched e m n j) ins) [
        | inr l ↦ elim (left_bounded n m e l.0 (joint_region n ins (l.2.channels n (touched e m n j))) a l.1 l.2 j on) [
          | inl r ↦ inl (region_joint m r (l.2.channels m (touched_from e m n j)))
          | inr g ↦ inr g
        ]
        | inl own ↦
            let listed = among_devices true cell own.0 own.1 (sym (image_in true at own.0 e own.2) ∙ (device_among true c e a).1) in
            let two = joined at own.0 e m n (own.2.level, own.2.left, own.2.right) j in
            elim (ends own.0 two.from listed own.3 (sym (own_conducts own.0 e own.2 listed own.3) ∙ on) (touched_from own.0 two.from two.to two.joins)) [
              | inl i ↦ inl (inner_joint two.from m i two.from_is)
              | inr supply ↦
                  let up = placed.supplies two.from supply.0 supply.1 in
                  inr (subst (IsGivenNet c) two.from_is (up.0, up.1, supply_given c (at two.from) supply.0 up))
            ]
      ]
