-- A region of the circuit with a cell whole, with the parts of the cell's exposed outputs in it: what it shows in the circuit with the cell
-- in it, whatever the rest of the cell does.
use Rattle.std.proofs.Common.{◌≡◌, ◌⊎◌, ◌↔◌, ℕ, ◌≤◌, ◌<◌, ◌&&◌, ◌||◌, not, Bool, true, false, List, [], ◌∷◌, length, arith, ap, subst, sym, refl, ◌∙◌, inl, inr}
use Rattle.std.proofs.lemmas.Bool.{and_from, and_parts, cases_Bool, false≢true, or_cases, or_left, or_right}
use Rattle.std.proofs.lemmas.Option.{slice_get_within}
use Rattle.cell_inside.proofs.Copies.{touched, touched_from}
use Rattle.cell_inside.proofs.Images.{image_in}
use Rattle.cell_inside.proofs.NetKinds.{is_plain_is, plain_is, plain_not_given, supply_given}
use Rattle.cell_inside.proofs.OutputPins.{pin_found, pin_there}
use Rattle.cell_inside.proofs.OutsideLaws.{outside_changes_nothing}
use Rattle.cell_inside.proofs.RootLaws.{whole_stands_for_unjoined_outputs}
use Rattle.cell_inside.specs.Inside.{ComesFromOutside, IsCopy, IsInside, IsOutside, IsShared, Touches}
use Rattle.cell_inside.specs.LeftWhole.{IsLeftDevice, IsLeftWhole}
use Rattle.cell_inside.specs.Placed.{IsImage, IsPlaced, IsSupply}
use Rattle.cell_inside.specs.Regions.{IsGivenNet}
use Rattle.cell_inside.specs.Replaced.{FightsBeside, IsJoined, IsReplaced, drive_root, root_at}
use Rattle.firm_faults.proofs.Restricted.{on_restricted, restricted, restricted_finite, restricted_levels, restricted_on, restricted_reaches, restricted_strength}
use Rattle.firm_faults.proofs.ShownBits.{only_shown_bit, shown_bit_reaches}
use Rattle.vrt_model.proofs.Filtered.{among_devices, device_among}
use Rattle.vrt_model.proofs.Laws.{turned}
use Rattle.vrt_model.proofs.Members.{at_none}
use Rattle.vrt_model.proofs.Networks.{given_source, network_finite, network_levels}
use Rattle.vrt_model.specs.Known.{IsPlain, is_plain_at}
use Rattle.vrt_model.specs.Levels.{source_level}
use Rattle.vrt_model.specs.Lists.{Among, At}
use Rattle.vrt_model.specs.Networks.{HasLevels, HasRanges, IsSource}
use Rattle.vrt_model.specs.Path.{Hop, IsOn, IsPath, IsRoot, Joins, Network, Root, end_of, level_of, level_of_drive}
use Rattle.vrt_model.specs.Reading.{conducts, devices_of, is_given}
use Rattle.vrt_model.specs.Response.{IsResponse, IsStrength, Reaches, Shows}
use Rattle.vrt_model.specs.State.{OutputPin, State, network_of, output_pins}
use Rattle.vrt_model.specs.declared.circuit.Circuit.{Circuit}
use Rattle.vrt_model.specs.declared.circuit.Device.{Device}
use Rattle.vrt_model.specs.declared.circuit.Hold.{Hold}
use Rattle.vrt_model.specs.declared.whole.Whole.{Whole}
use Rattle.vrt_model.specs.declared.whole.WholePin.{WholePin}
use Rattle.whole_solutions.proofs.GivenShow.{root_value}
use Rattle.firm_faults.proofs.LocalParts.{cell_network as cell_network_of, near as near_of, part as part_of, joint as joint_of, region_joint as region_joint_of, inner_joint as inner_joint_of, joint_region as joint_region_of, merged as merged_of, inner_too as inner_too_of, IsOwn as IsOwn_of, IsStaying as IsStaying_of, near_end as near_end_of, own_or_left as own_or_left_of, own_conducts as own_conducts_of, ends as ends_of, left_conducts as left_conducts_of, left_bounded as left_bounded_of, joint_bounded as joint_bounded_of}
use Rattle.firm_faults.proofs.LocalParts.{IsLocalPart, end_in, in_end, other_end}

module _ (cell c rest : Circuit) (at place fresh : ℕ → ℕ) (remaining compared exposed : ℕ → Bool) (drive : ℕ → ℕ) (placed : IsPlaced cell c at exposed drive)
    (left : IsLeftWhole cell c rest at (λ n. n) place fresh remaining compared exposed drive) (s t : State) (region inner bits : ℕ → Bool)
    (p : IsLocalPart cell c rest at remaining exposed s t region inner bits) where
  -- ---- the region and the set, and what conducting devices do there

  abbrev cell_network : Network
  cell_network = cell_network_of cell c rest at place fresh remaining compared exposed drive placed left s t region inner bits p

  abbrev near : Device → Bool
  near = near_of cell c rest at place fresh remaining compared exposed drive placed left s t region inner bits p

  abbrev part : Network
  part = part_of cell c rest at place fresh remaining compared exposed drive placed left s t region inner bits p

  abbrev joint : ℕ → Bool
  joint = joint_of cell c rest at place fresh remaining compared exposed drive placed left s t region inner bits p

  abbrev region_joint : (n : ℕ) → region n ≡ true → compared n ≡ true → joint n ≡ true
  region_joint = region_joint_of cell c rest at place fresh remaining compared exposed drive placed left s t region inner bits p

  abbrev inner_joint : (m n : ℕ) → inner m ≡ true → at m ≡ n → joint n ≡ true
  inner_joint = inner_joint_of cell c rest at place fresh remaining compared exposed drive placed left s t region inner bits p

  abbrev joint_region : (n : ℕ) → joint n ≡ true → compared n ≡ true → region n ≡ true
  joint_region = joint_region_of cell c rest at place fresh remaining compared exposed drive placed left s t region inner bits p

  abbrev merged : (m n : ℕ) (d : Device) → Among cell.devices d → Touches d m → IsPlain cell n → at m ≡ at n → (m ≡ n) ⊎ ((exposed m ≡ true) × (exposed n ≡ true) × (drive m ≡ drive n))
  merged = merged_of cell c rest at place fresh remaining compared exposed drive placed left s t region inner bits p

  abbrev inner_too : (m n : ℕ) (d : Device) → Among cell.devices d → Touches d m → inner n ≡ true → at m ≡ at n → inner m ≡ true
  inner_too = inner_too_of cell c rest at place fresh remaining compared exposed drive placed left s t region inner bits p

  abbrev IsOwn : Device → Type 0
  IsOwn = IsOwn_of cell c rest at place fresh remaining compared exposed drive placed left s t region inner bits p

  abbrev IsStaying : Device → Type 0
  IsStaying = IsStaying_of cell c rest at place fresh remaining compared exposed drive placed left s t region inner bits p

  abbrev near_end : (n : ℕ) → joint n ≡ true → (d : Device) → Among cell.devices d → (m : ℕ) → Touches d m → at m ≡ n → near d ≡ true
  near_end = near_end_of cell c rest at place fresh remaining compared exposed drive placed left s t region inner bits p

  abbrev own_or_left : (e : Device) (n : ℕ) → Among c.devices e → Touches e n → joint n ≡ true → IsOwn e ⊎ IsStaying e
  own_or_left = own_or_left_of cell c rest at place fresh remaining compared exposed drive placed left s t region inner bits p

  abbrev own_conducts : (d e : Device) → IsImage at d e → Among (devices_of true cell) d → near d ≡ true → conducts s.reading e ≡ conducts bits d
  own_conducts = own_conducts_of cell c rest at place fresh remaining compared exposed drive placed left s t region inner bits p

  abbrev ends : (d : Device) (n : ℕ) → Among (devices_of true cell) d → near d ≡ true → conducts bits d ≡ true → Touches d n → (inner n ≡ true) ⊎ ((value : Bool) × IsSupply cell n value)
  ends = ends_of cell c rest at place fresh remaining compared exposed drive placed left s t region inner bits p

  abbrev left_conducts : (e f : Device) → IsLeftDevice (λ n. n) remaining compared e f → conducts t.reading f ≡ conducts s.reading e
  left_conducts = left_conducts_of cell c rest at place fresh remaining compared exposed drive placed left s t region inner bits p

  abbrev left_bounded : (n m : ℕ) (e f : Device) → region n ≡ true → Among (devices_of true c) e → Among rest.devices f → IsLeftDevice (λ y. y) remaining compared e f
      → Joins e m n → conducts s.reading e ≡ true → (region m ≡ true) ⊎ IsGivenNet c m
  left_bounded = left_bounded_of cell c rest at place fresh remaining compared exposed drive placed left s t region inner bits p

  abbrev joint_bounded : (n m : ℕ) (e : Device) → joint n ≡ true → Among (devices_of true c) e → Joins e m n → conducts s.reading e ≡ true → (joint m ≡ true) ⊎ IsGivenNet c m
  joint_bounded = joint_bounded_of cell c rest at place fresh remaining compared exposed drive placed left s t region inner bits p

  -- ---- the three networks

  module _ (held : ℕ → Bool) (ranges : HasRanges cell) (all_ranges : HasRanges c) (whole_ranges : HasRanges rest)
      (driven : (q : ℕ) (out : OutputPin) → At (output_pins c) q out → t.driven (place q) ≡ s.driven q)
      (supplies : (n : ℕ) (value : Bool) → IsSupply cell n value → (bits n ≡ value) × (s.reading (at n) ≡ value))
      (outputs : (n : ℕ) → exposed n ≡ true → region (at n) ≡ true
      → (t.driven (fresh n) ≡ bits n) × IsStrength cell_network n (drive n) × (0 < drive n) × IsResponse cell_network n (Shows (bits n)))
      (unjoined : (m n : ℕ) → exposed m ≡ true → exposed n ≡ true → IsJoined part inner m n → at m ≡ at n) where
    abbrev circuit_network : Network
    circuit_network = network_of c true held s

    abbrev whole_network : Network
    whole_network = network_of rest true held t

    -- the part of the circuit, and that with the cell whole
    abbrev at_joint : Device → Bool
    at_joint e = joint e.left.0 || joint e.right.0

    abbrev left_of : ℕ → Bool
    left_of n = region n && compared n

    abbrev at_left : Device → Bool
    at_left f = left_of f.left.0 || left_of f.right.0

    abbrev circuit_part : Network
    circuit_part = restricted circuit_network at_joint

    abbrev whole_part : Network
    whole_part = restricted whole_network at_left

    -- the exposed outputs in the region, and the nets that are compared
    abbrev exposed_there : ℕ → Bool
    exposed_there n = exposed n && region (at n)

    abbrev compared_there : ℕ → Bool
    compared_there n = compared n && (region n || not (is_plain_at c n))

    exposed_is : (n : ℕ) → exposed_there n ≡ true → (exposed n ≡ true) × (region (at n) ≡ true)
    exposed_is n e = and_parts (exposed n) (region (at n)) e

    is_exposed : (n : ℕ) → inner n ≡ true → exposed n ≡ true → exposed_there n ≡ true
    is_exposed n ins e = and_from (exposed n) (region (at n)) e (p.exposed_there n ins e)

    is_compared : (n : ℕ) → compared n ≡ true → (region n ≡ true) ⊎ IsGivenNet c n → compared_there n ≡ true
    is_compared n co where_at =
        and_from (compared n) (region n || not (is_plain_at c n)) co (elim where_at [
          | inl r ↦ or_left (region n) (not (is_plain_at c n)) r
          | inr g ↦ elim (cases_Bool (is_plain_at c n)) [
            | inl plain ↦ absurd (plain_not_given c n g.0 (plain_is c n plain) g.1 g.2)
            | inr f ↦ or_right (region n) (not (is_plain_at c n)) (ap not f)
          ]
        ])

    compared_is : (n : ℕ) → compared_there n ≡ true → compared n ≡ true
    compared_is n e = (and_parts (compared n) (region n || not (is_plain_at c n)) e).0

    compared_region : (n : ℕ) → compared_there n ≡ true → IsPlain c n → region n ≡ true
    compared_region n e plain =
        elim (or_cases (region n) (not (is_plain_at c n)) (and_parts (compared n) (region n || not (is_plain_at c n)) e).1) [
          | inl r ↦ r
          | inr f ↦ absurd (false≢true (ap not (sym (is_plain_is c n plain)) ∙ f))
        ]

    -- ---- the cell alone

    no_hold : (j : ℕ) (hold : Hold) → At cell.holds j hold → ⊥
    no_hold j hold e = at_none j hold (subst (λ (hs : List Hold). At hs j hold) placed.no_holds e)

    no_pin : (out : OutputPin) → Among (output_pins cell) out → ⊥
    no_pin out m = at_none m.0 out (subst (λ (ws : List Whole). At (output_pins (record cell { wholes = ws })) m.0 out) placed.no_wholes m.1)

    no_root : (root : Root) → IsRoot part root → inner root.net ≡ true → ⊥
    no_root root (inl g) ins = plain_not_given cell root.net g.0 (p.inner_plain root.net ins) g.1 g.2
    no_root root (inr (inl r)) ins = no_hold r.0 r.1 r.2
    no_root root (inr (inr o)) ins = let out = pin_found cell o.0 o.1 o.2 in no_pin out.0 (o.0, out.1)

    abbrev IsEdge : ℕ → Type 0
    IsEdge n = (value : Bool) × IsSupply cell n value

    cell_levels : HasLevels cell_network
    cell_levels = network_levels cell true (λ j. false) (record { reading = bits; driven = λ j. false }) ranges

    cell_edge : (n : ℕ) → IsEdge n → IsSource cell_network n
    cell_edge n e = given_source cell true (λ j. false) (record { reading = bits; driven = λ j. false }) ranges n e.1.0 e.1.1 (supply_given cell n e.0 e.1)

    cell_kept : (m n : ℕ) (d : Device) → IsOn cell_network d → Joins d m n → inner n ≡ true → near d ≡ true
    cell_kept m n d on j ins = end_in inner d n (touched d m n j) ins

    cell_bounded : (m n : ℕ) (d : Device) → IsOn cell_network d → Joins d m n → inner n ≡ true → (inner m ≡ true) ⊎ IsEdge m
    cell_bounded m n d on j ins = p.joined n m d ins on.0 (turned d m n j) on.1

    part_reaches : (n : ℕ) (v : Bool) → inner n ≡ true → Reaches cell_network n v ↔ Reaches part n v
    part_reaches n v ins = restricted_reaches cell_network near (λ m. inner m ≡ true) IsEdge cell_levels cell_edge cell_kept cell_bounded n v ins

    part_on : (d : Device) → IsOn part d → Among (devices_of true cell) d × (near d ≡ true) × (conducts bits d ≡ true)
    part_on d on = let both = restricted_on cell_network near d on in (both.0.0, both.1, both.0.1)

    -- ---- the cell in the circuit

    -- a supply is a source of one value in both
    shared : (n : ℕ) (value : Bool) → IsSupply cell n value → IsShared part circuit_part at n
    shared n value here =
        let there = placed.supplies n value here in
        record {
          value = value;
          alone = record {
            root = record { net = n; level = source_level cell; value = value };
            is = inl (here.0, here.1, supply_given cell n value here, refl, sym (supplies n value here).0);
            net = refl;
            level = refl;
            value = refl;
            only = λ other r e full.
                root_value cell ranges (λ out m. absurd (no_pin out m)) true (λ j. false) (record { reading = bits; driven = λ j. false }) n (here.0, here.1, supply_given cell n value here) other r e full
                ∙ (supplies n value here).0;
          };
          above = record {
            root = record { net = at n; level = source_level c; value = value };
            is = inl (there.0, there.1, supply_given c (at n) value there, refl, sym (supplies n value here).1);
            net = refl;
            level = refl;
            value = refl;
            only = λ other r e full.
                root_value c all_ranges placed.pins_plain true held s (at n) (there.0, there.1, supply_given c (at n) value there) other r e full ∙ (supplies n value here).1;
          };
        }

    -- a device of the circuit that is none of the set's
    outside_left : (e : Device) (n : ℕ) → IsOn circuit_part e → IsOutside part at e → Touches e n → joint n ≡ true → IsStaying e
    outside_left e n on out touch ins =
        let whole = restricted_on circuit_network at_joint e on in
        let listed = device_among true c e whole.0.0 in
        elim (own_or_left e n listed.0 touch ins) [
          | inr stays ↦ stays
          | inl own ↦
              let a = among_devices true cell own.0 own.1 (sym (image_in true at own.0 e own.2) ∙ listed.1) in
              absurd (out own.0 (on_restricted cell_network near own.0 (a, sym (own_conducts own.0 e own.2 a own.3) ∙ whole.0.1) own.3) (own.2.level, own.2.left, own.2.right))
        ]

    outside_device : (e : Device) (n : ℕ) → IsOn circuit_part e → IsOutside part at e → inner n ≡ true → Touches e (at n) → (exposed n ≡ true) × (e.level ≤ drive n)
    outside_device e n on out ins touch =
        let whole = restricted_on circuit_network at_joint e on in
        let listed = device_among true c e whole.0.0 in
        elim (placed.others e n listed.0 (p.inner_plain n ins) touch) [
          | inr other ↦ other
          | inl own ↦
              let joint_there = inner_joint n (at n) ins refl in
              let end : near own.0 ≡ true =
              elim touch [
                | inl q ↦ near_end (at n) joint_there own.0 own.1 own.0.left.0 (inl refl) (sym own.2.left ∙ q)
                | inr q ↦ near_end (at n) joint_there own.0 own.1 own.0.right.0 (inr refl) (sym own.2.right ∙ q)
              ] in
              let a = among_devices true cell own.0 own.1 (sym (image_in true at own.0 e own.2) ∙ listed.1) in
              absurd (out own.0 (on_restricted cell_network near own.0 (a, sym (own_conducts own.0 e own.2 a end) ∙ whole.0.1) end) (own.2.level, own.2.left, own.2.right))
        ]

    outside_root : (root : Root) (n : ℕ) → IsRoot circuit_part root → inner n ≡ true → root.net ≡ at n → (exposed n ≡ true) × (root.level ≤ drive n)
    outside_root root n r ins e =
        elim r [
          | inl g ↦ absurd (plain_not_given c root.net g.0 (subst (IsPlain c) (sym e) (placed.plain n (p.inner_plain n ins))) g.1 g.2)
          | inr other ↦ elim other [
            | inl h ↦ absurd (placed.unheld n (p.inner_plain n ins) (h.1, (h.0, h.2), sym h.3 ∙ e))
            | inr o ↦
                let out = pin_found c o.0 o.1 o.2 in
                let h = placed.pins out.0 n (o.0, out.1) (p.inner_plain n ins) (ap (λ (q : WholePin). q.net.0) out.2 ∙ sym o.3 ∙ e) in
                let level : root.level ≡ level_of_drive (source_level c) out.0.pin.drive = o.4 ∙ ap (λ (q : WholePin). level_of_drive (source_level c) q.drive) (sym out.2) in
                let le = h.1 in
                (h.0, omega (arith, level, le))
          ]
        ]

    on_there : (d : Device) → IsOn part d → (e : Device) × IsOn circuit_part e × IsCopy at d e
    on_there d on =
        let own = part_on d on in
        let listed = device_among true cell d own.0 in
        let e = placed.there d listed.0 in
        let end = in_end inner d own.1 in
        let touch : Touches e.0 (at end.0) =
        elim (touched_from d end.0 end.1 end.3) [ inl q ↦ inl (e.2.left ∙ ap at q) | inr q ↦ inr (e.2.right ∙ ap at q) ] in (
          e.0,
          on_restricted circuit_network at_joint e.0 (among_devices true c e.0 e.1 (image_in true at d e.0 e.2 ∙ listed.1), own_conducts d e.0 e.2 own.0 own.1 ∙ own.2)
              (end_in joint e.0 (at end.0) touch (inner_joint end.0 (at end.0) end.2 refl)),
          (e.2.level, e.2.left, e.2.right),
        )

    part_inside : IsInside part circuit_part at inner exposed_there drive
    part_inside = record {
      source = placed.source;
      no_root = no_root;
      bounded = λ d n on touch.
          let own = part_on d on in
          elim (ends d n own.0 own.1 own.2 touch) [ inl i ↦ inl i | inr supply ↦ inr (shared n supply.0 supply.1) ];
      there = on_there;
      exposed_inside = λ n e. let is = exposed_is n e in p.exposed_inner n is.0 is.1;
      devices = λ e n on out ins touch. is_exposed n ins (outside_device e n on out ins touch).0;
      roots = λ root n r ins e. is_exposed n ins (outside_root root n r ins e).0;
      apart = λ d m n on touch ins e.
          let a = (device_among true cell d (part_on d on).0).0 in
          elim (merged m n d a touch (p.inner_plain n ins) e) [
            | inl one ↦ inl one
            | inr both ↦ inr (is_exposed m (inner_too m n d a touch ins e) both.0, is_exposed n ins both.1, both.2)
          ];
      drives = λ n e.
          let is = exposed_is n e in
          let has = outputs n is.0 is.1 in
          (restricted_strength cell_network near (λ m. inner m ≡ true) IsEdge cell_levels cell_edge cell_kept cell_bounded n (drive n) (p.exposed_inner n is.0 is.1) has.1, has.2);
      not_above = above;
    }
      where
        above : (root : Root) (hops : List Hop) (n : ℕ) → IsPath circuit_part root hops → ComesFromOutside part at hops → exposed_there n ≡ true → end_of root hops ≡ at n → level_of root hops ≤ drive n
        above root [] n path out m e = let is = exposed_is n m in (outside_root root n path (p.exposed_inner n is.0 is.1) e).1
        above root (hop ∷ hops) n path out m e =
            let is = exposed_is n m in
            let le = (outside_device hop.device n path.1 out (p.exposed_inner n is.0 is.1) (subst (Touches hop.device) e (touched hop.device (end_of root hops) hop.to path.2))).1 in
            omega (arith, le)

    -- ---- the cell whole

    -- both ends of a device that stays, of which one is in the region, are compared
    ends_compared : (e f : Device) (n k : ℕ) → region n ≡ true → Among (devices_of true c) e → Among rest.devices f → IsLeftDevice (λ y. y) remaining compared e f
        → conducts s.reading e ≡ true → Touches e n → Touches e k → compared_there k ≡ true
    ends_compared e f n k ins a af i on touch other =
        let far : (m : ℕ) × Joins e m n = elim touch [ inl q ↦ (e.right.0, inr (q, refl)) | inr q ↦ (e.left.0, inl (refl, q)) ] in
        is_compared k (i.channels k other) (elim (other_end e n far.0 k (turned e far.0 n far.1) other) [
          | inl q ↦ inl (subst (λ (x : ℕ). region x ≡ true) (sym q) ins)
          | inr q ↦ subst (λ (x : ℕ). (region x ≡ true) ⊎ IsGivenNet c x) (sym q) (left_bounded n far.0 e f ins a af i far.1 on)
        ])

    -- where a device that is none of the set's is at the region
    abbrev IsLeftAt : Device → Type 0
    IsLeftAt e = (stays : IsStaying e) × ((n : ℕ) × (region n ≡ true) × (compared n ≡ true) × Touches e n)

    left_at : (e : Device) → IsOn circuit_part e → IsOutside part at e → IsLeftAt e
    left_at e on out =
        let end = in_end joint e (restricted_on circuit_network at_joint e on).1 in
        let touch = touched_from e end.0 end.1 end.3 in
        let stays = outside_left e end.0 on out touch end.2 in
        let co = stays.2.channels end.0 touch in
        (stays, (end.0, joint_region end.0 end.2 co, co, touch))

    roots_there : (root : Root) → IsRoot circuit_part root → compared_there root.net ≡ true → IsRoot whole_part (root_at root.net root)
    roots_there root is shows =
        let rem = left.compared_remaining root.net (compared_is root.net shows) in
        elim is [
          | inl g ↦ (let other = left.nets root.net g.0 rem g.1 in inl (other.0, other.1, ap is_given other.2 ∙ g.2, g.3 ∙ left.source, g.4 ∙ sym (p.reading root.net rem)))
          | inr more ↦ elim more [
            | inl h ↦ (let g = left.holds h.0 h.1 h.2 in inr (inl (h.0, g.0, g.1, h.3 ∙ sym g.2.net, h.4 ∙ sym g.2.size, h.5)))
            | inr o ↦
                let out = pin_found c o.0 o.1 o.2 in
                let pin = left.pins o.0 out.0 out.1 in
                inr (inr (
                  place o.0,
                  pin.0.pin,
                  pin_there rest (place o.0) pin.0 pin.1,
                  o.3 ∙ ap (λ (q : WholePin). q.net.0) (sym out.2) ∙ sym pin.2.net,
                  o.4 ∙ ap (λ (q : WholePin). level_of_drive (source_level c) q.drive) (sym out.2) ∙ ap (level_of_drive (source_level c)) (sym pin.2.drive) ∙ ap (λ (x : ℕ). level_of_drive x pin.0.pin.drive) left.source,
                  o.5 ∙ sym (driven o.0 out.0 out.1),
                ))
          ]
        ]

    drives_there : (n : ℕ) → exposed_there n ≡ true → IsRoot whole_part (drive_root (at n) (drive n) (bits n))
    drives_there n m =
        let is = exposed_is n m in
        let pin = left.fresh_pins n is.0 in
        inr (inr (fresh n, pin.0.pin, pin_there rest (fresh n) pin.0 pin.1, sym pin.2.net, sym (pin.2.level is.0), sym (outputs n is.0 is.1).0))

    abbrev IsRootBack : Root → ℕ → Type 0
    IsRootBack root k = IsRoot circuit_part (root_at k root) ⊎ ((n : ℕ) × (exposed_there n ≡ true) × (at n ≡ k) × (root.level ≡ drive n) × (root.value ≡ bits n))

    roots_back : (root : Root) (k : ℕ) → IsRoot whole_part root → compared_there k ≡ true → root.net ≡ k → IsRootBack root k
    roots_back root k is shows e =
        elim is [
          | inl g ↦
              let net = left.nets_back k g.0 (left.compared_remaining k (compared_is k shows)) (subst (λ (m : ℕ). At rest.nets m g.0) e g.1) in
              inl (inl (net.0, net.1, ap is_given net.2 ∙ g.2, g.3 ∙ sym left.source, g.4 ∙ ap t.reading e ∙ p.reading k (left.compared_remaining k (compared_is k shows))))
          | inr more ↦ elim more [
            | inl h ↦ (let g = left.holds_back h.0 h.1 h.2 in inl (inr (inl (h.0, g.0, g.1, sym e ∙ h.3 ∙ g.2.net, h.4 ∙ g.2.size, h.5))))
            | inr o ↦
                let out = pin_found rest o.0 o.1 o.2 in
                by_pin o.0 out.0 out.1 (ap (λ (q : WholePin). q.net.0) out.2 ∙ sym o.3 ∙ e) (o.4 ∙ ap (λ (q : WholePin). level_of_drive (source_level rest) q.drive) (sym out.2)) o.5
          ]
        ]
      where
        by_pin : (j : ℕ) (pin : OutputPin) → At (output_pins rest) j pin → pin.pin.net.0 ≡ k → root.level ≡ level_of_drive (source_level rest) pin.pin.drive → root.value ≡ t.driven j → IsRootBack root k
        by_pin j pin there net level bit =
            elim (left.pins_back j pin there) [
              | inl old ↦
                  let out : OutputPin = old.1 in
                  inl (inr (inr (
                    old.0,
                    out.pin,
                    pin_there c old.0 out old.2,
                    sym net ∙ old.4.net,
                    level ∙ ap (level_of_drive (source_level rest)) old.4.drive ∙ ap (λ (x : ℕ). level_of_drive x out.pin.drive) (sym left.source),
                    bit ∙ ap t.driven (sym old.3) ∙ driven old.0 out old.2,
                  )))
              | inr new ↦
                  let net_is : at new.0 ≡ k = sym new.2.net ∙ net in
                  let m = left.inside_compared new.0 new.2.plain (subst (λ (x : ℕ). compared x ≡ true) (sym net_is) (compared_is k shows)) in
                  let ins : region (at new.0) ≡ true = subst (λ (x : ℕ). region x ≡ true) (sym net_is) (compared_region k shows (subst (IsPlain c) net_is (placed.plain new.0 new.2.plain))) in
                  inr (new.0, and_from (exposed new.0) (region (at new.0)) m ins, net_is, level ∙ new.2.level m, bit ∙ ap t.driven (sym new.1) ∙ (outputs new.0 m ins).0)
            ]

    only_value : (n : ℕ) → exposed_there n ≡ true → Reaches part n (bits n) × ((v : Bool) → Reaches part n v → v ≡ bits n)
    only_value n e =
        let is = exposed_is n e in
        let ins = p.exposed_inner n is.0 is.1 in
        let shown = (outputs n is.0 is.1).3 in (
          (part_reaches n (bits n) ins).0 (shown_bit_reaches cell_network n (bits n) shown),
          λ v r. only_shown_bit cell_network n (bits n) v shown ((part_reaches n v ins).1 r),
        )

    part_replaced : IsReplaced part circuit_part whole_part at (λ n. n) inner exposed_there compared_there drive bits
    part_replaced = record {
      source = left.source;
      exposed_compared = λ n e. let is = exposed_is n e in is_compared (at n) (left.exposed_compared n is.0) (inl is.1);
      inside_compared = λ n ins co. is_exposed n ins (left.inside_compared n (p.inner_plain n ins) (compared_is (at n) co));
      moved_apart = λ k l ks ls e. e;
      ends = λ e k on out touch.
          let here = left_at e on out in
          let whole = (restricted_on circuit_network at_joint e on).0 in
          ends_compared e here.0.0 here.1.0 k here.1.1 whole.0 here.0.1 here.0.2 whole.1 here.1.3 touch;
      devices_there = λ e on out.
          let here = left_at e on out in
          let whole = (restricted_on circuit_network at_joint e on).0 in
          let f : Device = here.0.0 in
          let i = here.0.2 in
          let touch : Touches f here.1.0 = elim here.1.3 [ inl q ↦ inl (i.image.left ∙ q) | inr q ↦ inr (i.image.right ∙ q) ] in (
            f,
            on_restricted whole_network at_left f
                (among_devices true rest f here.0.1 (image_in true (λ x. x) e f i.image ∙ (device_among true c e whole.0).1), left_conducts e f i ∙ whole.1)
                (end_in left_of f here.1.0 touch (and_from (region here.1.0) (compared here.1.0) here.1.1 here.1.2)),
            (i.image.level, i.image.left, i.image.right),
          );
      devices_back = λ f on.
          let whole = restricted_on whole_network at_left f on in
          let listed = device_among true rest f whole.0.0 in
          let back = left.devices_back f listed.0 in
          let e : Device = back.0 in
          let i = back.2 in
          let end = in_end left_of f whole.1 in
          let both = and_parts (region end.0) (compared end.0) end.2 in
          let touch : Touches e end.0 = elim (touched_from f end.0 end.1 end.3) [ inl q ↦ inl (sym i.image.left ∙ q) | inr q ↦ inr (sym i.image.right ∙ q) ] in
          let a = among_devices true c e back.1 (sym (image_in true (λ x. x) e f i.image) ∙ listed.1) in
          let conducting = sym (left_conducts e f i) ∙ whole.0.1 in (
            e,
            on_restricted circuit_network at_joint e (a, conducting) (end_in joint e end.0 touch (region_joint end.0 both.0 both.1)),
            (i.image.level, i.image.left, i.image.right),
            λ k other. ends_compared e f end.0 k both.0 a listed.0 i conducting touch other,
          );
      roots_there = roots_there;
      drives_there = drives_there;
      roots_back = roots_back;
      values = only_value;
    }

    -- ---- what they show

    circuit_levels : HasLevels circuit_network
    circuit_levels = network_levels c true held s all_ranges

    whole_levels : HasLevels whole_network
    whole_levels = network_levels rest true held t whole_ranges

    circuit_reaches : (n : ℕ) (v : Bool) → joint n ≡ true → Reaches circuit_network n v ↔ Reaches circuit_part n v
    circuit_reaches n v ins =
        restricted_reaches circuit_network at_joint (λ m. joint m ≡ true) (IsGivenNet c) circuit_levels (λ m g. given_source c true held s all_ranges m g.0 g.1 g.2)
        (λ m o d on j i. end_in joint d o (touched d m o j) i) (λ m o d on j i. joint_bounded o m d i on.0 j on.1) n v ins

    whole_reaches : (n : ℕ) (v : Bool) → left_of n ≡ true → Reaches whole_network n v ↔ Reaches whole_part n v
    whole_reaches n v ins =
        restricted_reaches whole_network at_left (λ m. left_of m ≡ true) (IsGivenNet rest) whole_levels (λ m g. given_source rest true held t whole_ranges m g.0 g.1 g.2)
        (λ m o d on j i. end_in left_of d o (touched d m o j) i)
        (λ m o d on j i.
        let both = and_parts (region o) (compared o) i in
        elim (p.bounded o m d both.0 on.0 j on.1) [
          | inl r ↦ inl (and_from (region m) (compared m) r (far_compared d (device_among true rest d on.0).0 m (touched_from d m o j)))
          | inr g ↦ inr g
        ])
        n v ins
      where
        far_compared : (f : Device) → Among rest.devices f → (m : ℕ) → Touches f m → compared m ≡ true
        far_compared f a m touch =
            let back = left.devices_back f a in
            back.2.channels m (elim touch [ inl q ↦ inl (sym back.2.image.left ∙ q) | inr q ↦ inr (sym back.2.image.right ∙ q) ])

    whole_law : ((n l : ℕ) → compared_there n ≡ true → IsStrength circuit_part n l ↔ IsStrength whole_part n l)
        × ((n : ℕ) (v : Bool) → compared_there n ≡ true → Reaches circuit_part n v ↔ Reaches whole_part n v)
        × ((n : ℕ) (v : Bool) → inner n ≡ true → Reaches circuit_part (at n) v → Reaches part n v ⊎ FightsBeside part whole_part at inner exposed_there n)
    whole_law =
        whole_stands_for_unjoined_outputs part circuit_part whole_part at (λ n. n) inner exposed_there compared_there drive bits (length cell.nets) (length c.nets) (length rest.nets)
        (restricted_levels cell_network near cell_levels) (restricted_levels circuit_network at_joint circuit_levels) (restricted_levels whole_network at_left whole_levels)
        (restricted_finite cell_network near (length cell.nets) (source_level cell) (network_finite cell true (λ j. false) (record { reading = bits; driven = λ j. false }) ranges))
        (restricted_finite circuit_network at_joint (length c.nets) (source_level c) (network_finite c true held s all_ranges))
        (restricted_finite whole_network at_left (length rest.nets) (source_level rest) (network_finite rest true held t whole_ranges))
        part_inside part_replaced (λ m n em en j. unjoined m n (exposed_is m em).0 (exposed_is n en).0 j)

    kept_inside : (n : ℕ) (v : Bool) → inner n ≡ true → Reaches part n v → Reaches circuit_part (at n) v
    kept_inside =
        (outside_changes_nothing part circuit_part at inner exposed_there drive (length cell.nets) (length c.nets) (restricted_levels cell_network near cell_levels)
        (restricted_levels circuit_network at_joint circuit_levels)
        (restricted_finite cell_network near (length cell.nets) (source_level cell) (network_finite cell true (λ j. false) (record { reading = bits; driven = λ j. false }) ranges))
        (restricted_finite circuit_network at_joint (length c.nets) (source_level c) (network_finite c true held s all_ranges))
        (λ n e. let plain = placed.exposed_plain n (exposed_is n e).0 in slice_get_within cell.nets n plain.0 plain.1) part_inside).1

    -- compared nets of the region respond with the cell whole as with the cell in the circuit
    pub region_alike : (n : ℕ) (v : Bool) → region n ≡ true → compared n ≡ true → Reaches whole_network n v ↔ Reaches circuit_network n v
    region_alike n v ins co =
        let there = is_compared n co (inl ins) in
        let joint_there = region_joint n ins co in
        let left_there = and_from (region n) (compared n) ins co in (
          λ r. (circuit_reaches n v joint_there).1 ((whole_law.1 n v there).1 ((whole_reaches n v left_there).0 r)),
          λ r. (whole_reaches n v left_there).1 ((whole_law.1 n v there).0 ((circuit_reaches n v joint_there).0 r)),
        )

    -- what reaches a net of the set in the cell alone reaches it in the circuit
    pub inner_reaches : (n : ℕ) (v : Bool) → inner n ≡ true → Reaches cell_network n v → Reaches circuit_network (at n) v
    inner_reaches n v ins r = (circuit_reaches (at n) v (inner_joint n (at n) ins refl)).1 (kept_inside n v ins ((part_reaches n v ins).0 r))

    -- a net of the set responds as in the cell alone, where no exposed output that is joined to it fights
    pub inner_alike : (n : ℕ) (v : Bool) → inner n ≡ true
        → ((m : ℕ) → exposed m ≡ true → IsJoined part inner m n → Reaches whole_network (at m) true → Reaches whole_network (at m) false → ⊥)
        → Reaches cell_network n v ↔ Reaches circuit_network (at n) v
    inner_alike n v ins calm =
        let joint_there = inner_joint n (at n) ins refl in (
          λ r. inner_reaches n v ins r,
          λ r. elim (whole_law.2 n v ins ((circuit_reaches (at n) v joint_there).0 r)) [
            | inl own ↦ (part_reaches n v ins).1 own
            | inr beside ↦
                let is = exposed_is beside.0 beside.1 in
                let left_there = and_from (region (at beside.0)) (compared (at beside.0)) is.1 (left.exposed_compared beside.0 is.0) in
                absurd (calm beside.0 is.0 beside.2 ((whole_reaches (at beside.0) true left_there).1 beside.3) ((whole_reaches (at beside.0) false left_there).1 beside.4))
          ],
        )
