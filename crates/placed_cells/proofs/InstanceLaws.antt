-- The flat circuit of an instance's cell stands in the flat circuit around it.
use Rattle.std.proofs.Common.{◌≡◌, ◌<◌, ◌≤◌, ◌+◌, ◌++◌, ◌∷◌, ◌&&◌, [], ℕ, zero, suc, cond, List, Bool, true, false, map, flat_map, length, Option, Some, None, refl, ap, sym, ◌∙◌, subst, arith, inl, inr}
use Rattle.std.specs.Prelude.{bytes_eq, option_map, slice_get, unwrap_or, ◌==◌}
use Rattle.std.specs.List.{AllZip, list_any}
use Rattle.std.specs.Option.{option_or}
use Rattle.std.proofs.lemmas.Bool.{and_from, and_parts, cases_Bool, cases_lt, eq-eqb, eqb-true, false≢true, or_cases, or_left, or_right}
use Rattle.std.proofs.lemmas.Option.{none-some, same_Some, slice_get_within}
use Rattle.cell_inside.proofs.DepthLaws.{deeper}
use Rattle.cell_inside.proofs.ShiftedPlaces.{among_name, name_placed, places_shifted, port_by}
use Rattle.cell_inside.specs.Inside.{Touches}
use Rattle.cell_inside.specs.Placed.{IsImage, IsPlaced, IsSupply}
use Rattle.cell_inside.specs.Shifted.{IsShiftedWithNets, IsWithinDepth, NamesNoGlobal, top_alone}
use Rattle.placed_cells.proofs.AboveLaws.{instances_are_shifted, net_high, nets_apart, supply_above}
use Rattle.placed_cells.proofs.DepthLaws.{ordered_is_within_depth}
use Rattle.placed_cells.proofs.FlatNetLaws.{NamedSupplies, name_inside, net_count, plain_behind, supply_low, supply_there}
use Rattle.placed_cells.proofs.HoldLaws.{FallsThere, cells_there, held_by, hold_named, none_falls}
use Rattle.placed_cells.proofs.NamedLaws.{hold_nets_are_there}
use Rattle.placed_cells.proofs.ListLaws.{zip_left, zip_right}
use Rattle.placed_cells.proofs.RowLaws.{all_in_row, in_row, row_ends}
use Rattle.placed_cells.proofs.SplitLaws.{bounds}
use Rattle.placed_cells.proofs.TieLaws.{instances_are_tied}
use Rattle.placed_cells.specs.Above.{IsTied, net_above, place_alone}
use Rattle.placed_cells.specs.Instances.{FlatCircuitShowsInside, HasPlacedPorts, InstanceIsPlaced, ShowsInside}
use Rattle.placed_cells.specs.Rows.{AreInRow, size_inside}
use Rattle.placed_cells.specs.Splits.{IsSplit, is_net_in}
use Rattle.vrt_model.proofs.Lists.{at_back, map_among}
use Rattle.vrt_model.proofs.Members.{among_any, among_either, among_flat_map, among_left, among_map, among_right, any_among, flat_map_among}
use Rattle.vrt_model.proofs.Scales.{same_source}
use Rattle.vrt_model.specs.CellRules.{supply_of}
use Rattle.vrt_model.specs.Comparison.{cell_at}
use Rattle.vrt_model.specs.FlatCircuit.{flat_circuit_of, flat_device, flat_devices, flat_nets, is_keeper, level_of}
use Rattle.vrt_model.specs.Hierarchy.{AreHoldNets}
use Rattle.vrt_model.specs.Inputs.{IsDesign}
use Rattle.vrt_model.specs.Known.{IsHeld, IsPlain}
use Rattle.vrt_model.specs.Lists.{Among, At, has_name, place_of}
use Rattle.vrt_model.specs.State.{OutputPin, output_pins}
use Rattle.vrt_model.specs.Unrolled.{Place, Top, all_places, cell_named, deepest, global_net, is_global_in, mentions, names_global, net_at, own_net, places_in, port_net, supply_net, top_place}
use Rattle.vrt_model.specs.declared.circuit.Circuit.{Circuit}
use Rattle.vrt_model.specs.declared.circuit.Device.{Device}
use Rattle.vrt_model.specs.declared.circuit.FlatNet.{FlatNet}
use Rattle.vrt_model.specs.declared.design.Cell.{Cell}
use Rattle.vrt_model.specs.declared.design.DeviceCard.{DeviceCard}
use Rattle.vrt_model.specs.declared.design.InstanceCard.{InstanceCard}
use Rattle.vrt_model.specs.declared.pairing.PortRole.{PortRole}
use Rattle.vrt_model.specs.declared.rules.HoldRule.{HoldRule}

-- ---- cards

-- a net on a device card is mentioned
device_mentioned : (cell : Cell) (card : DeviceCard) (name : List ℕ) → Among cell.devices card → Among (card.drain ∷ card.gate ∷ card.source ∷ []) name → has_name (mentions cell) name ≡ true
device_mentioned cell card name m on =
    among_name (mentions cell) name
    (among_left (flat_map (λ (d : DeviceCard). d.drain ∷ d.gate ∷ d.source ∷ []) cell.devices) (flat_map (λ (i : InstanceCard). i.nets) cell.instances) name
    (flat_map_among (λ (d : DeviceCard). d.drain ∷ d.gate ∷ d.source ∷ []) cell.devices card name m on))

pub device_named : (cell : Cell) (card : DeviceCard) (name : List ℕ) → Among cell.devices card → Among (card.drain ∷ card.gate ∷ card.source ∷ []) name → is_net_in cell name ≡ true
device_named cell card name m on = or_right (has_name cell.ports name) (has_name (mentions cell) name) (device_mentioned cell card name m on)

-- ---- depth

module _ (t : Top) where
  -- what a cell and those in it name at some depth they name at each depth below
  global_deeper : (depth k : ℕ) (name : List ℕ) → names_global t.design t.rules depth (cell_at t.design k) name ≡ true → names_global t.design t.rules (suc depth) (cell_at t.design k) name ≡ true
  global_deeper zero k name e =
      or_left (is_global_in t.design t.rules (cell_at t.design k) name && has_name (mentions (cell_at t.design k)) name)
      (list_any (λ (i : InstanceCard). names_global t.design t.rules 0 (cell_at t.design (cell_named t.design i.cell)) name) (cell_at t.design k).instances) e
  global_deeper (suc depth) k name e =
      let here = is_global_in t.design t.rules (cell_at t.design k) name && has_name (mentions (cell_at t.design k)) name in
      let cards = (cell_at t.design k).instances in
      elim (or_cases here (list_any (λ (i : InstanceCard). names_global t.design t.rules depth (cell_at t.design (cell_named t.design i.cell)) name) cards) e) [
        | inl own ↦ or_left here (list_any (λ (i : InstanceCard). names_global t.design t.rules (suc depth) (cell_at t.design (cell_named t.design i.cell)) name) cards) own
        | inr inner ↦
            or_right here (list_any (λ (i : InstanceCard). names_global t.design t.rules (suc depth) (cell_at t.design (cell_named t.design i.cell)) name) cards)
            (let found = any_among (λ (i : InstanceCard). names_global t.design t.rules depth (cell_at t.design (cell_named t.design i.cell)) name) cards inner in
            among_any (λ (i : InstanceCard). names_global t.design t.rules (suc depth) (cell_at t.design (cell_named t.design i.cell)) name) cards found.0 found.1 (global_deeper depth (cell_named t.design found.0.cell) name found.2))
      ]

  none_shallow : (depth more k : ℕ) → NamesNoGlobal t (depth + more) k → NamesNoGlobal t depth k
  none_shallow depth zero k none = let e : depth + 0 ≡ depth = omega arith in subst (λ (n : ℕ). NamesNoGlobal t n k) e none
  none_shallow depth (suc more) k none =
      let e : depth + suc more ≡ suc (depth + more) = omega arith in
      none_shallow depth more k (one_less (depth + more) (subst (λ (n : ℕ). NamesNoGlobal t n k) e none))
    where
      one_less : (d : ℕ) → NamesNoGlobal t (suc d) k → NamesNoGlobal t d k
      one_less d h name global =
          elim (cases_Bool (names_global t.design t.rules d (cell_at t.design k) name)) [
            | inr f ↦ f
            | inl named ↦ absurd (false≢true (sym (h name global) ∙ global_deeper d k name named))
          ]

  within_alone : (cell : ℕ) (roles : List PortRole) (depth k : ℕ) → IsWithinDepth t depth k → IsWithinDepth (top_alone t cell roles) depth k
  within_alone cell roles zero k h = h
  within_alone cell roles (suc depth) k h = λ i m. within_alone cell roles depth (cell_named t.design i.cell) (h i m)

  -- deeper there are no more own nets
  size_deeper : (depth more : ℕ) (q : Place) → IsWithinDepth t depth q.cell → size_inside t depth q.cell ≡ size_inside t (depth + more) q.cell
  size_deeper depth more q h =
      let ends = row_ends t (places_in t depth q) q.base (q.base + size_inside t depth q.cell) (q.base + size_inside t (depth + more) q.cell) (in_row t depth q)
      (subst (λ (ps : List Place). AreInRow t ps q.base (q.base + size_inside t (depth + more) q.cell)) (sym (deeper t depth more q h)) (in_row t (depth + more) q)) in
      omega (arith, ends)

  all_deeper : (depth more : ℕ) → depth + more ≡ deepest → IsWithinDepth t depth t.cell → places_in t depth (top_place t) ≡ all_places t
  unfolding all_places
  all_deeper depth more sum h = deeper t depth more (top_place t) h ∙ ap (λ (n : ℕ). places_in t n (top_place t)) sum

-- ---- an instance

module _ (t : Top) (roles : List PortRole) (number : ℕ) (p : Place) (depth : ℕ) (before behind : List Place) (split : IsSplit t number p depth before behind) (tied : IsTied t p)
    (none : NamesNoGlobal t deepest p.cell) (within : IsWithinDepth t depth p.cell) where
  abbrev own : Top
  own = top_alone t p.cell roles

  abbrev at : ℕ → ℕ
  at n = net_above t p n

  abbrev base : ℕ
  base = (place_alone t p).base

  rest_is : (more : ℕ) × (depth + more ≡ deepest)
  rest_is = let deep = split.depth_is in (length p.path, omega (arith, deep))

  -- its places are those of its cell alone, shifted
  abbrev FitsPlace : Place → Place → Type 0
  FitsPlace q r = IsShiftedWithNets t own at p.path q r

  pub shifted : AllZip FitsPlace (all_places own) (places_in t depth p)
  shifted =
      let law = instances_are_shifted t roles p tied in
      subst (λ (ps : List Place). AllZip FitsPlace ps (places_in t depth p)) (all_deeper own depth rest_is.0 rest_is.1 (within_alone t p.cell roles depth p.cell within))
      (places_shifted t p.cell roles at p.path law.1 law.2 depth (top_place own) p (none_shallow t depth rest_is.0 p.cell (subst (λ (n : ℕ). NamesNoGlobal t n p.cell) (sym rest_is.1) none)) law.0)

  image : (q r : Place) (card : DeviceCard) → FitsPlace q r → Among (cell_at t.design r.cell).devices card → IsImage at (flat_device own q card) (flat_device t r card)
  image q r card fits m = record {
    kind = refl;
    gate = fits.nets card.gate (device_mentioned (cell_at t.design r.cell) card card.gate m (1, refl));
    left = fits.nets card.drain (device_mentioned (cell_at t.design r.cell) card card.drain m (0, refl));
    right = fits.nets card.source (device_mentioned (cell_at t.design r.cell) card card.source m (2, refl));
    level = ap (λ (k : ℕ). level_of t.rules (cell_at t.design k).name card.name card.model) fits.place.cell;
    keeper = ap (λ (k : ℕ). is_keeper t.rules (cell_at t.design k).name card.name) fits.place.cell;
  }

  abbrev devices_at : Top → Place → List Device
  devices_at u q = map (flat_device u q) (cell_at u.design q.cell).devices

  -- a device of a place in it is an image
  pub inside_image : (r : Place) (card : DeviceCard) → Among (places_in t depth p) r → Among (cell_at t.design r.cell).devices card → (d : Device) × Among (flat_devices own) d × IsImage at d (flat_device t r card)
  inside_image r card m on =
      let q = zip_right FitsPlace (all_places own) (places_in t depth p) r shifted m in
      let there_on : Among (cell_at t.design q.0.cell).devices card = subst (λ (k : ℕ). Among (cell_at t.design k).devices card) q.2.place.cell on in (
        flat_device own q.0 card,
        flat_map_among (devices_at own) (all_places own) q.0 (flat_device own q.0 card) q.1 (map_among (flat_device own q.0) (cell_at t.design q.0.cell).devices card there_on),
        image q.0 r card q.2 on,
      )

  -- no name in any other place is an own net
  pub not_outside : (r : Place) (name : List ℕ) (n : ℕ) → Among (before ++ behind) r → is_net_in (cell_at t.design r.cell) name ≡ true → base ≤ n → n < base + size_inside t depth p.cell → net_at t r name ≡ at n → ⊥
  not_outside r name n m is low high same =
      let far = net_high t p n low in
      elim (split.names r name m is) [
        | inl less ↦ absurd (omega (arith, less, same, far))
        | inr more ↦ absurd (omega (arith, more, same, far, low, high))
      ]

  -- so a device at an own net is an image
  own_image : (e : Device) (n : ℕ) → Among (flat_devices t) e → base ≤ n → n < base + size_inside t depth p.cell → Touches e (at n) → (d : Device) × Among (flat_devices own) d × IsImage at d e
  own_image e n m low high touch =
      let place = among_flat_map (devices_at t) (all_places t) e m in
      let card = among_map (flat_device t place.0) (cell_at t.design place.0.cell).devices e place.2 in
      let r = place.0 in
      let cell = cell_at t.design r.cell in
      let one = card.0 in
      let inside : Among (places_in t depth p) r → (d : Device) × Among (flat_devices own) d × IsImage at d e =
      λ on. let found = inside_image r one on card.1 in (found.0, found.1, subst (λ (x : Device). IsImage at found.0 x) card.2 found.2) in
      let outside : Among (before ++ behind) r → ⊥ =
      λ on.
      elim touch [
        | inl left ↦ not_outside r one.drain n on (device_named cell one one.drain card.1 (0, refl)) low high (ap (λ (x : Device). x.left.0) card.2 ∙ left)
        | inr right ↦ not_outside r one.source n on (device_named cell one one.source card.1 (2, refl)) low high (ap (λ (x : Device). x.right.0) card.2 ∙ right)
      ] in
      elim (among_either before (places_in t depth p ++ behind) r (subst (λ (ps : List Place). Among ps r) split.whole place.1)) [
        | inl early ↦ absurd (outside (among_left before behind r early))
        | inr rest ↦ elim (among_either (places_in t depth p) behind r rest) [
          | inl on ↦ inside on
          | inr late ↦ absurd (outside (among_right before behind r late))
        ]
      ]

  -- ---- nets

  pub size_all : size_inside t depth p.cell ≡ size_inside t deepest p.cell
  size_all = size_deeper t depth rest_is.0 p within ∙ ap (λ (n : ℕ). size_inside t n p.cell) rest_is.1

  -- a plain net behind the ports is an own net
  pub plain_inside : (n : ℕ) → n < base + size_inside t deepest p.cell → base ≤ n → IsPlain (flat_circuit_of t) (at n)
  plain_inside n lt le =
      let far = net_high t p n le in
      let same = size_all in
      let last : ℕ = (top_place t).base + size_inside t deepest t.cell in
      let range = bounds t before behind depth p (top_place t).base last (subst (λ (ps : List Place). AreInRow t ps (top_place t).base last) split.whole (all_in_row t)) in
      let low = range.0 in
      let high = range.1 in
      plain_behind t (at n) (omega (arith, far, low)) (omega (arith, far, high, lt, same, le))

  -- a net of the cell alone is in range
  pub net_inside : (n : ℕ) → IsPlain (flat_circuit_of own) n → n < base + size_inside t depth p.cell
  unfolding flat_circuit_of
  net_inside n plain =
      let less = slice_get_within (flat_nets own) n plain.0 plain.1 in
      let count = net_count own in
      let same = size_all in
      omega (arith, less, count, same)

  -- a channel of the cell alone behind the ports is at an own net
  own_channel : (d : Device) (n : ℕ) → Among (flat_devices own) d → Touches d n → base ≤ n → IsPlain (flat_circuit_of own) n
  own_channel d n m touch le =
      let place = among_flat_map (devices_at own) (all_places own) d m in
      let card = among_map (flat_device own place.0) (cell_at t.design place.0.cell).devices d place.2 in
      let q = place.0 in
      let cell = cell_at t.design q.cell in
      let one = card.0 in
      let named : (name : List ℕ) → Among (one.drain ∷ one.gate ∷ one.source ∷ []) name → net_at own q name ≡ n → IsPlain (flat_circuit_of own) n =
      λ name on is.
      let lt = name_inside own q name place.1 (device_named cell one name card.1 on) in
      plain_behind own n le (subst (λ (k : ℕ). k < base + size_inside t deepest p.cell) is lt) in
      elim touch [
        | inl left ↦ named one.drain (0, refl) (ap (λ (x : Device). x.left.0) card.2 ∙ left)
        | inr right ↦ named one.source (2, refl) (ap (λ (x : Device). x.right.0) card.2 ∙ right)
      ]

  -- ---- holds

  -- a name on no card, which is a port, is shifted too
  port_fits : (q r : Place) → FitsPlace q r → (name : List ℕ) → has_name (cell_at t.design r.cell).ports name ≡ true → net_at t r name ≡ at (net_at own q name)
  unfolding net_at
  port_fits q r fits name h = by_place (name_placed (cell_at t.design r.cell).ports name h) (supply_of t.rules name)
    where
      at_supply : (value : Bool) → supply_net value ≡ at (supply_net value)
      at_supply true = sym (supply_above t p tied 1 (omega arith))
      at_supply false = sym (supply_above t p tied 0 (omega arith))

      by_place : (k : ℕ) × (place_of (cell_at t.design r.cell).ports name ≡ Some k) → (s : Option Bool)
          → unwrap_or (option_or (option_map supply_net s) (option_or (port_net (cell_at t.design r.cell) r name) (global_net t name))) (own_net t (cell_at t.design r.cell) r name)
          ≡ at (unwrap_or (option_or (option_map supply_net s) (option_or (port_net (cell_at t.design q.cell) q name) (global_net own name))) (own_net own (cell_at t.design q.cell) q name))
      by_place k (Some value) = at_supply value
      by_place k None =
          let there = subst (λ (n : ℕ). place_of (cell_at t.design n).ports name ≡ Some k.0) fits.place.cell k.1 in
          let tie : ℕ → List ℕ → ℕ = λ n nets. unwrap_or (slice_get nets n) 0 in
          let fitting = same_Some (tie k.0 (map at q.ports)) (at (tie k.0 q.ports)) (port_by at (supply_above t p tied 0 (omega arith)) q.ports (Some k.0)) in
          ap (λ (o : Option ℕ). unwrap_or (option_or (option_map (λ (n : ℕ). tie n r.ports) o) (global_net t name)) (own_net t (cell_at t.design r.cell) r name)) k.1
          ∙ ap (tie k.0) fits.place.ports
          ∙ fitting
          ∙ sym (ap (λ (o : Option ℕ). at (unwrap_or (option_or (option_map (λ (n : ℕ). tie n q.ports) o) (global_net own name)) (own_net own (cell_at t.design q.cell) q name))) there)

  name_fits : (q r : Place) → FitsPlace q r → (name : List ℕ) → is_net_in (cell_at t.design r.cell) name ≡ true → net_at t r name ≡ at (net_at own q name)
  name_fits q r fits name is =
      elim (or_cases (has_name (cell_at t.design r.cell).ports name) (has_name (mentions (cell_at t.design r.cell)) name) is) [
        | inl port ↦ port_fits q r fits name port
        | inr mention ↦ fits.nets name mention
      ]

  -- a rule that falls on an own net falls on that net of the cell alone
  falls_inside : (design : IsDesign t.design) (nets : AreHoldNets t.design t.rules) (some : t.cell < length t.design.cells) (n : ℕ) → base ≤ n → n < base + size_inside t depth p.cell → FallsThere t (at n) → FallsThere own n
  falls_inside design nets some n low high falls =
      elim (among_either before (places_in t depth p ++ behind) r (subst (λ (ps : List Place). Among ps r) split.whole falls.2)) [
        | inl early ↦ absurd (outside (among_left before behind r early))
        | inr rest ↦ elim (among_either (places_in t depth p) behind r rest) [
          | inl on ↦ inside on
          | inr late ↦ absurd (outside (among_right before behind r late))
        ]
      ]
    where
      r : Place
      r = falls.0

      rule : HoldRule
      rule = falls.1

      parts : (bytes_eq rule.cell (cell_at t.design r.cell).name ≡ true) × ((net_at t r rule.net == at n) ≡ true)
      parts = and_parts (bytes_eq rule.cell (cell_at t.design r.cell).name) (net_at t r rule.net == at n) falls.4

      is : is_net_in (cell_at t.design r.cell) rule.net ≡ true
      is = hold_named t.design t.rules design nets r.cell (cells_there t some r falls.2) rule falls.3 parts.0

      same : net_at t r rule.net ≡ at n
      same = eqb-true (net_at t r rule.net) (at n) parts.1

      outside : Among (before ++ behind) r → ⊥
      outside on = not_outside r rule.net n on is low high same

      inside : Among (places_in t depth p) r → FallsThere own n
      inside on =
          let q = zip_right FitsPlace (all_places own) (places_in t depth p) r shifted on in
          let there : is_net_in (cell_at t.design q.0.cell) rule.net ≡ true = subst (λ (k : ℕ). is_net_in (cell_at t.design k) rule.net ≡ true) q.2.place.cell is in
          let less = name_inside own q.0 rule.net q.1 there in
          let sizes = size_all in
          let equal = sym (name_fits q.0 r q.2 rule.net is) ∙ same in
          let net : net_at own q.0 rule.net ≡ n = elim (nets_apart t p number depth before behind split tied none (net_at own q.0 rule.net) n (omega (arith, less, sizes)) high equal) [
            | inl one ↦ one
            | inr both ↦ absurd (let small = both.1 in omega (arith, small, low))
          ] in (
            q.0,
            rule,
            q.1,
            falls.3,
            and_from (bytes_eq rule.cell (cell_at t.design q.0.cell).name) (net_at own q.0 rule.net == n) (subst (λ (k : ℕ). bytes_eq rule.cell (cell_at t.design k).name ≡ true) q.2.place.cell parts.0) (eq-eqb (net_at own q.0 rule.net) n net),
          )

  pub own_unheld : (holds : (flat_circuit_of own).holds ≡ []) → IsDesign t.design → AreHoldNets t.design t.rules → t.cell < length t.design.cells → (n : ℕ) → base ≤ n → IsPlain (flat_circuit_of own) n → IsHeld (flat_circuit_of t) (at n) → ⊥
  unfolding flat_circuit_of
  own_unheld holds design nets some n low plain held =
      none_falls own holds n (slice_get_within (flat_nets own) n plain.0 plain.1) (falls_inside design nets some n low (net_inside n plain) (held_by t (at n) held))

  -- ---- the whole

  module _ (c : Circuit) (shows : ShowsInside t p depth before behind c) where
    -- what has the same nets has the same plain nets and supplies
    same_plain : (n : ℕ) → IsPlain (flat_circuit_of t) n → IsPlain c n
    unfolding flat_circuit_of
    same_plain n plain = (plain.0, subst (λ (nets : List FlatNet). At nets n plain.0) (sym shows.nets) plain.1, plain.2)

    same_supply : (n : ℕ) (value : Bool) → IsSupply (flat_circuit_of t) n value → IsSupply c n value
    unfolding flat_circuit_of
    same_supply n value s = (s.0, subst (λ (nets : List FlatNet). At nets n s.0) (sym shows.nets) s.1, s.2)

    pub there : (d : Device) → Among (flat_devices own) d → (e : Device) × Among c.devices e × IsImage at d e
    there d m =
        let place = among_flat_map (devices_at own) (all_places own) d m in
        let card = among_map (flat_device own place.0) (cell_at t.design place.0.cell).devices d place.2 in
        let r = zip_left FitsPlace (all_places own) (places_in t depth p) place.0 shifted place.1 in
        let on : Among (cell_at t.design r.0.cell).devices card.0 = subst (λ (k : ℕ). Among (cell_at t.design k).devices card.0) (sym r.2.place.cell) card.1 in (
          flat_device t r.0 card.0,
          shows.there r.0 card.0 r.1 on,
          subst (λ (x : Device). IsImage at x (flat_device t r.0 card.0)) card.2 (image place.0 r.0 card.0 r.2 on),
        )

    -- no output pin is at an own net
    no_pin : (out : OutputPin) (n : ℕ) → Among (output_pins c) out → base ≤ n → n < base + size_inside t depth p.cell → out.pin.net.0 ≡ at n → ⊥
    no_pin out n m low high same =
        let r = shows.pins out m in
        let far = net_high t p n low in
        elim (split.tied r.0 out.pin.net.0 r.1 r.2) [
          | inl less ↦ absurd (omega (arith, less, same, far))
          | inr more ↦ absurd (omega (arith, more, same, far, low, high))
        ]

    module _ (exposed : ℕ → Bool) (drive : ℕ → ℕ) (named : NamedSupplies t.rules (cell_at t.design p.cell).ports roles) (holds : (flat_circuit_of own).holds ≡ [])
        (design : IsDesign t.design) (nets : AreHoldNets t.design t.rules) (some : t.cell < length t.design.cells)
        (ports : HasPlacedPorts (flat_circuit_of own) c at base exposed drive) where
      supplies : (n : ℕ) (value : Bool) → IsSupply (flat_circuit_of own) n value → IsSupply c (at n) value
      supplies n value s =
          let low = supply_low own named n value s in
          let is : at n ≡ cond value 1 0 = supply_above t p tied n (subst (λ (k : ℕ). k < 2) (sym low) (small value)) ∙ low in
          subst (λ (k : ℕ). IsSupply c k value) (sym is) (same_supply (cond value 1 0) value (supply_there t value))
        where
          small : (v : Bool) → cond v 1 0 < 2
          small true = omega arith
          small false = omega arith

      pub placed : IsPlaced (flat_circuit_of own) c at exposed drive
      unfolding flat_circuit_of
      placed = record {
        source = same_source (flat_circuit_of own) c (sym shows.source);
        no_holds = holds;
        no_wholes = refl;
        channels = λ d n m touch.
            elim (cases_lt n base) [
              | inl low ↦ ports.channels d n m touch low
              | inr high ↦ inl (own_channel d n m touch high)
            ];
        supplies = supplies;
        plain = λ n plain.
            elim (cases_lt n base) [
              | inl low ↦ ports.plain n low plain
              | inr high ↦ same_plain (at n) (plain_inside n (let lt = net_inside n plain in let same = size_all in omega (arith, lt, same)) high)
            ];
        exposed_plain = ports.exposed_plain;
        there = there;
        others = λ e n m plain touch.
            elim (cases_lt n base) [
              | inl low ↦ ports.others e n low m plain touch
              | inr high ↦ inl (own_image e n (shows.devices e m) high (net_inside n plain) touch)
            ];
        unheld = λ n plain held.
            elim (cases_lt n base) [
              | inl low ↦ ports.unheld n low plain held
              | inr high ↦ own_unheld holds design nets some n high plain (shows.holds (at n) held)
            ];
        pins = λ out n m plain is.
            elim (cases_lt n base) [
              | inl low ↦ ports.pins out n low m plain is
              | inr high ↦ absurd (no_pin out n m high (net_inside n plain) is)
            ];
        pins_plain = ports.pins_plain;
        apart = λ m n first second same.
            elim (nets_apart t p number depth before behind split tied none m n (net_inside m first) (net_inside n second) same) [
              | inl equal ↦ inl equal
              | inr low ↦ ports.apart m n low.0 low.1 first second same
            ];
      }

-- ---- the laws

-- a place stands at its number
split_at : (t : Top) (number : ℕ) (p : Place) (depth : ℕ) (before behind : List Place) → IsSplit t number p depth before behind → At (all_places t) number p
split_at t number p depth before behind split =
    let e : length before + 0 ≡ number = let is = split.number_is in omega (arith, is) in
    subst (λ (ps : List Place). At ps number p) (sym split.whole)
    (subst (λ (n : ℕ). At (before ++ (places_in t depth p ++ behind)) n p) e (at_back before (places_in t depth p ++ behind) 0 p (first depth)))
  where
    first : (d : ℕ) → At (places_in t d p ++ behind) 0 p
    first zero = refl
    first (suc d) = refl

pub instance_is_placed : InstanceIsPlaced
instance_is_placed t pairing i p depth before behind c exposed drive design ordered there ties split none roles holds shows ports =
    placed t pairing.ports (suc i) p depth before behind split (instances_are_tied t i p ordered.cards ties (split_at t (suc i) p depth before behind split)) none
    (split.within (ordered_is_within_depth t t.cell ordered there)) c shows exposed drive (λ at name role value a b same. (roles.supplies at name role value a b).0 same) holds design (hold_nets_are_there t.design t.rules ordered) there ports

pub flat_circuit_shows_inside : FlatCircuitShowsInside
unfolding flat_circuit_of
flat_circuit_shows_inside t number p depth before behind split = record {
  nets = refl;
  there = λ r card m on.
      flat_map_among (λ (at : Place). map (flat_device t at) (cell_at t.design at.cell).devices) (all_places t) r (flat_device t r card)
      (subst (λ (ps : List Place). Among ps r) (sym split.whole) (among_right before (places_in t depth p ++ behind) r (among_left (places_in t depth p) behind r m)))
      (map_among (flat_device t r) (cell_at t.design r.cell).devices card on);
  devices = λ e m. m;
  holds = λ n held. held;
  pins = λ out m. absurd (none-some out m.1);
  source = refl;
}
