-- What a shut set of a cell shows in the circuit around it, where its gates have their bits.
use Rattle.std.proofs.Common.{◌≡◌, ◌⊎◌, ℕ, ◌||◌, Bool, true, false, List, filter, length, ap, subst, sym, refl, ◌∙◌, inl, inr}
use Rattle.std.proofs.lemmas.Bool.{false≢true, or_cases, or_left, or_right}
use Rattle.cell_inside.proofs.AssuredLaws.{response_by}
use Rattle.cell_inside.proofs.Copies.{touched}
use Rattle.cell_inside.proofs.Images.{image_conducts, image_in}
use Rattle.cell_inside.proofs.NetKinds.{plain_is, plain_not_given, supply_given}
use Rattle.cell_inside.proofs.OutputPins.{pin_found}
use Rattle.cell_inside.proofs.OutsideLaws.{outside_changes_nothing}
use Rattle.cell_inside.specs.Inside.{IsCopy, IsInside, IsOutside, IsShared, Touches}
use Rattle.cell_inside.specs.Placed.{IsPlaced, IsSupply, alone}
use Rattle.cell_inside.specs.Replaced.{IsJoined, itself, onward}
use Rattle.vrt_model.proofs.Bounded.{response_inside}
use Rattle.vrt_model.proofs.Filtered.{among_devices, among_kept, device_among, filter_among}
use Rattle.vrt_model.proofs.Laws.{turned}
use Rattle.vrt_model.proofs.Locality.{fixed_given}
use Rattle.vrt_model.proofs.Members.{at_none}
use Rattle.vrt_model.proofs.Networks.{given_source, network_finite, network_levels}
use Rattle.vrt_model.specs.Known.{IsPlain, IsShut, is_plain_at}
use Rattle.vrt_model.specs.Levels.{source_level}
use Rattle.vrt_model.specs.Lists.{Among, At}
use Rattle.vrt_model.specs.Networks.{Covers, HasLevels, HasRanges, IsFinite}
use Rattle.vrt_model.specs.Path.{IsOn, IsRoot, Joins, Network, Root}
use Rattle.vrt_model.specs.Reading.{HasGivenBit, IsReading, conducts, conducts_at, devices_of}
use Rattle.vrt_model.specs.Response.{IsResponse, Response}
use Rattle.vrt_model.specs.State.{OutputPin, State, network_of, output_pins}
use Rattle.vrt_model.specs.declared.circuit.Circuit.{Circuit}
use Rattle.vrt_model.specs.declared.circuit.Device.{Device}
use Rattle.vrt_model.specs.declared.circuit.Hold.{Hold}
use Rattle.vrt_model.specs.declared.circuit.NetKind.{NetKind}
use Rattle.vrt_model.specs.declared.rules.Phase.{Phase}
use Rattle.vrt_model.specs.declared.whole.Whole.{Whole}
use Rattle.vrt_model.specs.declared.whole.WholePin.{WholePin}
use Rattle.whole_solutions.proofs.GivenShow.{root_value}

-- a supply has its bit in each reading
pub supply_bit : (c : Circuit) (phase : Phase) (inputs reading : ℕ → Bool) → IsReading c phase inputs reading → (n : ℕ) (value : Bool) → IsSupply c n value → reading n ≡ value
supply_bit c phase inputs reading is n value supply = subst (λ (kind : NetKind). HasGivenBit phase inputs kind n (reading n)) supply.2 (is n supply.0 supply.1)

module _ (cell c : Circuit) (at : ℕ → ℕ) (exposed : ℕ → Bool) (drive : ℕ → ℕ) (phase : Phase) (above : ℕ → Bool) (s : State)
    (ranges : HasRanges cell) (all_ranges : HasRanges c) (placed : IsPlaced cell c at exposed drive) (supplies : (n : ℕ) (value : Bool) → IsSupply c n value → s.reading n ≡ value)
    (inside reading held driven : ℕ → Bool) (shut : IsShut cell phase inside reading) (reads : IsReading cell phase reading reading) (hidden : (n : ℕ) → inside n ≡ true → exposed n ≡ true → ⊥)
    (same : (m l : ℕ) (d : Device) → inside m ≡ true → Among (devices_of true cell) d → Joins d m l → reading d.gate.0 ≡ s.reading (at d.gate.0)) where
  abbrev set_state : State
  set_state = record { reading = reading; driven = driven }

  -- the bits above
  abbrev cell_state : State
  cell_state = record { reading = λ n. s.reading (at n); driven = λ place. false }

  abbrev none_held : ℕ → Bool
  none_held place = false

  abbrev set_network : Network
  set_network = network_of cell true held set_state

  abbrev circuit_network : Network
  circuit_network = network_of c true above s

  -- a device at a net of the set
  abbrev near : Device → Bool
  near d = inside d.left.0 || inside d.right.0

  -- the cell with the bits above, and with the devices at the set alone
  abbrev part : Network
  part = let w : Network = network_of cell true none_held cell_state in record w { devices = filter near (devices_of true cell) }

  abbrev IsEdge : ℕ → Type 0
  IsEdge n = (value : Bool) × IsSupply cell n value

  -- ---- nets and devices at the set

  plain_in : (n : ℕ) → inside n ≡ true → IsPlain cell n
  plain_in n ins = (shut.plain n ins).0

  no_hold : (place : ℕ) (hold : Hold) → At cell.holds place hold → ⊥
  no_hold place hold e = at_none place hold (subst (λ (hs : List Hold). At hs place hold) placed.no_holds e)

  no_pin : (out : OutputPin) → Among (output_pins cell) out → ⊥
  no_pin out m = at_none m.0 out (subst (λ (ws : List Whole). At (output_pins (record cell { wholes = ws })) m.0 out) placed.no_wholes m.1)

  joined : (n m : ℕ) (d : Device) → inside n ≡ true → Among (devices_of true cell) d → Joins d n m → conducts reading d ≡ true → (inside m ≡ true) ⊎ IsEdge m
  joined n m d ins a j on =
      elim (shut.joined n m d ins a j on) [
        | inl i ↦ inl i
        | inr f ↦ elim (placed.channels d m (device_among true cell d a).0 (touched d n m j)) [
          | inl plain ↦ absurd (plain_not_given cell m f.1.0 plain f.1.1 (fixed_given phase f.1.0.kind f.0 f.1.2))
          | inr supply ↦ inr supply
        ]
      ]

  on_reading : (n m : ℕ) (d : Device) → inside n ≡ true → Among (devices_of true cell) d → Joins d n m → conducts cell_state.reading d ≡ true → conducts reading d ≡ true
  on_reading n m d ins a j on = subst (λ (b : Bool). conducts_at d.kind b ≡ true) (sym (same n m d ins a j)) on

  near_at : (d : Device) (n : ℕ) → Touches d n → inside n ≡ true → near d ≡ true
  near_at d n (inl e) ins = or_left (inside d.left.0) (inside d.right.0) (subst (λ (x : ℕ). inside x ≡ true) (sym e) ins)
  near_at d n (inr e) ins = or_right (inside d.left.0) (inside d.right.0) (subst (λ (x : ℕ). inside x ≡ true) (sym e) ins)

  of_part : (d : Device) → IsOn part d → Among (devices_of true cell) d × (near d ≡ true)
  of_part d on = filter_among near (devices_of true cell) d on.0

  -- ---- the set alone, and with the bits above

  no_root : (h : ℕ → Bool) (x : State) (root : Root) → IsRoot (network_of cell true h x) root → inside root.net ≡ true → ⊥
  no_root h x root (inl g) ins = plain_not_given cell root.net g.0 (plain_in root.net ins) g.1 g.2
  no_root h x root (inr (inl r)) ins = no_hold r.0 r.1 r.2
  no_root h x root (inr (inr o)) ins = let out = pin_found cell o.0 o.1 o.2 in no_pin out.0 (o.0, out.1)

  root_moves : (h k : ℕ → Bool) (x y : State) (root : Root) → IsRoot (network_of cell true h x) root → x.reading root.net ≡ y.reading root.net → IsRoot (network_of cell true k y) root
  root_moves h k x y root (inl g) e = inl (g.0, g.1, g.2, g.3, g.4 ∙ e)
  root_moves h k x y root (inr (inl r)) e = absurd (no_hold r.0 r.1 r.2)
  root_moves h k x y root (inr (inr o)) e = let out = pin_found cell o.0 o.1 o.2 in absurd (no_pin out.0 (o.0, out.1))

  edge_same : (n : ℕ) → IsEdge n → reading n ≡ s.reading (at n)
  edge_same n e =
      supply_bit cell phase reading reading reads n e.0 e.1 ∙ sym (supplies (at n) e.0 (placed.supplies n e.0 e.1))

  covers : Covers set_network part (λ n. inside n ≡ true) IsEdge
  covers = record {
    source = refl;
    roots = λ root r where_at. elim where_at [
      | inl ins ↦ absurd (no_root held set_state root r ins)
      | inr e ↦ root_moves held none_held set_state cell_state root r (edge_same root.net e.0)
    ];
    devices = λ m n d on j ins. (
      among_kept near (devices_of true cell) d on.0 (near_at d n (touched d m n j) ins),
      subst (λ (b : Bool). conducts_at d.kind b ≡ true) (same n m d ins on.0 (turned d m n j)) on.1,
    );
    bounded = λ m n d on j ins. joined n m d ins on.0 (turned d m n j) on.1;
    edge = λ n e. given_source cell true held set_state ranges n e.1.0 e.1.1 (supply_given cell n e.0 e.1);
  }

  covers_back : Covers part set_network (λ n. inside n ≡ true) IsEdge
  covers_back = record {
    source = refl;
    roots = λ root r where_at. elim where_at [
      | inl ins ↦ absurd (no_root none_held cell_state root r ins)
      | inr e ↦ root_moves none_held held cell_state set_state root r (sym (edge_same root.net e.0))
    ];
    devices = λ m n d on j ins. let a = (of_part d on).0 in (a, on_reading n m d ins a (turned d m n j) on.1);
    bounded = λ m n d on j ins. let a = (of_part d on).0 in joined n m d ins a (turned d m n j) (on_reading n m d ins a (turned d m n j) on.1);
    edge = λ n e. given_source cell true none_held cell_state ranges n e.1.0 e.1.1 (supply_given cell n e.0 e.1);
  }

  part_levels : HasLevels part
  part_levels =
      let all = network_levels cell true none_held cell_state ranges in
      record { roots = all.roots; devices = λ d on. all.devices d ((of_part d on).0, on.1) }

  part_finite : IsFinite part (length cell.nets) (source_level cell)
  part_finite =
      let all = network_finite cell true none_held cell_state ranges in
      record {
        bounded = record { roots = all.bounded.roots; hops = λ m n d on j. all.bounded.hops m n d ((of_part d on).0, on.1) j };
        most = all.most;
      }

  -- ---- the set in the circuit

  -- a supply is a source of one value in both
  shared : (n : ℕ) (value : Bool) → IsSupply cell n value → IsShared part circuit_network at n
  shared n value here =
      let there = placed.supplies n value here in
      record {
        value = s.reading (at n);
        alone = record {
          root = record { net = n; level = source_level cell; value = s.reading (at n) };
          is = inl (here.0, here.1, supply_given cell n value here, refl, refl);
          net = refl;
          level = refl;
          value = refl;
          only = λ other r e full. root_value cell ranges (λ out m. absurd (no_pin out m)) true none_held cell_state n (here.0, here.1, supply_given cell n value here) other r e full;
        };
        above = record {
          root = record { net = at n; level = source_level c; value = s.reading (at n) };
          is = inl (there.0, there.1, supply_given c (at n) value there, refl, refl);
          net = refl;
          level = refl;
          value = refl;
          only = λ other r e full. root_value c all_ranges placed.pins_plain true above s (at n) (there.0, there.1, supply_given c (at n) value there) other r e full;
        };
      }

  -- nets that devices touch are apart from those of the set
  one_net : (m n : ℕ) (d : Device) → Among (devices_of true cell) d → Touches d m → inside n ≡ true → at m ≡ at n → m ≡ n
  one_net m n d a t ins e =
      elim (placed.channels d m (device_among true cell d a).0 t) [
        | inl plain ↦ elim (placed.apart m n plain (plain_in n ins) e) [ inl one ↦ one | inr both ↦ absurd (hidden n ins both.1) ]
        | inr supply ↦
            let up = placed.supplies m supply.0 supply.1 in
            absurd (plain_not_given c (at m) up.0 (subst (IsPlain c) (sym e) (placed.plain n (plain_in n ins))) up.1 (supply_given c (at m) supply.0 up))
      ]

  end_at : (m n : ℕ) → m ≡ n → (inside m ≡ true) ⊎ IsEdge m → (inside n ≡ true) ⊎ IsShared part circuit_network at n
  end_at m n e (inl ins) = inl (subst (λ (x : ℕ). inside x ≡ true) e ins)
  end_at m n e (inr supply) = inr (subst (IsShared part circuit_network at) e (shared m supply.0 supply.1))

  ends : (d : Device) (n : ℕ) → IsOn part d → Touches d n → (inside n ≡ true) ⊎ IsShared part circuit_network at n
  ends d n on t =
      elim (or_cases (inside d.left.0) (inside d.right.0) (of_part d on).1) [
        | inl l ↦
            let far = joined d.left.0 d.right.0 d l (of_part d on).0 (inl (refl, refl)) (on_reading d.left.0 d.right.0 d l (of_part d on).0 (inl (refl, refl)) on.1) in
            elim t [ inl e ↦ end_at d.left.0 n e (inl l) | inr e ↦ end_at d.right.0 n e far ]
        | inr r ↦
            let far = joined d.right.0 d.left.0 d r (of_part d on).0 (inr (refl, refl)) (on_reading d.right.0 d.left.0 d r (of_part d on).0 (inr (refl, refl)) on.1) in
            elim t [ inl e ↦ end_at d.left.0 n e far | inr e ↦ end_at d.right.0 n e (inl r) ]
      ]

  on_there : (d : Device) → IsOn part d → (e : Device) × IsOn circuit_network e × IsCopy at d e
  on_there d on =
      let listed = device_among true cell d (of_part d on).0 in
      let e = placed.there d listed.0 in
      (e.0, (among_devices true c e.0 e.1 (image_in true at d e.0 e.2 ∙ listed.1), image_conducts s at d e.0 e.2 ∙ on.1), (e.2.level, e.2.left, e.2.right))

  -- no other device, and no root, is at the set
  no_device : (e : Device) (n : ℕ) → IsOn circuit_network e → IsOutside part at e → inside n ≡ true → Touches e (at n) → ⊥
  no_device e n on out ins t =
      let listed = device_among true c e on.0 in
      elim (placed.others e n listed.0 (plain_in n ins) t) [
        | inr met ↦ hidden n ins met.0
        | inl own ↦
            let d : Device = own.0 in
            let a = among_devices true cell d own.1 (sym (image_in true at d e own.2) ∙ listed.1) in
            let there : Touches d n =
            elim t [
              | inl q ↦ inl (one_net d.left.0 n d a (inl refl) ins (sym own.2.left ∙ q))
              | inr q ↦ inr (one_net d.right.0 n d a (inr refl) ins (sym own.2.right ∙ q))
            ] in
            out d (among_kept near (devices_of true cell) d a (near_at d n there ins), sym (image_conducts s at d e own.2) ∙ on.1) (own.2.level, own.2.left, own.2.right)
      ]

  no_root_there : (root : Root) (n : ℕ) → IsRoot circuit_network root → inside n ≡ true → root.net ≡ at n → ⊥
  no_root_there root n r ins e =
      elim r [
        | inl g ↦ plain_not_given c root.net g.0 (subst (IsPlain c) (sym e) (placed.plain n (plain_in n ins))) g.1 g.2
        | inr other ↦ elim other [
          | inl h ↦ placed.unheld n (plain_in n ins) (h.1, (h.0, h.2), sym h.3 ∙ e)
          | inr o ↦
              let out = pin_found c o.0 o.1 o.2 in
              hidden n ins (placed.pins out.0 n (o.0, out.1) (plain_in n ins) (ap (λ (q : WholePin). q.net.0) out.2 ∙ sym o.3 ∙ e)).0
        ]
      ]

  part_inside : IsInside part circuit_network at inside (λ n. false) drive
  part_inside = record {
    source = placed.source;
    no_root = λ root r ins. no_root none_held cell_state root r ins;
    bounded = ends;
    there = on_there;
    exposed_inside = λ n e. absurd (false≢true e);
    devices = λ e n on out ins t. absurd (no_device e n on out ins t);
    roots = λ root n r ins e. absurd (no_root_there root n r ins e);
    apart = λ d m n on t ins e. inl (one_net m n d (of_part d on).0 t ins e);
    drives = λ n e. absurd (false≢true e);
    not_above = λ root hops n path out e last. absurd (false≢true e);
  }

  -- a net of the set responds in the circuit as in the set
  pub set_responds : (n : ℕ) (r : Response) → inside n ≡ true → IsResponse set_network n r → IsResponse circuit_network (at n) r
  set_responds n r ins responds =
      let law =
      outside_changes_nothing part circuit_network at inside (λ m. false) drive (length cell.nets) (length c.nets) part_levels (network_levels c true above s all_ranges)
      part_finite (network_finite c true above s all_ranges) (λ m e. absurd (false≢true e)) part_inside in
      elim law.2 [
        | inl fight ↦ absurd (false≢true fight.1)
        | inr alike ↦
            response_by part circuit_network n (at n) (λ u. alike n u ins) r
            (response_inside set_network part (λ m. inside m ≡ true) IsEdge (network_levels cell true held set_state ranges) part_levels covers covers_back n r ins responds)
      ]

  -- what conducting devices of the cell join to the set is in it
  pub joined_in : (m n : ℕ) → IsJoined (alone cell true at s) (is_plain_at cell) m n → inside n ≡ true → inside m ≡ true
  joined_in m n (itself plain) ins = ins
  joined_in m n (onward {l = l} d t on j plain) ins =
      joined_in m l t (elim (joined n l d ins on.0 (turned d l n j) (on_reading n l d ins on.0 (turned d l n j) on.1)) [
        | inl i ↦ i
        | inr e ↦ absurd (plain_not_given cell l e.1.0 (plain_is cell l (last_plain m l t)) e.1.1 (supply_given cell l e.0 e.1))
      ])
    where
      last_plain : (x y : ℕ) → IsJoined (alone cell true at s) (is_plain_at cell) x y → is_plain_at cell y ≡ true
      last_plain x y (itself p) = p
      last_plain x y (onward e u i k p) = p
