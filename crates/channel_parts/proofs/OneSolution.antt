-- A circuit whose nets have ranks has in a phase exactly one solution, for any bits of the inputs and holds.
use Rattle.std.proofs.Common.{◌≡◌, ℕ, ◌<◌, ◌≤◌, ◌⊎◌, ◌||◌, ◌&&◌, Bool, true, false, not, List, [], length, arith, Some, None, Option, slice_get, ap, subst, sym, refl, ◌∙◌, inl, inr}
use Rattle.std.specs.Prelude.{◌↔◌, is_some, option_map, unwrap_or}
use Rattle.std.proofs.lemmas.Bool.{or_cases, or_left, or_right, and_parts, and_from, not-true, not_from_false, false≢true, cases_Bool}
use Rattle.std.proofs.lemmas.Option.{none-some, same_Some}
use Rattle.vrt_model.specs.Networks.{Covers, HasLevels, IsSource, HasRanges}
use Rattle.channel_parts.proofs.Found.{solution, solution_fixed, solution_shows, shows_solution}
use Rattle.channel_parts.proofs.Unique.{solution_unique}
use Rattle.channel_parts.proofs.DriveLaws.{determined_drives}
use Rattle.channel_parts.specs.OneSolution.{AreDetermined, AreObserved, HasDrives, HasKnownBits, HasOneSolution, KnownStand, SameBelow}
use Rattle.known_nets.proofs.KnownShow.{known_in_solution, known_shows}
use Rattle.known_nets.proofs.NetKinds.{given_or_plain}
use Rattle.known_nets.specs.KnownTables.{IsKnownTable}
use Rattle.known_nets.specs.Wired.{IsWired}
use Rattle.vrt_model.proofs.Decidable.{reaches_test, reaches_test_ok}
use Rattle.vrt_model.proofs.Filtered.{device_among}
use Rattle.vrt_model.proofs.GatesGiven.{IsGiven, base_reading, given_once, plain_any}
use Rattle.vrt_model.proofs.GivenNets.{clear_from_source, source_strength}
use Rattle.vrt_model.proofs.Members.{all_among}
use Rattle.vrt_model.proofs.Networks.{given_source, network_finite, network_levels}
use Rattle.vrt_model.proofs.Ranked.{plain_not_given}
use Rattle.vrt_model.proofs.Scales.{least_below}
use Rattle.vrt_model.proofs.SameNetwork.{IsPartOf, response_same}
use Rattle.vrt_model.specs.Circuits.{IsDevice, IsHold}
use Rattle.vrt_model.specs.Constraints.{given_bit}
use Rattle.vrt_model.specs.Known.{HasFixedBit, HasGateArc, IsChannel, IsKnown, IsPlain, IsRanking, IsTogether, fixed, itself, onward, settled}
use Rattle.vrt_model.specs.Levels.{source_level}
use Rattle.vrt_model.specs.Lists.{At, Among}
use Rattle.vrt_model.specs.Path.{Hop, IsOn, IsOutputRoot, IsPath, IsRoot, Joins, Network, Root, end_of}
use Rattle.vrt_model.specs.Reading.{HasGivenBit, IsReading, conducts_at, devices_of, is_given}
use Rattle.vrt_model.specs.Response.{IsClear, IsResponse, IsStrength, Reaches, Response, Shows}
use Rattle.vrt_model.specs.Solution.{Agrees, IsSolution, SameObserved}
use Rattle.vrt_model.specs.State.{IsState, OutputPin, Setting, State, network_of, output_pins}
use Rattle.vrt_model.specs.declared.circuit.Circuit.{Circuit}
use Rattle.vrt_model.specs.declared.circuit.Device.{Device}
use Rattle.vrt_model.specs.declared.circuit.FlatNet.{FlatNet}
use Rattle.vrt_model.specs.declared.circuit.NetKind.{NetKind}
use Rattle.vrt_model.specs.declared.circuit.NetKind.TheVariants.{Supply, Clock, Input, Plain}
use Rattle.vrt_model.specs.declared.rules.Phase.{Phase}
use Rattle.vrt_model.specs.declared.whole.WholePin.{WholePin}
use Rattle.vrt_model.proofs.Bounded.{reaches_inside}
use Rattle.vrt_model.proofs.Laws.{shows_from, turned}
use Rattle.vrt_model.proofs.Lists.{at_map}
use Rattle.vrt_model.proofs.Tests.{some_or_none}

-- ---- lists, bits and kinds

given_found : (o : Option FlatNet) → unwrap_or (option_map (λ (net : FlatNet). is_given net.kind) o) false ≡ true → (net : FlatNet) × (o ≡ Some net) × (is_given net.kind ≡ true)
given_found None f = absurd (false≢true f)
given_found (Some net) f = (net, refl, f)

some_bit : (o : Option Bool) → is_some o ≡ true → (v : Bool) × (o ≡ Some v)
some_bit None f = absurd (false≢true f)
some_bit (Some v) f = (v, refl)

fixed_is_given : (phase : Phase) (inputs : ℕ → Bool) (kind : NetKind) (n : ℕ) (v : Bool) → HasFixedBit phase kind v → HasGivenBit phase inputs kind n v
fixed_is_given phase inputs (Supply value) n v h = h
fixed_is_given phase inputs (Clock clock) n v h = h
fixed_is_given phase inputs Input n v h = absurd h
fixed_is_given phase inputs Plain n v h = absurd h

-- ---- responses

shows_reaches : (w : Network) (n : ℕ) (v : Bool) → IsResponse w n (Shows v) → Reaches w n v
shows_reaches w n true s = s.0
shows_reaches w n false s = s.0

shows_only : (w : Network) (n : ℕ) (v u : Bool) → IsResponse w n (Shows v) → Reaches w n u → u ≡ v
shows_only w n true true s r = refl
shows_only w n true false s r = absurd (s.1 r)
shows_only w n false true s r = absurd (s.1 r)
shows_only w n false false s r = refl

-- ---- the circuit in a reading

module _ (c : Circuit) (phase : Phase) (setting : Setting) (ranges : HasRanges c) (observed : ℕ → Bool) (rank : ℕ → ℕ) (driven : (ℕ → Bool) → ℕ → Bool)
    (drives : HasDrives c phase setting.inputs observed rank driven) where
  abbrev pub state_of : (ℕ → Bool) → State
  state_of r = record { reading = r; driven = driven r }

  abbrev pub view : (ℕ → Bool) → Network
  view r = network_of c true setting.held (state_of r)

  state_is : (r : ℕ → Bool) → IsReading c phase setting.inputs r → IsState c phase setting.inputs (state_of r)
  state_is r is = record { reading = is; driven = λ at out e. drives.gives r is at out e }

  -- a state responds as its reading does
  state_part : (s : State) → IsState c phase setting.inputs s → IsPartOf (view s.reading) (network_of c true setting.held s)
  state_part s is = record {
    roots = λ root r. elim r [
      | inl g ↦ inl g
      | inr other ↦ elim other [ inl h ↦ inr (inl h) | inr o ↦ inr (inr (o.0, o.1, o.2, o.3, o.4, o.5 ∙ sym (bit o.0 o.1 o.2))) ]
    ];
    devices = λ d on. on;
  }
    where
      bit : (at : ℕ) (pin : WholePin) → At (view s.reading).outputs at pin → s.driven at ≡ driven s.reading at
      bit at pin e = let out = at_map (λ (o : OutputPin). o.pin) (output_pins c) at pin e in drives.one s is at out.0 out.1

  part_state : (s : State) → IsState c phase setting.inputs s → IsPartOf (network_of c true setting.held s) (view s.reading)
  part_state s is = record {
    roots = λ root r. elim r [
      | inl g ↦ inl g
      | inr other ↦ elim other [ inl h ↦ inr (inl h) | inr o ↦ inr (inr (o.0, o.1, o.2, o.3, o.4, o.5 ∙ bit o.0 o.1 o.2)) ]
    ];
    devices = λ d on. on;
  }
    where
      bit : (at : ℕ) (pin : WholePin) → At (view s.reading).outputs at pin → s.driven at ≡ driven s.reading at
      bit at pin e = let out = at_map (λ (o : OutputPin). o.pin) (output_pins c) at pin e in drives.one s is at out.0 out.1

  state_shows : (s : State) → IsState c phase setting.inputs s → (n : ℕ) (r : Response) → IsResponse (view s.reading) n r → IsResponse (network_of c true setting.held s) n r
  state_shows s is n r h = response_same (view s.reading) (network_of c true setting.held s) (state_part s is) (part_state s is) n r h

  levels : (r : ℕ → Bool) → HasLevels (view r)
  levels r = network_levels c true setting.held (state_of r) ranges

  source : (r : ℕ → Bool) (n : ℕ) → IsGiven c n → IsSource (view r) n
  source r n g = given_source c true setting.held (state_of r) ranges n g.0 g.1 g.2

  -- no output of a whole instance is at a given net
  no_pin : (r : ℕ → Bool) (n at : ℕ) (pin : WholePin) → IsGiven c n → At (view r).outputs at pin → pin.net.0 ≡ n → ⊥
  no_pin r n at pin g e is =
      let out = at_map (λ (o : OutputPin). o.pin) (output_pins c) at pin e in
      plain_not_given c n (subst (IsPlain c) (ap (λ (p : WholePin). p.net.0) out.2 ∙ is) (drives.plain at out.0 out.1)) g

  -- a net with a given value shows it
  given_shows : (r : ℕ → Bool) (n : ℕ) → IsGiven c n → IsResponse (view r) n (Shows (r n))
  given_shows r n g =
      shows_from (view r) n (r n) here only
    where
      here : Reaches (view r) n (r n)
      here = (record { net = n; level = source_level c; value = r n }, [], inl (g.0, g.1, g.2, refl, refl), source_strength (view r) (levels r) n (source r n g), refl, refl)

      -- the root of a path of the source level is the net itself
      own_value : (root : Root) → IsRoot (view r) root → root.net ≡ n → IsStrength (view r) root.net root.level → root.value ≡ r n
      own_value root is e strong =
          let top : source_level c ≤ root.level = strong.0 (record { net = n; level = source_level c; value = r n }) [] (inl (g.0, g.1, g.2, refl, refl)) (sym e) in
          elim is [
            | inl h ↦ h.4 ∙ ap r e
            | inr other ↦ elim other [
              | inl h ↦ absurd (let same = h.4 in let le = (all_among (IsHold c) c.holds h.1 ranges.holds (h.0, h.2)).size.1 in let below = least_below c in omega (arith, top, same, le, below))
              | inr o ↦ absurd (no_pin r n o.0 o.1 g o.2 (sym o.3 ∙ e))
            ]
          ]

      only : (u : Bool) → Reaches (view r) n u → u ≡ r n
      only u (root, hops, p, clear, e, is) =
          let none : hops ≡ [] = clear_from_source (view r) (levels r) root hops p clear (subst (IsSource (view r)) (sym e) (source r n g)) in
          let path : IsPath (view r) root [] = subst (IsPath (view r) root) none p in
          let strong : IsClear (view r) root [] = subst (IsClear (view r) root) none clear in
          let ends : root.net ≡ n = subst (λ (hs : List Hop). end_of root hs ≡ n) none e in
          sym is ∙ own_value root path ends strong

  same_given : (r q : ℕ → Bool) → IsReading c phase setting.inputs r → IsReading c phase setting.inputs q → (n : ℕ) → IsGiven c n → r n ≡ q n
  same_given r q okr okq n g = given_once phase setting.inputs g.0.kind n (r n) (q n) g.2 (okr n g.0 g.1) (okq n g.0 g.1)

-- ---- what a net shows depends on the observed nets of lower rank alone

module _ (c : Circuit) (phase : Phase) (setting : Setting) (ranges : HasRanges c) (observed : ℕ → Bool) (rank : ℕ → ℕ) (driven : (ℕ → Bool) → ℕ → Bool)
    (drives : HasDrives c phase setting.inputs observed rank driven) (stand : KnownStand c phase observed setting)
    (known : ℕ → Option Bool) (table : IsKnownTable c phase known)
    (gates : (d : Device) → Among (devices_of true c) d → observed d.gate.0 ≡ true)
    (within : (n : ℕ) → observed n ≡ true → n < length c.nets)
    (above : (m n : ℕ) → HasGateArc c phase m n → rank m < rank n) where
  abbrev pub seen_at : (ℕ → Bool) → Network
  seen_at r = view c phase setting ranges observed rank driven drives r

  abbrev pub ShowsAt : (ℕ → Bool) → ℕ → Bool → Type 0
  ShowsAt r n v = IsResponse (seen_at r) n (Shows v)

  abbrev pub IsOk : (ℕ → Bool) → Type 0
  IsOk r = HasKnownBits c phase setting.inputs observed r

  abbrev pub given_at : ℕ → Bool
  given_at m = unwrap_or (option_map (λ (net : FlatNet). is_given net.kind) (slice_get c.nets m)) false

  abbrev pub is_known_at : ℕ → Bool
  is_known_at m = observed m && is_some (known m)

  abbrev pub fixed_at : ℕ → Bool
  fixed_at m = given_at m || is_known_at m

  given_is : (m : ℕ) → given_at m ≡ true → IsGiven c m
  given_is m t = given_found (slice_get c.nets m) t

  is_given_is : (m : ℕ) → IsGiven c m → fixed_at m ≡ true
  is_given_is m g = or_left (given_at m) (is_known_at m) (subst (λ (o : Option FlatNet). unwrap_or (option_map (λ (net : FlatNet). is_given net.kind) o) false ≡ true) (sym g.1) g.2)

  known_is : (m : ℕ) → is_known_at m ≡ true → (v : Bool) × (observed m ≡ true) × IsKnown c phase m v
  known_is m t =
      let p = and_parts (observed m) (is_some (known m)) t in
      let k = some_bit (known m) p.1 in
      (k.0, p.0, (table m k.0).0 k.1)

  is_known_is : (m : ℕ) (v : Bool) → observed m ≡ true → known m ≡ Some v → fixed_at m ≡ true
  is_known_is m v o k = or_right (given_at m) (is_known_at m) (and_from (observed m) (is_some (known m)) o (ap is_some k))

  ok_fixed : (r q : ℕ → Bool) → IsOk r → IsOk q → (m : ℕ) → fixed_at m ≡ true → r m ≡ q m
  ok_fixed r q okr okq m f =
      elim (or_cases (given_at m) (is_known_at m) f) [
        | inl t ↦ same_given c phase setting ranges observed rank driven drives r q okr.0 okq.0 m (given_is m t)
        | inr t ↦ (let k = known_is m t in okr.1 m k.0 k.1 k.2 ∙ sym (okq.1 m k.0 k.1 k.2))
      ]

  ok_like : (r q : ℕ → Bool) → IsOk r → ((m : ℕ) → fixed_at m ≡ true → r m ≡ q m) → IsOk q
  ok_like r q ok h = (
    λ n net e. elim (cases_Bool (is_given net.kind)) [
      | inl g ↦ subst (HasGivenBit phase setting.inputs net.kind n) (h n (is_given_is n (net, e, g))) (ok.0 n net e)
      | inr g ↦ plain_any phase setting.inputs net.kind n (q n) g
    ],
    λ m v o k. sym (h m (is_known_is m v o ((table m v).1 k))) ∙ ok.1 m v o k,
  )

  shows_given : (r : ℕ → Bool) (n : ℕ) → IsGiven c n → ShowsAt r n (r n)
  shows_given r n g = given_shows c phase setting ranges observed rank driven drives r n g

  fixed_shows : (r : ℕ → Bool) → IsOk r → (m : ℕ) → fixed_at m ≡ true → ShowsAt r m (r m)
  fixed_shows r ok m f =
      elim (or_cases (given_at m) (is_known_at m) f) [
        | inl t ↦ shows_given r m (given_is m t)
        | inr t ↦ known_net (known_is m t)
      ]
    where
      known_net : (v : Bool) × (observed m ≡ true) × IsKnown c phase m v → ShowsAt r m (r m)
      known_net k =
          elim (given_or_plain c m (within m k.1)) [
            | inl g ↦ shows_given r m g
            | inr p ↦ subst (ShowsAt r m) (sym (ok.1 m k.0 k.1 k.2))
                (stand.shown (state_of c phase setting ranges observed rank driven drives r) (state_is c phase setting ranges observed rank driven drives r ok.0) ok m k.0 k.2 p)
          ]

  -- a device that conducts in such a reading is a channel
  channel : (r : ℕ → Bool) → IsOk r → (d : Device) → IsOn (seen_at r) d → IsChannel c phase true d
  channel r ok d on = (on.0, λ v k. subst (λ (b : Bool). conducts_at d.kind b ≡ true) (ok.1 d.gate.0 v (gates d on.0) k) on.1)

  -- its gate has the same bit in two readings that are the same below its part
  gate_same : (n : ℕ) (r q : ℕ → Bool) → IsOk r → IsOk q → SameBelow observed rank n r q → (l m : ℕ) (d : Device) → IsOn (seen_at r) d → Joins d l m → IsTogether c phase true n m → r d.gate.0 ≡ q d.gate.0
  gate_same n r q okr okq same l m d on j i =
      elim (some_or_none (known d.gate.0)) [
        | inl k ↦ (let is = (table d.gate.0 k.0).0 k.1 in okr.1 d.gate.0 k.0 (gates d on.0) is ∙ sym (okq.1 d.gate.0 k.0 (gates d on.0) is))
        | inr u ↦ same d.gate.0 (gates d on.0)
            (above d.gate.0 n (d, (m, l, i, channel r okr d on, turned d l m j), refl, λ v k. none-some v (sym u ∙ (table d.gate.0 v).1 k)))
      ]

  covers : (n : ℕ) (r q : ℕ → Bool) → IsOk r → IsOk q → SameBelow observed rank n r q → Covers (seen_at r) (seen_at q) (IsTogether c phase true n) (IsGiven c)
  covers n r q okr okq same = record {
    source = refl;
    roots = λ root is at. elim is [
      | inl g ↦ inl (g.0, g.1, g.2, g.3, g.4 ∙ same_given c phase setting ranges observed rank driven drives r q okr.0 okq.0 root.net (g.0, g.1, g.2))
      | inr other ↦ elim other [ inl h ↦ inr (inl h) | inr o ↦ inr (inr (output root o (elim at [ inl t ↦ inl t | inr g ↦ inr g.0 ]))) ]
    ];
    devices = λ l m d on j i. (on.0, subst (λ (b : Bool). conducts_at d.kind b ≡ true) (gate_same n r q okr okq same l m d on j i) on.1);
    bounded = λ l m d on j i.
        let fits = all_among (IsDevice c) c.devices d ranges.devices (device_among true c d on.0).0 in
        let inside : l < length c.nets = elim j [ inl e ↦ subst (λ (x : ℕ). x < length c.nets) e.0 fits.left | inr e ↦ subst (λ (x : ℕ). x < length c.nets) e.1 fits.right ] in
        elim (given_or_plain c l inside) [
          | inl g ↦ inr g
          | inr p ↦ inl (onward d i (channel r okr d on) (turned d l m j) p)
        ];
    edge = λ m g. source c phase setting ranges observed rank driven drives r m g;
  }
    where
      output : (root : Root) → IsOutputRoot (seen_at r) root → IsTogether c phase true n root.net ⊎ IsGiven c root.net → IsOutputRoot (seen_at q) root
      output root o (inl t) =
          let out = at_map (λ (x : OutputPin). x.pin) (output_pins c) o.0 o.1 o.2 in
          let net : root.net ≡ out.0.pin.net.0 = o.3 ∙ sym (ap (λ (p : WholePin). p.net.0) out.2) in
          (o.0, o.1, o.2, o.3, o.4, o.5 ∙ drives.below n r q okr okq same o.0 out.0 out.1 (subst (IsTogether c phase true n) net t))
      output root o (inr g) = absurd (no_pin c phase setting ranges observed rank driven drives r root.net o.0 o.1 g o.2 (sym o.3))

  -- what a net shows depends on the observed nets of lower rank alone
  local : (n : ℕ) (v : Bool) (r q : ℕ → Bool) → IsOk r → IsOk q → observed n ≡ true → SameBelow observed rank n r q → ShowsAt r n v → ShowsAt q n v
  local n v r q okr okq o same s =
      elim (given_or_plain c n (within n o)) [
        | inl g ↦
            let is : v ≡ r n = shows_only (seen_at r) n (r n) v (shows_given r n g) (shows_reaches (seen_at r) n v s) in
            subst (ShowsAt q n) (sym (is ∙ ok_fixed r q okr okq n (is_given_is n g))) (shows_given q n g)
        | inr p ↦
            let there = covers n r q okr okq same in
            let back = covers n q r okq okr (λ m om lt. sym (same m om lt)) in
            let lr = levels c phase setting ranges observed rank driven drives r in
            let lq = levels c phase setting ranges observed rank driven drives q in
            shows_from (seen_at q) n v
            (reaches_inside (seen_at r) (seen_at q) (IsTogether c phase true n) (IsGiven c) lr lq there back n v (itself p) (shows_reaches (seen_at r) n v s))
            (λ u e. shows_only (seen_at r) n v u s (reaches_inside (seen_at q) (seen_at r) (IsTogether c phase true n) (IsGiven c) lq lr back there n u (itself p) e))
      ]

  -- ---- one solution

  solves : (a : ℕ → Option Bool) → IsSolution c phase observed setting a → (n : ℕ) (v : Bool) → observed n ≡ true → (a n ≡ Some v) ↔ ((r : ℕ → Bool) → IsOk r → Agrees observed a r → ShowsAt r n v)
  solves a s n v o = (
    λ e r ok agrees. (s n v o).0 e (state_of c phase setting ranges observed rank driven drives r) (state_is c phase setting ranges observed rank driven drives r ok.0) agrees,
    λ h. (s n v o).1 (λ st is agrees. state_shows c phase setting ranges observed rank driven drives st is n (Shows v)
        (h st.reading (is.reading, λ m b om k. agrees m b om (stand.solved a s m b k om)) agrees)),
  )

  -- there is at most one solution
  one_solution : (a b : ℕ → Option Bool) → IsSolution c phase observed setting a → IsSolution c phase observed setting b → SameObserved observed a b
  one_solution a b sa sb n o =
      solution_unique observed fixed_at IsOk ShowsAt rank ok_fixed ok_like fixed_shows local a b (solves a sa) (solves b sb) n o

  -- whether a net shows a bit can be tested
  reaches_at : (ℕ → Bool) → Bool → ℕ → Bool
  reaches_at r v n = reaches_test (seen_at r) (length c.nets) (source_level c) (network_finite c true setting.held (state_of c phase setting ranges observed rank driven drives r) ranges) v n

  reaches_at_is : (r : ℕ → Bool) (v : Bool) (n : ℕ) → (reaches_at r v n ≡ true) ↔ Reaches (seen_at r) n v
  unfolding reaches_at
  reaches_at_is r v n = reaches_test_ok (seen_at r) (length c.nets) (source_level c) (network_finite c true setting.held (state_of c phase setting ranges observed rank driven drives r) ranges) v n

  shows_test : (ℕ → Bool) → ℕ → Bool → Bool
  shows_test r n v = reaches_at r v n && not (reaches_at r (not v) n)

  shows_test_is : (r : ℕ → Bool) (n : ℕ) (v : Bool) → (shows_test r n v ≡ true) ↔ ShowsAt r n v
  unfolding shows_test
  shows_test_is r n v = (
    λ e.
        let p = and_parts (reaches_at r v n) (not (reaches_at r (not v) n)) e in
        let other = not-true (reaches_at r (not v) n) p.1 in
        shows_from (seen_at r) n v ((reaches_at_is r v n).0 p.0) (λ u q. by_bit v u (λ w. false≢true (sym other ∙ (reaches_at_is r (not v) n).1 (subst (Reaches (seen_at r) n) w q)))),
    λ s.
        and_from (reaches_at r v n) (not (reaches_at r (not v) n))
        ((reaches_at_is r v n).1 (shows_reaches (seen_at r) n v s))
        (not_from_false (reaches_at r (not v) n) (elim (cases_Bool (reaches_at r (not v) n)) [
          | inl t ↦ absurd (differs v (shows_only (seen_at r) n v (not v) s ((reaches_at_is r (not v) n).0 t)))
          | inr f ↦ f
        ])),
  )
    where
      by_bit : (v u : Bool) → (u ≡ not v → ⊥) → u ≡ v
      by_bit true true h = refl
      by_bit true false h = absurd (h refl)
      by_bit false true h = absurd (h refl)
      by_bit false false h = refl

      differs : (v : Bool) → not v ≡ v → ⊥
      differs true e = false≢true e
      differs false e = false≢true (sym e)

  -- a reading with the known bits
  base : ℕ → Bool
  base m = unwrap_or (known m) (given_bit c phase setting.inputs m)

  known_fits : (m : ℕ) (b : Bool) (net : FlatNet) → At c.nets m net → IsKnown c phase m b → HasGivenBit phase setting.inputs net.kind m b
  known_fits m b net e (fixed f) =
      let same : f.0 ≡ net = same_Some f.0 net (sym f.1 ∙ e) in
      subst (λ (x : FlatNet). HasGivenBit phase setting.inputs x.kind m b) same (fixed_is_given phase setting.inputs f.0.kind m b f.2)
  known_fits m b net e (settled inside r held drive shut ins own at shows) =
      let plain = (shut.plain m ins).0 in
      let same : plain.0 ≡ net = same_Some plain.0 net (sym plain.1 ∙ e) in
      plain_any phase setting.inputs net.kind m b (ap (λ (x : FlatNet). is_given x.kind) (sym same) ∙ ap is_given plain.2)

  base_ok : IsOk base
  unfolding base
  base_ok =
      (λ m net e. at_known m net e (known m) refl, λ m v o k. ap (λ (p : Option Bool). unwrap_or p (given_bit c phase setting.inputs m)) ((table m v).1 k))
    where
      at_known : (m : ℕ) (net : FlatNet) → At c.nets m net → (o : Option Bool) → known m ≡ o → HasGivenBit phase setting.inputs net.kind m (unwrap_or o (given_bit c phase setting.inputs m))
      at_known m net e None k = base_reading c phase setting.inputs m net e
      at_known m net e (Some b) k = known_fits m b net e ((table m b).0 k)

  one : (r : ℕ → Bool) → IsOk r → (n : ℕ) → ShowsAt r n true → ShowsAt r n false → ⊥
  one r ok n s t = false≢true (shows_only (seen_at r) n true false s (shows_reaches (seen_at r) n false t))

  found_solution : ℕ → Option Bool
  found_solution = solution observed fixed_at IsOk ShowsAt rank ok_fixed ok_like fixed_shows local one shows_test shows_test_is (length c.nets) within base base_ok

  -- there is a solution
  found_solves : IsSolution c phase observed setting found_solution
  unfolding found_solution
  found_solves n v o = (
    λ e st is agrees. state_shows c phase setting ranges observed rank driven drives st is n (Shows v)
        (solution_shows observed fixed_at IsOk ShowsAt rank ok_fixed ok_like fixed_shows local one shows_test shows_test_is (length c.nets) within base base_ok n v o e st.reading
        (is.reading, λ m b om k. agrees m b om (at_known m b om k)) agrees),
    λ h. shows_solution observed fixed_at IsOk ShowsAt rank ok_fixed ok_like fixed_shows local one shows_test shows_test_is (length c.nets) within base base_ok n v o
        (λ r ok agrees. h (state_of c phase setting ranges observed rank driven drives r) (state_is c phase setting ranges observed rank driven drives r ok.0) agrees),
  )
    where
      at_known : (m : ℕ) (b : Bool) → observed m ≡ true → IsKnown c phase m b → solution observed fixed_at IsOk ShowsAt rank ok_fixed ok_like fixed_shows local one shows_test shows_test_is (length c.nets) within base base_ok m ≡ Some b
      at_known m b om k =
          solution_fixed observed fixed_at IsOk ShowsAt rank ok_fixed ok_like fixed_shows local one shows_test shows_test_is (length c.nets) within base base_ok m om (is_known_is m b om ((table m b).1 k))
          ∙ ap (λ (x : Bool). Some x) (base_ok.1 m b om k)

  -- the circuit has exactly one solution
  pub ranked_one : HasOneSolution c phase observed setting
  ranked_one = record { bits = found_solution; solves = found_solves; only = λ a s. one_solution found_solution a found_solves s }

-- ---- circuits in which whole instances may stand

-- known nets stand
pub nets_stand : (c : Circuit) (phase : Phase) (observed : ℕ → Bool) (setting : Setting) → IsWired c → AreObserved c observed → KnownStand c phase observed setting
nets_stand c phase observed setting wired seen = record {
  solved = λ a s n v k o. known_in_solution c phase wired observed setting a s seen.gates n v k o;
  shown = λ s is ok n v k p. known_shows c phase wired n v k setting.inputs setting.held s is.reading (λ d b m kg. ok.1 d.gate.0 b (seen.gates d m) kg);
}

-- The first law: a circuit whose nets have ranks has in the phase exactly one solution, for any bits of the inputs and
-- holds, where its whole instances are determined.
pub one_solution_of_ranked : (c : Circuit) (phase : Phase) (setting : Setting) → IsWired c → (observed : ℕ → Bool) → AreObserved c observed → AreDetermined c phase observed
    → (known : ℕ → Option Bool) → IsKnownTable c phase known → (rank : ℕ → ℕ) → IsRanking c phase rank → HasOneSolution c phase observed setting
one_solution_of_ranked c phase setting wired observed seen determined known table rank ranks =
    let drives = determined_drives c phase setting.inputs observed rank determined ranks in
    ranked_one c phase setting wired.ranges observed rank drives.0 drives.1 (nets_stand c phase observed setting wired seen)
    known table seen.gates seen.nets (λ m n arc. ranks.above m n (inl (inl arc, arc.3)))
