-- A shut region is a shut set whose gates are known; and what spreads in it are the strengths of its nets and the values
-- that reach them where the known nets have their bits.
use Rattle.std.proofs.Common.{◌≡◌, ℕ, ◌<◌, ◌≤◌, min, ◌⊎◌, Bool, true, false, cond, List, [], ◌∷◌, length, None, Option, Some, arith, ap, subst, sym, refl, ◌∙◌, inl, inr}
use Rattle.std.specs.Prelude.{◌==◌, ◌↔◌, option_map, slice_index, unwrap_or}
use Rattle.std.proofs.lemmas.Bool.{cases_Bool, eq-eqb, eqb-true, false≢true, lt-ltb, ltb-true}
use Rattle.std.proofs.lemmas.Option.{none-some, same_Some}
use Rattle.known_nets.proofs.KnownShow.{fixed_not_plain, given_root, no_root_inside}
use Rattle.known_nets.proofs.NetKinds.{fixed_or_input, given_or_plain, is_plain_is, plain_is}
use Rattle.known_nets.specs.Conduction.{conduction_of, is_plain_at}
use Rattle.known_nets.specs.KnownTables.{HasFixedNets, HasGateBits, known_at}
use Rattle.known_nets.specs.Regions.{IsRegion, IsShutAt, has_amount, known_network, reading_of}
use Rattle.known_nets.specs.Spreads.{HasArrived, IsKnownOn, IsSpread, before, given, given_amount, is_bit, level_of_end, onward}
use Rattle.known_nets.specs.declared.spread.Spread.TheVariants.{Strength, Value}
use Rattle.known_nets.specs.Wired.{IsWired}
use Rattle.vrt_model.specs.Levels.{source_level}
use Rattle.vrt_model.proofs.Clear.{HopFits, RootFits, arrives-reaches, clear-keeps}
use Rattle.vrt_model.proofs.Decidable.{strength_at, strength_at_is}
use Rattle.vrt_model.proofs.Filtered.{among_devices, device_among}
use Rattle.vrt_model.proofs.GatesGiven.{IsGiven}
use Rattle.vrt_model.proofs.GivenNets.{clear_from_source, level_most, source_strength}
use Rattle.vrt_model.proofs.Laws.{one_strength, turned}
use Rattle.vrt_model.proofs.Locality.{fixed_given}
use Rattle.vrt_model.proofs.Members.{all_among}
use Rattle.vrt_model.proofs.Networks.{given_source, network_finite, network_levels}
use Rattle.vrt_model.proofs.PathKinds.{Arrives, arrives_on, arrives_root}
use Rattle.vrt_model.proofs.Strength.{AtLeast, HopHas, RootHas, at_least_on, level-keeps}
use Rattle.vrt_model.proofs.Tables.{response_of}
use Rattle.vrt_model.specs.Circuits.{IsDevice}
use Rattle.vrt_model.specs.Known.{IsFixed, IsShut}
use Rattle.vrt_model.specs.Lists.{Among}
use Rattle.vrt_model.specs.Path.{Hop, IsOn, IsPath, IsRoot, Joins, Network, Root, end_of, level_of}
use Rattle.vrt_model.specs.Reading.{conducts, conducts_at}
use Rattle.vrt_model.specs.Response.{IsClear, IsResponse, IsStrength, Reaches}
use Rattle.vrt_model.specs.Signals.{response_by}
use Rattle.vrt_model.specs.State.{State}
use Rattle.vrt_model.specs.declared.circuit.Circuit.{Circuit}
use Rattle.vrt_model.specs.declared.circuit.Device.{Device}
use Rattle.vrt_model.specs.declared.rules.Phase.{Phase}
use Rattle.vrt_model.specs.Networks.{HasLevels, IsSource}

-- ---- bits and amounts

-- a gate whose device is known to conduct or not is known, and the device does so in the reading of the known bits
known_gate : (known : List (Option Bool)) (d : Device) (b : Bool) → conduction_of known d ≡ Some b
    → (known_at known d.gate.0 ≡ Some (reading_of known d.gate.0)) × (conducts (reading_of known) d ≡ b)
known_gate known d b e = pick (known_at known d.gate.0) refl e
  where
    pick : (o : Option Bool) → known_at known d.gate.0 ≡ o → option_map (conducts_at d.kind) o ≡ Some b
        → (known_at known d.gate.0 ≡ Some (reading_of known d.gate.0)) × (conducts (reading_of known) d ≡ b)
    pick None is e = absurd (none-some b e)
    pick (Some g) is e = (
      is ∙ ap (λ (o : Option Bool). Some (unwrap_or o false)) (sym is),
      ap (λ (o : Option Bool). conducts_at d.kind (unwrap_or o false)) is ∙ same_Some (conducts_at d.kind g) b e,
    )

-- a known bit that is this one is read so
bit_read : (v : Bool) (o : Option Bool) → is_bit v o ≡ true → unwrap_or o false ≡ v
bit_read true None e = absurd (false≢true e)
bit_read false None e = refl
bit_read true (Some u) e = e
bit_read false (Some true) e = absurd (false≢true e)
bit_read false (Some false) e = refl

-- each bit is itself
bit_here : (v : Bool) → is_bit v (Some v) ≡ true
bit_here true = refl
bit_here false = refl

-- where an amount that is passed only by a test is positive, the test holds
passes_by : (t : Bool) (a : ℕ) → 0 < cond t a 0 → (t ≡ true) × (0 < a)
passes_by true a lt = (refl, lt)
passes_by false a lt = absurd (omega (arith, lt))

-- an amount that is there is positive, and the other way round
amount_there : (table : List ℕ) (n : ℕ) → 0 < slice_index table n → has_amount table n ≡ true
amount_there table n lt = lt-ltb 0 (slice_index table n) lt

amount_above : (table : List ℕ) (n : ℕ) → has_amount table n ≡ true → 0 < slice_index table n
amount_above table n e = ltb-true 0 (slice_index table n) e

module _ (c : Circuit) (phase : Phase) (known : List (Option Bool)) (wired : IsWired c) (has : HasFixedNets c phase (known_at known))
    (inside : ℕ → Bool) (region : IsRegion c known inside) (shut : (n : ℕ) → inside n ≡ true → IsShutAt c known n) where
  -- ---- the network where the known nets have their bits

  -- the bare circuit in this reading, and its state
  abbrev w : Network
  w = known_network c known

  abbrev state : State
  state = record { reading = reading_of known; driven = λ k. false }

  -- no root is above the source level, and the devices are below it
  in_levels : HasLevels w
  in_levels = network_levels c true (λ k. false) state wired.ranges

  -- the ends of a device are nets of the circuit
  in_range : (m n : ℕ) (d : Device) → Among c.devices d → Joins d m n → m < length c.nets
  in_range m n d there (inl j) = subst (λ (x : ℕ). x < length c.nets) j.0 (all_among (IsDevice c) c.devices d wired.ranges.devices there).left
  in_range m n d there (inr j) = subst (λ (x : ℕ). x < length c.nets) j.1 (all_among (IsDevice c) c.devices d wired.ranges.devices there).right

  -- an end of a device that is not plain is a given net
  given_end : (m n : ℕ) (d : Device) → Among c.devices d → Joins d m n → is_plain_at c m ≡ false → IsGiven c m
  given_end m n d there j other =
      elim (given_or_plain c m (in_range m n d there j)) [
        | inl g ↦ g
        | inr p ↦ absurd (false≢true (sym other ∙ is_plain_is c m p))
      ]

  -- a given net is a root of the source level
  source_of : (m : ℕ) → IsGiven c m → IsSource w m
  source_of m g = given_source c true (λ k. false) state wired.ranges m g.0 g.1 g.2

  -- what is known to conduct does so in the network
  on_known : (d : Device) → IsKnownOn c known d → IsOn w d
  on_known d k = (among_devices true c d k.there k.bare, (known_gate known d true k.on).1)

  -- what conducts at a net inside is known to
  known_on : (n m : ℕ) (d : Device) → inside n ≡ true → IsOn w d → Joins d n m → IsKnownOn c known d
  known_on n m d ins on j =
      let there = device_among true c d on.0 in
      let g = (shut n ins).gates m d there.0 there.1 j in
      let yes_on : g.0 ≡ true = sym (known_gate known d g.0 g.1).1 ∙ on.1 in
      record { there = there.0; bare = there.1; on = g.1 ∙ ap (λ (b : Bool). Some b) yes_on }

  -- it joins the net to a net inside, or to a supply or a clock port
  bounded : (n m : ℕ) (d : Device) → inside n ≡ true → IsKnownOn c known d → Joins d n m → (inside m ≡ true) ⊎ ((v : Bool) × IsFixed c phase m v)
  bounded n m d ins k j =
      elim (given_or_plain c m (in_range m n d k.there (turned d n m j))) [
        | inr p ↦ inl (region.closed n m d ins k j p)
        | inl g ↦ elim (fixed_or_input phase g.0.kind g.2) [
          | inl f ↦ inr (f.0, (g.0, g.1, f.1))
          | inr i ↦ absurd ((shut n ins).ends m d k j (g.0, g.1, i))
        ]
      ]

  -- a supply or a clock port is not plain
  fixed_not_at : (m : ℕ) (v : Bool) → IsFixed c phase m v → is_plain_at c m ≡ false
  fixed_not_at m v f = elim (cases_Bool (is_plain_at c m)) [ inl t ↦ absurd (fixed_not_plain c phase m v f (plain_is c m t)) | inr e ↦ e ]

  -- ---- the set

  -- the gates at a shut region are known
  pub region_gates : HasGateBits c (known_at known) inside (reading_of known)
  region_gates m l d ins there j =
      let at = device_among true c d there in
      let g = (shut m ins).gates l d at.0 at.1 j in
      (known_gate known d g.0 g.1).0

  -- a shut region is a shut set
  pub region_shut : IsShut c phase inside (reading_of known)
  region_shut = record {
    plain = λ n ins. (region.plain n ins, (shut n ins).free, (shut n ins).idle);
    joined = λ n m d ins there j on. bounded n m d ins (known_on n m d ins (there, on) j) j;
  }

  -- no path begins at a net inside
  no_root : (root : Root) → IsRoot w root → inside root.net ≡ true → ⊥
  no_root root r ins = no_root_inside c phase wired inside (reading_of known) (λ k. false) state region_shut root r ins

  -- ---- strengths

  -- what has come of strength is the level of a path
  strength_came : (base : List ℕ) → ((n : ℕ) → slice_index base n ≡ 0) → (n l : ℕ) → HasArrived Strength c known [] base n l → (l ≡ 0) ⊎ AtLeast w l n
  strength_came base clear n l before = inl (clear n)
  strength_came base clear n l (given m d on j other plain) =
      let s = source_of m (given_end m n d on.there j other) in
      let top : AtLeast w (source_level c) m = subst (AtLeast w (source_level c)) s.2 (arrives_root w (RootHas (source_level c)) (HopHas (source_level c)) s.0 s.1 (let is = s.3 in omega (arith, is))) in
      inr (at_least_on w (source_level c) m n d top (on_known d on) j)
  strength_came base clear n l (onward {m} {amount} d arrived on j from plain) =
      elim (strength_came base clear m amount arrived) [
        | inl none ↦ inl (omega (arith, none))
        | inr some ↦ inr (at_least_on w amount m n d some (on_known d on) j)
      ]

  -- no path to a net inside is above what has come there
  strength_most : (nets levels : List ℕ) → ((n : ℕ) → inside n ≡ true → Among nets n) → IsSpread Strength c known [] nets levels
      → (root : Root) (hops : List Hop) → IsPath w root hops → inside (end_of root hops) ≡ true → level_of root hops ≤ slice_index levels (end_of root hops)
  strength_most nets levels all strengths root [] p ins = absurd (no_root root p ins)
  strength_most nets levels all strengths root (hop ∷ hops) p ins =
      let m = end_of root hops in
      let back = turned hop.device m hop.to p.2 in
      let on = known_on hop.to m hop.device ins p.1 back in
      elim (bounded hop.to m hop.device ins on back) [
        | inl i ↦
            let low = strength_most nets levels all strengths root hops p.0 i in
            let forth = (strengths.closed m (all m i) hop.device hop.to on p.2).forth (is_plain_is c hop.to (region.plain hop.to ins)) in
            omega (arith, low, forth)
        | inr f ↦
            let low = level_most w in_levels root hops p.0 in
            let come = (strengths.closed hop.to (all hop.to ins) hop.device m on back).back (fixed_not_at m f.0 f.1) in
            omega (arith, low, come)
      ]

  -- so what has come to a net inside is its strength
  pub region_strength :
      (nets levels : List ℕ) → ((n : ℕ) → inside n ≡ true → Among nets n) → IsSpread Strength c known [] nets levels
      → (n : ℕ) → inside n ≡ true → IsStrength (known_network c known) n (slice_index levels n)
  region_strength nets levels all strengths n ins =
      let up : (root : Root) (hops : List Hop) → IsPath w root hops → end_of root hops ≡ n → level_of root hops ≤ slice_index levels n =
      λ root hops p e. subst (λ (x : ℕ). level_of root hops ≤ slice_index levels x) e (strength_most nets levels all strengths root hops p (subst (λ (x : ℕ). inside x ≡ true) (sym e) ins)) in (
        up,
        elim (strength_came strengths.base strengths.clear n (slice_index levels n) (strengths.arrived n)) [
          | inl none ↦ inl none
          | inr r ↦
              let low = level-keeps (slice_index levels n) r.0 r.1 r.3 in
              let high = up r.0 r.1 r.2 r.4 in
              inr (r.0, r.1, r.2, r.4, omega (arith, low, high))
        ],
      )

  -- ---- values

  module _ (s : ℕ → ℕ) (strong : (n : ℕ) → IsStrength w n (s n)) (levels : List ℕ) (agree : (n : ℕ) → inside n ≡ true → slice_index levels n ≡ s n) (v : Bool) where
    -- the level of a net inside is its strength
    inside_level : (n : ℕ) → inside n ≡ true → level_of_end c levels n ≡ s n
    inside_level n ins = ap (λ (b : Bool). cond b (slice_index levels n) (source_level c)) (is_plain_is c n (region.plain n ins)) ∙ agree n ins

    -- so is that of a given net
    given_level : (m : ℕ) → IsGiven c m → is_plain_at c m ≡ false → level_of_end c levels m ≡ s m
    given_level m g other =
        let top = source_strength w in_levels m (source_of m g) in
        ap (λ (b : Bool). cond b (slice_index levels m) (source_level c)) other ∙ one_strength w m (source_level c) (s m) top (strong m)

    -- a device that passes the value fits
    hop_fits : (m n : ℕ) (d : Device) → level_of_end c levels m ≡ s m → inside n ≡ true → (min (level_of_end c levels m) d.level == level_of_end c levels n) ≡ true → HopFits s m d n
    hop_fits m n d is ins e =
        let same = eqb-true (min (level_of_end c levels m) d.level) (level_of_end c levels n) e in
        ap (λ (x : ℕ). min x d.level) (sym is) ∙ same ∙ inside_level n ins

    -- and a device that fits passes it
    fits_pass : (m n : ℕ) (d : Device) → level_of_end c levels m ≡ s m → inside n ≡ true → HopFits s m d n → (min (level_of_end c levels m) d.level == level_of_end c levels n) ≡ true
    fits_pass m n d is ins fits =
        eq-eqb (min (level_of_end c levels m) d.level) (level_of_end c levels n) (ap (λ (x : ℕ). min x d.level) is ∙ fits ∙ sym (inside_level n ins))

    -- where some of the value has come to a net inside, a path that fits ends there
    value_came : (base : List ℕ) → ((n : ℕ) → slice_index base n ≡ 0) → (n l : ℕ) → HasArrived (Value v) c known levels base n l → inside n ≡ true → 0 < l
        → Arrives w (RootFits s v) (HopFits s) n
    value_came base clear n l before ins lt = let none = clear n in absurd (omega (arith, none, lt))
    value_came base clear n l (given m d on j other plain) ins lt =
        let g = given_end m n d on.there j other in
        let is = given_level m g other in
        let top = source_strength w in_levels m (source_of m g) in
        let passes = passes_by (min (level_of_end c levels m) d.level == level_of_end c levels n) (given_amount (Value v) c known m) lt in
        let bit = passes_by (is_bit v (known_at known m)) 1 passes.1 in
        let root : Root = record { net = m; level = source_level c; value = reading_of known m } in
        let start : IsRoot w root = inl (g.0, g.1, g.2, refl, refl) in
        arrives_on w (RootFits s v) (HopFits s) m n d
        (arrives_root w (RootFits s v) (HopFits s) root start (one_strength w m (source_level c) (s m) top (strong m), bit_read v (known_at known m) bit.0))
        (on_known d on) j (hop_fits m n d is ins passes.0)
    value_came base clear n l (onward {m} {amount} d arrived on j from plain) ins lt =
        let there = region.closed n m d ins on (turned d m n j) (plain_is c m from) in
        let passes = passes_by (min (level_of_end c levels m) d.level == level_of_end c levels n) amount lt in
        arrives_on w (RootFits s v) (HopFits s) m n d (value_came base clear m amount arrived there passes.1)
        (on_known d on) j (hop_fits m n d (inside_level m there) ins passes.0)

    -- a root of the value that is as strong as a supply or a clock port gives it the value
    root_value : (root : Root) (m : ℕ) (u : Bool) → IsRoot w root → IsStrength w root.net root.level → root.value ≡ v → root.net ≡ m → IsSource w m → IsFixed c phase m u → is_bit v (known_at known m) ≡ true
    root_value root m u r clear is e from f =
        let k = has m u f in
        let top : root.level ≡ source_level c = one_strength w root.net root.level (source_level c) clear (subst (λ (x : ℕ). IsStrength w x (source_level c)) (sym e) (source_strength w in_levels m from)) in
        let read : root.value ≡ reading_of known m = given_root c phase wired (λ k. false) state m (f.0, f.1, fixed_given phase f.0.kind u f.2) root r e top in
        let same : u ≡ v = sym (ap (λ (o : Option Bool). unwrap_or o false) k) ∙ (sym read ∙ is) in
        ap (is_bit v) (k ∙ ap (λ (b : Bool). Some b) same) ∙ bit_here v

    -- so the bit of a supply or a clock port at which a clear path of the value ends is the value
    path_value : (root : Root) (hops : List Hop) (m : ℕ) (u : Bool) → IsPath w root hops → IsClear w root hops → root.value ≡ v → end_of root hops ≡ m → IsSource w m → IsFixed c phase m u → hops ≡ []
        → is_bit v (known_at known m) ≡ true
    path_value root [] m u p clear is e from f none = root_value root m u p clear is e from f
    path_value root (hop ∷ hops) m u p clear is e from f none = absurd (cc)

    -- the value has come to a net inside where a clear path of it ends
    value_reached : (nets table : List ℕ) → ((n : ℕ) → inside n ≡ true → Among nets n) → IsSpread (Value v) c known levels nets table
        → (root : Root) (hops : List Hop) → IsPath w root hops → IsClear w root hops → root.value ≡ v → inside (end_of root hops) ≡ true → 0 < slice_index table (end_of root hops)
    value_reached nets table all values root [] p clear is ins = absurd (no_root root p ins)
    value_reached nets table all values root (hop ∷ hops) p clear is ins =
        let m = end_of root hops in
        let n = hop.to in
        let d = hop.device in
        let back = turned d m n p.2 in
        let on = known_on n m d ins p.1 back in
        let fits : HopFits s m d n = (clear-keeps w s strong v root (hop ∷ hops) is clear).1 in
        elim (bounded n m d ins on back) [
          | inl i ↦
              let low = value_reached nets table all values root hops p.0 clear.0 is i in
              let forth = (values.closed m (all m i) d n on p.2).forth (is_plain_is c n (region.plain n ins)) in
              let come = subst (λ (b : Bool). cond b (slice_index table m) 0 ≤ slice_index table n) (fits_pass m n d (inside_level m i) ins fits) forth in
              omega (arith, low, come)
          | inr f ↦
              let other = fixed_not_at m f.0 f.1 in
              let g = given_end m n d on.there p.2 other in
              let from = source_of m g in
              let none = clear_from_source w in_levels root hops p.0 clear.0 from in
              let bit = path_value root hops m f.0 p.0 clear.0 is refl from f.1 none in
              let low = (values.closed n (all n ins) d m on back).back other in
              let come = subst (λ (b : Bool). cond b (cond (is_bit v (known_at known m)) 1 0) 0 ≤ slice_index table n) (fits_pass m n d (given_level m g other) ins fits) low in
              let one = subst (λ (b : Bool). cond b 1 0 ≤ slice_index table n) bit come in
              omega (arith, one)
        ]

  -- a value has come to a net inside exactly where it reaches the net
  pub region_reached :
      (risen levels nets table : List ℕ) (v : Bool) → ((n : ℕ) → inside n ≡ true → Among risen n) → IsSpread Strength c known [] risen levels
      → ((n : ℕ) → inside n ≡ true → Among nets n) → IsSpread (Value v) c known levels nets table
      → (n : ℕ) → inside n ≡ true → (has_amount table n ≡ true) ↔ Reaches (known_network c known) n v
  region_reached risen levels nets table v all strengths all_nets values n ins =
      let finite = network_finite c true (λ k. false) state wired.ranges in
      let s = strength_at (known_network c known) (length c.nets) (source_level c) finite in
      let strong = strength_at_is (known_network c known) (length c.nets) (source_level c) finite in
      let agree : (m : ℕ) → inside m ≡ true → slice_index levels m ≡ s m =
      λ m i. one_strength w m (slice_index levels m) (s m) (region_strength risen levels all strengths m i) (strong m) in (
        λ e. arrives-reaches (known_network c known) s strong v n
            (value_came s strong levels agree v values.base values.clear n (slice_index table n) (values.arrived n) ins (amount_above table n e)),
        λ r. amount_there table n
            (subst (λ (x : ℕ). 0 < slice_index table x) r.4
            (value_reached s strong levels agree v nets table all_nets values r.0 r.1 r.2 r.3 r.5 (subst (λ (x : ℕ). inside x ≡ true) (sym r.4) ins))),
      )

  -- so the response of a net inside is read from what has come there
  pub region_response :
      (risen levels low zeros high ones : List ℕ)
      → ((n : ℕ) → inside n ≡ true → Among risen n) → IsSpread Strength c known [] risen levels
      → ((n : ℕ) → inside n ≡ true → Among low n) → IsSpread (Value false) c known levels low zeros
      → ((n : ℕ) → inside n ≡ true → Among high n) → IsSpread (Value true) c known levels high ones
      → (n : ℕ) → inside n ≡ true → IsResponse (known_network c known) n (response_by (has_amount zeros n) (has_amount ones n))
  region_response risen levels low zeros high ones all strengths all_low lows all_high highs n ins =
      response_of (known_network c known) n (has_amount zeros n) (has_amount ones n)
      (region_reached risen levels low zeros false all strengths all_low lows n ins)
      (region_reached risen levels high ones true all strengths all_high highs n ins)
