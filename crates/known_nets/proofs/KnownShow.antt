-- What a shut set of nets shows depends on the gates of its devices alone; so a known net shows its bit wherever the known gates have theirs.
use Rattle.std.proofs.Common.{◌≡◌, ℕ, Bool, true, [], Option, Some, arith, subst, sym, refl, ◌∙◌, ap, inl, inr}
use Rattle.known_nets.proofs.WiredLaws.{pin_of_whole}
use Rattle.known_nets.specs.Wired.{IsWired}
use Rattle.vrt_model.proofs.Scales.{least_below}
use Rattle.vrt_model.specs.Levels.{source_level}
use Rattle.vrt_model.proofs.Bounded.{response_inside}
use Rattle.vrt_model.proofs.GatesGiven.{IsGiven}
use Rattle.vrt_model.proofs.GivenNets.{clear_from_source, source_strength}
use Rattle.vrt_model.proofs.Laws.{one_strength, shows_from, turned}
use Rattle.vrt_model.proofs.Lists.{at_map}
use Rattle.vrt_model.proofs.Members.{all_among}
use Rattle.vrt_model.proofs.Locality.{fixed_given}
use Rattle.vrt_model.proofs.Networks.{given_source, network_levels}
use Rattle.vrt_model.proofs.Ranked.{plain_not_given}
use Rattle.vrt_model.specs.Circuits.{IsHold}
use Rattle.vrt_model.specs.Known.{HasFixedBit, IsFixed, IsKnown, IsPlain, IsShut, fixed, settled}
use Rattle.vrt_model.specs.Lists.{Among}
use Rattle.vrt_model.specs.Networks.{Covers, HasLevels, IsSource}
use Rattle.vrt_model.specs.Path.{IsHoldRoot, IsOutputRoot, IsPath, IsRoot, Joins, Network, Root, end_of}
use Rattle.vrt_model.specs.Reading.{HasGivenBit, IsReading, conducts_at, devices_of}
use Rattle.vrt_model.specs.Response.{IsClear, IsResponse, IsStrength, Reaches, Shows}
use Rattle.vrt_model.specs.Solution.{IsSolution}
use Rattle.vrt_model.specs.State.{OutputPin, Setting, State, network_of, output_pins}
use Rattle.vrt_model.specs.declared.circuit.Circuit.{Circuit}
use Rattle.vrt_model.specs.declared.circuit.Device.{Device}
use Rattle.vrt_model.specs.declared.circuit.NetKind.{NetKind}
use Rattle.vrt_model.specs.declared.circuit.NetKind.TheVariants.{Supply, Clock, Input, Plain}
use Rattle.vrt_model.specs.declared.rules.Phase.{Phase}
use Rattle.vrt_model.specs.declared.whole.WholePin.{WholePin}

-- ---- given and plain nets

fixed_bit : (phase : Phase) (inputs : ℕ → Bool) (n : ℕ) (kind : NetKind) (v bit : Bool) → HasFixedBit phase kind v → HasGivenBit phase inputs kind n bit → bit ≡ v
fixed_bit phase inputs n (Supply value) v bit h g = g ∙ sym h
fixed_bit phase inputs n (Clock clock) v bit h g = g ∙ sym h
fixed_bit phase inputs n Input v bit h g = absurd h
fixed_bit phase inputs n Plain v bit h g = absurd h

-- a fixed net has its bit in each reading
pub fixed_reads : (c : Circuit) (phase : Phase) (inputs reading : ℕ → Bool) → IsReading c phase inputs reading → (n : ℕ) (v : Bool) → IsFixed c phase n v → reading n ≡ v
fixed_reads c phase inputs reading is n v f = fixed_bit phase inputs n f.0.kind v (reading n) f.2 (is n f.0 f.1)

-- a supply or a clock port is no plain net
pub fixed_not_plain : (c : Circuit) (phase : Phase) (n : ℕ) (v : Bool) → IsFixed c phase n v → IsPlain c n → ⊥
fixed_not_plain c phase n v f plain = plain_not_given c n plain (f.0, f.1, fixed_given phase f.0.kind v f.2)

-- a net with roots of the source level shows their bit, where they have one
pub source_shows : (w : Network) → HasLevels w → (n : ℕ) (v : Bool) → IsSource w n → ((root : Root) → IsRoot w root → root.net ≡ n → root.level ≡ w.source → root.value ≡ v)
    → IsResponse w n (Shows v)
source_shows w levels n v source alike = shows_from w n v here only
  where
    strong : (root : Root) → root.net ≡ n → IsStrength w root.net w.source
    strong root e = source_strength w levels root.net (subst (IsSource w) (sym e) source)

    here : Reaches w n v
    here = (source.0, [], source.1, subst (IsStrength w source.0.net) (sym source.3) (strong source.0 source.2), source.2, alike source.0 source.1 source.2 source.3)

    only : (u : Bool) → Reaches w n u → u ≡ v
    only u (root, hops, p, clear, e, is) =
        let none : hops ≡ [] = clear_from_source w levels root hops p clear (subst (IsSource w) (sym e) source) in
        let path : IsPath w root [] = subst (IsPath w root) none p in
        let first : IsClear w root [] = subst (IsClear w root) none clear in
        let ends : root.net ≡ n = subst (λ hs. end_of root hs ≡ n) none e in
        sym is ∙ alike root path ends (one_strength w root.net root.level w.source first (strong root ends))

-- a circuit in which whole instances may stand
module _ (c : Circuit) (phase : Phase) (wired : IsWired c) where
  abbrev view : (ℕ → Bool) → State → Network
  view held s = network_of c true held s

  -- the net of a root at an output pin is plain, and that instance drives it
  output_of : (held : ℕ → Bool) (s : State) (root : Root) → IsOutputRoot (view held s) root → (out : OutputPin) × Among (output_pins c) out × (out.pin.net.0 ≡ root.net)
  output_of held s root o =
      let out = at_map (λ (x : OutputPin). x.pin) (output_pins c) o.0 o.1 o.2 in
      (out.0, (o.0, out.1), ap (λ (p : WholePin). p.net.0) out.2 ∙ sym o.3)

  output_plain : (held : ℕ → Bool) (s : State) (root : Root) → IsOutputRoot (view held s) root → IsPlain c root.net
  output_plain held s root o =
      let out = output_of held s root o in
      let from = pin_of_whole c out.0 out.1 in
      subst (IsPlain c) out.2 (wired.outputs out.0.whole out.0.pin from.0 from.1)

  -- no hold has the level of sources
  hold_below : (held : ℕ → Bool) (s : State) (root : Root) → IsHoldRoot (view held s) root → root.level ≡ source_level c → ⊥
  hold_below held s root h top = let same = h.4 in let le = (all_among (IsHold c) c.holds h.1 wired.ranges.holds (h.0, h.2)).size.1 in let below = least_below c in omega (arith, top, same, le, below)

  -- a root of the source level at a net with a given value has the net's bit
  pub given_root : (held : ℕ → Bool) (s : State) (n : ℕ) → IsGiven c n → (root : Root) → IsRoot (view held s) root → root.net ≡ n → root.level ≡ source_level c → root.value ≡ s.reading n
  given_root held s n given root r e top =
      elim r [
        | inl g ↦ g.4 ∙ ap s.reading e
        | inr other ↦ elim other [
          | inl h ↦ absurd (hold_below held s root h top)
          | inr o ↦ absurd (plain_not_given c n (subst (IsPlain c) e (output_plain held s root o)) given)
        ]
      ]

  -- a net with a given value shows it
  pub given_shows : (held : ℕ → Bool) (s : State) (n : ℕ) → IsGiven c n → IsResponse (view held s) n (Shows (s.reading n))
  given_shows held s n given =
      source_shows (view held s) (network_levels c true held s wired.ranges) n (s.reading n) (given_source c true held s wired.ranges n given.0 given.1 given.2) (given_root held s n given)

  -- and so does a supply or a clock port
  fixed_shows : (inputs held : ℕ → Bool) (s : State) → IsReading c phase inputs s.reading → (n : ℕ) (v : Bool) → IsFixed c phase n v → IsResponse (view held s) n (Shows v)
  fixed_shows inputs held s is n v f =
      subst (λ (b : Bool). IsResponse (view held s) n (Shows b)) (fixed_reads c phase inputs s.reading is n v f) (given_shows held s n (f.0, f.1, fixed_given phase f.0.kind v f.2))

  -- no path begins in a shut set
  pub no_root_inside : (inside reading held : ℕ → Bool) (s : State) → IsShut c phase inside reading → (root : Root) → IsRoot (view held s) root → inside root.net ≡ true → ⊥
  no_root_inside inside reading held s shut root r ins =
      let at = shut.plain root.net ins in
      elim r [
        | inl g ↦ plain_not_given c root.net at.0 (g.0, g.1, g.2)
        | inr other ↦ elim other [
          | inl h ↦ at.1 (h.1, (h.0, h.2), sym h.3)
          | inr o ↦
              let out = output_of held s root o in
              let from = pin_of_whole c out.0 out.1 in
              at.2 (out.0.whole, out.0.pin, from.0, from.1, out.2)
        ]
      ]

  -- ---- a shut set, and two networks of the circuit with the same bits at the gates of its devices

  module _ (inside : ℕ → Bool) where
    abbrev IsInside : ℕ → Type 0
    IsInside n = inside n ≡ true

    abbrev IsEdge : ℕ → Type 0
    IsEdge n = (v : Bool) × IsFixed c phase n v

    abbrev SameGates : (ℕ → Bool) → (ℕ → Bool) → Type 0
    SameGates r q = (m l : ℕ) (d : Device) → inside m ≡ true → Among (devices_of true c) d → Joins d m l → r d.gate.0 ≡ q d.gate.0

    covers : (held kept inputs others : ℕ → Bool) (s t : State) → IsShut c phase inside s.reading → IsReading c phase inputs s.reading → IsReading c phase others t.reading
        → SameGates s.reading t.reading → Covers (view held s) (view kept t) IsInside IsEdge
    covers held kept inputs others s t shut is it same = record {
      source = refl;
      roots = λ root r at. elim at [
        | inl ins ↦ absurd (no_root_inside inside s.reading held s shut root r ins)
        | inr e ↦
            let given : IsGiven c root.net = (e.0.1.0, e.0.1.1, fixed_given phase e.0.1.0.kind e.0.0 e.0.1.2) in
            let here = fixed_reads c phase inputs s.reading is root.net e.0.0 e.0.1 in
            let value = fixed_reads c phase others t.reading it root.net e.0.0 e.0.1 in
            inl (given.0, given.1, given.2, e.1, given_root held s root.net given root r refl e.1 ∙ here ∙ sym value)
      ];
      devices = λ m n d on j ins. (on.0, subst (λ (b : Bool). conducts_at d.kind b ≡ true) (same n m d ins on.0 (turned d m n j)) on.1);
      bounded = λ m n d on j ins. shut.joined n m d ins on.0 (turned d m n j) on.1;
      edge = λ n e. given_source c true held s wired.ranges n e.1.0 e.1.1 (fixed_given phase e.1.0.kind e.0 e.1.2);
    }

    closed : (r q : ℕ → Bool) → IsShut c phase inside r → SameGates r q → IsShut c phase inside q
    closed r q shut same = record {
      plain = shut.plain;
      joined = λ n m d ins a j on. shut.joined n m d ins a j (subst (λ (b : Bool). conducts_at d.kind b ≡ true) (sym (same n m d ins a j)) on);
    }

    -- a net of the set shows the same in both
    pub shows_moves : (held kept inputs others : ℕ → Bool) (s t : State) → IsShut c phase inside s.reading → IsReading c phase inputs s.reading → IsReading c phase others t.reading
        → SameGates s.reading t.reading → (n : ℕ) (v : Bool) → inside n ≡ true → IsResponse (view held s) n (Shows v) → IsResponse (view kept t) n (Shows v)
    shows_moves held kept inputs others s t shut is it same n v ins h =
        let back : SameGates t.reading s.reading = λ m l d i a j. sym (same m l d i a j) in
        response_inside (view held s) (view kept t) IsInside IsEdge (network_levels c true held s wired.ranges) (network_levels c true kept t wired.ranges)
        (covers held kept inputs others s t shut is it same)
        (covers kept held others inputs t s (closed s.reading t.reading shut same) it is back) n (Shows v) ins h

  -- ---- known nets

  -- a known net shows its bit in each reading in which the gates that are known have their bits, whatever the holds and the output pins are
  pub known_shows : (n : ℕ) (v : Bool) → IsKnown c phase n v → (inputs held : ℕ → Bool) (s : State) → IsReading c phase inputs s.reading
      → ((d : Device) (b : Bool) → Among (devices_of true c) d → IsKnown c phase d.gate.0 b → s.reading d.gate.0 ≡ b)
      → IsResponse (view held s) n (Shows v)
  known_shows n v (fixed f) inputs held s is known = fixed_shows inputs held s is n v f
  known_shows n v (settled inside r kept driven shut ins own gates shows) inputs held s is known =
      shows_moves inside kept held r inputs (record { reading = r; driven = driven }) s shut own is
      (λ m l d i a j. sym (known d (r d.gate.0) a (gates m l d i a j))) n v ins shows

  -- each solution gives an observed known net its bit, where the gates of all devices are observed
  pub known_in_solution : (observed : ℕ → Bool) (setting : Setting) (a : ℕ → Option Bool) → IsSolution c phase observed setting a
      → ((d : Device) → Among (devices_of true c) d → observed d.gate.0 ≡ true)
      → (n : ℕ) (v : Bool) → IsKnown c phase n v → observed n ≡ true → a n ≡ Some v
  known_in_solution observed setting a solves gates_seen n v (fixed f) seen =
      (solves n v seen).1 (λ s is agrees. fixed_shows setting.inputs setting.held s is.reading n v f)
  known_in_solution observed setting a solves gates_seen n v (settled inside r held driven shut ins own gates shows) seen =
      (solves n v seen).1 (λ s is agrees.
      shows_moves inside held setting.held r setting.inputs (record { reading = r; driven = driven }) s shut own is.reading
      (λ m l d i at j. sym (agrees d.gate.0 (r d.gate.0) (gates_seen d at)
      (known_in_solution observed setting a solves gates_seen d.gate.0 (r d.gate.0) (gates m l d i at j) (gates_seen d at)))) n v ins shows)
