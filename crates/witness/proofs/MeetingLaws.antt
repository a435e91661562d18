-- A solution and the values of all nets at its setting have the same bits where nothing of lower rank fights or floats; and
-- there a net shows what it does in the solution.
use Rattle.std.proofs.Common.{◌≡◌, ℕ, zero, suc, ◌<◌, ◌⊎◌, Bool, true, false, cond, List, None, Option, Some, length, slice_get, arith, ap, refl, sym, subst, ◌∙◌, inl, inr}
use Rattle.std.specs.Prelude.{option_map, unwrap_or}
use Rattle.std.proofs.lemmas.Bool.{cases_Bool, cond-false, cond-true, false≢true}
use Rattle.std.proofs.lemmas.Option.{none-some, same_Some}
use Rattle.known_nets.proofs.KnownShow.{known_in_solution}
use Rattle.known_nets.proofs.WiredLaws.{flat_wired}
use Rattle.known_nets.proofs.NetKinds.{given_or_plain}
use Rattle.vrt_model.proofs.Decidable.{some_response}
use Rattle.vrt_model.proofs.Filtered.{device_among}
use Rattle.vrt_model.proofs.GatesGiven.{IsGiven, base_reading, plain_any}
use Rattle.vrt_model.proofs.Laws.{one_response}
use Rattle.vrt_model.proofs.Lists.{at_there}
use Rattle.vrt_model.proofs.Members.{all_among}
use Rattle.vrt_model.proofs.Networks.{flat_ranges, network_finite}
use Rattle.vrt_model.specs.Circuits.{IsDevice, IsFlat}
use Rattle.vrt_model.specs.Constraints.{given_bit}
use Rattle.vrt_model.specs.Known.{HasRankArc, IsInPart, IsKnown, IsPlain, IsUnknown, itself as alone}
use Rattle.vrt_model.specs.Levels.{source_level}
use Rattle.vrt_model.specs.Lists.{At, Among}
use Rattle.vrt_model.specs.Reading.{HasGivenBit, IsReading, devices_of, is_given}
use Rattle.vrt_model.specs.Response.{Fight as FightThere, Float as FloatThere, IsResponse, Response, Shows}
use Rattle.vrt_model.specs.Solution.{Agrees, AlwaysResponds, IsSolution}
use Rattle.vrt_model.specs.State.{IsState, Setting, State, network_of}
use Rattle.vrt_model.specs.declared.circuit.Circuit.{Circuit}
use Rattle.vrt_model.specs.declared.circuit.Device.{Device}
use Rattle.vrt_model.specs.declared.circuit.FlatNet.{FlatNet}
use Rattle.vrt_model.specs.declared.rules.Phase.{Phase}
use Rattle.witness.proofs.LookLaws.{no_pin}
use Rattle.witness.proofs.PartResponses.{given_response, same_response}
use Rattle.witness.proofs.SettleLaws.{bit_there}
use Rattle.witness.specs.Replays.{AreValues, HasBits, HasSeen, bit_shown, bits_shown}
use Rattle.witness.specs.declared.seen.Seen.{Seen}
use Rattle.witness.specs.declared.seen.Seen.TheVariants.{Bit, Fight, Float, Blocked}

-- ---- bits

-- two options have one bit
abbrev pub IsOneBit : Option Bool → Option Bool → Type 0
IsOneBit o p = (v : Bool) × (o ≡ Some v) × (p ≡ Some v)

one_bit_or_not : (o p : Option Bool) → IsOneBit o p ⊎ (¬ IsOneBit o p)
one_bit_or_not None p = inr (λ h. none-some h.0 h.1)
one_bit_or_not (Some v) None = inr (λ h. none-some h.0 h.2)
one_bit_or_not (Some true) (Some true) = inl (true, refl, refl)
one_bit_or_not (Some true) (Some false) = inr (λ h. false≢true (same_Some false h.0 h.2 ∙ sym (same_Some true h.0 h.1)))
one_bit_or_not (Some false) (Some true) = inr (λ h. false≢true (same_Some false h.0 h.1 ∙ sym (same_Some true h.0 h.2)))
one_bit_or_not (Some false) (Some false) = inl (false, refl, refl)

-- what shows a response
abbrev pub seen_of : Response → Seen
seen_of FightThere = Fight
seen_of FloatThere = Float
seen_of (Shows v) = Bit v

-- whether a net is given
abbrev given_in : Option FlatNet → Bool
given_in o = unwrap_or (option_map (λ (net : FlatNet). is_given net.kind) o) false

given_found : (o : Option FlatNet) → given_in o ≡ true → (net : FlatNet) × (o ≡ Some net) × (is_given net.kind ≡ true)
given_found None f = absurd (false≢true f)
given_found (Some net) f = (net, refl, f)

module _ (c : Circuit) (phase : Phase) (flat : IsFlat c) (observed : ℕ → Bool) (gates : (d : Device) → Among c.devices d → observed d.gate.0 ≡ true) (setting : Setting)
    (a : ℕ → Option Bool) (solves : IsSolution c phase observed setting a) (bare kept : List Seen) (values : AreValues c phase setting bare kept) where
  -- ---- a state with the bits that nets show

  abbrev shown_reading : ℕ → Bool
  shown_reading n = unwrap_or (bits_shown bare n) false

  shown_has : HasBits (bits_shown bare) shown_reading
  shown_has n v e = ap (λ (o : Option Bool). unwrap_or o false) e

  given_shown : (n : ℕ) → IsGiven c n → bits_shown bare n ≡ Some (given_bit c phase setting.inputs n)
  given_shown n g = values.given n g.0 (given_bit c phase setting.inputs n) g.1 g.2 (base_reading c phase setting.inputs n g.0 g.1)

  shown_is_reading : IsReading c phase setting.inputs shown_reading
  shown_is_reading n net e =
      elim (cases_Bool (is_given net.kind)) [
        | inl g ↦ subst (HasGivenBit phase setting.inputs net.kind n) (sym (shown_has n (given_bit c phase setting.inputs n) (given_shown n (net, e, g)))) (base_reading c phase setting.inputs n net e)
        | inr f ↦ plain_any phase setting.inputs net.kind n (shown_reading n) f
      ]

  abbrev shown_state : State
  shown_state = record { reading = shown_reading; driven = λ at. false }

  shown_is : IsState c phase setting.inputs shown_state
  shown_is = record { reading = shown_is_reading; driven = λ at out e. absurd (no_pin c flat at out e) }

  -- ---- nets with given values

  given_shows : (n : ℕ) → IsGiven c n → (s : State) → IsState c phase setting.inputs s → IsResponse (network_of c true setting.held s) n (Shows (given_bit c phase setting.inputs n))
  given_shows n g s is =
      let v = given_bit c phase setting.inputs n in
      given_response c phase flat setting true n shown_state s shown_is is n (Shows v) g ((values.bare_seen n (Bit v) (bit_there bare n v (given_shown n g))).1 shown_state shown_is shown_has)

  given_solved : (n : ℕ) → observed n ≡ true → IsGiven c n → a n ≡ Some (given_bit c phase setting.inputs n)
  given_solved n o g = (solves n (given_bit c phase setting.inputs n) o).1 (λ s is agrees. given_shows n g s is)

  -- ---- known nets

  known_solved : (n : ℕ) (v : Bool) → observed n ≡ true → IsKnown c phase n v → a n ≡ Some v
  known_solved n v o k = known_in_solution c phase (flat_wired c flat) observed setting a solves (λ d m. gates d (device_among true c d m).0) n v k o

  -- ---- a state that agrees with the solution

  abbrev solved_reading : ℕ → Bool
  solved_reading n = cond (given_in (slice_get c.nets n)) (shown_reading n) (unwrap_or (a n) false)

  solved_is_reading : IsReading c phase setting.inputs solved_reading
  solved_is_reading n net e =
      elim (cases_Bool (is_given net.kind)) [
        | inl g ↦ subst (HasGivenBit phase setting.inputs net.kind n) (sym (cond-true (given_in (slice_get c.nets n)) (shown_reading n) (unwrap_or (a n) false) (ap given_in e ∙ g))) (shown_is_reading n net e)
        | inr f ↦ plain_any phase setting.inputs net.kind n (solved_reading n) f
      ]

  abbrev solved_state : State
  solved_state = record { reading = solved_reading; driven = λ at. false }

  solved_is : IsState c phase setting.inputs solved_state
  solved_is = record { reading = solved_is_reading; driven = λ at out e. absurd (no_pin c flat at out e) }

  solved_agrees : Agrees observed a solved_reading
  solved_agrees n v o e =
      elim (cases_Bool (given_in (slice_get c.nets n))) [
        | inl t ↦
            let g : IsGiven c n = given_found (slice_get c.nets n) t in
            cond-true (given_in (slice_get c.nets n)) (shown_reading n) (unwrap_or (a n) false) t ∙ shown_has n (given_bit c phase setting.inputs n) (given_shown n g)
            ∙ same_Some (given_bit c phase setting.inputs n) v (sym (given_solved n o g) ∙ e)
        | inr f ↦ cond-false (given_in (slice_get c.nets n)) (shown_reading n) (unwrap_or (a n) false) f ∙ ap (λ (o : Option Bool). unwrap_or o false) e
      ]

  -- ---- a net at whose part the gates have the same bits in both

  abbrev pub HasSameGates : Bool → ℕ → Type 0
  HasSameGates which n = (d : Device) → IsInPart c phase which n d → IsOneBit (a d.gate.0) (bits_shown bare d.gate.0)

  gate_seen : (which : Bool) (d : Device) → Among (devices_of which c) d → observed d.gate.0 ≡ true
  gate_seen which d m = gates d (device_among which c d m).0

  to_shown : (which : Bool) (n : ℕ) (r : Response) → n < length c.nets → HasSameGates which n → (s : State) → IsState c phase setting.inputs s → Agrees observed a s.reading
      → IsResponse (network_of c which setting.held s) n r → IsResponse (network_of c which setting.held shown_state) n r
  to_shown which n r lt same s is agrees h =
      elim (given_or_plain c n lt) [
        | inl g ↦ given_response c phase flat setting which n s shown_state is shown_is n r g h
        | inr p ↦ same_response c phase flat setting which n s shown_state is shown_is
            (λ d m v k. agrees d.gate.0 v (gate_seen which d m) (known_solved d.gate.0 v (gate_seen which d m) k))
            (λ d m v k. shown_has d.gate.0 v (values.known d.gate.0 v k))
            (λ d q. let bit = same d q in agrees d.gate.0 bit.0 (gate_seen which d q.3.0) bit.1 ∙ sym (shown_has d.gate.0 bit.0 bit.2))
            n r (alone p) h
      ]

  from_shown : (which : Bool) (n : ℕ) (r : Response) → n < length c.nets → HasSameGates which n → (s : State) → IsState c phase setting.inputs s → Agrees observed a s.reading
      → IsResponse (network_of c which setting.held shown_state) n r → IsResponse (network_of c which setting.held s) n r
  from_shown which n r lt same s is agrees h =
      elim (given_or_plain c n lt) [
        | inl g ↦ given_response c phase flat setting which n shown_state s shown_is is n r g h
        | inr p ↦ same_response c phase flat setting which n shown_state s shown_is is
            (λ d m v k. shown_has d.gate.0 v (values.known d.gate.0 v k))
            (λ d m v k. agrees d.gate.0 v (gate_seen which d m) (known_solved d.gate.0 v (gate_seen which d m) k))
            (λ d q. let bit = same d q in shown_has d.gate.0 bit.0 bit.2 ∙ sym (agrees d.gate.0 bit.0 (gate_seen which d q.3.0) bit.1))
            n r (alone p) h
      ]

  -- what is seen of it is its response
  is_seen : (which : Bool) (n : ℕ) (r : Response) (seen : Seen) → HasSameGates which n → IsResponse (network_of c which setting.held shown_state) n r
      → HasSeen c phase setting (bits_shown bare) which n seen → seen ≡ seen_of r
  is_seen which n r Blocked same h k = let bit = same k.0 k.1 in absurd (none-some bit.0 (sym k.2 ∙ bit.2))
  is_seen which n r (Bit v) same h k = ap seen_of (one_response (network_of c which setting.held shown_state) n (Shows v) r (k.1 shown_state shown_is shown_has) h)
  is_seen which n r Fight same h k = ap seen_of (one_response (network_of c which setting.held shown_state) n FightThere r (k.1 shown_state shown_is shown_has) h)
  is_seen which n r Float same h k = ap seen_of (one_response (network_of c which setting.held shown_state) n FloatThere r (k.1 shown_state shown_is shown_has) h)

  bare_is : (n : ℕ) (r : Response) → n < length c.nets → HasSameGates true n → IsResponse (network_of c true setting.held shown_state) n r → At bare n (seen_of r)
  bare_is n r lt same h =
      let size = values.bare_count in
      let there = at_there bare n (omega (arith, lt, size)) in
      there.1 ∙ ap Some (is_seen true n r there.0 same h (values.bare_seen n there.0 there.1))

  kept_is : (n : ℕ) (r : Response) → n < length c.nets → HasSameGates false n → IsResponse (network_of c false setting.held shown_state) n r → At kept n (seen_of r)
  kept_is n r lt same h =
      let size = values.kept_count in
      let there = at_there kept n (omega (arith, lt, size)) in
      there.1 ∙ ap Some (is_seen false n r there.0 same h (values.kept_seen n there.0 there.1))

  -- so it is of a net that responds in one way wherever the solution stands
  pub bare_shows : (n : ℕ) (r : Response) → n < length c.nets → HasSameGates true n → AlwaysResponds c phase observed setting a true n r → At bare n (seen_of r)
  bare_shows n r lt same always = bare_is n r lt same (to_shown true n r lt same solved_state solved_is solved_agrees (always solved_state solved_is solved_agrees))

  pub kept_shows : (n : ℕ) (r : Response) → n < length c.nets → HasSameGates false n → AlwaysResponds c phase observed setting a false n r → At kept n (seen_of r)
  kept_shows n r lt same always = kept_is n r lt same (to_shown false n r lt same solved_state solved_is solved_agrees (always solved_state solved_is solved_agrees))

  -- each net of the kept circuit with such gates responds in some way, which is seen, and is so in some state that agrees
  pub kept_some : (n : ℕ) → n < length c.nets → HasSameGates false n
      → (r : Response) × At kept n (seen_of r) × ((s : State) × IsState c phase setting.inputs s × Agrees observed a s.reading × IsResponse (network_of c false setting.held s) n r)
  kept_some n lt same =
      let w = network_of c false setting.held shown_state in
      let some = some_response w (length c.nets) (source_level c) (network_finite c false setting.held shown_state (flat_ranges c flat)) n in
      (some.0, kept_is n some.0 lt same some.1, (solved_state, solved_is, solved_agrees, from_shown false n some.0 lt same solved_state solved_is solved_agrees some.1))

  -- ---- a net that neither fights nor floats has its bit in both

  abbrev pub IsCalm : ℕ → Type 0
  IsCalm n = (¬ AlwaysResponds c phase observed setting a true n FightThere) × (¬ AlwaysResponds c phase observed setting a true n FloatThere)

  plain_same : (n : ℕ) → observed n ≡ true → n < length c.nets → IsCalm n → HasSameGates true n → IsOneBit (a n) (bits_shown bare n)
  plain_same n o lt calm same =
      let w = network_of c true setting.held shown_state in
      let some = some_response w (length c.nets) (source_level c) (network_finite c true setting.held shown_state (flat_ranges c flat)) n in
      pick some.0 (λ s is agrees. from_shown true n some.0 lt same s is agrees some.1)
    where
      pick : (r : Response) → AlwaysResponds c phase observed setting a true n r → IsOneBit (a n) (bits_shown bare n)
      pick FightThere always = absurd (calm.0 always)
      pick FloatThere always = absurd (calm.1 always)
      pick (Shows v) always =
          (v, (solves n v o).1 always, ap (λ (o : Option Seen). unwrap_or (option_map bit_shown o) None) (bare_shows n (Shows v) lt same always))

  -- ---- from rank to rank

  module _ (rank : ℕ → ℕ) (above : (n m : ℕ) → HasRankArc c phase n m → rank n < rank m) where
    -- a gate of the part of a net has its bit in both, where those of lower rank have
    gate_same : (n : ℕ) → ((m : ℕ) → observed m ≡ true → m < length c.nets → rank m < rank n → IsOneBit (a m) (bits_shown bare m)) → HasSameGates true n
    gate_same n below d p =
        let g = d.gate.0 in
        let o = gate_seen true d p.3.0 in
        let inside : g < length c.nets = (all_among (IsDevice c) c.devices d flat.devices (device_among true c d p.3.0).0).gate in
        elim (one_bit_or_not (a g) (bits_shown bare g)) [
          | inl same ↦ same
          | inr other ↦
              let unknown : IsUnknown c phase g = λ v k. other (v, known_solved g v o k, values.known g v k) in
              below g o inside (above g n (inl (inl (d, p, refl, unknown), unknown)))
        ]

    pub same_from : (k : ℕ) (n : ℕ) → ((m : ℕ) → observed m ≡ true → IsPlain c m → rank m < k → IsCalm m) → observed n ≡ true → n < length c.nets → rank n < k
        → IsOneBit (a n) (bits_shown bare n)
    same_from zero n calm o lt less = absurd (omega (arith, less))
    same_from (suc k) n calm o lt less =
        elim (given_or_plain c n lt) [
          | inl g ↦ (given_bit c phase setting.inputs n, given_solved n o g, given_shown n g)
          | inr p ↦ plain_same n o lt (calm n o p less)
              (gate_same n (λ m om inside lower. same_from k m (λ l ol pl low. calm l ol pl (omega (arith, low))) om inside (omega (arith, lower, less))))
        ]

    -- the gates of the part of a net, where the nets of lower rank are calm
    pub gates_same : (n : ℕ) → ((m : ℕ) → observed m ≡ true → IsPlain c m → rank m < rank n → IsCalm m) → HasSameGates true n
    gates_same n calm = gate_same n (λ m om inside lower. same_from (rank n) m calm om inside lower)

    -- all observed nets, and all gates of the kept circuit, where all nets are calm
    pub all_same : ((m : ℕ) → observed m ≡ true → IsPlain c m → IsCalm m) → (n : ℕ) → observed n ≡ true → n < length c.nets → IsOneBit (a n) (bits_shown bare n)
    all_same calm n o lt = same_from (suc (rank n)) n (λ m om p less. calm m om p) o lt (omega arith)

    pub kept_gates : ((m : ℕ) → observed m ≡ true → IsPlain c m → IsCalm m) → (n : ℕ) → HasSameGates false n
    kept_gates calm n d p =
        all_same calm d.gate.0 (gate_seen false d p.3.0) ((all_among (IsDevice c) c.devices d flat.devices (device_among false c d p.3.0).0).gate)
