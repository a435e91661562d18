-- Circuits without whole instances in which each gate is a net with a given value: all states have the same conducting
-- devices, so there is exactly one solution, and it is what the nets show in any one state.
use Rattle.std.proofs.Common.{◌≡◌, ℕ, ◌≤◌, ◌⊎◌, Bool, true, false, cond, List, [], Option, Some, None, length, map, arith, ap, subst, sym, refl, ◌∙◌, inl, inr}
use Rattle.std.specs.Prelude.{◌↔◌, not, option_map, slice_get, unwrap_or}
use Rattle.std.proofs.lemmas.Bool.{cases_Bool, cond-false, cond-true, false≢true}
use Rattle.std.proofs.lemmas.Option.{none-some, same_Some}
use Rattle.vrt_model.proofs.Decidable.{some_response}
use Rattle.vrt_model.proofs.Filtered.{among_devices, device_among}
use Rattle.vrt_model.proofs.GivenNets.{clear_from_source, source_strength}
use Rattle.vrt_model.proofs.Laws.{one_response}
use Rattle.vrt_model.proofs.Members.{all_among, at_none}
use Rattle.vrt_model.proofs.Networks.{given_source, network_finite, network_levels}
use Rattle.vrt_model.proofs.SameNetwork.{IsPartOf, response_same}
use Rattle.vrt_model.proofs.Tests.{option_same}
use Rattle.vrt_model.proofs.Scales.{least_below}
use Rattle.vrt_model.specs.Levels.{source_level}
use Rattle.vrt_model.specs.Circuits.{IsHold}
use Rattle.vrt_model.specs.Constraints.{given_bit, given_by_kind}
use Rattle.vrt_model.specs.Lists.{At, Among}
use Rattle.vrt_model.specs.Path.{Hop, IsPath, IsRoot, Root, end_of}
use Rattle.vrt_model.specs.Reading.{HasGivenBit, IsReading, conducts_at, is_given, is_given_at, is_in}
use Rattle.vrt_model.specs.Response.{Fight, Float, IsClear, IsResponse, IsStrength, Reaches, Response, Shows}
use Rattle.vrt_model.specs.Solution.{Agrees, AlwaysResponds, IsSolution, SameObserved}
use Rattle.vrt_model.specs.State.{IsState, OutputPin, Setting, State, network_of, output_pins}
use Rattle.vrt_model.specs.declared.circuit.Circuit.{Circuit}
use Rattle.vrt_model.specs.declared.circuit.Device.{Device}
use Rattle.vrt_model.specs.declared.circuit.FlatNet.{FlatNet}
use Rattle.vrt_model.specs.declared.circuit.NetKind.{NetKind}
use Rattle.vrt_model.specs.declared.circuit.NetKind.TheVariants.{Supply, Clock, Input, Plain}
use Rattle.vrt_model.specs.declared.rules.Phase.{Phase}
use Rattle.vrt_model.specs.declared.whole.Whole.{Whole}
use Rattle.vrt_model.specs.declared.whole.WholePin.{WholePin}
use Rattle.vrt_model.specs.Networks.{HasLevels, IsSource, HasRanges}

-- a net with a given value
abbrev pub IsGiven : Circuit → ℕ → Type 0
IsGiven c n = (net : FlatNet) × At c.nets n net × (is_given net.kind ≡ true)

-- a circuit without whole instances, with its numbers in range, whose gates are nets with given values
pub record HasGivenGates (c : Circuit) : Type 0 where
  pub ranges : HasRanges c
  pub wholes : c.wholes ≡ []
  pub gates : (d : Device) → Among c.devices d → IsGiven c d.gate.0

-- ---- given bits

-- a net with a given value has one
pub given_once : (phase : Phase) (inputs : ℕ → Bool) (kind : NetKind) (n : ℕ) (u v : Bool) → is_given kind ≡ true → HasGivenBit phase inputs kind n u → HasGivenBit phase inputs kind n v → u ≡ v
given_once phase inputs (Supply value) n u v g p q = p ∙ sym q
given_once phase inputs (Clock clock) n u v g p q = p ∙ sym q
given_once phase inputs Input n u v g p q = p ∙ sym q
given_once phase inputs Plain n u v g p q = absurd (false≢true g)

pub plain_any : (phase : Phase) (inputs : ℕ → Bool) (kind : NetKind) (n : ℕ) (v : Bool) → is_given kind ≡ false → HasGivenBit phase inputs kind n v
plain_any phase inputs (Supply value) n v g = absurd (false≢true (sym g))
plain_any phase inputs (Clock clock) n v g = absurd (false≢true (sym g))
plain_any phase inputs Input n v g = absurd (false≢true (sym g))
plain_any phase inputs Plain n v g = tt

given_has : (phase : Phase) (inputs : ℕ → Bool) (kind : NetKind) (n : ℕ) → HasGivenBit phase inputs kind n (given_by_kind phase inputs n kind)
given_has phase inputs (Supply value) n = refl
given_has phase inputs (Clock clock) n = refl
given_has phase inputs Input n = refl
given_has phase inputs Plain n = tt

-- the bits of the given nets, and 0 at the others, are a reading
pub base_reading : (c : Circuit) (phase : Phase) (inputs : ℕ → Bool) → IsReading c phase inputs (given_bit c phase inputs)
base_reading c phase inputs n net e =
    subst (λ (o : Option FlatNet). HasGivenBit phase inputs net.kind n (unwrap_or (option_map (λ (x : FlatNet). given_by_kind phase inputs n x.kind) o) false)) (sym e) (given_has phase inputs net.kind n)

-- the value of a response, if it is one
abbrev pub shown_by : Response → Option Bool
shown_by Fight = None
shown_by Float = None
shown_by (Shows v) = Some v

pub shown_is : (r : Response) (v : Bool) → shown_by r ≡ Some v → r ≡ Shows v
shown_is Fight v e = absurd (none-some v e)
shown_is Float v e = absurd (none-some v e)
shown_is (Shows u) v e = ap Shows (same_Some u v e)

pub given_at_is : (c : Circuit) (n : ℕ) (net : FlatNet) → At c.nets n net → is_given_at c n ≡ is_given net.kind
given_at_is c n net e = ap (λ (o : Option FlatNet). unwrap_or (option_map (λ (x : FlatNet). is_given x.kind) o) false) e

-- a net that passes the test has a given value
pub given_at_gives : (c : Circuit) (n : ℕ) → is_given_at c n ≡ true → IsGiven c n
given_at_gives c n t = found (slice_get c.nets n) refl t
  where
    found : (o : Option FlatNet) → slice_get c.nets n ≡ o → unwrap_or (option_map (λ (x : FlatNet). is_given x.kind) o) false ≡ true → IsGiven c n
    found None e t = absurd (false≢true t)
    found (Some net) e t = (net, e, t)

module _ (c : Circuit) (phase : Phase) (good : HasGivenGates c) (setting : Setting) where
  no_pin : (at : ℕ) (out : OutputPin) → At (output_pins c) at out → ⊥
  no_pin at out e = at_none at out (subst (λ (ws : List Whole). At (output_pins (record c { wholes = ws })) at out) good.wholes e)

  no_output : (bare : Bool) (s : State) (at : ℕ) (pin : WholePin) → At (network_of c bare setting.held s).outputs at pin → ⊥
  no_output bare s at pin e =
      at_none at pin (subst (λ (ws : List Whole). At (map (λ (out : OutputPin). out.pin) (output_pins (record c { wholes = ws }))) at pin) good.wholes e)

  -- each reading is that of a state
  pub state_from : (reading : ℕ → Bool) → IsReading c phase setting.inputs reading → IsState c phase setting.inputs (record { reading = reading; driven = λ at. false })
  state_from reading is = record { reading = is; driven = λ at out e. absurd (no_pin at out e) }

  pub given_state : State
  given_state = record { reading = given_bit c phase setting.inputs; driven = λ at. false }

  pub given_state_is : IsState c phase setting.inputs given_state
  unfolding given_state
  given_state_is = state_from (given_bit c phase setting.inputs) (base_reading c phase setting.inputs)

  -- two states have the same bit at a given net
  same_given : (s t : State) → IsState c phase setting.inputs s → IsState c phase setting.inputs t → (n : ℕ) → IsGiven c n → s.reading n ≡ t.reading n
  same_given s t is it n g =
      given_once phase setting.inputs g.0.kind n (s.reading n) (t.reading n) g.2 (is.reading n g.0 g.1) (it.reading n g.0 g.1)

  -- so their networks have the same roots and conducting devices
  part_of : (bare : Bool) (s t : State) → IsState c phase setting.inputs s → IsState c phase setting.inputs t
      → IsPartOf (network_of c bare setting.held s) (network_of c bare setting.held t)
  part_of bare s t is it = record {
    roots = λ root r. elim r [
      | inl g ↦ inl (g.0, g.1, g.2, g.3, g.4 ∙ same_given s t is it root.net (g.0, g.1, g.2))
      | inr other ↦ elim other [ inl h ↦ inr (inl h) | inr o ↦ absurd (no_output bare s o.0 o.1 o.2) ]
    ];
    devices = λ d on. (
      on.0,
      subst (λ (b : Bool). conducts_at d.kind b ≡ true) (same_given s t is it d.gate.0 (good.gates d (device_among bare c d on.0).0)) on.1,
    );
  }

  -- a net responds in the same way in all states
  pub same_response : (bare : Bool) (s t : State) → IsState c phase setting.inputs s → IsState c phase setting.inputs t → (n : ℕ) (r : Response)
      → IsResponse (network_of c bare setting.held s) n r → IsResponse (network_of c bare setting.held t) n r
  same_response bare s t is it = response_same (network_of c bare setting.held s) (network_of c bare setting.held t) (part_of bare s t is it) (part_of bare t s it is)

  -- a net with a given value shows it
  pub given_shows : (bare : Bool) (s : State) (n : ℕ) → IsGiven c n → IsResponse (network_of c bare setting.held s) n (Shows (s.reading n))
  given_shows bare s n g = shows (s.reading n) refl
    where
      levels : HasLevels (network_of c bare setting.held s)
      levels = network_levels c bare setting.held s good.ranges

      source : IsSource (network_of c bare setting.held s) n
      source = given_source c bare setting.held s good.ranges n g.0 g.1 g.2

      here : Reaches (network_of c bare setting.held s) n (s.reading n)
      here = (record { net = n; level = source_level c; value = s.reading n }, [], inl (g.0, g.1, g.2, refl, refl), source_strength (network_of c bare setting.held s) levels n source, refl, refl)

      -- the root of a path of the source level is the net itself
      own_value : (root : Root) → IsRoot (network_of c bare setting.held s) root → root.net ≡ n → IsStrength (network_of c bare setting.held s) root.net root.level → root.value ≡ s.reading n
      own_value root r e strong =
          let top : source_level c ≤ root.level = strong.0 (record { net = n; level = source_level c; value = s.reading n }) [] (inl (g.0, g.1, g.2, refl, refl)) (sym e) in
          elim r [
            | inl h ↦ h.4 ∙ ap s.reading e
            | inr other ↦ elim other [
              | inl h ↦ absurd (let is = h.4 in let le = (all_among (IsHold c) c.holds h.1 good.ranges.holds (h.0, h.2)).size.1 in let below = least_below c in omega (arith, top, is, le, below))
              | inr o ↦ absurd (no_output bare s o.0 o.1 o.2)
            ]
          ]

      only : (u : Bool) → Reaches (network_of c bare setting.held s) n u → u ≡ s.reading n
      only u (root, hops, p, clear, e, is) =
          let none : hops ≡ [] = clear_from_source (network_of c bare setting.held s) levels root hops p clear (subst (IsSource (network_of c bare setting.held s)) (sym e) source) in
          let path : IsPath (network_of c bare setting.held s) root [] = subst (IsPath (network_of c bare setting.held s) root) none p in
          let strong : IsClear (network_of c bare setting.held s) root [] = subst (IsClear (network_of c bare setting.held s) root) none clear in
          let ends : root.net ≡ n = subst (λ (hs : List Hop). end_of root hs ≡ n) none e in
          sym is ∙ own_value root path ends strong

      shows : (u : Bool) → s.reading n ≡ u → IsResponse (network_of c bare setting.held s) n (Shows u)
      shows true e = (subst (Reaches (network_of c bare setting.held s) n) e here, λ other. false≢true (only false other ∙ e))
      shows false e = (subst (Reaches (network_of c bare setting.held s) n) e here, λ other. false≢true (sym (only true other ∙ e)))

  -- a reading with the given bits, and those of a partial assignment at the other nets
  abbrev filled : (ℕ → Option Bool) → ℕ → Bool
  filled a n = cond (is_given_at c n) (given_state.reading n) (unwrap_or (a n) false)

  pub filled_state : (a : ℕ → Option Bool) → State
  filled_state a = record { reading = filled a; driven = λ at. false }

  filled_reading : (a : ℕ → Option Bool) → IsReading c phase setting.inputs (filled a)
  filled_reading a n net e =
      elim (cases_Bool (is_given net.kind)) [
        | inl g ↦ subst (HasGivenBit phase setting.inputs net.kind n) (sym (cond-true (is_given_at c n) (given_state.reading n) (unwrap_or (a n) false) (given_at_is c n net e ∙ g))) (given_state_is.reading n net e)
        | inr f ↦ plain_any phase setting.inputs net.kind n (filled a n) f
      ]

  pub filled_is : (a : ℕ → Option Bool) → IsState c phase setting.inputs (filled_state a)
  unfolding filled_state
  filled_is a = state_from (filled a) (filled_reading a)

  module _ (observed : ℕ → Bool) where
    -- a partial assignment that has the given bits at the observed given nets agrees with some state
    filled_agrees : (a : ℕ → Option Bool) → ((n : ℕ) → observed n ≡ true → IsGiven c n → a n ≡ Some (given_state.reading n)) → Agrees observed a (filled_state a).reading
    unfolding filled_state
    filled_agrees a gives n v seen e =
        elim (cases_Bool (is_given_at c n)) [
          | inl g ↦ cond-true (is_given_at c n) (given_state.reading n) (unwrap_or (a n) false) g ∙ same_Some (given_state.reading n) v (sym (gives n seen (given_at_gives c n g)) ∙ e)
          | inr f ↦ cond-false (is_given_at c n) (given_state.reading n) (unwrap_or (a n) false) f ∙ ap (λ (o : Option Bool). unwrap_or o false) e
        ]

    -- a solution has the given bits at the observed given nets
    solution_given : (a : ℕ → Option Bool) → IsSolution c phase observed setting a → (n : ℕ) → observed n ≡ true → IsGiven c n → a n ≡ Some (given_state.reading n)
    solution_given a solves n seen g =
        (solves n (given_state.reading n) seen).1
        (λ s is agrees. subst (λ (v : Bool). IsResponse (network_of c true setting.held s) n (Shows v)) (same_given s given_state is given_state_is n g) (given_shows true s n g))

    pub solution_agrees : (a : ℕ → Option Bool) → IsSolution c phase observed setting a → Agrees observed a (filled_state a).reading
    solution_agrees a solves = filled_agrees a (solution_given a solves)

    -- a net always responds as in any one state, where a is a solution
    pub always_responds : (a : ℕ → Option Bool) → IsSolution c phase observed setting a → (s : State) → IsState c phase setting.inputs s → (bare : Bool) (n : ℕ) (r : Response)
        → AlwaysResponds c phase observed setting a bare n r ↔ IsResponse (network_of c bare setting.held s) n r
    always_responds a solves s is bare n r = (
      λ always. same_response bare (filled_state a) s (filled_is a) is n r (always (filled_state a) (filled_is a) (solution_agrees a solves)),
      λ here t it agrees. same_response bare s t is it n r here,
    )

    -- so a solution is what the nets show in any one state
    pub solution_shows : (a : ℕ → Option Bool) → IsSolution c phase observed setting a → (s : State) → IsState c phase setting.inputs s → (n : ℕ) (v : Bool) → observed n ≡ true
        → (a n ≡ Some v) ↔ IsResponse (network_of c true setting.held s) n (Shows v)
    solution_shows a solves s is n v seen =
        let always = always_responds a solves s is true n (Shows v) in
        (λ e. always.0 ((solves n v seen).0 e), λ h. (solves n v seen).1 (always.1 h))

    -- there is at most one solution
    pub one_solution : (a b : ℕ → Option Bool) → IsSolution c phase observed setting a → IsSolution c phase observed setting b → SameObserved observed a b
    one_solution a b sa sb n seen =
        option_same (a n) (b n)
        (λ v e. (solution_shows b sb given_state given_state_is n v seen).1 ((solution_shows a sa given_state given_state_is n v seen).0 e))
        (λ v e. (solution_shows a sa given_state given_state_is n v seen).1 ((solution_shows b sb given_state given_state_is n v seen).0 e))

    -- the response of each net in that state
    pub response_at : (n : ℕ) → (r : Response) × IsResponse (network_of c true setting.held given_state) n r
    response_at n = some_response (network_of c true setting.held given_state) (length c.nets) (source_level c) (network_finite c true setting.held given_state good.ranges) n

    pub shown : ℕ → Option Bool
    shown n = shown_by (response_at n).0

    shown_shows : (n : ℕ) (v : Bool) → (shown n ≡ Some v) ↔ IsResponse (network_of c true setting.held given_state) n (Shows v)
    unfolding shown
    shown_shows n v = (
      λ e. subst (IsResponse (network_of c true setting.held given_state) n) (shown_is (response_at n).0 v e) (response_at n).1,
      λ h. ap shown_by (one_response (network_of c true setting.held given_state) n (response_at n).0 (Shows v) (response_at n).1 h),
    )

    -- and there is one: what the nets show
    pub shown_is_solution : IsSolution c phase observed setting shown
    shown_is_solution n v seen = (
      λ e s is agrees. same_response true given_state s given_state_is is n (Shows v) ((shown_shows n v).0 e),
      λ always. (shown_shows n v).1
          (same_response true (filled_state shown) given_state (filled_is shown) given_state_is n (Shows v)
          (always (filled_state shown) (filled_is shown)
          (filled_agrees shown (λ m seen g. (shown_shows m (given_state.reading m)).1 (given_shows true given_state m g))))),
    )

    -- a solution has a bit at an observed net exactly where the net neither fights nor floats
    pub solution_defined : (a : ℕ → Option Bool) → IsSolution c phase observed setting a → (s : State) → IsState c phase setting.inputs s → (n : ℕ) → observed n ≡ true
        → ((v : Bool) × (a n ≡ Some v) × IsResponse (network_of c true setting.held s) n (Shows v))
        ⊎ ((a n ≡ None) × (IsResponse (network_of c true setting.held s) n Fight ⊎ IsResponse (network_of c true setting.held s) n Float))
    solution_defined a solves s is n seen =
        by_response (response_at n).0 (same_response true given_state s given_state_is is n (response_at n).0 (response_at n).1)
      where
        none_from : (r : Response) → IsResponse (network_of c true setting.held s) n r → ((v : Bool) → r ≡ Shows v → ⊥) → a n ≡ None
        none_from r here apart =
            option_same (a n) None
            (λ v e. absurd (apart v (one_response (network_of c true setting.held s) n r (Shows v) here ((solution_shows a solves s is n v seen).0 e))))
            (λ v e. absurd (none-some v e))

        by_response : (r : Response) → IsResponse (network_of c true setting.held s) n r
            → ((v : Bool) × (a n ≡ Some v) × IsResponse (network_of c true setting.held s) n (Shows v))
            ⊎ ((a n ≡ None) × (IsResponse (network_of c true setting.held s) n Fight ⊎ IsResponse (network_of c true setting.held s) n Float))
        by_response Fight here = inr (none_from Fight here (λ v e. cc), inl here)
        by_response Float here = inr (none_from Float here (λ v e. cc), inr here)
        by_response (Shows v) here = inl (v, (solution_shows a solves s is n v seen).1 here, here)

-- ---- without keepers

-- a circuit without keepers responds in the same way bare and kept
pub kept_response : (c : Circuit) (held : ℕ → Bool) (s : State) → ((d : Device) → Among c.devices d → d.keeper ≡ false) → (bare other : Bool) (n : ℕ) (r : Response)
    → IsResponse (network_of c bare held s) n r → IsResponse (network_of c other held s) n r
kept_response c held s none bare other = response_same (network_of c bare held s) (network_of c other held s) (part bare other) (part other bare)
  where
    is_in_any : (which : Bool) (d : Device) → d.keeper ≡ false → is_in which d ≡ true
    is_in_any true d e = ap not e
    is_in_any false d e = refl

    part : (one two : Bool) → IsPartOf (network_of c one held s) (network_of c two held s)
    part one two = record {
      roots = λ root r. r;
      devices = λ d on. (let there = (device_among one c d on.0).0 in (among_devices two c d there (is_in_any two d (none d there)), on.1));
    }
