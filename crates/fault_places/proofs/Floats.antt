-- In a circuit that has a state for each reading no net with a given value floats, so a net at which a float is found is plain.
use Rattle.std.proofs.Common.{◌≡◌, ℕ, ◌<◌, ◌≤◌, Bool, true, false, cond, List, [], Option, Some, None, length, arith, ap, refl, sym, subst, ◌∙◌, inl, inr}
use Rattle.std.specs.Prelude.{slice_get, unwrap_or}
use Rattle.std.proofs.lemmas.Bool.{cases_Bool, cond-false, cond-true, false≢true}
use Rattle.std.proofs.lemmas.Option.{same_Some}
use Rattle.fault_places.specs.Searches.{IsFoundAt}
use Rattle.fault_places.specs.States.{HasStates}
use Rattle.vrt_model.proofs.GatesGiven.{IsGiven}
use Rattle.vrt_model.proofs.GivenNets.{clear_from_source, source_strength}
use Rattle.vrt_model.proofs.Laws.{shows_from, shows_no_float}
use Rattle.vrt_model.proofs.Lists.{at_map, at_there}
use Rattle.vrt_model.proofs.Members.{all_among}
use Rattle.vrt_model.proofs.Networks.{given_source, network_levels}
use Rattle.vrt_model.proofs.Scales.{least_below}
use Rattle.vrt_model.specs.Circuits.{IsHold}
use Rattle.vrt_model.specs.Comparison.{Comparison, is_observed, phase_at}
use Rattle.vrt_model.specs.Held.{setting_of}
use Rattle.vrt_model.specs.Known.{IsPlain}
use Rattle.vrt_model.specs.Levels.{source_level}
use Rattle.vrt_model.specs.Lists.{At}
use Rattle.vrt_model.specs.Networks.{HasLevels, HasRanges, IsSource}
use Rattle.vrt_model.specs.Path.{Hop, IsPath, IsRoot, Network, Root, end_of}
use Rattle.vrt_model.specs.Reading.{HasGivenBit, IsReading, clock_bit, is_given}
use Rattle.vrt_model.specs.Response.{Float, IsClear, IsResponse, IsStrength, Reaches, Shows}
use Rattle.vrt_model.specs.Solution.{Agrees, AlwaysResponds, IsSolution}
use Rattle.vrt_model.specs.State.{IsState, OutputPin, Setting, State, network_of, output_pins}
use Rattle.vrt_model.specs.declared.circuit.Circuit.{Circuit}
use Rattle.vrt_model.specs.declared.circuit.FlatNet.{FlatNet}
use Rattle.vrt_model.specs.declared.circuit.NetKind.{NetKind}
use Rattle.vrt_model.specs.declared.circuit.NetKind.TheVariants.{Supply, Clock, Input, Plain}
use Rattle.vrt_model.specs.declared.rules.Phase.{Phase}
use Rattle.vrt_model.specs.declared.verdict.FaultKind.TheVariants.{Float as FloatFault}
use Rattle.vrt_model.specs.declared.whole.WholePin.{WholePin}

kind_cases : (net : FlatNet) (kind : NetKind) → net.kind ≡ kind → (is_given net.kind ≡ false) → net.kind ≡ Plain
kind_cases net (Supply value) e f = absurd (false≢true (sym f ∙ ap is_given e))
kind_cases net (Clock clock) e f = absurd (false≢true (sym f ∙ ap is_given e))
kind_cases net Input e f = absurd (false≢true (sym f ∙ ap is_given e))
kind_cases net Plain e f = e

module _ (c : Circuit) (phase : Phase) (observed : ℕ → Bool) (ranges : HasRanges c) (states : HasStates c phase) (setting : Setting) where
  abbrev circuit_in : State → Network
  circuit_in s = network_of c true setting.held s

  -- an output is at no net with a given value
  no_output : (s : State) (at : ℕ) (pin : WholePin) (n : ℕ) → At (circuit_in s).outputs at pin → n ≡ pin.net.0 → IsGiven c n → ⊥
  no_output s at pin n e same g =
      let from = at_map (λ (out : OutputPin). out.pin) (output_pins c) at pin e in
      let out : OutputPin = from.0 in
      let plain : IsPlain c n = subst (IsPlain c) (sym (same ∙ ap (λ (p : WholePin). p.net.0) (sym from.2))) (states.plain at out from.1) in
      false≢true (sym (ap is_given plain.2) ∙ ap (λ (net : FlatNet). is_given net.kind) (same_Some plain.0 g.0 (sym plain.1 ∙ g.1)) ∙ g.2)

  levels : (s : State) → HasLevels (circuit_in s)
  levels s = network_levels c true setting.held s ranges

  source : (s : State) (n : ℕ) → IsGiven c n → IsSource (circuit_in s) n
  source s n g = given_source c true setting.held s ranges n g.0 g.1 g.2

  -- the bit of a net with a given value
  abbrev given_value : NetKind → ℕ → Bool
  given_value (Supply value) n = value
  given_value (Clock clock) n = clock_bit phase clock
  given_value Input n = setting.inputs n
  given_value Plain n = false

  value_is : (kind : NetKind) (n : ℕ) (bit : Bool) → is_given kind ≡ true → HasGivenBit phase setting.inputs kind n bit → bit ≡ given_value kind n
  value_is (Supply value) n bit g h = h
  value_is (Clock clock) n bit g h = h
  value_is Input n bit g h = h
  value_is Plain n bit g h = absurd (false≢true g)

  has_value : (kind : NetKind) (n : ℕ) (b : Bool) → HasGivenBit phase setting.inputs kind n (cond (is_given kind) (given_value kind n) b)
  has_value (Supply value) n b = refl
  has_value (Clock clock) n b = refl
  has_value Input n b = refl
  has_value Plain n b = tt

  -- a given net shows its bit
  given_shows : (s : State) (n : ℕ) → IsGiven c n → IsResponse (circuit_in s) n (Shows (s.reading n))
  given_shows s n g = shows_from (circuit_in s) n (s.reading n) reached only
    where
      reached : Reaches (circuit_in s) n (s.reading n)
      reached = (record { net = n; level = source_level c; value = s.reading n }, [], inl (g.0, g.1, g.2, refl, refl), source_strength (circuit_in s) (levels s) n (source s n g), refl, refl)

      -- the root of a path of the source level is the net itself
      own_value : (r : Root) → IsRoot (circuit_in s) r → r.net ≡ n → IsStrength (circuit_in s) r.net r.level → r.value ≡ s.reading n
      own_value r from e strong =
          let top : source_level c ≤ r.level = strong.0 (record { net = n; level = source_level c; value = s.reading n }) [] (inl (g.0, g.1, g.2, refl, refl)) (sym e) in
          elim from [
            | inl h ↦ h.4 ∙ ap s.reading e
            | inr other ↦ elim other [
              | inl h ↦ absurd (let same = h.4 in let le = (all_among (IsHold c) c.holds h.1 ranges.holds (h.0, h.2)).size.1 in let below = least_below c in omega (arith, top, same, le, below))
              | inr o ↦ absurd (no_output s o.0 o.1 r.net o.2 o.3 (subst (IsGiven c) (sym e) g))
            ]
          ]

      only : (u : Bool) → Reaches (circuit_in s) n u → u ≡ s.reading n
      only u (r, hops, p, clear, e, value) =
          let none : hops ≡ [] = clear_from_source (circuit_in s) (levels s) r hops p clear (subst (IsSource (circuit_in s)) (sym e) (source s n g)) in
          let path : IsPath (circuit_in s) r [] = subst (IsPath (circuit_in s) r) none p in
          let strong : IsClear (circuit_in s) r [] = subst (IsClear (circuit_in s) r) none clear in
          let ends : r.net ≡ n = subst (λ (hs : List Hop). end_of r hs ≡ n) none e in
          sym value ∙ own_value r path ends strong

  module _ (a : ℕ → Option Bool) (solves : IsSolution c phase observed setting a) where
    given_bit : (n : ℕ) (net : FlatNet) → observed n ≡ true → At c.nets n net → is_given net.kind ≡ true → a n ≡ Some (given_value net.kind n)
    given_bit n net o e g =
        (solves n (given_value net.kind n) o).1
        (λ s is agrees. subst (λ (v : Bool). IsResponse (circuit_in s) n (Shows v)) (value_is net.kind n (s.reading n) g (is.reading n net e)) (given_shows s n (net, e, g)))

    -- ---- a state that agrees

    abbrev filled_by : Option FlatNet → ℕ → Bool
    filled_by None n = unwrap_or (a n) false
    filled_by (Some net) n = cond (is_given net.kind) (given_value net.kind n) (unwrap_or (a n) false)

    abbrev bits : ℕ → Bool
    bits n = filled_by (slice_get c.nets n) n

    filled_reading : IsReading c phase setting.inputs bits
    filled_reading n net e =
        subst (λ (o : Option FlatNet). HasGivenBit phase setting.inputs net.kind n (filled_by o n)) (sym e) (has_value net.kind n (unwrap_or (a n) false))

    abbrev some_state : State
    some_state = record { reading = bits; driven = (states.state setting.inputs bits filled_reading).0 }

    some_state_is : IsState c phase setting.inputs some_state
    some_state_is = (states.state setting.inputs bits filled_reading).1

    agrees_by : (n : ℕ) (v : Bool) (o : Option FlatNet) → slice_get c.nets n ≡ o → observed n ≡ true → a n ≡ Some v → filled_by o n ≡ v
    agrees_by n v None h seen e = ap (λ (x : Option Bool). unwrap_or x false) e
    agrees_by n v (Some net) h seen e =
        elim (cases_Bool (is_given net.kind)) [
          | inl g ↦ cond-true (is_given net.kind) (given_value net.kind n) (unwrap_or (a n) false) g ∙ same_Some (given_value net.kind n) v (sym (given_bit n net seen h g) ∙ e)
          | inr f ↦ cond-false (is_given net.kind) (given_value net.kind n) (unwrap_or (a n) false) f ∙ ap (λ (x : Option Bool). unwrap_or x false) e
        ]

    some_state_agrees : Agrees observed a some_state.reading
    some_state_agrees n v o e = agrees_by n v (slice_get c.nets n) refl o e

    given_no_float : (n : ℕ) → IsGiven c n → AlwaysResponds c phase observed setting a true n Float → ⊥
    given_no_float n g always =
        shows_no_float (circuit_in some_state) n (some_state.reading n) (given_shows some_state n g) (always some_state some_state_is some_state_agrees)

pub floats_are_plain : (k : Comparison) (phase : ℕ) → HasRanges k.circuit → HasStates k.circuit (phase_at k.rules phase) → ((n : ℕ) → is_observed k phase n ≡ true → n < length k.circuit.nets)
    → (n : ℕ) (bits : List Bool) → IsFoundAt k phase (record { kind = FloatFault; at = n }) bits → IsPlain k.circuit n
floats_are_plain k phase ranges states seen n bits f =
    let there = at_there k.circuit.nets n (seen n f.stands.4.0) in
    elim (cases_Bool (is_given there.0.kind)) [
      | inl g ↦ absurd (given_no_float k.circuit (phase_at k.rules phase) (is_observed k phase) ranges states (setting_of k phase bits) f.stands.0 f.stands.2 n
          (there.0, there.1, g) f.stands.4.1)
      | inr given ↦ (there.0, there.1, kind_cases there.0 there.0.kind refl given)
    ]
