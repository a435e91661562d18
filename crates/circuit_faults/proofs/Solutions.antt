-- What each solution gives: the given nets and the known nets their bits; and some state agrees with it.
use Rattle.std.proofs.Common.{◌≡◌, ℕ, ◌≤◌, Bool, true, false, cond, List, [], Option, Some, None, arith, ap, refl, sym, subst, ◌∙◌, inl, inr}
use Rattle.std.specs.Prelude.{option_map, slice_get, unwrap_or}
use Rattle.std.proofs.lemmas.Bool.{cases_Bool, cond-false, cond-true, false≢true}
use Rattle.std.proofs.lemmas.Option.{same_Some}
use Rattle.channel_parts.specs.OneSolution.{AreObserved}
use Rattle.known_nets.proofs.KnownShow.{known_in_solution}
use Rattle.known_nets.specs.Wired.{IsWired}
use Rattle.channel_parts.proofs.DriveLaws.{driven_by, driven_gives}
use Rattle.circuit_faults.proofs.SoundWholes.{output_plain, wired_wholes}
use Rattle.circuit_faults.specs.Wholes.{HasSoundWholes}
use Rattle.vrt_model.proofs.GatesGiven.{IsGiven, plain_any}
use Rattle.vrt_model.proofs.GivenNets.{clear_from_source, source_strength}
use Rattle.vrt_model.proofs.Laws.{shows_from, shows_no_float}
use Rattle.vrt_model.proofs.Lists.{at_map, one_at}
use Rattle.vrt_model.proofs.Members.{all_among}
use Rattle.vrt_model.proofs.Networks.{given_source, network_levels}
use Rattle.vrt_model.specs.Circuits.{IsHold}
use Rattle.vrt_model.specs.Known.{HasFixedBit, IsKnown}
use Rattle.vrt_model.specs.Lists.{At}
use Rattle.vrt_model.specs.Path.{Hop, IsPath, IsRoot, Network, Root, end_of}
use Rattle.vrt_model.specs.Reading.{HasGivenBit, bare, IsReading, clock_bit, is_given}
use Rattle.vrt_model.specs.Response.{Float, IsClear, IsResponse, IsStrength, Reaches, Shows}
use Rattle.vrt_model.specs.Solution.{Agrees, AlwaysResponds, IsSolution}
use Rattle.vrt_model.specs.State.{IsState, OutputPin, Setting, State, network_of, output_pins}
use Rattle.vrt_model.specs.declared.circuit.Circuit.{Circuit}
use Rattle.vrt_model.specs.declared.circuit.FlatNet.{FlatNet}
use Rattle.vrt_model.specs.declared.circuit.NetKind.{NetKind}
use Rattle.vrt_model.specs.declared.circuit.NetKind.TheVariants.{Supply, Clock, Input, Plain}
use Rattle.vrt_model.specs.declared.rules.Phase.{Phase}
use Rattle.vrt_model.specs.declared.whole.WholePin.{WholePin}
use Rattle.circuit_faults.specs.Faults.{HasFixedBits, IsSettingAt}
use Rattle.vrt_model.specs.Networks.{HasLevels, IsSource}
use Rattle.vrt_model.specs.Levels.{source_level}
use Rattle.path_fixpoint.proofs.SourceLevels.{hold_below}

-- whether a net is given
abbrev given_in : Option FlatNet → Bool
given_in o = unwrap_or (option_map (λ (net : FlatNet). is_given net.kind) o) false

given_found : (o : Option FlatNet) → given_in o ≡ true → (net : FlatNet) × (o ≡ Some net) × (is_given net.kind ≡ true)
given_found None f = absurd (false≢true f)
given_found (Some net) f = (net, refl, f)

module _ (which : Bool) (c : Circuit) (phase : Phase) (observed : ℕ → Bool) (wholes : HasSoundWholes c phase observed) (seen : AreObserved c observed) (root : ℕ → Bool) (fixed : HasFixedBits c phase root)
    (setting : Setting) (here : IsSettingAt c root setting) where
  -- the bare or the kept circuit in a state
  abbrev pub circuit_in : State → Network
  circuit_in s = network_of c which setting.held s

  -- no given net has an output of a whole instance
  pub no_output : (s : State) (at : ℕ) (pin : WholePin) → At (circuit_in s).outputs at pin → ¬ IsGiven c pin.net.0
  no_output s at pin e g =
      let from = at_map (λ (out : OutputPin). out.pin) (output_pins c) at pin e in
      let plain = output_plain c (wired_wholes c phase observed wholes) at from.0 from.1 in
      let same : plain.0 ≡ g.0 = one_at c.nets pin.net.0 plain.0 g.0 (subst (λ (p : WholePin). At c.nets p.net.0 plain.0) from.2 plain.1) g.1 in
      false≢true (sym (ap is_given plain.2) ∙ ap (λ (net : FlatNet). is_given net.kind) same ∙ g.2)

  pub levels : (s : State) → HasLevels (circuit_in s)
  levels s = network_levels c which setting.held s wholes.ranges

  pub source : (s : State) (n : ℕ) → IsGiven c n → IsSource (circuit_in s) n
  source s n g = given_source c which setting.held s wholes.ranges n g.0 g.1 g.2

  -- ---- given nets

  bit_is_root : (n : ℕ) (net : FlatNet) (kind : NetKind) (bit : Bool) → At c.nets n net → net.kind ≡ kind → is_given kind ≡ true → HasGivenBit phase setting.inputs kind n bit → bit ≡ root n
  bit_is_root n net (Supply value) bit e k g h = h ∙ sym (fixed n value (net, e, subst (λ (x : NetKind). HasFixedBit phase x value) (sym k) refl))
  bit_is_root n net (Clock clock) bit e k g h = h ∙ sym (fixed n (clock_bit phase clock) (net, e, subst (λ (x : NetKind). HasFixedBit phase x (clock_bit phase clock)) (sym k) refl))
  bit_is_root n net Input bit e k g h = h ∙ here.inputs n net e k
  bit_is_root n net Plain bit e k g h = absurd (false≢true g)

  root_is_bit : (n : ℕ) (net : FlatNet) (kind : NetKind) → At c.nets n net → net.kind ≡ kind → HasGivenBit phase setting.inputs kind n (root n)
  root_is_bit n net (Supply value) e k = fixed n value (net, e, subst (λ (x : NetKind). HasFixedBit phase x value) (sym k) refl)
  root_is_bit n net (Clock clock) e k = fixed n (clock_bit phase clock) (net, e, subst (λ (x : NetKind). HasFixedBit phase x (clock_bit phase clock)) (sym k) refl)
  root_is_bit n net Input e k = sym (here.inputs n net e k)
  root_is_bit n net Plain e k = tt

  pub given_reading : (s : State) → IsState c phase setting.inputs s → (n : ℕ) → IsGiven c n → s.reading n ≡ root n
  given_reading s is n g = bit_is_root n g.0 g.0.kind (s.reading n) g.1 refl g.2 (is.reading n g.0 g.1)

  -- a given net shows the bit of its root
  pub given_shows : (s : State) → IsState c phase setting.inputs s → (n : ℕ) → IsGiven c n → IsResponse (circuit_in s) n (Shows (root n))
  given_shows s is n g = subst (λ (v : Bool). IsResponse (circuit_in s) n (Shows v)) (given_reading s is n g) (shows_from (circuit_in s) n (s.reading n) reached only)
    where
      reached : Reaches (circuit_in s) n (s.reading n)
      reached = (record { net = n; level = source_level c; value = s.reading n }, [], inl (g.0, g.1, g.2, refl, refl), source_strength (circuit_in s) (levels s) n (source s n g), refl, refl)

      -- the root of a path of the source level is the net itself
      own_value : (r : Root) → IsRoot (circuit_in s) r → r.net ≡ n → IsStrength (circuit_in s) r.net r.level → r.value ≡ s.reading n
      own_value r from e strong =
          let top : source_level c ≤ r.level = strong.0 (record { net = n; level = source_level c; value = s.reading n }) [] (inl (g.0, g.1, g.2, refl, refl)) (sym e) in
          elim from [
            | inl h ↦ h.4 ∙ ap s.reading e
            | inr other ↦ elim other [
              | inl h ↦ absurd (let same = h.4 in let below = hold_below c h.1.size (all_among (IsHold c) c.holds h.1 wholes.ranges.holds (h.0, h.2)).size in omega (arith, top, same, below.1))
              | inr o ↦ absurd (no_output s o.0 o.1 o.2 (subst (IsGiven c) (sym e ∙ o.3) g))
            ]
          ]

      only : (u : Bool) → Reaches (circuit_in s) n u → u ≡ s.reading n
      only u (r, hops, p, clear, e, value) =
          let none : hops ≡ [] = clear_from_source (circuit_in s) (levels s) r hops p clear (subst (IsSource (circuit_in s)) (sym e) (source s n g)) in
          let path : IsPath (circuit_in s) r [] = subst (IsPath (circuit_in s) r) none p in
          let strong : IsClear (circuit_in s) r [] = subst (IsClear (circuit_in s) r) none clear in
          let ends : r.net ≡ n = subst (λ (hs : List Hop). end_of r hs ≡ n) none e in
          sym value ∙ own_value r path ends strong

module _ (c : Circuit) (phase : Phase) (observed : ℕ → Bool) (wholes : HasSoundWholes c phase observed) (seen : AreObserved c observed) (root : ℕ → Bool) (fixed : HasFixedBits c phase root)
    (setting : Setting) (here : IsSettingAt c root setting) where
  -- ---- solutions

  module _ (a : ℕ → Option Bool) (solves : IsSolution c phase observed setting a) where
    pub given_bit : (n : ℕ) → observed n ≡ true → IsGiven c n → a n ≡ Some (root n)
    given_bit n o g = (solves n (root n) o).1 (λ s is agrees. given_shows bare c phase observed wholes seen root fixed setting here s is n g)

    wired : IsWired c
    wired = wired_wholes c phase observed wholes

    pub known_bit : (n : ℕ) (v : Bool) → observed n ≡ true → IsKnown c phase n v → a n ≡ Some v
    known_bit n v o k = known_in_solution c phase wired observed setting a solves seen.gates n v k o

    -- ---- a state that agrees

    abbrev filled : ℕ → Bool
    filled n = cond (given_in (slice_get c.nets n)) (root n) (unwrap_or (a n) false)

    pub some_state : State
    some_state = record { reading = filled; driven = driven_by c phase observed wholes.determined filled }

    filled_reading : IsReading c phase setting.inputs filled
    filled_reading n net e =
        elim (cases_Bool (is_given net.kind)) [
          | inl g ↦ subst (HasGivenBit phase setting.inputs net.kind n)
              (sym (cond-true (given_in (slice_get c.nets n)) (root n) (unwrap_or (a n) false) (ap given_in e ∙ g))) (root_is_bit bare c phase observed wholes seen root fixed setting here n net net.kind e refl)
          | inr f ↦ plain_any phase setting.inputs net.kind n (filled n) f
        ]

    pub some_state_is : IsState c phase setting.inputs some_state
    unfolding some_state
    some_state_is = record { reading = filled_reading; driven = λ at out e. driven_gives c phase observed wholes.determined filled at out e }

    pub some_state_agrees : Agrees observed a some_state.reading
    unfolding some_state
    some_state_agrees n v o e =
        elim (cases_Bool (given_in (slice_get c.nets n))) [
          | inl g ↦ cond-true (given_in (slice_get c.nets n)) (root n) (unwrap_or (a n) false) g ∙ same_Some (root n) v (sym (given_bit n o (given_found (slice_get c.nets n) g)) ∙ e)
          | inr f ↦ cond-false (given_in (slice_get c.nets n)) (root n) (unwrap_or (a n) false) f ∙ ap (λ (x : Option Bool). unwrap_or x false) e
        ]

    -- a given net does not float
    pub given_no_float : (n : ℕ) → IsGiven c n → AlwaysResponds c phase observed setting a bare n Float → ⊥
    given_no_float n g always =
        shows_no_float (circuit_in bare c phase observed wholes seen root fixed setting here some_state) n (root n) (given_shows bare c phase observed wholes seen root fixed setting here some_state some_state_is n g) (always some_state some_state_is some_state_agrees)
