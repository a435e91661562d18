-- A circuit in which no net carries a clock and no instance is whole: its states are those of each phase, given nets show their bits, and what
-- a net shows depends on the bits at the gates alone.
use Rattle.std.proofs.Common.{◌≡◌, ℕ, Bool, List, [], map, arith, ap, refl, sym, subst, ◌∙◌, inl, inr}
use Rattle.std.specs.Prelude.{flat_map, slice_get}
use Rattle.std.proofs.lemmas.Option.{none-some}
use Rattle.vrt_model.proofs.GatesGiven.{IsGiven, given_once}
use Rattle.vrt_model.proofs.GivenNets.{clear_from_source, source_strength}
use Rattle.vrt_model.proofs.Laws.{one_strength, shows_from}
use Rattle.vrt_model.proofs.Members.{all_among}
use Rattle.vrt_model.proofs.Networks.{given_source, network_levels}
use Rattle.vrt_model.proofs.SameNetwork.{IsPartOf, response_same}
use Rattle.vrt_model.proofs.Scales.{least_below}
use Rattle.vrt_model.specs.Circuits.{IsHold}
use Rattle.vrt_model.specs.Levels.{source_level}
use Rattle.vrt_model.specs.Lists.{Among, At}
use Rattle.vrt_model.specs.Networks.{HasLevels, IsSource}
use Rattle.vrt_model.specs.Path.{Hop, IsPath, IsRoot, Network, Root, end_of}
use Rattle.vrt_model.specs.Reading.{HasGivenBit, IsReading, bare, conducts_at, devices_of}
use Rattle.vrt_model.specs.Response.{IsClear, IsResponse, Reaches, Response, Shows}
use Rattle.vrt_model.specs.State.{IsState, OutputPin, State, network_of, output_pins}
use Rattle.vrt_model.specs.declared.circuit.Circuit.{Circuit}
use Rattle.vrt_model.specs.declared.circuit.Device.{Device}
use Rattle.vrt_model.specs.declared.circuit.NetKind.{NetKind}
use Rattle.vrt_model.specs.declared.circuit.NetKind.TheVariants.{Supply, Clock, Input, Plain}
use Rattle.vrt_model.specs.declared.rules.ClockRef.{ClockRef}
use Rattle.vrt_model.specs.declared.rules.Phase.{Phase}
use Rattle.vrt_model.specs.declared.whole.Whole.{Whole}
use Rattle.vrt_model.specs.declared.whole.WholePin.{WholePin}
use Rattle.same_phases.specs.Phases.{IsUnclocked}

-- a given bit that is not that of a clock is the same in each phase
kind_moves : (p q : Phase) (inputs : ℕ → Bool) (kind : NetKind) (n : ℕ) (v : Bool) → ((clock : ClockRef) → kind ≡ Clock clock → ⊥) → HasGivenBit p inputs kind n v → HasGivenBit q inputs kind n v
kind_moves p q inputs (Supply value) n v none h = h
kind_moves p q inputs (Clock clock) n v none h = absurd (none clock refl)
kind_moves p q inputs Input n v none h = h
kind_moves p q inputs Plain n v none h = tt

module _ (c : Circuit) (inputs held : ℕ → Bool) (free : IsUnclocked c) where
  no_pins : output_pins c ≡ []
  no_pins = ap (flat_map (λ (w : Whole). map (λ (p : WholePin). let pin : OutputPin = record { whole = w; pin = p } in pin) w.outputs)) free.wholes

  no_pin : (at : ℕ) (out : OutputPin) → At (output_pins c) at out → ⊥
  no_pin at out e = none-some out (ap (λ (xs : List OutputPin). slice_get xs at) (sym no_pins) ∙ e)

  no_output : (s : State) (at : ℕ) (pin : WholePin) → At (network_of c bare held s).outputs at pin → ⊥
  no_output s at pin e = none-some pin (ap (λ (xs : List OutputPin). slice_get (map (λ (out : OutputPin). out.pin) xs) at) (sym no_pins) ∙ e)

  -- each reading is that of a state
  pub state_from : (p : Phase) (reading : ℕ → Bool) → IsReading c p inputs reading → IsState c p inputs (record { reading = reading; driven = reading })
  state_from p reading is = record { reading = is; driven = λ at out e. absurd (no_pin at out e) }

  -- a state of one phase is one of each
  pub state_moves : (p q : Phase) (s : State) → IsState c p inputs s → IsState c q inputs s
  state_moves p q s is = record {
    reading = λ n net e. kind_moves p q inputs net.kind n (s.reading n) (λ clock. free.clocks net clock (n, e)) (is.reading n net e);
    driven = λ at out e. absurd (no_pin at out e);
  }

  -- ---- given nets

  module _ (s : State) where
    abbrev view : Network
    view = network_of c bare held s

    levels : HasLevels view
    levels = network_levels c bare held s free.ranges

    -- a root of the source level at a given net has the net's bit
    root_value : (n : ℕ) → (root : Root) → IsRoot view root → root.net ≡ n → root.level ≡ source_level c → root.value ≡ s.reading n
    root_value n root r e top =
        elim r [
          | inl h ↦ h.4 ∙ ap s.reading e
          | inr other ↦ elim other [
            | inl h ↦ absurd (let same = h.4 in let le = (all_among (IsHold c) c.holds h.1 free.ranges.holds (h.0, h.2)).size.1 in let below = least_below c in omega (arith, top, same, le, below))
            | inr o ↦ absurd (no_output s o.0 o.1 o.2)
          ]
        ]

    -- a given net shows its bit
    pub given_shows : (n : ℕ) → IsGiven c n → IsResponse view n (Shows (s.reading n))
    given_shows n g = shows_from view n (s.reading n) here only
      where
        source : (m : ℕ) → m ≡ n → IsSource view m
        source m e = subst (IsSource view) (sym e) (given_source c bare held s free.ranges n g.0 g.1 g.2)

        here : Reaches view n (s.reading n)
        here = (record { net = n; level = source_level c; value = s.reading n }, [], inl (g.0, g.1, g.2, refl, refl), source_strength view levels n (source n refl), refl, refl)

        only : (u : Bool) → Reaches view n u → u ≡ s.reading n
        only u (root, hops, p, clear, e, is) =
            let none : hops ≡ [] = clear_from_source view levels root hops p clear (source (end_of root hops) e) in
            let path : IsPath view root [] = subst (IsPath view root) none p in
            let strong : IsClear view root [] = subst (IsClear view root) none clear in
            let ends : root.net ≡ n = subst (λ (hs : List Hop). end_of root hs ≡ n) none e in
            sym is ∙ root_value n root path ends (one_strength view root.net root.level (source_level c) strong (source_strength view levels root.net (source root.net ends)))

  -- ---- gates

  -- two states have the same bit at a given net
  pub same_given : (p : Phase) (x y : State) → IsState c p inputs x → IsState c p inputs y → (n : ℕ) → IsGiven c n → x.reading n ≡ y.reading n
  same_given p x y at_x at_y n g = given_once p inputs g.0.kind n (x.reading n) (y.reading n) g.2 (at_x.reading n g.0 g.1) (at_y.reading n g.0 g.1)

  part : (p : Phase) (x y : State) → IsState c p inputs x → IsState c p inputs y → ((d : Device) → Among (devices_of bare c) d → x.reading d.gate.0 ≡ y.reading d.gate.0)
      → IsPartOf (network_of c bare held x) (network_of c bare held y)
  part p x y at_x at_y gates = record {
    roots = λ root r. elim r [
      | inl g ↦ inl (g.0, g.1, g.2, g.3, g.4 ∙ same_given p x y at_x at_y root.net (g.0, g.1, g.2))
      | inr other ↦ elim other [ inl h ↦ inr (inl h) | inr o ↦ absurd (no_output x o.0 o.1 o.2) ]
    ];
    devices = λ d on. (on.0, ap (conducts_at d.kind) (sym (gates d on.0)) ∙ on.1);
  }

  -- two states with the same bits at the gates respond alike
  pub gates_decide : (p : Phase) (x y : State) → IsState c p inputs x → IsState c p inputs y → ((d : Device) → Among (devices_of bare c) d → x.reading d.gate.0 ≡ y.reading d.gate.0)
      → (n : ℕ) (r : Response) → IsResponse (network_of c bare held x) n r → IsResponse (network_of c bare held y) n r
  gates_decide p x y at_x at_y gates =
      response_same (network_of c bare held x) (network_of c bare held y) (part p x y at_x at_y gates) (part p y x at_y at_x (λ d m. sym (gates d m)))
