-- States with any bits at the nets that have no given value, and solutions at given nets.
use Rattle.std.proofs.Common.{◌≡◌, ℕ, Bool, true, false, cond, List, Option, Some, map, subst, sym, ◌∙◌, ap, inl, inr}
use Rattle.std.specs.Prelude.{unwrap_or}
use Rattle.std.proofs.lemmas.Bool.{cases_Bool, cond-false, cond-true}
use Rattle.std.proofs.lemmas.Option.{same_Some}
use Rattle.cell_inside.specs.Regions.{ArePinsPlain}
use Rattle.channel_parts.proofs.DriveLaws.{driven_by, driven_gives}
use Rattle.channel_parts.specs.OneSolution.{AreDetermined}
use Rattle.known_nets.proofs.WiredLaws.{pin_of_whole}
use Rattle.replaced_cells.specs.OneMoreWhole.{HasSameSignal}
use Rattle.vrt_model.proofs.GatesGiven.{IsGiven, base_reading, given_at_gives, given_at_is, given_once, plain_any}
use Rattle.vrt_model.proofs.Members.{among_map}
use Rattle.vrt_model.specs.Assignment.{Obeys, Tied}
use Rattle.vrt_model.specs.Constraints.{given_bit}
use Rattle.vrt_model.specs.Lists.{Among}
use Rattle.vrt_model.specs.Networks.{HasRanges}
use Rattle.vrt_model.specs.Reading.{HasGivenBit, IsReading, Partial, bare, is_given, is_given_at}
use Rattle.vrt_model.specs.Response.{IsResponse, Shows}
use Rattle.vrt_model.specs.Solution.{Agrees, IsSolution, SameObserved}
use Rattle.vrt_model.specs.State.{IsState, ModelGives, OutputPin, Setting, State, network_of}
use Rattle.vrt_model.specs.declared.circuit.Circuit.{Circuit}
use Rattle.vrt_model.specs.declared.flat_model.FlatModel.{FlatModel}
use Rattle.vrt_model.specs.declared.pairing.ClockedSignal.{ClockedSignal}
use Rattle.vrt_model.specs.declared.rules.Phase.{Phase}
use Rattle.vrt_model.specs.declared.whole.WholePin.{WholePin}
use Rattle.whole_solutions.proofs.GivenShow.{given_shows}

-- ---- solutions

-- what is the same as a solution on the observed nets is one
pub solution_same : (c : Circuit) (phase : Phase) (observed : ℕ → Bool) (setting : Setting) (a b : Partial) → SameObserved observed a b
    → IsSolution c phase observed setting a → IsSolution c phase observed setting b
solution_same c phase observed setting a b same solves n v o = (
  λ e s is ok. (solves n v o).0 (same n o ∙ e) s is (λ m u seen x. ok m u seen (sym (same m seen) ∙ x)),
  λ h. sym (same n o) ∙ (solves n v o).1 (λ s is ok. h s is (λ m u seen x. ok m u seen (same m seen ∙ x))),
)

-- a solution has the bit of an observed net with a given value
pub given_solved : (c : Circuit) (phase : Phase) (observed : ℕ → Bool) (setting : Setting) (a : Partial) → HasRanges c → ArePinsPlain c
    → IsSolution c phase observed setting a → (reading : ℕ → Bool) → IsReading c phase setting.inputs reading
    → (n : ℕ) → observed n ≡ true → IsGiven c n → a n ≡ Some (reading n)
given_solved c phase observed setting a ranges pins solves reading reads n o g =
    (solves n (reading n) o).1 (λ s is ok.
    subst (λ (v : Bool). IsResponse (network_of c bare setting.held s) n (Shows v))
    (given_once phase setting.inputs g.0.kind n (s.reading n) (reading n) g.2 (is.reading n g.0 g.1) (reads n g.0 g.1))
    (given_shows c ranges pins bare setting.held s n g))

-- ---- readings

-- these bits, but those of nets with given values
abbrev pub with_given : Circuit → Phase → (ℕ → Bool) → (ℕ → Bool) → ℕ → Bool
with_given c phase inputs bits n = cond (is_given_at c n) (given_bit c phase inputs n) (bits n)

pub with_given_reads : (c : Circuit) (phase : Phase) (inputs bits : ℕ → Bool) → IsReading c phase inputs (with_given c phase inputs bits)
with_given_reads c phase inputs bits n net e =
    elim (cases_Bool (is_given net.kind)) [
      | inl t ↦ subst (HasGivenBit phase inputs net.kind n) (sym (cond-true (is_given_at c n) (given_bit c phase inputs n) (bits n) (given_at_is c n net e ∙ t))) (base_reading c phase inputs n net e)
      | inr f ↦ plain_any phase inputs net.kind n (with_given c phase inputs bits n) f
    ]

-- they have the bits of a solution
pub with_given_agrees : (c : Circuit) (phase : Phase) (observed : ℕ → Bool) (setting : Setting) (a : Partial) → HasRanges c → ArePinsPlain c
    → IsSolution c phase observed setting a
    → Agrees observed a (with_given c phase setting.inputs (λ n. unwrap_or (a n) false))
with_given_agrees c phase observed setting a ranges pins solves n v o e =
    elim (cases_Bool (is_given_at c n)) [
      | inl t ↦
          same_Some (with_given c phase setting.inputs (λ m. unwrap_or (a m) false) n) v
          (sym (given_solved c phase observed setting a ranges pins solves (with_given c phase setting.inputs (λ m. unwrap_or (a m) false))
          (with_given_reads c phase setting.inputs (λ m. unwrap_or (a m) false)) n o (given_at_gives c n t)) ∙ e)
      | inr f ↦ cond-false (is_given_at c n) (given_bit c phase setting.inputs n) (unwrap_or (a n) false) f ∙ ap (λ (x : Option Bool). unwrap_or x false) e
    ]

-- ---- output pins

-- the signals that have the bits of the nets of pins
abbrev tied_by : List WholePin → List Tied
tied_by pins = map (λ (p : WholePin). let tied : Tied = record { net = p.net.0; signal = p.signal } in tied) pins

-- pins with one signal of one model are given the same bits
pub gives_same_signal : (phase : Phase) (out pin : OutputPin) → HasSameSignal out pin → (reading : ℕ → Bool) (v : Bool) → ModelGives phase pin reading v → ModelGives phase out reading v
gives_same_signal phase out pin same reading v (g, is, e) = (
  g,
  record {
    clocks = λ c m. is.clocks c (subst (λ (cs : List ClockedSignal). Among cs c) (sym same.clocked) m);
    inputs = λ t m. is.inputs t (subst (λ (pins : List WholePin). Among (tied_by pins) t) (sym same.inputs) m);
    obeys = subst (λ (model : FlatModel). Obeys model false (λ i. false) g) same.model is.obeys;
  },
  ap g.signal (sym same.signal) ∙ e,
)

-- a pin is given the same bit by readings that are the same at the inputs of its instance
pub gives_elsewhere : (phase : Phase) (out : OutputPin) (reading other : ℕ → Bool) → ((input : WholePin) → Among out.whole.inputs input → reading input.net.0 ≡ other input.net.0)
    → (v : Bool) → ModelGives phase out reading v → ModelGives phase out other v
gives_elsewhere phase out reading other same v (g, is, e) = (
  g,
  record {
    clocks = is.clocks;
    inputs = λ t m.
        let from = among_map (λ (p : WholePin). let tied : Tied = record { net = p.net.0; signal = p.signal } in tied) out.whole.inputs t m in
        is.inputs t m ∙ subst (λ (x : Tied). reading x.net ≡ other x.net) from.2 (same from.0 from.1);
    obeys = is.obeys;
  },
  e,
)

module _ (c : Circuit) (phase : Phase) (observed : ℕ → Bool) (determined : AreDetermined c phase observed) (reading : ℕ → Bool) where
  -- the state with a reading, in which each pin has the bit that the model gives it
  abbrev pub state_at : State
  state_at = record { reading = reading; driven = driven_by c phase observed determined reading }

  pub state_is : (inputs : ℕ → Bool) → IsReading c phase inputs reading → IsState c phase inputs state_at
  state_is inputs reads = record { reading = reads; driven = λ place out e. driven_gives c phase observed determined reading place out e }

-- determined pins are at plain nets
pub pins_plain : (c : Circuit) (phase : Phase) (observed : ℕ → Bool) → AreDetermined c phase observed → ArePinsPlain c
pins_plain c phase observed determined out m = let from = pin_of_whole c out m in (determined out.whole from.0).plain out.pin from.1
