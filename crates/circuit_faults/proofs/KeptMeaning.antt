-- What the words of the kept circuit say at a solution, and what is found so is the first fault of the kept circuit.
use Rattle.std.proofs.Common.{◌≡◌, ℕ, Bool, ◌⊎◌, true, false, not, List, Option, Some, None, ap, refl, sym, subst, ◌∙◌, inl, inr}
use Rattle.std.specs.Prelude.{◌↔◌}
use Rattle.std.proofs.lemmas.Bool.{and_from, and_parts, cases_Bool, false≢true, not_from_false, not-true}
use Rattle.std.proofs.lemmas.Option.{same_Some}
use Rattle.bdd_core.specs.Diagram.{Function, Valuation}
use Rattle.bdd_core.specs.Store.{Diagrams, function_of}
use Rattle.bdd_core.specs.Words.{shows}
use Rattle.bdd_core.specs.declared.handle.H.{H}
use Rattle.channel_parts.specs.OneSolution.{AreObserved}
use Rattle.circuit_faults.proofs.KeptBits.{kept_no_float}
use Rattle.circuit_faults.proofs.Solutions.{given_bit, given_shows, some_state, some_state_agrees, some_state_is}
use Rattle.circuit_faults.specs.Faults.{HasFixedBits, IsSolvedAt}
use Rattle.circuit_faults.specs.KeptFaults.{HasKeptFault, HasNoKeeper, NeverKeeps}
use Rattle.circuit_faults.specs.KeptScans.{IsKeptFaulty, IsLoose, IsSettledNet}
use Rattle.hold_keep.specs.Kept.{fight_of, is_bit, is_fight}
use Rattle.known_nets.proofs.NetKinds.{given_or_plain}
use Rattle.vrt_model.proofs.GatesGiven.{IsGiven, kept_response}
use Rattle.vrt_model.proofs.Laws.{one_response}
use Rattle.circuit_faults.specs.Wholes.{HasSoundWholes}
use Rattle.vrt_model.specs.Known.{IsPlain}
use Rattle.vrt_model.specs.Lists.{At}
use Rattle.whole_steps.proofs.FreeOutputLaws.{free_outputs_show}
use Rattle.whole_steps.specs.FreeOutputs.{IsFreeOutput}
use Rattle.whole_steps.specs.Tables.{free_at}
use Rattle.whole_steps.specs.declared.table.OutputPlace.{OutputPlace}
use Rattle.vrt_model.specs.Reading.{bare, kept}
use Rattle.vrt_model.specs.Response.{Fight as Fights, Float as Floats, IsResponse, Response, Shows}
use Rattle.vrt_model.specs.Signals.{response_by}
use Rattle.vrt_model.specs.Solution.{Agrees, AlwaysResponds}
use Rattle.vrt_model.specs.State.{IsState, OutputPin, Setting, State, network_of, output_pins}
use Rattle.vrt_model.specs.declared.circuit.Circuit.{Circuit}
use Rattle.vrt_model.specs.declared.rules.Phase.{Phase}
use Rattle.vrt_model.specs.declared.verdict.FaultKind.{FaultKind}
use Rattle.vrt_model.specs.declared.verdict.FaultKind.TheVariants.{Fight, FightKept, Float, Unsettled, Constraint, Differs, Next, Apart, Enter}

-- ---- responses by the values that reach a net

fight_is : (r : Response) → is_fight r ≡ true → r ≡ Fights
fight_is Fights e = refl
fight_is Floats e = absurd (false≢true e)
fight_is (Shows v) e = absurd (false≢true e)

bit_is : (wanted : Bool) (r : Response) → is_bit wanted r ≡ true → r ≡ Shows wanted
bit_is wanted Fights e = absurd (false≢true e)
bit_is wanted Floats e = absurd (false≢true e)
bit_is true (Shows true) e = refl
bit_is false (Shows false) e = refl
bit_is true (Shows false) e = absurd (false≢true e)
bit_is false (Shows true) e = absurd (false≢true e)

own_bit : (wanted : Bool) → is_bit wanted (Shows wanted) ≡ true
own_bit true = refl
own_bit false = refl

-- ---- at one solution

-- a free output of a whole instance is at the net
abbrev pub IsFreeNet : Circuit → ℕ → Type 0
IsFreeNet c n = (at : ℕ) × (out : OutputPin) × At (output_pins c) at out × IsFreeOutput c at out × (out.pin.net.0 ≡ n)

module _ (c : Circuit) (phase : Phase) (observed : ℕ → Bool) (wholes : HasSoundWholes c phase observed) (seen : AreObserved c observed) (root : ℕ → Bool) (fixed : HasFixedBits c phase root)
    (setting : Setting) (a : ℕ → Option Bool) (solved : IsSolvedAt c phase observed root setting a) where
  abbrev Always : ℕ → Response → Type 0
  Always n r = AlwaysResponds c phase observed setting a kept n r

  -- some state agrees
  agreeing : State
  agreeing = some_state c phase observed wholes seen root fixed setting solved.given a solved.solves

  agreeing_is : IsState c phase setting.inputs agreeing
  unfolding agreeing
  agreeing_is = some_state_is c phase observed wholes seen root fixed setting solved.given a solved.solves

  agreeing_agrees : Agrees observed a agreeing.reading
  unfolding agreeing
  agreeing_agrees = some_state_agrees c phase observed wholes seen root fixed setting solved.given a solved.solves

  -- so a net always responds in one way at most
  always_one : (n : ℕ) (r q : Response) → Always n r → Always n q → r ≡ q
  always_one n r q one two =
      one_response (network_of c kept setting.held agreeing) n r q (one agreeing agreeing_is agreeing_agrees) (two agreeing agreeing_is agreeing_agrees)

  -- a given net keeps its bit
  given_keeps : (n : ℕ) → IsGiven c n → observed n ≡ true → ¬ NeverKeeps c phase observed setting a n
  given_keeps n g o never =
      never agreeing agreeing_is agreeing_agrees (root n) (given_bit c phase observed wholes seen root fixed setting solved.given a solved.solves n o g)
      (given_shows kept c phase observed wholes seen root fixed setting solved.given agreeing agreeing_is n g)

  -- a net with a free output of a whole instance shows the bit that drives it, and keeps it
  module _ (n : ℕ) (driven : IsFreeNet c n) where
    abbrev place : ℕ
    place = driven.0

    driven_shows : (which : Bool) → IsResponse (network_of c which setting.held agreeing) n (Shows (agreeing.driven place))
    driven_shows which =
        subst (λ (m : ℕ). IsResponse (network_of c which setting.held agreeing) m (Shows (agreeing.driven place))) driven.4
        (free_outputs_show c which setting.held agreeing wholes.ranges place driven.1 driven.2 driven.3)

    driven_keeps : (b : Bool) → observed n ≡ true → a n ≡ Some b → ¬ NeverKeeps c phase observed setting a n
    driven_keeps b o bit never =
        never agreeing agreeing_is agreeing_agrees b bit
        (subst (IsResponse (network_of c kept setting.held agreeing) n)
        (one_response (network_of c bare setting.held agreeing) n (Shows (agreeing.driven place)) (Shows b) (driven_shows bare) ((solved.solves n b o).0 bit agreeing agreeing_is agreeing_agrees))
        (driven_shows kept))

    driven_no_fight : ¬ Always n Fights
    driven_no_fight always =
        shown_apart (agreeing.driven place)
        (one_response (network_of c kept setting.held agreeing) n (Shows (agreeing.driven place)) Fights (driven_shows kept) (always agreeing agreeing_is agreeing_agrees))
      where
        shown_apart : (v : Bool) → Shows v ≡ Fights → ⊥
        shown_apart v e = cc

  module _ (n : ℕ) (zero one : Bool) (always : Always n (response_by zero one)) where
    fights : (is_fight (response_by zero one) ≡ true) ↔ Always n Fights
    fights = (
      λ e. subst (Always n) (fight_is (response_by zero one) e) always,
      λ f. ap is_fight (always_one n (response_by zero one) Fights always f),
    )

    module _ (wanted : Bool) (bit : a n ≡ Some wanted) where
      never_from : is_bit wanted (response_by zero one) ≡ false → NeverKeeps c phase observed setting a n
      never_from e s is agrees v e' shows =
          let same : v ≡ wanted = same_Some v wanted (sym e' ∙ bit) in
          let here : response_by zero one ≡ Shows v = one_response (network_of c kept setting.held s) n (response_by zero one) (Shows v) (always s is agrees) shows in
          false≢true (sym e ∙ ap (is_bit wanted) (here ∙ ap Shows same) ∙ own_bit wanted)

      never_then : NeverKeeps c phase observed setting a n → is_bit wanted (response_by zero one) ≡ false
      never_then never =
          elim (cases_Bool (is_bit wanted (response_by zero one))) [
            | inl t ↦ absurd (never agreeing agreeing_is agreeing_agrees wanted bit
                (subst (IsResponse (network_of c kept setting.held agreeing) n) (bit_is wanted (response_by zero one) t) (always agreeing agreeing_is agreeing_agrees)))
            | inr f ↦ f
          ]

  -- a net that does not fight shows where 1 reaches it, where the bare circuit gives it a bit
  shows_one : (n : ℕ) (zero one wanted : Bool) → observed n ≡ true → a n ≡ Some wanted → Always n (response_by zero one) → is_fight (response_by zero one) ≡ false → Always n (Shows one)
  shows_one n true true wanted o bit always e = absurd (false≢true (sym e))
  shows_one n true false wanted o bit always e = always
  shows_one n false true wanted o bit always e = always
  shows_one n false false wanted o bit always e =
      absurd (kept_no_float c setting.held agreeing n wanted wholes.ranges ((solved.solves n wanted o).0 bit agreeing agreeing_is agreeing_agrees) (always agreeing agreeing_is agreeing_agrees))

  -- ---- what the functions of a net say

  module _ (care wanted zero one : Function) (v : Valuation) (met : care v ≡ true) (n : ℕ) (bits : observed n ≡ true → a n ≡ Some (wanted v)) where
    -- a net that is settled where it is loose has no fault
    pub settled_clear : (drivers : List (Option OutputPlace)) → (IsPlain c n → (free_at drivers n ≡ None) ⊎ IsFreeNet c n) → (IsLoose c drivers n → IsSettledNet care wanted zero one (observed n))
        → (IsLoose c drivers n → Always n (response_by (zero v) (one v))) → (kind : FaultKind)
        → ¬ HasKeptFault c phase observed setting a kind n
    settled_clear drivers either settled always FightKept f =
        elim (either f.0) [
          | inl none ↦
              false≢true (sym ((settled (f.0, none)).fight v) ∙ and_from (care v) (is_fight (response_by (zero v) (one v))) met ((fights n (zero v) (one v) (always (f.0, none))).1 f.1))
          | inr driven ↦ driven_no_fight n driven f.1
        ]
    settled_clear drivers either settled always Unsettled f =
        elim (given_or_plain c n (seen.nets n f.0)) [
          | inl g ↦ given_keeps n g f.0 f.1
          | inr p ↦ elim (either p) [
            | inl none ↦ false≢true (sym ((settled (p, none)).keeps f.0 v)
                ∙ and_from (care v) (not (is_bit (wanted v) (response_by (zero v) (one v)))) met
                (not_from_false (is_bit (wanted v) (response_by (zero v) (one v))) (never_then n (zero v) (one v) (always (p, none)) (wanted v) (bits f.0) f.1)))
            | inr driven ↦ driven_keeps n driven (wanted v) f.0 (bits f.0) f.1
          ]
        ]
    settled_clear drivers either settled always Fight f = f
    settled_clear drivers either settled always Float f = f
    settled_clear drivers either settled always Constraint f = f
    settled_clear drivers either settled always Differs f = f
    settled_clear drivers either settled always Next f = f
    settled_clear drivers either settled always Apart f = f
    settled_clear drivers either settled always Enter f = f

    -- a net where no fight stands has none
    pub no_fight : ((w : Valuation) → fight_of care zero one w ≡ false) → Always n (response_by (zero v) (one v)) → ¬ HasKeptFault c phase observed setting a FightKept n
    no_fight none always f =
        false≢true (sym (none v) ∙ and_from (care v) (is_fight (response_by (zero v) (one v))) met ((fights n (zero v) (one v) always).1 f.1))

    -- the handle of a faulty net says where its fault stands
    pub faulty_stands : (kind : FaultKind) (at value : H) (d : Diagrams) → IsPlain c n → IsKeptFaulty care wanted zero one (observed n) kind at value d → Always n (response_by (zero v) (one v))
        → function_of d at v ≡ true → HasKeptFault c phase observed setting a kind n
    faulty_stands FightKept at value d p f always e =
        (p, (fights n (zero v) (one v) always).0 (and_parts (care v) (is_fight (response_by (zero v) (one v))) (sym (f.0.same v) ∙ e)).1)
    faulty_stands Unsettled at value d p f always e =
        let lost = (and_parts (care v) (not (is_bit (wanted v) (response_by (zero v) (one v)))) (sym (f.2.same v) ∙ e)).1 in
        (f.0, never_from n (zero v) (one v) always (wanted v) (bits f.0) (not-true (is_bit (wanted v) (response_by (zero v) (one v))) lost))
    faulty_stands Fight at value d p f always e = f
    faulty_stands Float at value d p f always e = f
    faulty_stands Constraint at value d p f always e = f
    faulty_stands Differs at value d p f always e = f
    faulty_stands Next at value d p f always e = f
    faulty_stands Apart at value d p f always e = f
    faulty_stands Enter at value d p f always e = f

    pub stands_faulty : (kind : FaultKind) (at value : H) (d : Diagrams) → IsKeptFaulty care wanted zero one (observed n) kind at value d → Always n (response_by (zero v) (one v))
        → HasKeptFault c phase observed setting a kind n → function_of d at v ≡ true
    stands_faulty FightKept at value d f always h =
        f.0.same v ∙ and_from (care v) (is_fight (response_by (zero v) (one v))) met ((fights n (zero v) (one v) always).1 h.1)
    stands_faulty Unsettled at value d f always h =
        f.2.same v ∙ and_from (care v) (not (is_bit (wanted v) (response_by (zero v) (one v)))) met
        (not_from_false (is_bit (wanted v) (response_by (zero v) (one v))) (never_then n (zero v) (one v) always (wanted v) (bits h.0) h.1))
    stands_faulty Fight at value d f always h = absurd f
    stands_faulty Float at value d f always h = absurd f
    stands_faulty Constraint at value d f always h = absurd f
    stands_faulty Differs at value d f always h = absurd f
    stands_faulty Next at value d f always h = absurd f
    stands_faulty Apart at value d f always h = absurd f
    stands_faulty Enter at value d f always h = absurd f

    -- where a bit is lost, the second handle has the bit that is shown
    pub shown_value : (kind : FaultKind) (at value : H) (d : Diagrams) → IsKeptFaulty care wanted zero one (observed n) kind at value d → kind ≡ Unsettled
        → Always n (response_by (zero v) (one v)) → Always n (Shows (function_of d value v))
    shown_value Unsettled at value d f k always =
        subst (λ (b : Bool). Always n (Shows b)) (sym (f.4.same v)) (shows_one n (zero v) (one v) (wanted v) f.0 (bits f.0) always (not_fight (f.1 v)))
      where
        not_fight : fight_of care zero one v ≡ false → is_fight (response_by (zero v) (one v)) ≡ false
        not_fight e =
            elim (cases_Bool (is_fight (response_by (zero v) (one v)))) [
              | inl t ↦ absurd (false≢true (sym e ∙ and_from (care v) (is_fight (response_by (zero v) (one v))) met t))
              | inr none ↦ none
            ]
    shown_value FightKept at value d f k always = cc
    shown_value Fight at value d f k always = absurd f
    shown_value Float at value d f k always = absurd f
    shown_value Constraint at value d f k always = absurd f
    shown_value Differs at value d f k always = absurd f
    shown_value Next at value d f k always = absurd f
    shown_value Apart at value d f k always = absurd f
    shown_value Enter at value d f k always = absurd f

  -- without keepers, what stands in the kept circuit stands in the bare one
  pub idle_clear : HasNoKeeper c → (clear : (n : ℕ) → ¬ (IsPlain c n × AlwaysResponds c phase observed setting a bare n Fights)) → ((n : ℕ) → observed n ≡ true → (b : Bool) × (a n ≡ Some b))
      → (kind : FaultKind) (n : ℕ) → ¬ HasKeptFault c phase observed setting a kind n
  idle_clear none clear bits FightKept n f = clear n (f.0, λ s is agrees. kept_response c setting.held s none kept bare n Fights (f.1 s is agrees))
  idle_clear none clear bits Unsettled n f =
      let b = bits n f.0 in
      f.1 agreeing agreeing_is agreeing_agrees b.0 b.1
      (kept_response c setting.held agreeing none bare kept n (Shows b.0) ((solved.solves n b.0 f.0).0 b.1 agreeing agreeing_is agreeing_agrees))
  idle_clear none clear bits Fight n f = f
  idle_clear none clear bits Float n f = f
  idle_clear none clear bits Constraint n f = f
  idle_clear none clear bits Differs n f = f
  idle_clear none clear bits Next n f = f
  idle_clear none clear bits Apart n f = f
  idle_clear none clear bits Enter n f = f
