-- The strengths of a net at the solutions of a phase: those in the network of its part, and the greatest where it is given.
use Rattle.std.proofs.Common.{◌≡◌, ℕ, Bool, true, Option, Some, None, refl, subst}
use Rattle.bdd_core.specs.Diagram.{Valuation}
use Rattle.bdd_core.specs.Store.{Diagrams, function_of}
use Rattle.bdd_core.specs.Words.{shows}
use Rattle.bdd_core.specs.declared.handle.H.{H}
use Rattle.channel_parts.specs.PartLists.{IsPartOf}
use Rattle.channel_parts.specs.declared.part.Part.{Part}
use Rattle.circuit_faults.proofs.Solutions.{some_state, some_state_agrees, some_state_is}
use Rattle.circuit_faults.proofs.SoundWholes.{wired_wholes}
use Rattle.circuit_faults.proofs.WholeParts.{whole_part}
use Rattle.circuit_faults.specs.Ordered.{IsWholePart}
use Rattle.circuit_faults.specs.Results.{root_at}
use Rattle.circuit_faults.specs.Scans.{IsInside}
use Rattle.drive_levels.proofs.PartStrengths.{alone, strength_alone, strength_there}
use Rattle.drive_levels.specs.NetLevels.{HasLevelOf, IsSolvedPhase, OneGives}
use Rattle.node_pool.specs.declared.region.Span.{Span}
use Rattle.output_levels.specs.PartLevels.{HasStrengths, PartTells}
use Rattle.vrt_model.proofs.Filtered.{device_among}
use Rattle.vrt_model.proofs.GatesGiven.{IsGiven}
use Rattle.vrt_model.proofs.GivenNets.{source_strength}
use Rattle.vrt_model.proofs.Laws.{one_strength}
use Rattle.vrt_model.proofs.Networks.{given_source, network_levels}
use Rattle.vrt_model.specs.Path.{Network}
use Rattle.vrt_model.specs.Response.{IsStrength}
use Rattle.vrt_model.specs.Solution.{Agrees, IsSolution}
use Rattle.vrt_model.specs.State.{IsState, Setting, State, network_of}
use Rattle.vrt_model.specs.declared.circuit.Circuit.{Circuit}
use Rattle.vrt_model.specs.Levels.{source_level}
use Rattle.vrt_model.specs.declared.rules.Phase.{Phase}

module _ (c : Circuit) (phase : Phase) (observed : ℕ → Bool) (setting : Valuation → Setting) (care : H) (roots gates : Span) (d : Diagrams)
    (solved : IsSolvedPhase c phase observed setting care roots gates d) where
  -- a solution and a state that agrees with it, at a valuation
  pub record Case (v : Valuation) : Type 0 where
    pub solution : ℕ → Option Bool
    pub solves : IsSolution c phase observed (setting v) solution
    pub state : State
    pub is : IsState c phase (setting v).inputs state
    pub agrees : Agrees observed solution state.reading

  pub some_case : (v : Valuation) → Case v
  some_case v =
      let one = solved.once observed (setting v) solved.seen.0 solved.wholes.determined in
      record {
        solution = one.bits;
        solves = one.solves;
        state = some_state c phase observed solved.wholes solved.seen.0 (root_at d roots v) (solved.fixed v) (setting v) (solved.given v) one.bits one.solves;
        is = some_state_is c phase observed solved.wholes solved.seen.0 (root_at d roots v) (solved.fixed v) (setting v) (solved.given v) one.bits one.solves;
        agrees = some_state_agrees c phase observed solved.wholes solved.seen.0 (root_at d roots v) (solved.fixed v) (setting v) (solved.given v) one.bits one.solves;
      }

  -- two levels that a net has there are one
  pub one_level : (which : Bool) (n level other : ℕ) → HasLevelOf c phase observed setting (function_of d care) which n level → HasLevelOf c phase observed setting (function_of d care) which n other → level ≡ other
  one_level which n level other first second =
      let v = solved.some.0 in
      let at = some_case v in
      one_strength (network_of c which (setting v).held at.state) n level other (first v at.solution at.state solved.some.1 at.solves at.is at.agrees) (second v at.solution at.state solved.some.1 at.solves at.is at.agrees)

  -- a given net has the greatest strength
  pub given_level : (which : Bool) (n : ℕ) → IsGiven c n → HasLevelOf c phase observed setting (function_of d care) which n (source_level c)
  given_level which n g v a s here solves is agrees =
      let held = (setting v).held in
      source_strength (network_of c which held s) (network_levels c which held s solved.wholes.ranges) n (given_source c which held s solved.wholes.ranges n g.0 g.1 g.2)

  module _ (which : Bool) (rank : ℕ → ℕ) (part : Part) (of : IsPartOf c phase which rank part) (n : ℕ) (inside : IsInside part n) where
    whole : IsWholePart which c phase part
    whole = whole_part c phase which rank solved.wholes.ranges part of

    -- the strengths of the net in the network of its part, with the roots of the circuit in a state at each valuation
    module _ (states : Valuation → State) where
      abbrev alone_at : Valuation → Network
      alone_at v = alone which c phase solved.wholes.ranges part whole (λ m. shows d gates m v) (setting v) (states v)

      strength : Valuation → ℕ
      strength v = (strength_alone which c phase solved.wholes.ranges part whole (λ m. shows d gates m v) (setting v) (states v) n).0

      strength_is : (v : Valuation) → IsStrength (alone_at v) n (strength v)
      unfolding strength
      strength_is v = (strength_alone which c phase solved.wholes.ranges part whole (λ m. shows d gates m v) (setting v) (states v) n).1

      has_strengths : HasStrengths c part gates (function_of d care) d n strength
      has_strengths v here = (
        alone_at v,
        record { nets = refl; holds = refl; outputs = refl; source = refl; devices = refl; reading = λ m lt. refl },
        strength_is v,
      )

      -- it is the strength in the circuit, where the state agrees with a solution
      case_strength : (v : Valuation) (a : ℕ → Option Bool) → function_of d care v ≡ true → IsSolution c phase observed (setting v) a → Agrees observed a (states v).reading
          → IsStrength (network_of c which (setting v).held (states v)) n (strength v)
      case_strength v a here solves agrees =
          strength_there which c phase solved.wholes.ranges part whole (λ m. shows d gates m v) (setting v) (states v) observed (wired_wholes c phase observed solved.wholes) solved.seen a solves agrees
          (λ x m. solved.bits v a here solves x.gate.0 (solved.seen.1 x (device_among which c x (whole.devices x m).0).0)) n (strength v) inside (strength_is v)

    -- so the level in the part is the level at all solutions
    pub part_gives : (found : Option ℕ) → PartTells c part gates care d n found → OneGives c phase observed setting (function_of d care) which n found
    part_gives (Some level) tells = λ v a s here solves is agrees.
        let states : Valuation → State = λ u. s in
        subst (IsStrength (network_of c which (setting v).held s) n) (tells (strength states) (has_strengths states) v here) (case_strength states v a here solves agrees)
    part_gives None tells = λ level all.
        let states : Valuation → State = λ u. (some_case u).state in
        tells (strength states) (has_strengths states) level (λ v here.
        let at = some_case v in
        one_strength (network_of c which (setting v).held at.state) n (strength states v) level (case_strength states v at.solution here at.solves at.agrees)
        (all v at.solution at.state here at.solves at.is at.agrees))
