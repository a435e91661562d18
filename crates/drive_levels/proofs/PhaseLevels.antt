-- What a phase that was looked through leaves is what levels are told from; and what is told is the level of the phase.
use Rattle.std.proofs.Common.{◌≡◌, ℕ, Bool, true, false, Option, Some, None, List, ap, sym, subst}
use Rattle.std.proofs.lemmas.Option.{none-some, same_Some}
use Rattle.bdd_core.specs.Diagram.{Valuation}
use Rattle.bdd_core.specs.Store.{Diagrams, function_of}
use Rattle.bdd_core.specs.declared.handle.H.{H}
use Rattle.channel_parts.specs.PartLists.{AreParts, IsPartList}
use Rattle.channel_parts.specs.declared.part.Part.{Part}
use Rattle.channel_parts.specs.declared.part.Parts.{Parts}
use Rattle.circuit_faults.proofs.WholeParts.{is_part, number_inside}
use Rattle.drive_levels.proofs.NetLevelLaws.{one_level_in}
use Rattle.drive_levels.specs.NetLevels.{ArePartsOf, HasLevelIn, IsSolvedPhase, NetGives}
use Rattle.drive_levels.specs.PhaseLevels.{HasLevelAt, IsLevelAt}
use Rattle.node_pool.specs.declared.region.Span.{Span}
use Rattle.path_fixpoint.specs.Parts.{IsPart}
use Rattle.vrt_model.specs.Comparison.{Comparison, is_observed, phase_at}
use Rattle.vrt_model.specs.Constraints.{Meets}
use Rattle.vrt_model.specs.Faults.{Solves}
use Rattle.vrt_model.specs.Held.{setting_of}
use Rattle.vrt_model.specs.Lists.{Among}
use Rattle.vrt_model.specs.Networks.{HasRanges}
use Rattle.vrt_model.specs.Response.{IsStrength}
use Rattle.vrt_model.specs.State.{IsState, Setting, network_of}
use Rattle.vrt_model.specs.declared.circuit.Circuit.{Circuit}
use Rattle.vrt_model.specs.declared.rules.Phase.{Phase}

-- ---- one phase

parts_of : (c : Circuit) (phase : Phase) (which : Bool) (rank : ℕ → ℕ) (parts : Parts) → AreParts c phase which rank parts → ArePartsOf c phase which parts.list
parts_of c phase which rank parts are = record {
  rank = rank;
  each = are.each;
  all = λ n plain. (let in_one = are.all n plain in (in_one.0, in_one.1, number_inside in_one.0 n in_one.2));
}

-- the parts that a plan is made with
pub listed_parts : (c : Circuit) (phase : Phase) (which : Bool) (parts : Parts) → IsPartList c phase which parts → ArePartsOf c phase which parts.list
listed_parts c phase true parts is = parts_of c phase true is.0 parts is.1
listed_parts c phase false parts is = parts_of c phase false (λ n. 0) parts is

-- are parts of the circuit
pub listed_are_parts : (c : Circuit) (phase : Phase) (which : Bool) (parts : List Part) → HasRanges c → ArePartsOf c phase which parts → (part : Part) → Among parts part → IsPart c part
listed_are_parts c phase which parts ranges are part m = is_part c phase which are.rank ranges part (are.each part m)

-- ---- its levels

-- a phase of a comparison that is solved, where the valuations with care are those that meet the constraints
module _ (k : Comparison) (phase : ℕ) (setting : Valuation → Setting) (care : H) (roots gates : Span) (d : Diagrams)
    (solved : IsSolvedPhase k.circuit (phase_at k.rules phase) (is_observed k phase) setting care roots gates d)
    (met : (v : Valuation) → function_of d care v ≡ true → (bits : List Bool) × Meets k phase bits × (setting v ≡ setting_of k phase bits))
    (all : (bits : List Bool) → Meets k phase bits → (v : Valuation) × (function_of d care v ≡ true) × (setting v ≡ setting_of k phase bits)) where
  abbrev HasIn : ℕ → ℕ → Type 0
  HasIn n level = HasLevelIn k.circuit (phase_at k.rules phase) (is_observed k phase) setting (function_of d care) n level

  -- a level at each valuation with care is one at each that meets the constraints
  there : (n level : ℕ) → HasIn n level → HasLevelAt k phase n level
  there n level has bits a s which meets solves is agrees =
      let at = all bits meets in
      subst (λ (x : Setting). IsStrength (network_of k.circuit which x.held s) n level) at.2
      (has which at.0 a s at.1 (subst (λ (x : Setting). Solves k phase x a) (sym at.2) solves)
      (subst (λ (x : Setting). IsState k.circuit (phase_at k.rules phase) x.inputs s) (sym at.2) is) agrees)

  -- and back
  back : (n level : ℕ) → HasLevelAt k phase n level → HasIn n level
  back n level has which v a s here solves is agrees =
      let at = met v here in
      subst (λ (x : Setting). IsStrength (network_of k.circuit which x.held s) n level) (sym at.2)
      (has at.0 a s which at.1 (subst (λ (x : Setting). Solves k phase x a) at.2 solves)
      (subst (λ (x : Setting). IsState k.circuit (phase_at k.rules phase) x.inputs s) at.2 is) agrees)

  -- what is told of a net is exactly its level in the phase
  pub level_told : (n : ℕ) (found : Option ℕ) → NetGives k.circuit (phase_at k.rules phase) (is_observed k phase) setting (function_of d care) n found → IsLevelAt k phase n found
  level_told n None none level = (λ has. absurd (none level (back n level has)), λ e. absurd (none-some level e))
  level_told n (Some found) gives level = (
    λ has. ap Some (one_level_in k.circuit (phase_at k.rules phase) (is_observed k phase) setting care roots gates d solved n found level gives (back n level has)),
    λ e. subst (HasLevelAt k phase n) (same_Some found level e) (there n found gives),
  )
