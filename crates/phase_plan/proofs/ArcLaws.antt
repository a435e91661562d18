-- The arcs of a model by a list of known bits are those by the bits that it has of the signals: so a plan leaves no cycle, and a
-- first cycle is that of the phase.
use Rattle.std.proofs.Common.{◌≡◌, ℕ, ◌<◌, Bool, List, length, Option, Some, None, sym, ◌∙◌, inl, inr}
use Rattle.blif_eval.proofs.Drivers.{input_below}
use Rattle.blif_eval.proofs.LatchLaws.{part_ranges}
use Rattle.blif_eval.specs.Plans.{ArcOf, IsPlan, entry_of}
use Rattle.blif_eval.specs.declared.plan.ModelPlan.{ModelPlan}
use Rattle.graphs.proofs.Walks.{cycle_over, first_over}
use Rattle.phase_terms.specs.Plans.{AreCarried}
use Rattle.vrt_model.specs.Comparison.{Comparison, default_clock_bit, phase_at}
use Rattle.vrt_model.specs.FlatModels.{IsControl, IsFlatModel}
use Rattle.vrt_model.specs.Known.{IsFirstCycle}
use Rattle.vrt_model.specs.ModelArcs.{HasModelArc, IsKnownControl, IsKnownSignal, carried_bits, carries, covered}
use Rattle.vrt_model.specs.Unsupported.{IsAcyclic, ModelArc}
use Rattle.vrt_model.specs.declared.flat_model.FlatModel.{FlatModel}

-- ---- the same bits of the signals

abbrev AreSameBits : FlatModel → (ℕ → Option Bool) → (ℕ → Option Bool) → Type 0
AreSameBits flat given other = (s : ℕ) → s < length flat.signals → given s ≡ other s

module _ (flat : FlatModel) (model : IsFlatModel flat) where
  known_over : (given other : ℕ → Option Bool) → AreSameBits flat given other → (s : ℕ) (v : Bool) → IsKnownSignal flat given s v → s < length flat.signals → IsKnownSignal flat other s v
  known_over given other same s v (carries e) lt = carries (sym (same s lt) ∙ e)
  known_over given other same s v (covered c bits m reads is_output is_bit) lt =
      covered c bits m (λ i a. known_over given other same i (bits i) (reads i a) (input_below flat model c i m a)) is_output is_bit

  control_over : (given other : ℕ → Option Bool) (clock hand : Option Bool) → AreSameBits flat given other → clock ≡ hand → (control : Option ℕ) (v : Bool)
      → IsControl (length flat.signals) control → IsKnownControl flat given clock control v → IsKnownControl flat other hand control v
  control_over given other clock hand same clocks None v range is = sym clocks ∙ is
  control_over given other clock hand same clocks (Some s) v range is = known_over given other same s v is range

  -- where the arcs follow from one, they follow from the other
  arc_over : (given other : ℕ → Option Bool) (clock hand : Option Bool) → AreSameBits flat given other → clock ≡ hand → (from to : ℕ) → HasModelArc flat given clock from to
      → HasModelArc flat other hand from to
  arc_over given other clock hand same clocks from to (inl a) = inl a
  arc_over given other clock hand same clocks from to (inr (inl a)) = inr (inl a)
  arc_over given other clock hand same clocks from to (inr (inr (inl a))) =
      let control = (part_ranges flat model a.0 a.1).control in
      inr (inr (inl (a.0, a.1, a.2, a.3, λ v is. a.4 v (control_over other given hand clock (λ s lt. sym (same s lt)) (sym clocks) a.0.latch.control v control is))))
  arc_over given other clock hand same clocks from to (inr (inr (inr a))) = inr (inr (inr a))

-- ---- the bits of clocks

module _ (k : Comparison) (phase : ℕ) (model : IsFlatModel k.model) (known : List (Option Bool)) (are : AreCarried k phase known) where
  arcs_to : (from to : ℕ) → ArcOf k.model known from to → ModelArc k phase from to
  arcs_to from to arc =
      arc_over k.model model (entry_of known) (carried_bits (phase_at k.rules phase) k.pairing.clocked) (entry_of known (length k.model.signals))
      (default_clock_bit k.rules (phase_at k.rules phase)) are.signals are.clock from to arc

  arcs_back : (from to : ℕ) → ModelArc k phase from to → ArcOf k.model known from to
  arcs_back from to arc =
      arc_over k.model model (carried_bits (phase_at k.rules phase) k.pairing.clocked) (entry_of known) (default_clock_bit k.rules (phase_at k.rules phase))
      (entry_of known (length k.model.signals)) (λ s lt. sym (are.signals s lt)) (sym are.clock) from to arc

  -- with a plan the model has no cycle
  pub model_acyclic : (plan : ModelPlan) → IsPlan k.model known plan → IsAcyclic (ModelArc k phase)
  model_acyclic plan is nodes cycle = is.acyclic nodes (cycle_over (ModelArc k phase) (ArcOf k.model known) arcs_back nodes cycle)

  -- its first cycle is that of the phase
  pub model_cycle : (signals : List ℕ) → IsFirstCycle (ArcOf k.model known) signals → IsFirstCycle (ModelArc k phase) signals
  model_cycle signals first = first_over (ArcOf k.model known) (ModelArc k phase) arcs_to arcs_back signals first
