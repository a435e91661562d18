-- Faults by two partial assignments that are the same on the observed nets.
use Rattle.std.proofs.Common.{◌≡◌, ℕ, Bool, true, false, refl, sym, ◌∙◌}
use Rattle.replaced_cells.proofs.BrokenLaws.{breaks_constrained, breaks_there, ports_same}
use Rattle.replaced_cells.proofs.MissedLaws.{apart_there, differs_there, enter_there, next_there}
use Rattle.replaced_cells.specs.Faults.{ObservedBitsShowFaults}
use Rattle.vrt_model.proofs.Observed.{output_observed}
use Rattle.vrt_model.specs.Assignment.{Assignment}
use Rattle.vrt_model.specs.Comparison.{Comparison, is_observed, phase_at}
use Rattle.vrt_model.specs.Faults.{Stands}
use Rattle.vrt_model.specs.Lists.{At}
use Rattle.vrt_model.specs.Reading.{Partial}
use Rattle.vrt_model.specs.Response.{Fight as FightResponse, Float as FloatResponse, Response}
use Rattle.vrt_model.specs.Solution.{Agrees, AlwaysResponds, SameObserved}
use Rattle.vrt_model.specs.State.{Setting}
use Rattle.vrt_model.specs.declared.circuit.Hold.{Hold}
use Rattle.vrt_model.specs.declared.verdict.FaultKind.{FaultKind}
use Rattle.vrt_model.specs.declared.verdict.FaultKind.TheVariants.{Fight, FightKept, Float, Unsettled, Constraint, Differs, Next, Apart, Enter}
use Rattle.whole_solutions.proofs.ObservedCases.{hold_observed, instance_observed}

module _ (k : Comparison) (phase : ℕ) (setting : Setting) (a b : Partial) (same : SameObserved (is_observed k phase) a b) where
  agrees : (reading : ℕ → Bool) → Agrees (is_observed k phase) b reading → Agrees (is_observed k phase) a reading
  agrees reading h n v o e = h n v o (sym (same n o) ∙ e)

  pub responds : (which : Bool) (n : ℕ) (r : Response) → AlwaysResponds k.circuit (phase_at k.rules phase) (is_observed k phase) setting a which n r
      → AlwaysResponds k.circuit (phase_at k.rules phase) (is_observed k phase) setting b which n r
  responds which n r h s is ok = h s is (agrees s.reading ok)

  hold_bits : (i : ℕ) (h : Hold) → At k.circuit.holds i h → a h.net.0 ≡ b h.net.0
  hold_bits i h is = same h.net.0 (hold_observed k phase h.net.0 (h, (i, is), refl))

  pub stands_there : (g : Assignment) (kind : FaultKind) (at : ℕ) → Stands k phase setting a g kind at → Stands k phase setting b g kind at
  stands_there g Fight at h = (h.0, responds true at FightResponse h.1)
  stands_there g FightKept at h = (h.0, responds false at FightResponse h.1)
  stands_there g Float at h = (h.0, responds true at FloatResponse h.1)
  stands_there g Unsettled at h = (h.0, λ s is ok v e. h.1 s is (agrees s.reading ok) v (same at h.0 ∙ e))
  stands_there g Constraint at (i, is, breaks) =
      let lines = breaks_constrained k.design k.rules phase a i breaks in
      (i, is, breaks_there k.design k.rules phase a b i i refl (ports_same i a b (λ net m. same net.0 (instance_observed k phase net.0 (i, net, (at, is), m, refl, lines)))) breaks)
  stands_there g Differs at h =
      differs_there k phase k.circuit k.circuit k.groups k.groups a b refl (λ i x is. (x, is, refl)) (λ next i. refl) hold_bits
      (λ i signal p is out seen. same p.net (output_observed k phase i p signal is out seen)) g at h
  stands_there g Next at h =
      next_there k phase k.circuit k.circuit k.groups k.groups a b refl (λ i x is. (x, is, refl)) (λ next i. refl) hold_bits
      (λ i signal p is out seen. same p.net (output_observed k phase i p signal is out seen)) g at h
  stands_there g Apart at h =
      apart_there k phase k.circuit k.circuit k.groups k.groups a b refl (λ i x is. (x, is, refl)) (λ next i. refl) hold_bits
      (λ i signal p is out seen. same p.net (output_observed k phase i p signal is out seen)) g at h
  stands_there g Enter at h =
      enter_there k phase k.circuit k.circuit k.groups k.groups a b refl (λ i x is. (x, is, refl)) (λ next i. refl) hold_bits
      (λ i signal p is out seen. same p.net (output_observed k phase i p signal is out seen)) g at h

pub observed_bits_show_faults : ObservedBitsShowFaults
observed_bits_show_faults k phase setting a b g kind at same h = stands_there k phase setting a b same g kind at h
