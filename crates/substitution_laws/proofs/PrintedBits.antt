-- The values with which a fault is printed, by two partial assignments that are the same on the observed nets.
use Rattle.std.proofs.Common.{◌≡◌, ℕ, Bool, true, Option, Some, refl, sym, ◌∙◌, subst, inl, inr}
use Rattle.replaced_cells.proofs.MissedLaws.{apart_wanted, differs_wanted, enter_wanted, next_wanted}
use Rattle.substitution_laws.specs.LaterFaults.{IsFoundLater}
use Rattle.vrt_model.proofs.Observed.{output_observed}
use Rattle.vrt_model.specs.Assignment.{Assignment}
use Rattle.vrt_model.specs.CellRules.{is_observed_port}
use Rattle.vrt_model.specs.Comparison.{CellPort, Comparison, cell_at, is_observed, output_signal, ports_of}
use Rattle.vrt_model.specs.Faults.{IsPrintedWith, Stands}
use Rattle.vrt_model.specs.Lists.{At}
use Rattle.vrt_model.specs.Reading.{Partial}
use Rattle.vrt_model.specs.Solution.{SameObserved}
use Rattle.vrt_model.specs.State.{Setting}
use Rattle.vrt_model.specs.declared.circuit.Hold.{Hold}
use Rattle.vrt_model.specs.declared.verdict.FaultKind.{FaultKind}
use Rattle.vrt_model.specs.declared.verdict.FaultKind.TheVariants.{Fight, FightKept, Float, Unsettled, Constraint, Differs, Next, Apart, Enter}
use Rattle.whole_solutions.proofs.ObservedCases.{hold_observed}

module _ (k : Comparison) (phase : ℕ) (setting : Setting) (a b : Partial) (same : SameObserved (is_observed k phase) a b) where
  hold_same : (i : ℕ) (h : Hold) → At k.circuit.holds i h → a h.net.0 ≡ b h.net.0
  hold_same i h is = same h.net.0 (hold_observed k phase h.net.0 (h, (i, is), refl))

  hold_back : (i : ℕ) (h : Hold) → At k.circuit.holds i h → b h.net.0 ≡ a h.net.0
  hold_back i h is = sym (hold_same i h is)

  port_same : (i signal : ℕ) (p : CellPort) → At (ports_of k) i p → output_signal p.role ≡ Some signal → is_observed_port k.rules (cell_at k.design k.cell).name p.name phase ≡ true → a p.net ≡ b p.net
  port_same i signal p is out seen = same p.net (output_observed k phase i p signal is out seen)

  port_back : (i signal : ℕ) (p : CellPort) → At (ports_of k) i p → output_signal p.role ≡ Some signal → is_observed_port k.rules (cell_at k.design k.cell).name p.name phase ≡ true → b p.net ≡ a p.net
  port_back i signal p is out seen = sym (port_same i signal p is out seen)

  pub printed_same : (e g : Assignment) (kind : FaultKind) (at : ℕ) (circuit wanted : Option Bool) → IsFoundLater kind → Stands k phase setting a e kind at
      → IsPrintedWith k phase setting a g kind at circuit wanted → IsPrintedWith k phase setting b g kind at circuit wanted
  printed_same e g Fight at circuit wanted ok h p = absurd ok
  printed_same e g Float at circuit wanted ok h p = absurd ok
  printed_same e g Constraint at circuit wanted ok h p = absurd ok
  printed_same e g FightKept at circuit wanted ok h (inl (n, no_want, value)) = absurd no_want
  printed_same e g FightKept at circuit wanted ok h (inr (none, c, w)) = inr (λ n v want. want, c, w)
  printed_same e g Unsettled at circuit wanted ok h (inl (n, (net, want), (bit, is, responds))) =
      let here : a n ≡ b n = subst (λ (x : ℕ). a x ≡ b x) net (same at h.0) in
      inl (n, (net, want ∙ here), (bit, is, λ s state agrees. responds s state (λ m v o is_bit. agrees m v o (sym (same m o) ∙ is_bit))))
  printed_same e g Unsettled at circuit wanted ok h (inr (none, c, w)) = absurd (none at (a at) (refl, refl))
  printed_same e g Differs at circuit wanted ok h (inl (n, want, value)) =
      let x = differs_wanted k phase k.circuit k.circuit k.groups k.groups a b refl (λ i y is. (y, is, refl)) (λ next i. refl) hold_same port_same g at n wanted want in
      inl (n, x.0, value ∙ x.1)
  printed_same e g Differs at circuit wanted ok h (inr (none, c, w)) =
      inr (λ n v want. none n v (differs_wanted k phase k.circuit k.circuit k.groups k.groups b a refl (λ i y is. (y, is, refl)) (λ next i. refl) hold_back port_back g at n v want).0, c, w)
  printed_same e g Next at circuit wanted ok h (inl (n, want, value)) =
      let x = next_wanted k phase k.circuit k.circuit k.groups k.groups a b refl (λ i y is. (y, is, refl)) (λ next i. refl) hold_same port_same g at n wanted want in
      inl (n, x.0, value ∙ x.1)
  printed_same e g Next at circuit wanted ok h (inr (none, c, w)) =
      inr (λ n v want. none n v (next_wanted k phase k.circuit k.circuit k.groups k.groups b a refl (λ i y is. (y, is, refl)) (λ next i. refl) hold_back port_back g at n v want).0, c, w)
  printed_same e g Apart at circuit wanted ok h (inl (n, want, value)) =
      let x = apart_wanted k phase k.circuit k.circuit k.groups k.groups a b refl (λ i y is. (y, is, refl)) (λ next i. refl) hold_same port_same g at n wanted want in
      inl (n, x.0, value ∙ x.1)
  printed_same e g Apart at circuit wanted ok h (inr (none, c, w)) =
      inr (λ n v want. none n v (apart_wanted k phase k.circuit k.circuit k.groups k.groups b a refl (λ i y is. (y, is, refl)) (λ next i. refl) hold_back port_back g at n v want).0, c, w)
  printed_same e g Enter at circuit wanted ok h (inl (n, want, value)) =
      let x = enter_wanted k phase k.circuit k.circuit k.groups k.groups a b refl (λ i y is. (y, is, refl)) (λ next i. refl) hold_same port_same g at n wanted want in
      inl (n, x.0, value ∙ x.1)
  printed_same e g Enter at circuit wanted ok h (inr (none, c, w)) =
      inr (λ n v want. none n v (enter_wanted k phase k.circuit k.circuit k.groups k.groups b a refl (λ i y is. (y, is, refl)) (λ next i. refl) hold_back port_back g at n v want).0, c, w)
