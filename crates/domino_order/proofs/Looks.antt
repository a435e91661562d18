-- What a look at all settings says of each of them.
use Rattle.std.proofs.Common.{◌≡◌, ℕ, Bool, true, false, List, Option, Some, None, Result, Ok, Err, ap, refl, sym, subst, ◌∙◌, inl, inr}
use Rattle.std.specs.Prelude.{IfOk, IsSome, option_map, slice_get, unwrap_or}
use Rattle.std.proofs.lemmas.Bool.{false≢true}
use Rattle.node_pool.specs.declared.region.Span.{Span}
use Rattle.arrival_laws.specs.Orders.{Settles, is_of_circuit}
use Rattle.bdd_core.specs.Diagram.{Valuation}
use Rattle.bdd_core.specs.Store.{Diagrams, function_of}
use Rattle.bdd_core.specs.Words.{shows}
use Rattle.bdd_core.specs.declared.handle.H.{H}
use Rattle.bdd_core.specs.declared.handle.Spent.{Spent}
use Rattle.channel_parts.specs.OneSolution.{AreDetermined, AreObserved, HasOneSolution}
use Rattle.channel_parts.specs.Orders.{IsSolvedOnce}
use Rattle.circuit_faults.specs.Faults.{HasFixedBits, IsSettingAt, IsSolvedAt}
use Rattle.circuit_faults.specs.Results.{root_at}
use Rattle.domino_order.specs.StepSettings.{GivesSettings, SettlesAt, begun_at}
use Rattle.domino_order.specs.ThreeSettings.{SettlesTo}
use Rattle.setting_faults.specs.Settling.{HasCircuitFault, IsSettled, IsUnsettled, SettleGives}
use Rattle.vrt_model.specs.Assignment.{Assignment}
use Rattle.vrt_model.specs.Comparison.{Comparison, is_observed, phase_at}
use Rattle.vrt_model.specs.Faults.{Solves, Stands}
use Rattle.vrt_model.specs.Reading.{Partial}
use Rattle.vrt_model.specs.State.{Setting}
use Rattle.vrt_model.specs.declared.circuit.Circuit.{Circuit}
use Rattle.vrt_model.specs.declared.circuit.Hold.{Hold}
use Rattle.vrt_model.specs.declared.rules.Phase.{Phase}
use Rattle.vrt_model.specs.declared.verdict.FaultKind.{FaultKind}
use Rattle.vrt_model.specs.declared.verdict.FaultKind.TheVariants.{Fight, FightKept, Float, Unsettled, Constraint, Differs, Next, Apart, Enter}

-- ---- the faults of the circuit, by the words of comparisons

module _ (k : Comparison) (phase : ℕ) (s : Setting) (a : Partial) (g : Assignment) (n : ℕ) where
  abbrev Here : FaultKind → Type 0
  Here kind = HasCircuitFault k.circuit (phase_at k.rules phase) (is_observed k phase) s a kind n

  found_here : (kind : FaultKind) → is_of_circuit kind ≡ true → Stands k phase s a g kind n → Here kind
  found_here Fight of stands = inl stands
  found_here FightKept of stands = inr stands
  found_here Float of stands = inl stands
  found_here Unsettled of stands = inr stands
  found_here Constraint of stands = absurd (false≢true of)
  found_here Differs of stands = absurd (false≢true of)
  found_here Next of stands = absurd (false≢true of)
  found_here Apart of stands = absurd (false≢true of)
  found_here Enter of stands = absurd (false≢true of)

  stands_here : (kind : FaultKind) → Here kind → (is_of_circuit kind ≡ true) × Stands k phase s a g kind n
  stands_here Fight (inl bare) = (refl, bare)
  stands_here Fight (inr kept) = absurd kept
  stands_here Float (inl bare) = (refl, bare)
  stands_here Float (inr kept) = absurd kept
  stands_here FightKept (inl bare) = absurd bare
  stands_here FightKept (inr kept) = (refl, kept)
  stands_here Unsettled (inl bare) = absurd bare
  stands_here Unsettled (inr kept) = (refl, kept)
  stands_here Constraint (inl bare) = absurd bare
  stands_here Constraint (inr kept) = absurd kept
  stands_here Differs (inl bare) = absurd bare
  stands_here Differs (inr kept) = absurd kept
  stands_here Next (inl bare) = absurd bare
  stands_here Next (inr kept) = absurd kept
  stands_here Apart (inl bare) = absurd bare
  stands_here Apart (inr kept) = absurd kept
  stands_here Enter (inl bare) = absurd bare
  stands_here Enter (inr kept) = absurd kept

-- ---- one setting

-- some setting has the bits of the roots
root_setting : Circuit → (ℕ → Bool) → Setting
root_setting c root = record { inputs = root; held = λ place. unwrap_or (option_map (λ (h : Hold). root h.net.0) (slice_get c.holds place)) false; elements = λ e. false }

root_given : (c : Circuit) (root : ℕ → Bool) → IsSettingAt c root (root_setting c root)
unfolding root_setting
root_given c root = record {
  inputs = λ n net e kind. refl;
  held = λ at hold e plain. ap (λ (o : Option Hold). unwrap_or (option_map (λ (h : Hold). root h.net.0) o) false) e;
}

module _ (k : Comparison) (phase : ℕ) (once : IsSolvedOnce k.circuit (phase_at k.rules phase)) (seen : AreObserved k.circuit (is_observed k phase))
    (determined : AreDetermined k.circuit (phase_at k.rules phase) (is_observed k phase)) (care : H) (roots gates : Span) (old new : Diagrams) where
  abbrev c : Circuit
  c = k.circuit

  abbrev at_phase : Phase
  at_phase = phase_at k.rules phase

  module _ (v : Valuation) (s : Setting) (given : IsSettingAt k.circuit (root_at old roots v) s) where
    solved : (a : Partial) → Solves k phase s a → IsSolvedAt c at_phase (is_observed k phase) (root_at old roots v) s a
    solved a solves = record { given = given; solves = solves }

    one : HasOneSolution c at_phase (is_observed k phase) s
    one = once (is_observed k phase) s seen determined

    settled_here : IsSettled c at_phase (is_observed k phase) care roots gates old new → function_of old care v ≡ true → SettlesTo k phase s (λ n. shows new gates n v)
    settled_here is met = record {
      settles = record {
        solution = (one.bits, one.solves);
        one_solution = λ a b x y n o. sym (one.only a x n o) ∙ one.only b y n o;
        defined = λ a x n o. subst IsSome (sym (is.bits v s a met (solved a x) n o)) refl;
        no_fault = λ a g kind at x of stands. is.clear v s a met (solved a x) kind at (found_here k phase s a g at kind of stands);
      };
      shown = λ a x n o. is.bits v s a met (solved a x) n o;
    }

    unsettled_here : (at : H) → IsUnsettled c at_phase (is_observed k phase) care roots at old new → function_of new at v ≡ true → (function_of old care v ≡ true) × (¬ Settles k phase s)
    unsettled_here at is holds =
        let g : Assignment = record { signal = λ n. false; next = λ n. false } in
        let stands = (is.exact v s one.bits (solved one.bits one.solves)).0 holds in
        let here = stands_here k phase s one.bits g is.net is.kind stands.1 in (
          stands.0,
          λ settles. settles.no_fault one.bits g is.kind is.net one.solves here.0 here.1,
        )

  -- ---- all settings of steps

  pub looks : (nets : List ℕ) (n : ℕ) (settings : List Bool → Setting) → GivesSettings k phase nets n settings roots old → (found : Option H)
      → SettleGives c at_phase (is_observed k phase) care roots gates old new found → SettlesAt k phase nets n settings care gates old new found
  looks nets n settings gives None is = λ bits at met. settled_here (begun_at k phase nets bits) (settings bits) (gives.given bits at) is met
  looks nets n settings gives (Some at) is = record {
    live = is.live;
    some = is.some;
    within = λ v e. (unsettled_here v (root_setting c (root_at old roots v)) (root_given c (root_at old roots v)) at is e).0;
    so = λ bits step e. (unsettled_here (begun_at k phase nets bits) (settings bits) (gives.given bits step) at is e).1;
  }

  pub look_gives : (nets : List ℕ) (observed : ℕ → Bool) → observed ≡ is_observed k phase → ((v : Valuation) → HasFixedBits c at_phase (root_at old roots v)) → (result : Result (Option H) Spent)
      → IfOk result (λ found. ((v : Valuation) → HasFixedBits c at_phase (root_at old roots v)) → SettleGives c at_phase observed care roots gates old new found)
      → IfOk result (λ found. (n : ℕ) (settings : List Bool → Setting) → GivesSettings k phase nets n settings roots old → SettlesAt k phase nets n settings care gates old new found)
  look_gives nets observed same fixed (Ok found) is = λ n settings gives.
      looks nets n settings gives found (subst (λ (f : ℕ → Bool). SettleGives c at_phase f care roots gates old new found) same (is fixed))
  look_gives nets observed same fixed (Err e) is = tt
