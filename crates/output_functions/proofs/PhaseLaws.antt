-- Phase after phase.
use Rattle.std.proofs.Common.{◌≡◌, ℕ, ◌+◌, ◌*◌, ◌^◌, ◌<◌, ◌≤◌, List, Result, Ok, Err, arith, length, refl, subst}
use Rattle.std.proofs.Math.Nat.{add-mul, mul-le-mul_right}
use Rattle.bdd_core.specs.Store.{Diagrams}
use Rattle.bdd_core.specs.declared.handle.H.{H}
use Rattle.output_functions.proofs.Between.{may_more}
use Rattle.output_functions.specs.Phases.{AreJoinedIn, HasSameSources, HasWork, IsBetween, JoinedGives, PhasesGive, joined_work, solved_operations}
use Rattle.output_functions.specs.declared.phase.Opening.{Opening}
use Rattle.output_functions.specs.declared.phase.Stop.{Stop}
use Rattle.output_functions.specs.declared.phase.Stop.TheVariants.{Spent as IsSpent, NoMemory}
use Rattle.output_functions.specs.declared.phases.Phases.{Phases}
use Rattle.phase_terms.specs.Found.{MaySpend}
use Rattle.phase_terms.specs.Ready.{comparison_in}
use Rattle.phase_terms.specs.Stores.{IsUsed}
use Rattle.phase_terms.specs.declared.compared.Comparison.{Comparison as CellComparison}
use Rattle.phase_terms.specs.declared.plan.PhasePlan.{PhasePlan}
use Rattle.phase_terms.specs.declared.words.PhaseWords.{PhaseWords}
use Rattle.vrt_model.specs.Comparison.{Comparison}
use Rattle.vrt_model.specs.Held.{sources_of}
use Rattle.vrt_model.specs.Lists.{At}
use Rattle.vrt_model.specs.declared.groups.Source.{Source}

-- phases with the same variables have the same stores
pub between_same : (k : Comparison) (p q budget made : ℕ) (w : PhaseWords) (d : Diagrams) → HasSameSources k → IsBetween k p budget made w d → IsBetween k q budget made w d
between_same k p q budget made w d same b =
    let sources : sources_of k p ≡ sources_of k q = same p q in
    record {
      store = record {
        words = b.store.words;
        vars = subst (λ (ss : List Source). length ss ≤ d.vars) sources b.store.vars;
        used = subst (λ (ss : List Source). IsUsed budget (length ss) made d) sources b.store.used;
      };
      roots = b.roots;
      inputs = b.inputs;
      held = b.held;
    }

spend_same : (k : Comparison) (p q budget operations : ℕ) → HasSameSources k → MaySpend k budget p operations → MaySpend k budget q operations
spend_same k p q budget operations same s =
    let sources : sources_of k p ≡ sources_of k q = same p q in
    record {
      many = subst (λ (ss : List Source). 4 < length ss) sources s.many;
      passed = subst (λ (ss : List Source). budget < 2 + 2 ^ length ss * operations) sources s.passed;
    }

-- one phase more
module _ (k : Comparison) (plans : List PhasePlan) (phase made outputs : ℕ) (plan : PhasePlan) (at : At plans phase plan) (few : outputs ≤ length k.circuit.nets) where
  abbrev all : ℕ
  all = made + solved_operations k phase plan + 2 * outputs

  more_within : ((work : ℕ) → HasWork k plans work → made ≤ phase * joined_work k work) → (work : ℕ) → HasWork k plans work → all ≤ (phase + 1) * joined_work k work
  more_within within work has =
      let before = within work has in
      let own = has phase plan at in
      let sums = add-mul phase 1 (joined_work k work) in
      omega (arith, before, own, few, sums)

  pub next_gives : (budget : ℕ) (w : PhaseWords) (d : Diagrams) (handles : List H) (result : Result Unit Stop) → HasSameSources k
      → ((work : ℕ) → HasWork k plans work → made ≤ phase * joined_work k work)
      → JoinedGives k phase budget all w d handles result → PhasesGive k plans (phase + 1) budget w d handles result
  next_gives budget w d handles (Ok done) same within gives = record {
    made = all;
    between = between_same k phase 0 d.budget all w d same gives.0;
    within = more_within within;
    joined = gives.1;
  }
  next_gives budget w d handles (Err IsSpent) same within gives = λ work has.
      spend_same k phase 0 budget ((phase + 1) * joined_work k work) same (may_more k phase budget budget all ((phase + 1) * joined_work k work) refl (more_within within work has) gives)
  next_gives budget w d handles (Err NoMemory) same within gives = tt

-- so one more is joined by what is given of it
pub next_of : (p : Phases) (o : Opening) (phase outputs : ℕ) (old new : Diagrams) (handles joined : List H) (result : Result Unit Stop) → o.compared ≡ p.compared → o.phase ≡ phase → o.words ≡ p.words
    → At p.plans.now phase o.plan.now → outputs ≤ length (comparison_in p.compared).circuit.nets → HasSameSources (comparison_in p.compared)
    → AreJoinedIn (comparison_in p.compared) p.plans.now phase old.budget p.words old handles
    → ((made : ℕ) → IsBetween (comparison_in o.compared) o.phase old.budget made o.words old
    → JoinedGives (comparison_in o.compared) o.phase old.budget (made + solved_operations (comparison_in o.compared) o.phase o.plan.now + 2 * outputs) o.words new joined result)
    → PhasesGive (comparison_in p.compared) p.plans.now (phase + 1) old.budget p.words new joined result
next_of p o phase outputs old new handles joined result compared at words plan few same so_far gives =
    let k = comparison_in p.compared in
    next_gives k p.plans.now phase so_far.made outputs o.plan.now plan few old.budget p.words new joined result same so_far.within
    (here so_far.made (between_same k 0 phase old.budget so_far.made p.words old same so_far.between))
  where
    Given : CellComparison → ℕ → PhaseWords → Type 0
    Given c q w =
        (made : ℕ) → IsBetween (comparison_in c) q old.budget made w old
        → JoinedGives (comparison_in c) q old.budget (made + solved_operations (comparison_in c) q o.plan.now + 2 * outputs) w new joined result

    here : Given p.compared phase p.words
    here = subst (λ (w : PhaseWords). Given p.compared phase w) words (subst (λ (q : ℕ). Given p.compared q o.words) at (subst (λ (c : CellComparison). Given c o.phase o.words) compared gives))

-- a refusal of a phase is one of all
pub refused_all : (k : Comparison) (plans : List PhasePlan) (upto all budget : ℕ) (w : PhaseWords) (d : Diagrams) (handles : List H) (stop : Stop) → upto ≤ all
    → PhasesGive k plans upto budget w d handles (Err stop) → PhasesGive k plans all budget w d handles (Err stop)
refused_all k plans upto all budget w d handles IsSpent le gives = λ work has.
    may_more k 0 budget budget (upto * joined_work k work) (all * joined_work k work) refl (mul-le-mul_right {m = upto} {n = all} (joined_work k work) le) (gives work has)
refused_all k plans upto all budget w d handles NoMemory le gives = tt
