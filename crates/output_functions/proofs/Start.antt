-- Before the first phase.
use Rattle.std.proofs.Common.{◌≡◌, ℕ, ◌≤◌, Bool, false, List, Err, zero, suc, arith, ap, length, refl, subst, sym, ◌∙◌}
use Rattle.std.specs.Prelude.{replicate}
use Rattle.std.proofs.lemmas.Bool.{false≢true}
use Rattle.bdd_core.proofs.Meaning.{meaning_zero}
use Rattle.bdd_core.specs.Diagram.{meaning}
use Rattle.bdd_core.specs.Store.{Diagrams, IsOpened}
use Rattle.bdd_core.specs.Words.{IsFilled}
use Rattle.bdd_core.specs.declared.handle.H.{H}
use Rattle.bdd_ops.specs.Ops.{bits_of}
use Rattle.output_functions.specs.Phases.{AreJoined, AreJoinedIn, ArePhasePlans, FunctionsGive, HasOwnOutputs, IsJoinable, PhasesGive}
use Rattle.output_functions.specs.declared.phase.Stop.{Stop}
use Rattle.output_functions.specs.declared.phase.Stop.TheVariants.{Spent as IsSpent, NoMemory}
use Rattle.output_functions.specs.declared.phases.Phases.{Phases}
use Rattle.output_joins.specs.Joins.{handle_in, shown}
use Rattle.phase_laws.proofs.Work.{used_none}
use Rattle.phase_terms.specs.Ready.{IsReady, comparison_in}
use Rattle.phase_terms.specs.Stores.{HasPhaseWords, counts_of}
use Rattle.phase_terms.specs.declared.compared.Comparison.{Comparison as CellComparison}
use Rattle.phase_terms.specs.declared.plan.PhasePlan.{PhasePlan}
use Rattle.phase_terms.specs.declared.words.PhaseWords.{PhaseWords}
use Rattle.phase_terms.specs.declared.words.WordCounts.{WordCounts}
use Rattle.vrt_model.specs.Comparison.{Comparison}
use Rattle.vrt_model.specs.Equal.{IsEqual}
use Rattle.vrt_model.specs.Held.{sources_of}
use Rattle.vrt_model.specs.declared.groups.Vars.{Vars}
use Rattle.whole_steps.specs.Tables.{IsWholeTable}

abbrev zeros : ℕ → List H
zeros n = replicate n (record { 0 = 0 })

zero_at : (n s : ℕ) → (handle_in (zeros n) s).0 ≡ 0
zero_at zero s = refl
zero_at (suc n) zero = refl
zero_at (suc n) (suc s) = zero_at n s

length_zeros : (n : ℕ) → length (zeros n) ≡ n
length_zeros zero = refl
length_zeros (suc n) = ap suc (length_zeros n)

-- each function is the constant 0
pub none_joined : (k : Comparison) (handles : List H) (d : Diagrams) → handles ≡ replicate (length k.model.signals) (record { 0 = 0 }) → 2 ≤ length d.nodes → AreJoined k 0 handles d
none_joined k handles d is ends = subst (λ (hs : List H). AreJoined k 0 hs d) (sym is) (record {
  len = length_zeros (length k.model.signals);
  live = λ s lt. (let nought = zero_at (length k.model.signals) s in omega (arith, nought, ends));
  is = λ port signal there role phase bits valuation. (
    λ t. absurd (false≢true (sym (none signal (bits_of bits)) ∙ t)),
    λ given. absurd (let below = given.1 in omega (arith, below)),
  );
})
  where
    none : (s : ℕ) (v : ℕ → Bool) → shown d (zeros (length k.model.signals)) s v ≡ false
    none s v = ap (λ (h : ℕ). meaning d.nodes h v) (zero_at (length k.model.signals) s) ∙ meaning_zero d.nodes v

-- a store with the words of a phase, in which nothing was made
pub start_joined : (k : Comparison) (plans : List PhasePlan) (budget words : ℕ) (counts : WordCounts) (w : PhaseWords) (old d : Diagrams) (handles : List H)
    → IsOpened budget words counts.variables old → d ≡ record old { words = d.words } → counts ≡ counts_of k counts.variables → counts.variables ≡ length (sources_of k 0) → HasPhaseWords counts w d
    → IsFilled d w.roots → IsFilled d w.inputs → IsFilled d w.held → handles ≡ replicate (length k.model.signals) (record { 0 = 0 }) → AreJoinedIn k plans 0 d.budget w d handles
start_joined k plans budget words counts w old d handles opened rest is variables there roots inputs held nought =
    let vars : d.vars ≡ counts.variables = ap (λ (x : Diagrams). x.vars) rest ∙ opened.vars_is in
    let own : d.budget ≡ budget = ap (λ (x : Diagrams). x.budget) rest ∙ opened.budget_is in
    let count : length d.nodes ≡ 2 = ap (λ (x : Diagrams). length x.nodes) rest ∙ opened.count in
    record {
      made = 0;
      between = record {
        store = record {
          words = subst (λ (v : ℕ). HasPhaseWords (counts_of k v) w d) (sym vars) (subst (λ (c : WordCounts). HasPhaseWords c w d) is there);
          vars = omega (arith, vars, variables);
          used = used_none d.budget (length (sources_of k 0)) d refl count;
        };
        roots = roots;
        inputs = inputs;
        held = held;
      };
      within = λ work has. omega arith;
      joined = none_joined k handles d nought (omega (arith, count));
    }

-- ---- phases by their parts

module _ (p : Phases) (compared : CellComparison) (plans : List PhasePlan) (is : p.compared ≡ compared) (plans_are : p.plans.now ≡ plans) where
  pub joinable_of : (vars : Vars) → p.vars.now ≡ vars → IsReady (comparison_in compared) → IsWholeTable compared.circuit.now compared.wholes.drivers.now compared.wholes.plans.now
      → IsEqual (comparison_in compared) → HasOwnOutputs (comparison_in compared) → ((phase : ℕ) → vars.sources ≡ sources_of (comparison_in compared) phase)
      → ArePhasePlans (comparison_in compared) plans → IsJoinable p
  joinable_of vars vars_are ready wholes equal own sources planned = record {
    ready = subst (λ (c : CellComparison). IsReady (comparison_in c)) (sym is) ready;
    wholes = subst (λ (c : CellComparison). IsWholeTable c.circuit.now c.wholes.drivers.now c.wholes.plans.now) (sym is) wholes;
    equal = subst (λ (c : CellComparison). IsEqual (comparison_in c)) (sym is) equal;
    own = subst (λ (c : CellComparison). HasOwnOutputs (comparison_in c)) (sym is) own;
    vars = λ phase.
        subst (λ (c : CellComparison). p.vars.now.sources ≡ sources_of (comparison_in c) phase) (sym is) (ap (λ (v : Vars). v.sources) vars_are ∙ sources phase);
    plans_are =
        subst (λ (c : CellComparison). ArePhasePlans (comparison_in c) p.plans.now) (sym is)
        (subst (λ (ps : List PhasePlan). ArePhasePlans (comparison_in compared) ps) (sym plans_are) planned);
  }

  pub joined_of : (budget : ℕ) (w : PhaseWords) (d : Diagrams) (handles : List H) → p.words ≡ w → AreJoinedIn (comparison_in compared) plans 0 budget w d handles
      → AreJoinedIn (comparison_in p.compared) p.plans.now 0 budget p.words d handles
  joined_of budget w d handles words j =
      subst (λ (x : PhaseWords). AreJoinedIn (comparison_in p.compared) p.plans.now 0 budget x d handles) (sym words)
      (subst (λ (c : CellComparison). AreJoinedIn (comparison_in c) p.plans.now 0 budget w d handles) (sym is)
      (subst (λ (ps : List PhasePlan). AreJoinedIn (comparison_in compared) ps 0 budget w d handles) (sym plans_are) j))

  -- a refusal is handed on
  pub functions_refused : (budget other variables : ℕ) (w : PhaseWords) (d : Diagrams) (handles : List H) (stop : Stop) → other ≡ budget
      → PhasesGive (comparison_in p.compared) p.plans.now (length p.compared.rules.now.phases) other w d handles (Err stop)
      → FunctionsGive (comparison_in compared) plans budget variables (Err stop)
  functions_refused budget other variables w d handles stop same gives =
      by_stop stop
      (subst (λ (b : ℕ). PhasesGive (comparison_in compared) plans (length compared.rules.now.phases) b w d handles (Err stop)) same
      (subst (λ (ps : List PhasePlan). PhasesGive (comparison_in compared) ps (length compared.rules.now.phases) other w d handles (Err stop)) plans_are
      (subst (λ (c : CellComparison). PhasesGive (comparison_in c) p.plans.now (length c.rules.now.phases) other w d handles (Err stop)) is gives)))
    where
      by_stop : (s : Stop) → PhasesGive (comparison_in compared) plans (length compared.rules.now.phases) budget w d handles (Err s) → FunctionsGive (comparison_in compared) plans budget variables (Err s)
      by_stop IsSpent g = g
      by_stop NoMemory g = tt
