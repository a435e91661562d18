-- What a store has after operations of a phase, and what a refusal of some of them says; the room of its parts.
use Rattle.std.proofs.Common.{◌≡◌, ℕ, ◌+◌, ◌*◌, ◌^◌, ◌<◌, ◌≤◌, Err, List, length, arith, true, false, ap, sym, subst, ◌∙◌, inl, inr}
use Rattle.std.proofs.Math.Nat.{add-mul, mul-le-mul_right, mul_comm}
use Rattle.std.proofs.lemmas.Bool.{cases_lt}
use Rattle.node_pool.specs.declared.region.Node.{Node}
use Rattle.node_pool.specs.declared.region.Span.{Span}
use Rattle.bdd_core.proofs.Bound.{within_place}
use Rattle.bdd_core.proofs.Steps.{top-append}
use Rattle.bdd_core.specs.Diagram.{IsReduced, IsWithin, TestsWithin, top}
use Rattle.bdd_core.specs.Store.{Diagrams, IsLive, function_of}
use Rattle.bdd_core.specs.Words.{IsFilled, word_at}
use Rattle.bdd_core.specs.declared.handle.H.{H}
use Rattle.bdd_core.specs.declared.handle.Spent.{Spent}
use Rattle.bdd_ops.specs.Counting.{Counts, IsCounted, IsSpanWithin, IsSpentBy}
use Rattle.channel_parts.specs.declared.part.Part.{Part}
use Rattle.phase_laws.proofs.PartSums.{part_room}
use Rattle.phase_terms.specs.Found.{MaySpend}
use Rattle.phase_terms.specs.Plans.{IsPhasePlan}
use Rattle.phase_terms.specs.Ready.{IsReady}
use Rattle.phase_terms.specs.Stores.{IsUsed}
use Rattle.phase_terms.specs.declared.plan.PhasePlan.{PhasePlan}
use Rattle.vrt_model.specs.Comparison.{Comparison, phase_at}
use Rattle.vrt_model.specs.Held.{sources_of}
use Rattle.vrt_model.specs.Lists.{Among}
use Rattle.vrt_model.specs.declared.rules.Phase.{Phase}

module _ (k : Comparison) (phase : ℕ) (plan : PhasePlan) (ready : IsReady k) (is : IsPhasePlan k phase plan) where
  abbrev at : Phase
  at = phase_at k.rules phase

  -- each part has at most as many nets as the circuit
  pub bare_room : (part : Part) → Among plan.parts.list part → length part.nets ≤ length k.circuit.nets
  bare_room part m = part_room k.circuit at true is.parts.0 plan.parts is.parts.1 part m

  pub kept_room : (part : Part) → Among plan.kept.list part → length part.nets ≤ length k.circuit.nets
  kept_room part m = part_room k.circuit at false (λ n. 0) plan.kept is.kept part m

-- ---- operation after operation

-- the nodes that are there and those that were added test only the first u variables
tests_more : (u b : ℕ) (old new : Diagrams) → IsCounted u b old new → TestsWithin u old.nodes → TestsWithin u new.nodes
tests_more u b old new s tests i high within = elim (cases_lt i (length old.nodes)) [
  | inl low ↦
      let same : top new.nodes i ≡ top old.nodes i = ap (λ (ns : List Node). top ns i) s.is ∙ top-append old.nodes s.more i low in
      let before = tests i high low in
      omega (arith, same, before)
  | inr added ↦ s.early i added within
]

-- further operations
pub used_more : (budget u a b : ℕ) (old new : Diagrams) → IsUsed budget u a old → IsCounted u b old new → IsUsed budget u (a + b) new
used_more budget u a b old new used counted = record {
  budget_is = counted.budget ∙ used.budget_is;
  few =
      let before = used.few in
      let added = counted.few in
      let sums = add-mul a b (2 ^ u) in
      omega (arith, before, added, sums);
  within = tests_more u b old new counted used.within;
}

-- words were written
pub used_words : (budget u a : ℕ) (old new : Diagrams) → new ≡ record old { words = new.words } → IsUsed budget u a old → IsUsed budget u a new
used_words budget u a old new rest used = record {
  budget_is = ap (λ (d : Diagrams). d.budget) rest ∙ used.budget_is;
  few = subst (λ (d : Diagrams). length d.nodes ≤ 2 + a * 2 ^ u) (sym rest) used.few;
  within = subst (λ (d : Diagrams). TestsWithin u d.nodes) (sym rest) used.within;
}

-- a store with the two ends alone
pub used_none : (budget u : ℕ) (d : Diagrams) → d.budget ≡ budget → length d.nodes ≡ 2 → IsUsed budget u 0 d
used_none budget u d same count = record {
  budget_is = same;
  few = omega (arith, count);
  within = λ i high below. absurd (omega (arith, count, high, below));
}

-- a bound on operations may be greater
pub used_within : (budget u a b : ℕ) (d : Diagrams) → a ≤ b → IsUsed budget u a d → IsUsed budget u b d
used_within budget u a b d le used = record {
  budget_is = used.budget_is;
  few = (let before = used.few in let more = mul-le-mul_right {m = a} {n = b} (2 ^ u) le in omega (arith, before, more));
  within = used.within;
}

-- a refusal of some of the operations of a phase
pub may_spend : {A : Type 0} (k : Comparison) (phase budget u a b most : ℕ) (old new : Diagrams) (e : Spent) → IsUsed budget u a old → u ≡ length (sources_of k phase) → 65536 ≤ budget
    → a + b ≤ most → Counts {A = A} u b old new (Err e) → MaySpend k budget phase most × (length new.nodes ≡ budget)
may_spend k phase budget u a b most old new e used vars least within counts = (spent_of counts.refused, full counts.refused)
  where
    few_tests : u ≤ 4 → TestsWithin 4 old.nodes
    few_tests few i high below = let low = used.within i high below in omega (arith, low, few)

    full : IsSpentBy u b old new e → length new.nodes ≡ budget
    full s = let number = s.full in let budget_is = used.budget_is in omega (arith, number, budget_is)

    spent_of : IsSpentBy u b old new e → MaySpend k budget phase most
    spent_of s = record {
      many = elim (cases_lt 4 (length (sources_of k phase))) [
        | inl lt ↦ lt
        | inr ge ↦ absurd (
            let few : u ≤ 4 = omega (arith, ge, vars) in
            let budget_is = used.budget_is in
            let less = s.few_variables few (few_tests few) in
            omega (arith, less, budget_is, least)
            )
      ];
      passed =
          let power : ℕ = 2 ^ u in
          let budget_is = used.budget_is in
          let before = used.few in
          let passed = s.passed in
          let sums = add-mul a b power in
          let product : (a + b) * power ≤ most * power = mul-le-mul_right {m = a + b} {n = most} power within in
          let turned = mul_comm most power in
          let all : budget < 2 + 2 ^ u * most = omega (arith, budget_is, before, passed, sums, product, turned) in
          subst (λ (v : ℕ). budget < 2 + 2 ^ v * most) vars all;
    }

-- ---- what handles read

-- each live handle reads only the first u variables
pub live_within : (budget u a : ℕ) (d : Diagrams) (h : H) → IsUsed budget u a d → IsReduced d.vars d.nodes → IsLive d h → IsWithin u (function_of d h)
live_within budget u a d h used sound live = within_place d.vars u d.nodes h.0 sound used.within live

-- and so do all of a span that is filled with live handles
pub filled_within : (budget u a : ℕ) (d : Diagrams) (span : Span) → IsUsed budget u a d → IsReduced d.vars d.nodes → IsFilled d span → IsSpanWithin u d span
filled_within budget u a d span used sound live k lt = within_place d.vars u d.nodes (word_at d span k) sound used.within (live k lt)
