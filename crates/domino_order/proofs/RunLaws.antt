-- A run over a port: its words, its operations, and what it finds.
use Rattle.std.proofs.Common.{◌≡◌, ℕ, ◌+◌, ◌*◌, ◌^◌, ◌<◌, ◌≤◌, Bool, true, false, List, Err, ap, arith, length, subst, ◌∙◌, inl, inr}
use Rattle.std.proofs.Math.Nat.{mul-le-mul_left, mul-le-mul_right, add-mul, mul_comm}
use Rattle.std.proofs.Math.Pow.{pow_mono}
use Rattle.std.proofs.lemmas.Bool.{cases_lt}
use Rattle.std.proofs.lemmas.List.FromFn.{get_or-map-range_with_len, length-map-range_with_len}
use Rattle.node_pool.specs.declared.region.Span.{Span}
use Rattle.bdd_core.proofs.Frames.{word_added}
use Rattle.bdd_core.specs.Diagram.{Function, TestsWithin, meaning}
use Rattle.bdd_core.specs.Store.{AddsNodes, Diagrams}
use Rattle.bdd_core.specs.Words.{IsFilled, word_at}
use Rattle.bdd_core.specs.declared.handle.Spent.{Spent}
use Rattle.bdd_ops.specs.Counting.{Counts}
use Rattle.bdd_ops.specs.Ops.{IsLeast, bits_in, bits_of}
use Rattle.domino_order.proofs.StepFound.{gives_stay}
use Rattle.domino_order.proofs.StepFrames.{words_there}
use Rattle.domino_order.specs.Runs.{MayPass, asked_variables, bits_there, phase_variables}
use Rattle.domino_order.specs.StepSettings.{GivesSettings}
use Rattle.domino_order.specs.StepWords.{HasStepHandles, StaysFilled}
use Rattle.domino_order.specs.declared.prepared.Asked.{Asked}
use Rattle.domino_order.specs.declared.step.StepWords.{StepWords}
use Rattle.phase_check.proofs.Ends.{adds_now, words_now}
use Rattle.phase_terms.specs.Found.{MaySpend}
use Rattle.phase_terms.specs.Stores.{IsUsed}
use Rattle.vrt_model.specs.Comparison.{Comparison}
use Rattle.vrt_model.specs.Held.{sources_of}
use Rattle.vrt_model.specs.State.{Setting}
use Rattle.vrt_model.specs.declared.circuit.Circuit.{Circuit}

-- ---- operations

-- a refusal
pub used_passes : {A : Type 0} (budget u a b most : ℕ) (old new : Diagrams) (e : Spent) → IsUsed budget u a old → 65536 ≤ budget → a + b ≤ most → Counts {A = A} u b old new (Err e) → MayPass u budget most
used_passes budget u a b most old new e used least within counts = record {
  many = elim (cases_lt 4 u) [ inl lt ↦ lt | inr ge ↦ absurd (too_few ge) ];
  passed =
      let power : ℕ = 2 ^ u in
      let budget_is = used.budget_is in
      let before = used.few in
      let passed = counts.refused.passed in
      let sums = add-mul a b power in
      let product : (a + b) * power ≤ most * power = mul-le-mul_right {m = a + b} {n = most} power within in
      let turned = mul_comm most power in omega (arith, budget_is, before, passed, sums, product, turned);
}
  where
    few_tests : u ≤ 4 → TestsWithin 4 old.nodes
    few_tests few i high below = (let low = used.within i high below in omega (arith, low, few))

    too_few : u ≤ 4 → ⊥
    too_few few = (let budget_is = used.budget_is in let less = counts.refused.few_variables few (few_tests few) in omega (arith, less, budget_is, least))

-- a refusal while the phase was opened
pub opened_passes : (k : Comparison) (phase budget u a most : ℕ) → length (sources_of k phase) ≤ u → a ≤ most → MaySpend k budget phase a → MayPass u budget most
opened_passes k phase budget u a most le more spends = record {
  many = (let many = spends.many in omega (arith, many, le));
  passed =
      let v : ℕ = length (sources_of k phase) in
      let passed = spends.passed in
      let power = pow_mono {i = v} {j = u} le in
      let wider : 2 ^ v * a ≤ 2 ^ u * a = mul-le-mul_right {m = 2 ^ v} {n = 2 ^ u} a power in
      let longer : 2 ^ u * a ≤ 2 ^ u * most = mul-le-mul_left {m = a} {n = most} (2 ^ u) more in omega (arith, passed, wider, longer);
}

-- ---- nodes alone were added

pub stays_added : (span : Span) (old new : Diagrams) → AddsNodes old new → IsFilled old span → StaysFilled span old new
stays_added span old new adds filled = record {
  live = λ n lt. (let same = word_added span old new n adds in let live = filled n lt in omega (arith, same, live, adds.longer));
  shown = λ n v lt. ap (λ (h : ℕ). meaning new.nodes h v) (word_added span old new n adds) ∙ adds.kept (word_at old span n) (filled n lt) v;
}

pub handles_added : (circuit : Circuit) (w : StepWords) (old new : Diagrams) → AddsNodes old new → HasStepHandles circuit w old → HasStepHandles circuit w new
handles_added circuit w old new adds h = record {
  words = words_there circuit w old new (adds_now old new adds) (words_now old new adds) h.words;
  given = (stays_added w.given old new adds h.given).live;
  setting = (stays_added w.setting old new adds h.setting).live;
  rose = (stays_added w.rose old new adds h.rose).live;
  together = (stays_added w.together old new adds h.together).live;
}

pub gives_added : (k : Comparison) (phase : ℕ) (nets : List ℕ) (n : ℕ) (settings : List Bool → Setting) (roots : Span) (old new : Diagrams) → roots.len ≡ length k.circuit.nets → AddsNodes old new
    → IsFilled old roots → GivesSettings k phase nets n settings roots old → GivesSettings k phase nets n settings roots new
gives_added k phase nets n settings roots old new len adds filled gives = gives_stay k phase nets n settings roots old new len (stays_added roots old new adds filled) gives

-- ---- the bits in words

-- a list of bits for all variables has those of a valuation
index_in : (d : Diagrams) (words : Span) (x : ℕ) → x < words.len → bits_of (bits_there d words) x ≡ bits_in d.words words.start x
index_in d words x lt = get_or-map-range_with_len (bits_in d.words words.start) 0 words.len x x false lt (omega arith)

pub there_len : (d : Diagrams) (words : Span) → length (bits_there d words) ≡ words.len
there_len d words = length-map-range_with_len (bits_in d.words words.start) 0 words.len

-- at the least valuation of a function that stands in words the function is 1
pub least_holds : (d : Diagrams) (words : Span) (f : Function) → IsLeast words.len f (bits_in d.words words.start) → f (bits_of (bits_there d words)) ≡ true
least_holds d words f least = least.holds (bits_of (bits_there d words)) (λ y lt. index_in d words y lt)

-- ---- refusals

-- of more variables
pub passes_wider : (v u budget most : ℕ) → v ≤ u → MayPass v budget most → MayPass u budget most
passes_wider v u budget most le passes = record {
  many = (let many = passes.many in omega (arith, many, le));
  passed =
      let passed = passes.passed in
      let power = pow_mono {i = v} {j = u} le in
      let wider : 2 ^ v * most ≤ 2 ^ u * most = mul-le-mul_right {m = 2 ^ v} {n = 2 ^ u} most power in omega (arith, passed, wider);
}

-- after some operations in a store with the variables of the phase, of others
pub asked_passes : {A : Type 0} (s : Asked) (a b most budget : ℕ) (old new : Diagrams) (e : Spent) → old.vars ≡ phase_variables s → old.budget ≡ budget → IsUsed old.budget old.vars a old → 65536 ≤ old.budget → a + b ≤ most
    → Counts {A = A} old.vars b old new (Err e) → MayPass (asked_variables s) budget most
asked_passes {A} s a b most budget old new e vars same used least within counts =
    let here = used_passes {A = A} old.budget old.vars a b most old new e used least within counts in
    let few : old.vars ≤ asked_variables s = omega (arith, vars) in
    subst (λ (x : ℕ). MayPass (asked_variables s) x most) same (passes_wider old.vars (asked_variables s) old.budget most few here)
