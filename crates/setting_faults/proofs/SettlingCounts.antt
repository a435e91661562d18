-- The operations of the bare circuit and of the kept one together.
use Rattle.std.proofs.Common.{◌≡◌, ℕ, ◌+◌, List, Ok, Err, ap, arith, length, subst, ◌∙◌}
use Rattle.node_pool.specs.declared.region.Span.{Span}
use Rattle.bdd_core.specs.Store.{Adds, Diagrams}
use Rattle.bdd_core.specs.declared.handle.Spent.{Spent}
use Rattle.bdd_ops.proofs.CountingLaws.{counted_more, counted_then, counts_err, counts_more, counts_ok, counts_then}
use Rattle.bdd_ops.specs.Counting.{Counts, IsCounted, IsSpanWithin}
use Rattle.channel_parts.specs.declared.part.Part.{Part}
use Rattle.circuit_faults.proofs.PartStepLaws.{listed_operations}
use Rattle.circuit_faults.specs.Operations.{IsUsedUp, circuit_operations, kept_operations, steps_operations}
use Rattle.circuit_faults.specs.Steps.{InPhase, part_list}
use Rattle.path_fixpoint.specs.Spending.{Spends}
use Rattle.setting_faults.specs.Settling.{settling_operations}

module _ (w : InPhase) (kept : List Part) (all : w.steps ≡ part_list (length w.parts)) (gates : Span) (u : ℕ) (old mid : Diagrams) where
  abbrev bare_count : ℕ
  bare_count = circuit_operations w.circuit w.parts

  abbrev kept_count : ℕ
  kept_count = kept_operations w.circuit kept

  counted_first : {C : Type 0} (x : C) → Spends u (steps_operations w) gates old mid (Ok x) → IsCounted u bare_count old mid
  counted_first x first = subst (λ (n : ℕ). IsCounted u n old mid) (listed_operations w all) first.counts.added

  -- the bare circuit alone
  pub bare_found : {A B : Type 0} (x : A) (y : B) → Spends u (steps_operations w) gates old mid (Ok x) → Spends u (settling_operations w.circuit w.parts kept) gates old mid (Ok y)
  bare_found x y first = record {
    counts = counts_ok u (bare_count + kept_count) old mid y (counted_more u bare_count (bare_count + kept_count) old mid (omega arith) (counted_first x first));
    within = first.within;
  }

  pub bare_refused : {A B : Type 0} (e : Spent) → Spends {A = A} u (steps_operations w) gates old mid (Err e) → Spends {A = B} u (settling_operations w.circuit w.parts kept) gates old mid (Err e)
  bare_refused {A} e first =
      let counts : Counts {A = A} u bare_count old mid (Err e) = subst (λ (n : ℕ). Counts {A = A} u n old mid (Err e)) (listed_operations w all) first.counts in
      let more : Counts {A = A} u (bare_count + kept_count) old mid (Err e) = counts_more u bare_count (bare_count + kept_count) old mid (Err e) (omega arith) counts in
      record { counts = counts_err u (bare_count + kept_count) old mid e more; within = tt }

  -- and then the kept one
  pub kept_found : {A B C : Type 0} (new : Diagrams) (x : C) → Spends u (steps_operations w) gates old mid (Ok x) → (z : A) (y : B) → Counts u kept_count mid new (Ok z)
      → IsSpanWithin u new gates → Spends u (settling_operations w.circuit w.parts kept) gates old new (Ok y)
  kept_found new x first z y counts within = record {
    counts = counts_ok u (bare_count + kept_count) old new y (counted_then u bare_count kept_count old mid new (counted_first x first) counts.added);
    within = within;
  }

  pub kept_refused : {A B C : Type 0} (new : Diagrams) (x : C) → Spends u (steps_operations w) gates old mid (Ok x) → (e : Spent) → Counts {A = A} u kept_count mid new (Err e)
      → Spends {A = B} u (settling_operations w.circuit w.parts kept) gates old new (Err e)
  kept_refused {A} new x first e counts =
      let all_counts : Counts {A = A} u (bare_count + kept_count) old new (Err e) = counts_then u bare_count kept_count old mid new (Err e) (counted_first x first) counts in
      record { counts = counts_err u (bare_count + kept_count) old new e all_counts; within = tt }

-- a refusal of the second
pub used_later : (old mid new : Diagrams) (words : List ℕ) (e : Spent) → Adds old mid words → IsUsedUp mid new e → IsUsedUp old new e
used_later old mid new words e adds used = (let same : mid.budget ≡ old.budget = ap (λ (d : Diagrams). d.budget) adds.rest in (used.0 ∙ same, used.1 ∙ same))
