-- The care set from what is assumed and what enters.
use Rattle.std.proofs.Common.{◌≡◌, ℕ, ◌+◌, ◌*◌, ◌≤◌, ◌&&◌, Bool, List, Result, Ok, Err, length, arith, ap, ap₂, subst, ◌∙◌}
use Rattle.std.specs.Prelude.{sum_by}
use Rattle.node_pool.specs.declared.region.Span.{Span}
use Rattle.bdd_core.proofs.Meaning.{meaning_one}
use Rattle.bdd_core.specs.Diagram.{Function, IsWithin, meaning}
use Rattle.bdd_core.specs.Store.{Diagrams, Gives, function_of}
use Rattle.bdd_core.specs.declared.handle.H.{H}
use Rattle.bdd_core.specs.declared.handle.Spent.{Spent}
use Rattle.bdd_ops.proofs.CountingLaws.{counts_more, counts_then}
use Rattle.bdd_ops.proofs.WithinLaws.{within_and, within_one, within_same}
use Rattle.bdd_ops.specs.Counting.{Counts, IsSpanWithin}
use Rattle.bdd_core.proofs.Frames.{gives_next}
use Rattle.hold_groups.specs.Grouped.{AreGroups}
use Rattle.hold_keep.specs.Rooted.{bits_at, members_in}
use Rattle.vrt_model.specs.Comparison.{cell_at}
use Rattle.vrt_model.specs.declared.circuit.Circuit.{Circuit}
use Rattle.vrt_model.specs.declared.design.Design.{Design}
use Rattle.vrt_model.specs.declared.groups.Group.{Group as HoldGroup}
use Rattle.vrt_model.specs.declared.groups.Source.{Source}
use Rattle.vrt_model.specs.declared.rules.AssumeRule.{AssumeRule}
use Rattle.vrt_model.specs.declared.rules.Rules.{Rules}
use Rattle.constraints.proofs.AssumeLaws.{assumes_are}
use Rattle.constraints.proofs.EnterLaws.{enters_same}
use Rattle.constraints.proofs.HandleLaws.{given_within}
use Rattle.constraints.proofs.ObligationLaws.{moved}
use Rattle.constraints.proofs.ObligedLaws.{assumes_few, assumes_within}
use Rattle.constraints.specs.Cared.{AddsHeld, HasInputs, assumed_size, groups_meet, meets_by}
use Rattle.constraints.specs.Evaluated.{AreWithin}
use Rattle.constraints.specs.Handles.{handle_given}
use Rattle.constraints.specs.Obliged.{AddsTest, all_hold, assume_holds, assume_operations, phase_bits}

-- the step of the assumptions by the lists that it went over
module _ (design : Design) (rules : Rules) (cell : ℕ) (c : Circuit) (phase : ℕ) (roots : Span) (old mid : Diagrams) (r : Result H Spent) where
  abbrev AssumedBy : List (List ℕ) → List Bool → List ℕ → List AssumeRule → Type 0
  AssumedBy ports bits name lines =
      AddsTest (handle_given old.words c rules ports bits roots) (sum_by (assume_operations name phase) lines) (meaning old.nodes 1)
      (all_hold (assume_holds old (handle_given old.words c rules ports bits roots) name phase) lines) old mid r

  pub taken : (ports : List (List ℕ)) (bits : List Bool) (name : List ℕ) (lines : List AssumeRule) → ports ≡ (cell_at design cell).ports → bits ≡ phase_bits rules phase → name ≡ (cell_at design cell).name
      → lines ≡ rules.assumes → AssumedBy ports bits name lines → AssumedBy (cell_at design cell).ports (phase_bits rules phase) (cell_at design cell).name rules.assumes
  taken ports bits name lines =
      moved AssumedBy ports (cell_at design cell).ports bits (phase_bits rules phase) name (cell_at design cell).name lines rules.assumes

-- the step of the holds by the lists that it went over
pub entered : (c : Circuit) (phase : ℕ) (mid new : Diagrams) (p : H) (r : Result H Spent) (ss sources : List Source) (gs groups : List HoldGroup) → ss ≡ sources → gs ≡ groups
    → AddsHeld ss (3 * members_in gs) (function_of mid p) (λ bits. groups_meet c phase ss bits 0 gs) mid new r
    → AddsHeld sources (3 * members_in groups) (function_of mid p) (λ bits. groups_meet c phase sources bits 0 groups) mid new r
entered c phase mid new p r ss sources gs groups same_sources same_groups step =
    subst (λ (xs : List HoldGroup). AddsHeld sources (3 * members_in xs) (function_of mid p) (λ bits. groups_meet c phase sources bits 0 xs) mid new r) same_groups
    (subst (λ (xs : List Source). AddsHeld xs (3 * members_in gs) (function_of mid p) (λ bits. groups_meet c phase xs bits 0 gs) mid new r) same_sources step)

module _ (design : Design) (rules : Rules) (cell : ℕ) (c : Circuit) (groups : List HoldGroup) (sources : List Source) (phase : ℕ) (roots : Span) (old : Diagrams) (len : roots.len ≡ length c.nets)
    (are : AreGroups c groups) where
  abbrev name : List ℕ
  name = (cell_at design cell).name

  abbrev handle : List ℕ → ℕ
  handle = handle_given old.words c rules (cell_at design cell).ports (phase_bits rules phase) roots

  abbrev assumes : Function
  assumes = all_hold (assume_holds old handle name phase) rules.assumes

  abbrev enters : List Bool → Bool
  enters bits = groups_meet c phase sources bits 0 groups

  -- the step of the assumptions
  abbrev pub Assumed : Diagrams → Result H Spent → Type 0
  Assumed mid r = AddsTest handle (sum_by (assume_operations name phase) rules.assumes) (meaning old.nodes 1) assumes old mid r

  reads : (u : ℕ) → IsSpanWithin u old roots → AreWithin u old handle
  reads u within = given_within old roots u c rules (cell_at design cell).ports (phase_bits rules phase) len within

  few : sum_by (assume_operations name phase) rules.assumes + 3 * members_in groups ≤ 20 * (assumed_size rules name phase + length c.holds)
  few = let assumed = assumes_few name phase rules.assumes in let held = are.count in omega (arith, assumed, held)

  pub care_refused : (mid : Diagrams) (e : Spent) → Assumed mid (Err e) → (u : ℕ) → length sources ≤ u → IsSpanWithin u old roots
      → Counts {A = H} u (20 * (assumed_size rules name phase + length c.holds)) old mid (Err e)
  care_refused mid e first u most within =
      counts_more u (sum_by (assume_operations name phase) rules.assumes) (20 * (assumed_size rules name phase + length c.holds)) old mid (Err e)
      (let both = few in omega (arith, both)) (first.counts u (reads u within) (within_one u old))

  module _ (mid new : Diagrams) (p : H) (r : Result H Spent) (first : Assumed mid (Ok p)) (second : AddsHeld sources (3 * members_in groups) (function_of mid p) enters mid new r) where
    pub care_gives : HasInputs c sources old roots → Gives old new (λ v. meets_by design rules cell c groups sources phase (bits_at sources v)) r
    care_gives inputs =
        gives_next old mid new (λ v. meaning old.nodes 1 v && assumes v) (λ v. function_of mid p v && enters (bits_at sources v)) (λ v. meets_by design rules cell c groups sources phase (bits_at sources v)) p r
        first.gives second.gives
        (λ v.
        ap (λ (t : Bool). t && enters (bits_at sources v)) (first.gives.ok.same v)
        ∙ ap (λ (t : Bool). (t && assumes v) && enters (bits_at sources v)) (meaning_one old.nodes v)
        ∙ ap₂ (λ (s t : Bool). s && t) (assumes_are old c rules sources phase roots inputs v design cell) (enters_same c phase sources (bits_at sources v) groups are))

    pub care_counts : (u : ℕ) → length sources ≤ u → IsSpanWithin u old roots → Counts u (20 * (assumed_size rules name phase + length c.holds)) old new r
    care_counts u most within =
        let start : IsWithin u (function_of mid p) =
        within_same u (λ v. meaning old.nodes 1 v && assumes v) (function_of mid p) first.gives.ok.same
        (within_and u (meaning old.nodes 1) assumes (within_one u old) (assumes_within u old handle (reads u within) name phase rules.assumes)) in
        counts_more u (sum_by (assume_operations name phase) rules.assumes + 3 * members_in groups) (20 * (assumed_size rules name phase + length c.holds)) old new r few
        (counts_then u (sum_by (assume_operations name phase) rules.assumes) (3 * members_in groups) old mid new r (first.counts u (reads u within) (within_one u old)).added (second.counts u most start))
