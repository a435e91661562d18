-- Where a constraint of an instance is broken, as a function; and how many operations it takes.
use Rattle.std.proofs.Common.{ℕ, ◌+◌, ◌*◌, ◌<◌, ◌≤◌, Bool, List, cond, false, Ok, Result, length, arith, ap, ◌∙◌}
use Rattle.std.specs.Prelude.{All}
use Rattle.std.specs.List.{list_all}
use Rattle.std.proofs.Math.Path.{fun_ext}
use Rattle.node_pool.specs.declared.region.Span.{Span}
use Rattle.bdd_core.proofs.Meaning.{meaning_zero}
use Rattle.bdd_core.specs.Diagram.{Function, IsWithin, choice, meaning}
use Rattle.bdd_core.specs.Store.{AddsNodes, Diagrams, IsLive, Makes, Means, function_of}
use Rattle.bdd_core.specs.declared.handle.H.{H}
use Rattle.bdd_core.specs.declared.handle.Spent.{Spent}
use Rattle.bdd_ops.proofs.CountingLaws.{counts_made, counts_more, counts_then}
use Rattle.bdd_ops.proofs.WithinLaws.{within_and, within_choice, within_same, within_zero}
use Rattle.bdd_ops.specs.Counting.{Counts, IsSpanWithin}
use Rattle.circuit_faults.proofs.CountLaws.{kept_within}
use Rattle.circuit_faults.specs.Results.{broken_of}
use Rattle.constraints.proofs.HandleLaws.{tied_within}
use Rattle.constraints.proofs.ObligedLaws.{assumes_within, clock_within}
use Rattle.constraints.specs.Evaluated.{AreWithin}
use Rattle.constraints.specs.Handles.{handle_tied}
use Rattle.constraints.specs.Obliged.{all_hold, assume_holds, clock_holds, obliged_at, phase_bits}
use Rattle.vrt_model.specs.Comparison.{cell_at}
use Rattle.vrt_model.specs.declared.circuit.FlatInstance.{FlatInstance}
use Rattle.vrt_model.specs.declared.design.Design.{Design}
use Rattle.vrt_model.specs.declared.ids.Net.{Net}
use Rattle.vrt_model.specs.declared.rules.ClockportRule.{ClockportRule}
use Rattle.vrt_model.specs.declared.rules.Rules.{Rules}

-- the function is made from that of the lines that hold
pub broken_made : (old mid new : Diagrams) (care : H) (f : Function) → AddsNodes old mid → IsLive old care → (held h : H) → Means mid held f
    → Means new h (choice (function_of mid held) (meaning mid.nodes 0) (function_of mid care)) → Means new h (broken_of (function_of old care) f)
broken_made old mid new care f adds live held h is m = record {
  live = m.live;
  same = λ v.
      m.same v
      ∙ ap (λ (x : Bool). cond x (meaning mid.nodes 0 v) (function_of mid care v)) (is.same v)
      ∙ ap (λ (x : Bool). cond (f v) x (function_of mid care v)) (meaning_zero mid.nodes v)
      ∙ ap (λ (x : Bool). cond (f v) false x) (adds.kept care.0 live v);
}

module _ (u : ℕ) where
  -- the lines read only the variables of their handles
  module _ (design : Design) (rules : Rules) (i : FlatInstance) (phase : ℕ) (values : Span) (d : Diagrams) (low : All (λ (net : Net). net.0 < values.len) i.ports) (reads : IsSpanWithin u d values) where
    abbrev cell : List ℕ
    cell = (cell_at design i.cell).name

    abbrev handle : List ℕ → ℕ
    handle = handle_tied d.words (cell_at design i.cell).ports i.ports values

    reads_ports : AreWithin u d handle
    reads_ports = tied_within d values u (cell_at design i.cell).ports i.ports low reads

    clocks_within : IsWithin u (all_hold (clock_holds d handle cell (phase_bits rules phase)) rules.clockports)
    clocks_within v x same =
        ap (λ (test : ClockportRule → Bool). list_all test rules.clockports) (fun_ext (λ rule. clock_within u d handle reads_ports cell (phase_bits rules phase) rule v x same))

    pub obliged_within : IsWithin u (obliged_at d design rules i phase values)
    obliged_within =
        within_and u (all_hold (assume_holds d handle cell phase) rules.assumes) (all_hold (clock_holds d handle cell (phase_bits rules phase)) rules.clockports)
        (assumes_within u d handle reads_ports cell phase rules.assumes) clocks_within

  pub broken_counts : (size : ℕ) (old mid new : Diagrams) (care : H) (f : Function) → AddsNodes old mid → IsLive old care → (held : H) → Means mid held f → (r : Result H Spent)
      → 2 ≤ length old.nodes → IsWithin u (function_of old care) → IsWithin u f → Counts {A = H} u (20 * size) old mid (Ok held)
      → Makes mid new (choice (function_of mid held) (meaning mid.nodes 0) (function_of mid care)) r → Counts u (20 * size + 2) old new r
  broken_counts size old mid new care f adds live held is r two care_in f_in first second =
      let longer = adds.longer in
      let made_mid : IsWithin u (function_of mid held) = within_same u f (function_of mid held) is.same f_in in
      let care_mid : IsWithin u (function_of mid care) = kept_within u old mid care adds live care_in in
      counts_more u (20 * size + 1) (20 * size + 2) old new r (omega arith)
      (counts_then u (20 * size) 1 old mid new r first.added
      (counts_made u mid new (omega (arith, two, longer)) (choice (function_of mid held) (meaning mid.nodes 0) (function_of mid care)) r second
      (within_choice u (function_of mid held) (meaning mid.nodes 0) (function_of mid care) made_mid (within_zero u mid) care_mid)))
