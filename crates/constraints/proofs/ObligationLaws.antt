-- The lines of an instance's cell, all together.
use Rattle.std.proofs.Common.{◌≡◌, ℕ, ◌+◌, ◌*◌, ◌<◌, ◌&&◌, Bool, List, Result, Ok, Err, ap, subst}
use Rattle.std.specs.Prelude.{All, sum_by}
use Rattle.node_pool.specs.declared.region.Span.{Span}
use Rattle.bdd_core.proofs.Frames.{gives_same}
use Rattle.bdd_core.proofs.Meaning.{meaning_one}
use Rattle.bdd_core.specs.Diagram.{Function, meaning}
use Rattle.bdd_core.specs.Store.{Diagrams, function_of, Gives}
use Rattle.bdd_core.specs.declared.handle.H.{H}
use Rattle.bdd_core.specs.declared.handle.Spent.{Spent}
use Rattle.bdd_ops.proofs.CountingLaws.{counts_more}
use Rattle.bdd_ops.proofs.WithinLaws.{within_one}
use Rattle.bdd_ops.specs.Counting.{Counts, IsSpanWithin}
use Rattle.vrt_model.specs.Comparison.{cell_at}
use Rattle.vrt_model.specs.declared.circuit.FlatInstance.{FlatInstance}
use Rattle.vrt_model.specs.declared.design.Design.{Design}
use Rattle.vrt_model.specs.declared.ids.Net.{Net}
use Rattle.vrt_model.specs.declared.rules.AssumeRule.{AssumeRule}
use Rattle.vrt_model.specs.declared.rules.ClockportRule.{ClockportRule}
use Rattle.vrt_model.specs.declared.rules.Rules.{Rules}
use Rattle.constraints.proofs.DiagramLaws.{adds_next}
use Rattle.constraints.proofs.HandleLaws.{tied_within}
use Rattle.constraints.proofs.ObligedLaws.{assumes_most, assumes_within, clocks_after, tests_most}
use Rattle.constraints.proofs.TestLaws.{tests_then}
use Rattle.constraints.specs.Evaluated.{AreLive, AreWithin}
use Rattle.constraints.specs.Handles.{handle_tied}
use Rattle.constraints.specs.Obliged.{AddsTest, all_hold, assume_holds, assume_operations, clock_holds, clock_operations, obligation_size, obliged_at, phase_bits}

-- the step of the assumptions, and that of the clocks behind it, by the lists that they went over
abbrev pub Assumed : Diagrams → Diagrams → Span → ℕ → Result H Spent → List (List ℕ) → List Net → List ℕ → List AssumeRule → Type 0
Assumed old mid values phase r ports nets cell assumes =
    AddsTest (handle_tied old.words ports nets values) (sum_by (assume_operations cell phase) assumes) (meaning old.nodes 1)
    (all_hold (assume_holds old (handle_tied old.words ports nets values) cell phase) assumes) old mid r

abbrev pub Clocked : Diagrams → Diagrams → Span → H → Result H Spent → List Bool → List (List ℕ) → List Net → List ℕ → List ClockportRule → Type 0
Clocked mid new values p r bits ports nets cell clockports =
    AddsTest (handle_tied mid.words ports nets values) (sum_by (clock_operations cell) clockports) (function_of mid p)
    (all_hold (clock_holds mid (handle_tied mid.words ports nets values) cell bits) clockports) mid new r

-- equal lists
pub moved : {A B C D : Type 0} (P : A → B → C → D → Type 0) (a a' : A) (b b' : B) (c c' : C) (d d' : D) → a ≡ a' → b ≡ b' → c ≡ c' → d ≡ d' → P a b c d → P a' b' c' d'
moved P a a' b b' c c' d d' e f g h x =
    subst (λ z. P a' b' c' z) h (subst (λ z. P a' b' z d) g (subst (λ z. P a' z c d) f (subst (λ z. P z b c d) e x)))

module _ (design : Design) (rules : Rules) (i : FlatInstance) (phase : ℕ) (values : Span) (old : Diagrams) (low : All (λ (net : Net). net.0 < values.len) i.ports) where
  reads_ports : (u : ℕ) → IsSpanWithin u old values → AreWithin u old (handle_tied old.words (cell_at design i.cell).ports i.ports values)
  reads_ports u reads = tied_within old values u (cell_at design i.cell).ports i.ports low reads

  -- the assumptions were refused
  pub first_counts : (mid : Diagrams) (s : Spent) → Assumed old mid values phase (Err s) (cell_at design i.cell).ports i.ports (cell_at design i.cell).name rules.assumes
      → (u : ℕ) → IsSpanWithin u old values → Counts {A = H} u (20 * obligation_size design rules i phase) old mid (Err s)
  first_counts mid s first u reads =
      counts_more u (sum_by (assume_operations (cell_at design i.cell).name phase) rules.assumes) (20 * obligation_size design rules i phase) old mid (Err s)
      (assumes_most rules (cell_at design i.cell).name phase) (first.counts u (reads_ports u reads) (within_one u old))

  module _ (mid new : Diagrams) (p : H) (r : Result H Spent) (live : AreLive old (handle_tied old.words (cell_at design i.cell).ports i.ports values))
      (first : Assumed old mid values phase (Ok p) (cell_at design i.cell).ports i.ports (cell_at design i.cell).name rules.assumes)
      (second : Clocked mid new values p r (phase_bits rules phase) (cell_at design i.cell).ports i.ports (cell_at design i.cell).name rules.clockports) where
    abbrev ports : List (List ℕ)
    ports = (cell_at design i.cell).ports

    abbrev cell : List ℕ
    cell = (cell_at design i.cell).name

    abbrev handle : List ℕ → ℕ
    handle = handle_tied old.words ports i.ports values

    abbrev assumes : Function
    assumes = all_hold (assume_holds old handle cell phase) rules.assumes

    abbrev clocks : Function
    clocks = all_hold (clock_holds old handle cell (phase_bits rules phase)) rules.clockports

    whole : AddsTest handle (sum_by (assume_operations cell phase) rules.assumes + sum_by (clock_operations cell) rules.clockports) (meaning old.nodes 1) (λ v. assumes v && clocks v) old new r
    whole =
        let middle : Function = λ v. meaning old.nodes 1 v && assumes v in
        tests_then handle old mid new (sum_by (assume_operations cell phase) rules.assumes) (sum_by (clock_operations cell) rules.clockports) (meaning old.nodes 1) assumes clocks
        (all_hold (clock_holds mid handle cell (phase_bits rules phase)) rules.clockports) p r live
        (clocks_after old mid middle (Ok p) first.gives handle live cell (phase_bits rules phase) rules.clockports) (λ u reads. assumes_within u old handle reads cell phase rules.assumes) first
        (adds_next old mid middle (Ok p) first.gives (λ (ws : List ℕ). handle_tied ws ports i.ports values) (sum_by (clock_operations cell) rules.clockports) (function_of mid p)
        (λ (h : List ℕ → ℕ). all_hold (clock_holds mid h cell (phase_bits rules phase)) rules.clockports) new r second)

    pub whole_gives : Gives old new (obliged_at old design rules i phase values) r
    whole_gives =
        gives_same old new (λ v. meaning old.nodes 1 v && (assumes v && clocks v)) (obliged_at old design rules i phase values) r
        (λ v. ap (λ (x : Bool). x && (assumes v && clocks v)) (meaning_one old.nodes v)) whole.gives

    pub whole_counts : (u : ℕ) → IsSpanWithin u old values → Counts u (20 * obligation_size design rules i phase) old new r
    whole_counts u reads =
        counts_more u (sum_by (assume_operations cell phase) rules.assumes + sum_by (clock_operations cell) rules.clockports) (20 * obligation_size design rules i phase) old new r
        (tests_most rules cell phase) (whole.counts u (reads_ports u reads) (within_one u old))
