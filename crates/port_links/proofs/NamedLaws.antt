-- The lines of a cell name a port exactly where those at the places of its lines do.
use Rattle.std.proofs.Common.{◌≡◌, ℕ, ◌&&◌, ◌||◌, Bool, true, false, List, refl, ◌∙◌}
use Rattle.std.specs.Prelude.{bytes_eq}
use Rattle.std.specs.List.{list_any}
pub use Rattle.constraints.proofs.NamedLaws.{one_named, two_named}
use Rattle.constraints.proofs.NamedLaws.{named_is}
use Rattle.constraints.specs.Obliged.{is_named_by, is_named_in}
use Rattle.port_links.specs.Named.{assumes_port, is_clock_line, passes_at}
use Rattle.rule_index.proofs.PlacedLaws.{any_placed}
use Rattle.rule_index.specs.Lines.{places_in}
use Rattle.rule_index.specs.Tables.{AreRuleTables}
use Rattle.rule_index.specs.declared.index.RuleIndex.{RuleIndex}
use Rattle.vrt_model.proofs.Lists.{any_same}
use Rattle.vrt_model.specs.CellRules.{is_for}
use Rattle.vrt_model.specs.Expressions.{names_in}
use Rattle.vrt_model.specs.Lists.{has_name}
use Rattle.vrt_model.specs.declared.rules.AssumeRule.{AssumeRule}
use Rattle.vrt_model.specs.declared.rules.ClockportRule.{ClockportRule}
use Rattle.vrt_model.specs.declared.rules.Rules.{Rules}

and_group : (a b d : Bool) → (a && (b && d)) ≡ ((a && b) && d)
and_group true b d = refl
and_group false b d = refl

pub some_named : (rules : Rules) (index : RuleIndex) (cell : List ℕ) (phase : ℕ) (name : List ℕ) (a b : Bool) → AreRuleTables rules index
    → a ≡ list_any (passes_at (assumes_port phase name) rules.assumes) (places_in index.lines.ports.assumes cell)
    → b ≡ list_any (passes_at (is_clock_line name) rules.clockports) (places_in index.lines.ports.clockports cell) → (a || b) ≡ is_named_in rules cell phase name
some_named rules index cell phase name a b tables e f =
    named_is rules cell phase name a b
    (e ∙ any_placed (λ (r : AssumeRule). r.cell) (assumes_port phase name) rules.assumes (places_in index.lines.ports.assumes cell) cell (tables.lines_are.ports.assumes cell)
    ∙ any_same (λ (r : AssumeRule). bytes_eq r.cell cell && assumes_port phase name r) (is_named_by cell phase name)
    (λ r. and_group (bytes_eq r.cell cell) (is_for r.phase phase) (has_name (names_in r.expression) name)) rules.assumes)
    (f ∙ any_placed (λ (r : ClockportRule). r.cell) (is_clock_line name) rules.clockports (places_in index.lines.ports.clockports cell) cell (tables.lines_are.ports.clockports cell))
