use Rattle.std.proofs.Common.{List, ℕ, ap, ◌∙◌}
use Rattle.std.specs.List.{list_any}
use Rattle.port_links.proofs.NamedLaws.{some_named}
use Rattle.port_links.specs.Named.{assumes_port, is_clock_line, passes_at}
use Rattle.vrt_model.specs.declared.rules.AssumeRule.{AssumeRule}
use Rattle.vrt_model.specs.declared.rules.ClockportRule.{ClockportRule}
use Rattle.port_links.proofs.named.is_named.Goals as goal

pub returns : goal.returns
returns c =
    let rules = c.args.rules.now in
    let phase = c.args.phase in
    let name = c.args.name.now in
    c.either.ensures
    ∙ some_named rules c.args.index.now c.args.cell.now phase name c.any_assumes-assumed.result c.any_clock-clocked.result c.requires.tables
    (c.any_assumes-assumed.ensures
    ∙ ap (λ (rs : List AssumeRule). list_any (passes_at (assumes_port phase name) rs) c.places-assumes.result.now) c.as_slice.ensures
    ∙ ap (λ (ps : List ℕ). list_any (passes_at (assumes_port phase name) rules.assumes) ps) c.places-assumes.ensures)
    (c.any_clock-clocked.ensures
    ∙ ap (λ (rs : List ClockportRule). list_any (passes_at (is_clock_line name) rs) c.places-clocks.result.now) c.as_slice-2.ensures
    ∙ ap (λ (ps : List ℕ). list_any (passes_at (is_clock_line name) rules.clockports) ps) c.places-clocks.ensures)
