use Rattle.std.proofs.Common.{ap, ◌++◌, ◌∙◌}
use Rattle.std.specs.Prelude.{filter_map}
use Rattle.vrt_model.specs.declared.rules.ClockportRule.{ClockportRule}
use Rattle.vrt_model.specs.declared.rules.PairRule.{PairRule}
use Rattle.vrt_model.specs.declared.rules.PortRule.{PortRule}
use Rattle.vrt_model.specs.declared.rules.StrengthRule.{StrengthRule}
use Rattle.hierarchy.specs.Names.{earliest, line_of, missing_by, missing_cell}
use Rattle.hierarchy.specs.declared.sets.Kind.{Kind}
use Rattle.line_laws.proofs.LineLaws.{one_joined}
use Rattle.hierarchy.proofs.missing_names.first_name.Goals as goal

pub returns : goal.returns
returns c =
    let tables = c.args.tables.now in
    let rules = c.args.rules.now in
    let strengths = filter_map (λ (r : StrengthRule). missing_by tables Kind.Devices r.line r.cell r.device) in
    let clockports = filter_map (λ (r : ClockportRule). missing_by tables Kind.Ports r.line r.cell r.port) in
    let pairs = filter_map (λ (r : PairRule). missing_cell tables r.line r.cell) in
    let ports = filter_map (λ (r : PortRule). missing_by tables Kind.Ports r.line r.cell r.port) in
    let p0 = c.strength_names-first.ensures ∙ ap (λ rs. earliest (strengths rs)) c.as_slice.ensures in
    let p1 = c.clockport_names.ensures ∙ ap (λ rs. earliest (clockports rs)) c.as_slice-2.ensures in
    let p2 = c.pair_names.ensures ∙ ap (λ rs. earliest (pairs rs)) c.as_slice-3.ensures in
    let p3 = c.port_names.ensures ∙ ap (λ rs. earliest (ports rs)) c.as_slice-4.ensures in
    let q1 = one_joined line_of _ _ _ (strengths rules.strengths) (clockports rules.clockports) p0 p1 c.earlier-first.ensures in
    let q2 = one_joined line_of _ _ _ (strengths rules.strengths ++ clockports rules.clockports) (pairs rules.pairs) q1 p2 c.earlier-first-2.ensures in
    one_joined line_of _ _ _ (strengths rules.strengths ++ clockports rules.clockports ++ pairs rules.pairs) (ports rules.ports) q2 p3 c.earlier.ensures
