use Rattle.std.proofs.Common.{ap, ◌++◌, ◌∙◌}
use Rattle.std.specs.Prelude.{filter_map}
use Rattle.vrt_model.specs.declared.rules.AssumeRule.{AssumeRule}
use Rattle.vrt_model.specs.declared.rules.EnterRule.{EnterRule}
use Rattle.vrt_model.specs.declared.rules.ObserveRule.{ObserveRule}
use Rattle.hierarchy.specs.Names.{earliest, line_of, missing_assumed, missing_by, missing_held, names_between}
use Rattle.hierarchy.specs.declared.sets.Kind.{Kind}
use Rattle.line_laws.proofs.LineLaws.{one_joined}
use Rattle.hierarchy.proofs.missing_names.last_name.Goals as goal

pub returns : goal.returns
returns c =
    let tables = c.args.tables.now in
    let rules = c.args.rules.now in
    let enters = filter_map (λ (r : EnterRule). missing_held tables r.line r.cell r.net) in
    let observes = filter_map (λ (r : ObserveRule). missing_by tables Kind.Ports r.line r.cell r.port) in
    let assumes = filter_map (λ (r : AssumeRule). missing_assumed tables r.line r.cell r.expression) in
    let p0 = c.enter_names.ensures ∙ ap (λ rs. earliest (enters rs)) c.as_slice.ensures in
    let p1 = c.observe_names.ensures ∙ ap (λ rs. earliest (observes rs)) c.as_slice-2.ensures in
    let p2 = c.assume_names.ensures ∙ ap (λ rs. earliest (assumes rs)) c.as_slice-3.ensures in
    let q0 = one_joined line_of _ _ _ (names_between tables rules) (enters rules.enters) c.next_name-first.ensures p0 c.earlier-first.ensures in
    let q1 = one_joined line_of _ _ _ (names_between tables rules ++ enters rules.enters) (observes rules.observes) q0 p1 c.earlier-first-2.ensures in
    one_joined line_of _ _ _ (names_between tables rules ++ enters rules.enters ++ observes rules.observes) (assumes rules.assumes) q1 p2 c.earlier.ensures
