use Rattle.std.proofs.Common.{ap, ◌++◌, ◌∙◌}
use Rattle.std.specs.Prelude.{filter_map}
use Rattle.vrt_model.specs.declared.rules.HoldRule.{HoldRule}
use Rattle.vrt_model.specs.declared.rules.InstanceMatchRule.{InstanceMatchRule}
use Rattle.vrt_model.specs.declared.rules.KeeperRule.{KeeperRule}
use Rattle.vrt_model.specs.declared.rules.MatchRule.{MatchRule}
use Rattle.hierarchy.specs.Names.{earliest, line_of, missing_by, missing_held, names_before}
use Rattle.hierarchy.specs.declared.sets.Kind.{Kind}
use Rattle.line_laws.proofs.LineLaws.{one_joined}
use Rattle.hierarchy.proofs.missing_names.next_name.Goals as goal

pub returns : goal.returns
returns c =
    let tables = c.args.tables.now in
    let rules = c.args.rules.now in
    let holds = filter_map (λ (r : HoldRule). missing_by tables Kind.Nets r.line r.cell r.net) in
    let keepers = filter_map (λ (r : KeeperRule). missing_by tables Kind.Devices r.line r.cell r.device) in
    let matches = filter_map (λ (r : MatchRule). missing_held tables r.line r.cell r.net) in
    let instance_matches = filter_map (λ (r : InstanceMatchRule). missing_by tables Kind.Instances r.line r.cell r.instance) in
    let p0 = c.hold_names.ensures ∙ ap (λ rs. earliest (holds rs)) c.as_slice.ensures in
    let p1 = c.keeper_names.ensures ∙ ap (λ rs. earliest (keepers rs)) c.as_slice-2.ensures in
    let p2 = c.match_names.ensures ∙ ap (λ rs. earliest (matches rs)) c.as_slice-3.ensures in
    let p3 = c.instance_match_names.ensures ∙ ap (λ rs. earliest (instance_matches rs)) c.as_slice-4.ensures in
    let q0 = one_joined line_of _ _ _ (names_before tables rules) (holds rules.holds) c.first_name-first.ensures p0 c.earlier-first.ensures in
    let q1 = one_joined line_of _ _ _ (names_before tables rules ++ holds rules.holds) (keepers rules.keepers) q0 p1 c.earlier-first-2.ensures in
    let q2 = one_joined line_of _ _ _ (names_before tables rules ++ holds rules.holds ++ keepers rules.keepers) (matches rules.matches) q1 p2 c.earlier-first-3.ensures in
    one_joined line_of _ _ _ (names_before tables rules ++ holds rules.holds ++ keepers rules.keepers ++ matches rules.matches) (instance_matches rules.instance_matches) q2 p3 c.earlier.ensures
