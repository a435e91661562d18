use Rattle.std.proofs.Common.{List, ap, ◌∙◌}
use Rattle.std.specs.Prelude.{filter_map}
use Rattle.vrt_model.specs.declared.rules.InstanceMatchRule.{InstanceMatchRule}
use Rattle.vrt_model.specs.declared.rules.MatchRule.{MatchRule}
use Rattle.hold_groups.proofs.LineLaws.{both_lines}
use Rattle.hold_groups.specs.Steps.{earliest, instance_line, line_in, net_line}
use Rattle.hold_groups.proofs.unmatched.line_without.Goals as goal

pub returns-in-Some : goal.returns-in-Some
returns-in-Some c =
    both_lines c.args.elements.now.list c.args.rules.now c.args.cell.now (line_in c.net_line-net.result) (line_in c.instance_line-instance.result) _
    (c.net_line-net.ensures ∙ ap (λ (rules : List MatchRule). earliest (filter_map (net_line c.args.elements.now.list c.args.cell.now) rules)) c.as_slice.ensures)
    (c.instance_line-instance.ensures ∙ ap (λ (rules : List InstanceMatchRule). earliest (filter_map (instance_line c.args.elements.now.list c.args.cell.now) rules)) c.as_slice-2.ensures)
    c.in-Some.ensures

pub returns-in-None : goal.returns-in-None
returns-in-None c =
    both_lines c.args.elements.now.list c.args.rules.now c.args.cell.now (line_in c.net_line-net.result) (line_in c.instance_line-instance.result) _
    (c.net_line-net.ensures ∙ ap (λ (rules : List MatchRule). earliest (filter_map (net_line c.args.elements.now.list c.args.cell.now) rules)) c.as_slice.ensures)
    (c.instance_line-instance.ensures ∙ ap (λ (rules : List InstanceMatchRule). earliest (filter_map (instance_line c.args.elements.now.list c.args.cell.now) rules)) c.as_slice-2.ensures)
    c.in-None.ensures
