use Rattle.std.proofs.Common.{◌≡◌, drop}
use Rattle.std.specs.Prelude.{filter_map}
use Rattle.vrt_model.specs.declared.rules.InstanceMatchRule.{InstanceMatchRule}
use Rattle.hierarchy.specs.Names.{earlier, earliest, missing_by, missing_in}
use Rattle.hierarchy.specs.declared.sets.Kind.{Kind}
use Rattle.hierarchy.proofs.lines.instance_match_names.Given as goal

-- the first so far, with that of the rest
abbrev pub invariant-loop-rule : goal.invariant-loop-rule
invariant-loop-rule l =
    earlier (missing_in l.first) (earliest (filter_map (λ (r : InstanceMatchRule). missing_by l.tables Kind.Instances r.line r.cell r.instance) (drop l.rule-index l.rules)))
    ≡ earliest (filter_map (λ (r : InstanceMatchRule). missing_by l.tables Kind.Instances r.line r.cell r.instance) l.rules)
