use Rattle.std.proofs.Common.{◌≡◌, drop}
use Rattle.std.specs.Prelude.{filter_map}
use Rattle.vrt_model.specs.declared.rules.MatchRule.{MatchRule}
use Rattle.hierarchy.specs.Names.{earlier, earliest, missing_held, missing_in}
use Rattle.hierarchy.proofs.lines.match_names.Given as goal

-- the first so far, with that of the rest
abbrev pub invariant-loop-rule : goal.invariant-loop-rule
invariant-loop-rule l =
    earlier (missing_in l.first) (earliest (filter_map (λ (r : MatchRule). missing_held l.tables r.line r.cell r.net) (drop l.rule-index l.rules)))
    ≡ earliest (filter_map (λ (r : MatchRule). missing_held l.tables r.line r.cell r.net) l.rules)
