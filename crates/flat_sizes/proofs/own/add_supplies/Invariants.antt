use Rattle.std.proofs.Common.{◌≡◌, drop, map}
use Rattle.names.specs.Names.{with_names}
use Rattle.vrt_model.specs.declared.rules.SupplyRule.{SupplyRule}
use Rattle.flat_sizes.proofs.own.add_supplies.Given as goal

-- the names so far, with those of the rest
abbrev pub invariant-loop-rule : goal.invariant-loop-rule
invariant-loop-rule l = with_names l.names (map (λ (r : SupplyRule). r.net) (drop l.rule-index l.rules)) ≡ with_names l.fn.names (map (λ (r : SupplyRule). r.net) l.rules)
