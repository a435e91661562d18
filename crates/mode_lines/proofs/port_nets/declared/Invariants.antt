use Rattle.std.proofs.Common.{◌≡◌, drop}
use Rattle.std.specs.Prelude.{bytes_eq, find}
use Rattle.vrt_model.specs.declared.rules.SupplyRule.{SupplyRule}
use Rattle.mode_lines.proofs.port_nets.declared.Given as goal

-- none so far
abbrev pub invariant-loop-rule : goal.invariant-loop-rule
invariant-loop-rule l = find (λ (r : SupplyRule). bytes_eq r.net l.name) (drop l.rule-index l.rules) ≡ find (λ (r : SupplyRule). bytes_eq r.net l.name) l.rules
