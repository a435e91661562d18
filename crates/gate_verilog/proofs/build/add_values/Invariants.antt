use Rattle.std.proofs.Common.{length, map}
use Rattle.gate_verilog.specs.Built.{AddsEntries}
use Rattle.rule_index.specs.Firsts.{IsEven}
use Rattle.verilog_expression.specs.Grammar.{seen}
use Rattle.verilog_models.specs.declared.draft.Draft.{Draft}
use Rattle.verilog_source.specs.Modules.Entry.{assigned}
use Rattle.gate_verilog.proofs.build.add_values.Given as goal

-- with the values that are left, all are added
abbrev pub invariant-values : goal.invariant-values
invariant-values l =
    ((new : Draft) → AddsEntries (map (λ e. assigned l.line l.net (seen e)) l.left) l.draft new → AddsEntries (map (λ e. assigned l.line l.net (seen e)) l.fn.values) l.fn.draft new)
    × IsEven l.draft.directions

abbrev pub decreases-values : goal.decreases-values
decreases-values l = length l.left
