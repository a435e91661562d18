use Rattle.std.proofs.Common.{◌≡◌, ◌+◌, ◌++◌, length, map}
use Rattle.verilog_expression.specs.Grammar.{seen}
use Rattle.verilog_models.specs.Covers.{all_covers, all_own, all_signals}
use Rattle.verilog_models.proofs.values.add_values.Given as goal

-- what is made so far, with what is left
abbrev pub invariant-values : goal.invariant-values
invariant-values l =
    (l.made.covers ++ all_covers l.line l.made.count (map seen l.left) ≡ l.fn.made.covers ++ all_covers l.line l.fn.made.count (map seen l.fn.values))
    × (l.made.count + all_own (map seen l.left) ≡ l.fn.made.count + all_own (map seen l.fn.values))
    × (l.signals ++ all_signals l.made.count (map seen l.left) ≡ all_signals l.fn.made.count (map seen l.fn.values))

abbrev pub decreases-values : goal.decreases-values
decreases-values l = length l.left
