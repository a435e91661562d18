use Rattle.std.proofs.Common.{◌≡◌, ◌+◌, ◌++◌, length, map}
use Rattle.verilog_models.specs.Gates.{ties_covers, ties_of, ties_own}
use Rattle.verilog_source.specs.Positions.{seen_tie}
use Rattle.verilog_models.proofs.instances.add_ties.Given as goal

-- what is made so far, with what is left
abbrev pub invariant-ties : goal.invariant-ties
invariant-ties l =
    (l.made.covers ++ ties_covers l.line l.made.count (map seen_tie l.left) ≡ l.fn.made.covers ++ ties_covers l.line l.fn.made.count (map seen_tie l.fn.ties))
    × (l.made.count + ties_own (map seen_tie l.left) ≡ l.fn.made.count + ties_own (map seen_tie l.fn.ties))
    × (l.found ++ ties_of l.made.count (map seen_tie l.left) ≡ ties_of l.fn.made.count (map seen_tie l.fn.ties))

abbrev pub decreases-ties : goal.decreases-ties
decreases-ties l = length l.left
